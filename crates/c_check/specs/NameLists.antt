-- The names of a list.
use Rattle.std.specs.Prelude.{ℕ, ◌+◌, List, [], ◌∷◌}
use Rattle.c_syntax.specs.language.Tree.{Tree, Children, name_of, spot_of}
use Rattle.c_syntax.specs.language.Tree.Children.{Over, Child, Absent}
use Rattle.c_check.specs.declared.acts.act.Act.{Act}
use Rattle.c_check.specs.declared.acts.act.Act.TheVariants.{Declare, Use, List as Listing}
use Rattle.c_check.specs.declared.acts.act.Thing.TheVariants as thing
use Rattle.c_check.specs.declared.acts.act.Usage.TheVariants as usage
use Rattle.c_check.specs.declared.acts.role.Naming.{Naming}
use Rattle.c_check.specs.declared.acts.role.Naming.TheVariants as naming

-- how many children there are, up to the first absent one
unfoldable pub child_count : Children → ℕ
child_count Over = 0
child_count (Absent rest) = 0
child_count (Child tree rest) = child_count rest + 1

-- what a name in a list does
abbrev pub named : Naming → Tree → Act
named naming.Parameters tree = Declare (name_of tree) (spot_of tree) thing.Int
named naming.Locks tree = Declare (name_of tree) (spot_of tree) thing.Lock
named naming.Locked tree = Use (name_of tree) (spot_of tree) usage.Locked
named (naming.Mentioned which) tree = Use (name_of tree) (spot_of tree) (usage.Listed which)
named (naming.Listed which) tree = Listing (name_of tree) (spot_of tree) which

unfoldable pub names : Naming → Children → List Act
names why Over = []
names why (Absent rest) = []
names why (Child tree rest) = named why tree ∷ names why rest
