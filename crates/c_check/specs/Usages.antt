-- How a place and a call are used, and whether something stands behind a `return`.
use Rattle.std.specs.Prelude.{ℕ, List, [], ◌∷◌}
use Rattle.c_syntax.specs.language.Tree.{Children}
use Rattle.c_syntax.specs.language.Tree.Children.{Child}
use Rattle.c_check.specs.declared.acts.act.Act.{Act}
use Rattle.c_check.specs.declared.acts.act.Act.TheVariants.{Assign}
use Rattle.c_check.specs.declared.acts.act.Usage.{Usage}
use Rattle.c_check.specs.declared.acts.act.Usage.TheVariants as usage
use Rattle.c_check.specs.declared.acts.act.Value.{Value}
use Rattle.c_check.specs.declared.acts.act.Value.TheVariants as value
use Rattle.c_check.specs.declared.acts.act.Returned.{Returned}
use Rattle.c_check.specs.declared.acts.act.Returned.TheVariants as returned
use Rattle.c_check.specs.declared.acts.role.Role.{Role}
use Rattle.c_check.specs.declared.acts.role.Role.TheVariants as role

-- what a place and a call are used as
abbrev pub place_usage : Children → Usage
place_usage (Child tree rest) = usage.Indexed
place_usage other = usage.Plain

abbrev pub call_value : Role → Value
call_value role.Used = value.Used
call_value other = value.Dropped

-- a place with an index assigns no variable
abbrev pub assigned : Role → Usage → ℕ → List Act
assigned role.Target usage.Plain name = Assign name ∷ []
assigned other used name = []

abbrev pub returned_of : Children → Returned
returned_of (Child tree rest) = returned.Something
returned_of other = returned.Nothing
