-- The statement of a construct, and what stands around it.
use Rattle.std.specs.Prelude.{ℕ, if◌then◌else◌, Bool, true, false, not, ◌&&◌, List, [], ◌∷◌, Option, Some, None}
use Rattle.c_syntax.specs.declared.node.Directive.{Directive}
use Rattle.c_syntax.specs.declared.node.Directive.TheVariants as directive
use Rattle.c_syntax.specs.declared.node.NodeKind.{NodeKind}
use Rattle.c_syntax.specs.declared.node.NodeKind.TheVariants as node
use Rattle.c_syntax.specs.language.Tree.{Tree, Children, kind_of, nothing}
use Rattle.c_syntax.specs.language.Tree.Tree.{Node}
use Rattle.c_syntax.specs.language.Tree.Children.{Over, Child, Absent}
use Rattle.c_check.specs.declared.acts.act.Act.{Act}
use Rattle.c_check.specs.declared.acts.act.Act.TheVariants.{OddLoop, Loop}
use Rattle.c_check.specs.declared.acts.role.Role.{Role}
use Rattle.c_check.specs.declared.acts.role.Role.TheVariants as role
use Rattle.c_check.specs.Loops.{has_form, loop_name}

-- the number of the name of a critical, or 0
abbrev pub name_of_critical : Children → ℕ
name_of_critical (Child (Node node.Name spot name number text children) rest) = name
name_of_critical other = 0

-- the statement of a construct, which stands behind its clauses and the name of a critical
abbrev pub is_head : NodeKind → Bool
is_head (node.Clause lead) = true
is_head node.Name = true
is_head other = false

unfoldable pub statement_of : Children → Tree
statement_of Over = nothing
statement_of (Absent rest) = nothing
statement_of (Child tree rest) = if is_head (kind_of tree) then statement_of rest else tree

-- the statement of a `for` directive is a loop with a variable
abbrev pub role_with : Option ℕ → Role
role_with None = role.Plain
role_with (Some name) = role.Looped name

abbrev pub shares_loop : Directive → Bool
shares_loop directive.For = true
shares_loop directive.ParallelFor = true
shares_loop other = false

abbrev pub statement_role : Directive → Children → Role
statement_role which children = if shares_loop which then role_with (loop_name (statement_of children)) else role.Plain

-- the statement isn't a loop of the form, and should be
abbrev pub odd_loop : Directive → Children → List Act
odd_loop which children = if shares_loop which && not (has_form (statement_of children)) then OddLoop ∷ [] else []

-- the body of a loop that a directive shares out
abbrev pub looped : Role → List Act
looped (role.Looped name) = Loop name ∷ []
looped other = []
