-- The loops that a `for` directive can share out: `for (i = a; i < b; i++)` and its kin.
use Rattle.std.specs.Prelude.{ℕ, ◌==◌, nat_le, ◌||◌, ◌&&◌, Bool, true, false, not, if◌then◌else◌, Option, Some, None, is_none, unwrap_or}
use Rattle.c_syntax.specs.declared.node.BinaryOp.TheVariants as binary
use Rattle.c_syntax.specs.declared.node.Bump.TheVariants as bump
use Rattle.c_syntax.specs.declared.node.Setting.TheVariants as setting
use Rattle.c_syntax.specs.declared.node.NodeKind.{NodeKind}
use Rattle.c_syntax.specs.declared.node.NodeKind.TheVariants as node
use Rattle.c_syntax.specs.language.Tree.{Tree, Children, child_of, kind_of, name_of, number_of, nothing}
use Rattle.c_syntax.specs.language.Tree.Tree.{Node}
use Rattle.c_syntax.specs.language.Tree.Children.{Over, Child, Absent}

-- the child at a place; a program without anything where there is none
abbrev pub child_at : Tree → ℕ → Tree
child_at tree place = unwrap_or (child_of tree place) nothing

abbrev pub is_place : NodeKind → Bool
is_place node.Place = true
is_place other = false

-- a place with this name, without an index
abbrev pub is_variable_named : ℕ → Tree → Bool
is_variable_named name tree = is_place (kind_of tree) && name_of tree == name && is_none (child_of tree 0)

-- the name stands in an expression
unfoldable mutual
  pub stands_in : ℕ → Tree → Bool
  stands_in name (Node kind spot other number text children) = is_place kind && other == name || stands_among name children

  pub stands_among : ℕ → Children → Bool
  stands_among name Over = false
  stands_among name (Absent rest) = false
  stands_among name (Child tree rest) = stands_in name tree || stands_among name rest

-- the variable of a loop is what its first part assigns or declares: a name without an index
abbrev pub name_if_variable : Tree → Option ℕ
name_if_variable place = if is_variable_named (name_of place) place then Some (name_of place) else None

abbrev pub assigned_by : NodeKind → Tree → Option ℕ
assigned_by node.Init variable = Some (name_of variable)
assigned_by (node.Assign setting) place = name_if_variable place
assigned_by (node.Bump which side) place = name_if_variable place
assigned_by other place = None

abbrev pub loop_name_by : NodeKind → Tree → Option ℕ
loop_name_by node.For first = assigned_by (kind_of first) (child_at first 0)
loop_name_by other first = None

-- the name of the variable of a statement that is a loop, whether or not the rest of the loop is of the form
abbrev pub loop_name : Tree → Option ℕ
loop_name statement = loop_name_by (kind_of statement) (child_at statement 0)

-- The form. Its first part is `i = a` or `int i = a`.
abbrev pub is_start : NodeKind → Bool
is_start node.Init = true
is_start (node.Assign setting.Plain) = true
is_start other = false

-- in the start of a variable that the loop declares, the name is another variable's
abbrev pub may_have_name : NodeKind → Bool
may_have_name node.Init = true
may_have_name other = false

-- which way a loop goes
abbrev pub goes_up : NodeKind → Bool
goes_up (node.Binary binary.Less) = true
goes_up (node.Binary binary.LessEqual) = true
goes_up other = false

abbrev pub goes_down : NodeKind → Bool
goes_down (node.Binary binary.Greater) = true
goes_down (node.Binary binary.GreaterEqual) = true
goes_down other = false

abbrev pub is_literal : NodeKind → Bool
is_literal node.Number = true
is_literal other = false

-- a number from 1 on
abbrev pub is_stride : Tree → Bool
is_stride tree = is_literal (kind_of tree) && nat_le 1 (number_of tree)

-- the third part of a loop adds to what it has as first child, or takes from it
abbrev pub adds : NodeKind → Tree → Bool
adds (node.Bump bump.Increment side) stride = true
adds (node.Assign setting.Add) stride = is_stride stride
adds other stride = false

abbrev pub takes : NodeKind → Tree → Bool
takes (node.Bump bump.Decrement side) stride = true
takes (node.Assign setting.Subtract) stride = is_stride stride
takes other stride = false

abbrev pub is_step_up : Tree → Bool
is_step_up third = adds (kind_of third) (child_at third 1)

abbrev pub is_step_down : Tree → Bool
is_step_down third = takes (kind_of third) (child_at third 1)

-- the second part is `i`, a sign and an end, and the third part moves `i` towards it
abbrev pub continues : ℕ → Tree → Tree → Bool
continues name second third =
    is_variable_named name (child_at second 0) && is_variable_named name (child_at third 0)
    && (goes_up (kind_of second) && is_step_up third || goes_down (kind_of second) && is_step_down third)

abbrev pub has_head : ℕ → Tree → Bool
has_head name statement = is_start (kind_of (child_at statement 0)) && continues name (child_at statement 1) (child_at statement 2)

-- `i` doesn't stand in the start or in the end
abbrev pub is_apart : ℕ → Tree → Bool
is_apart name statement =
    (may_have_name (kind_of (child_at statement 0)) || not (stands_in name (child_at (child_at statement 0) 1)))
    && not (stands_in name (child_at (child_at statement 1) 1))

abbrev pub has_form_with : Option ℕ → Tree → Bool
has_form_with None statement = false
has_form_with (Some name) statement = has_head name statement && is_apart name statement

-- a statement is a loop of the form
abbrev pub has_form : Tree → Bool
has_form statement = has_form_with (loop_name statement) statement
