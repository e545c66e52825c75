-- What comes of a step at a node, by the definition of its form.
use Rattle.std.specs.Prelude.{Bool, true, false, List, Result, ℤ}
use Rattle.c_syntax.specs.declared.node.NodeKind.{NodeKind}
use Rattle.c_syntax.specs.declared.node.NodeKind.TheVariants as kind
use Rattle.c_syntax.specs.language.Tree.{Tree, name_of}
use Rattle.c_check.specs.Seen.{slot_of_name}
use Rattle.c_model.specs.declared.view.View.{View}
use Rattle.c_model.specs.Cells.{Bound, with_cells}
use Rattle.c_model.specs.StepOutcomes.{bound_of}
use Rattle.c_model.specs.Task.{Item, Outcome, StepStart, Store}
use Rattle.c_steps.specs.declared.next.Next.{Next}
use Rattle.c_steps.specs.declared.next.Refusal.{Refusal}
use Rattle.c_steps.specs.declared.node.Node.{Node}
use Rattle.c_steps.specs.ControlView.{ControlView, env_at, here_at}
use Rattle.c_steps.specs.NodeTrees.{tree_of}
use Rattle.c_steps.specs.Passing.{IsPassed}
use Rattle.c_steps.specs.Steps.{Advances, Makes, Tells}

-- control and cells advance to what the form comes to
abbrev pub AdvancesBy : (StepStart → Tree → Outcome) → Node → View → Next → ControlView → Store → ControlView → Store → Type 0
AdvancesBy form node view result old before new after =
    Advances node.code.now result old before new after (form (here_at node.code.now view old before) (tree_of node))

-- an answer says what the form comes to, and nothing was done
abbrev pub TellsBy : (StepStart → Tree → Outcome) → Node → View → Next → ControlView → Store → Type 0
TellsBy form node view result held store = Tells node.code.now result (form (here_at node.code.now view held store) (tree_of node))

abbrev pub TellsOf : (Tree → Outcome) → Node → Next → Type 0
TellsOf form node result = Tells node.code.now result (form (tree_of node))

-- a step of C's own statements is made that comes to what the form does, or refused by it
abbrev pub MakesBy : (StepStart → Tree → Outcome) → Node → View → Result (Unit {0}) Refusal → ControlView → Store → ControlView → Store → Type 0
MakesBy form node view result old before new after =
    Makes node.code.now result old before new after (form (here_at node.code.now view old before) (tree_of node))

-- a statement of C's own, and no call of a lock routine, directive or construct
abbrev pub is_own : NodeKind → Bool
is_own (kind.LockCall which) = false
is_own (kind.Standalone which) = false
is_own (kind.Construct which) = false
is_own other = true

-- the names and cells with a declarator's, whose cells hold these numbers
abbrev pub named_cells : StepStart → Tree → List ℤ → Bound
named_cells here tree numbers = with_cells (bound_of here) (name_of tree) (slot_of_name here.program tree) numbers

-- an event was passed: these items of its construct stand in its place, and the names in scope are as they were
abbrev pub IsPassedBy : (Tree → List Item) → Node → ControlView → ControlView → Type 0
IsPassedBy items node old new = IsPassed node.code.now old new (items (tree_of node)) (env_at node.code.now old)
