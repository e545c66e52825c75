-- Watching a task's code: how many silent steps stand between its events, what the events are, with which number it ends, and what is printed.
-- Beside it, trees written out as values.
use Rattle.std.specs.Prelude.{ℕ, zero, suc, ◌+◌, ◌==◌, true, List, [], ◌∷◌, ℤ}
use Rattle.c_syntax.specs.declared.node.BinaryOp.{BinaryOp}
use Rattle.c_syntax.specs.declared.node.Returns.TheVariants as returns
use Rattle.c_syntax.specs.declared.node.Parameters.TheVariants as params
use Rattle.c_syntax.specs.declared.node.NodeKind.{NodeKind}
use Rattle.c_syntax.specs.declared.node.NodeKind.TheVariants as node
use Rattle.c_syntax.specs.language.Tree.{Tree, Children}
use Rattle.c_syntax.specs.language.Tree.Tree.{Node}
use Rattle.c_syntax.specs.language.Tree.Children.{Over, Child}
use Rattle.c_syntax.specs.language.Numbered.{TreeView}
use Rattle.c_model.specs.declared.point.Point.{Point}
use Rattle.c_model.specs.declared.question.Answer.{Answer}
use Rattle.c_model.specs.declared.question.Answer.TheVariants as answer
use Rattle.c_model.specs.declared.view.View.{View}
use Rattle.c_model.specs.Task.{Moment, Outcome}
use Rattle.c_model.specs.Task.Outcome.{StepsTo, Asks, Occurs, Ends, Traps, Limits}
use Rattle.c_model.specs.Step.{silent}
use Rattle.c_model.specs.AfterEvents.{after_answer, after_event}
use Rattle.c_model.specs.Begin.{first_store, main_task, member_task}

-- What a task's code does: so many silent steps, then an event; and at last how it ends, with what was printed.
pub data Deed : Type 0 where
  After : ℕ → Point → Deed
  End : ℕ → ℤ → List ℕ → Deed
  Trap : ℕ → ℕ → Deed
  Limit : ℕ → ℕ → Deed
  -- it asks more than there are answers, or goes on longer than it is watched
  More : Deed

-- a free lock ends no step
abbrev pub steps_with : Answer → ℕ → ℕ
steps_with (answer.Free true) steps = steps
steps_with other steps = steps + 1

-- What is seen of one step, where `next` watches what comes behind it. The first thread of a team executes each `single`.
abbrev pub told : View → (List Answer → ℕ → Moment → List Deed) → List Answer → ℕ → Moment → List Deed
told view next [] steps now = More ∷ []
told view next (given ∷ answers) steps now = next answers (steps_with given steps) (after_answer view given now)

abbrev pub seen : View → (List Answer → ℕ → Moment → List Deed) → List Answer → ℕ → Moment → Outcome → List Deed
seen view next answers steps now (StepsTo after) = next answers (steps + 1) after
seen view next answers steps now (Asks ask tree) = told view next answers steps now
seen view next answers steps now (Occurs point tree) =
    After steps point ∷ next answers 0 (record now { task = after_event view point (view.index == 0) now.task })
seen view next answers steps now (Ends number) = End steps number now.store.text ∷ []
seen view next answers steps now (Traps trap) = Trap steps trap ∷ []
seen view next answers steps now (Limits limit) = Limit steps limit ∷ []

unfoldable pub watched : ℕ → TreeView → View → List Answer → ℕ → Moment → List Deed
watched zero program view answers steps now = More ∷ []
watched (suc more) program view answers steps now =
    seen view (λ (answers : List Answer) (steps : ℕ) (now : Moment). watched more program view answers steps now)
    answers steps now (silent program view now)

-- one thread, alone in its team
abbrev pub alone : View
alone = record { index = 0; team = 1; max = 1 }

abbrev pub at_start : TreeView → Moment
at_start program = record { task = main_task program; store = first_store program }

-- Where a task stands behind so many steps, answers and events.
abbrev pub told_then : View → (List Answer → Moment → Moment) → List Answer → Moment → Moment
told_then view next [] now = now
told_then view next (given ∷ answers) now = next answers (after_answer view given now)

abbrev pub behind : View → (List Answer → Moment → Moment) → List Answer → Moment → Outcome → Moment
behind view next answers now (StepsTo after) = next answers after
behind view next answers now (Asks ask tree) = told_then view next answers now
behind view next answers now (Occurs point tree) = next answers (record now { task = after_event view point (view.index == 0) now.task })
behind view next answers now other = now

unfoldable pub reached : ℕ → TreeView → View → List Answer → Moment → Moment
reached zero program view answers now = now
reached (suc more) program view answers now =
    behind view (λ (answers : List Answer) (now : Moment). reached more program view answers now) answers now (silent program view now)

-- the member of the region that a task has forked
abbrev pub member_of : Moment → Moment
member_of now = record now { task = member_task now.task }

-- Trees. A place is given where an event tells it.
unfoldable pub children : List Tree → Children
children [] = Over
children (tree ∷ trees) = Child tree (children trees)

abbrev pub tree : NodeKind → ℕ → ℕ → List Tree → Tree
tree kind name number trees = Node kind (record { line = 0; column = 0 }) name number [] (children trees)

abbrev pub plain : NodeKind → List Tree → Tree
plain kind trees = tree kind 0 0 trees

abbrev pub named : NodeKind → ℕ → Tree
named kind name = tree kind name 0 []

abbrev pub variable : ℕ → Tree
variable name = named node.Place name

abbrev pub literal : ℕ → Tree
literal number = tree node.Number 0 number []

abbrev pub binary_of : BinaryOp → Tree → Tree → Tree
binary_of operator left right = plain (node.Binary operator) (left ∷ right ∷ [])

abbrev pub function : ℕ → List Tree → List Tree → Tree
function name parameters items =
    plain (node.Function returns.Int) (named node.Name name ∷ plain (node.Params params.Listed) parameters ∷ plain node.Block items ∷ [])

abbrev pub program_of : ℕ → List Tree → TreeView
program_of main functions = record { trees = plain node.Program functions ∷ []; root = 0; end = record { line = 0; column = 0 }; main = main }
