-- Programs written out as trees, and what is seen of their serial runs.
use Rattle.std.specs.Prelude.{ℕ, ◌≡◌, List, [], ◌∷◌, length, map, Option, Some, None}
use Rattle.omp_codes.specs.declared.callbacks.TheConstants.{PROFILE_MASK}
use Rattle.c_syntax.specs.declared.node.NodeKind.{NodeKind}
use Rattle.c_syntax.specs.language.Tree.{Tree, Children}
use Rattle.c_syntax.specs.language.Tree.Tree.{Node}
use Rattle.c_syntax.specs.language.Tree.Children.{Over, Child, Absent}
use Rattle.c_syntax.specs.language.Numbered.{TreeView}
use Rattle.ompt_calls.specs.declared.call.Call.{Call}
use Rattle.ompt_calls.specs.declared.call.Frame.{Frame}
use Rattle.ompt_calls.specs.declared.call.Word.{Word}
use Rattle.ompt_calls.specs.Item.{Item}
use Rattle.omp_model.specs.declared.cause.Cause.{Cause}
use Rattle.omp_model.specs.declared.history.Entry.{Entry}
use Rattle.omp_model.specs.State.{Run}
use Rattle.omp_model.specs.Cause.{cause_of}
use Rattle.omp_model.specs.Heard.{heard}
use Rattle.omp_model.specs.Serial.{serial}

-- each is a child, or an absent one
unfoldable pub children : List (Option Tree) → Children
children [] = Over
children (Some tree ∷ trees) = Child tree (children trees)
children (None ∷ trees) = Absent (children trees)

-- a node at a line and a column, with the number of its name, its number and its children
abbrev pub at : ℕ → ℕ → NodeKind → ℕ → ℕ → List (Option Tree) → Tree
at line column kind name number trees = Node kind (record { line = line; column = column }) name number [] (children trees)

abbrev pub written_at : ℕ → ℕ → NodeKind → List ℕ → List (Option Tree) → Tree
written_at line column kind text trees = Node kind (record { line = line; column = column }) 0 0 text (children trees)

abbrev pub program_of : ℕ → Tree → TreeView
program_of main tree = record { trees = tree ∷ []; root = 0; end = record { line = 0; column = 0 }; main = main }

-- its run with all callbacks, so many threads and a million silent steps
abbrev pub run_of : ℕ → ℕ → Tree → Run
run_of threads main tree = record { program = program_of main tree; mask = PROFILE_MASK; threads = threads; steps = 1000000 }

-- what a line of a run tells: the position, the thread and the call
pub record Line : Type 0 where
  pub seq : ℕ
  pub thread : ℕ
  pub call : Call

abbrev pub line : ℕ → ℕ → Call → Line
line seq thread call = record { seq = seq; thread = thread; call = call }

abbrev pub lines : Run → List Entry → List Line
lines run history = map (λ (item : Item). line item.seq item.thread item.call) (heard run history)

-- the serial run tells these lines, and ends in this cause after so many entries
pub record Runs (run : Run) (cause : Cause) (entries : ℕ) (expected : List Line) : Type 0 where
  pub told : lines run (serial run) ≡ expected
  pub ends : cause_of run (serial run) ≡ Some cause
  pub long : length (serial run) ≡ entries

abbrev pub word : ℕ → Word
word identity = record { identity = identity; value = 0 }

abbrev pub frame : ℕ → ℕ → Frame
frame exit enter = record { exit = exit; enter = enter }
