-- The smallest program, and what its run comes to.
use Rattle.std.specs.Prelude.{ℕ, List, [], ◌∷◌}
use Rattle.omp_codes.specs.declared.callbacks.TheConstants.{PROFILE_MASK}
use Rattle.omp_codes.specs.declared.endpoints.TheConstants as scope
use Rattle.omp_codes.specs.declared.states.TheConstants as thread_state
use Rattle.omp_codes.specs.declared.task_flags.TheConstants as task_flag
use Rattle.omp_codes.specs.declared.thread_kinds.TheConstants as thread_kind
use Rattle.c_syntax.specs.declared.node.NodeKind.{NodeKind}
use Rattle.c_syntax.specs.declared.node.NodeKind.TheVariants as node
use Rattle.c_syntax.specs.declared.node.Parameters.TheVariants as parameters
use Rattle.c_syntax.specs.declared.node.Returns.TheVariants as returns
use Rattle.c_syntax.specs.language.Tree.{Tree, Children}
use Rattle.c_syntax.specs.language.Tree.Tree.{Node}
use Rattle.c_syntax.specs.language.Tree.Children.{Over, Child}
use Rattle.c_syntax.specs.language.Numbered.{TreeView}
use Rattle.ompt_calls.specs.declared.call.Call.TheVariants.{ThreadBegin, ThreadEnd, ImplicitTask}
use Rattle.omp_model.specs.declared.history.Entry.{Entry}
use Rattle.ompt_calls.specs.declared.event.EventRecord.{EventRecord}
use Rattle.omp_model.specs.declared.history.What.TheVariants.{Go, Back}
use Rattle.omp_model.specs.State.{Run}
use Rattle.omp_model.specs.Words.{fresh_word}

-- a node in the only line, with the number of its name and its children
abbrev in_column : ℕ → NodeKind → ℕ → Children → Tree
in_column column kind name children = Node kind (record { line = 1; column = column }) name 0 [] children

-- int main(void) { return 0; }
abbrev main_block : Tree
main_block = in_column 16 node.Block 0 (Child (in_column 18 node.Return 0 (Child (in_column 25 node.Number 0 Over) Over)) Over)

abbrev main_function : Tree
main_function =
    in_column 1 (node.Function returns.Int) 0
    (Child (in_column 5 node.Name 1 Over) (Child (in_column 9 (node.Params parameters.Void) 0 Over) (Child main_block Over)))

abbrev pub empty_program : TreeView
empty_program =
    record {
      trees = in_column 1 node.Program 0 (Child main_function Over) ∷ [];
      root = 0;
      end = record { line = 2; column = 1 };
      main = 1;
    }

-- its run with the callbacks of the profile, so many threads and a million silent steps
abbrev pub empty_run : ℕ → Run
empty_run threads = record { program = empty_program; mask = PROFILE_MASK; threads = threads; steps = 1000000 }

abbrev go_zero : Entry
go_zero = record { thread = 0; what = Go }

abbrev back_zero : Entry
back_zero = record { thread = 0; what = Back }

-- the eight entries of that run: its four events are on thread 0, each with its callback
abbrev pub empty_history : List Entry
empty_history = go_zero ∷ back_zero ∷ go_zero ∷ back_zero ∷ go_zero ∷ back_zero ∷ go_zero ∷ back_zero ∷ []

-- its four records
abbrev pub empty_records : List EventRecord
empty_records =
    record { seq = 0; thread = 0; state = thread_state.OVERHEAD; wait_id = 0; call = ThreadBegin thread_kind.INITIAL (fresh_word 1) }
    ∷ record {
      seq = 2;
      thread = 0;
      state = thread_state.WORK_SERIAL;
      wait_id = 0;
      call = ImplicitTask scope.BEGIN (fresh_word 1) (fresh_word 1) 1 1 task_flag.INITIAL;
    }
    ∷ record {
      seq = 4;
      thread = 0;
      state = thread_state.OVERHEAD;
      wait_id = 0;
      call = ImplicitTask scope.END (fresh_word 0) (fresh_word 1) 0 1 task_flag.INITIAL;
    }
    ∷ record { seq = 6; thread = 0; state = thread_state.OVERHEAD; wait_id = 0; call = ThreadEnd (fresh_word 1) } ∷ []
