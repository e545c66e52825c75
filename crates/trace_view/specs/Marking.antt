-- The mark that the code has as its kind. This serves the contracts of private functions and the proofs.
use Rattle.std.specs.Prelude.{ℕ, List, [], ◌∷◌, ◌++◌, Option, Some, None, codes}
use Rattle.std.specs.Fmt.{decimal}
use Rattle.ompt_calls.specs.declared.event.EventRecord.{EventRecord}
use Rattle.trace_view.specs.declared.label.Behind.{Behind}
use Rattle.trace_view.specs.declared.label.Behind.TheVariants.{Nothing, Number, Name}
use Rattle.trace_view.specs.declared.label.Label.{Label}
use Rattle.trace_view.specs.declared.mark.Happening.{Happening}
use Rattle.trace_view.specs.declared.mark.Happening.TheVariants.{ThreadEnd, TaskCreate, LockInit, LockDestroy, TestLock, Dispatch}
use Rattle.trace_view.specs.declared.mark.MarkKind.{MarkKind}
use Rattle.trace_view.specs.declared.mark.MarkKind.TheVariants.{Begins, Ends, Happens, FlowsFrom, FlowsTo, BeginsHold, EndsHold, BeginsWait, EndsWait, NamesThread}
use Rattle.trace_view.specs.declared.mark.MutexName.{MutexName}
use Rattle.trace_view.specs.Chrome.{Mark, begins, ends, flows_from, flows_to, happens, holds, mark_text, mutex_name, names_thread, slice_name, waits}
use Rattle.trace_view.specs.Names.{dispatch_kind_text}
use Rattle.trace_view.specs.Naming.{number_text}

-- a word, and the number behind it
abbrev pub behind_text : List ℕ → Behind → List ℕ
behind_text word Nothing = word
behind_text word (Number number) = word ++ decimal number
behind_text word (Name name) = word ++ number_text name.of name.number

abbrev pub label_text : Label → List ℕ
label_text label = behind_text label.word.now label.behind

abbrev pub happening_text : Happening → List ℕ
happening_text ThreadEnd = codes "thread_end"
happening_text (TaskCreate task) = codes "task_create " ++ decimal task
happening_text (LockInit wait_id) = codes "lock_init " ++ decimal wait_id
happening_text (LockDestroy wait_id) = codes "lock_destroy " ++ decimal wait_id
happening_text (TestLock wait_id) = codes "test_lock " ++ decimal wait_id
happening_text (Dispatch kind) = dispatch_kind_text kind

abbrev pub mutex_text : MutexName → List ℕ
mutex_text mutex = mutex_name mutex.kind mutex.wait_id

-- the mark of an event of thread t
abbrev pub mark_of : ℕ → MarkKind → Mark
mark_of t (Begins bracket) = begins (slice_name bracket)
mark_of t (Ends bracket) = ends (slice_name bracket)
mark_of t (Happens happening) = happens (happening_text happening)
mark_of t (FlowsFrom task) = flows_from task
mark_of t (FlowsTo task) = flows_to task
mark_of t (BeginsHold mutex) = holds (codes "b") mutex.wait_id (mutex_text mutex)
mark_of t (EndsHold mutex) = holds (codes "e") mutex.wait_id (mutex_text mutex)
mark_of t (BeginsWait mutex) = waits (codes "b") t (mutex_text mutex)
mark_of t (EndsWait mutex) = waits (codes "e") t (mutex_text mutex)
mark_of t NamesThread = names_thread t

-- one mark, or none
abbrev pub marks_of : ℕ → Option MarkKind → List Mark
marks_of t None = []
marks_of t (Some kind) = mark_of t kind ∷ []

abbrev pub maybe_text : EventRecord → Option MarkKind → List ℕ
maybe_text event None = []
maybe_text event (Some kind) = mark_text event (mark_of event.thread kind)
