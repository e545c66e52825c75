-- The stages of constructs, each by itself (OpenMP 5.2: parallel 10.1, masked 10.5, single 11.1, sections 11.3, worksharing-loop 11.5, task 12.5,
-- critical 15.2, barrier and taskwait 15.3 and 15.5).
use Rattle.std.specs.Prelude.{ℕ, ◌+◌, nat_lt, if◌then◌else◌, [], ◌∷◌, length, take, drop, Option, Some, None, Result, Ok, ℤ, pos, ◌+ℤ◌, ◌*ℤ◌, int_le}
use Rattle.c_syntax.specs.declared.node.ReductionOp.{ReductionOp}
use Rattle.c_syntax.specs.declared.node.ReductionOp.TheVariants as reduction
use Rattle.c_syntax.specs.language.Tree.{Tree, name_of}
use Rattle.c_model.specs.declared.limits.TheConstants.{CELLS}
use Rattle.c_model.specs.declared.point.MutexKind.{MutexKind}
use Rattle.c_model.specs.declared.point.MutexKind.TheVariants as mutex
use Rattle.c_model.specs.declared.point.Point.TheVariants.{MaskedBegin, MaskedEnd, MutexAcquire, MutexAcquired, MutexReleased, ParallelBegin, ParallelEnd, Sync as SyncPoint, TaskCreate, WorkBegin, WorkEnd}
use Rattle.c_model.specs.declared.point.SyncKind.{SyncKind}
use Rattle.c_model.specs.declared.point.SyncStage.{SyncStage}
use Rattle.c_model.specs.declared.point.Target.TheVariants as target
use Rattle.c_model.specs.declared.point.Work.TheVariants as work
use Rattle.c_model.specs.declared.point.WorkKind.{WorkKind}
use Rattle.c_model.specs.declared.question.Ask.TheVariants as ask
use Rattle.c_check.specs.Seen.{critical_number}
use Rattle.c_model.specs.Program.{place_of}
use Rattle.c_model.specs.Cells.{cell_at, entry_of, first_named, has_too_many}
use Rattle.c_model.specs.Value.{in_range, is_zero}
use Rattle.c_model.specs.Clauses.{condition_of, requested_threads, schedule_of, sections_of}
use Rattle.c_model.specs.Loops.{iteration_count, iteration_value, loop_of}
use Rattle.c_model.specs.Copies.{with_own_cells, with_task_cells}
use Rattle.c_model.specs.Task.{StepStart, Item, Outcome, SharedLoop}
use Rattle.c_model.specs.Task.Item.{Iterations, NextChunk, Start}
use Rattle.c_model.specs.Task.Outcome.{Asks, Limits, Occurs}
use Rattle.c_model.specs.StepOutcomes.{binds, bound_of, sets, value_here, with_result}

-- an expression of a clause; without the clause it is this number
abbrev pub value_or : ℤ → StepStart → Option Tree → Result ℤ ℕ
value_or other here None = Ok other
value_or other here (Some expression) = value_here here expression

-- a region is forked. Without `num_threads` as many threads are asked for as a run may have
abbrev pub begin_parallel : StepStart → Tree → Outcome
begin_parallel here construct =
    with_result (value_or (pos here.view.max) here (requested_threads construct)) (λ number.
    Occurs (ParallelBegin (place_of construct) number) construct)

abbrev pub end_parallel : Tree → Outcome
end_parallel construct = Occurs (ParallelEnd (place_of construct)) construct

-- a loop that is shared out begins with its start and its end
abbrev pub loop_work : Tree → ℤ → ℤ → Outcome
loop_work construct start end =
    Occurs (WorkBegin (place_of construct) (work.Loop start (iteration_count construct start end) (loop_of construct).step (schedule_of construct))) construct

abbrev pub begin_loop : StepStart → Tree → Outcome
begin_loop here construct =
    with_result (value_here here (loop_of construct).start) (λ start.
    with_result (value_here here (loop_of construct).end) (λ end. loop_work construct start end))

abbrev pub begin_sections : Tree → Outcome
begin_sections construct = Occurs (WorkBegin (place_of construct) (work.Sections (length (sections_of construct)))) construct

abbrev pub begin_single : Tree → Outcome
begin_single construct = Occurs (WorkBegin (place_of construct) work.Single) construct

abbrev pub begin_masked : Tree → Outcome
begin_masked construct = Occurs (MaskedBegin (place_of construct)) construct

abbrev pub end_masked : Tree → Outcome
end_masked construct = Occurs (MaskedEnd (place_of construct)) construct

abbrev pub begin_critical : StepStart → Tree → Outcome
begin_critical here construct =
    Occurs (MutexAcquire (place_of construct) (critical_number here.program construct) mutex.Critical target.Nowhere) construct

-- An explicit task is made, with the cells of its own. A task whose `if` clause gives 0 is undeferred.
abbrev pub creates : StepStart → Tree → ℤ → Outcome
creates here construct number =
    if has_too_many (with_task_cells here.program (bound_of here) construct).cells then Limits CELLS
    else Occurs (TaskCreate (place_of construct) (is_zero number)) construct

abbrev pub begin_task : StepStart → Tree → Outcome
begin_task here construct = with_result (value_or (pos 1) here (condition_of construct)) (λ number. creates here construct number)

-- the cells of a construct are made in one silent step
abbrev pub make_cells : StepStart → Tree → Outcome
make_cells here construct = binds here (with_own_cells here.program (bound_of here) construct) []

-- the next chunk is taken in a silent step
abbrev pub next_chunk : SharedLoop → Outcome
next_chunk loop = Asks ask.Chunk loop.construct

-- the iterations behind one number, up to another one; behind the last one the next chunk is asked for
abbrev pub iterations_from : SharedLoop → ℕ → ℕ → Item
iterations_from loop at upto = if nat_lt at upto then Iterations loop at upto else NextChunk loop

-- an iteration begins: the loop's variable is set in a silent step
abbrev pub begin_iteration : StepStart → SharedLoop → ℕ → ℕ → Outcome
begin_iteration here loop at upto =
    sets here (entry_of here.task.env (name_of (loop_of loop.construct).variable)).first (iteration_value loop.start loop.step at)
    (Start (loop_of loop.construct).body ∷ iterations_from loop (at + 1) upto ∷ [])

-- the next section is taken in a silent step
abbrev pub next_section : Tree → Outcome
next_section construct = Asks ask.Section construct

-- One reduction variable is combined with the one around (OpenMP 5.2, 5.5.5). Among the construct's own names the first of this name is the
-- copy: a loop that declares a variable of the same name has it behind the copies.
abbrev pub reduction_result : ReductionOp → ℤ → ℤ → Result ℤ ℕ
reduction_result reduction.Add around own = in_range (around +ℤ own)
reduction_result reduction.Multiply around own = in_range (around *ℤ own)
reduction_result reduction.Max around own = Ok (if int_le around own then own else around)
reduction_result reduction.Min around own = Ok (if int_le around own then around else own)

abbrev pub combine : StepStart → ReductionOp → ℕ → ℕ → Outcome
combine here operator name names =
    let around = (entry_of (take names here.task.env) name).first in
    let own = (first_named name (drop names here.task.env)).first in
    with_result (reduction_result operator (cell_at here.store.cells around) (cell_at here.store.cells own)) (λ number. sets here around number [])

abbrev pub end_work : Tree → WorkKind → ℕ → Outcome
end_work construct kind count = Occurs (WorkEnd (place_of construct) kind count) construct

-- an event of a barrier or taskwait
abbrev pub synchronises : Tree → SyncKind → SyncStage → Outcome
synchronises tree kind stage = Occurs (SyncPoint (place_of tree) kind stage) tree

-- a lock or critical comes to be owned, and is given back
abbrev pub acquires : Tree → MutexKind → ℕ → Outcome
acquires tree kind id = Occurs (MutexAcquired (place_of tree) id kind) tree

abbrev pub releases : Tree → ℕ → Outcome
releases tree id = Occurs (MutexReleased (place_of tree) id mutex.Critical) tree
