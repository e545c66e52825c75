-- The names that OMPT's header gives to numbers (OpenMP 5.2, 19.4.4), as far as a trace has them. A number without a name here is
-- written as itself.
use Rattle.std.specs.Prelude.{ℕ, ◌==◌, List, codes, if◌then◌else◌}
use Rattle.std.specs.Fmt.{decimal}
use Rattle.omp_codes.specs.declared.dispatch_kinds.TheConstants as dispatch_kind
use Rattle.omp_codes.specs.declared.endpoints.TheConstants as scope
use Rattle.omp_codes.specs.declared.mutex_kinds.TheConstants as mutex_kind
use Rattle.omp_codes.specs.declared.parallel_flags.TheConstants as parallel_flag
use Rattle.omp_codes.specs.declared.states.TheConstants.{WORK_SERIAL, WORK_PARALLEL, WAIT_BARRIER_IMPLICIT_PARALLEL, WAIT_BARRIER_IMPLICIT_WORKSHARE, WAIT_BARRIER_EXPLICIT, WAIT_TASKWAIT, WAIT_LOCK, WAIT_CRITICAL, IDLE, OVERHEAD}
use Rattle.omp_codes.specs.declared.sync_kinds.TheConstants as sync_kind
use Rattle.omp_codes.specs.declared.task_flags.TheConstants as task_flag
use Rattle.omp_codes.specs.declared.task_statuses.TheConstants as task_status
use Rattle.omp_codes.specs.declared.thread_kinds.TheConstants as thread_kind
use Rattle.omp_codes.specs.declared.work_kinds.TheConstants as work_kind

-- ompt_thread_t
abbrev pub thread_kind_text : ℕ → List ℕ
thread_kind_text n =
    if n == thread_kind.INITIAL then codes "ompt_thread_initial"
    else if n == thread_kind.WORKER then codes "ompt_thread_worker" else decimal n

-- ompt_scope_endpoint_t
abbrev pub endpoint_text : ℕ → List ℕ
endpoint_text n = if n == scope.BEGIN then codes "ompt_scope_begin" else if n == scope.END then codes "ompt_scope_end" else decimal n

-- ompt_sync_region_t
abbrev pub sync_kind_text : ℕ → List ℕ
sync_kind_text n =
    if n == sync_kind.BARRIER_EXPLICIT then codes "ompt_sync_region_barrier_explicit"
    else if n == sync_kind.TASKWAIT then codes "ompt_sync_region_taskwait"
    else if n == sync_kind.BARRIER_IMPLICIT_WORKSHARE then codes "ompt_sync_region_barrier_implicit_workshare"
    else if n == sync_kind.BARRIER_IMPLICIT_PARALLEL then codes "ompt_sync_region_barrier_implicit_parallel" else decimal n

-- ompt_mutex_t
abbrev pub mutex_kind_text : ℕ → List ℕ
mutex_kind_text n =
    if n == mutex_kind.LOCK then codes "ompt_mutex_lock" else if n == mutex_kind.TEST_LOCK then codes "ompt_mutex_test_lock"
    else if n == mutex_kind.CRITICAL then codes "ompt_mutex_critical" else decimal n

-- ompt_work_t
abbrev pub work_kind_text : ℕ → List ℕ
work_kind_text n =
    if n == work_kind.LOOP then codes "ompt_work_loop" else if n == work_kind.SECTIONS then codes "ompt_work_sections"
    else if n == work_kind.SINGLE_EXECUTOR then codes "ompt_work_single_executor"
    else if n == work_kind.SINGLE_OTHER then codes "ompt_work_single_other" else decimal n

-- ompt_dispatch_t
abbrev pub dispatch_kind_text : ℕ → List ℕ
dispatch_kind_text n =
    if n == dispatch_kind.SECTION then codes "ompt_dispatch_section"
    else if n == dispatch_kind.WS_LOOP_CHUNK then codes "ompt_dispatch_ws_loop_chunk" else decimal n

-- ompt_task_status_t
abbrev pub task_status_text : ℕ → List ℕ
task_status_text n =
    if n == task_status.COMPLETE then codes "ompt_task_complete"
    else if n == task_status.SWITCH then codes "ompt_task_switch" else decimal n

-- ompt_task_flag_t, with a bar between two flags
abbrev pub task_flags_text : ℕ → List ℕ
task_flags_text n =
    if n == task_flag.INITIAL then codes "ompt_task_initial" else if n == task_flag.IMPLICIT then codes "ompt_task_implicit"
    else if n == task_flag.EXPLICIT then codes "ompt_task_explicit"
    else if n == task_flag.EXPLICIT_UNDEFERRED then codes "ompt_task_explicit|ompt_task_undeferred" else decimal n

-- ompt_parallel_flag_t, with a bar between two flags
abbrev pub region_flags_text : ℕ → List ℕ
region_flags_text n =
    if n == parallel_flag.TEAM_OF_PROGRAM then codes "ompt_parallel_invoker_program|ompt_parallel_team" else decimal n

-- ompt_state_t
abbrev pub state_text : ℕ → List ℕ
state_text n =
    if n == WORK_SERIAL then codes "ompt_state_work_serial" else if n == WORK_PARALLEL then codes "ompt_state_work_parallel"
    else if n == WAIT_BARRIER_IMPLICIT_PARALLEL then codes "ompt_state_wait_barrier_implicit_parallel"
    else if n == WAIT_BARRIER_IMPLICIT_WORKSHARE then codes "ompt_state_wait_barrier_implicit_workshare"
    else if n == WAIT_BARRIER_EXPLICIT then codes "ompt_state_wait_barrier_explicit"
    else if n == WAIT_TASKWAIT then codes "ompt_state_wait_taskwait"
    else if n == WAIT_LOCK then codes "ompt_state_wait_lock" else if n == WAIT_CRITICAL then codes "ompt_state_wait_critical"
    else if n == IDLE then codes "ompt_state_idle" else if n == OVERHEAD then codes "ompt_state_overhead" else decimal n

-- the status of a run, and what came to pass
abbrev pub ending_text : ℕ → List ℕ
ending_text n =
    if n == 0 then codes "done" else if n == 1 then codes "returned" else if n == 4 then codes "trapped"
    else if n == 5 then codes "deadlock" else if n == 6 then codes "limit" else decimal n
