-- The states of a thread, in the order in which they are enumerated. The numbers are those of `ompt_state_t`
-- (OpenMP 5.2, 19.4.4).
use Rattle.std.specs.Prelude.{ℕ, ◌==◌, if◌then◌else◌, List, [], ◌∷◌, Option, Some, None}
use Rattle.omp_codes.specs.declared.states.TheConstants.{IDLE, OVERHEAD, UNDEFINED, WAIT_BARRIER_EXPLICIT, WAIT_BARRIER_IMPLICIT_PARALLEL, WAIT_BARRIER_IMPLICIT_WORKSHARE, WAIT_CRITICAL, WAIT_LOCK, WAIT_TASKWAIT, WORK_PARALLEL, WORK_SERIAL}

-- working outside and inside parallel regions; at a barrier of a region's end, of a worksharing construct, and an
-- explicit one; in a taskwait; at a lock, and at a critical; idle; in the runtime
abbrev pub states : List ℕ
states =
    WORK_SERIAL ∷ WORK_PARALLEL ∷ WAIT_BARRIER_IMPLICIT_PARALLEL ∷ WAIT_BARRIER_IMPLICIT_WORKSHARE ∷ WAIT_BARRIER_EXPLICIT ∷ WAIT_TASKWAIT
    ∷ WAIT_LOCK ∷ WAIT_CRITICAL ∷ IDLE ∷ OVERHEAD ∷ []

-- what follows a number in a list
abbrev pub following : ℕ → List ℕ → Option ℕ
following state [] = None
following state (last ∷ []) = None
following state (first ∷ second ∷ rest) = if state == first then Some second else following state (second ∷ rest)

-- an enumeration starts from the undefined state, which is none of them, and goes on in order
abbrev pub next_of : ℕ → Option ℕ
next_of state = following state (UNDEFINED ∷ states)
