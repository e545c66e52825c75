-- The calls that the members of a region make on its team in a run, by the entries of a history.
use Rattle.std.specs.Prelude.{ℕ, ◌+◌, ◌==◌, nat_le, if◌then◌else◌, zero, suc, List, [], ◌∷◌, ◌++◌, length, Option, Some, None}
use Rattle.c_model.specs.declared.point.Point.{Point}
use Rattle.c_model.specs.declared.point.Point.TheVariants.{WorkBegin}
use Rattle.c_model.specs.declared.point.SyncKind.{SyncKind}
use Rattle.c_model.specs.declared.point.SyncStage.{SyncStage}
use Rattle.c_model.specs.declared.point.SyncStage.TheVariants as stage
use Rattle.c_model.specs.declared.question.Ask.{Ask}
use Rattle.c_model.specs.declared.question.Ask.TheVariants as ask
use Rattle.c_model.specs.Step.{silent}
use Rattle.c_model.specs.Task.{Outcome}
use Rattle.c_model.specs.Task.Outcome.{Asks, Occurs}
use Rattle.team_words.specs.Calls.{TeamCall, after_calls}
use Rattle.team_words.specs.Calls.TeamCall.{Arrive, Meet, Pass, TakeChunk, TakeSection}
use Rattle.team_words.specs.Team.{Team, fresh_team}
use Rattle.omp_model.specs.declared.event.Arrival.{Arrival}
use Rattle.omp_model.specs.declared.event.Arrival.TheVariants.{Steps}
use Rattle.omp_model.specs.declared.event.Callback.{Callback}
use Rattle.omp_model.specs.declared.event.Endpoint.TheVariants.{Begin}
use Rattle.omp_model.specs.declared.event.Event.{Event}
use Rattle.omp_model.specs.declared.event.Event.TheVariants as event
use Rattle.omp_model.specs.declared.event.Outcome.{Outcome as TurnOutcome}
use Rattle.omp_model.specs.declared.event.Outcome.TheVariants.{Happens}
use Rattle.omp_model.specs.declared.history.Entry.{Entry}
use Rattle.omp_model.specs.declared.history.What.{What}
use Rattle.omp_model.specs.declared.history.What.TheVariants.{Back, Go, Put}
use Rattle.omp_model.specs.declared.limits.TheConstants.{STEPS_OF_A_TURN, TURN_LIMIT}
use Rattle.omp_model.specs.Changes.{with_masked_skipped}
use Rattle.omp_model.specs.Gates.{arrival, is_barrier}
use Rattle.omp_model.specs.EventEffects.{barrier_met, told, work_met}
use Rattle.omp_model.specs.Legal.{after, entered}
use Rattle.omp_model.specs.Members.{current_index, current_region, moment_of, view_of}
use Rattle.omp_model.specs.Silent.{Goes, Silence, Stops, silent_step}
use Rattle.omp_model.specs.State.{Run, State, World, first, pending_at, region_at}
use Rattle.omp_model.specs.Turn.{stepped, turn, walk}

-- The calls of the member with number i.

-- a silent step asks for a chunk or a section
abbrev pub calls_of_ask : ℕ → Ask → List TeamCall
calls_of_ask i ask.Chunk = TakeChunk i ∷ []
calls_of_ask i ask.Section = TakeSection i ∷ []
calls_of_ask i (ask.LockFree wait_id) = []

abbrev pub calls_of_step : ℕ → Outcome → List TeamCall
calls_of_step i (Asks what tree) = calls_of_ask i what
calls_of_step i other = []

-- At the Go of an event the member meets a construct where its work begins, as it stands next in the code. It meets a barrier at the first of the
-- barrier's events, and passes it where its wait ends.
abbrev pub calls_of_point : ℕ → Point → List TeamCall
calls_of_point i (WorkBegin codeptr what) = Meet i (work_met codeptr what) ∷ []
calls_of_point i other = []

abbrev pub calls_of_next : ℕ → Outcome → List TeamCall
calls_of_next i (Occurs what tree) = calls_of_point i what
calls_of_next i other = []

abbrev pub calls_of_sync : ℕ → ℕ → SyncKind → SyncStage → List TeamCall
calls_of_sync i codeptr which stage.RegionBegin = if is_barrier which then Meet i (barrier_met codeptr which) ∷ [] else []
calls_of_sync i codeptr which stage.WaitEnd = if is_barrier which then Pass i ∷ [] else []
calls_of_sync i codeptr which other = []

abbrev pub calls_of_event : ℕ → Outcome → Event → List TeamCall
calls_of_event i next (event.Work Begin which count codeptr) = calls_of_next i next
calls_of_event i next (event.Sync which at codeptr) = calls_of_sync i codeptr which at
calls_of_event i next other = []

-- at the Back of an event it has arrived at a barrier where its wait has begun
abbrev pub calls_of_back : ℕ → Event → List TeamCall
calls_of_back i (event.Sync which stage.WaitBegin codeptr) = if is_barrier which then Arrive i ∷ [] else []
calls_of_back i other = []

-- The calls that a thread makes on the team of region r: those of its member, where it is in this region.
abbrev pub if_in : World → ℕ → ℕ → List TeamCall → List TeamCall
if_in W t r calls = if current_region W t == r then calls else []

-- up to so many silent steps of a turn
abbrev pub calls_by : List TeamCall → Silence → (World → List TeamCall) → List TeamCall
calls_by calls (Goes after) more = calls ++ more after
calls_by calls (Stops halt) more = []

abbrev pub calls_on : Run → State → ℕ → ℕ → Arrival → (World → List TeamCall) → List TeamCall
calls_on run S t r Steps more =
    if nat_le run.steps S.steps
    then []
    else calls_by (if_in S.world t r (calls_of_step (current_index S.world t) (silent run.program (view_of S.world t) (moment_of S.world t))))
    (silent_step run S.world t) more
calls_on run S t r other more = []

unfoldable pub calls_of_steps : Run → ℕ → State → ℕ → ℕ → List TeamCall
calls_of_steps run zero S t r = []
calls_of_steps run (suc left) S t r = calls_on run S t r (arrival S.world t) (λ after. calls_of_steps run left (stepped S after) t r)

-- the event, in the world W before its Go
abbrev pub calls_at : Run → World → ℕ → ℕ → Event → List TeamCall
calls_at run W t r which =
    if_in W t r (calls_of_event (current_index W t) (silent run.program (view_of W t) (told W t)) which)

abbrev pub calls_of_outcome : Run → World → ℕ → ℕ → TurnOutcome → List TeamCall
calls_of_outcome run W t r (Happens which) = calls_at run W t r which
calls_of_outcome run W t r other = []

-- a turn. The last one that a run may have makes no step and has no event
abbrev pub calls_of_turn : Run → State → ℕ → ℕ → List TeamCall
calls_of_turn run S t r =
    if nat_le TURN_LIMIT (S.turns + 1)
    then []
    else calls_of_steps run STEPS_OF_A_TURN S t r
    ++ calls_of_outcome run (with_masked_skipped (walk run STEPS_OF_A_TURN 0 S t).state.world t) t r (turn run S t).outcome

-- an entry of a history
abbrev pub calls_of_callback : World → ℕ → ℕ → Option Callback → List TeamCall
calls_of_callback W t r None = []
calls_of_callback W t r (Some callback) = if_in W t r (calls_of_back (current_index W t) callback.event)

abbrev pub calls_of_entry : Run → State → ℕ → ℕ → What → List TeamCall
calls_of_entry run S t r Go = calls_of_turn run S t r
calls_of_entry run S t r (Put target word) = []
calls_of_entry run S t r Back = calls_of_callback S.world t r (pending_at S t)

abbrev pub calls_of_entries : Run → State → ℕ → List Entry → List TeamCall
calls_of_entries run S r [] = []
calls_of_entries run S r (entry ∷ rest) = calls_of_entry run S entry.thread r entry.what ++ calls_of_entries run (entered run S entry) r rest

-- all calls that the members of this region make in a history
abbrev pub calls_of : Run → List Entry → ℕ → List TeamCall
calls_of run history r = calls_of_entries run (first run) r history

-- the size of its team, and the team in the standard's words
abbrev pub size_of : Run → List Entry → ℕ → ℕ
size_of run history r = length (region_at (after run history).world r).team.members

abbrev pub team_of : Run → List Entry → ℕ → Team
team_of run history r = after_calls (fresh_team (size_of run history r)) (calls_of run history r)
