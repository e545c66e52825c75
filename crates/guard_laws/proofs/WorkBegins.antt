-- What is met where a work begins, and that none is open where a work or a barrier does: else the event would be a trap.
use Rattle.std.proofs.Common.{ℕ, ◌≡◌, ◌≤◌, Bool, true, false, if◌then◌else◌, List, refl, sym, ap, ◌∙◌, subst, arith}
use Rattle.std.specs.Prelude.{Some, None, Result, Ok, Err}
use Rattle.std.specs.List.{list_any}
use Rattle.std.proofs.lemmas.Bool.{cond-true}
use Rattle.std.proofs.lemmas.List.{get_or-set_same}
use Rattle.c_model.specs.declared.point.Point.{Point}
use Rattle.c_model.specs.declared.point.Point.TheVariants as point
use Rattle.c_model.specs.declared.point.Schedule.{Schedule}
use Rattle.c_model.specs.declared.point.Schedule.TheVariants as schedule
use Rattle.c_model.specs.declared.point.SyncStage.TheVariants as stage
use Rattle.c_model.specs.declared.point.Work.{Work}
use Rattle.c_model.specs.declared.point.Work.TheVariants as work
use Rattle.c_model.specs.declared.point.WorkKind.{WorkKind}
use Rattle.c_model.specs.declared.question.Answer.TheVariants as answer
use Rattle.c_model.specs.Step.{silent}
use Rattle.c_model.specs.Task.{Outcome}
use Rattle.c_model.specs.Task.Outcome.{Asks, Ends, Limits, Occurs, StepsTo, Traps}
use Rattle.c_model.specs.Upcoming.{is_in_exclusive}
use Rattle.c_brackets.specs.Opened.{Open}
use Rattle.c_brackets.specs.Opened.Open.{Works}
use Rattle.team_parts.specs.declared.meeting.Meeting.{Meeting}
use Rattle.team_parts.specs.declared.meeting.Meeting.TheVariants as meeting
use Rattle.team_parts.specs.declared.meeting.Mismatch.{Mismatch}
use Rattle.team_parts.specs.Meetings.{HasChunk, HasChunkOf}
use Rattle.team_parts.specs.Team.{after_meeting, answer_to_meet}
use Rattle.omp_model.specs.declared.event.Endpoint.TheVariants.{Begin}
use Rattle.omp_model.specs.declared.event.Event.{Event}
use Rattle.omp_model.specs.declared.event.Event.TheVariants as event
use Rattle.omp_model.specs.declared.event.Halt.TheVariants.{Trap}
use Rattle.omp_model.specs.declared.limits.TheConstants.{NESTING}
use Rattle.omp_model.specs.State.{Region, Run, World, no_region, region_at}
use Rattle.omp_model.specs.Members.{current, current_index, current_region, current_team, is_explicit_task, moment_of, view_of}
use Rattle.omp_model.specs.Gates.{is_barrier}
use Rattle.omp_model.specs.Changes.{with_member_meeting}
use Rattle.omp_model.specs.EventEffects.{Happens, after_meeting_at, barrier_met, dealt_by, effect_of_point, event_of_point, executes_work, fault_of_meeting, fault_of_point, going_by, go_of_code, meeting_at, meeting_fault, past_point, single_kind, told, work_met}
use Rattle.omp_model.specs.MadeWorld.{IsMadeWorld}
use Rattle.omp_model.proofs.Arriving.{Arrives, Reached, arrives}
use Rattle.omp_model.proofs.Gos.{unless-goes}
use Rattle.omp_model.proofs.Guards.{member-made}
use Rattle.omp_model.proofs.Rewrites.{region-below}
use Rattle.omp_model.proofs.Turning.{Beside, GoOf, OfCode}
use Rattle.nested_runs.proofs.Shown.{opens_at}
use Rattle.nested_runs.proofs.Touching.{AreCodes}
use Rattle.nested_runs.proofs.Codes.{answer-open}
use Rattle.guard_laws.proofs.FreeCodes.{task-free}
use Rattle.guard_laws.proofs.LastMeetings.{FitsOpen, is_work}

-- the current task of the thread has no work open
abbrev pub IsFree : World → ℕ → Type 0
IsFree W t = list_any is_work (opens_at W (current W t)) ≡ false

-- the team has met what is open now
-- sections at this place
abbrev pub HasPlace : ℕ → Meeting → Type 0
HasPlace codeptr (meeting.Sections at count) = at ≡ codeptr
HasPlace codeptr other = Unit {0}

pub record BeginsWork (W after : World) (t : ℕ) (which : WorkKind) (count codeptr : ℕ) : Type 0 where
  pub free : IsFree W t
  pub what : Meeting
  pub chunk : HasChunk what
  pub fits : FitsOpen (Some what) (Works which count)
  pub place : HasPlace codeptr what
  pub first : Bool
  pub answer : answer_to_meet (current_team W t) (current_index W t) what ≡ Ok first
  pub team : (region_at after (current_region W t)).team ≡ after_meeting (current_team W t) (current_index W t) what

abbrev pub MeetsFree : World → World → ℕ → Event → Type 0
MeetsFree W after t (event.Work Begin which count codeptr) = BeginsWork W after t which count codeptr
MeetsFree W after t (event.Sync which stage.RegionBegin codeptr) = is_barrier which ≡ true → IsFree W t
MeetsFree W after t other = Unit {0}

-- ---- an event of the code

-- what members meet is no trap: none is within another construct
pub record IsMet (exclusive : Bool) (given : Result Bool Mismatch) : Type 0 where
  pub free : exclusive ≡ false
  pub first : Bool
  pub is : given ≡ Ok first

pub met-free : (explicit exclusive : Bool) (given : Result Bool Mismatch) →
    (if explicit then Some (Trap NESTING) else fault_of_meeting exclusive given) ≡ None → IsMet exclusive given
met-free true exclusive given fine = cc
met-free false exclusive (Err mismatch) fine = cc
met-free false true (Ok first) fine = cc
met-free false false (Ok first) fine = record { free = refl; first = first; is = refl }

has-chunk : (how : Schedule) → HasChunkOf (dealt_by how)
has-chunk (schedule.Static size) = tt
has-chunk (schedule.Dynamic size) = omega arith
has-chunk (schedule.Guided size) = omega arith

single-fits : (what : Meeting) (executes : Bool) → FitsOpen (Some what) (Works (single_kind executes) 1)
single-fits what true = tt
single-fits what false = tt

module _ (run : Run) (W : World) (t : ℕ) (made : IsMadeWorld W) (codes : AreCodes W) (some : 1 ≤ current W t) where
  free : is_in_exclusive (told W t).task ≡ false → IsFree W t
  free is =
      ap (λ (opened : List Open). list_any is_work opened)
      (sym (answer-open (view_of W t) (answer.Free true) (moment_of W t) (codes.orderly (current W t))))
      ∙ task-free (told W t).task is

  -- the thread is a member of the team
  pub met-answer : (what : Meeting) (first : Bool) → meeting_at W t what ≡ Ok first →
      answer_to_meet (current_team W t) (current_index W t) what ≡ Ok first
  met-answer what first is =
      sym (ap (λ (b : Bool). if b then answer_to_meet (current_team W t) (current_index W t) what else Ok false) (member-made W t made some)) ∙ is

  pub met-team : (what : Meeting) →
      (region_at (after_meeting_at W t what) (current_region W t)).team ≡ after_meeting (current_team W t) (current_index W t) what
  met-team what =
      let r = current_region W t in
      let region : Region = record (region_at W r) { team = after_meeting (current_team W t) (current_index W t) what } in
      ap (λ (b : Bool). let after = if b then with_member_meeting W r (current_index W t) what else W in (region_at after r).team) (member-made W t made some)
      ∙ ap (λ (x : Region). x.team) (get_or-set_same W.regions r region no_region (region-below W t made))

  begins : (codeptr : ℕ) (what : Work) (which : WorkKind) (count : ℕ) → HasChunk (work_met codeptr what) →
      FitsOpen (Some (work_met codeptr what)) (Works which count) → HasPlace codeptr (work_met codeptr what) → meeting_fault W t (told W t).task (work_met codeptr what) ≡ None →
      BeginsWork W (past_point W (after_meeting_at W t (work_met codeptr what)) t (told W t) (point.WorkBegin codeptr what)) t which count codeptr
  begins codeptr what which count chunk fits place fine =
      let now = met-free (is_explicit_task W (current W t)) (is_in_exclusive (told W t).task) (meeting_at W t (work_met codeptr what)) fine in
      record {
        free = free now.free;
        what = work_met codeptr what;
        chunk = chunk;
        fits = fits;
        place = place;
        first = now.first;
        answer = met-answer (work_met codeptr what) now.first now.is;
        team = met-team (work_met codeptr what);
      }

  free-point : (what : Point) → fault_of_point W t (told W t).task what ≡ None →
      MeetsFree W (past_point W (effect_of_point run W t (told W t) what) t (told W t) what) t (event_of_point W t what)
  unfolding effect_of_point fault_of_point
  free-point (point.WorkBegin codeptr (work.Loop start count step how)) fine =
      begins codeptr (work.Loop start count step how) _ count (has-chunk how) (refl, has-chunk how) tt fine
  free-point (point.WorkBegin codeptr (work.Sections count)) fine = begins codeptr (work.Sections count) _ count tt refl refl fine
  free-point (point.WorkBegin codeptr work.Single) fine =
      begins codeptr work.Single _ 1 tt (single-fits (work_met codeptr work.Single) (executes_work W t codeptr work.Single)) tt fine
  free-point (point.Sync codeptr which stage.RegionBegin) fine = λ barrier.
      free (met-free (is_explicit_task W (current W t)) (is_in_exclusive (told W t).task) (meeting_at W t (barrier_met codeptr which))
      (sym (cond-true (is_barrier which) (meeting_fault W t (told W t).task (barrier_met codeptr which)) None barrier) ∙ fine)).free
  free-point other fine = tt

  by-outcome : (after : World) (e : Event) (outcome : Outcome) → going_by run W t (told W t) outcome ≡ Happens e after → MeetsFree W after t e
  by-outcome after e (Occurs what tree) happens =
      unless-goes (λ which next. MeetsFree W next t which) (fault_of_point W t (told W t).task what) (event_of_point W t what) e
      (past_point W (effect_of_point run W t (told W t) what) t (told W t) what) after (free-point what) happens
  by-outcome after e (StepsTo next) happens = cc
  by-outcome after e (Asks ask tree) happens = cc
  by-outcome after e (Ends number) happens = cc
  by-outcome after e (Traps trap) happens = cc
  by-outcome after e (Limits limit) happens = cc

  in-code : (after : World) (e : Event) → go_of_code run W t ≡ Happens e after → MeetsFree W after t e
  unfolding go_of_code
  in-code after e happens = by-outcome after e (silent run.program (view_of W t) (told W t)) happens

-- ---- any event

beside-free : (W after : World) (t : ℕ) (e : Event) → Reached W t e → MeetsFree W after t e
beside-free W after t (event.Work at which count codeptr) reached = absurd reached
beside-free W after t (event.Sync which at codeptr) reached = absurd reached
beside-free W after t other reached = tt

pub meets-free : (run : Run) (W after : World) (t : ℕ) (e : Event) → IsMadeWorld W → AreCodes W → GoOf run W t e after → MeetsFree W after t e
meets-free run W after t e made codes (OfCode comes happens) =
    in-code run W t made codes ((subst (Arrives W t) comes (arrives W t)).within.some) after e happens
meets-free run W after t e made codes (Beside meets happens) = beside-free W after t e (subst (Arrives W t) meets (arrives W t))
