-- A share of work that is told lies within the work that is the newest of what its thread has open (rule 14).
use Rattle.std.proofs.Common.{ℕ, ◌≡◌, ◌≤◌, ◌+◌, true, List, [], ◌∷◌, ◌++◌, map, slice_index_or, refl, sym, ap, ◌∙◌, subst, arith}
use Rattle.std.proofs.lemmas.Bool.{eq-eqb, le-leb}
use Rattle.c_model.specs.declared.point.SyncStage.TheVariants as stage
use Rattle.c_brackets.specs.Opened.{Open}
use Rattle.ompt_calls.specs.declared.event.EventRecord.{EventRecord}
use Rattle.omp_model.specs.declared.event.Event.{Event}
use Rattle.omp_model.specs.declared.event.Event.TheVariants.{Dispatch, Sync}
use Rattle.omp_model.specs.declared.event.Share.{Share}
use Rattle.omp_model.specs.declared.event.Share.TheVariants.{Chunk, Section}
use Rattle.omp_model.specs.State.{Run, Thread, World, thread_at}
use Rattle.omp_model.specs.Calls.{call_of}
use Rattle.omp_model.specs.Members.{current, current_region, is_explicit_task, region_of}
use Rattle.omp_model.proofs.MadeEvents.{current-below}
use Rattle.trace_check.specs.declared.bracket.Bracket.{Bracket}
use Rattle.trace_check.specs.declared.bracket.Bracket.TheVariants.{Worksharing}
use Rattle.trace_check.specs.Rules.{is_work_of, keeps_dispatches}
use Rattle.nested_runs.proofs.Recorded.{Inside}
use Rattle.nested_runs.proofs.Shown.{begun_as, bracket_of, opens_at, shown}
use Rattle.nested_runs.proofs.Touching.{MayTake, TakesShare}
use Rattle.nested_runs.proofs.Knows.{Goes}
use Rattle.nested_runs.proofs.GoFrames.{grown-go}

-- the newest of what a stack shows is the newest of what its newest task has open
record ShowsNewest (W : World) (stack : List ℕ) (one : Open) : Type 0 where
  older : List Bracket
  are : shown W stack ≡ bracket_of W (slice_index_or stack 0 0) one ∷ older

shows-newest : (W : World) (stack : List ℕ) (one : Open) (older : List Open) → 1 ≤ slice_index_or stack 0 0 →
    opens_at W (slice_index_or stack 0 0) ≡ one ∷ older → ShowsNewest W stack one
shows-newest W [] one older some are = absurd (omega arith)
shows-newest W (k ∷ below) one older some are =
    record {
      older = map (bracket_of W k) older ++ begun_as (is_explicit_task W k) below k ∷ shown W below;
      are = ap (λ (opens : List Open). map (bracket_of W k) opens ++ begun_as (is_explicit_task W k) below k ∷ shown W below) are;
    }

is-chunk : (region task others other start count whole : ℕ) (older : List Bracket) → others ≡ region → other ≡ task → start + count ≤ whole →
    is_work_of region task 3 start count (Worksharing others other 1 whole ∷ older) ≡ true
is-chunk region task others other start count whole older same own within =
    rw (eq-eqb others region same, eq-eqb other task own, le-leb (start + count) whole within) refl

is-section : (region task others other codeptr whole : ℕ) (older : List Bracket) → others ≡ region → other ≡ task →
    is_work_of region task 2 codeptr 0 (Worksharing others other 2 whole ∷ older) ≡ true
is-section region task others other codeptr whole older same own = rw (eq-eqb others region same, eq-eqb other task own) refl

module _ (run : Run) (W after : World) (I J : Inside) (past : List EventRecord) (t : ℕ) (share : Share) (goes : Goes run W after I J past t (Dispatch share))
  where
    same-current : current after t ≡ current W t
    same-current = ap (λ (x : Thread). slice_index_or x.stack 0 0) goes.touches.world.own

    same-region : current_region after t ≡ current_region W t
    same-region =
        ap (region_of after) same-current
        ∙ (grown-go W after t (Dispatch share) goes.comes goes.touches).region (current W t) (current-below W t goes.knows.sound.made)

    takes : TakesShare W t share
    takes = subst (MayTake W t) goes.comes.taken (goes.knows.seats.shares t)

pub dispatched : (run : Run) (W after : World) (I J : Inside) (past : List EventRecord) (t : ℕ) (e : Event) → Goes run W after I J past t e →
    keeps_dispatches past t (call_of after t e) ≡ true
unfolding call_of
dispatched run W after I J past t (Dispatch (Chunk start count)) goes =
    let share : Share = Chunk start count in
    let took = takes run W after I J past t share goes in
    let newest = shows-newest W (thread_at W t).stack (Open.Works _ took.fits.whole) took.fits.older took.some took.fits.are in
    subst (λ (brackets : List Bracket). is_work_of (current_region after t) (current after t) 3 start count brackets ≡ true)
    (sym (goes.knows.brackets.open_on t ∙ newest.are))
    (is-chunk (current_region after t) (current after t) (current_region W t) (current W t) start count took.fits.whole newest.older
    (sym (same-region run W after I J past t share goes)) (sym (same-current run W after I J past t share goes)) took.fits.within)
dispatched run W after I J past t (Dispatch (Section codeptr)) goes =
    let share : Share = Section codeptr in
    let took = takes run W after I J past t share goes in
    let newest = shows-newest W (thread_at W t).stack (Open.Works _ took.fits.whole) took.fits.older took.some took.fits.are in
    subst (λ (brackets : List Bracket). is_work_of (current_region after t) (current after t) 2 codeptr 0 brackets ≡ true)
    (sym (goes.knows.brackets.open_on t ∙ newest.are))
    (is-section (current_region after t) (current after t) (current_region W t) (current W t) codeptr took.fits.whole newest.older
    (sym (same-region run W after I J past t share goes)) (sym (same-current run W after I J past t share goes)))
dispatched run W after I J past t (Sync which stage.RegionBegin codeptr) goes = refl
dispatched run W after I J past t (Sync which stage.WaitBegin codeptr) goes = refl
dispatched run W after I J past t (Sync which stage.WaitEnd codeptr) goes = refl
dispatched run W after I J past t (Sync which stage.RegionEnd codeptr) goes = refl
dispatched run W after I J past t e goes = refl
