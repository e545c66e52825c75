-- What is so of each state: the calls that were made on each region's team are in order, and how far each member has come at its barrier.
use Rattle.omp_model.specs.Gates.{is_barrier}
use Rattle.team_calls.proofs.Lists.{SameLast}
use Rattle.std.proofs.Common.{ℕ, ◌≡◌, ◌≢◌, ◌<◌, ◌≤◌, ◌==◌, ◌&&◌, ◌++◌, Bool, true, false, if◌then◌else◌, List, [], ◌∷◌, length, slice_index_or, refl, sym, ap, ap₂, ◌∙◌, subst, subst₂, inl, inr, arith}
use Rattle.std.specs.Prelude.{Option, Some}
use Rattle.std.proofs.lemmas.Bool.{cases_eq, eq-eqb, ne_eqb}
use Rattle.std.proofs.lemmas.List.{append-nil}
use Rattle.c_model.specs.declared.point.SyncStage.TheVariants as stage
use Rattle.task_pool.specs.Tasks.{task_at as pool_task_at}
use Rattle.task_pool.specs.View.{PoolView}
use Rattle.team_parts.specs.Team.{TeamView}
use Rattle.team_words.specs.Calls.{TeamCall, after_call, counters_after, ends_in_time, may_make}
use Rattle.team_words.specs.Team.{Met, Team, met_by}
use Rattle.omp_model.specs.declared.event.Event.{Event}
use Rattle.omp_model.specs.declared.event.Event.TheVariants.{Sync}
use Rattle.omp_model.specs.declared.limits.TheConstants.{IMPLICIT_REGION, INITIAL_TASK}
use Rattle.omp_model.specs.Conditions.{has_started}
use Rattle.omp_model.specs.MadeWorld.{IsTask}
use Rattle.omp_model.specs.Members.{current, is_explicit_task, member_index, region_of}
use Rattle.omp_model.specs.State.{World, pooled_at, region_at, task_at}
use Rattle.nested_runs.proofs.Recorded.{Inside}
use Rattle.nested_runs.proofs.Standing.{Stand, stand_at}
use Rattle.nested_runs.proofs.Touching.{Alike}
use Rattle.guard_laws.proofs.WorksMet.{SamePlace, index_of, place-alike}
use Rattle.team_calls.specs.Agreed.{agrees}
use Rattle.team_calls.proofs.Follows.{Follows, follows-more, words-more, words_of}
use Rattle.team_calls.proofs.Places.{PlaceOf, place-freed, place-same}

-- the calls that were made on the team of each region
abbrev pub AllCalls : Type 0
AllCalls = ℕ → List TeamCall

-- a thread is inside the begin of a wait at a barrier, in this task
abbrev pub is_arrival : Option Event → Bool
is_arrival (Some (Sync which stage.WaitBegin codeptr)) = is_barrier which
is_arrival other = false

abbrev pub arriving : World → Inside → ℕ → Bool
arriving W I k = is_arrival (I (task_at W k).thread) && current W (task_at W k).thread == k

-- what a task's member has met
abbrev pub mets_of : World → AllCalls → ℕ → List Met
mets_of W calls k = met_by (words_of (region_at W (region_of W k)).team (calls (region_of W k))) (index_of W k)

pub record Called (W : World) (I : Inside) (calls : AllCalls) : Type 0 where
  pub none : (r : ℕ) → length W.regions ≤ r → calls r ≡ []
  pub follows : (r : ℕ) → Follows (region_at W r).team (calls r)
  pub places : (k : ℕ) → IsTask W k → has_started (pooled_at W k).condition ≡ true → is_explicit_task W k ≡ false →
      PlaceOf (stand_at W k) (arriving W I k) (mets_of W calls k)
  -- before the initial task has begun no calls are made in its region
  pub early : has_started (pooled_at W INITIAL_TASK).condition ≡ false → calls IMPLICIT_REGION ≡ []

-- the same calls
pub called-same : (W : World) (I : Inside) (calls other : AllCalls) → ((r : ℕ) → other r ≡ calls r) → Called W I calls → Called W I other
called-same W I calls other same called = subst (Called W I) (λ i r. sym (same r) i) called

-- ---- one call more, or none

abbrev pub with_call : AllCalls → ℕ → TeamCall → AllCalls
with_call calls r call = λ q. calls q ++ (if r == q then call ∷ [] else [])

pub with-none : (calls : AllCalls) (r q : ℕ) → calls q ++ (if r == q then [] else []) ≡ calls q
with-none calls r q = by-place (r == q)
  where
    by-place : (here : Bool) → calls q ++ (if here then [] else []) ≡ calls q
    by-place true = append-nil (calls q)
    by-place false = append-nil (calls q)

pub with-here : (calls : AllCalls) (r : ℕ) (call : TeamCall) → with_call calls r call r ≡ calls r ++ call ∷ []
with-here calls r call = ap (λ (b : Bool). calls r ++ (if b then call ∷ [] else [])) (eq-eqb r r refl)

pub with-there : (calls : AllCalls) (r q : ℕ) (call : TeamCall) → q ≢ r → with_call calls r call q ≡ calls q
with-there calls r q call other =
    ap (λ (b : Bool). calls q ++ (if b then call ∷ [] else [])) (ne_eqb r q (λ is. other (sym is))) ∙ append-nil (calls q)

-- the team of one region is what the call leaves, and the others are the same
pub record OneCall (W after : World) (r : ℕ) (call : TeamCall) : Type 0 where
  pub here : (region_at after r).team ≡ counters_after (region_at W r).team call
  pub there : (q : ℕ) → q ≢ r → (region_at after q).team ≡ (region_at W q).team

module _ (W after : World) (calls : AllCalls) (r : ℕ) (call : TeamCall) (one : OneCall W after r call) where
  abbrev now : AllCalls
  now = with_call calls r call

  -- the calls of each region
  pub follows-one : (follows : (q : ℕ) → Follows (region_at W q).team (calls q)) → may_make (words_of (region_at W r).team (calls r)) call ≡ true →
      ends_in_time (words_of (region_at W r).team (calls r)) call ≡ true → agrees (words_of (region_at W r).team (calls r)) call ≡ true → (q : ℕ) → Follows (region_at after q).team (now q)
  follows-one follows may ends agree q =
      elim (cases_eq q r) [
        | inl is ↦
            subst (λ (q : ℕ). Follows (region_at after q).team (now q)) (sym is)
            (subst (Follows (region_at after r).team) (sym (with-here calls r call))
            (follows-more (region_at W r).team (calls r) (follows r) call (region_at after r).team may ends agree one.here))
        | inr other ↦
            subst₂ Follows (sym (one.there q other)) (sym (with-there calls r q call other)) (follows q)
      ]

  -- the team of each region in the standard's words
  pub words-here : (follows : Follows (region_at W r).team (calls r)) → words_of (region_at after r).team (now r) ≡ after_call (words_of (region_at W r).team (calls r)) call
  words-here follows =
      ap (words_of (region_at after r).team) (with-here calls r call)
      ∙ words-more (region_at W r).team (calls r) follows call (region_at after r).team one.here

  pub words-there : (q : ℕ) → q ≢ r → words_of (region_at after q).team (now q) ≡ words_of (region_at W q).team (calls q)
  words-there q other = ap₂ words_of (one.there q other) (with-there calls r q call other)

-- ---- a task that is in the same place

module _ (W after : World) (k : ℕ) (place : SamePlace W after k) where
  pub index-same : index_of after k ≡ index_of W k
  index-same =
      ap (member_index after (task_at after k).thread) place.region
      ∙ (place.index (task_at after k).thread ∙ ap (λ (u : ℕ). member_index W u (region_of W k)) place.thread)

  -- what its member has met, in the team that its region has then
  pub mets-placed : (now : AllCalls) → mets_of after now k ≡ met_by (words_of (region_at after (region_of W k)).team (now (region_of W k))) (index_of W k)
  mets-placed now = ap₂ (λ (q i : ℕ). met_by (words_of (region_at after q).team (now q)) i) place.region index-same

  -- whether its thread is inside the begin of a wait
  pub arriving-same : (I J : Inside) → J (task_at W k).thread ≡ I (task_at W k).thread → current after (task_at W k).thread ≡ current W (task_at W k).thread →
      arriving after J k ≡ arriving W I k
  arriving-same I J within task =
      ap (λ (u : ℕ). is_arrival (J u) && current after u == k) place.thread
      ∙ ap₂ (λ (event : Option Event) (j : ℕ). is_arrival event && j == k) within task

-- ---- what is no event

module _ (W after : World) (I : Inside) (alike : Alike W after) where
  abbrev place : (k : ℕ) → SamePlace W after k
  place = place-alike W after alike.world

  alike-current : (u : ℕ) → current after u ≡ current W u
  alike-current u = ap (λ (stack : List ℕ). slice_index_or stack 0 0) (alike.world.thread u).stack

  alike-arriving : (k : ℕ) → arriving after I k ≡ arriving W I k
  alike-arriving k = arriving-same W after k (place k) I I refl (alike-current (task_at W k).thread)

  -- a task with the same meetings, or others by which its place is kept
  pub place-stays : (k : ℕ) (mets next : List Met) → next ≡ mets → PlaceOf (stand_at W k) (arriving W I k) mets →
      PlaceOf (stand_at after k) (arriving after I k) next
  place-stays k mets next same at =
      subst₂ (λ (b : Bool) (mets : List Met). PlaceOf (stand_at after k) b mets) (sym (alike-arriving k)) (sym same)
      (elim (alike.stands k) [
        | inl is ↦ subst (λ (stand : Stand). PlaceOf stand (arriving W I k) mets) (sym is) at
        | inr free ↦ place-freed (stand_at W k) (stand_at after k) (arriving W I k) (arriving W I k) mets free at
      ])

  -- the task was there
  pub task-there : (k : ℕ) → IsTask after k → IsTask W k
  task-there k made = record { some = made.some; below = omega (arith, made.below, alike.world.tasks) }

  alike-started : (k : ℕ) → has_started (pooled_at after k).condition ≡ has_started (pooled_at W k).condition
  alike-started k = ap (λ (pool : PoolView). has_started (pool_task_at pool.tasks k).condition) alike.world.pool

  -- the teams are the same
  pub called-stays : (calls : AllCalls) → ((q : ℕ) → (region_at after q).team ≡ (region_at W q).team) → Called W I calls → Called after I calls
  called-stays calls teams called =
      record {
        none = λ r beyond. called.none r (omega (arith, beyond, alike.world.regions));
        follows = λ r. subst (λ (team : TeamView). Follows team (calls r)) (sym (teams r)) (called.follows r);
        places = λ k made started plain.
            place-stays k (mets_of W calls k) (mets_of after calls k)
            (mets-placed W after k (place k) calls
            ∙ ap (λ (team : TeamView). met_by (words_of team (calls (region_of W k))) (index_of W k)) (teams (region_of W k)))
            (called.places k (task-there k made) (sym (alike-started k) ∙ started) (sym (place k).explicit ∙ plain));
        early = λ not. called.early (sym (alike-started INITIAL_TASK) ∙ not);
      }

  -- .. or one member takes a chunk or a section, by which no place changes
  pub called-asks : (calls : AllCalls) (r : ℕ) (call : TeamCall) → OneCall W after r call → Called W I calls →
      may_make (words_of (region_at W r).team (calls r)) call ≡ true → ends_in_time (words_of (region_at W r).team (calls r)) call ≡ true →
      agrees (words_of (region_at W r).team (calls r)) call ≡ true → r < length W.regions →
      (has_started (pooled_at W INITIAL_TASK).condition ≡ false → r ≢ IMPLICIT_REGION) →
      ((j : ℕ) → SameLast (met_by (words_of (region_at W r).team (calls r)) j) (met_by (after_call (words_of (region_at W r).team (calls r)) call) j)) →
      Called after I (with_call calls r call)
  called-asks calls r call one called may ends agree made begun same =
      record {
        none = λ q beyond.
            with-there calls r q call (λ is. omega (arith, is, beyond, made, alike.world.regions))
            ∙ called.none q (omega (arith, beyond, alike.world.regions));
        follows = follows-one W after calls r call one called.follows may ends agree;
        places = λ k there started plain.
            let q = region_of W k in
            let i = index_of W k in
            let before = called.places k (task-there k there) (sym (alike-started k) ∙ started) (sym (place k).explicit ∙ plain) in
            let next = met_by (words_of (region_at after q).team (with_call calls r call q)) i in
            let kept : PlaceOf (stand_at W k) (arriving W I k) next =
            elim (cases_eq q r) [
              | inl is ↦
                  let words : words_of (region_at after q).team (with_call calls r call q) ≡ after_call (words_of (region_at W r).team (calls r)) call =
                  ap (λ (q : ℕ). words_of (region_at after q).team (with_call calls r call q)) is ∙ words-here W after calls r call one (called.follows r) in
                  let old : mets_of W calls k ≡ met_by (words_of (region_at W r).team (calls r)) i =
                  ap (λ (q : ℕ). met_by (words_of (region_at W q).team (calls q)) i) is in
                  subst (PlaceOf (stand_at W k) (arriving W I k)) (sym (ap (λ (team : Team). met_by team i) words))
                  (place-same (stand_at W k) (arriving W I k) (met_by (words_of (region_at W r).team (calls r)) i)
                  (met_by (after_call (words_of (region_at W r).team (calls r)) call) i) (same i)
                  (subst (PlaceOf (stand_at W k) (arriving W I k)) old before))
              | inr other ↦
                  subst (PlaceOf (stand_at W k) (arriving W I k))
                  (sym (ap (λ (team : Team). met_by team i) (words-there W after calls r call one q other))) before
            ] in
            place-stays k next (mets_of after (with_call calls r call) k) (mets-placed W after k (place k) (with_call calls r call)) kept;
        early = λ not.
            let before = sym (alike-started INITIAL_TASK) ∙ not in
            with-there calls r IMPLICIT_REGION call (λ is. begun before (sym is)) ∙ called.early before;
      }
