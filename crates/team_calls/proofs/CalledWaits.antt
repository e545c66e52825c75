-- Where the end of a wait at a barrier stands next, the machine lets the wait end just where the team in the standard's words does.
use Rattle.std.proofs.Common.{ℕ, ◌≡◌, ◌≤◌, ◌&&◌, Bool, true, false, List, [], slice_index_or, sym, ap, ◌∙◌, subst, inl, inr}
use Rattle.std.proofs.lemmas.Bool.{true≢false}
use Rattle.c_model.specs.declared.point.SyncKind.{SyncKind}
use Rattle.c_model.specs.declared.point.SyncKind.TheVariants as sync
use Rattle.c_model.specs.declared.point.SyncStage.TheVariants as stage
use Rattle.ompt_calls.specs.declared.event.EventRecord.{EventRecord}
use Rattle.task_pool.specs.Tasks.{unfinished}
use Rattle.task_pool.specs.View.{PoolView}
use Rattle.team_parts.specs.declared.member.Member.{Member}
use Rattle.team_parts.specs.Team.{may_pass as counters_may_pass}
use Rattle.team_words.specs.Team.{may_pass, met_by}
use Rattle.team_words.proofs.Waits.{wait-answer}
use Rattle.omp_model.specs.Conditions.{has_started}
use Rattle.omp_model.specs.Gates.{is_barrier, may_end}
use Rattle.omp_model.specs.Members.{current, current_index, current_region, current_team, is_explicit_task, is_member, member_index, region_of}
use Rattle.omp_model.specs.declared.event.Event.TheVariants.{Sync}
use Rattle.omp_model.specs.State.{Run, State, World, region_at}
use Rattle.omp_model.proofs.Guards.{member-made}
use Rattle.guard_laws.proofs.WorksMet.{SamePlace, index_of, place-alike}
use Rattle.nested_runs.proofs.Known.{AtBarrier}
use Rattle.nested_runs.proofs.Knows.{Goes, Knows}
use Rattle.nested_runs.proofs.Keeping.{knows-stays}
use Rattle.nested_runs.proofs.Turned.{Happened}
use Rattle.nested_runs.proofs.WaitEnds.{may-end-passes}
use Rattle.nested_runs.proofs.PooledTasks.{current-made, current-under-way}
use Rattle.nested_runs.proofs.Recorded.{Inside, inside}
use Rattle.nested_runs.proofs.Standing.{Stand, stand_at}
use Rattle.nested_runs.proofs.Standing.Stand.{AtSync, Free}
use Rattle.team_calls.proofs.Called.{AllCalls, Called, arriving}
use Rattle.team_calls.proofs.Follows.{keeps, words_of}
use Rattle.team_calls.proofs.Places.{IsWaiting, MayMeet, PlaceOf, at-barrier}

-- of a member a wait at a barrier may end as its team has it
may-end-is : (W : World) (t : ℕ) (which : SyncKind) → is_barrier which ≡ true → is_member W t ≡ true →
    may_end W t which ≡ counters_may_pass (current_team W t) (current_index W t) (unfinished W.pool.tasks (current_region W t))
may-end-is W t sync.Taskwait barrier member = absurd (true≢false (sym barrier))
may-end-is W t sync.Barrier barrier member =
    ap (λ (b : Bool). b && counters_may_pass (current_team W t) (current_index W t) (unfinished W.pool.tasks (current_region W t))) member
may-end-is W t sync.Worksharing barrier member =
    ap (λ (b : Bool). b && counters_may_pass (current_team W t) (current_index W t) (unfinished W.pool.tasks (current_region W t))) member
may-end-is W t sync.Parallel barrier member =
    ap (λ (b : Bool). b && counters_may_pass (current_team W t) (current_index W t) (unfinished W.pool.tasks (current_region W t))) member

-- what the counters of the thread's team say of its wait, and what the team in the standard's words does
abbrev pub counters_end : World → ℕ → Bool
counters_end W t = counters_may_pass (current_team W t) (current_index W t) (unfinished W.pool.tasks (current_region W t))

abbrev pub words_end : World → AllCalls → ℕ → Bool
words_end W calls t =
    may_pass (words_of (current_team W t) (calls (current_region W t))) (current_index W t) (unfinished W.pool.tasks (current_region W t))

-- it is the end of a wait of the thread's current task
abbrev pub WaitsAs : World → AllCalls → Type 0
WaitsAs W calls =
    (t : ℕ) (which : SyncKind) → 1 ≤ current W t → stand_at W (current W t) ≡ AtSync which stage.WaitEnd → is_barrier which ≡ true →
    may_end W t which ≡ words_end W calls t

module _ (run : Run) (W : World) (I : Inside) (past : List EventRecord) (calls : AllCalls) (called : Called W I calls) (knows : Knows run W I past) where
  counters-as : (t : ℕ) (which : SyncKind) → 1 ≤ current W t → stand_at W (current W t) ≡ AtSync which stage.WaitEnd → is_barrier which ≡ true →
      counters_end W t ≡ words_end W calls t
  counters-as t which some stand barrier =
      let r = current_region W t in
      let i = current_index W t in
      let k = current W t in
      let view = current_team W t in
      let words = words_of view (calls r) in
      let way = current-under-way W t knows.sound.orderly some in
      let plain : is_explicit_task W k ≡ false = (subst (λ (stand : Stand). AtBarrier W past k stand) stand (knows.barriers.at k) barrier).0 in
      let index : index_of W k ≡ i = ap (λ (u : ℕ). member_index W u r) way.thread in
      let place = called.places k (current-made W t knows.sound.made some).made (ap has_started way.started) plain in
      let here : PlaceOf (AtSync which stage.WaitEnd) (arriving W I k) (met_by words i) =
      subst (λ (stand : Stand). PlaceOf stand (arriving W I k) (met_by words i)) stand
      (subst (PlaceOf (stand_at W k) (arriving W I k)) (ap (met_by words) index) place) in
      let waits : IsWaiting (arriving W I k) (met_by words i) =
      at-barrier (is_barrier which) (IsWaiting (arriving W I k) (met_by words i)) (MayMeet (met_by words i)) barrier here in
      wait-answer words view i (unfinished W.pool.tasks r) (keeps view (calls r) (called.follows r)) waits.at

  pub waits-as : WaitsAs W calls
  waits-as t which some stand barrier =
      may-end-is W t which barrier (member-made W t knows.sound.made some) ∙ counters-as t which some stand barrier

-- ---- the end of a wait, at its Go

abbrev passes : List Member → ℕ → ℕ → Bool
passes members i left = counters_may_pass (record { members = members; meetings = []; room = 0 }) i left

abbrev passes_in : World → ℕ → ℕ → Bool
passes_in W t q = passes (region_at W q).team.members (member_index W t q) (unfinished W.pool.tasks q)

module _ (run : Run) (S next : State) (past : List EventRecord) (calls : AllCalls) (called : Called S.world (inside S) calls)
    (knows : Knows run S.world (inside S) past) (t codeptr : ℕ) (which : SyncKind) (barrier : is_barrier which ≡ true)
    (happened : Happened run S next past t (Sync which stage.WaitEnd codeptr)) where
  abbrev W : World
  W = S.world

  abbrev X : World
  X = happened.before

  goes : Goes run X next.world (inside S) (inside next) past t (Sync which stage.WaitEnd codeptr)
  goes = happened.goes (knows-stays run W X (inside S) (inside S) past happened.stays)

  same-task : current X t ≡ current W t
  same-task = ap (λ (stack : List ℕ). slice_index_or stack 0 0) (happened.stays.alike.world.thread t).stack

  some : 1 ≤ current W t
  some = subst (λ (k : ℕ). 1 ≤ k) same-task goes.comes.0.within.some

  place : SamePlace W X (current W t)
  place = place-alike W X happened.stays.alike.world (current W t)

  same-region : current_region X t ≡ current_region W t
  same-region = ap (region_of X) same-task ∙ place.region

  -- no silent step comes to the end of a wait
  stand : stand_at W (current W t) ≡ AtSync which stage.WaitEnd
  stand =
      let there : stand_at X (current W t) ≡ AtSync which stage.WaitEnd = ap (stand_at X) (sym same-task) ∙ goes.comes.0.stand in
      elim (happened.stays.alike.stands (current W t)) [
        | inl is ↦ sym is ∙ there
        | inr comes ↦ absurd (free-at (sym comes.free ∙ there))
      ]
    where
      free-at : Free ≡ AtSync which stage.WaitEnd → ⊥
      free-at is = cc

  -- nor does one change whether it may end
  may : counters_end W t ≡ true
  may =
      let r = current_region W t in
      let alike = happened.stays.alike.world in
      let before : passes_in X t (current_region X t) ≡ true = may-end-passes X t which barrier goes.comes.1 in
      let there : passes_in X t r ≡ true = subst (λ (q : ℕ). passes_in X t q ≡ true) same-region before in
      let index : passes (region_at X r).team.members (current_index W t) (unfinished X.pool.tasks r) ≡ true =
      subst (λ (i : ℕ). passes (region_at X r).team.members i (unfinished X.pool.tasks r) ≡ true) (place.index t) there in
      let members : passes (region_at W r).team.members (current_index W t) (unfinished X.pool.tasks r) ≡ true =
      subst (λ (members : List Member). passes members (current_index W t) (unfinished X.pool.tasks r) ≡ true) (alike.team r).members index in
      subst (λ (pool : PoolView). passes (region_at W r).team.members (current_index W t) (unfinished pool.tasks r) ≡ true) alike.pool members

  pub ends-as : words_end W calls t ≡ true
  ends-as = sym (counters-as run W (inside S) past calls called knows t which some stand barrier) ∙ may
