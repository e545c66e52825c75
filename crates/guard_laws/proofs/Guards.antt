-- The end of a region names it, and a member has its code.
use Rattle.std.proofs.Common.{ℕ, ◌≡◌, ◌≤◌, ◌==◌, Bool, true, false, if◌then◌else◌, List, [], ◌∷◌, slice_index_or, refl, sym, ap, ◌∙◌, subst, arith}
use Rattle.std.proofs.lemmas.Bool.{true≢false}
use Rattle.c_check.specs.Checked.{Checked}
use Rattle.c_model.specs.declared.point.SyncStage.TheVariants as stage
use Rattle.c_model.specs.Formed.{IsProgramFormed}
use Rattle.c_model.specs.Task.{Item}
use Rattle.c_model.specs.Task.Item.{Forked}
use Rattle.c_model.specs.Task.Item.{Sync as SyncItem}
use Rattle.omp_model.specs.declared.event.Event.{Event}
use Rattle.omp_model.specs.declared.event.Event.TheVariants.{MemberBegin, ParallelEnd}
use Rattle.omp_model.specs.declared.event.Outcome.TheVariants.{Happens}
use Rattle.omp_model.specs.declared.history.Entry.{Entry}
use Rattle.omp_model.specs.declared.parts.RegionHead.{RegionHead}
use Rattle.omp_model.specs.EventEffects.{has_forked}
use Rattle.omp_model.specs.Legal.{Legal, after}
use Rattle.omp_model.specs.MadeWorld.{IsForkedRegion}
use Rattle.omp_model.specs.Members.{current, member_index}
use Rattle.omp_model.specs.State.{Run, State, Thread, region_at, task_at, thread_at}
use Rattle.omp_model.proofs.Touching.{joined_by}
use Rattle.omp_model.specs.Turn.{Turn, enabled, turn}
use Rattle.nested_runs.proofs.Known.{HasForked, HoldsRegion}
use Rattle.nested_runs.proofs.Knows.{IsWholeRun}
use Rattle.nested_runs.proofs.Standing.{stand_among, stand_at}
use Rattle.nested_runs.proofs.Standing.Stand.{AtFork}
use Rattle.guard_laws.proofs.Masks.{all_told, legal-told, told-after, told-next, whole-told}
use Rattle.guard_laws.proofs.KnownStates.{KnownGo, known-event}

-- the end of a region stands next in the code
forked-stands : (items : List Item) → stand_among items ≡ AtFork → has_forked items ≡ true
forked-stands [] at = cc
forked-stands (Forked construct ∷ items) at = refl
forked-stands (SyncItem tree which stage.RegionBegin ∷ items) at = cc
forked-stands (SyncItem tree which other ∷ items) at = cc
forked-stands (other ∷ items) at = cc

either-task : (b : Bool) (one other : RegionHead) → one.task ≡ other.task → (if b then one else other).task ≡ other.task
either-task true one other same = same
either-task false one other same = refl

module _ (run : Run) (S next : State) (t r : ℕ) where
  end-named : (codeptr : ℕ) → KnownGo run S next t (ParallelEnd r codeptr) → IsForkedRegion next.world r × ((region_at next.world r).head.task ≡ current next.world t)
  end-named codeptr known =
      let go = known.goes in
      let W = known.before in
      let forked : HasForked W (current W t) = go.knows.seats.forks (current W t) go.comes.0.stand in
      let region = go.comes.1.region in
      let head = ap (λ (head : RegionHead). head.task) (go.touches.world.head r)
      ∙ either-task (r == r) (record (region_at W r).head { ended = true }) (region_at W r).head refl in
      let own : current next.world t ≡ current W t = ap (λ (thread : Thread). slice_index_or thread.stack 0 0) go.touches.world.own in (
        record { made = record { some = omega (arith, region, forked.region.forked); below = omega (arith, region, forked.region.made, go.touches.world.regions) }; forked = omega (arith, region, forked.region.forked) },
        head ∙ ap (λ (r : ℕ). (region_at W r).head.task) region ∙ forked.task ∙ sym own,
      )

  member-coded : (k : ℕ) → KnownGo run S next t (MemberBegin r k) → has_forked (task_at next.world (region_at next.world r).head.task).code.todo ≡ true
  member-coded k known =
      let go = known.goes in
      let W = known.before in
      let invited = go.knows.seats.invited t (omega (arith, go.comes.region, go.comes.some)) in
      let holds : HoldsRegion W r = subst (HoldsRegion W) go.comes.region (go.knows.seats.holds (thread_at W t).invited invited.region) in
      let head : (region_at next.world r).head.task ≡ (region_at W r).head.task = ap (λ (head : RegionHead). head.task) (go.touches.world.head r)
      ∙ either-task (r == r) (joined_by (region_at W r).head (member_index W t r) k) (region_at W r).head refl in
      let same : stand_at next.world (region_at W r).head.task ≡ AtFork = go.touches.stands (region_at W r).head.task (λ of_code is. absurd (true≢false (sym of_code))) ∙ holds.stand in
      forked-stands (task_at next.world (region_at next.world r).head.task).code.todo (ap (stand_at next.world) head ∙ same)

module _ (run : Run) (history : List Entry) (t r : ℕ) (some : 1 ≤ run.threads) (few : run.threads ≤ 16) (checked : Checked run.program) (formed : IsProgramFormed run.program)
    (legal : Legal run history) (goes : enabled (after run history) t ≡ true) where
  is-whole : IsWholeRun (all_told run)
  is-whole = whole-told run some few checked formed

  -- what is known of an event where all callbacks are registered
  told-event : (e : Event) → (turn run (after run history) t).outcome ≡ Happens e →
      KnownGo (all_told run) (after (all_told run) history) (turn (all_told run) (after (all_told run) history) t).state t e
  told-event e happens =
      known-event (all_told run) history t e is-whole (legal-told run is-whole history legal)
      (ap (λ (S : State). enabled S t) (told-after run history) ∙ goes)
      (ap (λ (one : Turn). one.outcome) (told-next run history t) ∙ happens)

  pub end-names : (codeptr : ℕ) → (turn run (after run history) t).outcome ≡ Happens (ParallelEnd r codeptr) →
      let W = (turn run (after run history) t).state.world in IsForkedRegion W r × ((region_at W r).head.task ≡ current W t)
  end-names codeptr happens =
      let next = (turn (all_told run) (after (all_told run) history) t).state in
      subst (λ (one : Turn). let W = one.state.world in IsForkedRegion W r × ((region_at W r).head.task ≡ current W t)) (told-next run history t)
      (end-named (all_told run) (after (all_told run) history) next t r codeptr (told-event (ParallelEnd r codeptr) happens))

  pub member-has : (k : ℕ) → (turn run (after run history) t).outcome ≡ Happens (MemberBegin r k) →
      let W = (turn run (after run history) t).state.world in has_forked (task_at W (region_at W r).head.task).code.todo ≡ true
  member-has k happens =
      let next = (turn (all_told run) (after (all_told run) history) t).state in
      subst (λ (one : Turn). let W = one.state.world in has_forked (task_at W (region_at W r).head.task).code.todo ≡ true) (told-next run history t)
      (member-coded (all_told run) (after (all_told run) history) next t r k (told-event (MemberBegin r k) happens))
