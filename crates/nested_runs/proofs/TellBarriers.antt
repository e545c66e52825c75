-- The waits of a member are the barriers that its team has of it (rule 12).
use Rattle.std.proofs.Common.{ℕ, zero, suc, ◌≡◌, ◌≢◌, ◌<◌, ◌≤◌, ◌⊎◌, true, List, [], ◌∷◌, length, slice_index_or, refl, sym, ap, ◌∙◌, subst, inl, inr, arith}
use Rattle.std.proofs.lemmas.Bool.{and_from, eqb-true}
use Rattle.c_model.specs.declared.point.SyncKind.{SyncKind}
use Rattle.c_model.specs.declared.point.SyncKind.TheVariants as sync
use Rattle.c_model.specs.declared.point.SyncStage.{SyncStage}
use Rattle.c_model.specs.declared.point.SyncStage.TheVariants as stage
use Rattle.ompt_calls.specs.declared.event.EventRecord.{EventRecord}
use Rattle.task_pool.specs.declared.task.Task.{Task as PoolTask}
use Rattle.task_pool.specs.Tasks.{task_at as pool_task_at}
use Rattle.task_pool.specs.View.{PoolView}
use Rattle.team_parts.specs.declared.member.Member.{Member}
use Rattle.team_parts.specs.Team.{new_member}
use Rattle.omp_model.specs.declared.event.Event.{Event}
use Rattle.omp_model.specs.declared.event.Event.TheVariants.{Dispatch, Sync}
use Rattle.omp_model.specs.declared.event.Share.TheVariants.{Chunk, Section}
use Rattle.omp_model.specs.Calls.{call_of}
use Rattle.omp_model.specs.State.{Run, Thread, World, first, first_world, pooled_at}
use Rattle.omp_model.specs.Gates.{is_barrier}
use Rattle.omp_model.specs.Members.{current}
use Rattle.trace_check.specs.Rules.{has_no_child, keeps_waits, may_pass as passes_wait}
use Rattle.nested_runs.proofs.Known.{AtBarrier, IsWaiting, TellsBarriers, TellsMember, owed, task_of_member}
use Rattle.nested_runs.proofs.Knows.{ComesBack, Goes, IsWholeRun, Stays}
use Rattle.nested_runs.proofs.Recorded.{Inside, inside, recorded}
use Rattle.nested_runs.proofs.Standing.{Stand, stand_at}
use Rattle.nested_runs.proofs.Touching.{ComesFree}
use Rattle.nested_runs.proofs.Standing.Stand.{Free, AtFork, AtMutex, AtSync}
use Rattle.nested_runs.proofs.FirstWorlds.{first-inside}
use Rattle.nested_runs.proofs.PooledTasks.{apart, current-same, same-back}
use Rattle.nested_runs.proofs.RegionHeads.{back-head}
use Rattle.nested_runs.proofs.TellBrackets.{brackets-first}
use Rattle.nested_runs.proofs.TellTasks.{no-child}
use Rattle.nested_runs.proofs.TeamMembers.{SameMember}
use Rattle.nested_runs.proofs.BarrierStands.{at-kept, waiting-kept, unmet-kept}
use Rattle.nested_runs.proofs.WaitEnds.{barrier-passes}
use Rattle.nested_runs.proofs.BarrierGos.{member-go, unmet-go, passed-go, at-go, waiting-go, fresh-go}
use Rattle.nested_runs.proofs.BarrierBacks.{stand-back, member-back, unmet-back, begun-back, passed-same, waiting-back}

-- ---- after the Go of an event, and its Back

pub barriers-go : (run : Run) (W after : World) (I J : Inside) (past : List EventRecord) (t position : ℕ) (e : Event) → Goes run W after I J past t e →
    TellsBarriers after J (recorded position t after e ∷ past)
barriers-go run W after I J past t position e goes =
    record {
      member = member-go run W after I J past t position e goes;
      unmet = unmet-go run W after I J past t position e goes;
      passed = passed-go run W after I J past t position e goes;
      at = at-go run W after I J past t position e goes;
      fresh = fresh-go run W after I J past t position e goes;
      waiting = waiting-go run W after I J past t position e goes;
    }

pub barriers-back : (run : Run) (W after : World) (I J : Inside) (past : List EventRecord) (t : ℕ) (e : Event) → ComesBack run W after I J past t e →
    TellsBarriers after J past
barriers-back run W after I J past t e back =
    let member : (r i : ℕ) → task_of_member after r i ≡ task_of_member W r i =
    λ r i. ap (λ (members : List ℕ). slice_index_or members i 0) (back-head W after t e r (back.returns.head r)).members in
    record {
      member = λ r i forked made some.
          subst (TellsMember after past r i) (sym (member r i))
          (member-back run W after I J past t e back r i forked (omega (arith, made, back.returns.regions)) (subst (λ k. 1 ≤ k) (member r i) some));
      unmet = λ r i forked made none. unmet-back run W after I J past t e back r i forked (omega (arith, made, back.returns.regions)) (sym (member r i) ∙ none);
      passed = λ r forked made i j first second.
          let below : r < length W.regions = omega (arith, made, back.returns.regions) in
          let size = (back-head W after t e r (back.returns.head r)).size in
          omega (
            arith,
            begun-back run W after I J past t e back r j forked below,
            passed-same run W after I J past t e back r i forked,
            back.knows.barriers.passed r forked below i j (omega (arith, first, size)) (omega (arith, second, size)),
          );
      at = λ k.
          subst (λ stand. AtBarrier after past k stand) (sym (stand-back run W after I J past t e back k))
          (at-kept W after past past k (stand_at W k) (ap (λ (x : PoolTask). x.kind) (back.returns.pooled k) ∙ (same-back W e k).kind) (omega arith)
          (back.knows.barriers.at k));
      fresh = λ k new. back.knows.barriers.fresh k (omega (arith, new, back.returns.tasks));
      waiting = waiting-back run W after I J past t e back;
    }

-- ---- after what is no event, and at the start

-- a code that has come to nothing owes no wait
unowed : (stand : Stand) → ((which : SyncKind) (at : SyncStage) → stand ≢ AtSync which at) → owed stand ≡ 0
unowed (AtSync which at) apart = absurd (apart which at refl)
unowed Free apart = refl
unowed AtFork apart = refl
unowed (AtMutex which id) apart = refl

owed-alike : (before after : Stand) → (after ≡ before) ⊎ ComesFree before after → owed after ≡ owed before
owed-alike before after alike = elim alike [ inl same ↦ ap owed same | inr free ↦ ap owed free.free ∙ sym (unowed before free.synced) ]

-- after what is no event
pub barriers-stays : (run : Run) (W after : World) (I J : Inside) (past : List EventRecord) → Stays run W after I J past → TellsBarriers after J past
barriers-stays run W after I J past stays =
    let known = stays.knows.barriers in
    let task : (r i : ℕ) → task_of_member after r i ≡ task_of_member W r i =
    λ r i. ap (λ (members : List ℕ). slice_index_or members i 0) (stays.alike.world.head r).members in
    let member : (r i : ℕ) → SameMember W after r i = λ r i. ap (λ (members : List Member). slice_index_or members i new_member) (stays.alike.world.team r).members in
    let kind : (k : ℕ) → (pooled_at after k).kind ≡ (pooled_at W k).kind = λ k. ap (λ (pool : PoolView). (pool_task_at pool.tasks k).kind) stays.alike.world.pool in
    record {
      member = λ r i forked made some.
          let told = known.member r i forked (omega (arith, made, stays.alike.world.regions)) (subst (λ k. 1 ≤ k) (task r i) some) in
          let stand = owed-alike _ _ (stays.alike.stands (task_of_member W r i)) in
          let told-after : TellsMember after past r i (task_of_member W r i) = record {
            waits = omega (arith, told.waits, stand, ap (λ (m : Member). m.barriers) (member r i));
            begun = omega (arith, told.begun, ap (λ (m : Member). m.begun) (member r i));
          } in
          subst (TellsMember after past r i) (sym (task r i)) told-after;
      unmet =
          λ r i forked made none. unmet-kept W after r i (member r i)
          (known.unmet r i forked (omega (arith, made, stays.alike.world.regions)) (sym (task r i) ∙ none));
      passed = λ r forked made i j first second.
          let size = (stays.alike.world.head r).size in
          omega (
            arith,
            ap (λ (m : Member). m.passed) (member r i),
            ap (λ (m : Member). m.begun) (member r j),
            known.passed r forked (omega (arith, made, stays.alike.world.regions)) i j (omega (arith, first, size)) (omega (arith, second, size)),
          );
      at = λ k. elim (stays.alike.stands k) [
        | inl same ↦ subst (λ stand. AtBarrier after past k stand) (sym same) (at-kept W after past past k (stand_at W k) (kind k) (omega arith) (known.at k))
        | inr free ↦ subst (λ stand. AtBarrier after past k stand) (sym free.free) tt
      ];
      fresh = λ k new. known.fresh k (omega (arith, new, stays.alike.world.tasks));
      waiting = λ u.
          subst (λ within. IsWaiting after u within) (sym (stays.same u))
          (waiting-kept W after u (I u) (current-same W after u (stays.alike.world.thread u).stack)
          (λ some which at. elim (stays.alike.stands (current W u)) [ inl same ↦ same ∙ at | inr free ↦ absurd (free.synced which stage.WaitEnd at) ])
          (known.waiting u));
    }

-- no task stands at a barrier
at-first : (run : Run) → IsWholeRun run → (k : ℕ) → AtBarrier (first_world run) [] k (stand_at (first_world run) k)
at-first run whole zero = tt
at-first run whole (suc zero) = subst (λ stand. AtBarrier (first_world run) [] 1 stand) (sym ((brackets-first run whole).unmoved 1 refl)) tt
at-first run whole (suc (suc k)) = tt

-- nothing has been told
pub barriers-first : (run : Run) → IsWholeRun run → TellsBarriers (first_world run) (inside (first run)) []
barriers-first run whole =
    record {
      member = λ r i forked made some. absurd (omega (arith, forked, made));
      unmet = λ r i forked made none. absurd (omega (arith, forked, made));
      passed = λ r forked made i j first second. absurd (omega (arith, forked, made));
      at = at-first run whole;
      fresh = λ k new. refl;
      waiting = λ u. subst (λ within. IsWaiting (first_world run) u within) (sym (first-inside run u)) tt;
    }

-- ---- rule 12

module _ (run : Run) (W after : World) (I J : Inside) (past : List EventRecord) (t position : ℕ) where
  -- at a barrier all have begun as many waits, and at a taskwait no child is left
  wait-passes : (which : SyncKind) (codeptr : ℕ) → is_barrier which ≡ true → Goes run W after I J past t (Sync which stage.WaitEnd codeptr) →
      passes_wait past (current after t) ≡ true
  wait-passes which codeptr barrier goes =
      subst (λ k. passes_wait past k ≡ true) (sym (current-same W after t (ap (λ (x : Thread). x.stack) goes.touches.world.own)))
      (barrier-passes run W I past t goes.knows which barrier goes.comes.0.within.some goes.comes.0.stand goes.comes.1)

  no-child-left : (codeptr : ℕ) → Goes run W after I J past t (Sync sync.Taskwait stage.WaitEnd codeptr) → has_no_child past (current after t) ≡ true
  no-child-left codeptr goes =
      subst (λ k. has_no_child past k ≡ true) (sym (current-same W after t (ap (λ (x : Thread). x.stack) goes.touches.world.own)))
      (no-child run W I past (current W t) goes.knows goes.comes.0.within.some (eqb-true _ _ goes.comes.1))

pub keeps-waits : (run : Run) (W after : World) (I J : Inside) (past : List EventRecord) (t position : ℕ) (e : Event) → Goes run W after I J past t e →
    keeps_waits past (recorded position t after e).call ≡ true
unfolding call_of
keeps-waits run W after I J past t position (Sync sync.Barrier stage.WaitEnd codeptr) goes =
    and_from _ _ (wait-passes run W after I J past t position sync.Barrier codeptr refl goes) refl
keeps-waits run W after I J past t position (Sync sync.Taskwait stage.WaitEnd codeptr) goes = no-child-left run W after I J past t position codeptr goes
keeps-waits run W after I J past t position (Sync sync.Worksharing stage.WaitEnd codeptr) goes =
    and_from _ _ (wait-passes run W after I J past t position sync.Worksharing codeptr refl goes) refl
keeps-waits run W after I J past t position (Sync sync.Parallel stage.WaitEnd codeptr) goes =
    and_from _ _ (wait-passes run W after I J past t position sync.Parallel codeptr refl goes) refl
keeps-waits run W after I J past t position (Sync which stage.RegionBegin codeptr) goes = refl
keeps-waits run W after I J past t position (Sync which stage.WaitBegin codeptr) goes = refl
keeps-waits run W after I J past t position (Sync which stage.RegionEnd codeptr) goes = refl
keeps-waits run W after I J past t position (Dispatch (Chunk start count)) goes = refl
keeps-waits run W after I J past t position (Dispatch (Section codeptr)) goes = refl
keeps-waits run W after I J past t position e goes = refl
