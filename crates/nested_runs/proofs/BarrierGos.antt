-- What is told of the waits of members after the Go of an event.
use Rattle.std.proofs.Common.{ℕ, ◌≡◌, ◌<◌, ◌≤◌, ◌⊎◌, true, false, List, ◌∷◌, length, refl, sym, ap, ◌∙◌, subst, inl, inr, arith}
use Rattle.std.specs.Prelude.{Some}
use Rattle.std.proofs.lemmas.Bool.{cases_Bool, cases_eq, cond_both, true≢false}
use Rattle.c_model.specs.declared.point.SyncStage.TheVariants as stage
use Rattle.ompt_calls.specs.declared.event.EventRecord.{EventRecord}
use Rattle.task_pool.specs.Tasks.{is_explicit, unfinished}
use Rattle.team_parts.specs.declared.member.Member.{Member}
use Rattle.team_parts.specs.Team.{may_pass, member_at}
use Rattle.omp_model.specs.declared.event.Endpoint.TheVariants.{Begin}
use Rattle.omp_model.specs.declared.event.Event.{Event}
use Rattle.omp_model.specs.declared.event.Event.TheVariants.{MutexAcquire, ParallelBegin, Sync, Work}
use Rattle.omp_model.specs.State.{Run, Thread, World, first, region_at}
use Rattle.omp_model.specs.Gates.{is_barrier}
use Rattle.omp_model.specs.Members.{current, current_index, current_region, is_explicit_task}
use Rattle.omp_model.proofs.Touching.{is_of_code}
use Rattle.trace_check.specs.Before.{joins, waits_of}
use Rattle.nested_runs.proofs.Effects.{stand_after}
use Rattle.nested_runs.proofs.Known.{AtBarrier, HasNotMet, HaveBegun, IsWaiting, TellsMember, owed, task_of_member}
use Rattle.nested_runs.proofs.Knows.{Goes}
use Rattle.nested_runs.proofs.Recorded.{Inside, recorded}
use Rattle.nested_runs.proofs.Standing.{stand_at}
use Rattle.nested_runs.proofs.Standing.Stand.{AtSync}
use Rattle.nested_runs.proofs.PooledTasks.{tasks-grow, apart, current-made, current-same}
use Rattle.nested_runs.proofs.RegionHeads.{IsNewMember, JoinsAt, fresh-region, head-same, kind-stays, member-cases, old-region, one-place, place-within, plain-seated}
use Rattle.nested_runs.proofs.TeamMembers.{OwnMember, SameMember, comes-some, comes-stand, moves, moves-code, own-member, passed_by, same-member, waits-more, waits-own, waits-same, waits_by}
use Rattle.nested_runs.proofs.BarrierStands.{balance, at-kept, waiting-kept, unmade-stand, unmet-kept, joins-unmoved}
use Rattle.nested_runs.proofs.WaitEnds.{may-end-passes, all-begun}

module _ (run : Run) (W after : World) (I J : Inside) (past : List EventRecord) (t position : ℕ) where
  -- what moves a member is of a task that isn't explicit
  moves-plain : (e : Event) → Goes run W after I J past t e → moves e ≡ true → is_explicit_task W (current W t) ≡ false
  moves-plain (Work Begin which count codeptr) goes moved = goes.comes.1
  moves-plain (Sync which stage.RegionBegin codeptr) goes moved = goes.comes.1 moved
  moves-plain (Sync which stage.WaitEnd codeptr) goes moved =
      (subst (λ stand. AtBarrier W past (current W t) stand) goes.comes.0.stand (goes.knows.barriers.at (current W t)) moved).0
  moves-plain e goes moved = absurd (true≢false (sym moved))

  -- its member is the one with its number
  moved-place : (e : Event) → Goes run W after I J past t e → moves e ≡ true → (q i : ℕ) → 2 ≤ q → q ≡ current_region W t → i ≡ current_index W t →
      task_of_member W q i ≡ current W t
  moved-place e goes moved q i forked is here =
      let some = comes-some W t e (moves-code e moved) goes.comes in
      let seated = plain-seated run W I past t goes.knows some (moves-plain e goes moved) (subst (λ r. 2 ≤ r) is forked) in
      subst (λ r. task_of_member W r i ≡ current W t) (sym is) (subst (λ j. task_of_member W (current_region W t) j ≡ current W t) (sym here) seated)

  -- the member of the current task
  own-told : (e : Event) → Goes run W after I J past t e → is_of_code e ≡ true → (r i : ℕ) → 2 ≤ r → r < length W.regions → task_of_member W r i ≡ current W t →
      TellsMember after (recorded position t after e ∷ past) r i (current W t)
  own-told e goes code r i forked made is =
      let some = comes-some W t e code goes.comes in
      let place = one-place run W I past t goes.knows some r i forked made is in
      let within : i < length (region_at W r).team.members =
      subst (λ q. i < length (region_at W q).team.members) (sym place.0)
      (subst (λ j. j < length (region_at W (current_region W t)).team.members) (sym place.1) (place-within run W I past t goes.knows some)) in
      let own = own-member run W after I J past t e goes r i (λ is. omega (arith, is, made)) place.0 place.1 within in
      let known : TellsMember W past r i (current W t) =
      subst (TellsMember W past r i) is (goes.knows.barriers.member r i forked made (subst (λ k. 1 ≤ k) (sym is) some)) in
      let before = ap owed (comes-stand W t e code goes.comes) in
      let behind = ap owed (goes.touches.stand_own code) in
      let grown = waits-own run W after I J past t position e goes in
      record {
        waits = omega (arith, own.barriers, known.waits, before, behind, grown, balance e);
        begun = omega (arith, own.begun, known.begun, grown);
      }

  -- the member of another task, or of the current one at an event beside its code
  other-told : (e : Event) → Goes run W after I J past t e → (r i : ℕ) → 2 ≤ r → r < length W.regions →
      (is_of_code e ≡ true → task_of_member W r i ≡ current W t → ⊥) →
      1 ≤ task_of_member W r i → TellsMember after (recorded position t after e ∷ past) r i (task_of_member W r i)
  other-told e goes r i forked made apart some =
      let known = goes.knows.barriers.member r i forked made some in
      let same = same-member run W after I J past t e goes r i (λ is. omega (arith, is, made))
      (λ moved is here. apart (moves-code e moved) (moved-place e goes moved r i forked is here)) in
      let stand = ap owed (goes.touches.stands (task_of_member W r i) apart) in
      let waits = waits-same run W after I J past t position e goes (task_of_member W r i) apart in
      record {
        waits = omega (arith, known.waits, stand, waits, ap (λ (m : Member). m.barriers) same);
        begun = omega (arith, known.begun, waits, ap (λ (m : Member). m.begun) same);
      }

  -- a task that is made just now isn't the current one
  not-new : (e : Event) → Goes run W after I J past t e → (k : ℕ) → length W.tasks ≤ k → is_of_code e ≡ true → k ≡ current W t → ⊥
  not-new e goes k new code is =
      omega (arith, is, new, (current-made W t goes.knows.sound.made (comes-some W t e code goes.comes)).made.below)

  -- the member that joins
  new-told : (e : Event) → Goes run W after I J past t e → (r i : ℕ) → JoinsAt W t e r i → IsNewMember run W after I J past t r i →
      TellsMember after (recorded position t after e ∷ past) r i (length W.tasks)
  new-told e goes r i joins new =
      let unmet = goes.knows.barriers.unmet r i new.forked new.made new.none in
      let same = same-member run W after I J past t e goes r i (λ is. omega (arith, is, new.made)) (λ moved is here. joins-unmoved e r joins.0 moved) in
      let waits = waits-same run W after I J past t position e goes (length W.tasks) (not-new e goes (length W.tasks) (omega arith)) in
      let stand =
      ap owed (goes.touches.stands (length W.tasks) (not-new e goes (length W.tasks) (omega arith)) ∙ unmade-stand W (length W.tasks) (omega arith)) in
      let none = goes.knows.barriers.fresh (length W.tasks) (omega arith) in
      record {
        waits = omega (arith, unmet.barriers, stand, waits, none, ap (λ (m : Member). m.barriers) same);
        begun = omega (arith, unmet.begun, ap (λ (m : Member). m.begun) same);
      }

  -- each member that was there
  old-told : (e : Event) → Goes run W after I J past t e → (r i : ℕ) → 2 ≤ r → r < length W.regions → 1 ≤ task_of_member W r i →
      TellsMember after (recorded position t after e ∷ past) r i (task_of_member W r i)
  old-told e goes r i forked made some =
      elim (cases_Bool (is_of_code e)) [
        | inl code ↦ elim (cases_eq (task_of_member W r i) (current W t)) [
          | inl is ↦ subst (TellsMember after (recorded position t after e ∷ past) r i) (sym is) (own-told e goes code r i forked made is)
          | inr other ↦ other-told e goes r i forked made (λ same. other) some
        ]
        | inr beside ↦ other-told e goes r i forked made (λ code is. true≢false (sym code ∙ beside)) some
      ]

  -- each member
  pub member-go : (e : Event) → Goes run W after I J past t e → (r i : ℕ) → 2 ≤ r → r < length after.regions → 1 ≤ task_of_member after r i →
      TellsMember after (recorded position t after e ∷ past) r i (task_of_member after r i)
  member-go e goes r i forked made some =
      elim (cases_eq r (length W.regions)) [
        | inl is ↦ absurd (omega (arith, some, (fresh-region run W after I J past t e goes r is made).member i))
        | inr other ↦ elim (member-cases run W after I J past t e goes r i forked other) [
          | inl joined ↦ subst (TellsMember after (recorded position t after e ∷ past) r i) (sym joined.1.task) (new-told e goes r i joined.0 joined.1)
          | inr old ↦
              subst (TellsMember after (recorded position t after e ∷ past) r i) (sym old.1)
              (old-told e goes r i forked (old-region run W after I J past t e goes r made other) (subst (λ k. 1 ≤ k) old.1 some))
        ]
      ]

  -- each place without a member
  pub unmet-go : (e : Event) → Goes run W after I J past t e → (r i : ℕ) → 2 ≤ r → r < length after.regions → task_of_member after r i ≡ 0 → HasNotMet after r i
  unmet-go e goes r i forked made none =
      elim (cases_eq r (length W.regions)) [
        | inl is ↦
            let new = (fresh-region run W after I J past t e goes r is made).new i in
            record {
              met = ap (λ (m : Member). m.met) new;
              barriers = ap (λ (m : Member). m.barriers) new;
              begun = ap (λ (m : Member). m.begun) new;
              passed = ap (λ (m : Member). m.passed) new;
            }
        | inr other ↦ elim (member-cases run W after I J past t e goes r i forked other) [
          | inl joined ↦ absurd (omega (arith, none, joined.1.task, goes.knows.sound.made.initial.below))
          | inr old ↦
              let before : task_of_member W r i ≡ 0 = sym old.1 ∙ none in
              unmet-kept W after r i
              (same-member run W after I J past t e goes r i other
              (λ moved is here. omega (arith, before, moved-place e goes moved r i forked is here, comes-some W t e (moves-code e moved) goes.comes)))
              (goes.knows.barriers.unmet r i forked (old-region run W after I J past t e goes r made other) before)
        ]
      ]

  -- each member is that of the current task or the same
  own-or-same : (e : Event) → Goes run W after I J past t e → (r i : ℕ) → 1 ≤ r → r < length W.regions → i < (region_at W r).head.size →
      (((r ≡ current_region W t) × (i ≡ current_index W t)) × OwnMember e (member_at (region_at W r).team i)
      (member_at (region_at after r).team i)) ⊎ SameMember W after r i
  own-or-same e goes r i some made within =
      let region = goes.knows.sound.made.regions r (record { some = some; below = made }) in
      elim (cases_eq r (current_region W t)) [
        | inl is ↦ elim (cases_eq i (current_index W t)) [
          | inl here ↦
              inl ((is, here), own-member run W after I J past t e goes r i (λ new. omega (arith, new, made)) is here (omega (arith, region.team, within)))
          | inr apart ↦ inr (same-member run W after I J past t e goes r i (λ new. omega (arith, new, made)) (λ moved is here. apart here))
        ]
        | inr other ↦ inr (same-member run W after I J past t e goes r i (λ new. omega (arith, new, made)) (λ moved is here. other is))
      ]

  -- none has begun more waits
  begun-same : (e : Event) → Goes run W after I J past t e → (r j : ℕ) → 1 ≤ r → r < length W.regions → j < (region_at W r).head.size →
      (member_at (region_at after r).team j).begun ≡ (member_at (region_at W r).team j).begun
  begun-same e goes r j some made within =
      elim (own-or-same e goes r j some made within) [ inl own ↦ own.1.begun | inr same ↦ ap (λ (m : Member). m.begun) same ]

  -- where a wait ends, each member has begun as many
  passed-bound : (e : Event) → Goes run W after I J past t e → (r i j : ℕ) → 2 ≤ r → r < length W.regions → i < (region_at W r).head.size →
      j < (region_at W r).head.size →
      r ≡ current_region W t → i ≡ current_index W t → passed_by e (member_at (region_at W r).team i) ≤ (member_at (region_at W r).team j).begun
  passed-bound (Sync which stage.WaitEnd codeptr) goes r i j forked made first second is here =
      let size = (goes.knows.sound.made.regions r (record { some = omega (arith, forked); below = made })).team in
      let known = goes.knows.barriers.passed r forked made in
      cond_both (is_barrier which) _ _ (λ n. n ≤ (member_at (region_at W r).team j).begun)
      (λ barrier.
      let may = may-end-passes W t which barrier goes.comes.1 in
      all-begun (region_at W r).team i (unfinished W.pool.tasks (current_region W t))
      (subst (λ q. may_pass (region_at W q).team i (unfinished W.pool.tasks (current_region W t)) ≡ true) (sym is)
      (subst (λ p. may_pass (region_at W (current_region W t)).team p (unfinished W.pool.tasks (current_region W t)) ≡ true) (sym here) may))
      (λ p q one other. known p q (omega (arith, one, size)) (omega (arith, other, size))) j (omega (arith, second, size)))
      (λ barrier. known i j first second)
  passed-bound (Sync which stage.RegionBegin codeptr) goes r i j forked made first second is here = goes.knows.barriers.passed r forked made i j first second
  passed-bound (Sync which stage.WaitBegin codeptr) goes r i j forked made first second is here = goes.knows.barriers.passed r forked made i j first second
  passed-bound (Sync which stage.RegionEnd codeptr) goes r i j forked made first second is here = goes.knows.barriers.passed r forked made i j first second
  passed-bound e goes r i j forked made first second is here = goes.knows.barriers.passed r forked made i j first second

  old-passed : (e : Event) → Goes run W after I J past t e → (r i j : ℕ) → 2 ≤ r → r < length W.regions → i < (region_at W r).head.size →
      j < (region_at W r).head.size →
      (member_at (region_at after r).team i).passed ≤ (member_at (region_at after r).team j).begun
  old-passed e goes r i j forked made first second =
      let begun = begun-same e goes r j (omega (arith, forked)) made second in
      elim (own-or-same e goes r i (omega (arith, forked)) made first) [
        | inl own ↦ omega (arith, begun, own.1.passed, passed-bound e goes r i j forked made first second own.0.0 own.0.1)
        | inr same ↦ omega (arith, begun, ap (λ (m : Member). m.passed) same, goes.knows.barriers.passed r forked made i j first second)
      ]

  -- no wait has ended where another one hasn't begun
  pub passed-go : (e : Event) → Goes run W after I J past t e → (r : ℕ) → 2 ≤ r → r < length after.regions → HaveBegun after r
  passed-go e goes r forked made i j first second =
      elim (cases_eq r (length W.regions)) [
        | inl is ↦ omega (arith, ap (λ (m : Member). m.passed) ((fresh-region run W after I J past t e goes r is made).new i))
        | inr other ↦
            let size = (head-same run W after I J past t e goes r other).size in
            old-passed e goes r i j forked (old-region run W after I J past t e goes r made other) (omega (arith, first, size)) (omega (arith, second, size))
      ]

  -- the current task, where its code goes past the event
  at-own : (e : Event) → Goes run W after I J past t e → is_of_code e ≡ true →
      AtBarrier after (recorded position t after e ∷ past) (current W t) (stand_after e)
  at-own (Sync which stage.RegionBegin codeptr) goes code =
      λ barrier. ap is_explicit
      (kind-stays run W after I J past t (Sync which stage.RegionBegin codeptr) goes (current W t)
      (λ is. not-new (Sync which stage.RegionBegin codeptr) goes (current W t) (omega (arith, is)) refl refl))
      ∙ goes.comes.1 barrier
  at-own (Sync which stage.WaitBegin codeptr) goes code =
      λ barrier.
      let kept =
      kind-stays run W after I J past t (Sync which stage.WaitBegin codeptr) goes (current W t)
      (λ is. not-new (Sync which stage.WaitBegin codeptr) goes (current W t) (omega (arith, is)) refl refl) in
      let before : AtBarrier W past (current W t) (AtSync which stage.WaitBegin) =
      subst (λ stand. AtBarrier W past (current W t) stand) goes.comes.0.stand (goes.knows.barriers.at (current W t)) in
      let one : waits_by (Sync which stage.WaitBegin codeptr) ≡ 1 = rw barrier refl in (
        ap is_explicit kept ∙ before barrier,
        λ implicit. omega
            (arith, one, waits-own run W after I J past t position (Sync which stage.WaitBegin codeptr) goes),
      )
  at-own (Sync which stage.WaitEnd codeptr) goes code =
      λ barrier.
      let kept =
      kind-stays run W after I J past t (Sync which stage.WaitEnd codeptr) goes (current W t)
      (λ is. not-new (Sync which stage.WaitEnd codeptr) goes (current W t) (omega (arith, is)) refl refl) in
      ap is_explicit kept ∙ (subst (λ stand. AtBarrier W past (current W t) stand) goes.comes.0.stand (goes.knows.barriers.at (current W t)) barrier).0
  at-own (Sync which stage.RegionEnd codeptr) goes code = tt
  at-own (ParallelBegin r requested codeptr) goes code = tt
  at-own (MutexAcquire which id codeptr) goes code = tt
  at-own e goes code = tt

  -- another task, or the current one at an event beside its code
  at-other : (e : Event) → Goes run W after I J past t e → (k : ℕ) → (is_of_code e ≡ true → k ≡ current W t → ⊥) →
      AtBarrier after (recorded position t after e ∷ past) k (stand_at after k)
  at-other e goes k apart =
      elim (cases_eq k (length W.tasks)) [
        | inl new ↦
            subst (λ stand. AtBarrier after (recorded position t after e ∷ past) k stand)
            (sym (goes.touches.stands k apart ∙ unmade-stand W k (omega (arith, new)))) tt
        | inr other ↦
            subst (λ stand. AtBarrier after (recorded position t after e ∷ past) k stand) (sym (goes.touches.stands k apart))
            (at-kept W after past (recorded position t after e ∷ past) k (stand_at W k) (kind-stays run W after I J past t e goes k other)
            (waits-more position t after e past k)
            (goes.knows.barriers.at k))
      ]

  -- each task
  pub at-go : (e : Event) → Goes run W after I J past t e → (k : ℕ) → AtBarrier after (recorded position t after e ∷ past) k (stand_at after k)
  at-go e goes k =
      elim (cases_Bool (is_of_code e)) [
        | inl code ↦ elim (cases_eq k (current W t)) [
          | inl is ↦
              subst (λ i. AtBarrier after (recorded position t after e ∷ past) i (stand_at after i)) (sym is)
              (subst (λ stand. AtBarrier after (recorded position t after e ∷ past) (current W t) stand) (sym (goes.touches.stand_own code))
              (at-own e goes code))
          | inr other ↦ at-other e goes k (λ same. other)
        ]
        | inr beside ↦ at-other e goes k (λ code is. true≢false (sym code ∙ beside))
      ]

  -- a thread that is inside the begin of a wait
  waiting-own : (e : Event) → Goes run W after I J past t e → IsWaiting after t (Some e)
  waiting-own (Sync which stage.WaitBegin codeptr) goes =
      let same = current-same W after t (ap (λ (x : Thread). x.stack) goes.touches.world.own) in
      (subst (λ k. 1 ≤ k) (sym same) goes.comes.0.within.some, ap (stand_at after) same ∙ goes.touches.stand_own refl)
  waiting-own (Sync which stage.RegionBegin codeptr) goes = tt
  waiting-own (Sync which stage.WaitEnd codeptr) goes = tt
  waiting-own (Sync which stage.RegionEnd codeptr) goes = tt
  waiting-own e goes = tt

  pub waiting-go : (e : Event) → Goes run W after I J past t e → (u : ℕ) → IsWaiting after u (J u)
  waiting-go e goes u =
      elim (cases_eq u t) [
        | inl is ↦
            subst (λ within. IsWaiting after u within) (sym (ap J is ∙ goes.enters.own)) (subst (λ v. IsWaiting after v (Some e)) (sym is) (waiting-own e goes))
        | inr other ↦
            subst (λ within. IsWaiting after u within) (sym (goes.enters.others u other))
            (waiting-kept W after u (I u) (current-same W after u (ap (λ (x : Thread). x.stack) (goes.touches.world.others u other)))
            (λ some which at. goes.touches.stands (current W u) (λ code same. other (apart W goes.knows.sound.orderly t u some same)) ∙ at)
            (goes.knows.barriers.waiting u))
      ]

  -- a task that isn't made has begun no wait
  pub fresh-go : (e : Event) → Goes run W after I J past t e → (k : ℕ) → length after.tasks ≤ k → waits_of k (recorded position t after e ∷ past) ≡ 0
  fresh-go e goes k new =
      let old : length W.tasks ≤ k = omega (arith, new, goes.touches.world.tasks, tasks-grow e (length W.tasks)) in
      waits-same run W after I J past t position e goes k (not-new e goes k old) ∙ goes.knows.barriers.fresh k old
