-- What the Go of an event changes of the members of a team, and how many waits a task has begun.
use Rattle.std.proofs.Common.{ℕ, ◌≡◌, ◌≢◌, ◌<◌, ◌≤◌, ◌+◌, Bool, true, false, if◌then◌else◌, List, ◌∷◌, length, slice_index_or, slice_set, refl, sym, ap, ◌∙◌, subst, inl, inr, arith}
use Rattle.std.specs.Prelude.{Option, Some, None}
use Rattle.std.proofs.lemmas.Bool.{cases_Bool, cond_both, eq-eqb, ne_eqb, true≢false}
use Rattle.std.proofs.lemmas.List.{get_or-set_other, get_or-set_same}
use Rattle.std.proofs.lemmas.List.Sums.{sum_by-cons}
use Rattle.c_model.specs.declared.point.SyncStage.TheVariants as stage
use Rattle.ompt_calls.specs.declared.event.EventRecord.{EventRecord}
use Rattle.team_parts.specs.declared.meeting.Meeting.{Meeting}
use Rattle.team_parts.specs.declared.member.Member.{Member}
use Rattle.team_parts.specs.Meetings.{TeamMeeting}
use Rattle.team_parts.specs.Team.{TeamView, after_meeting, member_at, new_member, with_meeting, with_passed, with_place}
use Rattle.omp_model.specs.declared.event.Endpoint.TheVariants.{Begin}
use Rattle.omp_model.specs.declared.event.Event.{Event}
use Rattle.omp_model.specs.declared.event.Event.TheVariants.{InitialTaskBegin, InitialTaskEnd, MemberBegin, MemberEnd, ParallelBegin, Sync, TaskBegin, TaskEnd, ThreadBegin, ThreadEnd, Dispatch, Work}
use Rattle.omp_model.specs.State.{Run, Thread, World, region_at}
use Rattle.omp_model.specs.Members.{current, current_index, current_region}
use Rattle.omp_model.specs.Gates.{is_barrier}
use Rattle.omp_model.specs.EventEffects.{barrier_met}
use Rattle.omp_model.proofs.Touching.{AtBarrierElse, Meets, SameTeam, is_of_code}
use Rattle.trace_check.specs.Before.{is_just, waiter, waits_of}
use Rattle.nested_runs.proofs.Coming.{Comes}
use Rattle.nested_runs.proofs.Effects.{stand_before}
use Rattle.nested_runs.proofs.Knows.{Goes}
use Rattle.nested_runs.proofs.Readings.{waiting_by}
use Rattle.nested_runs.proofs.Recorded.{Inside, recorded}
use Rattle.nested_runs.proofs.Standing.{stand_at}
use Rattle.nested_runs.proofs.CallReadings.{waiter-is}
use Rattle.nested_runs.proofs.PooledTasks.{by-case, current-same}

-- ---- events of the code of the current task

-- where the code of the current task stands, and that there is one
pub comes-stand : (W : World) (t : ℕ) (e : Event) → is_of_code e ≡ true → Comes W t e → stand_at W (current W t) ≡ stand_before e
comes-stand W t ThreadBegin code comes = absurd (true≢false (sym code))
comes-stand W t ThreadEnd code comes = absurd (true≢false (sym code))
comes-stand W t InitialTaskBegin code comes = absurd (true≢false (sym code))
comes-stand W t InitialTaskEnd code comes = absurd (true≢false (sym code))
comes-stand W t (MemberBegin r k) code comes = absurd (true≢false (sym code))
comes-stand W t (MemberEnd r k) code comes = absurd (true≢false (sym code))
comes-stand W t (TaskBegin prior task) code comes = absurd (true≢false (sym code))
comes-stand W t (TaskEnd task) code comes = absurd (true≢false (sym code))
comes-stand W t (Dispatch share) code comes = absurd (true≢false (sym code))
comes-stand W t e code comes = comes.0.stand

pub comes-some : (W : World) (t : ℕ) (e : Event) → is_of_code e ≡ true → Comes W t e → 1 ≤ current W t
comes-some W t ThreadBegin code comes = absurd (true≢false (sym code))
comes-some W t ThreadEnd code comes = absurd (true≢false (sym code))
comes-some W t InitialTaskBegin code comes = absurd (true≢false (sym code))
comes-some W t InitialTaskEnd code comes = absurd (true≢false (sym code))
comes-some W t (MemberBegin r k) code comes = absurd (true≢false (sym code))
comes-some W t (MemberEnd r k) code comes = absurd (true≢false (sym code))
comes-some W t (TaskBegin prior task) code comes = absurd (true≢false (sym code))
comes-some W t (TaskEnd task) code comes = absurd (true≢false (sym code))
comes-some W t (Dispatch share) code comes = absurd (true≢false (sym code))
comes-some W t e code comes = comes.0.within.some

-- ---- a team where one member meets something

-- a meeting is new or was there, and the members are the same
placed-members : (team : TeamView) (met : Option TeamMeeting) (what : Meeting) → (with_place team met what).members ≡ team.members
placed-members team None what = refl
placed-members team (Some met) what = refl

-- one member has met something
met-members : (team : TeamView) (i : ℕ) (what : Meeting) → (after_meeting team i what).members ≡ slice_set team.members i (with_meeting (member_at team i) what)
met-members team i what = ap (λ (members : List Member). slice_set members i (with_meeting (member_at team i) what)) (placed-members team _ what)

-- each other member is the same
other-met : (team : TeamView) (i j : ℕ) (what : Meeting) → (j ≡ i → ⊥) → member_at (after_meeting team i what) j ≡ member_at team j
other-met team i j what other =
    ap (λ (members : List Member). slice_index_or members j new_member) (met-members team i what) ∙ get_or-set_other team.members i j _ new_member other

own-met : (team : TeamView) (i : ℕ) (what : Meeting) → i < length team.members → member_at (after_meeting team i what) i ≡ with_meeting (member_at team i) what
own-met team i what within =
    ap (λ (members : List Member). slice_index_or members i new_member) (met-members team i what) ∙ get_or-set_same team.members i _ new_member within

-- ---- the members after the Go of an event

-- an event that changes the member of the current task: a meeting, or the end of a wait
abbrev pub moves : Event → Bool
moves (Work Begin which count codeptr) = true
moves (Sync which stage.RegionBegin codeptr) = is_barrier which
moves (Sync which stage.WaitEnd codeptr) = is_barrier which
moves other = false

pub moves-code : (e : Event) → moves e ≡ true → is_of_code e ≡ true
moves-code (Work Begin which count codeptr) moved = refl
moves-code (Sync which stage.RegionBegin codeptr) moved = refl
moves-code (Sync which stage.WaitEnd codeptr) moved = refl
moves-code e moved = absurd (true≢false (sym moved))

-- the barrier that it meets, and at how many its wait has ended then
abbrev pub met_by : Event → ℕ
met_by (Sync which stage.RegionBegin codeptr) = if is_barrier which then 1 else 0
met_by other = 0

abbrev pub passed_by : Event → Member → ℕ
passed_by (Sync which stage.WaitEnd codeptr) member = if is_barrier which then member.barriers else member.passed
passed_by other member = member.passed

pub record OwnMember (e : Event) (member after : Member) : Type 0 where
  pub barriers : after.barriers ≡ member.barriers + met_by e
  pub begun : after.begun ≡ member.begun
  pub passed : after.passed ≡ passed_by e member

-- one of two, by whether the event is at a barrier
at-barrier : (b : Bool) (P Q R : Type 0) → AtBarrierElse b P Q → (b ≡ true → P → R) → (b ≡ false → Q → R) → R
at-barrier true P Q R at first second = first refl at
at-barrier false P Q R at first second = second refl at

-- the same member
abbrev pub SameMember : World → World → ℕ → ℕ → Type 0
SameMember W after q i = member_at (region_at after q).team i ≡ member_at (region_at W q).team i

module _ (run : Run) (W after : World) (I J : Inside) (past : List EventRecord) (t : ℕ) where
  apart-met : (q i : ℕ) (what : Meeting) → (q ≡ current_region W t → i ≡ current_index W t → ⊥) → Meets W after t q what → SameMember W after q i
  apart-met q i what apart meets =
      ap (λ (team : TeamView). member_at team i) meets.team
      ∙ by-case (λ (team : TeamView). member_at team i ≡ member_at (region_at W q).team i) q (current_region W t) _ _
      (λ is. other-met (region_at W q).team (current_index W t) i what (λ here. apart is here)) refl

  -- each member but that of the current task
  pub same-member : (e : Event) → Goes run W after I J past t e → (q i : ℕ) → q ≢ length W.regions →
      (moves e ≡ true → q ≡ current_region W t → i ≡ current_index W t → ⊥) → SameMember W after q i
  same-member (ParallelBegin r requested codeptr) goes q i other apart =
      ap (λ (team : TeamView). member_at team i) (goes.touches.world.team q)
      ∙ by-case (λ (team : TeamView). member_at team i ≡ member_at (region_at W q).team i) q r _ _ (λ is. absurd (other (is ∙ goes.comes.1.region))) refl
  same-member (Work Begin which count codeptr) goes q i other apart =
      let meets = goes.touches.world.team q in apart-met q i meets.what (apart refl) meets.meets
  same-member (Sync which stage.RegionBegin codeptr) goes q i other apart =
      at-barrier (is_barrier which) (Meets W after t q (barrier_met codeptr which)) (SameTeam W after q) (SameMember W after q i) (goes.touches.world.team q)
      (λ barrier meets. apart-met q i (barrier_met codeptr which) (apart barrier) meets) (λ barrier same. ap (λ (team : TeamView). member_at team i) same)
  same-member (Sync which stage.WaitEnd codeptr) goes q i other apart =
      ap (λ (team : TeamView). member_at team i) (goes.touches.world.team q)
      ∙ cond_both (is_barrier which) _ _ (λ (team : TeamView). member_at team i ≡ member_at (region_at W q).team i)
      (λ barrier. by-case (λ (team : TeamView). member_at team i ≡ member_at (region_at W q).team i) q (current_region W t) _ _
      (λ is. get_or-set_other (region_at W q).team.members (current_index W t) i _ new_member (λ here. apart barrier is here)) refl)
      (λ barrier. refl)
  same-member (Sync which stage.WaitBegin codeptr) goes q i other apart = ap (λ (team : TeamView). member_at team i) (goes.touches.world.team q)
  same-member (Sync which stage.RegionEnd codeptr) goes q i other apart = ap (λ (team : TeamView). member_at team i) (goes.touches.world.team q)
  same-member e goes q i other apart = ap (λ (team : TeamView). member_at team i) (goes.touches.world.team q)

  -- where the current task's member meets something
  own-meeting : (q i : ℕ) (what : Meeting) → q ≡ current_region W t → i ≡ current_index W t → i < length (region_at W q).team.members → Meets W after t q what →
      member_at (region_at after q).team i ≡ with_meeting (member_at (region_at W q).team i) what
  own-meeting q i what is here within meets =
      ap (λ (team : TeamView). member_at team i) meets.team
      ∙ rw (eq-eqb q (current_region W t) is)
      (subst (λ j. member_at (after_meeting (region_at W q).team j what) i ≡ with_meeting (member_at (region_at W q).team i) what) here
      (own-met (region_at W q).team i what within))

  -- the member is the same, where nothing is met and no wait ends
  unmoved : (e : Event) (q i : ℕ) → met_by e ≡ 0 → passed_by e (member_at (region_at W q).team i) ≡ (member_at (region_at W q).team i).passed →
      SameMember W after q i →
      OwnMember e (member_at (region_at W q).team i) (member_at (region_at after q).team i)
  unmoved e q i none passed same =
      record {
        barriers = ap (λ (m : Member). m.barriers) same ∙ omega (arith, none);
        begun = ap (λ (m : Member). m.begun) same;
        passed = ap (λ (m : Member). m.passed) same ∙ sym passed;
      }

  -- the member of the current task
  pub own-member : (e : Event) → Goes run W after I J past t e → (q i : ℕ) → q ≢ length W.regions → q ≡ current_region W t → i ≡ current_index W t →
      i < length (region_at W q).team.members → OwnMember e (member_at (region_at W q).team i) (member_at (region_at after q).team i)
  own-member (Work Begin which count codeptr) goes q i other is here within =
      let meets = goes.touches.world.team q in
      let met = own-meeting q i meets.what is here within meets.meets in
      record {
        barriers = ap (λ (m : Member). m.barriers) met ∙ rw meets.work (omega arith);
        begun = ap (λ (m : Member). m.begun) met;
        passed = ap (λ (m : Member). m.passed) met;
      }
  own-member (Sync which stage.RegionBegin codeptr) goes q i other is here within =
      at-barrier (is_barrier which) (Meets W after t q (barrier_met codeptr which)) (SameTeam W after q)
      (OwnMember (Sync which stage.RegionBegin codeptr) (member_at (region_at W q).team i) (member_at (region_at after q).team i)) (goes.touches.world.team q)
      (λ barrier meets.
      let met = own-meeting q i (barrier_met codeptr which) is here within meets in
      record {
        barriers = ap (λ (m : Member). m.barriers) met ∙ rw barrier refl;
        begun = ap (λ (m : Member). m.begun) met;
        passed = ap (λ (m : Member). m.passed) met;
      })
      (λ barrier same. unmoved (Sync which stage.RegionBegin codeptr) q i (rw barrier refl) refl (ap (λ (team : TeamView). member_at team i) same))
  own-member (Sync which stage.WaitEnd codeptr) goes q i other is here within =
      elim (cases_Bool (is_barrier which)) [
        | inl barrier ↦
            let passed : member_at (region_at after q).team i ≡ record
            (member_at (region_at W q).team i) { passed = (member_at (region_at W q).team i).barriers } =
            ap (λ (team : TeamView). member_at team i) (goes.touches.world.team q)
            ∙ rw (barrier, eq-eqb q (current_region W t) is)
            (subst (λ j. member_at (with_passed (region_at W q).team j) i ≡ record
            (member_at (region_at W q).team i) { passed = (member_at (region_at W q).team i).barriers }) here
            (get_or-set_same (region_at W q).team.members i _ new_member within)) in
            record {
              barriers = ap (λ (m : Member). m.barriers) passed ∙ omega arith;
              begun = ap (λ (m : Member). m.begun) passed;
              passed = ap (λ (m : Member). m.passed) passed ∙ rw barrier refl;
            }
        | inr barrier ↦
            unmoved (Sync which stage.WaitEnd codeptr) q i refl (rw barrier refl)
            (same-member (Sync which stage.WaitEnd codeptr) goes q i other (λ moved. absurd (true≢false (sym moved ∙ barrier))))
      ]
  own-member (Sync which stage.WaitBegin codeptr) goes q i other is here within =
      unmoved (Sync which stage.WaitBegin codeptr) q i refl refl
      (same-member (Sync which stage.WaitBegin codeptr) goes q i other (λ moved. absurd (true≢false (sym moved))))
  own-member (Sync which stage.RegionEnd codeptr) goes q i other is here within =
      unmoved (Sync which stage.RegionEnd codeptr) q i refl refl
      (same-member (Sync which stage.RegionEnd codeptr) goes q i other (λ moved. absurd (true≢false (sym moved))))
  own-member e goes q i other is here within = unmoved e q i refl refl (same-member e goes q i other (λ moved. absurd (true≢false (sym moved))))

-- ---- waits

-- whether a wait at a barrier begins
abbrev pub waits_by : Event → ℕ
waits_by (Sync which stage.WaitBegin codeptr) = if is_barrier which then 1 else 0
waits_by other = 0

abbrev one_if : Bool → ℕ
one_if b = if b then 1 else 0

-- one more wait is counted for this task, and none for another one
counted : (b : Bool) (k c : ℕ) → c ≡ k → one_if (is_just k (if b then Some c else None)) ≡ one_if b
counted true k c is = rw (eq-eqb c k is) refl
counted false k c is = refl

uncounted : (b : Bool) (k c : ℕ) → (c ≡ k → ⊥) → one_if (is_just k (if b then Some c else None)) ≡ 0
uncounted true k c other = rw (ne_eqb c k other) refl
uncounted false k c other = refl

module _ (position t : ℕ) (W : World) (e : Event) (past : List EventRecord) where
  -- how many waits a task has begun
  waits-grow : (k : ℕ) → waits_of k (recorded position t W e ∷ past) ≡ waits_of k past + one_if (is_just k (waiting_by W t e))
  waits-grow k =
      sum_by-cons (λ (event : EventRecord). if is_just k (waiter event.call) then 1 else 0) (recorded position t W e) past
      ∙ (ap (λ one. one_if (is_just k one) + waits_of k past) (waiter-is W t e) ∙ omega arith)

  pub waits-more : (k : ℕ) → waits_of k past ≤ waits_of k (recorded position t W e ∷ past)
  waits-more k = omega (arith, waits-grow k)

module _ (run : Run) (W after : World) (I J : Inside) (past : List EventRecord) (t position : ℕ) where
  -- what is counted for the current task, and for another one
  own-wait : (e : Event) → Goes run W after I J past t e → one_if (is_just (current W t) (waiting_by after t e)) ≡ waits_by e
  own-wait (Sync which stage.WaitBegin codeptr) goes =
      counted (is_barrier which) (current W t) (current after t) (current-same W after t (ap (λ (x : Thread). x.stack) goes.touches.world.own))
  own-wait (Sync which stage.RegionBegin codeptr) goes = refl
  own-wait (Sync which stage.WaitEnd codeptr) goes = refl
  own-wait (Sync which stage.RegionEnd codeptr) goes = refl
  own-wait e goes = refl

  other-wait : (e : Event) → Goes run W after I J past t e → (k : ℕ) → (is_of_code e ≡ true → k ≡ current W t → ⊥) →
      one_if (is_just k (waiting_by after t e)) ≡ 0
  other-wait (Sync which stage.WaitBegin codeptr) goes k apart =
      uncounted (is_barrier which) k (current after t) (λ is. apart refl (sym is ∙ current-same W after t (ap (λ (x : Thread). x.stack) goes.touches.world.own)))
  other-wait (Sync which stage.RegionBegin codeptr) goes k apart = refl
  other-wait (Sync which stage.WaitEnd codeptr) goes k apart = refl
  other-wait (Sync which stage.RegionEnd codeptr) goes k apart = refl
  other-wait e goes k apart = refl

  -- the waits of the current task, and of another one
  pub waits-own : (e : Event) → Goes run W after I J past t e →
      waits_of (current W t) (recorded position t after e ∷ past) ≡ waits_of (current W t) past + waits_by e
  waits-own e goes = waits-grow position t after e past (current W t) ∙ ap (λ n. waits_of (current W t) past + n) (own-wait e goes)

  pub waits-same : (e : Event) → Goes run W after I J past t e → (k : ℕ) → (is_of_code e ≡ true → k ≡ current W t → ⊥) →
      waits_of k (recorded position t after e ∷ past) ≡ waits_of k past
  waits-same e goes k apart = waits-grow position t after e past k ∙ (ap (λ n. waits_of k past + n) (other-wait e goes k apart) ∙ omega arith)
