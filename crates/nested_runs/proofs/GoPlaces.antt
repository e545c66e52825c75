-- The places of implicit tasks in their regions through the Go of an event, and who is to join a region and to leave it.
use Rattle.std.proofs.Common.{ℕ, ◌≡◌, ◌<◌, ◌≤◌, ◌+◌, ◌==◌, Bool, true, false, if◌then◌else◌, List, ◌∷◌, length, refl, sym, ap, ◌∙◌, subst, inl, inr, arith}
use Rattle.std.specs.Prelude.{Option, Some}
use Rattle.std.proofs.lemmas.Bool.{cases_eq, eq-eqb, or_left, true≢false}
use Rattle.ompt_calls.specs.declared.event.EventRecord.{EventRecord}
use Rattle.task_pool.specs.declared.task.Task.{Task as PoolTask}
use Rattle.task_pool.specs.declared.task.TaskKind.TheVariants as kind
use Rattle.task_pool.specs.Tasks.{is_explicit}
use Rattle.omp_model.specs.declared.event.Event.{Event}
use Rattle.omp_model.specs.declared.event.Event.TheVariants.{InitialTaskBegin, MemberBegin, MemberEnd, ParallelBegin, TaskBegin, TaskCreate}
use Rattle.omp_model.specs.State.{Run, Thread, World, pooled_at, task_at, thread_at}
use Rattle.omp_model.specs.EventEffects.{kind_of_task}
use Rattle.omp_model.specs.MadeWorld.{IsTask}
use Rattle.omp_model.specs.Members.{current, current_region, is_outermost, member_index, region_of}
use Rattle.omp_model.proofs.Touching.{tasks_after, thread_after}
use Rattle.nested_runs.proofs.Known.{HasGone, IsBusy, IsInvited, IsLeaving, IsSeated, task_of_member}
use Rattle.nested_runs.proofs.Knows.{Goes, Knows}
use Rattle.nested_runs.proofs.Recorded.{Inside, recorded}
use Rattle.nested_runs.proofs.CarriedMembers.{gone-carried, seated-carried, seated-started}
use Rattle.nested_runs.proofs.JoinReadings.{left-more, left-still}
use Rattle.nested_runs.proofs.PooledTasks.{apart}
use Rattle.nested_runs.proofs.RegionHeads.{Joins, JoinsAt, fresh-region, index-stays, kind-stays, member-cases, member-seated, new-member, old-member, region-made}
use Rattle.nested_runs.proofs.GoMembers.{carries-go, started-go}

-- one task at most is made
one-more-task : (e : Event) (count : ℕ) → tasks_after e count ≤ count + 1
one-more-task (MemberBegin r k) count = omega arith
one-more-task (TaskCreate task undeferred codeptr) count = omega arith
one-more-task e count = omega arith

-- what a thread is to join it is still to join, or it is to join none
own-invited : (e : Event) (thread : Thread) → 1 ≤ (thread_after e thread).invited → (thread_after e thread).invited ≡ thread.invited
own-invited InitialTaskBegin thread some = absurd (omega (arith, some))
own-invited (MemberBegin r k) thread some = absurd (omega (arith, some))
own-invited (TaskBegin prior task) thread some = absurd (omega (arith, some))
own-invited e thread some = refl

joins-none : (e : Event) (thread : Thread) (q : ℕ) → Joins e q → 1 ≤ (thread_after e thread).invited → ⊥
joins-none (MemberBegin r k) thread q joins some = omega (arith, some)
joins-none e thread q joins some = joins

-- ---- two threads that are to join a region have two numbers in it

outermost-index : (W : World) (u r : ℕ) → is_outermost W r ≡ true → member_index W u r ≡ u
outermost-index W u r outermost = ap (λ (b : Bool). if b then u else 0) outermost

same-number : (W : World) (t u r : ℕ) → is_outermost W r ≡ true → member_index W u r ≡ member_index W t r → u ≡ t
same-number W t u r outermost same = sym (outermost-index W u r outermost) ∙ (same ∙ outermost-index W t r outermost)

pub one-invited : (run : Run) (W : World) (I : Inside) (past : List EventRecord) → Knows run W I past → (t u r : ℕ) → IsInvited W t r → IsInvited W u r →
    member_index W u r ≡ member_index W t r → u ≡ t
one-invited run W I past knows t u r first second same =
    elim second.on [
      | inr idle ↦ same-number W t u r idle.outermost same
      | inl forker ↦ elim first.on [
        | inr idle ↦ same-number W t u r idle.outermost same
        | inl other ↦ apart W knows.sound.orderly t u forker.some (sym forker.task ∙ other.task)
      ]
    ]

module _ (run : Run) (W after : World) (I J : Inside) (past : List EventRecord) (t position : ℕ) where
  -- ---- implicit tasks

  explicit-kind : (undeferred : Bool) → is_explicit (kind_of_task undeferred) ≡ true
  explicit-kind true = refl
  explicit-kind false = refl

  new-seated : (e : Event) → Goes run W after I J past t e → (k : ℕ) → k ≡ length W.tasks → IsTask after k → (pooled_at after k).kind ≡ kind.Implicit →
      IsSeated after k
  new-seated (MemberBegin q task) goes k is made implicit =
      let new = new-member run W after I J past t (MemberBegin q task) goes q (member_index W t q) (refl, refl) in
      let here : (k == task) ≡ true = eq-eqb k task (is ∙ sym goes.comes.task) in
      let region : region_of after k ≡ q = ap (λ (x : PoolTask). x.region) (goes.touches.world.pooled k) ∙ rw here refl in
      let thread : (task_at after k).thread ≡ t = goes.touches.world.owner k ∙ rw here refl in
      record {
        region = subst (λ p. 2 ≤ p) (sym region) new.forked;
        member =
            subst (λ p. task_of_member after p (member_index after (task_at after k).thread p) ≡ k) (sym region)
            (ap (λ u. task_of_member after q (member_index after u q)) thread
            ∙ (ap (task_of_member after q) (index-stays run W after I J past t (MemberBegin q task) goes t q new.some new.made) ∙ (new.task ∙ sym is)));
      }
  new-seated (TaskCreate task undeferred codeptr) goes k is made implicit =
      let kind : (pooled_at after k).kind ≡ kind_of_task undeferred =
      ap (λ (x : PoolTask). x.kind) (goes.touches.world.pooled k) ∙ rw (eq-eqb k task (is ∙ sym goes.comes.1)) refl in
      absurd (true≢false (sym (explicit-kind undeferred) ∙ (ap is_explicit (sym kind) ∙ ap is_explicit implicit)))
  new-seated e goes k is made implicit = absurd (omega (arith, is, made.below, goes.touches.world.tasks))

  pub seated-go : (e : Event) → Goes run W after I J past t e → (k : ℕ) → IsTask after k → (pooled_at after k).kind ≡ kind.Implicit → IsSeated after k
  seated-go e goes k made implicit =
      elim (cases_eq k (length W.tasks)) [
        | inl is ↦ new-seated e goes k is made implicit
        | inr other ↦
            let before : IsTask W k =
            record { some = made.some; below = omega (arith, other, made.below, goes.touches.world.tasks, one-more-task e (length W.tasks)) } in
            let seated = goes.knows.members.seated k before (sym (kind-stays run W after I J past t e goes k other) ∙ implicit) in
            let below : region_of W k < length W.regions = (goes.knows.sound.made.placed k before).below in
            let started = seated-started run W I past goes.knows k before seated in
            let carried = started-go run W after I J past t e goes k before started in
            seated-carried W after past past (carries-go run W after I J past t e goes) k carried below seated
            (elim (member-cases run W after I J past t e goes (region_of W k) (member_index W (task_at W k).thread (region_of W k)) seated.region
            (λ is. omega (arith, is, below))) [
              | inl joins ↦ absurd (omega (arith, made.some, sym seated.member ∙ joins.1.none))
              | inr same ↦ same.1
            ])
      ]

  -- ---- who is to join

  invited-same : (e : Event) → Goes run W after I J past t e → (u : ℕ) → 1 ≤ (thread_at after u).invited → (thread_at after u).invited ≡ (thread_at W u).invited
  invited-same e goes u some =
      elim (cases_eq u t) [
        | inl is ↦
            let own : thread_at after u ≡ thread_after e (thread_at W u) =
            subst (λ v. thread_at after v ≡ thread_after e (thread_at W v)) (sym is) goes.touches.world.own in
            ap (λ (x : Thread). x.invited) own ∙ own-invited e (thread_at W u) (subst (λ (x : Thread). 1 ≤ x.invited) own some)
        | inr other ↦ ap (λ (x : Thread). x.invited) (goes.touches.world.others u other)
      ]

  -- who joins was to join it
  joins-invited : (e : Event) → Goes run W after I J past t e → (q : ℕ) → Joins e q → (thread_at W t).invited ≡ q
  joins-invited (MemberBegin r k) goes q joins = goes.comes.region ∙ sym joins
  joins-invited e goes q joins = absurd joins

  -- the place of another one isn't taken
  alone : (e : Event) → Goes run W after I J past t e → (u : ℕ) → 1 ≤ (thread_at after u).invited →
      JoinsAt W t e (thread_at W u).invited (member_index W u (thread_at W u).invited) → ⊥
  alone e goes u some joins =
      let r : ℕ = (thread_at W u).invited in
      let here : 1 ≤ r = subst (λ n. 1 ≤ n) (invited-same e goes u some) some in
      let asked : (thread_at W t).invited ≡ r = joins-invited e goes r joins.0 in
      let first : IsInvited W t r = subst (IsInvited W t) asked (goes.knows.seats.invited t (subst (λ n. 1 ≤ n) (sym asked) here)) in
      let is : u ≡ t = one-invited run W I past goes.knows t u r first (goes.knows.seats.invited u here) joins.1 in
      let own : thread_at after u ≡ thread_after e (thread_at W t) = ap (thread_at after) is ∙ goes.touches.world.own in
      joins-none e (thread_at W t) r joins.0 (subst (λ (x : Thread). 1 ≤ x.invited) own some)

  pub room-go : (e : Event) → Goes run W after I J past t e → (u : ℕ) → 1 ≤ (thread_at after u).invited →
      task_of_member after (thread_at after u).invited (member_index after u (thread_at after u).invited) ≡ 0
  room-go e goes u some =
      let r : ℕ = (thread_at W u).invited in
      let same : (thread_at after u).invited ≡ r = invited-same e goes u some in
      let here : 1 ≤ r = subst (λ n. 1 ≤ n) same some in
      let named = goes.knows.sound.made.threads u in
      let below : r < length W.regions = (named.joins here).made.below in
      subst (λ q. task_of_member after q (member_index after u q) ≡ 0) (sym same)
      (ap (task_of_member after r) (index-stays run W after I J past t e goes u r here below)
      ∙ elim (member-cases run W after I J past t e goes r (member_index W u r) (named.forks here) (λ is. omega (arith, is, below))) [
        | inl joins ↦ absurd (alone e goes u some joins.0)
        | inr apart ↦ apart.1 ∙ goes.knows.members.room u here
      ])

  -- ---- who leaves

  leaving-own : (e : Event) → Goes run W after I J past t e → IsLeaving after (recorded position t after e ∷ past) t (Some e)
  leaving-own (MemberEnd r k) goes =
      let e : Event = MemberEnd r k in
      let is : k ≡ current W t = goes.comes.task in
      let some : 1 ≤ current W t = goes.comes.within.some in
      let seated = member-seated run W I past t goes.knows some (subst (λ j. (pooled_at W j).kind ≡ kind.Implicit) is goes.comes.kind) in
      let region : r ≡ current_region W t = goes.comes.region ∙ ap (region_of W) is in
      let forked : 2 ≤ r = subst (λ q. 2 ≤ q) (sym region) seated.0 in
      let below : r < length W.regions =
      subst (λ q. q < length W.regions) (sym region) (region-made run W I past t goes.knows some).below in
      let place : task_of_member W r (member_index W t r) ≡ k =
      subst (λ q. task_of_member W q (member_index W t q) ≡ k) (sym region) (seated.1 ∙ sym is) in
      let gone : HasGone after (recorded position t after e ∷ past) k =
      record {
        some = subst (λ j. 1 ≤ j) (sym is) some;
        left = left-more position t after e past k ∙ or_left (k == k) _ (eq-eqb k k refl);
        finished = ap (λ (x : PoolTask). x.condition) (goes.touches.world.pooled k) ∙ rw (eq-eqb k k refl) refl;
      } in (
        gone,
        (
          forked,
          ap (task_of_member after r) (index-stays run W after I J past t e goes t r (omega (arith, forked)) below)
              ∙ (old-member run W after I J past t e goes r (member_index W t r) forked (λ end. omega (arith, end, below)) (λ joins. joins.0) ∙ place),
        ),
      )
  leaving-own (ParallelBegin r requested codeptr) goes =
      (fresh-region run W after I J past t (ParallelBegin r requested codeptr) goes r goes.comes.1.region
      (omega (arith, goes.comes.1.region, goes.touches.world.regions))).member
  leaving-own e goes = tt

  leaving-other : (e : Event) → Goes run W after I J past t e → (u : ℕ) (within : Option Event) → I u ≡ within → IsLeaving W past u within →
      IsLeaving after (recorded position t after e ∷ past) u within
  leaving-other e goes u (Some (MemberEnd r k)) inside leaving =
      let named = (goes.knows.sound.events u (MemberEnd r k) inside).occurred.named in
      let below : r < length W.regions = named.region.below in (
        gone-carried W after past _ (carries-go run W after I J past t e goes) k named.task (left-still position t after e past k) leaving.0,
        (
          leaving.1.0,
          ap (task_of_member after r) (index-stays run W after I J past t e goes u r named.region.some below)
              ∙ elim (member-cases run W after I J past t e goes r (member_index W u r) leaving.1.0 (λ is. omega (arith, is, below))) [
                | inl joins ↦ absurd (omega (arith, leaving.0.some, sym leaving.1.1 ∙ joins.1.none))
                | inr same ↦ same.1 ∙ leaving.1.1
              ],
        ),
      )
  leaving-other e goes u (Some (ParallelBegin r requested codeptr)) inside leaving =
      λ i.
      let forking = subst (IsBusy W u) inside (goes.knows.seats.busy u) in
      let below : r < length W.regions = forking.region.made in
      elim (member-cases run W after I J past t e goes r i forking.region.forked (λ is. omega (arith, is, below))) [
        | inl joins ↦ absurd (forking.uninvited t (joins-invited e goes r joins.0.0))
        | inr same ↦ same.1 ∙ leaving i
      ]
  leaving-other e goes u within inside leaving = tt

  pub leaving-go : (e : Event) → Goes run W after I J past t e → (u : ℕ) → IsLeaving after (recorded position t after e ∷ past) u (J u)
  leaving-go e goes u =
      elim (cases_eq u t) [
        | inl is ↦
            subst (λ v. IsLeaving after (recorded position t after e ∷ past) v (J v)) (sym is)
            (subst (IsLeaving after (recorded position t after e ∷ past) t) (sym goes.enters.own) (leaving-own e goes))
        | inr other ↦
            subst (IsLeaving after (recorded position t after e ∷ past) u) (sym (goes.enters.others u other))
            (leaving-other e goes u (I u) refl (goes.knows.members.leaving u))
      ]
