-- Where tasks stand on stacks, and what threads are to do, after the Back of an event.
use Rattle.std.proofs.Common.{ℕ, ◌≡◌, ◌≢◌, ◌<◌, ◌≤◌, ◌==◌, ◌⊎◌, nat_lt, Bool, true, false, if◌then◌else◌, List, [], drop, slice_index_or, refl, sym, ap, ◌∙◌, subst, inl, inr, arith}
use Rattle.std.specs.Prelude.{All, Option, Some, None}
use Rattle.std.proofs.lemmas.Bool.{cases_eq, cases_lt, cases_Bool, eq-eqb, eqb-true, ne_eqb}
use Rattle.std.proofs.lemmas.List.Elements.{All-weaker}
use Rattle.c_model.specs.Task.{Task as Code}
use Rattle.c_brackets.specs.Opened.{open_task}
use Rattle.task_pool.specs.declared.task.Condition.TheVariants as condition
use Rattle.task_pool.specs.declared.task.Task.{Task as PoolTask}
use Rattle.team_parts.specs.declared.meeting.TheConstants.{TEAM_LIMIT}
use Rattle.ompt_calls.specs.declared.event.EventRecord.{EventRecord}
use Rattle.omp_model.specs.declared.limits.TheConstants.{IMPLICIT_REGION}
use Rattle.omp_model.specs.declared.parts.RegionHead.{RegionHead}
use Rattle.omp_model.specs.declared.parts.ThreadStage.{ThreadStage}
use Rattle.omp_model.specs.declared.parts.ThreadStage.TheVariants as thread_stage
use Rattle.omp_model.specs.declared.event.Event.{Event}
use Rattle.omp_model.specs.declared.event.Event.TheVariants.{MemberEnd, ParallelBegin, ParallelEnd, TaskCreate, TaskEnd, ThreadEnd}
use Rattle.omp_model.specs.declared.event.Share.{Share}
use Rattle.omp_model.specs.State.{Run, Thread, World, pooled_at, region_at, task_at, thread_at}
use Rattle.omp_model.specs.Changes.{stage_once_made, with_invitation}
use Rattle.omp_model.specs.Members.{current, current_region, is_outermost, member_index, region_of}
use Rattle.omp_model.specs.Conditions.{IsUnderWay}
use Rattle.omp_model.specs.MadeWorld.{IsRegion, IsTaskOf}
use Rattle.omp_model.proofs.Touching.{Returns, forked_back, head_back, is_summoned, pooled_back, thread_back}
use Rattle.omp_model.proofs.MadeEvents.{current-below}
use Rattle.nested_runs.proofs.Recorded.{Inside}
use Rattle.nested_runs.proofs.Standing.{stand_among, stand_at}
use Rattle.nested_runs.proofs.Standing.Stand.{AtFork}
use Rattle.nested_runs.proofs.Touching.{MayTake}
use Rattle.nested_runs.proofs.Known.{HasGone, IsBusy, IsChain, IsDetained, IsCreating, IsForker, IsForking, IsIdle, IsInvited, IsLeaving, IsSeated, TellsRegion, is_running, stands_on, task_of_member}
use Rattle.nested_runs.proofs.Knows.{ComesBack, Knows}
use Rattle.nested_runs.proofs.Chains.{Grown, HasMember, KeepsPlace, all-on, apart-currents, chain-grown, first-member, lacks-current, outermost-grown, top-implicit}
use Rattle.nested_runs.proofs.Errands.{LikeThread, StaysForking, below-event, busy-like, detained-like, invited-like, shares-like}
use Rattle.nested_runs.proofs.GoFrames.{SameKind, come-kind}
use Rattle.nested_runs.proofs.GoRegions.{SameHead, head-either}
use Rattle.nested_runs.proofs.LeftRegions.{member-gone}
use Rattle.nested_runs.proofs.OpenRegions.{SameForks, open-after}

-- ---- what a Back leaves

kind-back : (W : World) (e : Event) (k : ℕ) → SameKind (pooled_at W k) (pooled_back W e k)
kind-back W (TaskCreate task true codeptr) k = record { kind = refl; region = refl }
kind-back W (TaskCreate task false codeptr) k = come-kind (k == task) (pooled_at W k) condition.Ready
kind-back W (TaskEnd task) k = come-kind (k == task) (pooled_at W k) condition.Finished
kind-back W e k = record { kind = refl; region = refl }

head-same : (W : World) (t : ℕ) (e : Event) (q : ℕ) → SameHead (region_at W q).head (head_back W t e q)
head-same W t (MemberEnd r k) q = head-either (q == r) (region_at W q).head _ (record { task = refl; ended = refl })
head-same W t e q = record { task = refl; ended = refl }

-- threads keep their stacks and shares
record SameTasks (thread after : Thread) : Type 0 where
  stack : after.stack ≡ thread.stack
  taken : after.taken ≡ thread.taken

thread-either : (is : Bool) (thread other : Thread) → SameTasks thread other → SameTasks thread (if is then other else thread)
thread-either true thread other same = same
thread-either false thread other same = record { stack = refl; taken = refl }

same-tasks : (W : World) (t : ℕ) (e : Event) (u : ℕ) → SameTasks (thread_at W u) (thread_back W t e u)
same-tasks W t ThreadEnd u = thread-either (u == t) (thread_at W u) _ (record { stack = refl; taken = refl })
same-tasks W t (ParallelBegin r requested codeptr) u = thread-either (is_summoned W t r u) (thread_at W u) _ (record { stack = refl; taken = refl })
same-tasks W t (TaskCreate task true codeptr) u = thread-either (u == t) (thread_at W u) _ (record { stack = refl; taken = refl })
same-tasks W t (TaskCreate task false codeptr) u = record { stack = refl; taken = refl }
same-tasks W t e u = record { stack = refl; taken = refl }

pub grown-back : (W after : World) (t : ℕ) (e : Event) → Returns W after t e → Grown W after
grown-back W after t e returns =
    record {
      tasks = omega (arith, returns.tasks);
      regions = omega (arith, returns.regions);
      kind = λ k below. ap (λ (x : PoolTask). x.kind) (returns.pooled k) ∙ (kind-back W e k).kind;
      region = λ k below. ap (λ (x : PoolTask). x.region) (returns.pooled k) ∙ (kind-back W e k).region;
      task = λ q below. ap (λ (x : RegionHead). x.task) (returns.head q) ∙ (head-same W t e q).task;
    }

-- the region that a task has forked is forgotten at the end of that one alone
forked-other : (W : World) (t : ℕ) (e : Event) (k : ℕ) → (k ≡ current W t → ⊥) → forked_back W t e k ≡ (task_at W k).forked
forked-other W t (ParallelEnd r codeptr) k other = ap (λ is. if is then 0 else (task_at W k).forked) (ne_eqb k (current W t) other)
forked-other W t e k other = refl

module _ (run : Run) (W after : World) (I J : Inside) (past : List EventRecord) (t : ℕ) where
  same-stand : (e : Event) → ComesBack run W after I J past t e → (k : ℕ) → stand_at after k ≡ stand_at W k
  same-stand e back k = ap (λ (code : Code). stand_among code.todo) (back.returns.code k)

  same-stack : (e : Event) → ComesBack run W after I J past t e → (u : ℕ) → (thread_at after u).stack ≡ (thread_at W u).stack
  same-stack e back u = ap (λ (x : Thread). x.stack) (back.returns.thread u) ∙ (same-tasks W t e u).stack

  same-taken : (e : Event) → ComesBack run W after I J past t e → (u : ℕ) → (thread_at after u).taken ≡ (thread_at W u).taken
  same-taken e back u = ap (λ (x : Thread). x.taken) (back.returns.thread u) ∙ (same-tasks W t e u).taken

  busy-at : (e : Event) → ComesBack run W after I J past t e → IsBusy W t (Some e)
  busy-at e back = subst (IsBusy W t) back.within (back.knows.seats.busy t)

  -- ---- open regions and chains

  at-fork : (e : Event) → ComesBack run W after I J past t e → (k : ℕ) → stand_at W k ≡ AtFork → forked_back W t e k ≡ (task_at W k).forked
  at-fork (ParallelEnd r codeptr) back k at =
      forked-other W t (ParallelEnd r codeptr) k (λ is. (busy-at (ParallelEnd r codeptr) back).stand (ap (stand_at W) (sym is) ∙ at))
  at-fork e back k at = refl

  pub same-forks-back : (e : Event) → ComesBack run W after I J past t e → SameForks W after
  same-forks-back e back =
      record {
        regions = back.returns.regions;
        ended = λ q. ap (λ (x : RegionHead). x.ended) (back.returns.head q) ∙ (head-same W t e q).ended;
        task = λ q. ap (λ (x : RegionHead). x.task) (back.returns.head q) ∙ (head-same W t e q).task;
        forked = λ k at. back.returns.forked k ∙ at-fork e back k at;
        at = λ k at. same-stand e back k ∙ at;
        was = λ k at. sym (same-stand e back k) ∙ at;
        stacked = λ k at on. subst (λ u. stands_on k (thread_at after u).stack ≡ true) (sym (back.returns.owner k))
            (ap (stands_on k) (same-stack e back (task_at W k).thread) ∙ on);
      }

  places-back : (e : Event) → ComesBack run W after I J past t e → (u : ℕ) → All (KeepsPlace W after) (drop 1 (thread_at W u).stack)
  places-back (ParallelEnd r codeptr) back u =
      All-weaker (λ (k : ℕ). k ≡ current W t → ⊥) (KeepsPlace W after)
      (λ k other.
      let stands = same-stand (ParallelEnd r codeptr) back k in
      record {
        forked = back.returns.forked k ∙ forked-other W t (ParallelEnd r codeptr) k other;
        at = λ at. stands ∙ at;
        apart = λ apart at. apart (sym stands ∙ at);
      })
      (drop 1 (thread_at W u).stack) (lacks-current W t u back.knows.sound.orderly (busy-at (ParallelEnd r codeptr) back).some)
  places-back e back u =
      λ i d within.
      let k = slice_index_or (drop 1 (thread_at W u).stack) i d in
      let stands = same-stand e back k in
      record { forked = back.returns.forked k; at = λ at. stands ∙ at; apart = λ apart at. apart (sym stands ∙ at) }

  pub chain-back : (e : Event) → ComesBack run W after I J past t e → (u : ℕ) → IsChain after u (thread_at after u).stack
  chain-back e back u =
      let sound = back.knows.sound in
      subst (IsChain after u) (sym (same-stack e back u))
      (chain-grown W after sound.made (grown-back W after t e back.returns) u (thread_at W u).stack (sound.made.threads u).stacked (places-back e back u)
      (back.knows.seats.chain u))

  -- ---- the threads that are to join an outermost region

  -- while it begins, no other thread has a task: its first one would be a member of an outermost region that is open still
  module _ (r requested codeptr : ℕ) (back : ComesBack run W after I J past t (ParallelBegin r requested codeptr)) (outermost : is_outermost W r ≡ true) where
    on-zeroth : t ≡ 0
    on-zeroth =
        let seats = back.knows.seats in
        let busy = busy-at (ParallelBegin r requested codeptr) back in
        let there : current_region W t ≡ IMPLICIT_REGION = ap (region_of W) (sym busy.task)
        ∙ eqb-true (region_of W (region_at W r).head.task) IMPLICIT_REGION outermost in
        (top-implicit W back.knows.sound.made seats.forks t (thread_at W t).stack (seats.chain t) busy.errand.some there).thread

    no-members : (i : ℕ) → task_of_member W r i ≡ 0
    no-members = subst (IsLeaving W past t) back.within (back.knows.members.leaving t)

    no-member : (u : ℕ) → HasMember W u (thread_at W u).stack → ⊥
    no-member u has =
        elim (cases_Bool (region_at W q).head.ended) [
          | inl over ↦
              let gone : HasGone W past (task_of_member W q i) = member-gone W past q i tells (tells.ended over) within fits in
              let finished : (pooled_at W k).condition ≡ condition.Finished = subst (λ j. (pooled_at W j).condition ≡ condition.Finished) seat.member
              gone.finished in
              let started = under.started in
              cc
          | inr still ↦
              let same : q ≡ r = back.knows.seats.outer q r (record { forked = seat.region; made = region.below; open_still = still })
              (busy-at (ParallelBegin r requested codeptr) back).region has.member.outermost outermost in
              absurd (omega (arith, task.made.some, seat.member, ap (λ p. task_of_member W p i) same, no-members i))
        ]
      where
        knows : Knows run W I past
        knows = back.knows

        k : ℕ
        k = has.first

        q : ℕ
        q = region_of W k

        i : ℕ
        i = member_index W (task_at W k).thread q

        under : IsUnderWay W u k
        under = all-on (IsUnderWay W u) k (thread_at W u).stack (knows.sound.orderly.stacked u) has.on

        task : IsTaskOf W u k
        task = all-on (IsTaskOf W u) k (thread_at W u).stack (knows.sound.made.threads u).stacked has.on

        seat : IsSeated W k
        seat = knows.members.seated k task.made has.member.kind

        region : IsRegion W q
        region = knows.sound.made.placed k task.made

        tells : TellsRegion W past q
        tells = knows.members.region q seat.region region.below

        within : i < (region_at W q).head.size
        within =
            elim (cases_lt i (region_at W q).head.size) [
              | inl below ↦ below
              | inr beyond ↦ absurd
                  (omega (arith, task.made.some, seat.member, tells.beyond i beyond))
            ]

        fits : i < TEAM_LIMIT
        fits = omega (arith, within, (knows.sound.made.regions q region).fits, knows.sound.threads, knows.sound.whole.few)

    pub no-tasks : (u : ℕ) → (u ≡ t → ⊥) → (thread_at W u).stack ≡ []
    no-tasks u other =
        elim (first-member W u (thread_at W u).stack (λ zeroth. other (zeroth ∙ sym on-zeroth)) (back.knows.seats.chain u)) [
          | inl none ↦ none
          | inr has ↦ absurd (no-member u has)
        ]

  -- ---- what threads are to do

  -- a thread has an errand now: to join a region, or to start an undeferred task
  record HasErrand (u : ℕ) : Type 0 where
    invited : 1 ≤ (thread_at after u).invited → IsInvited after u (thread_at after u).invited
    detained : 1 ≤ (thread_at after u).undeferred → IsDetained after u (thread_at after u).undeferred
    taken : (thread_at after u).taken ≡ None
    busy : (u ≡ t → ⊥) → (event : Option Event) → IsBusy W u event → IsBusy after u event

  like-of : (e : Event) → ComesBack run W after I J past t e → (u : ℕ) → (thread_back W t e u).invited ≡ (thread_at W u).invited →
      (thread_back W t e u).undeferred ≡ (thread_at W u).undeferred → LikeThread W after u
  like-of e back u invited undeferred =
      let stands = same-stand e back (current W u) in
      record {
        stack = same-stack e back u;
        invited = ap (λ (x : Thread). x.invited) (back.returns.thread u) ∙ invited;
        undeferred = ap (λ (x : Thread). x.undeferred) (back.returns.thread u) ∙ undeferred;
        free = λ is. stands ∙ is;
        apart = λ apart is. apart (sym stands ∙ is);
        opens = ap open_task (back.returns.code (current W u));
      }

  same-current : (e : Event) → ComesBack run W after I J past t e → (u : ℕ) → current after u ≡ current W u
  same-current e back u = ap (λ (ks : List ℕ). slice_index_or ks 0 0) (same-stack e back u)

  -- a thread with no task has no share, and no undeferred task to start
  none-taken : (u : ℕ) (share : Option Share) → MayTake W u share → current W u ≡ 0 → share ≡ None
  none-taken u None takes none = refl
  none-taken u (Some share) takes none = absurd (omega (arith, takes.some, none))

  -- .. and is inside no callback of a task
  busy-empty : (u : ℕ) → (thread_at after u).stack ≡ [] → current W u ≡ 0 → (event : Option Event) → IsBusy W u event → IsBusy after u event
  busy-empty u empty none (Some ThreadEnd) busy = empty
  busy-empty u empty none (Some (ParallelBegin r requested codeptr)) busy = absurd (omega (arith, busy.errand.some, none))
  busy-empty u empty none (Some (ParallelEnd r codeptr)) busy = absurd (omega (arith, busy.some, none))
  busy-empty u empty none (Some (TaskCreate task undeferred codeptr)) busy = absurd (omega (arith, busy.errand.some, none))
  busy-empty u empty none event busy = tt

  -- what a thread has that is to join the region
  record MayJoin (r u : ℕ) : Type 0 where
    on : IsForker W u r ⊎ IsIdle W u r
    undeferred : (thread_at W u).undeferred ≡ 0
    taken : (thread_at W u).taken ≡ None

  module _ (r requested codeptr : ℕ) (back : ComesBack run W after I J past t (ParallelBegin r requested codeptr)) where
    begins : IsForking W t r
    begins = busy-at (ParallelBegin r requested codeptr) back

    -- another thread is summoned to an outermost region alone, and has no task
    other-outermost : (u : ℕ) → (u ≡ t → ⊥) → is_summoned W t r u ≡ true → is_outermost W r ≡ true
    other-outermost u other is =
        elim (cases_Bool (is_outermost W r)) [
          | inl outermost ↦ outermost
          | inr inner ↦ absurd (other (eqb-true u t (ap (λ b. if b then nat_lt u (region_at W r).head.size else u == t) (sym inner) ∙ is)))
        ]

    joins : (u : ℕ) → is_summoned W t r u ≡ true → MayJoin r u
    joins u is =
        elim (cases_eq u t) [
          | inl same ↦ subst (MayJoin r) (sym same) (record {
            on = inl (record { some = begins.errand.some; task = begins.task });
            undeferred = begins.errand.undeferred;
            taken = begins.errand.taken;
          })
          | inr other ↦
              let outermost = other-outermost u other is in
              let empty = no-tasks r requested codeptr back outermost u other in
              let none : current W u ≡ 0 = ap (λ (ks : List ℕ). slice_index_or ks 0 0) empty in
              let zeroth = on-zeroth r requested codeptr back outermost in
              let idle : IsIdle W u r = record { stack = empty; outermost = outermost; other = λ is. other (is ∙ sym zeroth) } in
              let undeferred : (thread_at W u).undeferred ≡ 0 = elim (cases_lt 0 (thread_at W u).undeferred) [
                | inl some ↦ absurd (omega (arith, none, (back.knows.seats.detained u some).some))
                | inr less ↦ omega arith
              ] in
              record { on = inr idle; undeferred = undeferred; taken = none-taken u (thread_at W u).taken (back.knows.seats.shares u) none }
        ]

    summons : (u : ℕ) → is_summoned W t r u ≡ true → HasErrand u
    summons u is =
        let may = joins u is in
        let now : thread_at after u ≡ with_invitation r (thread_at W u) = back.returns.thread u
        ∙ ap (λ b. if b then with_invitation r (thread_at W u) else thread_at W u) is in
        let same = same-current (ParallelBegin r requested codeptr) back u in
        let stack = same-stack (ParallelBegin r requested codeptr) back u in
        let grown = grown-back W after t (ParallelBegin r requested codeptr) back.returns in
        let invited : (thread_at after u).invited ≡ r = ap (λ (x : Thread). x.invited) now in
        let undeferred : (thread_at after u).undeferred ≡ 0 = ap (λ (x : Thread). x.undeferred) now ∙ may.undeferred in
        let taken : (thread_at after u).taken ≡ None = ap (λ (x : Thread). x.taken) now ∙ may.taken in
        let region = open-after W after (same-forks-back (ParallelBegin r requested codeptr) back) r begins.region in
        let made : IsRegion W r = record { some = omega (arith, begins.region.forked); below = begins.region.made } in
        let joining : IsInvited after u r = record {
          region = region;
          on = elim may.on [
            | inl forker ↦ inl (record { some = rw same forker.some; task = grown.task r begins.region.made ∙ forker.task ∙ sym same })
            | inr idle ↦ inr (record {
              stack = stack ∙ idle.stack;
              outermost = outermost-grown W after r back.knows.sound.made grown made ∙ idle.outermost;
              other = idle.other;
            })
          ];
          undeferred = undeferred;
          taken = taken;
        } in
        record {
          invited = λ some. subst (IsInvited after u) (sym invited) joining;
          detained = λ some. absurd (omega (arith, undeferred));
          taken = taken;
          busy = λ other.
              let empty = no-tasks r requested codeptr back (other-outermost u other is) u other in
              busy-empty u (stack ∙ empty) (ap (λ (ks : List ℕ). slice_index_or ks 0 0) empty);
        }

  -- the thread of an undeferred task that was created is to start it
  detains : (task codeptr : ℕ) → ComesBack run W after I J past t (TaskCreate task true codeptr) → HasErrand t
  detains task codeptr back =
      let busy : IsCreating W t task = busy-at (TaskCreate task true codeptr) back in
      let now : thread_at after t ≡ record (thread_at W t) { undeferred = task } =
      back.returns.thread t ∙ ap (λ b. if b then record (thread_at W t) { undeferred = task } else thread_at W t) (eq-eqb t t refl) in
      let same = same-current (TaskCreate task true codeptr) back t in
      let grown = grown-back W after t (TaskCreate task true codeptr) back.returns in
      let below = (back.knows.sound.events t (TaskCreate task true codeptr) back.within).occurred.named.made.below in
      let invited : (thread_at after t).invited ≡ 0 = ap (λ (x : Thread). x.invited) now ∙ busy.errand.invited in
      let undeferred : (thread_at after t).undeferred ≡ task = ap (λ (x : Thread). x.undeferred) now in
      let taken : (thread_at after t).taken ≡ None = ap (λ (x : Thread). x.taken) now ∙ busy.errand.taken in
      let detained : IsDetained after t task = record {
        some = rw same busy.errand.some;
        region = grown.region task below ∙ busy.region ∙ sym (ap (region_of after) same ∙ grown.region (current W t) (current-below W t back.knows.sound.made));
        stand = ap (stand_at after) same ∙ same-stand (TaskCreate task true codeptr) back (current W t) ∙ busy.stand;
        invited = invited;
        taken = taken;
      } in
      record {
        invited = λ some. absurd (omega (arith, invited));
        detained = λ some. subst (IsDetained after t) (sym undeferred) detained;
        taken = taken;
        busy = λ other. absurd (other refl);
      }

  -- a thread is to do what it was to do, or has an errand now
  either-number : (is : Bool) (thread other : Thread) (field : Thread → ℕ) → field other ≡ field thread → field (if is then other else thread) ≡ field thread
  either-number true thread other field same = same
  either-number false thread other field same = refl

  back-thread : (e : Event) → ComesBack run W after I J past t e → (u : ℕ) → LikeThread W after u ⊎ HasErrand u
  back-thread ThreadEnd back u =
      inl (like-of ThreadEnd back u (either-number (u == t) (thread_at W u) _ (λ x. x.invited) refl)
      (either-number (u == t) (thread_at W u) _ (λ x. x.undeferred) refl))
  back-thread (ParallelBegin r requested codeptr) back u =
      elim (cases_Bool (is_summoned W t r u)) [
        | inl is ↦ inr (summons r requested codeptr back u is)
        | inr apart ↦ let same = ap (λ b. if b then with_invitation r (thread_at W u) else thread_at W u) apart in
            inl (like-of (ParallelBegin r requested codeptr) back u (ap (λ (x : Thread). x.invited) same) (ap (λ (x : Thread). x.undeferred) same))
      ]
  back-thread (TaskCreate task true codeptr) back u =
      elim (cases_eq u t) [
        | inl is ↦ inr (subst HasErrand (sym is) (detains task codeptr back))
        | inr other ↦ let same = ap (λ b. if b then record (thread_at W u) { undeferred = task } else thread_at W u) (ne_eqb u t other) in
            inl (like-of (TaskCreate task true codeptr) back u (ap (λ (x : Thread). x.invited) same) (ap (λ (x : Thread). x.undeferred) same))
      ]
  back-thread (TaskCreate task false codeptr) back u = inl (like-of (TaskCreate task false codeptr) back u refl refl)
  back-thread e back u = inl (like-of e back u refl refl)

  -- no thread is invited to a region that another one is forking
  uninvited-back : (e : Event) → ComesBack run W after I J past t e → (u r : ℕ) → (u ≡ t → ⊥) → IsForking W u r → (v : ℕ) → (thread_at after v).invited ≢ r
  uninvited-back ThreadEnd back u r other forking v is =
      forking.uninvited v (sym (ap (λ (x : Thread). x.invited) (back.returns.thread v) ∙ either-number (v == t) (thread_at W v) _ (λ x. x.invited) refl) ∙ is)
  uninvited-back (ParallelBegin q requested codeptr) back u r other forking v is =
      elim (cases_Bool (is_summoned W t q v)) [
        | inl called ↦
            let busy : IsForking W t q = busy-at (ParallelBegin q requested codeptr) back in
            let now = back.returns.thread v ∙ ap (λ b. if b then with_invitation q (thread_at W v) else thread_at W v) called in
            let same : q ≡ r = sym (ap (λ (x : Thread). x.invited) now) ∙ is in
            apart-currents W t u back.knows.sound.orderly busy.errand.some other (sym forking.task ∙ ap (λ p. (region_at W p).head.task) (sym same) ∙ busy.task)
        | inr apart ↦
            let now = back.returns.thread v ∙ ap (λ b. if b then with_invitation q (thread_at W v) else thread_at W v) apart in
            forking.uninvited v (sym (ap (λ (x : Thread). x.invited) now) ∙ is)
      ]
  uninvited-back (TaskCreate task true codeptr) back u r other forking v is =
      forking.uninvited v (sym (ap (λ (x : Thread). x.invited) (back.returns.thread v) ∙ either-number (v == t) (thread_at W v) _ (λ x. x.invited) refl) ∙ is)
  uninvited-back (TaskCreate task false codeptr) back u r other forking v is =
      forking.uninvited v (sym (ap (λ (x : Thread). x.invited) (back.returns.thread v)) ∙ is)
  uninvited-back e back u r other forking v is = forking.uninvited v (sym (ap (λ (x : Thread). x.invited) (back.returns.thread v)) ∙ is)

  stays-forking : (e : Event) → ComesBack run W after I J past t e → (u : ℕ) → (u ≡ t → ⊥) → (event : Option Event) → IsBusy W u event →
      StaysForking after event
  stays-forking e back u other (Some (ParallelBegin r requested codeptr)) busy =
      (open-after W after (same-forks-back e back) r busy.region, uninvited-back e back u r other busy)
  stays-forking e back u other event busy = tt

  -- a thread that ends has no task, and one that is made hasn't begun
  out-made : (stage : ThreadStage) → is_running (stage_once_made stage) ≡ false → is_running stage ≡ false
  out-made thread_stage.Unmade out = refl
  out-made thread_stage.Made out = refl
  out-made thread_stage.Begun out = cc
  out-made thread_stage.Ended out = refl

  idle-before : (e : Event) → ComesBack run W after I J past t e → (u : ℕ) → is_running (thread_back W t e u).stage ≡ false → (thread_at W u).stack ≡ []
  idle-before ThreadEnd back u out =
      elim (cases_eq u t) [
        | inl same ↦ subst (λ v. (thread_at W v).stack ≡ []) (sym same) (busy-at ThreadEnd back)
        | inr other ↦ back.knows.seats.idle u
            (ap (λ b. is_running (if b then record (thread_at W u) { stage = thread_stage.Ended } else thread_at W u).stage) (sym (ne_eqb u t other)) ∙ out)
      ]
  idle-before (ParallelBegin r requested codeptr) back u out =
      elim (cases_Bool (is_summoned W t r u)) [
        | inl called ↦ back.knows.seats.idle u (out-made (thread_at W u).stage
            (ap (λ b. is_running (if b then with_invitation r (thread_at W u) else thread_at W u).stage) (sym called) ∙ out))
        | inr apart ↦ back.knows.seats.idle u (ap (λ b. is_running (if b then with_invitation r (thread_at W u) else thread_at W u).stage) (sym apart) ∙ out)
      ]
  idle-before (TaskCreate task true codeptr) back u out =
      elim (cases_Bool (u == t)) [
        | inl called ↦ back.knows.seats.idle u (ap (λ b. is_running (if b then record (thread_at W u) { undeferred = task } else thread_at W u).stage)
            (sym called) ∙ out)
        | inr apart ↦ back.knows.seats.idle u (ap (λ b. is_running (if b then record (thread_at W u) { undeferred = task } else thread_at W u).stage)
            (sym apart) ∙ out)
      ]
  idle-before (TaskCreate task false codeptr) back u out = back.knows.seats.idle u out
  idle-before e back u out = back.knows.seats.idle u out

  -- ---- all

  module _ (e : Event) (back : ComesBack run W after I J past t e) where
    grown : Grown W after
    grown = grown-back W after t e back.returns

    pub idle-back : (u : ℕ) → is_running (thread_at after u).stage ≡ false → (thread_at after u).stack ≡ []
    idle-back u out = same-stack e back u ∙ idle-before e back u (ap (λ (x : Thread). is_running x.stage) (sym (back.returns.thread u)) ∙ out)

    pub invited-back : (u : ℕ) → 1 ≤ (thread_at after u).invited → IsInvited after u (thread_at after u).invited
    invited-back u some =
        elim (back-thread e back u) [
          | inl like ↦
              let yet : 1 ≤ (thread_at W u).invited = rw (← like.invited) some in
              let invited = back.knows.seats.invited u yet in
              let region = open-after W after (same-forks-back e back) (thread_at W u).invited invited.region in
              subst (IsInvited after u) (sym like.invited) (invited-like W after back.knows.sound.made grown u like (thread_at W u).invited invited region
              (same-taken e back u ∙ invited.taken))
          | inr errand ↦ errand.invited some
        ]

    pub detained-back : (u : ℕ) → 1 ≤ (thread_at after u).undeferred → IsDetained after u (thread_at after u).undeferred
    detained-back u some =
        elim (back-thread e back u) [
          | inl like ↦
              let yet : 1 ≤ (thread_at W u).undeferred = rw (← like.undeferred) some in
              let detained = back.knows.seats.detained u yet in
              let there = ((back.knows.sound.made.threads u).starts yet).made.below in
              subst (IsDetained after u) (sym like.undeferred) (detained-like W after back.knows.sound.made grown u like (thread_at W u).undeferred there
              detained (same-taken e back u ∙ detained.taken))
          | inr errand ↦ errand.detained some
        ]

    pub shares-back : (u : ℕ) → MayTake after u (thread_at after u).taken
    shares-back u =
        elim (back-thread e back u) [
          | inl like ↦ shares-like W after back.knows.sound.made grown u like (same-taken e back u) (back.knows.seats.shares u)
          | inr errand ↦ subst (MayTake after u) (sym errand.taken) tt
        ]

    pub busy-back : (u : ℕ) → IsBusy after u (J u)
    busy-back u =
        elim (cases_eq u t) [
          | inl same ↦ subst (λ v. IsBusy after v (J v)) (sym same) (subst (IsBusy after t) (sym back.enters.own) tt)
          | inr other ↦ subst (IsBusy after u) (sym (back.enters.others u other)) (elim (back-thread e back u) [
            | inl like ↦ busy-like W after back.knows.sound.made grown u like (I u) (same-taken e back u) (below-event run W I back.knows.sound u (I u) refl)
                (stays-forking e back u other (I u) (back.knows.seats.busy u)) (back.knows.seats.busy u)
            | inr errand ↦ errand.busy other (I u) (back.knows.seats.busy u)
          ])
        ]
