-- What threads are to do after the Go of an event.
use Rattle.std.proofs.Common.{ℕ, ◌≡◌, ◌≢◌, ◌<◌, ◌≤◌, ◌==◌, ◌⊎◌, true, false, List, [], length, slice_index_or, refl, sym, ap, ◌∙◌, subst, inl, inr, arith}
use Rattle.std.specs.Prelude.{Option, Some, None}
use Rattle.std.proofs.lemmas.Bool.{cases_eq, eq-eqb, true≢false}
use Rattle.task_pool.specs.declared.task.Task.{Task as PoolTask}
use Rattle.task_pool.specs.View.{fresh_task}
use Rattle.ompt_calls.specs.declared.event.EventRecord.{EventRecord}
use Rattle.team_parts.specs.declared.meeting.TheConstants.{TEAM_LIMIT}
use Rattle.omp_model.specs.declared.parts.ThreadStage.TheVariants as thread_stage
use Rattle.omp_model.specs.declared.event.Event.{Event}
use Rattle.omp_model.specs.declared.event.Event.TheVariants.{Dispatch, InitialTaskBegin, InitialTaskEnd, MemberBegin, MemberEnd, ParallelBegin, ParallelEnd, TaskBegin, TaskCreate, TaskEnd, ThreadBegin, ThreadEnd}
use Rattle.omp_model.specs.State.{Run, Thread, World, pooled_at, region_at, thread_at}
use Rattle.omp_model.specs.Gates.{all_left}
use Rattle.omp_model.specs.Members.{current, current_region, member_index, region_of}
use Rattle.omp_model.specs.EventEffects.{kind_of_task}
use Rattle.omp_model.specs.MadeWorld.{IsMadeWorld}
use Rattle.omp_model.proofs.Arrivals.{IsQuiet}
use Rattle.omp_model.proofs.Touching.{thread_after}
use Rattle.omp_model.proofs.MadeEvents.{current-below}
use Rattle.nested_runs.proofs.Recorded.{Inside}
use Rattle.nested_runs.proofs.Standing.{Stand, stand_at}
use Rattle.nested_runs.proofs.Standing.Stand.{AtFork}
use Rattle.nested_runs.proofs.Touching.{MayTake}
use Rattle.nested_runs.proofs.Known.{HasNoErrand, IsBusy, IsDetained, IsInvited, IsOpenRegion, TellsRegion, is_running}
use Rattle.nested_runs.proofs.Knows.{Goes}
use Rattle.nested_runs.proofs.Chains.{Grown, apart-currents, no-stack}
use Rattle.nested_runs.proofs.Errands.{IsCalm, LikeThread, StaysForking, below-event, busy-like, calm-detained, calm-invited, calm-shares, detained-like, invited-like, shares-like}
use Rattle.nested_runs.proofs.GoChains.{pool-new}
use Rattle.nested_runs.proofs.GoFrames.{grown-go, like-other, taken-other}
use Rattle.nested_runs.proofs.GoRegions.{IsNotEnded, begun-task, ends-own, open-begun, open-go}
use Rattle.nested_runs.proofs.LeftRegions.{member-gone}

pub calm-of : (W : World) (t : ℕ) (thread : Thread) → thread_at W t ≡ thread → thread.invited ≡ 0 → thread.undeferred ≡ 0 → thread.taken ≡ None → IsCalm W t
calm-of W t thread is invited undeferred taken =
    record {
      invited = ap (λ (x : Thread). x.invited) is ∙ invited;
      undeferred = ap (λ (x : Thread). x.undeferred) is ∙ undeferred;
      taken = ap (λ (x : Thread). x.taken) is ∙ taken;
    }

-- a thread that begins stays as it is, but for its stage
record StaysThread (W after : World) (t : ℕ) : Type 0 where
  like : LikeThread W after t
  taken : (thread_at after t).taken ≡ (thread_at W t).taken

module _ (run : Run) (W after : World) (I J : Inside) (past : List EventRecord) (t : ℕ) where
  quiet-calm : (e : Event) → Goes run W after I J past t e → thread_after e (thread_at W t) ≡ thread_at W t → IsQuiet W t → IsCalm after t
  quiet-calm e goes same quiet = calm-of after t (thread_at W t) (goes.touches.world.own ∙ same) quiet.free.invited quiet.free.undeferred quiet.taken

  -- a thread that takes a task up has no share
  untaken : (prior k : ℕ) → Goes run W after I J past t (TaskBegin prior k) → (thread_at W t).taken ≡ None
  untaken prior k goes =
      elim goes.comes.picks [
        | inl ready ↦ ready.within.quiet.taken
        | inr own ↦ (goes.knows.seats.detained t (rw own.task goes.comes.some)).taken
      ]

  -- the event's thread is calm behind it
  own-calm : (e : Event) → Goes run W after I J past t e → StaysThread W after t ⊎ IsCalm after t
  own-calm ThreadBegin goes =
      let own = goes.touches.world.own in
      let stands = goes.touches.stands (current W t) (λ code is. cc) in
      inl (record {
        like = record {
          stack = ap (λ (x : Thread). x.stack) own;
          invited = ap (λ (x : Thread). x.invited) own;
          undeferred = ap (λ (x : Thread). x.undeferred) own;
          free = λ is. stands ∙ is;
          apart = λ apart is. apart (sym stands ∙ is);
          opens = goes.touches.opens (current W t) (λ code is. cc);
        };
        taken = ap (λ (x : Thread). x.taken) own;
      })
  own-calm ThreadEnd goes = inr (quiet-calm ThreadEnd goes refl goes.comes.quiet)
  own-calm InitialTaskBegin goes = inr (calm-of after t _ goes.touches.world.own refl refl goes.comes.quiet.taken)
  own-calm InitialTaskEnd goes =
      let quiet = goes.comes.within.quiet in inr (calm-of after t _ goes.touches.world.own quiet.free.invited quiet.free.undeferred quiet.taken)
  own-calm (MemberBegin r k) goes = inr (calm-of after t _ goes.touches.world.own refl refl (goes.knows.seats.invited t (rw goes.comes.region goes.comes.some)).taken)
  own-calm (MemberEnd r k) goes =
      let quiet = goes.comes.within.quiet in inr (calm-of after t _ goes.touches.world.own quiet.free.invited quiet.free.undeferred quiet.taken)
  own-calm (TaskBegin prior k) goes = inr (calm-of after t _ goes.touches.world.own refl refl (untaken prior k goes))
  own-calm (TaskEnd k) goes =
      let quiet = goes.comes.within.quiet in inr (calm-of after t _ goes.touches.world.own quiet.free.invited quiet.free.undeferred quiet.taken)
  own-calm (Dispatch share) goes = inr (calm-of after t _ goes.touches.world.own goes.comes.free.invited goes.comes.free.undeferred refl)
  own-calm e goes = inr (quiet-calm e goes refl goes.comes.0.within.quiet)

  -- no event invites a thread
  invited-less : (e : Event) → Goes run W after I J past t e → (u : ℕ) →
      ((thread_at after u).invited ≡ (thread_at W u).invited) ⊎ ((thread_at after u).invited ≡ 0)
  invited-less e goes u =
      elim (cases_eq u t) [
        | inl same ↦ elim (own-calm e goes) [
          | inl stays ↦ inl (subst (λ v. (thread_at after v).invited ≡ (thread_at W v).invited) (sym same) stays.like.invited)
          | inr calm ↦ inr (ap (λ v. (thread_at after v).invited) same ∙ calm.invited)
        ]
        | inr other ↦ inl (like-other W after t e goes.knows.sound.orderly goes.comes goes.touches u other).invited
      ]

  uninvited-go : (e : Event) → Goes run W after I J past t e → (r : ℕ) → 1 ≤ r → ((u : ℕ) → (thread_at W u).invited ≢ r) → (u : ℕ) →
      (thread_at after u).invited ≢ r
  uninvited-go e goes r some un u is =
      elim (invited-less e goes u) [ inl same ↦ un u (sym same ∙ is) | inr none ↦ absurd (omega (arith, some, none, is)) ]

  -- the region that another thread is forking, or is to join, isn't the one that ends
  forking-open : (e : Event) → Goes run W after I J past t e → (u : ℕ) → (u ≡ t → ⊥) → (r : ℕ) → 1 ≤ current W u → (region_at W r).head.task ≡ current W u →
      IsNotEnded e r
  forking-open (ParallelEnd q codeptr) goes u other r some task =
      let sound = goes.knows.sound in
      λ is. apart-currents W t u sound.orderly goes.comes.0.within.some other
      (sym task ∙ ap (λ p. (region_at W p).head.task) is ∙ ends-own W after t q codeptr sound.made sound.orderly goes.knows.codes goes.comes goes.touches
      goes.knows.seats.forks)
  forking-open e goes u other r some task = tt

  idle-open : (e : Event) → Goes run W after I J past t e → (u r : ℕ) → 1 ≤ (thread_at W u).invited → (thread_at W u).invited ≡ r → IsOpenRegion W r →
      IsNotEnded e r
  idle-open (ParallelEnd q codeptr) goes u r some is one =
      λ same.
      let knows = goes.knows in
      let p = (thread_at W u).invited in
      let joins = (knows.sound.made.threads u).joins some in
      let region = knows.sound.made.regions p joins.made in
      let tells : TellsRegion W past p = subst (TellsRegion W past) (sym is) (knows.members.region r one.forked one.made) in
      let left : all_left W p ≡ true = subst (λ j. all_left W j ≡ true) (sym (is ∙ same)) goes.comes.1.left in
      let within : member_index W u p < (region_at W p).head.size = rw (← region.team) joins.member in
      let fits : member_index W u p < TEAM_LIMIT = omega (arith, within, region.fits, knows.sound.threads, knows.sound.whole.few) in
      let gone = member-gone W past p (member_index W u p) tells left within fits in
      absurd (omega (arith, gone.some, knows.members.room u some))
  idle-open e goes u r some is one = tt

  -- ---- inside the event

  still-current : (e : Event) → Goes run W after I J past t e → thread_after e (thread_at W t) ≡ thread_at W t → current after t ≡ current W t
  still-current e goes same = ap (λ (x : Thread). slice_index_or x.stack 0 0) (goes.touches.world.own ∙ same)

  errand-now : (e : Event) → Goes run W after I J past t e → thread_after e (thread_at W t) ≡ thread_at W t → IsQuiet W t → 1 ≤ current W t →
      HasNoErrand after t
  errand-now e goes same quiet some =
      let calm = quiet-calm e goes same quiet in
      record { some = rw (still-current e goes same) some; invited = calm.invited; undeferred = calm.undeferred; taken = calm.taken }

  -- no thread was invited to a region that is new
  uninvited-yet : (r : ℕ) → IsMadeWorld W → r ≡ length W.regions → (u : ℕ) → (thread_at W u).invited ≢ r
  uninvited-yet r made is u invited =
      let some : 1 ≤ (thread_at W u).invited = omega (arith, invited, is, made.implicit.below) in
      let below = ((made.threads u).joins some).made.below in
      omega (arith, below, invited, is)

  own-busy : (e : Event) → Goes run W after I J past t e → IsBusy after t (Some e)
  own-busy ThreadEnd goes = ap (λ (x : Thread). x.stack) goes.touches.world.own ∙ no-stack W t goes.knows.sound.made goes.comes.none
  own-busy (ParallelBegin r requested codeptr) goes =
      let sound = goes.knows.sound in
      let e : Event = ParallelBegin r requested codeptr in
      let region = open-begun W after t r requested codeptr sound.made sound.orderly goes.knows.codes goes.comes goes.touches in
      record {
        errand = errand-now e goes refl goes.comes.0.within.quiet goes.comes.0.within.some;
        region = region;
        task = begun-task W after t r requested codeptr sound.made sound.orderly goes.knows.codes goes.comes goes.touches ∙ sym (still-current e goes refl);
        uninvited = uninvited-go e goes r (omega (arith, region.forked)) (uninvited-yet r sound.made goes.comes.1.region);
      }
  own-busy (ParallelEnd r codeptr) goes =
      let e : Event = ParallelEnd r codeptr in
      let same = still-current e goes refl in
      record {
        some = rw same goes.comes.0.within.some;
        stand = λ at. let both : Stand.Free ≡ AtFork = sym (goes.touches.stand_own refl) ∙ ap (stand_at after) (sym same) ∙ at in cc;
      }
  own-busy (TaskCreate task undeferred codeptr) goes =
      let e : Event = TaskCreate task undeferred codeptr in
      let same = still-current e goes refl in
      let grown = grown-go W after t e goes.comes goes.touches in
      let now = goes.touches.world.pooled task ∙ pool-new (task == task) (fresh_task (current W t) (current_region W t) (kind_of_task undeferred))
      (pooled_at W task) (eq-eqb task task refl) in
      record {
        errand = errand-now e goes refl goes.comes.0.within.quiet goes.comes.0.within.some;
        region = ap (λ (x : PoolTask). x.region) now ∙ sym (grown.region (current W t) (current-below W t goes.knows.sound.made))
            ∙ ap (region_of after) (sym same);
        stand = ap (stand_at after) same ∙ goes.touches.stand_own refl;
      }
  own-busy e goes = tt

  -- what is so inside the callbacks of other threads
  stays-forking : (e : Event) → Goes run W after I J past t e → (u : ℕ) → (u ≡ t → ⊥) → (event : Option Event) → IsBusy W u event → StaysForking after event
  stays-forking e goes u other (Some (ParallelBegin r requested codeptr)) busy =
      let sound = goes.knows.sound in
      let yet = forking-open e goes u other r busy.errand.some busy.task in (
        open-go W after t e sound.made sound.orderly goes.knows.codes goes.comes goes.touches r yet busy.region,
        uninvited-go e goes r
            (omega (arith, busy.region.forked)) busy.uninvited,
      )
  stays-forking e goes u other event busy = tt

  -- ---- all

  module _ (e : Event) (goes : Goes run W after I J past t e) where
    grown : Grown W after
    grown = grown-go W after t e goes.comes goes.touches

    like : (u : ℕ) → (u ≡ t → ⊥) → LikeThread W after u
    like u other = like-other W after t e goes.knows.sound.orderly goes.comes goes.touches u other

    taken : (u : ℕ) → (u ≡ t → ⊥) → (thread_at after u).taken ≡ (thread_at W u).taken
    taken u other = taken-other W after t e goes.knows.sound.orderly goes.comes goes.touches u other

    open-invited : (u : ℕ) → 1 ≤ (thread_at W u).invited → IsOpenRegion after (thread_at W u).invited
    open-invited u some =
        let sound = goes.knows.sound in
        let invited = goes.knows.seats.invited u some in
        open-go W after t e sound.made sound.orderly goes.knows.codes goes.comes goes.touches (thread_at W u).invited
        (idle-open e goes u (thread_at W u).invited some refl invited.region) invited.region

    -- a thread that stays as it is
    invited-stays : (u : ℕ) → LikeThread W after u → (thread_at after u).taken ≡ (thread_at W u).taken → 1 ≤ (thread_at after u).invited →
        IsInvited after u (thread_at after u).invited
    invited-stays u like same some =
        let yet : 1 ≤ (thread_at W u).invited = rw (← like.invited) some in
        let invited = goes.knows.seats.invited u yet in
        subst (IsInvited after u) (sym like.invited) (invited-like W after goes.knows.sound.made grown u like (thread_at W u).invited invited
        (open-invited u yet) (same ∙ invited.taken))

    detained-stays : (u : ℕ) → LikeThread W after u → (thread_at after u).taken ≡ (thread_at W u).taken → 1 ≤ (thread_at after u).undeferred →
        IsDetained after u (thread_at after u).undeferred
    detained-stays u like same some =
        let yet : 1 ≤ (thread_at W u).undeferred = rw (← like.undeferred) some in
        let detained = goes.knows.seats.detained u yet in
        let there = ((goes.knows.sound.made.threads u).starts yet).made.below in
        subst (IsDetained after u) (sym like.undeferred) (detained-like W after goes.knows.sound.made grown u like (thread_at W u).undeferred there detained
        (same ∙ detained.taken))

    pub invited-go : (u : ℕ) → 1 ≤ (thread_at after u).invited → IsInvited after u (thread_at after u).invited
    invited-go u =
        elim (cases_eq u t) [
          | inl same ↦ elim (own-calm e goes) [
            | inl stays ↦ subst (λ v. 1 ≤ (thread_at after v).invited → IsInvited after v (thread_at after v).invited) (sym same)
                (invited-stays t stays.like stays.taken)
            | inr calm ↦ subst (λ v. 1 ≤ (thread_at after v).invited → IsInvited after v (thread_at after v).invited) (sym same) (calm-invited after t calm)
          ]
          | inr other ↦ invited-stays u (like u other) (taken u other)
        ]

    pub detained-go : (u : ℕ) → 1 ≤ (thread_at after u).undeferred → IsDetained after u (thread_at after u).undeferred
    detained-go u =
        elim (cases_eq u t) [
          | inl same ↦ elim (own-calm e goes) [
            | inl stays ↦ subst (λ v. 1 ≤ (thread_at after v).undeferred → IsDetained after v (thread_at after v).undeferred) (sym same)
                (detained-stays t stays.like stays.taken)
            | inr calm ↦ subst (λ v. 1 ≤ (thread_at after v).undeferred → IsDetained after v (thread_at after v).undeferred) (sym same)
                (calm-detained after t calm)
          ]
          | inr other ↦ detained-stays u (like u other) (taken u other)
        ]

    pub shares-go : (u : ℕ) → MayTake after u (thread_at after u).taken
    shares-go u =
        elim (cases_eq u t) [
          | inl same ↦ elim (own-calm e goes) [
            | inl stays ↦ subst (λ v. MayTake after v (thread_at after v).taken) (sym same)
                (shares-like W after goes.knows.sound.made grown t stays.like stays.taken (goes.knows.seats.shares t))
            | inr calm ↦ subst (λ v. MayTake after v (thread_at after v).taken) (sym same) (calm-shares after t calm)
          ]
          | inr other ↦ shares-like W after goes.knows.sound.made grown u (like u other) (taken u other) (goes.knows.seats.shares u)
        ]

    pub busy-go : (u : ℕ) → IsBusy after u (J u)
    busy-go u =
        elim (cases_eq u t) [
          | inl same ↦ subst (λ v. IsBusy after v (J v)) (sym same) (subst (IsBusy after t) (sym goes.enters.own) (own-busy e goes))
          | inr other ↦ subst (IsBusy after u) (sym (goes.enters.others u other))
              (busy-like W after goes.knows.sound.made grown u (like u other) (I u) (taken u other) (below-event run W I goes.knows.sound u (I u) refl)
              (stays-forking e goes u other (I u) (goes.knows.seats.busy u)) (goes.knows.seats.busy u))
        ]

  -- ---- threads without a task

  -- the event's thread has begun
  begun-stage : (e : Event) → Goes run W after I J past t e → (thread_after e (thread_at W t)).stage ≡ thread_stage.Begun
  begun-stage ThreadBegin goes = refl
  begun-stage ThreadEnd goes = goes.comes.quiet.free.stage
  begun-stage InitialTaskBegin goes = goes.comes.quiet.free.stage
  begun-stage InitialTaskEnd goes = goes.comes.within.quiet.free.stage
  begun-stage (MemberBegin r k) goes = goes.comes.stage
  begun-stage (MemberEnd r k) goes = goes.comes.within.quiet.free.stage
  begun-stage (TaskBegin prior k) goes = goes.comes.stage
  begun-stage (TaskEnd k) goes = goes.comes.within.quiet.free.stage
  begun-stage (Dispatch share) goes = goes.comes.free.stage
  begun-stage e goes = goes.comes.0.within.quiet.free.stage

  pub idle-go : (e : Event) → Goes run W after I J past t e → (u : ℕ) → is_running (thread_at after u).stage ≡ false → (thread_at after u).stack ≡ []
  idle-go e goes u out =
      elim (cases_eq u t) [
        | inl same ↦
            let runs : is_running (thread_at after u).stage ≡ true = ap (λ v. is_running (thread_at after v).stage) same
            ∙ ap (λ (x : Thread). is_running x.stage) goes.touches.world.own ∙ ap is_running (begun-stage e goes) in
            absurd (true≢false (sym runs ∙ out))
        | inr other ↦
            let is = goes.touches.world.others u other in
            ap (λ (x : Thread). x.stack) is ∙ goes.knows.seats.idle u (ap (λ (x : Thread). is_running x.stage) (sym is) ∙ out)
      ]
