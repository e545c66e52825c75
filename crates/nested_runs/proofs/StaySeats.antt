-- Where tasks stand on stacks, and what threads are to do, after what is no event.
use Rattle.std.proofs.Common.{ℕ, ◌≡◌, ◌≢◌, ◌≤◌, true, false, List, [], drop, slice_index_or, refl, sym, ap, ◌∙◌, subst, inl, inr, arith}
use Rattle.std.specs.Prelude.{Option, Some, None}
use Rattle.task_pool.specs.Tasks.{task_at as pool_task_at}
use Rattle.task_pool.specs.View.{PoolView}
use Rattle.ompt_calls.specs.declared.event.EventRecord.{EventRecord}
use Rattle.omp_model.specs.declared.event.Event.{Event}
use Rattle.omp_model.specs.declared.event.Event.TheVariants.{ParallelBegin}
use Rattle.omp_model.specs.declared.event.Share.{Share}
use Rattle.omp_model.specs.State.{Run, World, task_at, thread_at}
use Rattle.nested_runs.proofs.Recorded.{Inside}
use Rattle.nested_runs.proofs.Standing.{Stand, stand_at}
use Rattle.nested_runs.proofs.Standing.Stand.{Free, AtFork}
use Rattle.nested_runs.proofs.Touching.{MayTake}
use Rattle.nested_runs.proofs.Known.{IsBusy, IsChain, IsDetained, IsInvited, is_running, stands_on}
use Rattle.nested_runs.proofs.Knows.{Stays}
use Rattle.nested_runs.proofs.Chains.{Grown, chain-grown}
use Rattle.nested_runs.proofs.Errands.{LikeThread, StaysForking, below-event, busy-like, detained-like, invited-like, shares-like}
use Rattle.nested_runs.proofs.OpenRegions.{SameForks, open-after}

module _ (run : Run) (W after : World) (I J : Inside) (past : List EventRecord) (stays : Stays run W after I J past) where
  pub grown-stays : Grown W after
  grown-stays =
      record {
        tasks = omega (arith, stays.alike.world.tasks);
        regions = omega (arith, stays.alike.world.regions);
        kind = λ k below. ap (λ (pool : PoolView). (pool_task_at pool.tasks k).kind) stays.alike.world.pool;
        region = λ k below. ap (λ (pool : PoolView). (pool_task_at pool.tasks k).region) stays.alike.world.pool;
        task = λ q below. (stays.alike.world.head q).task;
      }

  -- ---- where codes stand

  keeps-free : (k : ℕ) → stand_at W k ≡ Free → stand_at after k ≡ Free
  keeps-free k is = elim (stays.alike.stands k) [ inl same ↦ same ∙ is | inr comes ↦ comes.free ]

  keeps-fork : (k : ℕ) → stand_at W k ≡ AtFork → stand_at after k ≡ AtFork
  keeps-fork k is = elim (stays.alike.stands k) [ inl same ↦ same ∙ is | inr comes ↦ absurd (comes.forked is) ]

  was-fork : (k : ℕ) → stand_at after k ≡ AtFork → stand_at W k ≡ AtFork
  was-fork k is = elim (stays.alike.stands k) [ inl same ↦ sym same ∙ is | inr comes ↦ let both : Stand.Free ≡ AtFork = sym comes.free ∙ is in cc ]

  keeps-apart : (k : ℕ) → stand_at W k ≢ AtFork → stand_at after k ≢ AtFork
  keeps-apart k apart is = apart (was-fork k is)

  pub same-forks-stays : SameForks W after
  same-forks-stays =
      record {
        regions = stays.alike.world.regions;
        ended = λ q. (stays.alike.world.head q).ended;
        task = λ q. (stays.alike.world.head q).task;
        forked = λ k at. stays.alike.world.forked k;
        at = keeps-fork;
        was = was-fork;
        stacked = λ k at on. subst (λ u. stands_on k (thread_at after u).stack ≡ true) (sym (stays.alike.world.owner k))
            (ap (stands_on k) (stays.alike.world.thread (task_at W k).thread).stack ∙ on);
      }

  pub chain-stays : (u : ℕ) → IsChain after u (thread_at after u).stack
  chain-stays u =
      let sound = stays.knows.sound in
      subst (IsChain after u) (sym (stays.alike.world.thread u).stack)
      (chain-grown W after sound.made grown-stays u (thread_at W u).stack (sound.made.threads u).stacked
      (λ i d within. let k = slice_index_or (drop 1 (thread_at W u).stack) i d in record {
        forked = stays.alike.world.forked k;
        at = keeps-fork k;
        apart = keeps-apart k;
      })
      (stays.knows.seats.chain u))

  -- ---- what threads are to do

  like : (u : ℕ) → LikeThread W after u
  like u =
      let thread = stays.alike.world.thread u in
      let k = slice_index_or (thread_at W u).stack 0 0 in
      record {
        stack = thread.stack;
        invited = thread.invited;
        undeferred = thread.undeferred;
        free = keeps-free k;
        apart = keeps-apart k;
        opens = stays.alike.opens k;
      }

  -- a thread that is to do something else takes no share
  none-invited : (u : ℕ) (share : Option Share) → MayTake after u share → 1 ≤ (thread_at after u).invited → share ≡ None
  none-invited u None takes some = refl
  none-invited u (Some share) takes some = absurd (omega (arith, takes.invited))

  none-undeferred : (u : ℕ) (share : Option Share) → MayTake after u share → 1 ≤ (thread_at after u).undeferred → share ≡ None
  none-undeferred u None takes some = refl
  none-undeferred u (Some share) takes some = absurd (omega (arith, takes.undeferred))

  pub invited-stays : (u : ℕ) → 1 ≤ (thread_at after u).invited → IsInvited after u (thread_at after u).invited
  invited-stays u some =
      let same = (like u).invited in
      let yet : 1 ≤ (thread_at W u).invited = rw (← same) some in
      let invited = stays.knows.seats.invited u yet in
      let region = open-after W after same-forks-stays (thread_at W u).invited invited.region in
      let taken : (thread_at after u).taken ≡ None = elim (stays.alike.taken u) [
        | inl kept ↦ kept ∙ invited.taken
        | inr takes ↦ none-invited u (thread_at after u).taken takes some
      ] in
      subst (IsInvited after u) (sym same) (invited-like W after stays.knows.sound.made grown-stays u (like u) (thread_at W u).invited invited region taken)

  pub detained-stays : (u : ℕ) → 1 ≤ (thread_at after u).undeferred → IsDetained after u (thread_at after u).undeferred
  detained-stays u some =
      let same = (like u).undeferred in
      let yet : 1 ≤ (thread_at W u).undeferred = rw (← same) some in
      let detained = stays.knows.seats.detained u yet in
      let there = ((stays.knows.sound.made.threads u).starts yet).made.below in
      let taken : (thread_at after u).taken ≡ None = elim (stays.alike.taken u) [
        | inl kept ↦ kept ∙ detained.taken
        | inr takes ↦ none-undeferred u (thread_at after u).taken takes some
      ] in
      subst (IsDetained after u) (sym same) (detained-like W after stays.knows.sound.made grown-stays u (like u) (thread_at W u).undeferred there detained
      taken)

  pub shares-stays : (u : ℕ) → MayTake after u (thread_at after u).taken
  shares-stays u =
      elim (stays.alike.taken u) [
        | inl kept ↦ shares-like W after stays.knows.sound.made grown-stays u (like u) kept (stays.knows.seats.shares u)
        | inr takes ↦ takes
      ]

  stays-forking : (u : ℕ) (event : Option Event) → IsBusy W u event → StaysForking after event
  stays-forking u (Some (ParallelBegin r requested codeptr)) busy =
      (open-after W after same-forks-stays r busy.region, λ v is. busy.uninvited v (sym (like v).invited ∙ is))
  stays-forking u event busy = tt

  inside-stays : (u : ℕ) (event : Option Event) → I u ≡ event → IsBusy W u event → IsBusy after u event
  inside-stays u None is busy = tt
  inside-stays u (Some e) is busy =
      busy-like W after stays.knows.sound.made grown-stays u (like u) (Some e) (stays.taken u e is) (below-event run W I stays.knows.sound u (Some e) is)
      (stays-forking u (Some e) busy) busy

  pub busy-stays : (u : ℕ) → IsBusy after u (J u)
  busy-stays u = subst (IsBusy after u) (sym (stays.same u)) (inside-stays u (I u) refl (stays.knows.seats.busy u))

  pub idle-stays : (u : ℕ) → is_running (thread_at after u).stage ≡ false → (thread_at after u).stack ≡ []
  idle-stays u out =
      let thread = stays.alike.world.thread u in
      thread.stack ∙ stays.knows.seats.idle u (ap is_running (sym thread.stage) ∙ out)
