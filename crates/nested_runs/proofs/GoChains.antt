-- The chains of tasks on stacks after the Go of an event.
use Rattle.std.proofs.Common.{ℕ, ◌≡◌, ◌≢◌, ◌<◌, ◌≤◌, ◌==◌, ◌⊎◌, Bool, true, false, if◌then◌else◌, List, [], ◌∷◌, drop, length, slice_index_or, refl, sym, ap, ◌∙◌, subst, inl, inr, arith}
use Rattle.std.specs.Prelude.{All}
use Rattle.std.proofs.lemmas.Bool.{cases_eq, cases_Bool, eq-eqb, ne_eqb}
use Rattle.std.proofs.lemmas.List.Elements.{All-weaker}
use Rattle.task_pool.specs.declared.task.Condition.TheVariants as condition
use Rattle.task_pool.specs.declared.task.Task.{Task as PoolTask}
use Rattle.task_pool.specs.declared.task.TaskKind.TheVariants as kind
use Rattle.task_pool.specs.Tasks.{is_explicit}
use Rattle.task_pool.specs.View.{fresh_task}
use Rattle.ompt_calls.specs.declared.event.EventRecord.{EventRecord}
use Rattle.omp_model.specs.declared.limits.TheConstants.{INITIAL_TASK}
use Rattle.omp_model.specs.declared.event.Event.{Event}
use Rattle.omp_model.specs.declared.event.Event.TheVariants.{InitialTaskBegin, InitialTaskEnd, MemberBegin, MemberEnd, ParallelBegin, TaskBegin, TaskEnd}
use Rattle.omp_model.specs.State.{Run, Thread, World, pooled_at, region_at, task_at, thread_at}
use Rattle.omp_model.specs.Members.{current, current_region, is_explicit_task, is_outermost, region_of}
use Rattle.omp_model.specs.Conditions.{IsToStart}
use Rattle.omp_model.specs.MadeWorld.{IsRegion, IsTaskOf}
use Rattle.omp_model.proofs.Touching.{come_to, forked_after, is_of_code, thread_after}
use Rattle.omp_model.proofs.MadeEvents.{current-below}
use Rattle.nested_runs.proofs.Recorded.{Inside}
use Rattle.nested_runs.proofs.Standing.{Stand, stand_at}
use Rattle.nested_runs.proofs.Standing.Stand.{AtFork}
use Rattle.nested_runs.proofs.Known.{IsChain, IsDetained, IsInitialOn, IsInvited, IsMemberOf, IsMemberOn, IsTaskOn}
use Rattle.nested_runs.proofs.Knows.{Goes}
use Rattle.nested_runs.proofs.Chains.{KeepsPlace, chain-grown, chain-popped, chain-pushed, lacks-current, outermost-grown}
use Rattle.nested_runs.proofs.GoFrames.{grown-go, in-code-some}

forked-other : (W : World) (t : ℕ) (e : Event) (k forked : ℕ) → (k ≡ current W t → ⊥) → forked_after W t e k forked ≡ forked
forked-other W t (ParallelBegin r requested codeptr) k forked other = ap (λ is. if is then r else forked) (ne_eqb k (current W t) other)
forked-other W t e k forked other = refl

forked-beside : (W : World) (t : ℕ) (e : Event) (k forked : ℕ) → is_of_code e ≡ false → forked_after W t e k forked ≡ forked
forked-beside W t (ParallelBegin r requested codeptr) k forked beside = cc
forked-beside W t e k forked beside = refl

-- what the pool has of a task that is new
pub pool-new : (is : Bool) (new old : PoolTask) → is ≡ true → (if is then new else old) ≡ new
pool-new true new old is = refl
pool-new false new old is = cc

module _ (run : Run) (W after : World) (I J : Inside) (past : List EventRecord) (t : ℕ) where
  -- a task but for the current one, and at an event beside all code each, keeps its place
  place-other : (e : Event) → Goes run W after I J past t e → (k : ℕ) → (k ≡ current W t → ⊥) → KeepsPlace W after k
  place-other e goes k other =
      let stands = goes.touches.stands k (λ code is. other is) in
      record {
        forked = goes.touches.world.forked k ∙ forked-other W t e k (task_at W k).forked other;
        at = λ at. stands ∙ at;
        apart = λ apart at. apart (sym stands ∙ at);
      }

  place-beside : (e : Event) → Goes run W after I J past t e → is_of_code e ≡ false → (k : ℕ) → KeepsPlace W after k
  place-beside e goes beside k =
      let stands = goes.touches.stands k (λ code is. cc) in
      record {
        forked = goes.touches.world.forked k ∙ forked-beside W t e k (task_at W k).forked beside;
        at = λ at. stands ∙ at;
        apart = λ apart at. apart (sym stands ∙ at);
      }

  -- the chain of a stack before the event is one behind it
  chain-kept : (e : Event) → Goes run W after I J past t e → (u : ℕ) → IsChain after u (thread_at W u).stack
  chain-kept e goes u =
      let sound = goes.knows.sound in
      let places : All (KeepsPlace W after) (drop 1 (thread_at W u).stack) = elim (cases_Bool (is_of_code e)) [
        | inl code ↦ All-weaker (λ (k : ℕ). k ≡ current W t → ⊥) (KeepsPlace W after) (place-other e goes) (drop 1 (thread_at W u).stack)
            (lacks-current W t u sound.orderly (in-code-some W t e goes.comes code))
        | inr beside ↦ λ i d within. place-beside e goes beside (slice_index_or (drop 1 (thread_at W u).stack) i d)
      ] in
      chain-grown W after sound.made (grown-go W after t e goes.comes goes.touches) u (thread_at W u).stack (sound.made.threads u).stacked places
      (goes.knows.seats.chain u)

  -- on the stack before the event a task is taken up
  pushes : (e : Event) (k : ℕ) → Goes run W after I J past t e → ((thread_at W t).stack ≡ [] → IsInitialOn t k ⊎ IsMemberOf after t k) →
      (1 ≤ current W t → IsMemberOn after k (current W t) ⊎ IsTaskOn after k (current W t)) → IsChain after t (k ∷ (thread_at W t).stack)
  pushes e k goes first on =
      let some = All-weaker (IsTaskOf W t) (λ (j : ℕ). 1 ≤ j) (λ j one. one.made.some) (thread_at W t).stack (goes.knows.sound.made.threads t).stacked in
      chain-pushed after t k (thread_at W t).stack some first on (chain-kept e goes t)

  -- there is no current task on an empty stack
  none-current : (thread_at W t).stack ≡ [] → current W t ≡ 0
  none-current empty = ap (λ (ks : List ℕ). slice_index_or ks 0 0) empty

  chain-member : (r k : ℕ) → Goes run W after I J past t (MemberBegin r k) → IsChain after t (k ∷ (thread_at W t).stack)
  chain-member r k goes =
      let seats = goes.knows.seats in
      let invited : IsInvited W t r = subst (IsInvited W t) goes.comes.region (seats.invited t (rw goes.comes.region goes.comes.some)) in
      let now = goes.touches.world.pooled k ∙ pool-new (k == k) (come_to (fresh_task (region_at W r).head.task r kind.Implicit) condition.Started) (pooled_at W k)
      (eq-eqb k k refl) in
      let implicit : (pooled_at after k).kind ≡ kind.Implicit = ap (λ (x : PoolTask). x.kind) now in
      let region : region_of after k ≡ r = ap (λ (x : PoolTask). x.region) now in
      let grown = grown-go W after t (MemberBegin r k) goes.comes goes.touches in
      let made : IsRegion W r = record { some = goes.comes.some; below = invited.region.made } in
      let first : (thread_at W t).stack ≡ [] → IsInitialOn t k ⊎ IsMemberOf after t k =
      λ empty. elim invited.on [
        | inl forker ↦ absurd (omega (arith, forker.some, none-current empty))
        | inr idle ↦ inr (record {
          thread = idle.other;
          kind = implicit;
          outermost = ap (is_outermost after) region
              ∙ outermost-grown W after r goes.knows.sound.made grown made ∙ idle.outermost;
        })
      ] in
      let on : 1 ≤ current W t → IsMemberOn after k (current W t) ⊎ IsTaskOn after k (current W t) =
      λ some. elim invited.on [
        | inl forker ↦
            let hold = seats.holds r invited.region in
            let place = place-beside (MemberBegin r k) goes refl (current W t) in
            inl (record {
              kind = implicit;
              region = region ∙ sym (place.forked ∙ ap (λ j. (task_at W j).forked) (sym forker.task) ∙ hold.forked);
              stand = place.at (ap (stand_at W) (sym forker.task) ∙ hold.stand);
            })
        | inr idle ↦ absurd (omega (arith, some, none-current idle.stack))
      ] in
      pushes (MemberBegin r k) k goes first on

  -- a task that is picked is an explicit one of the current task's region, which stands at no region's end
  record PickedOn (k : ℕ) : Type 0 where
    some : 1 ≤ current W t
    explicit : is_explicit_task W k ≡ true
    region : region_of W k ≡ current_region W t
    apart : stand_at W (current W t) ≢ AtFork

  chain-task : (prior k : ℕ) → Goes run W after I J past t (TaskBegin prior k) → IsChain after t (k ∷ (thread_at W t).stack)
  chain-task prior k goes =
      let knows = goes.knows in
      let grown = grown-go W after t (TaskBegin prior k) goes.comes goes.touches in
      let there : k < length W.tasks = rw (← goes.touches.world.tasks) (goes.sound.events t (TaskBegin prior k) goes.enters.own).occurred.named.task.below in
      let place = place-beside (TaskBegin prior k) goes refl (current W t) in
      let same = grown.region k there in
      let under = grown.region (current W t) (current-below W t knows.sound.made) in
      let picked : PickedOn k = elim goes.comes.picks [
        | inl ready ↦ record { some = ready.within.some; explicit = knows.tasks.ready k ready.ready; region = ready.region; apart = ready.apart }
        | inr own ↦
            let task = own.task in
            let some : 1 ≤ (thread_at W t).undeferred = rw task goes.comes.some in
            let detained : IsDetained W t k = subst (IsDetained W t) task (knows.seats.detained t some) in
            let starts : IsToStart W t k = subst (IsToStart W t) task (knows.sound.orderly.starts t some) in
            record {
              some = detained.some;
              explicit = starts.explicit;
              region = detained.region;
              apart = λ at. let both : Stand.Free ≡ AtFork = sym detained.stand ∙ at in cc;
            }
      ] in
      pushes (TaskBegin prior k) k goes (λ empty. absurd (omega (arith, picked.some, none-current empty)))
      (λ some. inr (record {
        explicit = ap is_explicit (grown.kind k there) ∙ picked.explicit;
        region = same ∙ picked.region ∙ sym under;
        stand = place.apart picked.apart;
      }))

  chain-own : (e : Event) → Goes run W after I J past t e → IsChain after t (thread_after e (thread_at W t)).stack
  chain-own InitialTaskBegin goes =
      pushes InitialTaskBegin INITIAL_TASK goes (λ empty. inl (record { thread = goes.comes.zeroth; task = refl }))
      (λ some. absurd (omega (arith, goes.comes.none)))
  chain-own InitialTaskEnd goes = chain-popped after t (thread_at W t).stack (chain-kept InitialTaskEnd goes t)
  chain-own (MemberBegin r k) goes = chain-member r k goes
  chain-own (MemberEnd r k) goes = chain-popped after t (thread_at W t).stack (chain-kept (MemberEnd r k) goes t)
  chain-own (TaskBegin prior k) goes = chain-task prior k goes
  chain-own (TaskEnd k) goes = chain-popped after t (thread_at W t).stack (chain-kept (TaskEnd k) goes t)
  chain-own e goes = chain-kept e goes t

  pub chain-go : (e : Event) → Goes run W after I J past t e → (u : ℕ) → IsChain after u (thread_at after u).stack
  chain-go e goes u =
      elim (cases_eq u t) [
        | inl same ↦ subst (λ v. IsChain after v (thread_at after v).stack) (sym same)
            (subst (λ (x : Thread). IsChain after t x.stack) (sym goes.touches.world.own) (chain-own e goes))
        | inr other ↦ subst (λ (x : Thread). IsChain after u x.stack) (sym (goes.touches.world.others u other)) (chain-kept e goes u)
      ]
