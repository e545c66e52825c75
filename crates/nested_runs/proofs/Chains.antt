-- Chains of tasks on stacks: what is so of each of them, what keeps them, and where a task of the implicit region stands.
use Rattle.std.proofs.Common.{ℕ, ◌≡◌, ◌≢◌, ◌<◌, ◌≤◌, ◌==◌, ◌||◌, ◌⊎◌, true, false, List, [], ◌∷◌, drop, length, slice_index_or, refl, sym, ap, ◌∙◌, subst, inl, inr, arith}
use Rattle.std.specs.Prelude.{All}
use Rattle.std.proofs.lemmas.Bool.{cases_eq, eq-eqb, or_cases, or_right, eqb-true, true≢false}
use Rattle.std.proofs.lemmas.List.Elements.{All-cons, All-drop, All-head, All-tail, All-weaker}
use Rattle.omp_model.specs.declared.limits.TheConstants.{IMPLICIT_REGION}
use Rattle.omp_model.specs.State.{World, pooled_at, region_at, task_at, thread_at}
use Rattle.omp_model.specs.Members.{current, is_outermost, region_of}
use Rattle.omp_model.specs.Conditions.{AreOrderly, Distinct, IsUnderWay, Lacks}
use Rattle.omp_model.specs.MadeWorld.{IsMadeWorld, IsRegion, IsTask, IsTaskOf}
use Rattle.omp_model.proofs.MadeEvents.{first-of}
use Rattle.nested_runs.proofs.Standing.{stand_at}
use Rattle.nested_runs.proofs.Standing.Stand.{AtFork}
use Rattle.nested_runs.proofs.Known.{HasForked, IsChain, IsInitialOn, IsMemberOf, IsMemberOn, IsTaskOn, stands_on}

-- ---- stacks

-- what is so of all tasks of a stack is so of one that stands on it
pub all-on : (P : ℕ → Type 0) (k : ℕ) (stack : List ℕ) → All P stack → stands_on k stack ≡ true → P k
all-on P k [] all on = absurd (true≢false (sym on))
all-on P k (j ∷ rest) all on =
    elim (or_cases (j == k) (stands_on k rest) on) [
      | inl here ↦ subst P (eqb-true j k here) (All-head P j rest all)
      | inr further ↦ all-on P k rest (All-tail P j rest all) further
    ]

pub on-top : (k : ℕ) (rest : List ℕ) → stands_on k (k ∷ rest) ≡ true
on-top k rest = ap (λ b. b || stands_on k rest) (eq-eqb k k refl)

pub on-pushed : (k j : ℕ) (rest : List ℕ) → stands_on k rest ≡ true → stands_on k (j ∷ rest) ≡ true
on-pushed k j rest on = or_right (j == k) (stands_on k rest) on

-- one that isn't the newest stands below it
pub on-popped : (k : ℕ) (stack : List ℕ) → stands_on k stack ≡ true → (slice_index_or stack 0 0 ≡ k → ⊥) → stands_on k (drop 1 stack) ≡ true
on-popped k [] on apart = on
on-popped k (j ∷ rest) on apart =
    elim (or_cases (j == k) (stands_on k rest) on) [ inl here ↦ absurd (apart (eqb-true j k here)) | inr further ↦ further ]

pub on-current : (stack : List ℕ) → 1 ≤ slice_index_or stack 0 0 → stands_on (slice_index_or stack 0 0) stack ≡ true
on-current [] some = absurd (omega arith)
on-current (k ∷ rest) some = on-top k rest

-- a stack without a newest task is empty, since no task is 0
pub empty-stack : (P : ℕ → Type 0) (stack : List ℕ) → ((k : ℕ) → P k → 1 ≤ k) → All P stack → slice_index_or stack 0 0 ≡ 0 → stack ≡ []
empty-stack P [] some all none = refl
empty-stack P (k ∷ rest) some all none = absurd (omega (arith, some k (All-head P k rest all)))

pub no-stack : (W : World) (t : ℕ) → IsMadeWorld W → current W t ≡ 0 → (thread_at W t).stack ≡ []
no-stack W t made none = empty-stack (IsTaskOf W t) (thread_at W t).stack (λ k one. one.made.some) (made.threads t).stacked none

-- the newest task stands there once, and on no other stack
newest-once : (stack : List ℕ) → Distinct stack → Lacks (slice_index_or stack 0 0) (drop 1 stack)
newest-once [] distinct = λ k d below. absurd (omega arith)
newest-once (k ∷ rest) distinct = distinct.0

pub lacks-current : (W : World) (t u : ℕ) → AreOrderly W → 1 ≤ current W t → Lacks (current W t) (drop 1 (thread_at W u).stack)
lacks-current W t u all some =
    elim (cases_eq u t) [
      | inl same ↦ subst (λ v. Lacks (current W t) (drop 1 (thread_at W v).stack)) (sym same) (newest-once (thread_at W t).stack (all.distinct t))
      | inr other ↦ All-drop (λ (j : ℕ). j ≡ current W t → ⊥) 1 (thread_at W u).stack
          (All-weaker (IsUnderWay W u) (λ (j : ℕ). j ≡ current W t → ⊥) (λ j one is. other
          (sym one.thread ∙ ap (λ i. (task_at W i).thread) is ∙ mine.thread)) (thread_at W u).stack (all.stacked u))
    ]
  where
    mine : IsUnderWay W t (current W t)
    mine = first-of (IsUnderWay W t) (thread_at W t).stack (all.stacked t) some

pub apart-currents : (W : World) (t u : ℕ) → AreOrderly W → 1 ≤ current W t → (u ≡ t → ⊥) → current W u ≡ current W t → ⊥
apart-currents W t u all some other is =
    let mine = first-of (IsUnderWay W t) (thread_at W t).stack (all.stacked t) some in
    let its : IsUnderWay W u (current W u) = first-of (IsUnderWay W u) (thread_at W u).stack (all.stacked u) (rw is some) in
    other (sym its.thread ∙ ap (λ i. (task_at W i).thread) is ∙ mine.thread)

-- ---- what keeps a chain

-- what was made keeps its region and kind, and each region its encountering task
pub record Grown (W after : World) : Type 0 where
  pub tasks : length W.tasks ≤ length after.tasks
  pub regions : length W.regions ≤ length after.regions
  pub kind : (k : ℕ) → k < length W.tasks → (pooled_at after k).kind ≡ (pooled_at W k).kind
  pub region : (k : ℕ) → k < length W.tasks → region_of after k ≡ region_of W k
  pub task : (q : ℕ) → q < length W.regions → (region_at after q).head.task ≡ (region_at W q).head.task

-- a task stands at a region's end or not, as before, and has forked the same one
pub record KeepsPlace (W after : World) (k : ℕ) : Type 0 where
  pub forked : (task_at after k).forked ≡ (task_at W k).forked
  pub at : stand_at W k ≡ AtFork → stand_at after k ≡ AtFork
  pub apart : stand_at W k ≢ AtFork → stand_at after k ≢ AtFork

pub outermost-grown : (W after : World) (q : ℕ) → IsMadeWorld W → Grown W after → IsRegion W q → is_outermost after q ≡ is_outermost W q
outermost-grown W after q made grown one =
    ap (λ j. region_of after j == IMPLICIT_REGION) (grown.task q one.below)
    ∙ ap (λ r. r == IMPLICIT_REGION) (grown.region (region_at W q).head.task (made.regions q one).task)

module _ (W after : World) (made : IsMadeWorld W) (grown : Grown W after) where
  pub member-on-grown : (above below : ℕ) → above < length W.tasks → KeepsPlace W after below → IsMemberOn W above below → IsMemberOn after above below
  member-on-grown above below there place on =
      record { kind = grown.kind above there ∙ on.kind; region = grown.region above there ∙ on.region ∙ sym place.forked; stand = place.at on.stand }

  pub task-on-grown : (above below : ℕ) → above < length W.tasks → below < length W.tasks → KeepsPlace W after below → IsTaskOn W above below →
      IsTaskOn after above below
  task-on-grown above below there under place on =
      record {
        explicit = rw (grown.kind above there) on.explicit;
        region = grown.region above there ∙ on.region ∙ sym (grown.region below under);
        stand = place.apart on.stand;
      }

  pub member-of-grown : (t k : ℕ) → IsTask W k → IsMemberOf W t k → IsMemberOf after t k
  member-of-grown t k one member =
      record {
        thread = member.thread;
        kind = grown.kind k one.below ∙ member.kind;
        outermost = ap (is_outermost after) (grown.region k one.below) ∙ outermost-grown W after (region_of W k) made grown (made.placed k one)
            ∙ member.outermost;
      }

  pub chain-grown : (t : ℕ) (stack : List ℕ) → All (IsTaskOf W t) stack → All (KeepsPlace W after) (drop 1 stack) → IsChain W t stack → IsChain after t stack
  chain-grown t [] tasks places chain = tt
  chain-grown t (k ∷ []) tasks places (inl initial) = inl initial
  chain-grown t (k ∷ []) tasks places (inr member) = inr (member-of-grown t k (All-head (IsTaskOf W t) k [] tasks).made member)
  chain-grown t (above ∷ below ∷ rest) tasks places chain =
      let there = (All-head (IsTaskOf W t) above (below ∷ rest) tasks).made.below in
      let others = All-tail (IsTaskOf W t) above (below ∷ rest) tasks in
      let under = (All-head (IsTaskOf W t) below rest others).made.below in
      let place = All-head (KeepsPlace W after) below rest places in
      let on : IsMemberOn after above below ⊎ IsTaskOn after above below = elim chain.0 [
        | inl member ↦ inl (member-on-grown above below there place member)
        | inr task ↦ inr (task-on-grown above below there under place task)
      ] in
      (on, chain-grown t (below ∷ rest) others (All-tail (KeepsPlace W after) below rest places) chain.1)

-- the chain below the newest task
pub chain-below : (W : World) (t k : ℕ) (below : List ℕ) → IsChain W t (k ∷ below) → IsChain W t below
chain-below W t k [] chain = tt
chain-below W t k (j ∷ rest) chain = chain.1

pub chain-popped : (W : World) (t : ℕ) (stack : List ℕ) → IsChain W t stack → IsChain W t (drop 1 stack)
chain-popped W t [] chain = tt
chain-popped W t (k ∷ below) chain = chain-below W t k below chain

-- ---- the first task of a stack

-- on any thread but 0 it is the member of an outermost region
pub record HasMember (W : World) (t : ℕ) (stack : List ℕ) : Type 0 where
  pub first : ℕ
  pub on : stands_on first stack ≡ true
  pub member : IsMemberOf W t first

pub first-member : (W : World) (t : ℕ) (stack : List ℕ) → t ≢ 0 → IsChain W t stack → (stack ≡ []) ⊎ HasMember W t stack
first-member W t [] other chain = inl refl
first-member W t (k ∷ []) other (inl initial) = absurd (other initial.thread)
first-member W t (k ∷ []) other (inr member) = inr (record { first = k; on = on-top k []; member = member })
first-member W t (k ∷ j ∷ rest) other chain =
    elim (first-member W t (j ∷ rest) other chain.1) [
      | inl none ↦ cc
      | inr has ↦ inr (record { first = has.first; on = on-pushed has.first k (j ∷ rest) has.on; member = has.member })
    ]

-- ---- tasks of the implicit region

-- on thread 0, and those below are at no region's end
pub record InImplicit (W : World) (t : ℕ) (below : List ℕ) : Type 0 where
  pub thread : t ≡ 0
  pub apart : All (λ (j : ℕ). stand_at W j ≢ AtFork) below

module _ (W : World) (made : IsMadeWorld W) (forks : (k : ℕ) → stand_at W k ≡ AtFork → HasForked W k) where
  -- that region isn't an outermost one
  not-outermost : (k : ℕ) → region_of W k ≡ IMPLICIT_REGION → is_outermost W (region_of W k) ≡ true → ⊥
  not-outermost k is outermost =
      let none : is_outermost W IMPLICIT_REGION ≡ false = ap (λ j. region_of W j == IMPLICIT_REGION) made.unencountered in
      true≢false (sym outermost ∙ ap (is_outermost W) is ∙ none)

  pub in-implicit : (t k : ℕ) (below : List ℕ) → IsChain W t (k ∷ below) → region_of W k ≡ IMPLICIT_REGION → InImplicit W t below
  in-implicit t k [] (inl initial) is = record { thread = initial.thread; apart = λ i d within. absurd (omega arith) }
  in-implicit t k [] (inr member) is = absurd (not-outermost k is member.outermost)
  in-implicit t k (j ∷ rest) (inl on, chain) is = absurd (omega (arith, (forks j on.stand).region.forked, on.region))
  in-implicit t k (j ∷ rest) (inr on, chain) is =
      let further = in-implicit t j rest chain (sym on.region ∙ is) in
      record { thread = further.thread; apart = All-cons (λ (i : ℕ). stand_at W i ≢ AtFork) j rest on.stand further.apart }

  pub top-implicit : (t : ℕ) (stack : List ℕ) → IsChain W t stack → 1 ≤ slice_index_or stack 0 0 → region_of W (slice_index_or stack 0 0) ≡ IMPLICIT_REGION →
      InImplicit W t (drop 1 stack)
  top-implicit t [] chain some is = absurd (omega arith)
  top-implicit t (k ∷ below) chain some is = in-implicit t k below chain is

  pub thread-of-implicit : (t : ℕ) (stack : List ℕ) (k : ℕ) → IsChain W t stack → stands_on k stack ≡ true → region_of W k ≡ IMPLICIT_REGION → t ≡ 0
  thread-of-implicit t [] k chain on is = absurd (true≢false (sym on))
  thread-of-implicit t (j ∷ rest) k chain on is =
      elim (or_cases (j == k) (stands_on k rest) on) [
        | inl here ↦ (in-implicit t j rest chain (ap (region_of W) (eqb-true j k here) ∙ is)).thread
        | inr further ↦ thread-of-implicit t rest k (chain-below W t j rest chain) further is
      ]

-- ---- what is taken up

pub chain-pushed : (W : World) (t k : ℕ) (stack : List ℕ) → All (λ (j : ℕ). 1 ≤ j) stack → (stack ≡ [] → IsInitialOn t k ⊎ IsMemberOf W t k) →
    (1 ≤ slice_index_or stack 0 0 → IsMemberOn W k (slice_index_or stack 0 0) ⊎ IsTaskOn W k (slice_index_or stack 0 0)) → IsChain W t stack → IsChain W t
    (k ∷ stack)
chain-pushed W t k [] some first on chain = first refl
chain-pushed W t k (j ∷ rest) some first on chain = (on (All-head (λ (i : ℕ). 1 ≤ i) j rest some), chain)
