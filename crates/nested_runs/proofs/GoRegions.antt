-- Open regions and the tasks that hold them, after the Go of an event.
use Rattle.std.proofs.Common.{ℕ, ◌≡◌, ◌≢◌, ◌<◌, ◌==◌, Bool, true, false, if◌then◌else◌, drop, length, refl, sym, ap, ◌∙◌, subst, inl, inr, arith}
use Rattle.std.proofs.lemmas.Bool.{cases_eq, eq-eqb, eqb-true, ne_eqb, true≢false}
use Rattle.c_model.specs.declared.point.SyncKind.{SyncKind}
use Rattle.c_model.specs.declared.point.SyncStage.{SyncStage}
use Rattle.c_model.specs.declared.point.SyncStage.TheVariants as stage
use Rattle.omp_model.specs.declared.limits.TheConstants.{IMPLICIT_REGION}
use Rattle.omp_model.specs.declared.parts.RegionHead.{RegionHead}
use Rattle.omp_model.specs.declared.event.Event.{Event}
use Rattle.omp_model.specs.declared.event.Event.TheVariants.{Dispatch, InitialTaskBegin, InitialTaskEnd, MemberBegin, MemberEnd, ParallelBegin, ParallelEnd, Sync, TaskBegin, TaskEnd, ThreadBegin, ThreadEnd}
use Rattle.omp_model.specs.State.{Thread, World, fresh_head, region_at, task_at, thread_at}
use Rattle.omp_model.specs.Members.{current, current_region, is_outermost, region_of}
use Rattle.omp_model.specs.Conditions.{AreOrderly, IsUnderWay}
use Rattle.omp_model.specs.EventEffects.{team_size}
use Rattle.omp_model.specs.MadeWorld.{IsMadeWorld}
use Rattle.omp_model.proofs.Touching.{forked_after, head_after, is_of_code, regions_after}
use Rattle.omp_model.proofs.MadeEvents.{current-below, first-of}
use Rattle.nested_runs.proofs.Coming.{Comes}
use Rattle.nested_runs.proofs.Effects.{stand_after, stand_before, stand_behind}
use Rattle.nested_runs.proofs.Standing.{Stand, stand_at, stand_within}
use Rattle.nested_runs.proofs.Standing.Stand.{AtFork}
use Rattle.nested_runs.proofs.Touching.{AreCodes, Touches}
use Rattle.nested_runs.proofs.Known.{HasForked, HoldsRegion, IsChain, IsOpenRegion, stands_on}
use Rattle.nested_runs.proofs.Chains.{Grown, all-on, on-current, on-popped, outermost-grown, thread-of-implicit, top-implicit}
use Rattle.nested_runs.proofs.GoFrames.{grown-go, stacked-go, stands-apart}
use Rattle.nested_runs.proofs.OpenRegions.{ForkAll, HoldAll, OuterAlone, SameForks, forks-same, holds-of, holds-same, open-after, outer-same}

-- the events at which a region begins or ends
abbrev pub turns_region : Event → Bool
turns_region (ParallelBegin r requested codeptr) = true
turns_region (ParallelEnd r codeptr) = true
turns_region other = false

-- ---- no other event turns one

within-apart : (which : SyncKind) (at : SyncStage) → stand_within which at ≢ AtFork
within-apart which stage.RegionBegin is = cc
within-apart which stage.WaitBegin is = cc
within-apart which stage.WaitEnd is = cc
within-apart which stage.RegionEnd is = cc

behind-apart : (which : SyncKind) (at : SyncStage) → stand_behind which at ≢ AtFork
behind-apart which stage.RegionBegin is = cc
behind-apart which stage.WaitBegin is = cc
behind-apart which stage.WaitEnd is = cc
behind-apart which stage.RegionEnd is = cc

before-apart : (e : Event) → turns_region e ≡ false → stand_before e ≢ AtFork
before-apart (ParallelBegin r requested codeptr) other is = cc
before-apart (ParallelEnd r codeptr) other is = cc
before-apart (Sync which at codeptr) other is = within-apart which at is
before-apart e other is = cc

after-apart : (e : Event) → turns_region e ≡ false → stand_after e ≢ AtFork
after-apart (ParallelBegin r requested codeptr) other is = cc
after-apart (ParallelEnd r codeptr) other is = cc
after-apart (Sync which at codeptr) other is = behind-apart which at is
after-apart e other is = cc

-- an event of the code comes where its kind stands
pub comes-stand : (W : World) (t : ℕ) (e : Event) → Comes W t e → is_of_code e ≡ true → stand_at W (current W t) ≡ stand_before e
comes-stand W t ThreadBegin comes code = cc
comes-stand W t ThreadEnd comes code = cc
comes-stand W t InitialTaskBegin comes code = cc
comes-stand W t InitialTaskEnd comes code = cc
comes-stand W t (MemberBegin r k) comes code = cc
comes-stand W t (MemberEnd r k) comes code = cc
comes-stand W t (TaskBegin prior task) comes code = cc
comes-stand W t (TaskEnd task) comes code = cc
comes-stand W t (Dispatch share) comes code = cc
comes-stand W t other comes code = comes.0.stand

regions-same : (e : Event) (count : ℕ) → turns_region e ≡ false → regions_after e count ≡ count
regions-same (ParallelBegin r requested codeptr) count other = cc
regions-same e count other = refl

forked-same : (W : World) (t : ℕ) (e : Event) (k forked : ℕ) → turns_region e ≡ false → forked_after W t e k forked ≡ forked
forked-same W t (ParallelBegin r requested codeptr) k forked other = cc
forked-same W t e k forked other = refl

-- a head to which something is written keeps its task, and whether its region has ended
pub record SameHead (head after : RegionHead) : Type 0 where
  pub task : after.task ≡ head.task
  pub ended : after.ended ≡ head.ended

pub head-either : (is : Bool) (head other : RegionHead) → SameHead head other → SameHead head (if is then other else head)
head-either true head other same = same
head-either false head other same = record { task = refl; ended = refl }

head-same : (W : World) (t : ℕ) (e : Event) (q : ℕ) → turns_region e ≡ false → SameHead (region_at W q).head (head_after W t e q)
head-same W t (ParallelBegin r requested codeptr) q other = cc
head-same W t (ParallelEnd r codeptr) q other = cc
head-same W t InitialTaskBegin q other = head-either (q == IMPLICIT_REGION) (region_at W q).head _ (record { task = refl; ended = refl })
head-same W t (MemberBegin r k) q other = head-either (q == r) (region_at W q).head _ (record { task = refl; ended = refl })
head-same W t e q other = record { task = refl; ended = refl }

module _ (W after : World) (t : ℕ) (e : Event) (made : IsMadeWorld W) (orderly : AreOrderly W) (codes : AreCodes W) (comes : Comes W t e)
    (touches : Touches W after t e) where
  pub same-forks-go : turns_region e ≡ false → SameForks W after
  same-forks-go other =
      record {
        regions = touches.world.regions ∙ regions-same e (length W.regions) other;
        ended = λ q. ap (λ (x : RegionHead). x.ended) (touches.world.head q) ∙ (head-same W t e q other).ended;
        task = λ q. ap (λ (x : RegionHead). x.task) (touches.world.head q) ∙ (head-same W t e q other).task;
        forked = λ k at. touches.world.forked k ∙ forked-same W t e k (task_at W k).forked other;
        at = λ k at. elim (stands-apart W after t e orderly comes touches k) [
          | inl own ↦ absurd (before-apart e other (sym (comes-stand W t e comes own.0) ∙ ap (stand_at W) (sym own.1) ∙ at))
          | inr same ↦ same ∙ at
        ];
        was = λ k at. elim (stands-apart W after t e orderly comes touches k) [
          | inl own ↦ absurd (after-apart e other (sym (touches.stand_own own.0) ∙ ap (stand_at after) (sym own.1) ∙ at))
          | inr same ↦ sym same ∙ at
        ];
        stacked = λ k at on. stacked-go W after t e k made orderly codes comes touches at on;
      }

-- ---- a region begins

head-new : (is : Bool) (new old : RegionHead) → is ≡ true → (if is then new else old) ≡ new
head-new true new old is = refl
head-new false new old is = cc

head-old : (is : Bool) (new old : RegionHead) → is ≡ false → (if is then new else old) ≡ old
head-old true new old is = cc
head-old false new old is = refl

number-new : (is : Bool) (new old : ℕ) → is ≡ true → (if is then new else old) ≡ new
number-new true new old is = refl
number-new false new old is = cc

number-old : (is : Bool) (new old : ℕ) → is ≡ false → (if is then new else old) ≡ old
number-old true new old is = cc
number-old false new old is = refl

module _ (W after : World) (t r requested codeptr : ℕ) (made : IsMadeWorld W) (orderly : AreOrderly W) (codes : AreCodes W)
    (comes : Comes W t (ParallelBegin r requested codeptr)) (touches : Touches W after t (ParallelBegin r requested codeptr)) where
  begun-head : (region_at after r).head ≡ fresh_head (current W t) (team_size W t requested)
  begun-head = touches.world.head r ∙ head-new (r == r) _ (region_at W r).head (eq-eqb r r refl)

  other-head : (q : ℕ) → (q ≡ r → ⊥) → (region_at after q).head ≡ (region_at W q).head
  other-head q other = touches.world.head q ∙ head-old (q == r) _ (region_at W q).head (ne_eqb q r other)

  begun-forked : (task_at after (current W t)).forked ≡ r
  begun-forked = touches.world.forked (current W t) ∙ number-new (current W t == current W t) r _ (eq-eqb (current W t) (current W t) refl)

  other-forked : (k : ℕ) → (k ≡ current W t → ⊥) → (task_at after k).forked ≡ (task_at W k).forked
  other-forked k other = touches.world.forked k ∙ number-old (k == current W t) r _ (ne_eqb k (current W t) other)

  other-stand : (k : ℕ) → (k ≡ current W t → ⊥) → stand_at after k ≡ stand_at W k
  other-stand k other = touches.stands k (λ code is. other is)

  free-current : (k : ℕ) → stand_at W k ≡ AtFork → k ≡ current W t → ⊥
  free-current k at is =
      let free = comes.0.stand in
      let both : Stand.Free ≡ AtFork = sym free ∙ ap (stand_at W) (sym is) ∙ at in
      cc

  pub open-begun : IsOpenRegion after r
  open-begun =
      record {
        forked = omega (arith, made.implicit.below, comes.1.region);
        made = omega (arith, touches.world.regions, comes.1.region);
        open_still = ap (λ (x : RegionHead). x.ended) begun-head;
      }

  open-other : (q : ℕ) → (q ≡ r → ⊥) → IsOpenRegion after q → IsOpenRegion W q
  open-other q other one =
      record {
        forked = one.forked;
        made = omega (arith, one.made, touches.world.regions, comes.1.region, other);
        open_still = ap (λ (x : RegionHead). x.ended) (sym (other-head q other)) ∙ one.open_still;
      }

  pub begun-task : (region_at after r).head.task ≡ current W t
  begun-task = ap (λ (x : RegionHead). x.task) begun-head

  holds-new : HoldsRegion after r
  holds-new =
      let mine = first-of (IsUnderWay W t) (thread_at W t).stack (orderly.stacked t) comes.0.within.some in
      let owner : (task_at after (current W t)).thread ≡ t = touches.world.owner (current W t) ∙ mine.thread in
      let on : stands_on (current W t) (thread_at after t).stack ≡ true =
      subst (λ (x : Thread). stands_on (current W t) x.stack ≡ true) (sym touches.world.own) (on-current (thread_at W t).stack comes.0.within.some) in
      holds-of after r (current W t) begun-task begun-forked (touches.stand_own refl)
      (subst (λ u. stands_on (current W t) (thread_at after u).stack ≡ true) (sym owner) on)

  pub holds-begins : HoldAll W → HoldAll after
  holds-begins holds q one =
      elim (cases_eq q r) [
        | inl same ↦ subst (HoldsRegion after) (sym same) holds-new
        | inr other ↦ let before = holds q (open-other q other one) in
            let k = (region_at W q).head.task in
            let apart = free-current k before.stand in
            holds-of after q k (ap (λ (x : RegionHead). x.task) (other-head q other)) (other-forked k apart ∙ before.forked)
            (other-stand k apart ∙ before.stand)
            (stacked-go W after t (ParallelBegin r requested codeptr) k made orderly codes comes touches before.stand before.stacked)
      ]

  -- a region that was made before isn't the new one
  older : (q : ℕ) → q < length W.regions → q ≡ r → ⊥
  older q below is = omega (arith, comes.1.region)

  pub forks-begins : ForkAll W → ForkAll after
  forks-begins forks k at =
      elim (cases_eq k (current W t)) [
        | inl same ↦ subst (HasForked after) (sym same) (record {
          region = subst (IsOpenRegion after) (sym begun-forked) open-begun;
          task = ap (λ q. (region_at after q).head.task) begun-forked ∙ begun-task;
        })
        | inr other ↦ let before = forks k (sym (other-stand k other) ∙ at) in
            let q = (task_at W k).forked in
            let is = other-forked k other in
            let head = other-head q (older q before.region.made) in
            record {
              region = subst (IsOpenRegion after) (sym is) (record {
                forked = before.region.forked;
                made = omega (arith, before.region.made, touches.world.regions);
                open_still = ap (λ (x : RegionHead). x.ended) head ∙ before.region.open_still;
              });
              task = ap (λ p. (region_at after p).head.task) is ∙ ap (λ (x : RegionHead). x.task) head ∙ before.task;
            }
      ]

  -- where the new region is an outermost one, no other one is open: the task that held it would stand below the current one, on thread 0
  outermost-alone : HoldAll W → ForkAll W → ((u : ℕ) → IsChain W u (thread_at W u).stack) → (q : ℕ) → IsOpenRegion W q → is_outermost W q ≡ true →
      current_region W t ≡ IMPLICIT_REGION → ⊥
  outermost-alone holds forks chain q one outermost is =
      let hold = holds q one in
      let k = (region_at W q).head.task in
      let u = (task_at W k).thread in
      let there : region_of W k ≡ IMPLICIT_REGION = eqb-true (region_of W k) IMPLICIT_REGION outermost in
      let zeroth : u ≡ 0 = thread-of-implicit W made forks u (thread_at W u).stack k (chain u) hold.stacked there in
      let top = top-implicit W made forks t (thread_at W t).stack (chain t) comes.0.within.some is in
      let on : stands_on k (thread_at W t).stack ≡ true = subst (λ v. stands_on k (thread_at W v).stack ≡ true) (zeroth ∙ sym top.thread) hold.stacked in
      let below = on-popped k (thread_at W t).stack on (λ same. free-current k hold.stand (sym same)) in
      all-on (λ (j : ℕ). stand_at W j ≢ AtFork) k (drop 1 (thread_at W t).stack) top.apart below hold.stand

  pub outer-begins : HoldAll W → ForkAll W → ((u : ℕ) → IsChain W u (thread_at W u).stack) → OuterAlone W → OuterAlone after
  outer-begins holds forks chain outer p q one two first second =
      elim (cases_eq p r) [
        | inl left ↦ elim (cases_eq q r) [
          | inl right ↦ left ∙ sym right
          | inr other ↦ absurd (outermost-alone holds forks chain q (open-other q other two) (outermost-before q other two second)
              (new-region (subst (λ x. is_outermost after x ≡ true) left first)))
        ]
        | inr apart ↦ elim (cases_eq q r) [
          | inl right ↦ absurd (outermost-alone holds forks chain p (open-other p apart one) (outermost-before p apart one first)
              (new-region (subst (λ x. is_outermost after x ≡ true) right second)))
          | inr other ↦ outer p q (open-other p apart one) (open-other q other two) (outermost-before p apart one first) (outermost-before q other two second)
        ]
      ]
    where
      grown : Grown W after
      grown = grown-go W after t (ParallelBegin r requested codeptr) comes touches

      outermost-before : (q : ℕ) → (q ≡ r → ⊥) → IsOpenRegion after q → is_outermost after q ≡ true → is_outermost W q ≡ true
      outermost-before q other one is =
          let before = open-other q other one in
          sym (outermost-grown W after q made grown (record { some = omega (arith, before.forked); below = before.made })) ∙ is

      new-region : is_outermost after r ≡ true → current_region W t ≡ IMPLICIT_REGION
      new-region is =
          sym (grown.region (current W t) (current-below W t made))
          ∙ eqb-true (region_of after (current W t)) IMPLICIT_REGION (ap (λ j. region_of after j == IMPLICIT_REGION) (sym begun-task) ∙ is)

-- ---- a region ends

module _ (W after : World) (t r codeptr : ℕ) (made : IsMadeWorld W) (orderly : AreOrderly W) (codes : AreCodes W) (comes : Comes W t (ParallelEnd r codeptr))
    (touches : Touches W after t (ParallelEnd r codeptr)) where
  end-task : (q : ℕ) → (region_at after q).head.task ≡ (region_at W q).head.task
  end-task q = ap (λ (x : RegionHead). x.task) (touches.world.head q) ∙ task-either (q == r) (region_at W q).head
    where
      task-either : (is : Bool) (head : RegionHead) → (if is then record head { ended = true } else head).task ≡ head.task
      task-either true head = refl
      task-either false head = refl

  ended-now : (region_at after r).head.ended ≡ true
  ended-now = ap (λ (x : RegionHead). x.ended) (touches.world.head r ∙ head-new (r == r) _ (region_at W r).head (eq-eqb r r refl))

  kept-head : (q : ℕ) → (q ≡ r → ⊥) → (region_at after q).head ≡ (region_at W q).head
  kept-head q other = touches.world.head q ∙ head-old (q == r) _ (region_at W q).head (ne_eqb q r other)

  not-ended : (q : ℕ) → IsOpenRegion after q → q ≡ r → ⊥
  not-ended q one is =
      let still : (region_at after r).head.ended ≡ false = ap (λ p. (region_at after p).head.ended) (sym is) ∙ one.open_still in
      true≢false (sym ended-now ∙ still)

  open-yet : (q : ℕ) → IsOpenRegion after q → IsOpenRegion W q
  open-yet q one =
      record {
        forked = one.forked;
        made = rw (← touches.world.regions) one.made;
        open_still = ap (λ (x : RegionHead). x.ended) (sym (kept-head q (not-ended q one))) ∙ one.open_still;
      }

  pub open-kept : (q : ℕ) → (q ≡ r → ⊥) → IsOpenRegion W q → IsOpenRegion after q
  open-kept q other one =
      record { forked = one.forked; made = rw touches.world.regions one.made; open_still = ap (λ (x : RegionHead). x.ended) (kept-head q other) ∙ one.open_still }

  other-stands : (k : ℕ) → (k ≡ current W t → ⊥) → stand_at after k ≡ stand_at W k
  other-stands k other = touches.stands k (λ code is. other is)

  pub holds-ends : HoldAll W → HoldAll after
  holds-ends holds q one =
      let before = holds q (open-yet q one) in
      let k = (region_at W q).head.task in
      let apart : k ≡ current W t → ⊥ = λ is. not-ended q one (sym before.forked ∙ ap (λ j. (task_at W j).forked) is ∙ sym comes.1.region) in
      holds-of after q k (end-task q) (touches.world.forked k ∙ before.forked) (other-stands k apart ∙ before.stand)
      (stacked-go W after t (ParallelEnd r codeptr) k made orderly codes comes touches before.stand before.stacked)

  -- the region is the one that the current task has forked
  pub ends-own : ForkAll W → (region_at W r).head.task ≡ current W t
  ends-own forks = ap (λ q. (region_at W q).head.task) comes.1.region ∙ (forks (current W t) comes.0.stand).task

  pub forks-ends : ForkAll W → ForkAll after
  forks-ends forks k at =
      let apart : k ≡ current W t → ⊥ = λ is. let now : Stand.Free ≡ AtFork = sym (touches.stand_own refl) ∙ ap (stand_at after) (sym is) ∙ at in cc in
      let before = forks k (sym (other-stands k apart) ∙ at) in
      let q = (task_at W k).forked in
      let other : q ≡ r → ⊥ = λ is. apart (sym before.task ∙ ap (λ p. (region_at W p).head.task) is ∙ ends-own forks) in
      let forked = touches.world.forked k in
      record {
        region = subst (IsOpenRegion after) (sym forked) (open-kept q other before.region);
        task = ap (λ p. (region_at after p).head.task) forked ∙ end-task q ∙ before.task;
      }

  pub outer-ends : OuterAlone W → OuterAlone after
  outer-ends outer p q one two first second = outer p q (open-yet p one) (open-yet q two) (before p one first) (before q two second)
    where
      grown : Grown W after
      grown = grown-go W after t (ParallelEnd r codeptr) comes touches

      before : (q : ℕ) → IsOpenRegion after q → is_outermost after q ≡ true → is_outermost W q ≡ true
      before q one is =
          let yet = open-yet q one in
          sym (outermost-grown W after q made grown (record { some = omega (arith, yet.forked); below = yet.made })) ∙ is

-- ---- all events

module _ (W after : World) (t : ℕ) (made : IsMadeWorld W) (orderly : AreOrderly W) (codes : AreCodes W) (holds : HoldAll W) (forks : ForkAll W) where
  pub holds-go : (e : Event) → Comes W t e → Touches W after t e → HoldAll after
  holds-go (ParallelBegin r requested codeptr) comes touches = holds-begins W after t r requested codeptr made orderly codes comes touches holds
  holds-go (ParallelEnd r codeptr) comes touches = holds-ends W after t r codeptr made orderly codes comes touches holds
  holds-go e comes touches = holds-same W after (same-forks-go W after t e made orderly codes comes touches refl) holds

  pub forks-go : (e : Event) → Comes W t e → Touches W after t e → ForkAll after
  forks-go (ParallelBegin r requested codeptr) comes touches = forks-begins W after t r requested codeptr made orderly codes comes touches forks
  forks-go (ParallelEnd r codeptr) comes touches = forks-ends W after t r codeptr made orderly codes comes touches forks
  forks-go e comes touches = forks-same W after (same-forks-go W after t e made orderly codes comes touches refl) forks

  pub outer-go : ((u : ℕ) → IsChain W u (thread_at W u).stack) → OuterAlone W → (e : Event) → Comes W t e → Touches W after t e → OuterAlone after
  outer-go chain outer (ParallelBegin r requested codeptr) comes touches =
      outer-begins W after t r requested codeptr made orderly codes comes touches holds forks chain outer
  outer-go chain outer (ParallelEnd r codeptr) comes touches = outer-ends W after t r codeptr made orderly codes comes touches outer
  outer-go chain outer e comes touches =
      outer-same W after (same-forks-go W after t e made orderly codes comes touches refl) made (grown-go W after t e comes touches) outer

-- which regions are open still
abbrev pub IsNotEnded : Event → ℕ → Type 0
IsNotEnded (ParallelEnd r codeptr) q = q ≢ r
IsNotEnded other q = Unit {0}

pub open-go : (W after : World) (t : ℕ) (e : Event) → IsMadeWorld W → AreOrderly W → AreCodes W → Comes W t e → Touches W after t e → (q : ℕ) →
    IsNotEnded e q → IsOpenRegion W q → IsOpenRegion after q
open-go W after t (ParallelBegin r requested codeptr) made orderly codes comes touches q other one =
    record {
      forked = one.forked;
      made = omega (arith, one.made, touches.world.regions);
      open_still = ap (λ (x : RegionHead). x.ended) (touches.world.head q ∙ head-old (q == r) _ (region_at W q).head
          (ne_eqb q r (λ is. omega (arith, one.made, comes.1.region)))) ∙ one.open_still;
    }
open-go W after t (ParallelEnd r codeptr) made orderly codes comes touches q other one =
    open-kept W after t r codeptr made orderly codes comes touches q other one
open-go W after t e made orderly codes comes touches q other one = open-after W after (same-forks-go W after t e made orderly codes comes touches refl) q one
