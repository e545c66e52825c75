-- How far a member has come at the barrier that it has met last, by where its code stands.
use Rattle.std.proofs.Common.{◌≡◌, ◌≢◌, ◌&&◌, Bool, true, false, if◌then◌else◌, List, [], ◌∷◌, length, refl, sym, ap, ap₂, ◌∙◌, subst, arith}
use Rattle.std.proofs.lemmas.Bool.{and_from}
use Rattle.c_model.specs.declared.point.SyncKind.{SyncKind}
use Rattle.c_model.specs.declared.point.SyncStage.{SyncStage}
use Rattle.c_model.specs.declared.point.SyncStage.TheVariants as stage
use Rattle.team_words.specs.Team.{Met, is_at_barrier, last_met, may_go_on}
use Rattle.omp_model.specs.Gates.{is_barrier}
use Rattle.omp_model.proofs.Touching.{AtBarrierElse}
use Rattle.nested_runs.proofs.Standing.{Stand}
use Rattle.nested_runs.proofs.Standing.Stand.{AtFork, AtMutex, AtSync, Free}
use Rattle.nested_runs.proofs.Touching.{ComesFree}
use Rattle.team_calls.proofs.Lists.{SameLast}

abbrev pub MayMeet : List Met → Type 0
MayMeet mets = may_go_on mets ≡ true

abbrev pub IsAtBarrier : List Met → Type 0
IsAtBarrier mets = is_at_barrier mets ≡ true

-- a member whose code stands in a wait has arrived, but for where its thread is inside the begin of the wait
pub record IsWaiting (arriving : Bool) (mets : List Met) : Type 0 where
  pub at : IsAtBarrier mets
  pub arrived : arriving ≡ false → (last_met mets).arrived ≡ true

abbrev pub PlaceOf : Stand → Bool → List Met → Type 0
PlaceOf (AtSync which stage.WaitBegin) arriving mets = AtBarrierElse (is_barrier which) (IsAtBarrier mets) (MayMeet mets)
PlaceOf (AtSync which stage.WaitEnd) arriving mets = AtBarrierElse (is_barrier which) (IsWaiting arriving mets) (MayMeet mets)
PlaceOf other arriving mets = MayMeet mets

-- ---- one of two

at-each : (b : Bool) (P Q R S : Type 0) → (P → R) → (Q → S) → AtBarrierElse b P Q → AtBarrierElse b R S
at-each true P Q R S first second at = first at
at-each false P Q R S first second at = second at

pub at-barrier : (b : Bool) (P Q : Type 0) → b ≡ true → AtBarrierElse b P Q → P
at-barrier true P Q is at = at
at-barrier false P Q is at = cc

pub of-barrier : (b : Bool) (P Q : Type 0) → (b ≡ true → P) → (b ≡ false → Q) → AtBarrierElse b P Q
of-barrier true P Q first second = first refl
of-barrier false P Q first second = second refl

pub at-none : (b : Bool) (P Q : Type 0) → b ≡ false → AtBarrierElse b P Q → Q
at-none true P Q is at = cc
at-none false P Q is at = at

-- ---- what keeps a place

may-same : (mets after : List Met) → SameLast mets after → MayMeet mets → MayMeet after
may-same mets after same may =
    ap (λ (b : Bool). if b then (last_met after).arrived && (last_met after).passed else true) same.at
    ∙ ap₂ (λ (one other : Bool). if is_at_barrier mets then one && other else true) same.arrived same.passed
    ∙ may

waits-same : (arriving : Bool) (mets after : List Met) → SameLast mets after → IsWaiting arriving mets → IsWaiting arriving after
waits-same arriving mets after same waits = record { at = same.at ∙ waits.at; arrived = λ not. same.arrived ∙ waits.arrived not }

pub place-same : (stand : Stand) (arriving : Bool) (mets after : List Met) → SameLast mets after → PlaceOf stand arriving mets → PlaceOf stand arriving after
place-same (AtSync which stage.WaitBegin) arriving mets after same place =
    at-each (is_barrier which) _ _ (IsAtBarrier after) (MayMeet after) (λ at. same.at ∙ at) (may-same mets after same) place
place-same (AtSync which stage.WaitEnd) arriving mets after same place =
    at-each (is_barrier which) _ _ (IsWaiting arriving after) (MayMeet after) (waits-same arriving mets after same) (may-same mets after same) place
place-same (AtSync which stage.RegionBegin) arriving mets after same place = may-same mets after same place
place-same (AtSync which stage.RegionEnd) arriving mets after same place = may-same mets after same place
place-same Free arriving mets after same place = may-same mets after same place
place-same AtFork arriving mets after same place = may-same mets after same place
place-same (AtMutex which id) arriving mets after same place = may-same mets after same place

-- where the thread is inside the begin of the wait no more than before
pub place-known : (stand : Stand) (arriving other : Bool) (mets : List Met) → (other ≡ false → arriving ≡ false) → PlaceOf stand arriving mets →
    PlaceOf stand other mets
place-known (AtSync which stage.WaitBegin) arriving other mets known place = place
place-known (AtSync which stage.WaitEnd) arriving other mets known place =
    at-each (is_barrier which) _ _ (IsWaiting other mets) (MayMeet mets) (λ waits. record { at = waits.at; arrived = λ not. waits.arrived (known not) })
    (λ may. may) place
place-known (AtSync which stage.RegionBegin) arriving other mets known place = place
place-known (AtSync which stage.RegionEnd) arriving other mets known place = place
place-known Free arriving other mets known place = place
place-known AtFork arriving other mets known place = place
place-known (AtMutex which id) arriving other mets known place = place

-- code that was in no barrier
free-before : (before : Stand) (arriving : Bool) (mets : List Met) → ((which : SyncKind) (at : SyncStage) → before ≢ AtSync which at) →
    PlaceOf before arriving mets → MayMeet mets
free-before (AtSync which at) arriving mets apart place = absurd (apart which at refl)
free-before Free arriving mets apart place = place
free-before AtFork arriving mets apart place = place
free-before (AtMutex which id) arriving mets apart place = place

pub place-freed : (before after : Stand) (arriving other : Bool) (mets : List Met) → ComesFree before after → PlaceOf before arriving mets →
    PlaceOf after other mets
place-freed before after arriving other mets comes place =
    subst (λ (stand : Stand). PlaceOf stand other mets) (sym comes.free) (free-before before arriving mets comes.synced place)

-- ---- what is met last

pub goes-past : (mets : List Met) → (last_met mets).arrived ≡ true → (last_met mets).passed ≡ true → MayMeet mets
goes-past mets arrived passed = either (is_at_barrier mets)
  where
    either : (b : Bool) → (if b then (last_met mets).arrived && (last_met mets).passed else true) ≡ true
    either true = and_from (last_met mets).arrived (last_met mets).passed arrived passed
    either false = refl

pub goes-work : (mets : List Met) → is_at_barrier mets ≡ false → MayMeet mets
goes-work mets not = ap (λ (b : Bool). if b then (last_met mets).arrived && (last_met mets).passed else true) not

pub goes-none : (mets : List Met) → length mets ≡ 0 → MayMeet mets
goes-none [] none = refl
goes-none (met ∷ mets) none = absurd (omega (arith, none))
