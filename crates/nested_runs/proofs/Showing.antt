-- What the tasks of a stack show: the current one of them, and what is so where a task begins, ends, or opens and ends something.
use Rattle.std.proofs.Common.{ℕ, ◌≡◌, ◌≤◌, ◌⊎◌, Bool, true, false, List, [], ◌∷◌, ◌++◌, map, drop, slice_index_or, refl, sym, ap, ap₂, ◌∙◌, inl, inr, true≢false, arith}
use Rattle.std.specs.Prelude.{All, Some}
use Rattle.std.proofs.lemmas.List.Elements.{All-head, All-tail}
use Rattle.ompt_calls.specs.declared.event.EventRecord.{EventRecord}
use Rattle.c_brackets.specs.Effects.{Effect, HasNoFork}
use Rattle.c_brackets.specs.Effects.Effect.{Opens, Closes, Leaves}
use Rattle.c_brackets.specs.Opened.{Open}
use Rattle.c_brackets.specs.Opened.Open.{Forks, Works, Masks, Syncs, Awaits}
use Rattle.omp_model.specs.State.{World, task_at}
use Rattle.omp_model.specs.Members.{is_explicit_task, region_of}
use Rattle.omp_model.specs.Calls.{work_number}
use Rattle.trace_check.specs.declared.bracket.Bracket.{Bracket}
use Rattle.trace_check.specs.declared.bracket.Bracket.TheVariants.{Parallel, Worksharing}
use Rattle.trace_check.specs.declared.change.Change.{Change}
use Rattle.trace_check.specs.declared.change.Change.TheVariants as change
use Rattle.trace_check.specs.Before.{current as current_task, opened}
use Rattle.trace_check.specs.Brackets.{changed, current_in, is_innermost, is_match}
use Rattle.nested_runs.proofs.Effects.{EndsNewest, opens_after}
use Rattle.nested_runs.proofs.Shown.{begun_as, bracket_of, opens_at, shown}

-- ---- the current task

behind-opens : (W : World) (k : ℕ) (all : List Open) (rest : List Bracket) → current_in (map (bracket_of W k) all ++ rest) ≡ current_in rest
behind-opens W k [] rest = refl
behind-opens W k (Forks ∷ all) rest = behind-opens W k all rest
behind-opens W k (Works kind count ∷ all) rest = behind-opens W k all rest
behind-opens W k (Masks ∷ all) rest = behind-opens W k all rest
behind-opens W k (Syncs kind ∷ all) rest = behind-opens W k all rest
behind-opens W k (Awaits kind ∷ all) rest = behind-opens W k all rest

begun-current : (explicit : Bool) (below : List ℕ) (k : ℕ) (rest : List Bracket) → current_in (begun_as explicit below k ∷ rest) ≡ Some k
begun-current true below k rest = refl
begun-current false below k rest = refl

-- the current task is the one that the newest bracket of a task began
pub current-shown : (W : World) (k : ℕ) (below : List ℕ) → current_in (shown W (k ∷ below)) ≡ Some k
current-shown W k below = behind-opens W k (opens_at W k) _ ∙ begun-current (is_explicit_task W k) below k (shown W below)

pub current-told : (W : World) (past : List EventRecord) (t : ℕ) (stack : List ℕ) → opened t past ≡ shown W stack → 1 ≤ slice_index_or stack 0 0 →
    current_task t past ≡ Some (slice_index_or stack 0 0)
current-told W past t [] is some = absurd (omega (arith, some))
current-told W past t (k ∷ below) is some = ap current_in is ∙ current-shown W k below

-- ---- tasks that show the same in two worlds

-- what a task has open is numbered alike, and it began alike
pub record NumberedAlike (W after : World) (k : ℕ) : Type 0 where
  pub brackets : map (bracket_of after k) (opens_at W k) ≡ map (bracket_of W k) (opens_at W k)
  pub explicit : is_explicit_task after k ≡ is_explicit_task W k

pub record ShownAlike (W after : World) (k : ℕ) : Type 0 where
  pub numbered : NumberedAlike W after k
  pub opens : opens_at after k ≡ opens_at W k

-- of a task of the same region, which has forked the same region or has none open
brackets-forked : (W after : World) (k : ℕ) (all : List Open) → region_of after k ≡ region_of W k → (task_at after k).forked ≡ (task_at W k).forked →
    map (bracket_of after k) all ≡ map (bracket_of W k) all
brackets-forked W after k [] region forked = refl
brackets-forked W after k (Forks ∷ all) region forked = ap₂ ◌∷◌ (ap Parallel forked) (brackets-forked W after k all region forked)
brackets-forked W after k (Works kind count ∷ all) region forked =
    ap₂ ◌∷◌ (ap (λ r. Worksharing r k (work_number kind) count) region) (brackets-forked W after k all region forked)
brackets-forked W after k (Masks ∷ all) region forked = ap₂ ◌∷◌ refl (brackets-forked W after k all region forked)
brackets-forked W after k (Syncs kind ∷ all) region forked = ap₂ ◌∷◌ refl (brackets-forked W after k all region forked)
brackets-forked W after k (Awaits kind ∷ all) region forked = ap₂ ◌∷◌ refl (brackets-forked W after k all region forked)

brackets-unforked : (W after : World) (k : ℕ) (all : List Open) → region_of after k ≡ region_of W k → HasNoFork all →
    map (bracket_of after k) all ≡ map (bracket_of W k) all
brackets-unforked W after k [] region none = refl
brackets-unforked W after k (Forks ∷ all) region none = absurd (true≢false (sym none))
brackets-unforked W after k (Works kind count ∷ all) region none =
    ap₂ ◌∷◌ (ap (λ r. Worksharing r k (work_number kind) count) region) (brackets-unforked W after k all region none)
brackets-unforked W after k (Masks ∷ all) region none = ap₂ ◌∷◌ refl (brackets-unforked W after k all region none)
brackets-unforked W after k (Syncs kind ∷ all) region none = ap₂ ◌∷◌ refl (brackets-unforked W after k all region none)
brackets-unforked W after k (Awaits kind ∷ all) region none = ap₂ ◌∷◌ refl (brackets-unforked W after k all region none)

pub brackets-alike : (W after : World) (k : ℕ) → region_of after k ≡ region_of W k →
    ((task_at after k).forked ≡ (task_at W k).forked) ⊎ HasNoFork (opens_at W k) →
    map (bracket_of after k) (opens_at W k) ≡ map (bracket_of W k) (opens_at W k)
brackets-alike W after k region (inl forked) = brackets-forked W after k (opens_at W k) region forked
brackets-alike W after k region (inr none) = brackets-unforked W after k (opens_at W k) region none

pub stack-alike : (W after : World) (stack : List ℕ) → All (ShownAlike W after) stack → shown after stack ≡ shown W stack
stack-alike W after [] alike = refl
stack-alike W after (k ∷ below) alike =
    let own = All-head (ShownAlike W after) k below alike in
    let rest = stack-alike W after below (All-tail (ShownAlike W after) k below alike) in
    ap₂ ◌++◌ (ap (map (bracket_of after k)) own.opens ∙ own.numbered.brackets)
    (ap₂ (λ explicit older. begun_as explicit below k ∷ older) own.numbered.explicit rest)

-- ---- a task begins, and ends

pub begins-shown : (W after : World) (k : ℕ) (stack : List ℕ) (explicit : Bool) → opens_at after k ≡ [] → is_explicit_task after k ≡ explicit →
    shown after stack ≡ shown W stack →
    shown after (k ∷ stack) ≡ begun_as explicit stack k ∷ shown W stack
begins-shown W after k stack explicit none is alike =
    ap (λ all. map (bracket_of after k) all ++ begun_as (is_explicit_task after k) stack k ∷ shown after stack) none
    ∙ ap₂ (λ began older. begun_as began stack k ∷ older) is alike

-- the first task of a stack, which has nothing open
pub ended-shown : (W : World) (stack : List ℕ) → 1 ≤ slice_index_or stack 0 0 → opens_at W (slice_index_or stack 0 0) ≡ [] →
    shown W stack ≡ begun_as (is_explicit_task W (slice_index_or stack 0 0)) (drop 1 stack) (slice_index_or stack 0 0) ∷ shown W (drop 1 stack)
ended-shown W [] some none = absurd (omega (arith, some))
ended-shown W (k ∷ below) some none = ap (λ all. map (bracket_of W k) all ++ begun_as (is_explicit_task W k) below k ∷ shown W below) none

-- .. and which has this open as the newest
pub newest-shown : (W : World) (stack : List ℕ) (one : Open) (older : List Open) → 1 ≤ slice_index_or stack 0 0 →
    opens_at W (slice_index_or stack 0 0) ≡ one ∷ older →
    (rest : List Bracket) × (shown W stack ≡ bracket_of W (slice_index_or stack 0 0) one ∷ rest)
newest-shown W [] one older some is = absurd (omega (arith, some))
newest-shown W (k ∷ below) one older some is = (
  map (bracket_of W k) older ++ begun_as (is_explicit_task W k) below k ∷ shown W below,
  ap (λ all. map (bracket_of W k) all ++ begun_as (is_explicit_task W k) below k ∷ shown W below) is,
)

-- what an end matches is the innermost
pub innermost : (brackets : List Bracket) (newest ended : Bracket) (rest : List Bracket) → brackets ≡ newest ∷ rest → is_match newest ended ≡ true →
    is_innermost brackets ended ≡ true
innermost brackets newest ended rest is match = ap (λ bs. is_innermost bs ended) is ∙ match

-- ---- the current task opens or ends something

abbrev pub change_shown : (Open → Bracket) → Effect → Change
change_shown numbered (Opens one) = change.Opens (numbered one)
change_shown numbered (Closes one) = change.Closes (numbered one)
change_shown numbered Leaves = change.Stays

pub effect-shown : (numbered : Open → Bracket) (effect : Effect) (all : List Open) (rest : List Bracket) → EndsNewest effect all →
    changed (change_shown numbered effect) (map numbered all ++ rest) ≡ map numbered (opens_after effect all) ++ rest
effect-shown numbered (Opens one) all rest ends = refl
effect-shown numbered (Closes one) all rest ends =
    ap (λ os. drop 1 (map numbered os ++ rest)) ends.1 ∙ sym (ap (λ os. map numbered (drop 1 os) ++ rest) ends.1)
effect-shown numbered Leaves all rest ends = refl
