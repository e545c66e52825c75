-- What is kept of a created task tells whether it was created and has started.
use Rattle.std.proofs.Common.{◌≡◌, ℕ, ◌==◌, ◌&&◌, ◌||◌, Bool, true, false, cond, not, List, [], ◌∷◌, Option, Some, None, refl, sym, ◌∙◌, ap}
use Rattle.std.specs.List.{list_any}
use Rattle.std.proofs.lemmas.Bool.{eqb-true}
use Rattle.ompt_calls.specs.declared.event.EventRecord.{EventRecord}
use Rattle.trace_check.specs.declared.things.Created.{Created}
use Rattle.trace_check.specs.Before.{Creation, creations, has_started, is_complete, is_created}
use Rattle.trace_check.specs.Checking.{Unbroken, created_known, created_of, creation_in}
use Rattle.trace_check.proofs.Names.{complete_started}

abbrev is_task : ℕ → Creation → Bool
is_task k creation = creation.task == k

-- a creation that is found is of the task
pub found_task : (k : ℕ) (all : List Creation) (creation : Creation) → creation_in k all ≡ Some creation → creation.task ≡ k
found_task k [] creation is = absurd (cc)
found_task k (other ∷ all) creation is = by-test (other.task == k) refl (found_task k all creation) is
  where
    by-test : (b : Bool) → (other.task == k) ≡ b → (creation_in k all ≡ Some creation → creation.task ≡ k) → cond b (Some other) (creation_in k all) ≡ Some creation → creation.task ≡ k
    by-test true same rest found = let e : other ≡ creation = cc in sym (ap (λ (c : Creation). c.task) e) ∙ eqb-true other.task k same
    by-test false same rest found = rest found

pub found_any : (k : ℕ) (all : List Creation) (creation : Creation) → creation_in k all ≡ Some creation → list_any (is_task k) all ≡ true
found_any k [] creation is = absurd (cc)
found_any k (other ∷ all) creation is = by-test (other.task == k) (found_any k all creation) is
  where
    by-test : (b : Bool) → (creation_in k all ≡ Some creation → list_any (is_task k) all ≡ true) → cond b (Some other) (creation_in k all) ≡ Some creation → (b || list_any (is_task k) all) ≡ true
    by-test true rest found = refl
    by-test false rest found = rest found

pub missing_any : (k : ℕ) (all : List Creation) → creation_in k all ≡ None → list_any (is_task k) all ≡ false
missing_any k [] is = refl
missing_any k (other ∷ all) is = by-test (other.task == k) (missing_any k all) is
  where
    by-test : (b : Bool) → (creation_in k all ≡ None → list_any (is_task k) all ≡ false) → cond b (Some other) (creation_in k all) ≡ None → (b || list_any (is_task k) all) ≡ false
    by-test true rest none = absurd (cc)
    by-test false rest none = rest none

abbrev started_in : Option Created → Bool
started_in None = false
started_in (Some created) = created.started

-- a task that is kept
pub kept_starts : (k : ℕ) (past : List EventRecord) (created : Created) → created_known k past ≡ Some created → not created.started ≡ (is_created k past && not (has_started k past))
kept_starts k past created is = by-complete (is_complete k past) (creation_in k (creations past)) refl is
  where
    by-complete : (b : Bool) (made : Option Creation) → creation_in k (creations past) ≡ made → cond b None (created_of past made) ≡ Some created → not created.started ≡ (is_created k past && not (has_started k past))
    by-complete true made here found = absurd (cc)
    by-complete false None here found = absurd (cc)
    by-complete false (Some creation) here found =
        let same : created_of past (Some creation) ≡ Some created = found in
        let e : has_started creation.task past ≡ created.started = of-some same in
        let f : creation.task ≡ k = found_task k (creations past) creation here in
        let g : is_created k past ≡ true = found_any k (creations past) creation here in
        rw (g, ← e, f) refl
      where
        of-some : created_of past (Some creation) ≡ Some created → has_started creation.task past ≡ created.started
        of-some e = ap started_in e

-- and one that isn't kept
pub unkept_starts : (k : ℕ) (past : List EventRecord) → Unbroken past → created_known k past ≡ None → false ≡ (is_created k past && not (has_started k past))
unkept_starts k past unbroken is = by-complete (is_complete k past) refl (creation_in k (creations past)) refl is
  where
    nothing : (b : Bool) → false ≡ (b && not true)
    nothing true = refl
    nothing false = refl

    by-complete : (b : Bool) → is_complete k past ≡ b → (made : Option Creation) → creation_in k (creations past) ≡ made → cond b None (created_of past made) ≡ None → false ≡ (is_created k past && not (has_started k past))
    by-complete true complete made here none = rw (complete_started k past unbroken complete) (nothing (is_created k past))
    by-complete false complete None here none = rw (missing_any k (creations past) here) refl
    by-complete false complete (Some creation) here none = absurd (cc)
