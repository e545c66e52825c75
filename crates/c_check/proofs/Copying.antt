-- The copies of tasks, and one more.
use Rattle.std.proofs.Common.{◌≡◌, ℕ, Bool, true, false, cond, ◌&&◌, ◌||◌, List, [], ◌∷◌, ◌++◌, refl, sym, ap, ◌∙◌, nat_eq, append_assoc}
use Rattle.c_tokens.specs.declared.token.Spot.{Spot}
use Rattle.c_check.specs.Faults.{is_same_spot}
use Rattle.c_check.specs.Once.{is_among, with_each, with_one}
use Rattle.c_check.specs.Seen.{copies_of_task, slots_copied}
use Rattle.c_check.specs.declared.constructs.task_copies.TaskCopies.{TaskCopies}
use Rattle.c_check.specs.Constructs.{Construct}
use Rattle.c_check.specs.Copies.{AreCopies}
use Rattle.c_check.specs.Rules.{is_some_copy}
use Rattle.c_check.specs.Shares.{TaskCopy, copies_around, copies_by_rule, copy_by_rule, shared_by_rule}
use Rattle.c_check.proofs.Places.{same-spot}

with_each-append : (known front more : List ℕ) → with_each known (front ++ more) ≡ with_each (with_each known front) more
unfolding with_each
with_each-append known [] more = refl
with_each-append known (first ∷ front) more = with_each-append (with_one known first) front more

slots_copied-more : (copies : List TaskCopy) (one : TaskCopy) (task : Spot) → slots_copied (copies ++ one ∷ []) task ≡ slots_copied copies task ++ cond (is_same_spot one.task task) (one.slot ∷ []) []
unfolding slots_copied
slots_copied-more [] one task = last (is_same_spot one.task task)
  where
    last : (here : Bool) → cond here (one.slot ∷ []) [] ≡ cond here (one.slot ∷ []) []
    last here = refl
slots_copied-more (first ∷ copies) one task =
    elim (is_same_spot first.task task) as (λ here. cond here (first.slot ∷ slots_copied (copies ++ one ∷ []) task) (slots_copied (copies ++ one ∷ []) task) ≡ cond here (first.slot ∷ slots_copied copies task) (slots_copied copies task) ++ cond (is_same_spot one.task task) (one.slot ∷ []) []) [
      | true ↦ ap (λ (slots : List ℕ). first.slot ∷ slots) (slots_copied-more copies one task)
      | false ↦ slots_copied-more copies one task
    ]

copies-more : (copies : List TaskCopy) (one : TaskCopy) (task : Spot) → copies_of_task (copies ++ one ∷ []) task ≡ cond (is_same_spot one.task task) (with_one (copies_of_task copies task) one.slot) (copies_of_task copies task)
unfolding with_each
copies-more copies one task =
    ap (with_each []) (slots_copied-more copies one task)
    ∙ with_each-append [] (slots_copied copies task) (cond (is_same_spot one.task task) (one.slot ∷ []) [])
    ∙ last (is_same_spot one.task task)
  where
    last : (here : Bool) → with_each (copies_of_task copies task) (cond here (one.slot ∷ []) []) ≡ cond here (with_one (copies_of_task copies task) one.slot) (copies_of_task copies task)
    last true = refl
    last false = refl

among-push : (numbers : List ℕ) (one other : ℕ) → is_among (numbers ++ one ∷ []) other ≡ (is_among numbers other || nat_eq one other)
unfolding is_among
among-push [] one other = or_false (nat_eq one other)
  where
    or_false : (test : Bool) → (test || false) ≡ test
    or_false true = refl
    or_false false = refl
among-push (first ∷ numbers) one other =
    elim (nat_eq first other) as (λ here. (here || is_among (numbers ++ one ∷ []) other) ≡ ((here || is_among numbers other) || nat_eq one other)) [
      | true ↦ refl
      | false ↦ among-push numbers one other
    ]

module _ (copies : List TaskCopy) (one : TaskCopy) where
  -- one that is known
  pub copies-again : is_among (copies_of_task copies one.task) one.slot ≡ true → (task : Spot) → copies_of_task copies task ≡ copies_of_task (copies ++ one ∷ []) task
  copies-again known task = sym (copies-more copies one task ∙ same (is_same_spot one.task task) refl)
    where
      same : (here : Bool) → is_same_spot one.task task ≡ here → cond here (with_one (copies_of_task copies task) one.slot) (copies_of_task copies task) ≡ copies_of_task copies task
      same true here = rw (ap (λ (spot : Spot). is_among (copies_of_task copies spot) one.slot) (sym (same-spot one.task task here)) ∙ known) refl
      same false here = refl

  module _ (fresh : is_among (copies_of_task copies one.task) one.slot ≡ false) where
    -- one that isn't
    pub copies-new : (task : Spot) → copies_of_task (copies ++ one ∷ []) task ≡ cond (is_same_spot one.task task) (copies_of_task copies one.task ++ one.slot ∷ []) (copies_of_task copies task)
    copies-new task = copies-more copies one task ∙ new (is_same_spot one.task task) refl
      where
        new : (here : Bool) → is_same_spot one.task task ≡ here → cond here (with_one (copies_of_task copies task) one.slot) (copies_of_task copies task) ≡ cond here (copies_of_task copies one.task ++ one.slot ∷ []) (copies_of_task copies task)
        new true here = rw (← same-spot one.task task here, fresh) refl
        new false here = refl

    pub known-new : (task : Spot) (slot : ℕ) (before : Bool) → before ≡ is_among (copies_of_task copies task) slot
        → cond (is_same_spot one.task task && nat_eq one.slot slot) true before ≡ is_among (copies_of_task (copies ++ one ∷ []) task) slot
    known-new task slot before is = new (is_same_spot one.task task) refl ∙ sym (ap (λ (slots : List ℕ). is_among slots slot) (copies-new task))
      where
        or_cond : (test other : Bool) → cond test true other ≡ (other || test)
        or_cond true true = refl
        or_cond true false = refl
        or_cond false true = refl
        or_cond false false = refl

        new : (here : Bool) → is_same_spot one.task task ≡ here → cond (here && nat_eq one.slot slot) true before ≡ is_among (cond here (copies_of_task copies one.task ++ one.slot ∷ []) (copies_of_task copies task)) slot
        new true here =
            or_cond (nat_eq one.slot slot) before
            ∙ ap (λ (found : Bool). found || nat_eq one.slot slot) (is ∙ ap (λ (spot : Spot). is_among (copies_of_task copies spot) slot) (sym (same-spot one.task task here)))
            ∙ sym (among-push (copies_of_task copies one.task) one.slot slot)
        new false here = is

-- whether there is some copy
pub is_some_copy-more : (copies : List TaskCopy) (construct : Construct) (by_rule : Bool) (slot : ℕ) → is_some_copy (copies ++ copy_by_rule construct by_rule slot) ≡ (is_some_copy copies || copies_by_rule construct by_rule slot)
is_some_copy-more [] construct by_rule slot = some (copies_by_rule construct by_rule slot)
  where
    some : (test : Bool) → is_some_copy (cond test (record { task = construct.head.spot; slot = slot } ∷ []) []) ≡ test
    some true = refl
    some false = refl
is_some_copy-more (first ∷ copies) construct by_rule slot = refl

-- one construct further in
module _ (construct : Construct) (around : List Construct) (of_file : Bool) (slot : ℕ) (by_rule : Bool) (rule : by_rule ≡ shared_by_rule around of_file slot) where
  pub copied-inside : (copied : Bool) → copied ≡ is_some_copy (copies_around around of_file slot) → (copied || copies_by_rule construct by_rule slot) ≡ is_some_copy (copies_around (construct ∷ around) of_file slot)
  unfolding copies_around
  copied-inside copied is = rw (is, rule) (sym (is_some_copy-more (copies_around around of_file slot) construct (shared_by_rule around of_file slot) slot))

  pub noted-inside : (kept : TaskCopies) (before : List TaskCopy) → AreCopies ((before ++ copies_around around of_file slot) ++ copy_by_rule construct by_rule slot) kept → AreCopies (before ++ copies_around (construct ∷ around) of_file slot) kept
  unfolding copies_around
  noted-inside kept before are = rw (← rule, ← append_assoc before (copies_around around of_file slot) (copy_by_rule construct by_rule slot)) are
