-- Which stores count of a list with one store more at its front.
use Rattle.std.proofs.Common.{◌≡◌, ℕ, ◌-◌, ◌≤◌, ◌||◌, suc, Bool, true, false, List, [], ◌∷◌, length, drop, inl, inr, refl, sym, ap, subst, ◌∙◌, arith, length-drop}
use Rattle.std.proofs.lemmas.Bool.{cases_Bool, eqb-true}
use Rattle.ompt_calls.specs.declared.snapshot.Target.{Target}
use Rattle.ompt_calls.specs.declared.snapshot.Target.TheVariants as target
use Rattle.ompt_calls.specs.Snapshot.{Stored}
use Rattle.tool_both.specs.BothStores.{same_target, occurs, without_later, last_three, counting_stores}

-- two names of one word are the same
same-word : (a b : Target) → same_target a b ≡ true → a ≡ b
same-word (target.Thread a) (target.Thread b) same = ap target.Thread (eqb-true a b same)
same-word (target.Thread a) (target.Parallel b) same = cc
same-word (target.Thread a) (target.Task b) same = cc
same-word (target.Parallel a) (target.Thread b) same = cc
same-word (target.Parallel a) (target.Parallel b) same = ap target.Parallel (eqb-true a b same)
same-word (target.Parallel a) (target.Task b) same = cc
same-word (target.Task a) (target.Thread b) same = cc
same-word (target.Task a) (target.Parallel b) same = cc
same-word (target.Task a) (target.Task b) same = ap target.Task (eqb-true a b same)

-- where a store's word occurs later, its own name tells nothing new
told-later : (word : Target) (store : Stored) (rest : List Stored) → occurs store.target rest ≡ true → occurs word rest ≡ (same_target word store.target || occurs word rest)
told-later word store rest later =
    elim (cases_Bool (same_target word store.target)) [
      | inl same ↦
          let found : occurs word rest ≡ true = subst (λ (w : Target). occurs w rest ≡ true) (sym (same-word word store.target same)) later in
          rw (same, found) refl
      | inr other ↦ rw other refl
    ]

-- each word that occurs is kept
pub occurs-kept : (word : Target) (stores : List Stored) → occurs word (without_later stores) ≡ occurs word stores
occurs-kept word [] = refl
occurs-kept word (store ∷ rest) =
    elim (cases_Bool (occurs store.target rest)) [
      | inl later ↦ rw later (occurs-kept word rest ∙ told-later word store rest later)
      | inr last ↦ rw last (ap (λ (b : Bool). same_target word store.target || b) (occurs-kept word rest))
    ]

-- a word that occurs behind some stores occurs in all
occurs-drop : (word : Target) (n : ℕ) (stores : List Stored) → occurs word (drop n stores) ≡ true → occurs word stores ≡ true
occurs-drop word Prim.Native.Nat.zero stores found = found
occurs-drop word (suc n) [] found = found
occurs-drop word (suc n) (store ∷ rest) found = rw (occurs-drop word n rest found) (or-any (same_target word store.target))
  where
    or-any : (b : Bool) → (b || true) ≡ true
    or-any true = refl
    or-any false = refl

-- of stores of which one occurs later nothing changes
covered : (store : Stored) (later : List Stored) → occurs store.target later ≡ true → counting_stores (store ∷ later) ≡ counting_stores later
covered store later found = rw found refl

-- three stores that count leave no room
full-three : (store : Stored) (kept : List Stored) → 3 ≤ length (last_three kept) → last_three (store ∷ kept) ≡ last_three kept
full-three store kept full =
    let long : 3 ≤ length kept = omega (arith, length-drop (length kept - 3) kept) in
    let more : suc (length kept) - 3 ≡ suc (length kept - 3) = omega arith in
    rw more refl

pub full-before : (store : Stored) (later : List Stored) → 3 ≤ length (counting_stores later) → counting_stores (store ∷ later) ≡ counting_stores later
full-before store later full =
    elim (cases_Bool (occurs store.target later)) [
      | inl found ↦ covered store later found
      | inr other ↦ rw other (full-three store (without_later later) full)
    ]

-- a store that is covered changes nothing
pub covered-before : (store : Stored) (later : List Stored) → occurs store.target (counting_stores later) ≡ true → counting_stores (store ∷ later) ≡ counting_stores later
covered-before store later found =
    covered store later (sym (occurs-kept store.target later) ∙ occurs-drop store.target (length (without_later later) - 3) (without_later later) found)

-- few stores count all
few-kept : (kept : List Stored) → length (last_three kept) ≤ 2 → last_three kept ≡ kept
few-kept kept few =
    let short : length kept - 3 ≡ 0 = omega (arith, length-drop (length kept - 3) kept) in
    rw short refl

few-front : (store : Stored) (kept : List Stored) → length kept ≤ 2 → last_three (store ∷ kept) ≡ store ∷ kept
few-front store kept few =
    let short : suc (length kept) - 3 ≡ 0 = omega arith in
    rw short refl

-- any other store counts where there is room
pub one-before : (store : Stored) (later : List Stored) → length (counting_stores later) ≤ 2 → occurs store.target (counting_stores later) ≡ false
    → counting_stores (store ∷ later) ≡ store ∷ counting_stores later
one-before store later few other =
    let kept = few-kept (without_later later) few in
    let absent : occurs store.target later ≡ false = sym (occurs-kept store.target later) ∙ sym (ap (occurs store.target) kept) ∙ other in
    let short : length (without_later later) ≤ 2 = subst (λ (xs : List Stored). length xs ≤ 2) kept few in
    rw absent (few-front store (without_later later) short ∙ ap (λ (xs : List Stored). store ∷ xs) (sym kept))
