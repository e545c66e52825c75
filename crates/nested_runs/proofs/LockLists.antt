-- The list of locks: what is looked up behind each change of it, and that it stays in rising order.
use Rattle.std.proofs.Common.{ℕ, zero, suc, ◌≡◌, ◌≢◌, ◌<◌, ◌≤◌, ◌+◌, ◌==◌, if◌then◌else◌, List, [], ◌∷◌, ◌++◌, refl, sym, ap, ◌∙◌, subst, inl, inr, lt-ltb, arith}
use Rattle.std.specs.Prelude.{Option, Some, None, option_map}
use Rattle.std.proofs.lemmas.Bool.{cases_eq, cases_lt, eq-eqb, le-ltb, ne_eqb}
use Rattle.sync_objects.specs.declared.lock.Lock.{Lock}
use Rattle.sync_objects.specs.Owners.{critical_locks, free_lock, in_order, look_up, with_owner, without}
use Rattle.omp_model.specs.State.{World}
use Rattle.nested_runs.proofs.Known.{AreAbove, AreOwners, AreRising, IsOwner, holder_of}

abbrev pub owned_by : Option ℕ → Lock → Lock
owned_by owner lock = record lock { owner = owner }

none-some : (lock : Lock) → None ≡ Some lock → ⊥
none-some lock is = cc

-- ---- the lock with an identifier

-- a lock has another owner
pub look-owned : (locks : List Lock) (id : ℕ) (owner : Option ℕ) (lock : Lock) → look_up locks id ≡ Some lock →
    look_up (with_owner locks id owner) id ≡ Some (owned_by owner lock)
unfolding look_up with_owner
look-owned [] id owner lock found = absurd (none-some lock found)
look-owned (first ∷ locks) id owner lock found =
    elim (cases_eq first.id id) [
      | inl same ↦
          let there : Some first ≡ Some lock = sym (rw (eq-eqb first.id id same) refl) ∙ found in
          rw (eq-eqb first.id id same, eq-eqb first.id id same) (ap (option_map (owned_by owner)) there)
      | inr apart ↦
          let there : look_up locks id ≡ Some lock = sym (rw (ne_eqb first.id id apart) refl) ∙ found in
          rw (ne_eqb first.id id apart, ne_eqb first.id id apart) (look-owned locks id owner lock there)
    ]

pub look-owned_other : (locks : List Lock) (id other : ℕ) (owner : Option ℕ) → other ≢ id → look_up (with_owner locks id owner) other ≡ look_up locks other
unfolding look_up with_owner
look-owned_other [] id other owner differs = refl
look-owned_other (first ∷ locks) id other owner differs =
    elim (cases_eq first.id id) [
      | inl same ↦ rw (eq-eqb first.id id same, ne_eqb first.id other (λ is. differs (sym is ∙ same))) refl
      | inr apart ↦
          rw (ne_eqb first.id id apart)
          (ap (λ (rest : Option Lock). if first.id == other then Some first else rest) (look-owned_other locks id other owner differs))
    ]

-- one more lock is there
pub look-fresh : (locks : List Lock) (fresh : Lock) → look_up locks fresh.id ≡ None → look_up (in_order locks fresh) fresh.id ≡ Some fresh
unfolding look_up in_order
look-fresh [] fresh none = rw (eq-eqb fresh.id fresh.id refl) refl
look-fresh (first ∷ locks) fresh none =
    elim (cases_lt first.id fresh.id) [
      | inl less ↦
          let apart : first.id ≢ fresh.id = λ is. omega (arith, is, less) in
          let rest : look_up locks fresh.id ≡ None = sym (rw (ne_eqb first.id fresh.id apart) refl) ∙ none in
          rw (lt-ltb first.id fresh.id less, ne_eqb first.id fresh.id apart) (look-fresh locks fresh rest)
      | inr behind ↦ rw (le-ltb first.id fresh.id behind, eq-eqb fresh.id fresh.id refl) refl
    ]

pub look-fresh_other : (locks : List Lock) (fresh : Lock) (other : ℕ) → other ≢ fresh.id → look_up (in_order locks fresh) other ≡ look_up locks other
unfolding look_up in_order
look-fresh_other [] fresh other differs = rw (ne_eqb fresh.id other (λ is. differs (sym is))) refl
look-fresh_other (first ∷ locks) fresh other differs =
    elim (cases_lt first.id fresh.id) [
      | inl less ↦
          rw (lt-ltb first.id fresh.id less)
          (ap (λ (rest : Option Lock). if first.id == other then Some first else rest) (look-fresh_other locks fresh other differs))
      | inr behind ↦ rw (le-ltb first.id fresh.id behind, ne_eqb fresh.id other (λ is. differs (sym is))) refl
    ]

-- a lock is there no more
look-above : (id : ℕ) (locks : List Lock) → AreAbove id locks → look_up locks id ≡ None
unfolding look_up
look-above id [] above = refl
look-above id (first ∷ locks) above =
    let less = above.0 in rw (ne_eqb first.id id (λ is. omega (arith, is, less))) (look-above id locks above.1)

pub look-without : (locks : List Lock) (id : ℕ) → AreRising locks → look_up (without locks id) id ≡ None
unfolding look_up without
look-without [] id rising = refl
look-without (first ∷ locks) id rising =
    elim (cases_eq first.id id) [
      | inl same ↦ rw (eq-eqb first.id id same) (look-above id locks (subst (λ n. AreAbove n locks) same rising.0))
      | inr apart ↦ rw (ne_eqb first.id id apart, ne_eqb first.id id apart) (look-without locks id rising.1)
    ]

pub look-without_other : (locks : List Lock) (id other : ℕ) → other ≢ id → look_up (without locks id) other ≡ look_up locks other
unfolding look_up without
look-without_other [] id other differs = refl
look-without_other (first ∷ locks) id other differs =
    elim (cases_eq first.id id) [
      | inl same ↦ rw (eq-eqb first.id id same, ne_eqb first.id other (λ is. differs (sym is ∙ same))) refl
      | inr apart ↦
          rw (ne_eqb first.id id apart)
          (ap (λ (rest : Option Lock). if first.id == other then Some first else rest) (look-without_other locks id other differs))
    ]

-- ---- the order of locks

above-lower : (low high : ℕ) (locks : List Lock) → low ≤ high → AreAbove high locks → AreAbove low locks
above-lower low high [] less above = tt
above-lower low high (first ∷ locks) less above = let first-above = above.0 in (omega (arith, less, first-above), above-lower low high locks less above.1)

above-owned : (low : ℕ) (locks : List Lock) (id : ℕ) (owner : Option ℕ) → AreAbove low locks → AreAbove low (with_owner locks id owner)
unfolding with_owner
above-owned low [] id owner above = tt
above-owned low (first ∷ locks) id owner above =
    elim (cases_eq first.id id) [
      | inl same ↦ rw (eq-eqb first.id id same) above
      | inr apart ↦ rw (ne_eqb first.id id apart) (above.0, above-owned low locks id owner above.1)
    ]

pub rising-owned : (locks : List Lock) (id : ℕ) (owner : Option ℕ) → AreRising locks → AreRising (with_owner locks id owner)
unfolding with_owner
rising-owned [] id owner rising = tt
rising-owned (first ∷ locks) id owner rising =
    elim (cases_eq first.id id) [
      | inl same ↦ rw (eq-eqb first.id id same) rising
      | inr apart ↦ rw (ne_eqb first.id id apart) (above-owned first.id locks id owner rising.0, rising-owned locks id owner rising.1)
    ]

above-fresh : (low : ℕ) (locks : List Lock) (fresh : Lock) → low < fresh.id → AreAbove low locks → AreAbove low (in_order locks fresh)
unfolding in_order
above-fresh low [] fresh less above = (less, tt)
above-fresh low (first ∷ locks) fresh less above =
    elim (cases_lt first.id fresh.id) [
      | inl before ↦ rw (lt-ltb first.id fresh.id before) (above.0, above-fresh low locks fresh less above.1)
      | inr behind ↦ rw (le-ltb first.id fresh.id behind) (less, above)
    ]

pub rising-fresh : (locks : List Lock) (fresh : Lock) → look_up locks fresh.id ≡ None → AreRising locks → AreRising (in_order locks fresh)
unfolding look_up in_order
rising-fresh [] fresh none rising = (tt, tt)
rising-fresh (first ∷ locks) fresh none rising =
    elim (cases_eq first.id fresh.id) [
      | inl same ↦ absurd (none-some first (sym none ∙ rw (eq-eqb first.id fresh.id same) refl))
      | inr apart ↦ elim (cases_lt first.id fresh.id) [
        | inl less ↦
            let rest : look_up locks fresh.id ≡ None = sym (rw (ne_eqb first.id fresh.id apart) refl) ∙ none in
            rw (lt-ltb first.id fresh.id less) (above-fresh first.id locks fresh less rising.0, rising-fresh locks fresh rest rising.1)
        | inr behind ↦
            let less : fresh.id < first.id = omega (arith, behind, apart) in
            rw (le-ltb first.id fresh.id behind) ((less, above-lower fresh.id first.id locks behind rising.0), rising)
      ]
    ]

above-without : (low : ℕ) (locks : List Lock) (id : ℕ) → AreAbove low locks → AreAbove low (without locks id)
unfolding without
above-without low [] id above = tt
above-without low (first ∷ locks) id above =
    elim (cases_eq first.id id) [
      | inl same ↦ rw (eq-eqb first.id id same) above.1
      | inr apart ↦ rw (ne_eqb first.id id apart) (above.0, above-without low locks id above.1)
    ]

pub rising-without : (locks : List Lock) (id : ℕ) → AreRising locks → AreRising (without locks id)
unfolding without
rising-without [] id rising = tt
rising-without (first ∷ locks) id rising =
    elim (cases_eq first.id id) [
      | inl same ↦ rw (eq-eqb first.id id same) rising.1
      | inr apart ↦ rw (ne_eqb first.id id apart) (above-without first.id locks id rising.0, rising-without locks id rising.1)
    ]

-- ---- the owners of locks

module _ (W : World) where
  pub owners-owned : (locks : List Lock) (id : ℕ) (owner : Option ℕ) → IsOwner W owner → AreOwners W locks → AreOwners W (with_owner locks id owner)
  unfolding with_owner
  owners-owned [] id owner is owners = tt
  owners-owned (first ∷ locks) id owner is owners =
      elim (cases_eq first.id id) [
        | inl same ↦ rw (eq-eqb first.id id same) (is, owners.1)
        | inr apart ↦ rw (ne_eqb first.id id apart) (owners.0, owners-owned locks id owner is owners.1)
      ]

  pub owners-fresh : (locks : List Lock) (id : ℕ) → AreOwners W locks → AreOwners W (in_order locks (free_lock id))
  unfolding in_order
  owners-fresh [] id owners = (tt, tt)
  owners-fresh (first ∷ locks) id owners =
      elim (cases_lt first.id id) [
        | inl less ↦ rw (lt-ltb first.id id less) (owners.0, owners-fresh locks id owners.1)
        | inr behind ↦ rw (le-ltb first.id id behind) (tt, owners)
      ]

  pub owners-without : (locks : List Lock) (id : ℕ) → AreOwners W locks → AreOwners W (without locks id)
  unfolding without
  owners-without [] id owners = tt
  owners-without (first ∷ locks) id owners =
      elim (cases_eq first.id id) [
        | inl same ↦ rw (eq-eqb first.id id same) owners.1
        | inr apart ↦ rw (ne_eqb first.id id apart) (owners.0, owners-without locks id owners.1)
      ]

  -- of the lock that is looked up
  abbrev pub IsHeld : Option Lock → Type 0
  IsHeld None = Unit {0}
  IsHeld (Some lock) = IsOwner W lock.owner

  pub owners-look : (locks : List Lock) (id : ℕ) → AreOwners W locks → IsHeld (look_up locks id)
  unfolding look_up
  owners-look [] id owners = tt
  owners-look (first ∷ locks) id owners =
      elim (cases_eq first.id id) [
        | inl same ↦ rw (eq-eqb first.id id same) owners.0
        | inr apart ↦ rw (ne_eqb first.id id apart) (owners-look locks id owners.1)
      ]

-- ---- the locks of criticals

-- they are free
abbrev AreFree : List Lock → Type 0
AreFree [] = Unit {0}
AreFree (lock ∷ locks) = (lock.owner ≡ None) × AreFree locks

free-last : (locks : List Lock) (id : ℕ) → AreFree locks → AreFree (locks ++ free_lock id ∷ [])
free-last [] id free = (refl, tt)
free-last (first ∷ locks) id free = (free.0, free-last locks id free.1)

criticals-free : (count : ℕ) → AreFree (critical_locks count)
unfolding critical_locks
criticals-free zero = tt
criticals-free (suc count) = free-last (critical_locks count) (count + 1) (criticals-free count)

free-owners : (W : World) (locks : List Lock) → AreFree locks → AreOwners W locks
free-owners W [] free = tt
free-owners W (first ∷ locks) free = (subst (IsOwner W) (sym free.0) tt, free-owners W locks free.1)

free-look : (W : World) (locks : List Lock) (id : ℕ) → AreFree locks → holder_of W (look_up locks id) ≡ None
unfolding look_up
free-look W [] id free = refl
free-look W (first ∷ locks) id free =
    elim (cases_eq first.id id) [
      | inl same ↦ rw (eq-eqb first.id id same, free.0) refl
      | inr apart ↦ rw (ne_eqb first.id id apart) (free-look W locks id free.1)
    ]

pub criticals-owners : (W : World) (count : ℕ) → AreOwners W (critical_locks count)
criticals-owners W count = free-owners W (critical_locks count) (criticals-free count)

pub criticals-look : (W : World) (count id : ℕ) → holder_of W (look_up (critical_locks count) id) ≡ None
criticals-look W count id = free-look W (critical_locks count) id (criticals-free count)

-- and numbered in rising order
abbrev AreBelow : ℕ → List Lock → Type 0
AreBelow id [] = Unit {0}
AreBelow id (lock ∷ locks) = (lock.id < id) × AreBelow id locks

below-last : (locks : List Lock) (id high : ℕ) → id < high → AreBelow id locks → AreBelow high (locks ++ free_lock id ∷ [])
below-last [] id high less below = (less, tt)
below-last (first ∷ locks) id high less below = let first-below = below.0 in (omega (arith, less, first-below), below-last locks id high less below.1)

above-last : (low : ℕ) (locks : List Lock) (id : ℕ) → low < id → AreAbove low locks → AreAbove low (locks ++ free_lock id ∷ [])
above-last low [] id less above = (less, tt)
above-last low (first ∷ locks) id less above = (above.0, above-last low locks id less above.1)

rising-last : (locks : List Lock) (id : ℕ) → AreBelow id locks → AreRising locks → AreRising (locks ++ free_lock id ∷ [])
rising-last [] id below rising = (tt, tt)
rising-last (first ∷ locks) id below rising = (above-last first.id locks id below.0 rising.0, rising-last locks id below.1 rising.1)

criticals-below : (count : ℕ) → AreBelow (count + 1) (critical_locks count)
unfolding critical_locks
criticals-below zero = tt
criticals-below (suc count) = below-last (critical_locks count) (count + 1) (suc count + 1) (omega arith) (criticals-below count)

pub criticals-rising : (count : ℕ) → AreRising (critical_locks count)
unfolding critical_locks
criticals-rising zero = tt
criticals-rising (suc count) = rising-last (critical_locks count) (count + 1) (criticals-below count) (criticals-rising count)
