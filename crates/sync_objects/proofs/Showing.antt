-- The locks that the places are seen as: what is looked up, and how they change.
use Rattle.std.proofs.Common.{◌≡◌, ◌≢◌, ◌⊎◌, ℕ, zero, suc, ◌+◌, ◌<◌, ◌≤◌, ◌∙◌, List, [], ◌∷◌, ◌++◌, Option, Some, None, refl, sym, ap, subst, inl, inr, arith, lt-ltb}
use Rattle.std.proofs.lemmas.Bool.{cases_eq, cases_lt, eq-eqb, ne_eqb, le-ltb}
use Rattle.sync_objects.specs.declared.lock.Lock.{Lock}
use Rattle.sync_objects.specs.declared.entry.Entry.{Entry}
use Rattle.sync_objects.specs.declared.entry.Hold.{Hold}
use Rattle.sync_objects.specs.declared.entry.Hold.TheVariants as hold
use Rattle.sync_objects.specs.Owners.{free_lock, critical_locks, look_up, in_order, without, with_owner}
use Rattle.sync_objects.specs.Places.{lock_of, and_lock, locks_of, AreAbove, IsRising, hold_of, with_hold, with_place, free_entry}
use Rattle.sync_objects.specs.View.{LocksView}
use Rattle.sync_objects.proofs.Rising.{above-lower, critical_entries, rising-with_hold, rising-with_place}

pub view-equal : (one other : LocksView) → one.locks ≡ other.locks → one.room ≡ other.room → one ≡ other
view-equal one other locks room = λ i. record { locks = locks i; room = room i }

-- one place before others
look-same : (known : Hold) (id : ℕ) (locks : List Lock) → look_up locks id ≡ None → look_up (and_lock (lock_of id known) locks) id ≡ lock_of id known
unfolding look_up
look-same hold.Absent id locks none = none
look-same hold.Free id locks none = rw (eq-eqb id id refl) refl
look-same (hold.Owned owner) id locks none = rw (eq-eqb id id refl) refl

look-apart : (known : Hold) (other id : ℕ) (locks : List Lock) → other ≢ id → look_up (and_lock (lock_of other known) locks) id ≡ look_up locks id
unfolding look_up
look-apart hold.Absent other id locks apart = refl
look-apart hold.Free other id locks apart = rw (ne_eqb other id apart) refl
look-apart (hold.Owned owner) other id locks apart = rw (ne_eqb other id apart) refl

look-above : (id : ℕ) (entries : List Entry) → AreAbove id entries → look_up (locks_of entries) id ≡ None
unfolding AreAbove locks_of look_up
look-above id [] above = refl
look-above id (entry ∷ entries) above = look-apart entry.hold entry.id id (locks_of entries) (λ same. omega (arith, above.0)) ∙ look-above id entries above.1

-- the lock that is looked up is what is known of the identifier
pub shown-look_up : (entries : List Entry) (id : ℕ) → IsRising entries → look_up (locks_of entries) id ≡ lock_of id (hold_of entries id)
unfolding IsRising locks_of hold_of look_up
shown-look_up [] id rising = refl
shown-look_up (entry ∷ entries) id rising = elim (cases_eq entry.id id) [
  | inl same ↦ rw (eq-eqb entry.id id same)
      (subst (λ (one : ℕ). look_up (and_lock (lock_of one entry.hold) (locks_of entries)) id ≡ lock_of id entry.hold) (sym same)
      (look-same entry.hold id (locks_of entries) (look-above id entries (subst (λ (one : ℕ). AreAbove one entries) same rising.0))))
  | inr apart ↦ rw (ne_eqb entry.id id apart) (look-apart entry.hold entry.id id (locks_of entries) apart ∙ shown-look_up entries id rising.1)
]

without-same : (known : Hold) (id : ℕ) (locks : List Lock) → without locks id ≡ locks → without (and_lock (lock_of id known) locks) id ≡ locks
unfolding without
without-same hold.Absent id locks none = none
without-same hold.Free id locks none = rw (eq-eqb id id refl) refl
without-same (hold.Owned owner) id locks none = rw (eq-eqb id id refl) refl

without-apart : (known : Hold) (other id : ℕ) (locks : List Lock) → other ≢ id → without (and_lock (lock_of other known) locks) id ≡ and_lock (lock_of other known) (without locks id)
unfolding without
without-apart hold.Absent other id locks apart = refl
without-apart hold.Free other id locks apart = rw (ne_eqb other id apart) refl
without-apart (hold.Owned owner) other id locks apart = rw (ne_eqb other id apart) refl

without-above : (id : ℕ) (entries : List Entry) → AreAbove id entries → without (locks_of entries) id ≡ locks_of entries
unfolding AreAbove locks_of without
without-above id [] above = refl
without-above id (entry ∷ entries) above = without-apart entry.hold entry.id id (locks_of entries) (λ same. omega (arith, above.0)) ∙ ap (and_lock (lock_of entry.id entry.hold)) (without-above id entries above.1)

-- an identifier of which nothing is known any more
pub shown-without : (entries : List Entry) (id : ℕ) → IsRising entries → locks_of (with_hold entries id hold.Absent) ≡ without (locks_of entries) id
unfolding IsRising locks_of with_hold without
shown-without [] id rising = refl
shown-without (entry ∷ entries) id rising = elim (cases_eq entry.id id) [
  | inl same ↦ rw (eq-eqb entry.id id same)
      (subst (λ (one : ℕ). locks_of entries ≡ without (and_lock (lock_of one entry.hold) (locks_of entries)) id) (sym same)
      (sym (without-same entry.hold id (locks_of entries) (without-above id entries (subst (λ (one : ℕ). AreAbove one entries) same rising.0)))))
  | inr apart ↦ rw (ne_eqb entry.id id apart) (ap (and_lock (lock_of entry.id entry.hold)) (shown-without entries id rising.1) ∙ sym (without-apart entry.hold entry.id id (locks_of entries) apart))
]

owner-same : (known : Hold) (id : ℕ) (owner : Option ℕ) (locks : List Lock) → known ≢ hold.Absent → with_owner (and_lock (lock_of id known) locks) id owner ≡ record { id = id; owner = owner } ∷ locks
unfolding with_owner
owner-same hold.Absent id owner locks some = absurd (some refl)
owner-same hold.Free id owner locks some = rw (eq-eqb id id refl) refl
owner-same (hold.Owned other) id owner locks some = rw (eq-eqb id id refl) refl

owner-apart : (known : Hold) (other id : ℕ) (owner : Option ℕ) (locks : List Lock) → other ≢ id → with_owner (and_lock (lock_of other known) locks) id owner ≡ and_lock (lock_of other known) (with_owner locks id owner)
unfolding with_owner
owner-apart hold.Absent other id owner locks apart = refl
owner-apart hold.Free other id owner locks apart = rw (ne_eqb other id apart) refl
owner-apart (hold.Owned one) other id owner locks apart = rw (ne_eqb other id apart) refl

-- another owner, or none
pub shown-owner : (entries : List Entry) (id : ℕ) (known : Hold) (owner : Option ℕ) → ((one : ℕ) → lock_of one known ≡ Some (record { id = one; owner = owner })) → hold_of entries id ≢ hold.Absent → locks_of (with_hold entries id known) ≡ with_owner (locks_of entries) id owner
unfolding locks_of with_hold with_owner hold_of
shown-owner [] id known owner is some = absurd (some refl)
shown-owner (entry ∷ entries) id known owner is some = elim (cases_eq entry.id id) [
  | inl same ↦
      let kept : entry.hold ≢ hold.Absent = rw (eq-eqb entry.id id same) at some in
      rw (eq-eqb entry.id id same)
      (subst (λ (one : ℕ). and_lock (lock_of one known) (locks_of entries) ≡ with_owner (and_lock (lock_of one entry.hold) (locks_of entries)) id owner) (sym same)
      (ap (λ (one : Option Lock). and_lock one (locks_of entries)) (is id) ∙ sym (owner-same entry.hold id owner (locks_of entries) kept)))
  | inr apart ↦
      let rest : hold_of entries id ≢ hold.Absent = rw (ne_eqb entry.id id apart) at some in
      rw (ne_eqb entry.id id apart) (ap (and_lock (lock_of entry.id entry.hold)) (shown-owner entries id known owner is rest) ∙ sym (owner-apart entry.hold entry.id id owner (locks_of entries) apart))
]

order-before : (known : Hold) (other id : ℕ) (locks : List Lock) → other < id → in_order (and_lock (lock_of other known) locks) (free_lock id) ≡ and_lock (lock_of other known) (in_order locks (free_lock id))
unfolding in_order
order-before hold.Absent other id locks before = refl
order-before hold.Free other id locks before = rw (lt-ltb other id before) refl
order-before (hold.Owned owner) other id locks before = rw (lt-ltb other id before) refl

order-behind : (known : Hold) (other id : ℕ) (locks : List Lock) → id ≤ other → in_order locks (free_lock id) ≡ free_lock id ∷ locks → in_order (and_lock (lock_of other known) locks) (free_lock id) ≡ free_lock id ∷ and_lock (lock_of other known) locks
unfolding in_order
order-behind hold.Absent other id locks behind rest = rest
order-behind hold.Free other id locks behind rest = rw (le-ltb other id behind) refl
order-behind (hold.Owned owner) other id locks behind rest = rw (le-ltb other id behind) refl

order-above : (id : ℕ) (entries : List Entry) → AreAbove id entries → in_order (locks_of entries) (free_lock id) ≡ free_lock id ∷ locks_of entries
unfolding AreAbove locks_of in_order
order-above id [] above = refl
order-above id (entry ∷ entries) above = order-behind entry.hold entry.id id (locks_of entries) (omega (arith, above.0)) (order-above id entries above.1)

-- one more lock
pub shown-free : (entries : List Entry) (id : ℕ) → IsRising entries → hold_of entries id ≡ hold.Absent → locks_of (with_place entries id) ≡ in_order (locks_of entries) (free_lock id)
unfolding IsRising locks_of with_place in_order hold_of
shown-free [] id rising none = refl
shown-free (entry ∷ entries) id rising none = elim (cases_lt entry.id id) [
  | inl before ↦
      let rest : hold_of entries id ≡ hold.Absent = rw (ne_eqb entry.id id (λ same. omega arith)) at none in
      rw (lt-ltb entry.id id before) (ap (and_lock (lock_of entry.id entry.hold)) (shown-free entries id rising.1 rest) ∙ sym (order-before entry.hold entry.id id (locks_of entries) before))
  | inr behind ↦
      let front = order-above id entries (above-lower id entry.id entries behind rising.0) in
      rw (le-ltb entry.id id behind) (elim (cases_eq entry.id id) [
        | inl same ↦
            let gone : entry.hold ≡ hold.Absent = rw (eq-eqb entry.id id same) at none in
            rw (eq-eqb entry.id id same) (sym front ∙ ap (λ (known : Hold). in_order (and_lock (lock_of entry.id known) (locks_of entries)) (free_lock id)) (sym gone))
        | inr apart ↦ rw (ne_eqb entry.id id apart) (sym (order-behind entry.hold entry.id id (locks_of entries) behind front))
      ])
]

and-append : (lock : Option Lock) (xs ys : List Lock) → and_lock lock (xs ++ ys) ≡ and_lock lock xs ++ ys
and-append None xs ys = refl
and-append (Some lock) xs ys = refl

locks_of-end : (entries : List Entry) (last : Entry) → locks_of (entries ++ last ∷ []) ≡ locks_of entries ++ locks_of (last ∷ [])
unfolding locks_of
locks_of-end [] last = refl
locks_of-end (entry ∷ entries) last = ap (and_lock (lock_of entry.id entry.hold)) (locks_of-end entries last) ∙ and-append (lock_of entry.id entry.hold) (locks_of entries) (locks_of (last ∷ []))

pub shown-criticals : (count : ℕ) → locks_of (critical_entries count) ≡ critical_locks count
unfolding locks_of critical_entries critical_locks
shown-criticals zero = refl
shown-criticals (suc count) = locks_of-end (critical_entries count) (free_entry (count + 1)) ∙ ap (λ (locks : List Lock). locks ++ free_lock (count + 1) ∷ []) (shown-criticals count)

-- an identifier of which something is known
pub known-there : (entries : List Entry) (id : ℕ) (lock : Lock) → IsRising entries → look_up (locks_of entries) id ≡ Some lock → hold_of entries id ≢ hold.Absent
known-there entries id lock rising found gone =
    let none : Some lock ≡ None = sym found ∙ (shown-look_up entries id rising ∙ ap (lock_of id) gone) in
    cc

absent-is : (known : Hold) (id : ℕ) → lock_of id known ≡ None → known ≡ hold.Absent
absent-is hold.Absent id none = refl
absent-is hold.Free id none = cc
absent-is (hold.Owned owner) id none = cc

pub hold-absent : (entries : List Entry) (id : ℕ) → IsRising entries → look_up (locks_of entries) id ≡ None → hold_of entries id ≡ hold.Absent
hold-absent entries id rising none = absent-is (hold_of entries id) id (sym (shown-look_up entries id rising) ∙ none)

-- where a hold isn't absent, there is a lock
pub lock-there : (known : Hold) (id : ℕ) → (known ≡ hold.Free) ⊎ ((owner : ℕ) × (known ≡ hold.Owned owner)) → (lock : Lock) × (lock_of id known ≡ Some lock)
lock-there hold.Absent id (inl free) = cc
lock-there hold.Absent id (inr owned) = absurd (cc owned.1)
lock-there hold.Free id there = (free_lock id, refl)
lock-there (hold.Owned owner) id there = (record { id = id; owner = Some owner }, refl)

-- an owner of no lock changes nothing
pub owner-none : (locks : List Lock) (id : ℕ) (owner : Option ℕ) → look_up locks id ≡ None → with_owner locks id owner ≡ locks
unfolding look_up with_owner
owner-none [] id owner none = refl
owner-none (lock ∷ locks) id owner none = elim (cases_eq lock.id id) [
  | inl same ↦ let found : Some lock ≡ None = rw (eq-eqb lock.id id same) at none in cc
  | inr apart ↦
      let rest : look_up locks id ≡ None = rw (ne_eqb lock.id id apart) at none in
      rw (ne_eqb lock.id id apart) (ap (λ (others : List Lock). lock ∷ others) (owner-none locks id owner rest))
]

-- what a change of the places makes of what is seen
pub record Shows (new : List Entry) (wanted : List Lock) : Type 0 where
  pub locks : locks_of new ≡ wanted
  pub rising : IsRising new

pub shows-without : (entries new : List Entry) (seen : List Lock) (id : ℕ) → locks_of entries ≡ seen → IsRising entries → new ≡ with_hold entries id hold.Absent → Shows new (without seen id)
shows-without entries new seen id same rising is = record {
  locks = ap locks_of is ∙ (shown-without entries id rising ∙ ap (λ (locks : List Lock). without locks id) same);
  rising = subst IsRising (sym is) (rising-with_hold entries id hold.Absent rising);
}

pub shows-owner : (entries new : List Entry) (seen : List Lock) (id : ℕ) (known : Hold) (owner : Option ℕ) (lock : Lock) → locks_of entries ≡ seen → IsRising entries → ((one : ℕ) → lock_of one known ≡ Some (record { id = one; owner = owner })) → look_up seen id ≡ Some lock → new ≡ with_hold entries id known → Shows new (with_owner seen id owner)
shows-owner entries new seen id known owner lock same rising becomes found is =
    let there : hold_of entries id ≢ hold.Absent = known-there entries id lock rising (ap (λ (locks : List Lock). look_up locks id) same ∙ found) in
    record {
      locks = ap locks_of is ∙ (shown-owner entries id known owner becomes there ∙ ap (λ (locks : List Lock). with_owner locks id owner) same);
      rising = subst IsRising (sym is) (rising-with_hold entries id known rising);
    }

pub shows-free : (entries new : List Entry) (seen : List Lock) (id : ℕ) → locks_of entries ≡ seen → IsRising entries → look_up seen id ≡ None → new ≡ with_place entries id → Shows new (in_order seen (free_lock id))
shows-free entries new seen id same rising none is =
    let absent : hold_of entries id ≡ hold.Absent = hold-absent entries id rising (ap (λ (locks : List Lock). look_up locks id) same ∙ none) in
    record {
      locks = ap locks_of is ∙ (shown-free entries id rising absent ∙ ap (λ (locks : List Lock). in_order locks (free_lock id)) same);
      rising = subst IsRising (sym is) (rising-with_place entries id rising);
    }
