-- A thread of which nothing is known had no event, so nothing is open on it.
use Rattle.std.proofs.Common.{◌≡◌, ℕ, ◌+◌, ◌==◌, Bool, true, false, cond, List, [], ◌∷◌, Some, None, refl, subst, arith, zero-add}
use Rattle.std.proofs.lemmas.Bool.{eqb-true}
use Rattle.std.proofs.lemmas.List.Sums.{sum_by-cons}
use Rattle.ompt_calls.specs.declared.event.EventRecord.{EventRecord}
use Rattle.trace_check.specs.Brackets.{change_of, changed}
use Rattle.trace_check.specs.Before.{events_of, is_of, latest, opened}
use Rattle.trace_check.specs.Checking.{thread_known, thread_of}

-- it had no event
no_event : (t : ℕ) (past : List EventRecord) → None ≡ thread_known t past → (events_of t past == 0) ≡ true
no_event t past unknown = by-test (events_of t past == 0) unknown
  where
    by-test : (b : Bool) → None ≡ cond b None (Some (thread_of t past)) → b ≡ true
    by-test true same = refl
    by-test false same = cc

one_more : (n : ℕ) → (1 + n == 0) ≡ true → ⊥
one_more n same = grind (arith, eqb-true)

pub events_more : (t : ℕ) (event : EventRecord) (past : List EventRecord) → events_of t (event ∷ past) ≡ cond (event.thread == t) 1 0 + events_of t past
events_more t event past = sum_by-cons (λ (x : EventRecord). cond (is_of t x) 1 0) event past

-- so nothing is open on it
no_bracket : (t : ℕ) (past : List EventRecord) → (events_of t past == 0) ≡ true → opened t past ≡ []
no_bracket t [] none = refl
no_bracket t (event ∷ past) none = by-test (event.thread == t) (λ same. no_bracket t past same) (subst (λ (n : ℕ). (n == 0) ≡ true) (events_more t event past) none)
  where
    by-test : (b : Bool) → ((events_of t past == 0) ≡ true → opened t past ≡ []) → (cond b 1 0 + events_of t past == 0) ≡ true → cond b (changed (change_of event.call) (opened t past)) (opened t past) ≡ []
    by-test true rest same = absurd (one_more (events_of t past) same)
    by-test false rest same = rest (rw zero-add at same)

no_call : (t : ℕ) (past : List EventRecord) → (events_of t past == 0) ≡ true → latest t past ≡ None
no_call t [] none = refl
no_call t (event ∷ past) none = by-test (event.thread == t) (λ same. no_call t past same) (subst (λ (n : ℕ). (n == 0) ≡ true) (events_more t event past) none)
  where
    by-test : (b : Bool) → ((events_of t past == 0) ≡ true → latest t past ≡ None) → (cond b 1 0 + events_of t past == 0) ≡ true → cond b (Some event.call) (latest t past) ≡ None
    by-test true rest same = absurd (one_more (events_of t past) same)
    by-test false rest same = rest (rw zero-add at same)

pub quiet_opened : (t : ℕ) (past : List EventRecord) → None ≡ thread_known t past → opened t past ≡ []
quiet_opened t past unknown = no_bracket t past (no_event t past unknown)

pub quiet_latest : (t : ℕ) (past : List EventRecord) → None ≡ thread_known t past → latest t past ≡ None
quiet_latest t past unknown = no_call t past (no_event t past unknown)
