-- The stores of a reply with one store more at its front.
use Rattle.std.proofs.Common.{◌≡◌, ℕ, ◌≤◌, ◌++◌, true, false, List, [], ◌∷◌, length, Option, Some, None, IfSome, refl, sym, ap, ◌∙◌, arith, length-append, append-nil}
use Rattle.std.specs.Option.{is_some}
use Rattle.ompt_calls.specs.declared.snapshot.Target.{Target}
use Rattle.ompt_calls.specs.declared.snapshot.Snapshot.{Snapshot}
use Rattle.ompt_calls.specs.declared.reply.Reply.{Reply}
use Rattle.ompt_calls.specs.declared.reply.Store.{Store}
use Rattle.ompt_calls.specs.Snapshot.{Stored, target_of, stored, stored_of, stores_of}
use Rattle.tool_both.specs.BothStores.{IsPacked, occurs, counting_stores}
use Rattle.tool_both.proofs.Stores.{full-before, covered-before, one-before}

-- a store whose place is there
stored-there : (snapshot : Snapshot) (given : Store) (word : Target) → target_of snapshot given.place ≡ Some word
    → stored_of snapshot (Some given) ≡ record { target = word; word = given.word } ∷ []
stored-there snapshot given word there = rw there refl

-- each store is one at most
short-stored : (word : ℕ) (found : Option Target) → length (stored word found) ≤ 1
short-stored word None = omega arith
short-stored word (Some found) = omega arith

short-of : (snapshot : Snapshot) (store : Option Store) → length (stored_of snapshot store) ≤ 1
short-of snapshot None = omega arith
short-of snapshot (Some store) = short-stored store.word (target_of snapshot store.place)

-- the reply with one store more, where there is room
front-stores : (snapshot : Snapshot) (kept : Reply) (given : Store) (word : Target) → target_of snapshot given.place ≡ Some word → (third : Option Store) → is_some third ≡ false
    → stored_of snapshot (Some given) ++ stored_of snapshot kept.first ++ stored_of snapshot kept.second
    ≡ record { target = word; word = given.word } ∷ (stored_of snapshot kept.first ++ stored_of snapshot kept.second ++ stored_of snapshot third)
front-stores snapshot kept given word there None empty =
    rw there (ap (λ (xs : List Stored). record { target = word; word = given.word } ∷ xs) (sym (append-nil (stored_of snapshot kept.first ++ stored_of snapshot kept.second))))
front-stores snapshot kept given word there (Some third) empty = cc

few-stores : (snapshot : Snapshot) (kept : Reply) (third : Option Store) → is_some third ≡ false
    → length (stored_of snapshot kept.first ++ stored_of snapshot kept.second ++ stored_of snapshot third) ≤ 2
few-stores snapshot kept None empty =
    let one = short-of snapshot kept.first in
    let two = short-of snapshot kept.second in
    simp (length-append, append-nil) (omega arith)
few-stores snapshot kept (Some third) empty = absurd (let wrong : ⊥ = cc in wrong)

-- three stores leave no room
full-length : (snapshot : Snapshot) (kept : Reply) → IsPacked kept snapshot → is_some kept.third ≡ true → 3 ≤ length (stores_of kept snapshot)
full-length snapshot kept packed full = from kept.third full packed.third
  where
    from : (third : Option Store) → is_some third ≡ true → IfSome third (λ store. 3 ≤ length (stores_of kept snapshot)) → 3 ≤ length (stores_of kept snapshot)
    from None full long = absurd (let wrong : ⊥ = cc in wrong)
    from (Some third) full long = long

-- the three answers
pub full-answer : (snapshot : Snapshot) (kept : Reply) (given : Store) (word : Target) (later : List Stored) → target_of snapshot given.place ≡ Some word → IsPacked kept snapshot
    → is_some kept.third ≡ true → stores_of kept snapshot ≡ counting_stores later → stores_of kept snapshot ≡ counting_stores (stored_of snapshot (Some given) ++ later)
full-answer snapshot kept given word later there packed full counts =
    let long : 3 ≤ length (counting_stores later) = rw counts at (full-length snapshot kept packed full) in
    rw (stored-there snapshot given word there) (counts ∙ sym (full-before (record { target = word; word = given.word }) later long))

pub covered-answer : (snapshot : Snapshot) (kept : Reply) (given : Store) (word : Target) (later : List Stored) → target_of snapshot given.place ≡ Some word
    → occurs word (stores_of kept snapshot) ≡ true → stores_of kept snapshot ≡ counting_stores later → stores_of kept snapshot ≡ counting_stores (stored_of snapshot (Some given) ++ later)
covered-answer snapshot kept given word later there found counts =
    let found_later : occurs word (counting_stores later) ≡ true = rw counts at found in
    rw (stored-there snapshot given word there) (counts ∙ sym (covered-before (record { target = word; word = given.word }) later found_later))

pub front-answer : (snapshot : Snapshot) (kept : Reply) (given : Store) (word : Target) (later : List Stored) → target_of snapshot given.place ≡ Some word
    → is_some kept.third ≡ false → occurs word (stores_of kept snapshot) ≡ false → stores_of kept snapshot ≡ counting_stores later
    → stored_of snapshot (Some given) ++ stored_of snapshot kept.first ++ stored_of snapshot kept.second ≡ counting_stores (stored_of snapshot (Some given) ++ later)
front-answer snapshot kept given word later there room other counts =
    let new : Stored = record { target = word; word = given.word } in
    let few : length (counting_stores later) ≤ 2 = rw counts at (few-stores snapshot kept kept.third room) in
    let absent : occurs word (counting_stores later) ≡ false = rw counts at other in
    front-stores snapshot kept given word there kept.third room
    ∙ ap (λ (xs : List Stored). new ∷ xs) counts
    ∙ sym (one-before new later few absent)
    ∙ ap (λ (xs : List Stored). counting_stores (xs ++ later)) (sym (stored-there snapshot given word there))
