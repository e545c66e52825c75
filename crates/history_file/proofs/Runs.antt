-- What reading a shape gives, step by step.
use Rattle.std.proofs.Common.{◌≡◌, ℕ, ◌-◌, Bool, true, false, List, length, Result, Ok, Err, refl, sym, ap, ◌∙◌}
use Rattle.history_file.specs.declared.reason.HistoryReason.{HistoryReason}
use Rattle.history_file.specs.Fields.{Field}
use Rattle.history_file.specs.Reading.{◌>>=◌, Refusal, Shape, and_then, field_at, passed, plain_at, run, text_at}
use Rattle.history_file.specs.Reading.Shape.{Done, Reads, Takes}
use Rattle.history_file.specs.Refusing.{reason_of}

-- the value of a step that gave one
pub bind_ok : {A B : Type 0} (r : Result A Refusal) (f : A → Result B Refusal) (y : B) → (r >>= f) ≡ Ok y → (x : A) × (r ≡ Ok x) × (f x ≡ Ok y)
bind_ok (Ok x) f y is = (x, refl, is)
bind_ok (Err e) f y is = absurd cc

bind_twice : {A B C : Type 0} (r : Result A Refusal) (f : A → Result B Refusal) (g : B → Result C Refusal) (h : A → Result C Refusal) → ((x : A) → h x ≡ (f x >>= g)) → (r >>= h) ≡ ((r >>= f) >>= g)
bind_twice (Ok x) f g h same = same x
bind_twice (Err e) f g h same = refl

-- a shape behind another reads what is left of it
pub run_and_then : {A B : Type 0} (S : Shape A) (more : A → Shape B) (total : ℕ) (bytes : List ℕ) → run (and_then S more) total bytes ≡ (run S total bytes >>= λ x. run (more x.0) total x.1)
run_and_then (Done x) more total bytes = refl
run_and_then (Reads field width accepts next) more total bytes =
    bind_twice (field_at total field width accepts bytes) (λ x. run (next x.0) total x.1) (λ y. run (more y.0) total y.1) (λ x. run (and_then (next x.0) more) total x.1)
    (λ x. run_and_then (next x.0) more total x.1)
run_and_then (Takes width next) more total bytes =
    bind_twice (text_at total width bytes) (λ x. run (next x.0) total x.1) (λ y. run (more y.0) total y.1) (λ x. run (and_then (next x.0) more) total x.1)
    (λ x. run_and_then (next x.0) more total x.1)

abbrev ok_of : {A : Type 0} → A → Result A Refusal
ok_of x = Ok x

pub ok_is : {A : Type 0} (x y : A) → ok_of x ≡ ok_of y → x ≡ y
ok_is x y same = cc

passed_then : {A : Type 0} (accepted : Bool) (reason : HistoryReason) (offset : ℕ) (x y : A) → (passed accepted reason offset >>= λ _. ok_of x) ≡ Ok y → (accepted ≡ true) × (x ≡ y)
passed_then true reason offset x y is = (refl, ok_is x y is)
passed_then false reason offset x y is = absurd cc

-- a field that was read was there, and was let pass
pub field_ok : (total : ℕ) (field : Field) (width : ℕ) (accepts : ℕ → Bool) (bytes : List ℕ) (x : ℕ × List ℕ) → field_at total field width accepts bytes ≡ Ok x → (plain_at total width bytes ≡ Ok x) × (accepts x.0 ≡ true)
field_ok total field width accepts bytes x is =
    let parts = bind_ok (plain_at total width bytes) (λ y. passed (accepts y.0) (reason_of field) (total - length bytes) >>= λ _. Ok y) x is in
    let both = passed_then (accepts parts.0.0) (reason_of field) (total - length bytes) parts.0 x parts.2 in
    (parts.1 ∙ ap (λ (y : ℕ × List ℕ). Ok y) both.1, ap (λ (y : ℕ × List ℕ). accepts y.0) (sym both.1) ∙ both.0)
