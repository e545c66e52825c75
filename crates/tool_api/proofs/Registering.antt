-- A mask after several callbacks are registered.
use Rattle.std.proofs.Common.{◌≡◌, ℕ, ◌<◌, ◌^◌, true, ◌&&◌, ◌==◌, ◌+◌, List, [], ◌∷◌, length, get_or, drop, drop-cons, add-one, bit_or, inl, inr, sym, subst, ◌∙◌, arith}
use Rattle.std.specs.List.{All}
use Rattle.std.specs.Int.{bit_at}
use Rattle.std.proofs.lemmas.Bool.{and_parts, cases_Bool, eqb-true}
use Rattle.std.proofs.lemmas.Nat.Bits.{bit_at-lt, same_from_bits}
use Rattle.ompt_calls.specs.Number.{is_registered}
use Rattle.omp_codes.specs.Answers.{answer_of}
use Rattle.tool_api.specs.Registering.{AreAlways, is_registered_after}
use Rattle.tool_api.proofs.Bits.{registered}

-- these bits are set, one after another
abbrev pub registered_from : ℕ → List ℕ → ℕ
registered_from mask [] = mask
registered_from mask (number ∷ numbers) = registered_from (bit_or mask (2 ^ number)) numbers

-- bits that both are 1, or both aren't, are the same
same-bit : (a b : ℕ) → a < 2 → b < 2 → (a == 1) ≡ (b == 1) → a ≡ b
same-bit a b below-a below-b same = grind arith

-- masks in which the same callbacks are registered are the same
pub same-mask : (a b : ℕ) → ((other : ℕ) → is_registered a other ≡ is_registered b other) → a ≡ b
same-mask a b same = same_from_bits a b (λ i. same-bit (bit_at a i) (bit_at b i) (bit_at-lt a i) (bit_at-lt b i) (same i))

-- a registration that is answered always sets the callback's bit
pub set-gives : (old new number : ℕ) → answer_of number ≡ 5 → ((other : ℕ) → is_registered new other ≡ is_registered_after old number other) → new ≡ bit_or old (2 ^ number)
set-gives old new number always says = same-mask new (bit_or old (2 ^ number)) (λ other. says other ∙ sym (registered old number other always))

-- the next number of a table is registered
pub registered-more : (numbers : List ℕ) (i : ℕ) (old new whole : ℕ) → All (λ number. answer_of number ≡ 5) numbers → i < length numbers
    → ((other : ℕ) → is_registered new other ≡ is_registered_after old (get_or numbers i 0) other) → registered_from old (drop i numbers) ≡ whole → registered_from new (drop (i + 1) numbers) ≡ whole
registered-more numbers i old new whole always below says before =
    let set = set-gives old new (get_or numbers i 0) (always i 0 below) says in
    let rest : registered_from (bit_or old (2 ^ get_or numbers i 0)) (drop (i + 1) numbers) ≡ whole = rw (drop-cons numbers i 0 below, ← add-one) at before in
    rw set rest

-- one callback more is registered that is called always
pub always-set : (old new number : ℕ) → answer_of number ≡ 5 → ((other : ℕ) → is_registered new other ≡ is_registered_after old number other) → AreAlways old → AreAlways new
always-set old new number always says are other is =
    elim (cases_Bool (is_registered old other)) [
      | inl before ↦ are other before
      | inr not_before ↦
          let now : (other == number && answer_of number == 5) ≡ true = rw not_before at (sym (says other) ∙ is) in
          subst (λ n. answer_of n ≡ 5) (sym (eqb-true other number (and_parts (other == number) (answer_of number == 5) now).0)) always
    ]
