-- Names, and their numbers.
use Rattle.std.proofs.Common.{◌≡◌, ℕ, ◌+◌, ◌≤◌, Bool, true, false, cond, List, [], ◌∷◌, ◌++◌, Option, Some, None, unwrap_or, length, refl, sym, ap, subst, ◌∙◌, arith, inl, inr, length-append}
use Rattle.std.specs.Prelude.{bytes_eq}
use Rattle.std.proofs.lemmas.Bool.{cases_Bool}
use Rattle.std.proofs.lemmas.Slice.Eq.{bytes_eq-Decides}
use Rattle.std.specs.HashMap.{get_by, hash_map_len}
use Rattle.c_syntax.specs.declared.names.Names.{Names}
use Rattle.c_syntax.specs.workings.Names.{AreNames}
use Rattle.c_syntax.specs.language.Words.{added, number_from, number_of, same_bytes, with_name}
use Rattle.c_syntax.proofs.Lexemes.{bytes_eq-same}

bytes_eq-self : (bytes : List ℕ) → bytes_eq bytes bytes ≡ true
bytes_eq-self bytes = (bytes_eq-Decides bytes bytes).1 refl

number_from-other : (number : ℕ) (names : List (List ℕ)) (name other : List ℕ) → same_bytes name other ≡ false → number_from number (names ++ name ∷ []) other ≡ number_from number names other
number_from-other number [] name other apart = rw apart refl
number_from-other number (first ∷ names) name other apart = ap (λ (more : Option ℕ). cond (same_bytes first other) (Some number) more) (number_from-other (number + 1) names name other apart)

number_from-last : (number : ℕ) (names : List (List ℕ)) (name : List ℕ) → number_from number names name ≡ None → number_from number (names ++ name ∷ []) name ≡ Some (number + length names)
number_from-last number [] name none = rw (sym (bytes_eq-same name name) ∙ bytes_eq-self name) (ap Some (omega arith))
number_from-last number (first ∷ names) name none =
    elim (cases_Bool (same_bytes first name)) [
      | inl same ↦ absurd (let found : Some number ≡ None = rw same at none in cc)
      | inr apart ↦ rw apart (number_from-last (number + 1) names name (rw apart at none) ∙ ap Some (omega arith))
    ]

-- a name that is new has the next number, and the others keep theirs
pub number_of-new : (before : List (List ℕ)) (name other : List ℕ) → number_of before name ≡ None → number_of (before ++ name ∷ []) other ≡ cond (bytes_eq name other) (Some (length before + 1)) (number_of before other)
number_of-new before name other none =
    elim (cases_Bool (bytes_eq name other)) [
      | inl same ↦
          let here : name ≡ other = (bytes_eq-Decides name other).0 same in
          rw same (ap (λ (n : List ℕ). number_of (before ++ name ∷ []) n) (sym here) ∙ number_from-last 1 before name none ∙ ap Some (omega arith))
      | inr apart ↦ rw apart (number_from-other 1 before name other (sym (bytes_eq-same name other) ∙ apart))
    ]

with_name-new : (before : List (List ℕ)) (name : List ℕ) → number_of before name ≡ None → with_name before name ≡ before ++ name ∷ []
with_name-new before name none = ap (λ (found : Option ℕ). added found before name) none

-- the number of a name that is new
pub number-new : (before : List (List ℕ)) (names : Names) (name : List ℕ) → AreNames before names → get_by (λ key. bytes_eq name key.now) names.numbers ≡ None → hash_map_len names.numbers + 1 ≡ unwrap_or (number_of (with_name before name) name) 0
number-new before names name are none =
    let new : number_of before name ≡ None = sym (are.numbers name) ∙ none in
    let whole : number_of (with_name before name) name ≡ Some (length before + 1) =
    ap (λ (b : List (List ℕ)). number_of b name) (with_name-new before name new) ∙ number_of-new before name name new ∙ ap (λ (b : Bool). cond b (Some (length before + 1)) (number_of before name)) (bytes_eq-self name) in
    ap (λ (n : ℕ). n + 1) are.count ∙ sym (ap (λ (f : Option ℕ). unwrap_or f 0) whole)

pub names-new : (before : List (List ℕ)) (names next : Names) (name : List ℕ) (number : ℕ) → number ≡ hash_map_len names.numbers + 1 → AreNames before names → get_by (λ key. bytes_eq name key.now) names.numbers ≡ None → ((other : List ℕ) → get_by (λ key. bytes_eq other key.now) next.numbers ≡ cond (bytes_eq name other) (Some number) (get_by (λ key. bytes_eq other key.now) names.numbers)) → hash_map_len next.numbers ≡ hash_map_len names.numbers + 1 → AreNames (with_name before name) next
names-new before names next name number counted are none updated grown =
    let new : number_of before name ≡ None = sym (are.numbers name) ∙ none in
    let whole : AreNames (before ++ name ∷ []) next = record {
      numbers = λ other. updated other
          ∙ ap (λ (n : ℕ). cond (bytes_eq name other) (Some n) (get_by (λ key. bytes_eq other key.now) names.numbers)) (counted ∙ ap (λ (n : ℕ). n + 1) are.count)
          ∙ ap (λ (f : Option ℕ). cond (bytes_eq name other) (Some (length before + 1)) f) (are.numbers other)
          ∙ sym (number_of-new before name other new);
      count = omega (arith, are.count, length-append before (name ∷ []));
    } in
    let P : List (List ℕ) → Type 0 = λ b. AreNames b next in
    subst P (sym (with_name-new before name new)) whole

pub with_name-length : (names : List (List ℕ)) (name : List ℕ) → length (with_name names name) ≤ length names + 1
with_name-length names name =
    elim (number_of names name) as (λ found. length (added found names name) ≤ length names + 1) [
      | None ↦ omega (arith, length-append names (name ∷ []))
      | Some number ↦ omega arith
    ]
