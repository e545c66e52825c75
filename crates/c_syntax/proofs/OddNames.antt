-- The names that are out of the language are those of the three lists.
use Rattle.std.proofs.Common.{◌≡◌, ℕ, Bool, true, false, ◌||◌, nat_eq, ◌==◌, List, [], ◌∷◌, refl, sym, ap, ◌∙◌, subst, inl, inr}
use Rattle.std.specs.Prelude.{◌&&◌, codes, not}
use Rattle.std.specs.List.{starts_with}
use Rattle.std.proofs.lemmas.Bool.{cases_Bool, eqb-true, false≢true}
use Rattle.c_syntax.specs.declared.head.Head.{Head}
use Rattle.c_syntax.specs.declared.head.Head.TheVariants as head
use Rattle.c_syntax.specs.declared.term.Term.{Term}
use Rattle.c_syntax.specs.declared.term.Term.TheVariants as term
use Rattle.c_syntax.specs.language.Words.{Row, look_up, name_rows, name_term, other_name, same_bytes}
use Rattle.c_syntax.specs.language.Faults.{is_odd, is_odd_at, is_odd_clause, is_odd_directive}
use Rattle.c_syntax.specs.language.OutOfLanguage.{c_words, clause_words, directive_words, is_one_of, is_out_at, is_out_everywhere, omp_words}
use Rattle.c_syntax.proofs.Terms.{both-left, both-right}

-- the bytes of rows
abbrev bytes_of_rows : List Row → List (List ℕ)
bytes_of_rows [] = []
bytes_of_rows (first ∷ rows) = first.bytes ∷ bytes_of_rows rows

-- whether a test holds of each word
abbrev all_so : (List ℕ → Bool) → List (List ℕ) → Bool
all_so test [] = true
all_so test (word ∷ words) = test word && all_so test words

same-bytes : (bytes others : List ℕ) → same_bytes bytes others ≡ true → bytes ≡ others
same-bytes [] [] same = refl
same-bytes [] (other ∷ others) same = absurd (false≢true same)
same-bytes (byte ∷ bytes) [] same = absurd (false≢true same)
same-bytes (byte ∷ bytes) (other ∷ others) same =
    let first : byte ≡ other = eqb-true byte other (both-left (byte == other) (same_bytes bytes others) same) in
    let rest : bytes ≡ others = same-bytes bytes others (both-right (byte == other) (same_bytes bytes others) same) in
    cc

-- what is so of each word is so of bytes that are one of them
one-so : (test : List ℕ → Bool) (words : List (List ℕ)) (bytes : List ℕ) → all_so test words ≡ true → is_one_of words bytes ≡ true → test bytes ≡ true
one-so test [] bytes all one = absurd (false≢true one)
one-so test (word ∷ words) bytes all one =
    elim (cases_Bool (same_bytes word bytes)) [
      | inl same ↦ subst (λ b. test b ≡ true) (same-bytes word bytes same) (both-left (test word) (all_so test words) all)
      | inr apart ↦ one-so test words bytes (both-right (test word) (all_so test words) all) (rw apart at one)
    ]

-- bytes that aren't among rows are what all others are
look_up-other : (rows : List Row) (bytes : List ℕ) (other : Term) → is_one_of (bytes_of_rows rows) bytes ≡ false → look_up rows bytes other ≡ other
look_up-other [] bytes other none = refl
look_up-other (first ∷ rows) bytes other none =
    elim (cases_Bool (same_bytes first.bytes bytes)) [
      | inl same ↦ absurd (false≢true (sym (rw same at none)))
      | inr apart ↦ rw apart (look_up-other rows bytes other (rw apart at none))
    ]

-- the names of the tables
abbrev names : List (List ℕ)
names = bytes_of_rows name_rows

-- bytes that no table has are none of some words that the tables have
none-of : (words : List (List ℕ)) (bytes : List ℕ) → all_so (is_one_of names) words ≡ true → is_one_of names bytes ≡ false → is_one_of words bytes ≡ false
none-of words bytes all none =
    elim (cases_Bool (is_one_of words bytes)) [
      | inl one ↦ absurd (false≢true (sym none ∙ one-so (is_one_of names) words bytes all one))
      | inr apart ↦ apart
    ]

-- whether two truths are the same
abbrev same_truth : Bool → Bool → Bool
same_truth true other = other
same_truth false other = not other

same-truth : (one other : Bool) → same_truth one other ≡ true → one ≡ other
same-truth true true same = refl
same-truth true false same = absurd (false≢true same)
same-truth false true same = absurd (false≢true same)
same-truth false false same = refl

-- two tests that agree at each name of the tables, and at each other name, agree
agree : (test : Term → Bool) (other : List ℕ → Bool) → all_so (λ bytes. same_truth (test (name_term bytes)) (other bytes)) names ≡ true
    → ((bytes : List ℕ) → is_one_of names bytes ≡ false → test (other_name bytes) ≡ other bytes) → (bytes : List ℕ) → test (name_term bytes) ≡ other bytes
agree test other here beyond bytes =
    elim (cases_Bool (is_one_of names bytes)) [
      | inl one ↦ same-truth (test (name_term bytes)) (other bytes) (one-so (λ it. same_truth (test (name_term it)) (other it)) names bytes here one)
      | inr none ↦ ap test (look_up-other name_rows bytes (other_name bytes) none) ∙ beyond bytes none
    ]

-- a name of no table is out of the language where it begins with `omp_`
beyond-everywhere : (bytes : List ℕ) → is_one_of names bytes ≡ false → is_odd (other_name bytes) ≡ is_out_everywhere bytes
beyond-everywhere bytes none =
    let of_c : is_one_of c_words bytes ≡ false = none-of c_words bytes refl none in
    let of_omp : is_one_of omp_words bytes ≡ false = none-of omp_words bytes refl none in
    elim (cases_Bool (starts_with nat_eq bytes (codes "omp_"))) [
      | inl begins ↦ rw (of_c, of_omp, begins) refl
      | inr begins ↦ rw (of_c, of_omp, begins) refl
    ]

beyond-at : (test : Term → Bool) (words : List (List ℕ)) → test term.OddName ≡ false → test term.Name ≡ false → all_so (is_one_of names) words ≡ true
    → (bytes : List ℕ) → is_one_of names bytes ≡ false → (is_odd (other_name bytes) || test (other_name bytes)) ≡ (is_out_everywhere bytes || is_one_of words bytes)
beyond-at test words odd plain all bytes none =
    let everywhere = beyond-everywhere bytes none in
    let of_words : is_one_of words bytes ≡ false = none-of words bytes all none in
    let of_test : test (other_name bytes) ≡ false = elim (cases_Bool (starts_with nat_eq bytes (codes "omp_"))) [ inl begins ↦ rw begins odd | inr begins ↦ rw begins plain ] in
    rw (of_words, of_test, everywhere) refl

everywhere : (bytes : List ℕ) → is_odd (name_term bytes) ≡ is_out_everywhere bytes
everywhere = agree is_odd is_out_everywhere refl beyond-everywhere

as_directive : (bytes : List ℕ) → (is_odd (name_term bytes) || is_odd_directive (name_term bytes)) ≡ (is_out_everywhere bytes || is_one_of directive_words bytes)
as_directive = agree (λ word. is_odd word || is_odd_directive word) (λ bytes. is_out_everywhere bytes || is_one_of directive_words bytes) refl (beyond-at is_odd_directive directive_words refl refl refl)

as_clause : (bytes : List ℕ) → (is_odd (name_term bytes) || is_odd_clause (name_term bytes)) ≡ (is_out_everywhere bytes || is_one_of clause_words bytes)
as_clause = agree (λ word. is_odd word || is_odd_clause word) (λ bytes. is_out_everywhere bytes || is_one_of clause_words bytes) refl (beyond-at is_odd_clause clause_words refl refl refl)

pub odd-out : (at : Head) (bytes : List ℕ) → is_odd_at at (name_term bytes) ≡ is_out_at at bytes
odd-out head.Outside bytes = everywhere bytes
odd-out head.Directive bytes = as_directive bytes
odd-out head.Bare bytes = everywhere bytes
odd-out head.Clause bytes = as_clause bytes
odd-out head.Word bytes = everywhere bytes
odd-out head.Schedule bytes = everywhere bytes
odd-out head.Kind bytes = as_clause bytes
odd-out (head.Inside count) bytes = everywhere bytes
