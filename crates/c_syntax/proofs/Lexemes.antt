-- Look-ups of names.
use Rattle.std.proofs.Common.{◌≡◌, ◌≢◌, ℕ, suc, ◌+◌, ◌<◌, ◌≤◌, Bool, true, false, IsTrue, if◌then◌else◌, cond, nat_eq, ◌==◌, List, [], ◌∷◌, length, drop, map, get_or, refl, sym, ap, ◌∙◌, add-one, drop-cons, inl, inr, Bor, ne_eqb}
use Rattle.std.specs.Prelude.{◌&&◌, codes, filter, bytes_eq}
use Rattle.std.specs.List.{starts_with}
use Rattle.std.proofs.lemmas.Bool.{cases_Bool, eqb-false, false≢true}
use Rattle.std.proofs.lemmas.List.{drop_all}
use Rattle.c_syntax.specs.declared.term.Term.{Term}
use Rattle.c_syntax.specs.declared.term.Term.TheVariants as term
use Rattle.c_syntax.specs.language.Words.{Row, look_up, name_rows, name_term, other_name, same_bytes}
use Rattle.c_syntax.specs.workings.Lexemes.{row_view, rows_of_len}
use Rattle.c_syntax.specs.workings.Derivation.{is_number}
use Rattle.c_syntax.proofs.Terms.{both-left, both-right}

pub bytes_eq-same : (bytes others : List ℕ) → bytes_eq bytes others ≡ same_bytes bytes others
bytes_eq-same [] [] = refl
bytes_eq-same [] (other ∷ others) = refl
bytes_eq-same (byte ∷ bytes) [] = refl
bytes_eq-same (byte ∷ bytes) (other ∷ others) = ap (λ (more : Bool). (byte == other) && more) (bytes_eq-same bytes others)

suc-apart : (m n : ℕ) → (suc m == suc n) ≡ false → (m == n) ≡ false
suc-apart m n apart = ne_eqb m n (λ same. absurd (eqb-false (suc m) (suc n) apart (ap suc same)))

and-false : (b : Bool) → (b && false) ≡ false
and-false true = refl
and-false false = refl

same_bytes-length : (bytes others : List ℕ) → (length bytes == length others) ≡ false → same_bytes bytes others ≡ false
same_bytes-length [] [] apart = absurd (cc)
same_bytes-length [] (other ∷ others) apart = refl
same_bytes-length (byte ∷ bytes) [] apart = refl
same_bytes-length (byte ∷ bytes) (other ∷ others) apart =
    let more = same_bytes-length bytes others (suc-apart (length bytes) (length others) apart) in
    rw more (and-false (byte == other))

-- a name isn't among rows of other lengths
look_up-filter : (rows : List Row) (bytes : List ℕ) (other : Term) → look_up (filter (λ first. length first.bytes == length bytes) rows) bytes other ≡ look_up rows bytes other
look_up-filter [] bytes other = refl
look_up-filter (first ∷ rows) bytes other =
    let more = look_up-filter rows bytes other in
    elim (cases_Bool (length first.bytes == length bytes)) [
      | inl same ↦ rw same (ap (λ (t : Term). cond (same_bytes first.bytes bytes) first.term t) more)
      | inr apart ↦ rw (apart, same_bytes-length first.bytes bytes apart) more
    ]

pub look_up-name : (items : List (Bor (List ℕ) × Term)) (bytes : List ℕ) → map row_view items ≡ rows_of_len (length bytes) → look_up (map row_view items) bytes (other_name bytes) ≡ name_term bytes
look_up-name items bytes same = ap (λ (rows : List Row). look_up rows bytes (other_name bytes)) same ∙ look_up-filter name_rows bytes (other_name bytes)

pub look_up-found : (items : List (Bor (List ℕ) × Term)) (at : ℕ) (none : Bor (List ℕ) × Term) (bytes : List ℕ) (other : Term) → at < length items → bytes_eq (get_or items at none).0.now bytes ≡ true → look_up (map row_view (drop at items)) bytes other ≡ (get_or items at none).1
look_up-found items at none bytes other within same =
    let first = get_or items at none in
    ap (λ (rest : List (Bor (List ℕ) × Term)). look_up (map row_view rest) bytes other) (drop-cons items at none within)
    ∙ ap (λ (here : Bool). cond here first.1 (look_up (map row_view (drop (suc at) items)) bytes other)) (sym (bytes_eq-same first.0.now bytes) ∙ same)

pub look_up-passed : (items : List (Bor (List ℕ) × Term)) (at : ℕ) (none : Bor (List ℕ) × Term) (bytes : List ℕ) (other : Term) → at < length items → bytes_eq (get_or items at none).0.now bytes ≡ false → look_up (map row_view (drop at items)) bytes other ≡ look_up (map row_view (drop (at + 1) items)) bytes other
look_up-passed items at none bytes other within apart =
    let first = get_or items at none in
    ap (λ (rest : List (Bor (List ℕ) × Term)). look_up (map row_view rest) bytes other) (drop-cons items at none within)
    ∙ ap (λ (here : Bool). cond here first.1 (look_up (map row_view (drop (suc at) items)) bytes other)) (sym (bytes_eq-same first.0.now bytes) ∙ apart)
    ∙ ap (λ (n : ℕ). look_up (map row_view (drop n items)) bytes other) (sym (add-one at))

pub look_up-over : (items : List (Bor (List ℕ) × Term)) (at : ℕ) (bytes : List ℕ) (other : Term) → length items ≤ at → look_up (map row_view (drop at items)) bytes other ≡ other
look_up-over items at bytes other over = ap (λ (rest : List (Bor (List ℕ) × Term)). look_up (map row_view rest) bytes other) (drop_all at items over)

-- whether none of some rows is that of a number
abbrev no_number : List Row → Bool
no_number [] = true
no_number (first ∷ rows) = (if is_number first.term then false else true) && no_number rows

not-number : (term : Term) → IsTrue (if is_number term then false else true) → is_number term ≡ false
not-number term.Number fails = absurd (false≢true fails)
not-number other holds = refl

look_up-no_number : (rows : List Row) (bytes : List ℕ) (other : Term) → IsTrue (no_number rows) → is_number other ≡ false → is_number (look_up rows bytes other) ≡ false
look_up-no_number [] bytes other none plain = plain
look_up-no_number (first ∷ rows) bytes other none plain =
    elim (cases_Bool (same_bytes first.bytes bytes)) [
      | inl same ↦ rw same (not-number first.term (both-left (if is_number first.term then false else true) (no_number rows) none))
      | inr apart ↦ rw apart (look_up-no_number rows bytes other (both-right (if is_number first.term then false else true) (no_number rows) none) plain)
    ]

other_name-no_number : (bytes : List ℕ) → is_number (other_name bytes) ≡ false
other_name-no_number bytes =
    elim (cases_Bool (starts_with nat_eq bytes (codes "omp_"))) [
      | inl same ↦ rw same refl
      | inr apart ↦ rw apart refl
    ]

-- no name is a number
pub name-no_number : (bytes : List ℕ) → name_term bytes ≢ term.Number
name-no_number bytes same = false≢true (sym (look_up-no_number name_rows bytes (other_name bytes) refl (other_name-no_number bytes)) ∙ ap is_number same)
