-- The heads of directives in a text have columns that the length of the text bounds, and so have constructs.
use Rattle.std.proofs.Common.{ℕ, ◌≡◌, ◌≤◌, ◌+◌, ◌==◌, ◌&&◌, ◌||◌, ◌++◌, Bool, true, false, if◌then◌else◌, IsTrue, List, [], ◌∷◌, length, refl, sym, subst, ◌∙◌, inl, inr, arith, length-append}
use Rattle.std.specs.Prelude.{codes, nat_eq}
use Rattle.std.specs.List.{starts_with}
use Rattle.std.proofs.lemmas.Bool.{and_parts, cases_Bool, false≢true, or_left, true≢false}
use Rattle.c_tokens.specs.declared.token.Spot.{Spot}
use Rattle.c_tokens.specs.declared.token.Token.{Token}
use Rattle.c_tokens.specs.declared.token.TokenKind.{TokenKind}
use Rattle.c_tokens.specs.declared.token.TokenKind.TheVariants as kind
use Rattle.c_tokens.specs.language.Bytes.{newline}
use Rattle.c_tokens.specs.language.Places.{closing, line_with, place_after, places_after}
use Rattle.c_tokens.specs.language.Pieces.{IsPragma, IsToken, Reads, hash}
use Rattle.c_syntax.specs.declared.term.Term.{Term}
use Rattle.c_syntax.specs.declared.term.Term.TheVariants as term
use Rattle.c_syntax.specs.language.Numbered.{TreeView, root_tree}
use Rattle.c_syntax.specs.language.Words.{Row, bytes_of, look_up, name_rows, names_with, other_name, same_bytes, symbol_rows, term_of, words_from, words_of}
use Rattle.c_syntax.specs.language.Productions.{depth_limit}
use Rattle.c_syntax.specs.language.Texts.{Spells}
use Rattle.c_syntax.proofs.ConstructPlaces.{one-construct}
use Rattle.c_syntax.proofs.Leading.{is_pragma}
use Rattle.c_syntax.proofs.ProgramWords.{program_derives}
use Rattle.work_laws.specs.Sections.{HaveOwnPlaces}
use Rattle.work_laws.proofs.ConstructHeads.{AreHeads, at-each, spells-each}

-- ---- tokens

-- a byte is a column at most
byte-column : (ends : Bool) (spot : Spot) → (if ends then record { line = spot.line + 1; column = 1 } else record spot { column = spot.column + 1 }).column ≤ spot.column + 1
byte-column true spot = omega arith
byte-column false spot = omega arith

bytes-column : (bytes : List ℕ) (place : _) → (places_after bytes place).spot.column ≤ place.spot.column + length bytes
bytes-column [] place = omega arith
bytes-column (byte ∷ bytes) place = omega (arith, bytes-column bytes (place_after byte place), byte-column (byte == newline) place.spot)

abbrev is_head : TokenKind → Bool
is_head kind.Pragma = true
is_head other = false

-- the head of a directive ends at this column at the latest, and has two bytes at least
abbrev Within : ℕ → Spot → Type 0
Within limit spot = spot.column + 2 ≤ limit

abbrev AreWithin : ℕ → List Token → Type 0
AreWithin limit [] = Unit {0}
AreWithin limit (token ∷ tokens) = (is_head token.kind ≡ true → Within limit token.spot) × AreWithin limit tokens

two-bytes : (byte : ℕ) (front back : List ℕ) → 1 ≤ length back → 2 ≤ length (byte ∷ (front ++ back))
two-bytes byte front back some = omega (arith, some, length-append front back)

pragma-long : (bytes rest : List ℕ) → IsPragma bytes rest → 2 ≤ length bytes
pragma-long bytes rest (first, second, is, gaps, others, some, stops) =
    subst (λ (bytes : List ℕ). 2 ≤ length bytes) (sym is) (two-bytes hash (first ++ codes "pragma" ++ second) (codes "omp") omp-some)
  where
    omp-some : 1 ≤ length (codes "omp")
    omp-some = omega arith

head-within : (limit : ℕ) (which : TokenKind) (in_line : _) (spot : Spot) (bytes rest : List ℕ) → IsToken which in_line bytes rest → spot.column + length bytes ≤ limit →
    is_head which ≡ true → Within limit spot
head-within limit kind.Pragma in_line spot bytes rest is few head = omega (arith, pragma-long bytes rest is.1, few)
head-within limit other in_line spot bytes rest is few fails = absurd (false≢true fails)

-- no head is among some tokens
abbrev has_heads : List Token → Bool
has_heads [] = false
has_heads (token ∷ tokens) = is_head token.kind || has_heads tokens

without-heads : (limit : ℕ) (tokens : List Token) → has_heads tokens ≡ false → AreWithin limit tokens
without-heads limit [] none = tt
without-heads limit (token ∷ tokens) none = (λ head. absurd (true≢false (sym (or_left (is_head token.kind) (has_heads tokens) head) ∙ none)), without-heads limit tokens (or-rest (is_head token.kind) (has_heads tokens) none))
  where
    or-rest : (one other : Bool) → (one || other) ≡ false → other ≡ false
    or-rest true other none = absurd (true≢false none)
    or-rest false other none = none

closing-none : (in_line : _) (place : _) → has_heads (closing in_line place) ≡ false
closing-none in_line place = grind arith

closing-within : (limit : ℕ) (in_line : _) (place : _) → AreWithin limit (closing in_line place)
closing-within limit in_line place = without-heads limit (closing in_line place) (closing-none in_line place)

reads-within : {place : _} {text : List ℕ} {tokens : List Token} (limit : ℕ) → Reads place text tokens → place.spot.column + length text ≤ limit → AreWithin limit tokens
reads-within limit (Reads.over {place = place}) few = closing-within limit place.line place
reads-within limit (Reads.passed {place = place} {rest = rest} bytes is more) few =
    reads-within limit more (omega (arith, few, bytes-column bytes place, length-append bytes rest))
reads-within limit (Reads.token {place = place} {rest = rest} which bytes is more) few = (
  head-within limit which place.line place.spot bytes rest is (omega (arith, few, length-append bytes rest)),
  reads-within limit more
      (omega (arith, few, bytes-column bytes (record place { line = line_with which place.line }), length-append bytes rest)),
)
reads-within limit (Reads.directive_end {place = place} {rest = rest} in_line more) few =
    (λ fails. absurd (false≢true fails), reads-within limit more (omega (arith, few, byte-column (newline == newline) place.spot)))

-- ---- words

-- no name and no symbol is a head
abbrev no_head : List Row → Bool
no_head [] = true
no_head (first ∷ rows) = (if is_pragma first.term then false else true) && no_head rows

not-head : (which : Term) → IsTrue (if is_pragma which then false else true) → is_pragma which ≡ false
not-head term.Pragma fails = absurd (false≢true fails)
not-head other holds = refl

look_up-no_head : (rows : List Row) (bytes : List ℕ) (other : Term) → IsTrue (no_head rows) → is_pragma other ≡ false → is_pragma (look_up rows bytes other) ≡ false
look_up-no_head [] bytes other none plain = plain
look_up-no_head (first ∷ rows) bytes other none plain =
    let both = and_parts (if is_pragma first.term then false else true) (no_head rows) none in
    elim (cases_Bool (same_bytes first.bytes bytes)) [
      | inl same ↦ rw same (not-head first.term both.0)
      | inr apart ↦ rw apart (look_up-no_head rows bytes other both.1 plain)
    ]

other-no_head : (bytes : List ℕ) → is_pragma (other_name bytes) ≡ false
other-no_head bytes =
    elim (cases_Bool (starts_with nat_eq bytes (codes "omp_"))) [
      | inl same ↦ rw same refl
      | inr apart ↦ rw apart refl
    ]

word-head : (which : TokenKind) (bytes : List ℕ) → is_pragma (term_of which bytes) ≡ true → is_head which ≡ true
word-head kind.Pragma bytes head = refl
word-head kind.Name bytes head = absurd (false≢true (sym (look_up-no_head name_rows bytes (other_name bytes) refl (other-no_head bytes)) ∙ head))
word-head kind.Symbol bytes head = absurd (false≢true (sym (look_up-no_head symbol_rows bytes term.OddSymbol refl refl) ∙ head))
word-head other bytes fails = absurd (false≢true fails)

words-within : (limit : ℕ) (text : List ℕ) (names : List (List ℕ)) (tokens : List Token) → AreWithin limit tokens → AreHeads (Within limit) (words_from text names tokens)
unfolding words_from
words-within limit text names [] within = tt
words-within limit text names (token ∷ tokens) within = (
  λ head. within.0 (word-head token.kind (bytes_of text token) head),
  words-within limit text (names_with token.kind names (bytes_of text token)) tokens within.1,
)

-- ---- a text

pub own-places : (text : List ℕ) (program : TreeView) → length text ≤ 65536 → Spells text (root_tree program) → HaveOwnPlaces program
own-places text program few spells =
    let limit : ℕ = 65537 in
    let heads = words-within limit text [] spells.tokens (reads-within limit spells.read (omega (arith, few))) in
    let placed = spells-each (Within limit) depth_limit (words_of text spells.tokens) (root_tree program)
    (program_derives depth_limit (words_of text spells.tokens) (root_tree program) spells.spelled) heads in
    record {
      spots = one-construct text (root_tree program) spells;
      columns = λ construct is. omega (arith, at-each (Within limit) (root_tree program) placed construct is.0 is.1);
    }
