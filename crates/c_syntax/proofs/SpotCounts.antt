-- How many constructs, and how many heads of directives, stand at a spot.
use Rattle.std.proofs.Common.{ℕ, ◌≡◌, ◌≢◌, ◌+◌, ◌≤◌, ◌==◌, ◌&&◌, Bool, true, false, if◌then◌else◌, IsTrue, List, [], ◌∷◌, ◌++◌, refl, sym, ap, subst, ◌∙◌, arith}
use Rattle.std.specs.Prelude.{All, map, filter}
use Rattle.std.specs.List.{AllPairs}
use Rattle.std.proofs.lemmas.Bool.{and_from, and_parts, eq-eqb, eqb-true, false≢true}
use Rattle.std.proofs.lemmas.List.Elements.{All-cons, All-head, All-nil, All-tail, All-weaker}
use Rattle.std.proofs.lemmas.List.Kept.{AllPairs-cons}
use Rattle.c_tokens.specs.declared.token.Spot.{Spot}
use Rattle.c_syntax.specs.declared.term.Term.{Term}
use Rattle.c_syntax.specs.declared.term.Term.TheVariants as term
use Rattle.c_syntax.specs.language.Words.{Word}
use Rattle.c_syntax.specs.language.Tree.{Tree, kind_of, spot_of}
use Rattle.c_syntax.specs.language.Places.{is_construct}
use Rattle.c_syntax.proofs.Leading.{is_pragma}
use Rattle.c_syntax.proofs.WordSpots.{HaveOwnSpots, has_bytes}

abbrev pub same_spot : Spot → Spot → Bool
same_spot one other = one.line == other.line && one.column == other.column

same_spot-true : (one other : Spot) → IsTrue (same_spot one other) → one ≡ other
same_spot-true one other holds =
    let parts = and_parts (one.line == other.line) (one.column == other.column) holds in
    let lines = eqb-true one.line other.line parts.0 in
    let columns = eqb-true one.column other.column parts.1 in
    λ i. record { line = lines i; column = columns i }

-- 1 where a spot is another one and counts
abbrev pub one_if : Bool → ℕ
one_if true = 1
one_if false = 0

abbrev pub at_spot : Spot → Bool → Spot → ℕ
at_spot place counts spot = one_if (counts && same_spot spot place)

pub at_spot-less : (place : Spot) (few many : Bool) (spot : Spot) → (few ≡ true → many ≡ true) → at_spot place few spot ≤ at_spot place many spot
at_spot-less place false many spot holds = omega arith
at_spot-less place true false spot holds = absurd (false≢true (holds refl))
at_spot-less place true true spot holds = omega arith

-- the constructs among some nodes
abbrev pub constructs_at : Spot → List Tree → ℕ
constructs_at place [] = 0
constructs_at place (one ∷ nodes) = at_spot place (is_construct (kind_of one)) (spot_of one) + constructs_at place nodes

pub constructs_at-append : (place : Spot) (front nodes : List Tree) → constructs_at place (front ++ nodes) ≡ constructs_at place front + constructs_at place nodes
constructs_at-append place [] nodes = omega arith
constructs_at-append place (one ∷ front) nodes = omega (arith, constructs_at-append place front nodes)

-- the heads of directives among some words
abbrev pub heads_at : Spot → List Word → ℕ
heads_at place [] = 0
heads_at place (word ∷ words) = at_spot place (is_pragma word.term) word.spot + heads_at place words

pragma-bytes : (word : Term) → IsTrue (is_pragma word) → IsTrue (has_bytes word)
pragma-bytes term.Pragma holds = refl
pragma-bytes other fails = absurd (false≢true fails)

elsewhere : (counts here : Bool) → (here ≡ true → ⊥) → one_if (counts && here) ≡ 0
elsewhere true true not_here = absurd (not_here refl)
elsewhere true false not_here = refl
elsewhere false here not_here = refl

heads_at-none : (place : Spot) (words : List Word) → All (λ word. place ≢ word.spot) words → heads_at place words ≡ 0
heads_at-none place [] apart = refl
heads_at-none place (word ∷ words) apart =
    let none : at_spot place (is_pragma word.term) word.spot ≡ 0 = elsewhere (is_pragma word.term) (same_spot word.spot place) (λ same. All-head P word words apart (sym (same_spot-true word.spot place same))) in
    omega (arith, none, heads_at-none place words (All-tail P word words apart))
  where
    P : Word → Type 0
    P it = place ≢ it.spot

-- one head of a directive stands at a spot at most
pub heads_at-one : (place : Spot) (words : List Word) → HaveOwnSpots words → heads_at place words ≤ 1
heads_at-one place [] own = omega arith
heads_at-one place (word ∷ words) (apart, own) = by-head (is_pragma word.term && same_spot word.spot place) refl (heads_at-one place words own)
  where
    by-head : (here : Bool) → (is_pragma word.term && same_spot word.spot place) ≡ here → heads_at place words ≤ 1 → one_if here + heads_at place words ≤ 1
    by-head false same few = omega arith
    by-head true same few =
        let parts = and_parts (is_pragma word.term) (same_spot word.spot place) same in
        let spot = same_spot-true word.spot place parts.1 in
        let full = pragma-bytes word.term parts.0 in
        let others : All (λ other. place ≢ other.spot) words = All-weaker (λ other. IsTrue (has_bytes word.term) → word.spot ≢ other.spot) (λ other. place ≢ other.spot) (λ other differs at. differs full (spot ∙ at)) words apart in
        omega (arith, heads_at-none place words others)

-- how often a spot is in a list
abbrev times : Spot → List Spot → ℕ
times place [] = 0
times place (spot ∷ spots) = at_spot place true spot + times place spots

itself : (place : Spot) → at_spot place true place ≡ 1
itself place = ap one_if (and_from (place.line == place.line) (place.column == place.column) (eq-eqb place.line place.line refl) (eq-eqb place.column place.column refl))

none-apart : (place : Spot) (spots : List Spot) → times place spots ≡ 0 → All (λ spot. place ≢ spot) spots
none-apart place [] none = All-nil (λ spot. place ≢ spot)
none-apart place (spot ∷ spots) none =
    let apart : place ≢ spot = λ same. let one : at_spot place true spot ≡ 1 = subst (λ other. at_spot place true other ≡ 1) same (itself place) in absurd (omega (arith, one, none)) in
    All-cons (λ other. place ≢ other) spot spots apart (none-apart place spots (omega (arith, none)))

-- spots of which none is in a list more than once differ
spots-apart : (spots : List Spot) → ((place : Spot) → times place spots ≤ 1) → AllPairs (λ one other. one ≢ other) spots
spots-apart [] few = λ i j d before within. absurd (omega arith)
spots-apart (spot ∷ spots) few =
    AllPairs-cons (λ one other. one ≢ other) spot spots
    (none-apart spot spots (omega (arith, few spot, itself spot)))
    (spots-apart spots (λ place. omega (arith, few place)))

kept-times : (place : Spot) (counts : Bool) (one : Tree) (kept : List Tree) → times place (map spot_of (if counts then one ∷ kept else kept)) ≡ at_spot place counts (spot_of one) + times place (map spot_of kept)
kept-times place true one kept = refl
kept-times place false one kept = omega arith

times-constructs : (place : Spot) (nodes : List Tree) → times place (map spot_of (filter (λ one. is_construct (kind_of one)) nodes)) ≡ constructs_at place nodes
times-constructs place [] = refl
times-constructs place (one ∷ nodes) =
    let counts = is_construct (kind_of one) in
    kept-times place counts one (filter (λ one. is_construct (kind_of one)) nodes) ∙ ap (λ (count : ℕ). at_spot place counts (spot_of one) + count) (times-constructs place nodes)

-- nodes of which at most one at each spot is a construct
pub constructs-apart : (nodes : List Tree) → ((place : Spot) → constructs_at place nodes ≤ 1) → AllPairs (λ one other. one ≢ other) (map spot_of (filter (λ one. is_construct (kind_of one)) nodes))
constructs-apart nodes few = spots-apart (map spot_of (filter (λ one. is_construct (kind_of one)) nodes)) (λ place. omega (arith, few place, times-constructs place nodes))
