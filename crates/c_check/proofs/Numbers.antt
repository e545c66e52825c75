-- The numbers of constructs, the innermost last or first.
use Rattle.std.proofs.Common.{◌≡◌, ℕ, zero, suc, ◌+◌, ◌<◌, List, [], ◌∷◌, ◌++◌, length, reverse, take, refl, sym, ap, ◌∙◌, arith}
use Rattle.std.specs.Prelude.{slice_index_or}
use Rattle.std.proofs.lemmas.List.{get_or_append_left, get_or_default, get_or_push, length_push, map-append, reverse-append, take_more}
use Rattle.c_tokens.specs.declared.token.Spot.{Spot}
use Rattle.c_check.specs.declared.constructs.parts.EndedNumber.{EndedNumber}
use Rattle.c_check.specs.Around.{AreBelow, AreKept, HaveBelow, ended_in, ended_with, no_construct, numbered}
use Rattle.c_check.specs.Constructs.{Construct, EndedConstruct}
use Rattle.c_check.specs.Spots.{spots_of}

reverse_last : (numbers outer : List ℕ) (last : ℕ) → numbers ≡ outer ++ last ∷ [] → reverse numbers ≡ last ∷ reverse outer
reverse_last numbers outer last is = ap reverse is ∙ reverse-append outer (last ∷ [])

module _ (count : ℕ) (numbers outer : List ℕ) (last : ℕ) (is : numbers ≡ outer ++ last ∷ []) (below : AreBelow count (reverse numbers)) where
  pub last_below : last < count
  unfolding AreBelow
  last_below = (let parts : AreBelow count (last ∷ reverse outer) = rw (reverse_last numbers outer last is) at below in parts).0

  pub outer_below : AreBelow count (reverse outer)
  unfolding AreBelow
  outer_below = (let parts : AreBelow count (last ∷ reverse outer) = rw (reverse_last numbers outer last is) at below in parts).1

pub numbered-split : (all : List Construct) (numbers outer : List ℕ) (last : ℕ) → numbers ≡ outer ++ last ∷ [] → AreBelow (length all) (reverse numbers)
    → (other : Construct) → numbered all (reverse numbers) ≡ slice_index_or all last other ∷ numbered all (reverse outer)
numbered-split all numbers outer last is below other =
    ap (numbered all) (reverse_last numbers outer last is)
    ∙ ap (λ (one : Construct). one ∷ numbered all (reverse outer)) (get_or_default all last no_construct other (last_below (length all) numbers outer last is below))

-- with one more construct
AreBelow-more : (count : ℕ) (numbers : List ℕ) → AreBelow count numbers → AreBelow (count + 1) numbers
unfolding AreBelow
AreBelow-more count [] below = tt
AreBelow-more count (first ∷ numbers) below = (omega (arith, below.0), AreBelow-more count numbers below.1)

HaveBelow-more : (count : ℕ) (ended : List EndedNumber) → HaveBelow count ended → HaveBelow (count + 1) ended
unfolding HaveBelow
HaveBelow-more count [] below = tt
HaveBelow-more count (first ∷ ended) below = (omega (arith, below.0), AreBelow-more count (reverse first.outer.items) below.1, HaveBelow-more count ended below.2)

module _ (all : List Construct) (next : Construct) where
  pub numbered-more : (numbers : List ℕ) → AreBelow (length all) numbers → numbered (all ++ next ∷ []) numbers ≡ numbered all numbers
  unfolding AreBelow
  numbered-more [] below = refl
  numbered-more (first ∷ numbers) below =
      ap (λ (one : Construct). one ∷ numbered (all ++ next ∷ []) numbers) (get_or_append_left all (next ∷ []) no_construct first below.0)
      ∙ ap (λ (others : List Construct). slice_index_or all first no_construct ∷ others) (numbered-more numbers below.1)

  ended_with-more : (one : EndedNumber) → one.construct < length all → AreBelow (length all) (reverse one.outer.items) → ended_with (all ++ next ∷ []) one ≡ ended_with all one
  ended_with-more one within below =
      let same : slice_index_or (all ++ next ∷ []) one.construct no_construct ≡ slice_index_or all one.construct no_construct = get_or_append_left all (next ∷ []) no_construct one.construct within in
      rw (same, numbered-more (reverse one.outer.items) below) refl

  pub ended_in-more : (ended : List EndedNumber) → HaveBelow (length all) ended → ended_in (all ++ next ∷ []) ended ≡ ended_in all ended
  unfolding HaveBelow
  ended_in-more [] below = refl
  ended_in-more (first ∷ ended) below =
      ap (λ (one : EndedConstruct). one ∷ ended_in (all ++ next ∷ []) ended) (ended_with-more first below.0 below.1)
      ∙ ap (λ (others : List EndedConstruct). ended_with all first ∷ others) (ended_in-more ended below.2)

  pub numbered-next : (numbers : List ℕ) (number : ℕ) → number ≡ length all → AreBelow (length all) (reverse numbers) → numbered (all ++ next ∷ []) (reverse (numbers ++ number ∷ [])) ≡ next ∷ numbered all (reverse numbers)
  numbered-next numbers number is below =
      ap (numbered (all ++ next ∷ [])) (reverse-append numbers (number ∷ []))
      ∙ ap (λ (one : Construct). one ∷ numbered (all ++ next ∷ []) (reverse numbers)) (get_or_push all next no_construct number (sym is))
      ∙ ap (λ (others : List Construct). next ∷ others) (numbered-more (reverse numbers) below)

-- what is kept
pub none_kept : AreKept [] [] [] []
unfolding AreBelow HaveBelow
none_kept = record { open_below = tt; ended_below = tt; stand = refl }

module _ (all : List Construct) (around : List ℕ) (ended : List EndedNumber) (spots : List Spot) (are : AreKept all around ended spots) where
  pub none_open : AreKept all [] ended spots
  unfolding AreBelow
  none_open = record { open_below = tt; ended_below = are.ended_below; stand = are.stand }

  pub more_kept : (next : Construct) → AreKept (all ++ next ∷ []) around ended spots
  more_kept next = record {
    open_below = rw (length_push all next) (AreBelow-more (length all) around are.open_below);
    ended_below = rw (length_push all next) (HaveBelow-more (length all) ended are.ended_below);
    stand = are.stand ∙ ap spots_of (sym (ended_in-more all next ended are.ended_below));
  }

  pub more_open : (next : Construct) → AreKept (all ++ next ∷ []) (length all ∷ around) ended spots
  unfolding AreBelow
  more_open next =
      let more = more_kept next in
      record { open_below = (omega (arith, length_push all next), more.open_below); ended_below = more.ended_below; stand = more.stand }

HaveBelow-push : (count : ℕ) (ended : List EndedNumber) (one : EndedNumber) → HaveBelow count ended → one.construct < count → AreBelow count (reverse one.outer.items) → HaveBelow count (ended ++ one ∷ [])
unfolding HaveBelow
HaveBelow-push count [] one have within below = (within, below, tt)
HaveBelow-push count (first ∷ ended) one have within below = (have.0, have.1, HaveBelow-push count ended one have.2 within below)

-- the innermost one ends
module _ (all : List Construct) (numbers outer : List ℕ) (last : ℕ) (ended : List EndedNumber) (spots : List Spot) (is : numbers ≡ outer ++ last ∷ []) (are : AreKept all (reverse numbers) ended spots) where
  pub fewer_open : AreKept all (reverse outer) ended spots
  fewer_open = record { open_below = outer_below (length all) numbers outer last is are.open_below; ended_below = are.ended_below; stand = are.stand }

  pub more_ended : (one : EndedNumber) (spot : Spot) → one.construct ≡ last → one.outer.items ≡ outer → spot ≡ (slice_index_or all last no_construct).head.spot → AreKept all (reverse outer) (ended ++ one ∷ []) (spots ++ spot ∷ [])
  more_ended one spot same rest at = record {
    open_below = outer_below (length all) numbers outer last is are.open_below;
    ended_below = HaveBelow-push (length all) ended one are.ended_below (rw same (last_below (length all) numbers outer last is are.open_below)) (rw rest (outer_below (length all) numbers outer last is are.open_below));
    stand =
        rw (at, ← same, are.stand)
        (sym (ap spots_of (map-append (ended_with all) ended (one ∷ [])) ∙ map-append (λ (it : EndedConstruct). it.construct.head.spot) (ended_in all ended) (ended_with all one ∷ [])));
  }

have_at : (count : ℕ) (ended : List EndedNumber) (number : ℕ) (other : EndedNumber) → HaveBelow count ended → number < length ended → ((slice_index_or ended number other).construct < count) × AreBelow count (reverse (slice_index_or ended number other).outer.items)
unfolding HaveBelow
have_at count [] number other have within = absurd (omega arith)
have_at count (first ∷ ended) zero other have within = (have.0, have.1)
have_at count (first ∷ ended) (suc number) other have within = have_at count ended number other have.2 (omega arith)

-- those of one that has ended
pub ended_at : (all : List Construct) (around : List ℕ) (ended : List EndedNumber) (spots : List Spot) (number : ℕ) (other : EndedNumber) → AreKept all around ended spots → number < length ended
    → ((slice_index_or ended number other).construct < length all) × AreBelow (length all) (reverse (slice_index_or ended number other).outer.items)
ended_at all around ended spots number other are within = have_at (length all) ended number other are.ended_below within

-- one more of some numbers, the outermost of which comes first
pub numbered-outward : (all : List Construct) (numbers : List ℕ) (index : ℕ) (construct : Construct) → index < length numbers → construct ≡ slice_index_or all (slice_index_or numbers index 0) no_construct
    → numbered all (reverse (take (index + 1) numbers)) ≡ construct ∷ numbered all (reverse (take index numbers))
numbered-outward all numbers index construct within is =
    ap (λ (taken : List ℕ). numbered all (reverse taken)) (take_more numbers index 0 within)
    ∙ ap (numbered all) (reverse-append (take index numbers) (slice_index_or numbers index 0 ∷ []))
    ∙ ap (λ (one : Construct). one ∷ numbered all (reverse (take index numbers))) (sym is)
