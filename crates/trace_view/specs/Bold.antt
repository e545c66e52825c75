-- What is held of bold tasks. This serves the contracts of private functions and the proofs.
use Rattle.std.specs.Prelude.{ℕ, ◌≡◌, ◌||◌, List}
use Rattle.std.specs.Ordering.{nat_cmp}
use Rattle.std.specs.BTreeSet.{BTreeSet, contains}
use Rattle.trace_format.specs.Validity.{is_among}

-- the set has these numbers
abbrev pub HasNumbers : BTreeSet ℕ → List ℕ → Type 0
HasNumbers set numbers = (n : ℕ) → contains nat_cmp set n ≡ is_among numbers n

-- the set has these numbers more
abbrev pub Gains : BTreeSet ℕ → BTreeSet ℕ → List ℕ → Type 0
Gains old new numbers = (n : ℕ) → contains nat_cmp new n ≡ contains nat_cmp old n || is_among numbers n
