-- What a read of a source that never fails gives.
use Rattle.std.specs.Prelude.{◌≡◌, ℕ, zero, suc, min, List, length, drop}
use Rattle.run_edges.specs.declared.source.Got.{Got}
use Rattle.run_edges.specs.declared.source.Got.TheVariants.{Bytes, End}

-- the answer of a read that gives so many bytes
abbrev pub answer_of : ℕ → Got
answer_of zero = End
answer_of (suc n) = Bytes (suc n)

-- a read into a buffer with this room gives as many of the bytes as fit
abbrev pub GivesWhatFits : List ℕ → List ℕ → Got → ℕ → Type 0
GivesWhatFits old new answer room = let n = min room (length old) in (answer ≡ answer_of n) × (new ≡ drop n old)
