-- What reads and writes do to the bytes and to the counts of faults that sources and sinks are seen as.
use Rattle.std.specs.Prelude.{ℕ, ◌+◌, ◌-◌, ◌^◌, ◌<◌, ◌≤◌, min, List, length, take, Option}
use Rattle.std.specs.Io.KnownBytes.{Keeps, Appends, Consumes, IsAtEnd}
use Rattle.run_edges.specs.declared.source.Got.{Got}
use Rattle.run_edges.specs.declared.source.Got.TheVariants.{Bytes, End, Failed}
use Rattle.run_edges.specs.declared.sink.Took.{Took}
use Rattle.run_edges.specs.declared.sink.Took.TheVariants as took

-- a count rose: it is greater than before, or stands at the last value of a 64-bit counter
abbrev pub Rose : ℕ → ℕ → Type 0
Rose before now = min (before + 1) (2 ^ 64 - 1) ≤ now

-- what a read did to the bytes that are left, by its answer and the buffer after it
abbrev pub Gives : Option (List ℕ) → Option (List ℕ) → Got → List ℕ → Type 0
-- the first n bytes that were left stand at the buffer's front
Gives old new (Bytes n) buf = (0 < n) × (n ≤ length buf) × Consumes old new (take n buf)
-- nothing was left
Gives old new End buf = IsAtEnd old × Keeps old new
-- nothing was given
Gives old new Failed buf = Keeps old new

-- what a write did to the bytes that are held, by its answer and the piece
abbrev pub Takes : Option (List ℕ) → Option (List ℕ) → Took → List ℕ → Type 0
-- the first n bytes of the piece are appended
Takes old new (took.Bytes n) piece = (0 < n) × (n ≤ length piece) × Appends old new (take n piece)
-- nothing is appended
Takes old new took.Failed piece = Keeps old new

-- the held bytes grow by the front of a piece
abbrev pub AppendsFront : Option (List ℕ) → Option (List ℕ) → List ℕ → Type 0
AppendsFront old new piece = (n : ℕ) × (n ≤ length piece) × Appends old new (take n piece)

-- a 64-bit count of faults after one more: it stays at its last value
abbrev pub raised : ℕ → ℕ
raised count = min (count + 1) (2 ^ 64 - 1)

-- some bytes were given, at most so many
abbrev pub ConsumesAtMost : Option (List ℕ) → Option (List ℕ) → ℕ → Type 0
ConsumesAtMost old new limit = (given : List ℕ) × (length given ≤ limit) × Consumes old new given

-- some bytes were given, more than so many
abbrev pub ConsumesMore : Option (List ℕ) → Option (List ℕ) → ℕ → Type 0
ConsumesMore old new limit = (given : List ℕ) × (limit < length given) × Consumes old new given
