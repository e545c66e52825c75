-- A sink in memory that obeys a script.
use Rattle.std.specs.Prelude.{◌≡◌, ℕ, suc, ◌-◌, min, List, ◌++◌, length, take, drop, Option, Some}
use Rattle.run_edges.specs.declared.sink.Took.{Took}
use Rattle.run_edges.specs.declared.sink.Took.TheVariants.{Bytes, Failed}
use Rattle.run_edges.specs.declared.script.Script.{Script}
use Rattle.run_edges.specs.Edges.{raised}
use Rattle.run_edges.specs.Script.{next_count}

-- the bytes that are held, how many more fit, what the next calls do, and the count of the writes that failed
pub record SinkState : Type 0 where
  pub held : List ℕ
  pub room : ℕ
  pub script : List Script
  pub faults : ℕ

-- a write takes so many of the piece's first bytes, and fails where it takes none
abbrev pub TakesCount : SinkState → SinkState → Took → List ℕ → Option ℕ → Type 0
TakesCount old new answer piece (Some (suc n)) =
    (answer ≡ Bytes (suc n)) × (new.held ≡ old.held ++ take (suc n) piece)
    × (new.room ≡ old.room - suc n) × (new.faults ≡ old.faults)
TakesCount old new answer piece _ =
    (answer ≡ Failed) × (new.held ≡ old.held) × (new.room ≡ old.room) × (new.faults ≡ raised old.faults)

-- a write obeys the script's first step, and drops it
abbrev pub WriteObeys : SinkState → SinkState → Took → List ℕ → Type 0
WriteObeys old new answer piece = (new.script ≡ drop 1 old.script)
    × TakesCount old new answer piece (next_count old.script (min (length piece) old.room))
