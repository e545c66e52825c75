-- A source in memory that obeys a script.
use Rattle.std.specs.Prelude.{◌≡◌, ℕ, List, drop, MatchOption}
use Rattle.run_edges.specs.declared.source.Got.{Got}
use Rattle.run_edges.specs.declared.source.Got.TheVariants.{Failed}
use Rattle.run_edges.specs.declared.script.Script.{Script}
use Rattle.run_edges.specs.Edges.{raised}
use Rattle.run_edges.specs.Script.{next_count}
use Rattle.run_edges.specs.PureSource.{GivesWhatFits}

-- the bytes that are left, what the next calls do, and the count of the reads that failed
pub record SourceState : Type 0 where
  pub left : List ℕ
  pub script : List Script
  pub faults : ℕ

-- a read into a buffer with this room obeys the script's first step, and drops it
abbrev pub ReadObeys : SourceState → SourceState → Got → ℕ → Type 0
ReadObeys old new answer room = (new.script ≡ drop 1 old.script)
    × MatchOption (next_count old.script room)
    ((answer ≡ Failed) × (new.left ≡ old.left) × (new.faults ≡ raised old.faults))
    (λ most. GivesWhatFits old.left new.left answer most × (new.faults ≡ old.faults))
