-- The traps and limits that a task's code can come to.
use Rattle.std.specs.Prelude.{ℕ, ◌≤◌, ◌≡◌, ◌⊎◌}
use Rattle.c_model.specs.declared.limits.TheConstants.{CALLS, CELLS, TEXT}
use Rattle.c_model.specs.declared.traps.TheConstants.{INDEX, OVERFLOW}
use Rattle.c_model.specs.Task.{Outcome}
use Rattle.c_model.specs.Task.Outcome.{Traps, Limits}

-- one of the three traps of expressions
abbrev pub IsTrap : ℕ → Type 0
IsTrap trap = (OVERFLOW ≤ trap) × (trap ≤ INDEX)

-- the limit of cells, of calls, or of printed text
abbrev pub IsLimit : ℕ → Type 0
IsLimit limit = (limit ≡ CELLS) ⊎ (limit ≡ CALLS) ⊎ (limit ≡ TEXT)

unfoldable pub IsKnown : Outcome → Type 0
IsKnown (Traps trap) = IsTrap trap
IsKnown (Limits limit) = IsLimit limit
IsKnown other = Unit {0}
