-- How many turns a history has.
use Rattle.std.specs.Prelude.{ℕ, ◌+◌, List, [], ◌∷◌}
use Rattle.omp_model.specs.declared.history.Entry.{Entry}
use Rattle.omp_model.specs.declared.history.What.{What}
use Rattle.omp_model.specs.declared.history.What.TheVariants.{Back, Go, Put}

-- an entry is a turn where it is a Go
abbrev pub turns_in : What → ℕ
turns_in Go = 1
turns_in (Put target word) = 0
turns_in Back = 0

abbrev pub turns_of : List Entry → ℕ
turns_of [] = 0
turns_of (entry ∷ rest) = turns_in entry.what + turns_of rest
