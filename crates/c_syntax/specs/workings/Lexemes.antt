-- The names that the grammar has a use for, by their length.
use Rattle.std.specs.Prelude.{ℕ, ◌==◌, List, length, filter}
use Rattle.std.specs.Borrow.{Bor}
use Rattle.c_syntax.specs.declared.term.Term.{Term}
use Rattle.c_syntax.specs.language.Words.{Row, name_rows, row}

abbrev pub rows_of_len : ℕ → List Row
rows_of_len len = filter (λ first. length first.bytes == len) name_rows

-- a row of the code is this row
abbrev pub row_view : Bor (List ℕ) × Term → Row
row_view first = row first.0.now first.1
