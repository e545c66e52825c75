-- The tails of a text, by length.
use Rattle.std.specs.Prelude.{ℕ, ◌≡◌, ◌<◌, ◌++◌, List, Option, Some, length, slice_get, IfSome}
use Rattle.c_tokens.specs.workings.Lines.{tail_len}
use Rattle.c_tokens.specs.workings.Lines.Tail.{Gaps, Slash, Line, Inside, Starred, Return}
use Rattle.c_tokens.specs.declared.tail.Row.{Row}

-- the end of some bytes
abbrev pub IsEndOf : List ℕ → List ℕ → Type 0
IsEndOf bytes rest = (front : List ℕ) × (bytes ≡ front ++ rest)

-- what each end of the bytes is as a tail stands at its length
abbrev pub AreTails : List ℕ → List (Option ℕ) → Type 0
AreTails bytes tails = (rest : List ℕ) → IsEndOf bytes rest → slice_get tails (length rest) ≡ Some (tail_len Gaps rest)

-- what some bytes are as a tail, from each state of its reading
abbrev pub row_of : List ℕ → Row
row_of bytes = record { gaps = tail_len Gaps bytes; slash = tail_len Slash bytes; line = tail_len Line bytes; inside = tail_len Inside bytes; starred = tail_len Starred bytes; carriage = tail_len Return bytes }

-- counts that can still grow
abbrev pub IsSmall : Option ℕ → Type 0
IsSmall count = IfSome count (λ n. n < 65536)

pub record IsSmallRow (row : Row) : Type 0 where
  pub gaps : IsSmall row.gaps
  pub slash : IsSmall row.slash
  pub line : IsSmall row.line
  pub inside : IsSmall row.inside
  pub starred : IsSmall row.starred
  pub carriage : IsSmall row.carriage
