-- What a script tells its calls to do.
use Rattle.std.specs.Prelude.{ℕ, min, max, List, [], ◌∷◌, Option, Some, None}
use Rattle.run_edges.specs.declared.script.Script.{Script}
use Rattle.run_edges.specs.declared.script.Script.TheVariants.{Most, Fail}

-- how many of the bytes that fit the next call moves, or none where it fails
abbrev pub next_count : List Script → ℕ → Option ℕ
next_count [] fitting = Some fitting
next_count (Most most ∷ rest) fitting = Some (min (max most 1) fitting)
next_count (Fail ∷ rest) fitting = None
