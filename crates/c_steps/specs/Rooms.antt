-- What containers stand for that have room kept for more: what is in them, and how many more they take without memory.
use Rattle.std.specs.Prelude.{ℕ, ◌≤◌, List}

-- a stack, its top first
pub record Stacked (T : Type 0) : Type 0 where
  pub frames : List T
  pub free : ℕ

-- there are at most so many, and room for that many
pub record HasRoom (limit count capacity : ℕ) : Type 0 where
  pub within : count ≤ limit
  pub enough : limit ≤ capacity
