-- What a list with room kept for more is seen as: the list, and how many more are taken without memory.
use Rattle.std.specs.Prelude.{ℕ, List}

pub record RoomyList (T : Type 0) : Type 0 where
  pub list : List T
  pub free : ℕ
