-- The last of some children by their numbers, which come the last one first.
use Rattle.std.specs.Prelude.{ℕ, List, ◌∷◌, Option, Some, None}

-- the last, unless it is absent
abbrev pub last_of : List (Option ℕ) → Option ℕ
last_of (Some last ∷ older) = Some last
last_of other = None

-- the last two, the older first, unless one is absent
abbrev pub last_two_of : List (Option ℕ) → Option (ℕ × ℕ)
last_two_of (Some right ∷ Some left ∷ older) = Some (left, right)
last_two_of other = None
