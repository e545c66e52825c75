-- Numbers that come several times and count once, in the order in which they first come.
use Rattle.std.specs.Prelude.{ℕ, ◌==◌, ◌||◌, if◌then◌else◌, Bool, false, List, [], ◌∷◌, ◌++◌}

unfoldable pub is_among : List ℕ → ℕ → Bool
is_among [] one = false
is_among (first ∷ rest) one = first == one || is_among rest one

-- some numbers, and one more where it isn't among them
abbrev pub with_one : List ℕ → ℕ → List ℕ
with_one known one = if is_among known one then known else known ++ one ∷ []

-- some numbers, and those of others that aren't among them
unfoldable pub with_each : List ℕ → List ℕ → List ℕ
with_each known [] = known
with_each known (first ∷ rest) = with_each (with_one known first) rest

abbrev pub each_once : List ℕ → List ℕ
each_once numbers = with_each [] numbers
