-- What the text of a `printf` asks for.
use Rattle.std.specs.Prelude.{ℕ, ◌+◌, ◌==◌, if◌then◌else◌, List, [], ◌∷◌, Option, Some, None}
use Rattle.c_check.specs.declared.acts.act.Printed.{Printed}
use Rattle.c_check.specs.declared.acts.act.Printed.TheVariants as printed

-- how many numbers a text of `printf` asks for; none where a percent sign has another byte behind it than `d` or a second one
abbrev pub one_more : Option ℕ → Option ℕ
one_more None = None
one_more (Some count) = Some (count + 1)

abbrev percent : ℕ
percent = 37

abbrev pub letter_d : ℕ
letter_d = 100

unfoldable mutual
  pub numbers_in : List ℕ → Option ℕ
  numbers_in [] = Some 0
  numbers_in (byte ∷ bytes) = if byte == percent then numbers_behind bytes else numbers_in bytes

  -- behind a percent sign
  pub numbers_behind : List ℕ → Option ℕ
  numbers_behind [] = None
  numbers_behind (byte ∷ bytes) = if byte == letter_d then one_more (numbers_in bytes) else if byte == percent then numbers_in bytes else None

abbrev pub as_many : Option ℕ → ℕ → Printed
as_many None count = printed.Wrong
as_many (Some numbers) count = if numbers == count then printed.Right else printed.Wrong
