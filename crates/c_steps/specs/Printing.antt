-- What a `printf` prints, a byte of its pattern at a time.
use Rattle.std.specs.Prelude.{ℕ, List, [], ◌∷◌, ℤ}
use Rattle.c_syntax.specs.language.Tree.{text_of}
use Rattle.c_syntax.specs.language.Numbered.{tree_at}
use Rattle.c_model.specs.Text.{first_decimal, numbers_behind_first, printed_text, text_behind_backslash, text_behind_percent}
use Rattle.c_steps.specs.Arguments.{numbers_behind}
use Rattle.c_steps.specs.declared.scope.Scope.{Scope as Here}
use Rattle.c_steps.specs.declared.printing.Before.{Before}
use Rattle.c_steps.specs.declared.printing.Before.TheVariants.{Plain, Percent, Backslash}
use Rattle.c_steps.specs.declared.printing.Piece.{Piece}
use Rattle.c_steps.specs.declared.printing.Piece.TheVariants.{Nothing, Byte, Number}

abbrev pub piece_text : Piece → List ℤ → List ℕ
piece_text Nothing numbers = []
piece_text (Byte byte) numbers = byte ∷ []
piece_text Number numbers = first_decimal numbers

abbrev pub numbers_left : Piece → List ℤ → List ℤ
numbers_left Nothing numbers = numbers
numbers_left (Byte byte) numbers = numbers
numbers_left Number numbers = numbers_behind_first numbers

-- what the bytes that are left print
abbrev pub text_left : Before → List ℕ → List ℤ → List ℕ
text_left Plain bytes numbers = printed_text bytes numbers
text_left Percent bytes numbers = text_behind_percent bytes numbers
text_left Backslash bytes numbers = text_behind_backslash bytes numbers

-- what a `printf` prints
abbrev pub text_printed : Here → ℕ → List ℕ
text_printed here node = printed_text (text_of (tree_at here.tree.now.trees node)) (numbers_behind here node 0)
