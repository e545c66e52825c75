-- What the innermost open node keeps.
use Rattle.std.specs.Prelude.{ℕ, List, [], ◌∷◌}
use Rattle.c_syntax.specs.workings.Derivation.{Opened}

abbrev pub with_name : ℕ → List Opened → List Opened
with_name name [] = []
with_name name (node ∷ outer) = record node { name = name } ∷ outer

abbrev pub with_number : ℕ → List Opened → List Opened
with_number number [] = []
with_number number (node ∷ outer) = record node { number = number } ∷ outer

abbrev pub with_text : List ℕ → List Opened → List Opened
with_text text [] = []
with_text text (node ∷ outer) = record node { text = text } ∷ outer
