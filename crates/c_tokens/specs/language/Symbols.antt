-- Symbols.
use Rattle.std.specs.Prelude.{ℕ, Bool, false, ◌==◌, ◌&&◌, ◌||◌, List, [], ◌∷◌, codes, if◌then◌else◌}

-- the symbols of two bytes, one after another
abbrev pub double_symbols : List ℕ
double_symbols = codes "++--+=-=*=/=%=<=>===!=&&||"

-- the symbols of one byte
abbrev pub single_symbols : List ℕ
single_symbols = codes "{}()[];,=+-*/%<>!&|^~?:."

-- whether two bytes stand in a list of pairs
abbrev pub has_pair : ℕ → ℕ → List ℕ → Bool
has_pair first second [] = false
has_pair first second (byte ∷ []) = false
has_pair first second (byte ∷ next ∷ pairs) = (first == byte && second == next) || has_pair first second pairs

abbrev pub has_byte : ℕ → List ℕ → Bool
has_byte first [] = false
has_byte first (byte ∷ bytes) = first == byte || has_byte first bytes

-- how many bytes the longest symbol at the front has, or 0 where none stands there
abbrev pub single_len : ℕ → ℕ
single_len byte = if has_byte byte single_symbols then 1 else 0

abbrev pub symbol_len : List ℕ → ℕ
symbol_len [] = 0
symbol_len (first ∷ []) = single_len first
symbol_len (first ∷ second ∷ bytes) = if has_pair first second double_symbols then 2 else single_len first
