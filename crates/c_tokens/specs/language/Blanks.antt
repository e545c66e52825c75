-- What counts as blank: blanks, and comments.
use Rattle.std.specs.Prelude.{ℕ, Bool, ◌+◌, ◌==◌, ◌&&◌, if◌then◌else◌, List, [], ◌∷◌, Option, Some, None}
use Rattle.std.specs.List.{prefix_len}
use Rattle.c_tokens.specs.language.Bytes.{is_inline, newline}

abbrev pub star : ℕ
star = 42

abbrev pub slash : ℕ
slash = 47

abbrev pub return : ℕ
return = 13

-- one more byte
abbrev pub one_more : Option ℕ → Option ℕ
one_more None = None
one_more (Some count) = Some (count + 1)

-- so many bytes more
abbrev pub further : ℕ → Option ℕ → Option ℕ
further count None = None
further count (Some rest) = Some (count + rest)

-- how many bytes a line's end takes at the front: a newline, or a carriage return and a newline
abbrev pub line_end_len : List ℕ → Option ℕ
line_end_len [] = None
line_end_len (first ∷ []) = if first == newline then Some 1 else None
line_end_len (first ∷ second ∷ bytes) = if first == newline then Some 1 else if first == return && second == newline then Some 2 else None

-- how many bytes follow the opening of a comment up to its end, with the end. `starred` says that the byte before was a star
-- of the comment's inside, so the star of the opening is none
abbrev pub comment_rest : Bool → List ℕ → Option ℕ
comment_rest starred [] = None
comment_rest starred (byte ∷ bytes) = if starred && byte == slash then Some 1 else one_more (comment_rest (byte == star) bytes)

-- how many bytes a comment to the end of its line has behind its opening
abbrev pub line_rest : List ℕ → ℕ
line_rest bytes = prefix_len is_inline bytes
