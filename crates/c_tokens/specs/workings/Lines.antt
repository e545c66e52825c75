-- Lines that begin with `#`.
use Rattle.std.specs.Prelude.{ℕ, ◌+◌, ◌-◌, ◌==◌, if◌then◌else◌, List, [], ◌∷◌, Option, Some, None, length, codes}
use Rattle.c_tokens.specs.language.Bytes.{after, begins, is_gap, is_word, newline, past}
use Rattle.c_tokens.specs.language.Blanks.{further, one_more, return, slash, star}

-- What is read of a line's tail: blanks; a slash that begins a comment; a comment to the line's end; a comment of its own, and
-- a star in it; a carriage return
pub data Tail : Type 0 where
  Gaps : Tail
  Slash : Tail
  Line : Tail
  Inside : Tail
  Starred : Tail
  Return : Tail

-- How many bytes a tail has up to its line's end: it is blanks and comments, and a comment may reach over lines. None where it
-- has anything else, or a comment in it is open.
abbrev pub tail_len : Tail → List ℕ → Option ℕ
tail_len Gaps [] = Some 0
tail_len Gaps (byte ∷ bytes) = if is_gap byte then one_more (tail_len Gaps bytes) else if byte == newline then Some 0 else if byte == return then tail_len Return bytes else if byte == slash then one_more (tail_len Slash bytes) else None
tail_len Slash [] = None
tail_len Slash (byte ∷ bytes) = if byte == slash then one_more (tail_len Line bytes) else if byte == star then one_more (tail_len Inside bytes) else None
tail_len Line [] = Some 0
tail_len Line (byte ∷ bytes) = if byte == newline then Some 0 else one_more (tail_len Line bytes)
tail_len Inside [] = None
tail_len Inside (byte ∷ bytes) = if byte == star then one_more (tail_len Starred bytes) else one_more (tail_len Inside bytes)
tail_len Starred [] = None
tail_len Starred (byte ∷ bytes) = if byte == slash then one_more (tail_len Gaps bytes) else if byte == star then one_more (tail_len Starred bytes) else one_more (tail_len Inside bytes)
tail_len Return [] = None
tail_len Return (byte ∷ bytes) = if byte == newline then Some 0 else None

-- what follows a word behind any blanks on its line
abbrev pub next_word : List ℕ → List ℕ → Option (List ℕ)
next_word word bytes = after word (past is_gap bytes)

-- the first that there is
abbrev pub either : Option (List ℕ) → Option (List ℕ) → Option (List ℕ)
either None second = second
either (Some rest) second = Some rest

-- what follows the name of a file that may be included
abbrev pub file_rest : Option (List ℕ) → Option (List ℕ)
file_rest None = None
file_rest (Some bytes) = either (next_word (codes "<omp.h>") bytes) (next_word (codes "<stdio.h>") bytes)

-- what follows `include` and its file behind a `#`
abbrev pub include_rest : List ℕ → Option (List ℕ)
include_rest bytes = file_rest (next_word (codes "include") bytes)

-- a word ends where no letter, digit or `_` follows it
abbrev pub ended : Option (List ℕ) → Option (List ℕ)
ended None = None
ended (Some rest) = if begins is_word rest then None else Some rest

-- what follows `omp` behind at least one blank
abbrev pub omp_rest : Option (List ℕ) → Option (List ℕ)
omp_rest None = None
omp_rest (Some bytes) = if begins is_gap bytes then ended (next_word (codes "omp") bytes) else None

-- what follows `pragma omp` behind a `#`
abbrev pub pragma_rest : List ℕ → Option (List ℕ)
pragma_rest bytes = omp_rest (next_word (codes "pragma") bytes)

-- how many bytes of a whole stand before its rest, and before the end of the rest's line
abbrev pub before : ℕ → Option (List ℕ) → Option ℕ
before whole None = None
before whole (Some rest) = Some (whole - length rest)

abbrev pub before_end : ℕ → Option (List ℕ) → Option ℕ
before_end whole None = None
before_end whole (Some rest) = further (whole - length rest) (tail_len Gaps rest)

-- how many bytes an include of the library, or the head of a directive, has at the front, where the first byte is the `#`
abbrev pub include_len : List ℕ → Option ℕ
include_len [] = None
include_len (hash ∷ bytes) = before_end (length bytes + 1) (include_rest bytes)

abbrev pub pragma_len : List ℕ → Option ℕ
pragma_len [] = None
pragma_len (hash ∷ bytes) = before (length bytes + 1) (pragma_rest bytes)
