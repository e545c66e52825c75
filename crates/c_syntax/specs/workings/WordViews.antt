-- The words of the code, and what they are.
use Rattle.std.specs.Prelude.{ℕ, ◌≡◌, ◌+◌, ◌-◌, ◌<◌, ◌≤◌, List, length, take, drop}
use Rattle.c_tokens.specs.declared.token.Token.{Token}
use Rattle.c_tokens.specs.declared.token.TokenKind.TheVariants as token
use Rattle.c_tokens.specs.language.Words.{decimal_value, greatest}
use Rattle.c_syntax.specs.declared.word.Word as code
use Rattle.c_syntax.specs.declared.names.Names.{Names}
use Rattle.c_syntax.specs.workings.Names.{AreNames}
use Rattle.c_syntax.specs.language.Words.{Word, bytes_of}

-- the bytes of a text from a start up to an end
abbrev pub span : List ℕ → ℕ → ℕ → List ℕ
span text start end = take (end - start) (drop start text)

-- a word of the code is this word of a text
abbrev pub word_view : List ℕ → code.Word → Word
word_view text word = record { term = word.term; value = word.value; text = span text word.start word.end; spot = word.spot }

-- the span of a word lies in a text of so many bytes
abbrev pub IsWithin : ℕ → code.Word → Type 0
IsWithin count word = (word.start ≤ word.end) × (word.end ≤ count)

-- a token of a text: its span lies in the text, a number is small, and a text has two quotes
pub record IsTokenOf (text : List ℕ) (it : Token) : Type 0 where
  pub ordered : it.start ≤ it.end
  pub inside : it.end ≤ length text
  pub small : it.kind ≡ token.Number → decimal_value (bytes_of text it) ≤ greatest
  pub quoted : it.kind ≡ token.Text → it.start + 2 ≤ it.end

-- there are fewer names than this
abbrev pub AreFewer : ℕ → Names → Type 0
AreFewer count names = (before : List (List ℕ)) × AreNames before names × (length before < count)
