-- What the tokens of a text are to the grammar: words.
use Rattle.std.specs.Prelude.{ℕ, Bool, true, false, ◌+◌, ◌-◌, ◌==◌, ◌&&◌, if◌then◌else◌, nat_eq, List, [], ◌∷◌, ◌++◌, length, map, take, drop, codes, Option, Some, None, unwrap_or}
use Rattle.std.specs.List.{starts_with}
use Rattle.c_tokens.specs.declared.token.Spot.{Spot}
use Rattle.c_tokens.specs.declared.token.Token.{Token}
use Rattle.c_tokens.specs.declared.token.TokenKind.{TokenKind}
use Rattle.c_tokens.specs.declared.token.TokenKind.TheVariants as token
use Rattle.c_tokens.specs.language.Words.{decimal_value}
use Rattle.c_syntax.specs.declared.term.Term.{Term}
use Rattle.c_syntax.specs.declared.term.Term.TheVariants as term
use Rattle.c_syntax.specs.declared.word_table.TheConstants.{NAMES_OF_2, NAMES_OF_3, NAMES_OF_4, NAMES_OF_5, NAMES_OF_6, NAMES_OF_7, NAMES_OF_8, NAMES_OF_9, NAMES_OF_10, NAMES_OF_11, NAMES_OF_12, NAMES_OF_13, NAMES_OF_14, NAMES_OF_16, NAMES_OF_18, NAMES_OF_19, SYMBOLS}

-- A word: what it is to the grammar, its value (the number of a name, or the number that digits write), the bytes between the quotes of
-- a text, and its place
pub record Word : Type 0 where
  pub term : Term
  pub value : ℕ
  pub text : List ℕ
  pub spot : Spot

-- the same bytes
abbrev pub same_bytes : List ℕ → List ℕ → Bool
same_bytes [] [] = true
same_bytes [] (byte ∷ bytes) = false
same_bytes (byte ∷ bytes) [] = false
same_bytes (byte ∷ bytes) (other ∷ others) = byte == other && same_bytes bytes others

-- a row of a table: some bytes, and what they are to the grammar
pub record Row : Type 0 where
  pub bytes : List ℕ
  pub term : Term

abbrev pub row : List ℕ → Term → Row
row bytes term = record { bytes = bytes; term = term }

-- a row as the code has it
abbrev pub row_of : (record { now : List ℕ }) × Term → Row
row_of first = row first.0.now first.1

-- what a table has at some bytes, or else the last
abbrev pub look_up : List Row → List ℕ → Term → Term
look_up [] bytes other = other
look_up (first ∷ rows) bytes other = if same_bytes first.bytes bytes then first.term else look_up rows bytes other

-- the symbols
abbrev pub symbol_rows : List Row
symbol_rows = map row_of SYMBOLS.now

-- `|`, `^`, `~`, `?` and `.` are the symbols that no program has
abbrev pub symbol_term : List ℕ → Term
symbol_term bytes = look_up symbol_rows bytes term.OddSymbol

-- the words of the language, and the words of C, of directives and of clauses that are out of it
abbrev pub name_rows : List Row
name_rows = map row_of
    (NAMES_OF_2.now ++ NAMES_OF_3.now ++ NAMES_OF_4.now ++ NAMES_OF_5.now ++ NAMES_OF_6.now ++ NAMES_OF_7.now ++ NAMES_OF_8.now ++ NAMES_OF_9.now
    ++ NAMES_OF_10.now ++ NAMES_OF_11.now ++ NAMES_OF_12.now ++ NAMES_OF_13.now ++ NAMES_OF_14.now ++ NAMES_OF_16.now ++ NAMES_OF_18.now ++ NAMES_OF_19.now)

-- a name that begins with `omp_` is out of the language, unless it is a word of it
abbrev pub other_name : List ℕ → Term
other_name bytes = if starts_with nat_eq bytes (codes "omp_") then term.OddName else term.Name

abbrev pub name_term : List ℕ → Term
name_term bytes = look_up name_rows bytes (other_name bytes)

abbrev pub term_of : TokenKind → List ℕ → Term
term_of token.Name bytes = name_term bytes
term_of token.Number bytes = term.Number
term_of token.Text bytes = term.Text
term_of token.Symbol bytes = symbol_term bytes
term_of token.Include bytes = term.Include
term_of token.Pragma bytes = term.Pragma
term_of token.OtherHash bytes = term.OddLine
term_of token.PragmaEnd bytes = term.PragmaEnd
term_of token.End bytes = term.End

-- the bytes of a token
abbrev pub bytes_of : List ℕ → Token → List ℕ
bytes_of text token = take (token.end - token.start) (drop token.start text)

-- Names have numbers, from 1 in the order in which they first appear. All tokens that are names count, words of the language too.
abbrev pub number_from : ℕ → List (List ℕ) → List ℕ → Option ℕ
number_from number [] name = None
number_from number (first ∷ names) name = if same_bytes first name then Some number else number_from (number + 1) names name

abbrev pub number_of : List (List ℕ) → List ℕ → Option ℕ
number_of names name = number_from 1 names name

-- the names with one more
abbrev pub added : Option ℕ → List (List ℕ) → List ℕ → List (List ℕ)
added None names name = names ++ name ∷ []
added (Some number) names name = names

abbrev pub with_name : List (List ℕ) → List ℕ → List (List ℕ)
with_name names name = added (number_of names name) names name

-- the names up to a token, and with it
abbrev pub names_with : TokenKind → List (List ℕ) → List ℕ → List (List ℕ)
names_with token.Name names bytes = with_name names bytes
names_with _ names bytes = names

-- the value of a token, where the names up to it are these
abbrev pub value_of : TokenKind → List (List ℕ) → List ℕ → ℕ
value_of token.Name names bytes = unwrap_or (number_of names bytes) 0
value_of token.Number names bytes = decimal_value bytes
value_of _ names bytes = 0

-- the bytes between the quotes of a text
abbrev pub text_of : TokenKind → List ℕ → List ℕ
text_of token.Text bytes = take (length bytes - 2) (drop 1 bytes)
text_of _ bytes = []

abbrev pub word_of : List (List ℕ) → TokenKind → List ℕ → Spot → Word
word_of names kind bytes spot = record { term = term_of kind bytes; value = value_of kind names bytes; text = text_of kind bytes; spot = spot }

-- the words of tokens, where these names came before
unfoldable pub words_from : List ℕ → List (List ℕ) → List Token → List Word
words_from text names [] = []
words_from text names (token ∷ tokens) =
    let bytes = bytes_of text token in
    let now = names_with token.kind names bytes in
    word_of now token.kind bytes token.spot ∷ words_from text now tokens

unfoldable pub names_of : List ℕ → List (List ℕ) → List Token → List (List ℕ)
names_of text names [] = names
names_of text names (token ∷ tokens) = names_of text (names_with token.kind names (bytes_of text token)) tokens

abbrev pub words_of : List ℕ → List Token → List Word
words_of text tokens = words_from text [] tokens

-- the number of the name `main`, or 0
abbrev pub main_of : List ℕ → List Token → ℕ
main_of text tokens = unwrap_or (number_of (names_of text [] tokens) (codes "main")) 0
