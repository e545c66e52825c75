-- What stands at the front of the rest of a text: a blank, a token, or a fault.
use Rattle.std.specs.Prelude.{ℕ, false, ◌+◌, ◌==◌, if◌then◌else◌, List, [], ◌∷◌, Option, Some, None, Result, Ok, Err}
use Rattle.std.specs.List.{prefix_len}
use Rattle.c_tokens.specs.declared.token.TokenKind.TheVariants as kind
use Rattle.c_tokens.specs.declared.place.Line.{Line}
use Rattle.c_tokens.specs.declared.place.Line.TheVariants as line
use Rattle.c_tokens.specs.declared.item.Flaw.TheVariants as flaw
use Rattle.c_tokens.specs.declared.item.Item.{Item}
use Rattle.c_tokens.specs.declared.item.Item.TheVariants as item
use Rattle.c_tokens.specs.language.Bytes.{is_blank, is_digit, is_inline, is_letter, newline}
use Rattle.c_tokens.specs.language.Blanks.{comment_rest, line_end_len, line_rest, slash, star}
use Rattle.c_tokens.specs.language.Words.{digits_len, has_number, name_len}
use Rattle.c_tokens.specs.language.Symbols.{symbol_len}
use Rattle.c_tokens.specs.language.Quoted.{backslash, quote, quoted_end}
use Rattle.c_tokens.specs.workings.Lines.{include_len, pragma_len}

-- a newline ends the line of a directive, and else is a blank
abbrev pub newline_item : Line → Item
newline_item line.Fresh = item.Blank 1
newline_item line.Begun = item.Blank 1
newline_item line.Directive = item.DirectiveEnd

-- a backslash before the end of a line is a blank with it
abbrev pub continued_item : Option ℕ → Item
continued_item None = item.Fault flaw.BadByte 0
continued_item (Some count) = item.Blank (count + 1)

-- the longest symbol
abbrev pub symbol_item : ℕ → Item
symbol_item count = if count == 0 then item.Fault flaw.BadByte 0 else item.Token kind.Symbol count

-- a comment of its own, which has an end
abbrev pub comment_item : Option ℕ → Item
comment_item None = item.Fault flaw.OpenComment 0
comment_item (Some count) = item.Blank (count + 2)

-- a slash: a comment to the end of the line, a comment of its own, or a symbol
abbrev pub slash_item : List ℕ → Item
slash_item [] = symbol_item 0
slash_item (first ∷ []) = symbol_item (symbol_len (first ∷ []))
slash_item (first ∷ second ∷ bytes) = if second == slash then item.Blank (line_rest bytes + 2) else if second == star then comment_item (comment_rest false bytes) else symbol_item (symbol_len (first ∷ second ∷ bytes))

abbrev pub name_item : List ℕ → Item
name_item bytes = item.Token kind.Name (name_len bytes)

abbrev pub number_item : List ℕ → Item
number_item bytes = if has_number bytes then item.Token kind.Number (digits_len bytes) else item.Fault flaw.BadNumber 0

abbrev pub text_item : Result ℕ ℕ → Item
text_item (Ok count) = item.Token kind.Text count
text_item (Err offset) = item.Fault flaw.BadByte offset

-- a line that begins with `#`: an include, the head of a directive, or another
abbrev pub head_item : List ℕ → Option ℕ → Item
head_item bytes (Some count) = item.Token kind.Pragma count
head_item bytes None = item.Token kind.OtherHash (prefix_len is_inline bytes)

abbrev pub include_item : List ℕ → Option ℕ → Item
include_item bytes (Some count) = item.Token kind.Include count
include_item bytes None = head_item bytes (pragma_len bytes)

-- a `#` counts where nothing but blanks and comments stands before it on its line, which isn't that of a directive
abbrev pub hash_item : Line → List ℕ → Item
hash_item line.Fresh bytes = include_item bytes (include_len bytes)
hash_item line.Begun bytes = item.Fault flaw.BadByte 0
hash_item line.Directive bytes = item.Fault flaw.BadByte 0

-- what stands at the front of bytes that aren't empty, in a line of which so much was read
abbrev pub item_of : Line → List ℕ → Item
item_of line [] = item.Fault flaw.BadByte 0
item_of line (byte ∷ bytes) =
    if byte == newline then newline_item line
    else if is_blank byte then item.Blank 1
    else if byte == backslash then continued_item (line_end_len bytes)
    else if byte == slash then slash_item (byte ∷ bytes)
    else if is_letter byte then name_item (byte ∷ bytes)
    else if is_digit byte then number_item (byte ∷ bytes)
    else if byte == quote then text_item (quoted_end (byte ∷ bytes))
    else if byte == 35 then hash_item line (byte ∷ bytes)
    else symbol_item (symbol_len (byte ∷ bytes))
