-- The tokens of a text, in order, or its first fault.
use Rattle.std.specs.Prelude.{ℕ, suc, zero, ◌+◌, ◌-◌, ◌≤◌, List, [], ◌∷◌, ◌++◌, Result, Ok, Err}
use Rattle.c_tokens.specs.declared.token.Token.{Token}
use Rattle.c_tokens.specs.declared.token.TokenKind.TheVariants as kind
use Rattle.c_tokens.specs.declared.token.TokenFault.{TokenFault}
use Rattle.c_tokens.specs.declared.place.Line.{Line}
use Rattle.c_tokens.specs.declared.place.Line.TheVariants as line
use Rattle.c_tokens.specs.declared.place.Place.{Place}
use Rattle.c_tokens.specs.declared.item.Item.{Item}
use Rattle.c_tokens.specs.declared.item.Item.TheVariants as item
use Rattle.c_tokens.specs.workings.Items.{item_of}
use Rattle.c_tokens.specs.language.Places.{beginning, closing, fault_at, line_with, place_after, token_at}

-- neither number of a spot is greater than the bytes before it, and one
pub record Bounded (place : Place) : Type 0 where
  pub line : place.spot.line ≤ place.at + 1
  pub column : place.spot.column ≤ place.at + 1

-- the line once an item has begun in it
abbrev pub line_at : Item → Line → Line
line_at (item.Blank count) old = old
line_at (item.Token kind count) old = line_with kind old
line_at item.DirectiveEnd old = line.Fresh
line_at (item.Fault flaw offset) old = old

-- how many bytes an item has
abbrev pub item_len : Item → ℕ
item_len (item.Blank count) = count
item_len (item.Token kind count) = count
item_len item.DirectiveEnd = 1
item_len (item.Fault flaw offset) = 1

-- an item has a byte at least, and lies in so many bytes
abbrev pub Fits : Item → ℕ → Type 0
Fits (item.Blank count) whole = (1 ≤ count) × (count ≤ whole)
Fits (item.Token kind count) whole = (1 ≤ count) × (count ≤ whole)
Fits item.DirectiveEnd whole = 1 ≤ whole
Fits (item.Fault flaw offset) whole = offset ≤ whole

-- tokens in front of those of the rest
abbrev pub with_front : List Token → Result (List Token) TokenFault → Result (List Token) TokenFault
with_front front (Ok tokens) = Ok (front ++ tokens)
with_front front (Err fault) = Err fault

-- the token that an item is, if it is one
abbrev pub front_of : Item → Place → List Token
front_of (item.Blank count) place = []
front_of (item.Token kind count) place = token_at kind place count ∷ []
front_of item.DirectiveEnd place = token_at kind.PragmaEnd place 0 ∷ []
front_of (item.Fault flaw offset) place = []

-- an item at a place, before what the rest has
abbrev pub found : Item → Place → Result (List Token) TokenFault → Result (List Token) TokenFault
found (item.Fault flaw offset) place rest = Err (fault_at flaw place offset)
found item place rest = with_front (front_of item place) rest

-- the place where an item has begun
abbrev pub place_in : Item → Place → Place
place_in item place = record place { line = line_at item place.line }

-- The tokens from a place on, where the first bytes belong to the item before, as many as `pending`.
unfoldable pub scan : List ℕ → ℕ → Place → Result (List Token) TokenFault
scan [] pending place = Ok (closing place.line place)
scan (byte ∷ bytes) (suc pending) place = scan bytes pending (place_after byte place)
scan (byte ∷ bytes) zero place =
    let item = item_of place.line (byte ∷ bytes) in
    found item place (scan bytes (item_len item - 1) (place_after byte (place_in item place)))

-- the tokens of a text
abbrev pub tokens_of : List ℕ → Result (List Token) TokenFault
tokens_of text = scan text 0 beginning
