-- How many names stand before a name in a text: fewer than bytes up to its end, since each has a byte of its own.
use Rattle.std.proofs.Common.{◌≡◌, ℕ, zero, suc, ◌+◌, ◌<◌, ◌≤◌, List, [], ◌∷◌, Ok, length, take, get_or, arith}
use Rattle.c_tokens.specs.declared.token.Token.{Token}
use Rattle.c_tokens.specs.declared.token.TokenKind.{TokenKind}
use Rattle.c_tokens.specs.declared.token.TokenKind.TheVariants as kind
use Rattle.c_tokens.specs.declared.place.Line.{Line}
use Rattle.c_tokens.specs.declared.place.Line.TheVariants as line
use Rattle.c_tokens.specs.declared.place.Place.{Place}
use Rattle.c_tokens.specs.workings.Tokens.{tokens_of}
use Rattle.c_tokens.specs.language.Places.{closing, line_with}
use Rattle.c_tokens.specs.language.Pieces.{Reads}
use Rattle.c_tokens.specs.language.Pieces.Reads.{over, passed, token, directive_end}
use Rattle.c_tokens.proofs.Law.{scan-reads, token-some}
use Rattle.c_tokens.proofs.Spans.{places_after-at}

-- how many of some tokens are names
abbrev pub one_name : TokenKind → ℕ
one_name kind.Name = 1
one_name other = 0

abbrev pub names_in : List Token → ℕ
names_in [] = 0
names_in (first ∷ tokens) = one_name first.kind + names_in tokens

one_name-few : (it : TokenKind) → one_name it ≤ 1
one_name-few kind.Name = omega arith
one_name-few other = omega arith

closing-no_name : (in_line : Line) (place : Place) (at : ℕ) (none : Token) → at < length (closing in_line place) → (get_or (closing in_line place) at none).kind ≡ kind.Name → ⊥
closing-no_name line.Fresh place zero none within same = cc
closing-no_name line.Fresh place (suc at) none within same = omega arith
closing-no_name line.Begun place zero none within same = cc
closing-no_name line.Begun place (suc at) none within same = omega arith
closing-no_name line.Directive place zero none within same = cc
closing-no_name line.Directive place (suc zero) none within same = cc
closing-no_name line.Directive place (suc (suc at)) none within same = omega arith

reads-names : {place : Place} {rest : List ℕ} {tokens : List Token} (at : ℕ) (none : Token) → Reads place rest tokens → at < length tokens → (get_or tokens at none).kind ≡ kind.Name → place.at + names_in (take at tokens) < (get_or tokens at none).end
reads-names at none (over {place}) within same = absurd (closing-no_name place.line place at none within same)
reads-names at none (passed {place} bytes is_passed more) within same = omega (arith, places_after-at bytes place, reads-names at none more within same)
reads-names zero none (token {place} {rest} it bytes is_token more) within same = omega (arith, token-some it place.line bytes rest is_token)
reads-names (suc at) none (token {place} {rest} it bytes is_token more) within same =
    let begun = record place { line = line_with it place.line } in
    omega (arith, one_name-few it, token-some it place.line bytes rest is_token, places_after-at bytes begun, reads-names at none more (omega arith) same)
reads-names zero none (directive_end in_directive more) within same = absurd (cc)
reads-names (suc at) none (directive_end in_directive more) within same = omega (arith, reads-names at none more (omega arith) same)

pub names-fewer : (text : List ℕ) (tokens : List Token) (at : ℕ) (none : Token) → tokens_of text ≡ Ok tokens → at < length tokens → (get_or tokens at none).kind ≡ kind.Name → names_in (take at tokens) < (get_or tokens at none).end
names-fewer text tokens at none whole within same = omega (arith, reads-names at none (scan-reads text tokens whole) within same)
