-- The words of tokens, one after another.
use Rattle.std.proofs.Common.{◌≡◌, ℕ, ◌+◌, ◌<◌, ◌≤◌, List, [], ◌∷◌, ◌++◌, length, take, Ok, get_or, refl, ap, ◌∙◌, arith}
use Rattle.std.proofs.lemmas.List.{take_more}
use Rattle.std.proofs.lemmas.List.Elements.{All-get_or}
use Rattle.c_tokens.specs.declared.token.Spot.{Spot}
use Rattle.c_tokens.specs.declared.token.Token.{Token}
use Rattle.c_tokens.specs.declared.token.TokenKind.{TokenKind}
use Rattle.c_tokens.specs.declared.token.TokenKind.TheVariants as token
use Rattle.c_tokens.specs.workings.Tokens.{tokens_of}
use Rattle.c_tokens.specs.language.Places.{beginning, places_after}
use Rattle.c_tokens.proofs.NameCounts.{names-fewer, names_in, one_name}
use Rattle.c_tokens.proofs.Spans.{IsSpanOf, spans, tokens-end}
use Rattle.c_syntax.specs.declared.term.Term.TheVariants as term
use Rattle.c_syntax.specs.language.Words.{Word, bytes_of, names_of, names_with, term_of, word_of, words_from, words_of}
use Rattle.c_syntax.specs.workings.WordViews.{IsTokenOf}
use Rattle.c_syntax.proofs.Numbers.{with_name-length}

names_of-append : (text : List ℕ) (names : List (List ℕ)) (tokens more : List Token) → names_of text names (tokens ++ more) ≡ names_of text (names_of text names tokens) more
unfolding names_of
names_of-append text names [] more = refl
names_of-append text names (first ∷ tokens) more = names_of-append text (names_with first.kind names (bytes_of text first)) tokens more

words_from-append : (text : List ℕ) (names : List (List ℕ)) (tokens more : List Token) → words_from text names (tokens ++ more) ≡ words_from text names tokens ++ words_from text (names_of text names tokens) more
unfolding names_of words_from
words_from-append text names [] more = refl
words_from-append text names (first ∷ tokens) more =
    let now = names_with first.kind names (bytes_of text first) in
    ap (λ (words : List Word). word_of now first.kind (bytes_of text first) first.spot ∷ words) (words_from-append text now tokens more)

names_with-length : (kind : TokenKind) (names : List (List ℕ)) (bytes : List ℕ) → length (names_with kind names bytes) ≤ length names + one_name kind
names_with-length token.Name names bytes = with_name-length names bytes
names_with-length _ names bytes = omega arith

names_of-length : (text : List ℕ) (names : List (List ℕ)) (tokens : List Token) → length (names_of text names tokens) ≤ length names + names_in tokens
unfolding names_of
names_of-length text names [] = omega arith
names_of-length text names (first ∷ tokens) =
    let bytes = bytes_of text first in
    omega (arith, names_of-length text (names_with first.kind names bytes) tokens, names_with-length first.kind names bytes)

-- one token more
pub names_of-more : (text : List ℕ) (tokens : List Token) (at : ℕ) (none : Token) → at < length tokens → let it = get_or tokens at none in names_of text [] (take (at + 1) tokens) ≡ names_with it.kind (names_of text [] (take at tokens)) (bytes_of text it)
unfolding names_of
names_of-more text tokens at none within =
    ap (names_of text []) (take_more tokens at none within) ∙ names_of-append text [] (take at tokens) (get_or tokens at none ∷ [])

pub words_of-more : (text : List ℕ) (tokens : List Token) (at : ℕ) (none : Token) → at < length tokens → let it = get_or tokens at none in words_from text [] (take (at + 1) tokens) ≡ words_from text [] (take at tokens) ++ word_of (names_with it.kind (names_of text [] (take at tokens)) (bytes_of text it)) it.kind (bytes_of text it) it.spot ∷ []
unfolding names_of words_from
words_of-more text tokens at none within =
    ap (words_from text []) (take_more tokens at none within) ∙ words_from-append text [] (take at tokens) (get_or tokens at none ∷ [])

-- the names before a name are fewer than the bytes up to its end
pub names_of-fewer : (text : List ℕ) (tokens : List Token) (at : ℕ) (none : Token) → tokens_of text ≡ Ok tokens → at < length tokens → let it = get_or tokens at none in it.kind ≡ token.Name → length (names_of text [] (take at tokens)) < it.end
names_of-fewer text tokens at none whole within same =
    omega (arith, names_of-length text [] (take at tokens), names-fewer text tokens at none whole within same)

pub token_of : (text : List ℕ) (tokens : List Token) (at : ℕ) (none : Token) → tokens_of text ≡ Ok tokens → at < length tokens → IsTokenOf text (get_or tokens at none)
token_of text tokens at none whole within =
    let is = All-get_or (IsSpanOf text) tokens at none within (spans text tokens whole) in
    record { ordered = is.ordered; inside = is.inside; small = is.small; quoted = is.quoted }

-- The last word is the end of the text, and stands there.
pub record HasEndWord (spot : Spot) (words : List Word) : Type 0 where
  pub front : List Word
  pub last : Word
  pub parts : words ≡ front ++ last ∷ []
  pub is_end : last.term ≡ term.End
  pub spot_of_end : last.spot ≡ spot

pub words_of-end : (text : List ℕ) (tokens : List Token) → tokens_of text ≡ Ok tokens → HasEndWord (places_after text beginning).spot (words_of text tokens)
unfolding words_from
words_of-end text tokens whole =
    let ended = tokens-end text tokens whole in
    let names = names_of text [] ended.front in
    let bytes = bytes_of text ended.last in
    let now = names_with ended.last.kind names bytes in
    record {
      front = words_of text ended.front;
      last = word_of now ended.last.kind bytes ended.last.spot;
      parts = ap (words_of text) ended.parts ∙ words_from-append text [] ended.front (ended.last ∷ []);
      is_end = ap (λ (kind : TokenKind). term_of kind bytes) ended.is_end;
      spot_of_end = ended.spot_of_end;
    }
