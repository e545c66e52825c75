-- The spots of the words of a text: no later word stands where a word with bytes stands.
use Rattle.std.proofs.Common.{◌≡◌, ◌≢◌, ◌⊎◌, ℕ, Bool, true, false, IsTrue, List, [], ◌∷◌, Ok, refl, sym, ◌∙◌, inl, inr, subst}
use Rattle.std.specs.Prelude.{All}
use Rattle.std.proofs.lemmas.Bool.{false≢true}
use Rattle.std.proofs.lemmas.List.Elements.{All-cons, All-head, All-nil, All-tail, All-weaker}
use Rattle.c_tokens.specs.declared.token.Spot.{Spot}
use Rattle.c_tokens.specs.declared.token.Token.{Token}
use Rattle.c_tokens.specs.declared.token.TokenKind.{TokenKind}
use Rattle.c_tokens.specs.declared.token.TokenKind.TheVariants as token
use Rattle.c_tokens.specs.workings.Tokens.{tokens_of}
use Rattle.c_tokens.proofs.Spots.{tokens-own}
use Rattle.c_tokens.proofs.Spots as of_tokens
use Rattle.c_syntax.specs.declared.term.Term.{Term}
use Rattle.c_syntax.specs.declared.term.Term.TheVariants as term
use Rattle.c_syntax.specs.declared.node.Getter.{Getter}
use Rattle.c_syntax.specs.declared.node.Getter.TheVariants as getter
use Rattle.c_syntax.specs.declared.head.Head.{Head}
use Rattle.c_syntax.specs.declared.head.Head.TheVariants as head
use Rattle.c_syntax.specs.language.Words.{Word, bytes_of, names_with, term_of, words_from, words_of}
use Rattle.c_syntax.specs.language.WordClasses.{is_getter, is_name, is_name_at, is_word}

-- all words but the ends of directives and of the text
abbrev pub has_bytes : Term → Bool
has_bytes term.PragmaEnd = false
has_bytes term.End = false
has_bytes other = true

abbrev pub HaveOwnSpots : List Word → Type 0
HaveOwnSpots [] = Unit {0}
HaveOwnSpots (first ∷ rest) = All (λ other. IsTrue (has_bytes first.term) → first.spot ≢ other.spot) rest × HaveOwnSpots rest

kind-bytes : (kind : TokenKind) (bytes : List ℕ) → IsTrue (has_bytes (term_of kind bytes)) → IsTrue (of_tokens.has_bytes kind)
kind-bytes token.PragmaEnd bytes fails = absurd (false≢true fails)
kind-bytes token.End bytes fails = absurd (false≢true fails)
kind-bytes other bytes holds = refl

-- what holds of the spots of tokens holds of those of their words
spots-words : (P : Spot → Type 0) (text : List ℕ) (names : List (List ℕ)) (tokens : List Token) → All (λ it. P it.spot) tokens → All (λ word. P word.spot) (words_from text names tokens)
unfolding words_from
spots-words P text names [] all = All-nil (λ word. P word.spot)
spots-words P text names (first ∷ tokens) all =
    let now = names_with first.kind names (bytes_of text first) in
    All-cons (λ word. P word.spot) _ (words_from text now tokens) (All-head (λ it. P it.spot) first tokens all) (spots-words P text now tokens (All-tail (λ it. P it.spot) first tokens all))

words-own-from : (text : List ℕ) (names : List (List ℕ)) (tokens : List Token) → of_tokens.HaveOwnSpots tokens → HaveOwnSpots (words_from text names tokens)
unfolding words_from
words-own-from text names [] own = tt
words-own-from text names (first ∷ tokens) (apart, own) =
    let bytes = bytes_of text first in
    let now = names_with first.kind names bytes in
    let P : Spot → Type 0 = λ spot. IsTrue (of_tokens.has_bytes first.kind) → first.spot ≢ spot in
    let Q : Word → Type 0 = λ other. IsTrue (has_bytes (term_of first.kind bytes)) → first.spot ≢ other.spot in
    (All-weaker (λ word. P word.spot) Q (λ word differs full. differs (kind-bytes first.kind bytes full)) (words_from text now tokens) (spots-words P text now tokens apart), words-own-from text now tokens own)

pub words-own : (text : List ℕ) (tokens : List Token) → tokens_of text ≡ Ok tokens → HaveOwnSpots (words_of text tokens)
words-own text tokens whole = words-own-from text [] tokens (tokens-own text tokens whole)

-- a word of a list
abbrev pub IsIn : Word → List Word → Type 0
IsIn word [] = ⊥
IsIn word (first ∷ rest) = (word ≡ first) ⊎ IsIn word rest

pub all-in : (P : Word → Type 0) (words : List Word) (word : Word) → All P words → IsIn word words → P word
all-in P [] word all is = absurd is
all-in P (first ∷ rest) word all (inl here) = subst P (sym here) (All-head P first rest all)
all-in P (first ∷ rest) word all (inr there) = all-in P rest word (All-tail P first rest all) there

pub all-themselves : (words : List Word) → All (λ word. IsIn word words) words
all-themselves [] = All-nil (λ word. IsIn word [])
all-themselves (first ∷ rest) =
    let P : Word → Type 0 = λ word. IsIn word (first ∷ rest) in
    All-cons P first rest (inl refl) (All-weaker (λ word. IsIn word rest) P (λ word is. inr is) rest (all-themselves rest))

-- words with bytes that stand at one spot are the same
pub same-word : (words : List Word) → HaveOwnSpots words → (one other : Word) → IsIn one words → IsIn other words → IsTrue (has_bytes one.term) → IsTrue (has_bytes other.term) → one.spot ≡ other.spot → one ≡ other
same-word [] own one other is too full also same = absurd is
same-word (first ∷ rest) own one other (inl here) (inl there) full also same = here ∙ sym there
same-word (first ∷ rest) (apart, own) one other (inl here) (inr there) full also same =
    let differs = all-in (λ word. IsTrue (has_bytes first.term) → first.spot ≢ word.spot) rest other apart there in
    absurd (differs (subst (λ word. IsTrue (has_bytes word.term)) here full) (subst (λ word. word.spot ≡ other.spot) here same))
same-word (first ∷ rest) (apart, own) one other (inr here) (inl there) full also same =
    let differs = all-in (λ word. IsTrue (has_bytes first.term) → first.spot ≢ word.spot) rest one apart here in
    absurd (differs (subst (λ word. IsTrue (has_bytes word.term)) there also) (subst (λ word. word.spot ≡ one.spot) there (sym same)))
same-word (first ∷ rest) (apart, own) one other (inr here) (inr there) full also same = same-word rest own one other here there full also same

-- names and routines have bytes
word-bytes : (word : Term) → IsTrue (is_word word) → IsTrue (has_bytes word)
word-bytes term.PragmaEnd fails = absurd (false≢true fails)
word-bytes term.End fails = absurd (false≢true fails)
word-bytes other holds = refl

name-bytes : (word : Term) → IsTrue (is_name word) → IsTrue (has_bytes word)
name-bytes term.PragmaEnd fails = absurd (false≢true fails)
name-bytes term.End fails = absurd (false≢true fails)
name-bytes other holds = refl

pub name_at-bytes : (at : Head) (word : Term) → IsTrue (is_name_at at word) → IsTrue (has_bytes word)
name_at-bytes head.Outside word holds = name-bytes word holds
name_at-bytes other word holds = word-bytes word holds

pub getter-bytes : (which : Getter) (word : Term) → IsTrue (is_getter which word) → IsTrue (has_bytes word)
getter-bytes getter.ThreadNum term.PragmaEnd fails = absurd (false≢true fails)
getter-bytes getter.NumThreads term.PragmaEnd fails = absurd (false≢true fails)
getter-bytes getter.MaxThreads term.PragmaEnd fails = absurd (false≢true fails)
getter-bytes getter.ThreadNum term.End fails = absurd (false≢true fails)
getter-bytes getter.NumThreads term.End fails = absurd (false≢true fails)
getter-bytes getter.MaxThreads term.End fails = absurd (false≢true fails)
getter-bytes which other holds = refl
