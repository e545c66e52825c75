-- The words with which expressions and places begin outside of heads.
use Rattle.std.proofs.Common.{ℕ, ◌≡◌, ◌≢◌, ◌⊎◌, Bool, true, false, ◌||◌, IsTrue, List, [], ◌∷◌, refl, sym, ap, ◌∙◌, inl, inr}
use Rattle.std.proofs.lemmas.Bool.{false≢true}
use Rattle.c_syntax.specs.declared.head.Head.TheVariants as head
use Rattle.c_syntax.specs.declared.node.BinaryOp.{BinaryOp}
use Rattle.c_syntax.specs.declared.node.BinaryOp.TheVariants as binary
use Rattle.c_syntax.specs.declared.node.UnaryOp.{UnaryOp}
use Rattle.c_syntax.specs.declared.node.UnaryOp.TheVariants as unary_op
use Rattle.c_syntax.specs.declared.node.Getter.{Getter}
use Rattle.c_syntax.specs.declared.node.Getter.TheVariants as getter
use Rattle.c_syntax.specs.declared.term.Term.{Term}
use Rattle.c_syntax.specs.declared.term.Term.TheVariants as term
use Rattle.c_syntax.specs.language.Words.{Word}
use Rattle.c_syntax.specs.language.Tree.{Tree, Children}
use Rattle.c_syntax.specs.language.WordClasses.{is_name, is_getter}
use Rattle.c_syntax.specs.language.Productions.{Ranked, Operand, Place, IndexPart, Expression, sign_of, unary_sign}
use Rattle.c_syntax.proofs.Pushing.{Ends, NoIndex, is_end}

-- the words that begin an expression and are no names
abbrev pub leads : Term → Bool
leads term.Number = true
leads term.OpenParen = true
leads term.Minus = true
leads term.Not = true
leads term.GetThreadNum = true
leads term.GetNumThreads = true
leads term.GetMaxThreads = true
leads other = false

abbrev pub begins : Term → Bool
begins word = is_name word || leads word

-- the words behind a name that don't make it a call
abbrev pub no_paren : Term → Bool
no_paren term.OpenParen = false
no_paren other = true

abbrev pub NoParen : List Word → Type 0
NoParen [] = ⊥
NoParen (word ∷ rest) = IsTrue (no_paren word.term)

-- how the words of an expression begin
abbrev pub Begins : List Word → Type 0
Begins [] = ⊥
Begins (word ∷ words) = (IsTrue (is_name word.term) × NoParen words) ⊎ IsTrue (leads word.term)

sign-leads : (operator : UnaryOp) → IsTrue (leads (unary_sign operator))
sign-leads unary_op.Negate = refl
sign-leads unary_op.Not = refl

sign-no_paren : (operator : BinaryOp) → IsTrue (no_paren (sign_of operator))
sign-no_paren binary.Or = refl
sign-no_paren other = refl

getter-leads : (which : Getter) (word : Term) → IsTrue (is_getter which word) → IsTrue (leads word)
getter-leads getter.ThreadNum term.GetThreadNum is = refl
getter-leads getter.NumThreads term.GetNumThreads is = refl
getter-leads getter.MaxThreads term.GetMaxThreads is = refl
getter-leads which other fails = absurd (false≢true fails)

pub index-no_paren : {limit depth : ℕ} {words rest : List Word} {children : Children} → IndexPart limit depth head.Outside words rest children → NoParen rest → NoParen words
index-no_paren IndexPart.bare bare = bare
index-no_paren (IndexPart.indexed is low inner ends) bare = ap no_paren is

operand-begins : {limit depth : ℕ} {words rest : List Word} {tree : Tree} → Operand limit depth head.Outside words rest tree → NoParen rest → Begins words
operand-begins (Operand.signed operator is low inner) bare = inr (ap leads is ∙ sign-leads operator)
operand-begins (Operand.number is) bare = inr (ap leads is)
operand-begins (Operand.placed (Place.place named index)) bare = inl (named, index-no_paren index bare)
operand-begins (Operand.parenthesis is low inner ends) bare = inr (ap leads is)
operand-begins (Operand.getter {word = word} which is opens closes) bare = inr (getter-leads which word.term is)

ranked-begins : {limit rank depth : ℕ} {words rest : List Word} {tree : Tree} → Ranked limit rank depth head.Outside words rest tree → NoParen rest → Begins words
ranked-begins (Ranked.operand inner) bare = operand-begins inner bare
ranked-begins (Ranked.above low inner) bare = ranked-begins inner bare
ranked-begins (Ranked.joined operator left is right) bare = ranked-begins left (ap no_paren is ∙ sign-no_paren operator)

end-no_paren : (word : Term) → IsTrue (is_end word) → IsTrue (no_paren word)
end-no_paren term.OpenParen fails = absurd (false≢true fails)
end-no_paren other ends = refl

ends-no_paren : (rest : List Word) → Ends rest → NoParen rest
ends-no_paren [] ends = ends
ends-no_paren (word ∷ rest) ends = end-no_paren word.term ends

-- no index stands behind an expression
abbrev pub no_bracket : Term → Bool
no_bracket term.OpenBracket = false
no_bracket other = true

pub bare-apart : {word : Term} (which : Term) → word ≡ which → IsTrue (no_bracket which) → word ≢ term.OpenBracket
bare-apart which is bare same = false≢true (sym (ap no_bracket same) ∙ (ap no_bracket is ∙ bare))

end-no_bracket : (word : Term) → IsTrue (is_end word) → IsTrue (no_bracket word)
end-no_bracket term.OpenBracket fails = absurd (false≢true fails)
end-no_bracket other ends = refl

pub ends-no_index : (rest : List Word) → Ends rest → NoIndex rest
ends-no_index [] ends = ends
ends-no_index (word ∷ rest) ends = bare-apart word.term refl (end-no_bracket word.term ends)

-- with which words an expression begins
pub expression-begins : {limit depth : ℕ} {words rest : List Word} {tree : Tree} → Expression limit depth head.Outside words rest tree → Ends rest → Begins words
expression-begins {rest = rest} expression ends = ranked-begins expression (ends-no_paren rest ends)
