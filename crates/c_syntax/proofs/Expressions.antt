-- What the productions of expressions and places spell, the table derives. The productions join operators from the left, the table reads a chain and then
-- its tail: so what is joined is derived before the tail that goes on behind it.
use Rattle.std.proofs.Common.{ℕ, zero, suc, ◌≡◌, ◌≢◌, ◌<◌, ◌+◌, ◌-◌, ◌==◌, ◌&&◌, if◌then◌else◌, IsTrue, Bool, true, false, List, [], ◌∷◌, ◌++◌, Option, Some, None, refl, sym, ap, subst, ◌∙◌, arith}
use Rattle.std.proofs.lemmas.Bool.{false≢true}
use Rattle.c_syntax.specs.declared.grammar.Class.TheVariants as class
use Rattle.c_syntax.specs.declared.grammar.Step.{Step}
use Rattle.c_syntax.specs.declared.grammar.Step.TheVariants.{Expect, Deepen, Rise, Take, InHead, Read, Open, Make, Join}
use Rattle.c_syntax.specs.declared.grammar.Sort.{Sort}
use Rattle.c_syntax.specs.declared.grammar.Sort.TheVariants as sort
use Rattle.c_syntax.specs.declared.head.Head.{Head}
use Rattle.c_syntax.specs.declared.head.Head.TheVariants as head
use Rattle.c_syntax.specs.declared.node.BinaryOp.{BinaryOp}
use Rattle.c_syntax.specs.declared.node.BinaryOp.TheVariants as binary
use Rattle.c_syntax.specs.declared.node.UnaryOp.{UnaryOp}
use Rattle.c_syntax.specs.declared.node.UnaryOp.TheVariants as unary
use Rattle.c_syntax.specs.declared.node.Getter.{Getter}
use Rattle.c_syntax.specs.declared.node.Getter.TheVariants as getter
use Rattle.c_syntax.specs.declared.node.NodeKind.TheVariants as kind
use Rattle.c_syntax.specs.declared.term.Term.{Term}
use Rattle.c_syntax.specs.declared.term.Term.TheVariants as term
use Rattle.c_syntax.specs.language.Heads.{behind}
use Rattle.c_syntax.specs.language.Words.{Word}
use Rattle.c_syntax.specs.language.Tree.{Tree, Children}
use Rattle.c_syntax.specs.workings.Grammar.{choice}
use Rattle.c_syntax.specs.language.WordClasses.{is_name, is_word, is_outside, is_name_at, is_getter}
use Rattle.c_syntax.specs.workings.Derivation.{Derives, Opened, opened_at, with_child, is_number}
use Rattle.c_syntax.proofs.Steps.{open-back, take-back}
use Rattle.c_syntax.specs.language.Productions.{Expression, IndexPart, Is, Operand, Place, Ranked, rank_of, sign_of, unary_sign}
use Rattle.c_syntax.proofs.Pushing.{is_steady, is_end, Ends, NoIndex, plus}

-- ---- what may follow

-- the sort of what is of a rank
abbrev pub chain_of : ℕ → Sort
chain_of zero = sort.Expr
chain_of (suc zero) = sort.AndChain
chain_of (suc (suc zero)) = sort.EqualChain
chain_of (suc (suc (suc zero))) = sort.RelChain
chain_of (suc (suc (suc (suc zero)))) = sort.SumChain
chain_of (suc (suc (suc (suc (suc zero))))) = sort.ProdChain
chain_of other = sort.Unary

-- the sort of its tail, and behind an operand that of an index
abbrev pub tail_of : ℕ → Sort
tail_of zero = sort.OrTail
tail_of (suc zero) = sort.AndTail
tail_of (suc (suc zero)) = sort.EqualTail
tail_of (suc (suc (suc zero))) = sort.RelTail
tail_of (suc (suc (suc (suc zero)))) = sort.SumTail
tail_of (suc (suc (suc (suc (suc zero))))) = sort.ProdTail
tail_of other = sort.IndexPart

-- a chain goes on by its tail; an operand has none
abbrev pub with_tail : ℕ → List Step → List Step
with_tail zero steps = Read sort.OrTail ∷ steps
with_tail (suc zero) steps = Read sort.AndTail ∷ steps
with_tail (suc (suc zero)) steps = Read sort.EqualTail ∷ steps
with_tail (suc (suc (suc zero))) steps = Read sort.RelTail ∷ steps
with_tail (suc (suc (suc (suc zero)))) steps = Read sort.SumTail ∷ steps
with_tail (suc (suc (suc (suc (suc zero))))) steps = Read sort.ProdTail ∷ steps
with_tail other steps = steps

-- no step is chosen
abbrev is_empty : Option (List Step) → Bool
is_empty (Some []) = true
is_empty other = false

-- the other
abbrev negated : Bool → Bool
negated true = false
negated false = true

-- of both the first
both-left : (first second : Bool) → IsTrue (first && second) → IsTrue first
both-left true second holds = refl
both-left false second fails = fails

-- .. and the second
both-right : (first second : Bool) → IsTrue (first && second) → IsTrue second
both-right true second holds = holds
both-right false second fails = absurd (false≢true fails)

-- a parenthesis is opened
abbrev is_paren : Term → Bool
is_paren term.OpenParen = true
is_paren other = false

-- neither an index nor parentheses begin with the word
abbrev pub is_bare : Term → Bool
is_bare word = negated (is_paren word) && is_empty (choice sort.IndexPart word)

-- none of so many tails from this rank on goes on at the word
abbrev pub is_silent_from : ℕ → ℕ → Term → Bool
is_silent_from zero rank word = is_bare word
is_silent_from (suc count) rank word = is_empty (choice (tail_of rank) word) && is_silent_from count (rank + 1) word

-- what is of this rank goes on at the word by no operator of a greater one
abbrev pub is_quiet : ℕ → Term → Bool
is_quiet rank word = is_silent_from (5 - rank) (rank + 1) word

abbrev pub Quiet : ℕ → List Word → Type 0
Quiet rank [] = ⊥
Quiet rank (word ∷ words) = IsTrue (is_quiet rank word.term)

-- what is empty is no step
empty-same : (found : Option (List Step)) → IsTrue (is_empty found) → found ≡ Some []
empty-same (Some []) holds = refl
empty-same (Some (step ∷ steps)) fails = absurd (false≢true fails)
empty-same None fails = absurd (false≢true fails)

-- a tail that doesn't go on reads nothing
silent-reads : {limit depth : ℕ} {at : Head} {what : Sort} {word : Word} {words : List Word} {nodes : List Opened} {whole : Tree} {steps : List Step}
    → IsTrue (is_empty (choice what word.term)) → Derives limit steps depth at (word ∷ words) nodes whole → Derives limit (Read what ∷ steps) depth at (word ∷ words) nodes whole
silent-reads {what = what} {word = word} silent more = Derives.read (empty-same (choice what word.term) silent) more

-- at an end of expressions no tail goes on
end-quiet : (word : Term) → IsTrue (is_end word) → IsTrue (is_empty (choice sort.OrTail word) && is_quiet 0 word)
end-quiet term.CloseParen end = refl
end-quiet term.CloseBracket end = refl
end-quiet term.Semicolon end = refl
end-quiet term.Comma end = refl
end-quiet other fails = absurd (false≢true fails)

-- at an operator no tail of a greater rank goes on
operator-quiet : (operator : BinaryOp) → IsTrue (is_quiet (rank_of operator) (sign_of operator))
operator-quiet binary.Or = refl
operator-quiet other = refl

-- where what is of a rank is over, what is of the next one is too
above-over : {limit depth : ℕ} {at : Head} {words : List Word} {nodes : List Opened} {whole : Tree} {steps : List Step} → (rank : ℕ) → rank < 6 → Quiet rank words
    → Derives limit steps depth at words nodes whole → Derives limit (with_tail (rank + 1) steps) depth at words nodes whole × Quiet (rank + 1) words
above-over {words = []} rank low quiet more = elim quiet [ ]
above-over {words = word ∷ words} zero low quiet more = (silent-reads (both-left (is_empty (choice sort.AndTail word.term)) (is_quiet 1 word.term) quiet) more, both-right (is_empty (choice sort.AndTail word.term)) (is_quiet 1 word.term) quiet)
above-over {words = word ∷ words} (suc zero) low quiet more = (silent-reads (both-left (is_empty (choice sort.EqualTail word.term)) (is_quiet 2 word.term) quiet) more, both-right (is_empty (choice sort.EqualTail word.term)) (is_quiet 2 word.term) quiet)
above-over {words = word ∷ words} (suc (suc zero)) low quiet more = (silent-reads (both-left (is_empty (choice sort.RelTail word.term)) (is_quiet 3 word.term) quiet) more, both-right (is_empty (choice sort.RelTail word.term)) (is_quiet 3 word.term) quiet)
above-over {words = word ∷ words} (suc (suc (suc zero))) low quiet more = (silent-reads (both-left (is_empty (choice sort.SumTail word.term)) (is_quiet 4 word.term) quiet) more, both-right (is_empty (choice sort.SumTail word.term)) (is_quiet 4 word.term) quiet)
above-over {words = word ∷ words} (suc (suc (suc (suc zero)))) low quiet more = (silent-reads (both-left (is_empty (choice sort.ProdTail word.term)) (is_quiet 5 word.term) quiet) more, both-right (is_empty (choice sort.ProdTail word.term)) (is_quiet 5 word.term) quiet)
above-over {words = word ∷ words} (suc (suc (suc (suc (suc zero))))) low quiet more = (more, quiet)
above-over {words = word ∷ words} (suc (suc (suc (suc (suc (suc rank)))))) low quiet more = absurd (omega arith)

-- a chain is read as the chain of the next rank, whatever the word is
chained : {limit depth : ℕ} {at : Head} {what first : Sort} {chosen steps : List Step} {words : List Word} {nodes : List Opened} {whole : Tree}
    → ((word : Term) → choice what word ≡ Some (Read first ∷ chosen)) → Derives limit (Read first ∷ (chosen ++ steps)) depth at words nodes whole → Derives limit (Read what ∷ steps) depth at words nodes whole
chained {words = []} same reading = elim reading [ ]
chained {words = word ∷ words} same reading = Derives.read (same word.term) reading

-- so it is for each rank
chain-reads : {limit depth : ℕ} {at : Head} {steps : List Step} {words : List Word} {nodes : List Opened} {whole : Tree} → (rank : ℕ) → rank < 6
    → Derives limit (Read (chain_of (rank + 1)) ∷ with_tail rank steps) depth at words nodes whole → Derives limit (Read (chain_of rank) ∷ steps) depth at words nodes whole
chain-reads zero low reading = chained (λ word. refl) reading
chain-reads (suc zero) low reading = chained (λ word. refl) reading
chain-reads (suc (suc zero)) low reading = chained (λ word. refl) reading
chain-reads (suc (suc (suc zero))) low reading = chained (λ word. refl) reading
chain-reads (suc (suc (suc (suc zero)))) low reading = chained (λ word. refl) reading
chain-reads (suc (suc (suc (suc (suc zero))))) low reading = chained (λ word. refl) reading
chain-reads (suc (suc (suc (suc (suc (suc rank)))))) low reading = absurd (omega arith)

-- a tail goes on by an operator of its rank
operator-reads : {limit depth : ℕ} {at : Head} {word : Word} {words : List Word} {nodes : List Opened} {whole : Tree} → (steps : List Step) → (operator : BinaryOp) → Is (sign_of operator) word
    → Derives limit (Expect (sign_of operator) ∷ Read (chain_of (rank_of operator + 1)) ∷ Join (kind.Binary operator) ∷ with_tail (rank_of operator) steps) depth at (word ∷ words) nodes whole
    → Derives limit (with_tail (rank_of operator) steps) depth at (word ∷ words) nodes whole
operator-reads steps binary.Or is reading = Derives.read (ap (choice sort.OrTail) is) reading
operator-reads steps binary.And is reading = Derives.read (ap (choice sort.AndTail) is) reading
operator-reads steps binary.Equal is reading = Derives.read (ap (choice sort.EqualTail) is) reading
operator-reads steps binary.NotEqual is reading = Derives.read (ap (choice sort.EqualTail) is) reading
operator-reads steps binary.Less is reading = Derives.read (ap (choice sort.RelTail) is) reading
operator-reads steps binary.LessEqual is reading = Derives.read (ap (choice sort.RelTail) is) reading
operator-reads steps binary.Greater is reading = Derives.read (ap (choice sort.RelTail) is) reading
operator-reads steps binary.GreaterEqual is reading = Derives.read (ap (choice sort.RelTail) is) reading
operator-reads steps binary.Add is reading = Derives.read (ap (choice sort.SumTail) is) reading
operator-reads steps binary.Subtract is reading = Derives.read (ap (choice sort.SumTail) is) reading
operator-reads steps binary.Multiply is reading = Derives.read (ap (choice sort.ProdTail) is) reading
operator-reads steps binary.Divide is reading = Derives.read (ap (choice sort.ProdTail) is) reading
operator-reads steps binary.Remainder is reading = Derives.read (ap (choice sort.ProdTail) is) reading

-- operators have ranks below that of operands
pub rank-low : (operator : BinaryOp) → rank_of operator < 6
rank-low binary.Or = omega arith
rank-low other = omega arith

-- ---- heads

-- words that leave a steady head as it is
abbrev pub is_inner : Term → Bool
is_inner term.OpenParen = false
is_inner term.CloseParen = false
is_inner term.Pragma = false
is_inner other = true

-- words of an expression leave a steady head as it is
pub stays : (here : Head) (word : Term) → IsTrue (is_steady here) → IsTrue (is_inner word) → behind here word ≡ here
stays head.Outside term.Pragma steady fails = absurd (false≢true fails)
stays head.Outside other steady inner = refl
stays (head.Inside count) term.OpenParen steady fails = absurd (false≢true fails)
stays (head.Inside count) term.CloseParen steady fails = absurd (false≢true fails)
stays (head.Inside count) other steady inner = refl
stays head.Directive word fails inner = absurd (false≢true fails)
stays head.Bare word fails inner = absurd (false≢true fails)
stays head.Clause word fails inner = absurd (false≢true fails)
stays head.Word word fails inner = absurd (false≢true fails)
stays head.Schedule word fails inner = absurd (false≢true fails)
stays head.Kind word fails inner = absurd (false≢true fails)

-- no operator is a parenthesis
pub sign-inner : (operator : BinaryOp) → IsTrue (is_inner (sign_of operator))
sign-inner binary.Or = refl
sign-inner other = refl

-- .. nor is a sign
pub unary-inner : (operator : UnaryOp) → IsTrue (is_inner (unary_sign operator))
unary-inner unary.Negate = refl
unary-inner unary.Not = refl

-- a name is no parenthesis
pub name-inner : (at : Head) (word : Term) → IsTrue (is_name_at at word) → IsTrue (is_inner word)
name-inner at word is = by (is_outside at) word is
  where
    by : (outside : Bool) (word : Term) → IsTrue (if outside then is_name word else is_word word) → IsTrue (is_inner word)
    by true term.OpenParen fails = absurd (false≢true fails)
    by true term.CloseParen fails = absurd (false≢true fails)
    by true term.Pragma fails = absurd (false≢true fails)
    by false term.OpenParen fails = absurd (false≢true fails)
    by false term.CloseParen fails = absurd (false≢true fails)
    by false term.Pragma fails = absurd (false≢true fails)
    by outside other is = refl

-- what stays where a word leaves the head as it is
at-stays : {limit depth : ℕ} {here : Head} {words : List Word} {nodes : List Opened} {whole : Tree} {steps : List Step} (word : Word) → IsTrue (is_steady here) → IsTrue (is_inner word.term)
    → Derives limit steps depth here words nodes whole → Derives limit steps depth (behind here word.term) words nodes whole
at-stays {limit} {depth} {here} {words} {nodes} {whole} {steps} word steady inner more = subst (λ at. Derives limit steps depth at words nodes whole) (sym (stays here word.term steady inner)) more

-- a head inside a parenthesis, and the one behind it
pub record IsAround (here inside : Head) : Type 0 where
  pub opened : behind here term.OpenParen ≡ inside
  pub steady : IsTrue (is_steady inside)
  pub closed : behind inside term.CloseParen ≡ here
  pub outside : is_outside inside ≡ is_outside here

-- where the words leave off behind an opening parenthesis
pub inside_of : Head → Head
inside_of (head.Inside count) = head.Inside (suc count)
inside_of other = other

-- an opening parenthesis and its closing one lead back to a steady head
pub around : (here : Head) → IsTrue (is_steady here) → IsAround here (inside_of here)
unfolding inside_of
around head.Outside steady = record { opened = refl; steady = refl; closed = refl; outside = refl }
around (head.Inside zero) fails = absurd (false≢true fails)
around (head.Inside (suc count)) steady = record { opened = ap head.Inside (omega arith); steady = refl; closed = left count; outside = refl }
  where
    left : (count : ℕ) → behind (head.Inside (suc (suc count))) term.CloseParen ≡ head.Inside (suc count)
    left count = by (suc (suc count) == 1) refl
      where
        by : (test : Bool) → (suc (suc count) == 1) ≡ test → (if test then head.Clause else head.Inside (suc (suc count) - 1)) ≡ head.Inside (suc count)
        by true same = absurd (grind arith)
        by false other = ap head.Inside (omega arith)
around head.Directive fails = absurd (false≢true fails)
around head.Bare fails = absurd (false≢true fails)
around head.Clause fails = absurd (false≢true fails)
around head.Word fails = absurd (false≢true fails)
around head.Schedule fails = absurd (false≢true fails)
around head.Kind fails = absurd (false≢true fails)

-- ---- operands

-- a part that counts for the depth is over
risen : {limit depth : ℕ} {here : Head} {words : List Word} {nodes : List Opened} {whole : Tree} {steps : List Step}
    → Derives limit steps depth here words nodes whole → Derives limit (Rise ∷ steps) (depth + 1) here words nodes whole
risen {limit} {depth} {here} {words} {nodes} {whole} {steps} more = Derives.rise (subst (λ level. Derives limit steps level here words nodes whole) (back depth) more)
  where
    back : (depth : ℕ) → depth ≡ depth + 1 - 1
    back depth = omega arith

-- an operand begins with a sign
sign-reads : {limit depth : ℕ} {here : Head} {word : Word} {words : List Word} {nodes : List Opened} {whole : Tree} (steps : List Step) → (operator : UnaryOp) → Is (unary_sign operator) word
    → Derives limit (Open ∷ Deepen (unary_sign operator) ∷ Read sort.Unary ∷ Make (kind.Unary operator) ∷ Rise ∷ steps) depth here (word ∷ words) nodes whole
    → Derives limit (Read sort.Unary ∷ steps) depth here (word ∷ words) nodes whole
sign-reads steps unary.Negate is reading = Derives.read (ap (choice sort.Unary) is) reading
sign-reads steps unary.Not is reading = Derives.read (ap (choice sort.Unary) is) reading

-- an operand begins with the name of a routine
getter-choice : (which : Getter) (word : Term) → IsTrue (is_getter which word) → choice sort.Unary word ≡ Some (Open ∷ Take (class.Routine which) ∷ Read (sort.AfterGetter which) ∷ [])
getter-choice getter.ThreadNum term.GetThreadNum is = refl
getter-choice getter.NumThreads term.GetNumThreads is = refl
getter-choice getter.MaxThreads term.GetMaxThreads is = refl
getter-choice which other fails = absurd (false≢true fails)

-- such a name is no parenthesis
pub getter-inner : (which : Getter) (word : Term) → IsTrue (is_getter which word) → IsTrue (is_inner word)
getter-inner getter.ThreadNum term.GetThreadNum is = refl
getter-inner getter.NumThreads term.GetNumThreads is = refl
getter-inner getter.MaxThreads term.GetMaxThreads is = refl
getter-inner which other fails = absurd (false≢true fails)

-- the steps of a place
abbrev pub place_steps : List Step
place_steps = Open ∷ Take class.Name ∷ Read sort.IndexPart ∷ Make kind.Place ∷ []

-- a name begins an operand as the name of a place, or in a head as the name of a routine
data BeginsPlace (at : Head) : Term → Type 0 where
  named : {word : Term} → choice sort.Unary word ≡ Some place_steps → BeginsPlace at word
  routine : {word : Term} → (which : Getter) → IsTrue (is_getter which word) → is_outside at ≡ false → BeginsPlace at word

-- each name begins a place
begins : (at : Head) (word : Term) → IsTrue (is_name_at at word) → BeginsPlace at word
begins at word is = by (is_outside at) refl word is
  where
    by : (outside : Bool) → is_outside at ≡ outside → (word : Term) → IsTrue (if outside then is_name word else is_word word) → BeginsPlace at word
    by true so term.Minus fails = absurd (false≢true fails)
    by false so term.Minus fails = absurd (false≢true fails)
    by true so term.Not fails = absurd (false≢true fails)
    by false so term.Not fails = absurd (false≢true fails)
    by true so term.Number fails = absurd (false≢true fails)
    by false so term.Number fails = absurd (false≢true fails)
    by true so term.OpenParen fails = absurd (false≢true fails)
    by false so term.OpenParen fails = absurd (false≢true fails)
    by true so term.GetThreadNum fails = absurd (false≢true fails)
    by false so term.GetThreadNum is = BeginsPlace.routine getter.ThreadNum refl so
    by true so term.GetNumThreads fails = absurd (false≢true fails)
    by false so term.GetNumThreads is = BeginsPlace.routine getter.NumThreads refl so
    by true so term.GetMaxThreads fails = absurd (false≢true fails)
    by false so term.GetMaxThreads is = BeginsPlace.routine getter.MaxThreads refl so
    by outside so other is = BeginsPlace.named refl

-- no parenthesis is next
abbrev NoParen : List Word → Type 0
NoParen [] = ⊥
NoParen (word ∷ words) = is_paren word.term ≡ false

-- behind the name of a routine without parentheses a place goes on
behind-getter : (which : Getter) (word : Term) → is_paren word ≡ false → choice (sort.AfterGetter which) word ≡ Some (InHead ∷ Read sort.IndexPart ∷ Make kind.Place ∷ [])
behind-getter which term.OpenParen fails = absurd (false≢true (sym fails))
behind-getter which other is = refl

-- a place is read as an operand, also where its name is the name of a routine
place-reads : {limit depth : ℕ} {here : Head} {word : Word} {words : List Word} {nodes : List Opened} {whole : Tree} {steps : List Step} → IsTrue (is_steady here) → BeginsPlace here word.term → NoParen words
    → Derives limit (Open ∷ Take class.Name ∷ Read sort.IndexPart ∷ Make kind.Place ∷ steps) depth here (word ∷ words) nodes whole
    → Derives limit (Read sort.Unary ∷ steps) depth here (word ∷ words) nodes whole
place-reads steady (BeginsPlace.named same) bare reading = Derives.read same reading
place-reads {words = []} steady (BeginsPlace.routine which is inside) bare reading = elim bare [ ]
place-reads {here = here} {word = word} {words = next ∷ words} steady (BeginsPlace.routine which is inside) bare reading =
    Derives.read (getter-choice which word.term is)
    (Derives.open_node (Derives.take is (Derives.read (behind-getter which next.term bare) (Derives.in_head (ap is_outside (stays here word.term steady (getter-inner which word.term is)) ∙ inside) (take-back (open-back reading)).1))))

-- a derivation goes on at the same head
moved : {limit depth : ℕ} {here there : Head} {words : List Word} {nodes : List Opened} {whole : Tree} {steps : List Step} → here ≡ there
    → Derives limit steps depth there words nodes whole → Derives limit steps depth here words nodes whole
moved {limit} {depth} {here} {there} {words} {nodes} {whole} {steps} same more = subst (λ at. Derives limit steps depth at words nodes whole) (sym same) more

-- no index is next
abbrev Plain : List Word → Type 0
Plain [] = ⊥
Plain (word ∷ words) = IsTrue (is_empty (choice sort.IndexPart word.term))

-- where an operand is over no index is next
quiet-plain : (words : List Word) → Quiet 6 words → Plain words
quiet-plain [] quiet = quiet
quiet-plain (word ∷ words) quiet = both-right (negated (is_paren word.term)) (is_empty (choice sort.IndexPart word.term)) quiet

-- .. and no parenthesis
quiet-no-paren : (words : List Word) → Quiet 6 words → NoParen words
quiet-no-paren [] quiet = quiet
quiet-no-paren (word ∷ words) quiet = unnegated (is_paren word.term) (both-left (negated (is_paren word.term)) (is_empty (choice sort.IndexPart word.term)) quiet)
  where
    unnegated : (test : Bool) → IsTrue (negated test) → test ≡ false
    unnegated true fails = absurd (false≢true fails)
    unnegated false holds = refl

-- behind the name of a place no parenthesis is next
index-no-paren : {limit depth : ℕ} {at : Head} {words rest : List Word} {children : Children} → IndexPart limit depth at words rest children → Quiet 6 rest → NoParen words
index-no-paren {rest = rest} IndexPart.bare quiet = quiet-no-paren rest quiet
index-no-paren (IndexPart.indexed opens low inner closes) quiet = ap is_paren opens

-- no index is read
plain-reads : {limit depth : ℕ} {at : Head} {words : List Word} {nodes : List Opened} {whole : Tree} {steps : List Step} → Plain words
    → Derives limit steps depth at words nodes whole → Derives limit (Read sort.IndexPart ∷ steps) depth at words nodes whole
plain-reads {words = []} plain more = elim plain [ ]
plain-reads {words = word ∷ words} plain more = silent-reads plain more

-- what is a name in one head is a name in the other
name-here : (here at : Head) (word : Term) → is_outside here ≡ is_outside at → IsTrue (is_name_at at word) → IsTrue (is_name_at here word)
name-here here at word same is = subst (λ outside. IsTrue (if outside then is_name word else is_word word)) (sym same) is

-- a place is read as an operand
place-operand : {limit depth : ℕ} {at here : Head} {words rest : List Word} {tree whole : Tree} {nodes : List Opened} {steps : List Step}
    → IsTrue (is_steady here) → is_outside here ≡ is_outside at → Place limit depth at words rest tree → Quiet 6 rest
    → Derives limit (Open ∷ Take class.Name ∷ Read sort.IndexPart ∷ Make kind.Place ∷ steps) depth here words nodes whole → Derives limit (Read sort.Unary ∷ steps) depth here words nodes whole
place-operand {at = at} {here = here} steady same (Place.place {word = word} is index) quiet reading = place-reads steady (begins here word.term (name-here here at word.term same is)) (index-no-paren index quiet) reading

-- at the end of an expression its tail reads nothing
ended : {limit depth : ℕ} {at : Head} {word : Word} {words : List Word} {nodes : List Opened} {whole : Tree} {steps : List Step} → IsTrue (is_end word.term)
    → Derives limit steps depth at (word ∷ words) nodes whole → Derives limit (Read sort.OrTail ∷ steps) depth at (word ∷ words) nodes whole
ended {word = word} end more = silent-reads (both-left (is_empty (choice sort.OrTail word.term)) (is_quiet 0 word.term) (end-quiet word.term end)) more

-- where an expression is over each part of it is
quiet-end : (word : Term) → IsTrue (is_end word) → IsTrue (is_quiet 0 word)
quiet-end word end = both-right (is_empty (choice sort.OrTail word)) (is_quiet 0 word) (end-quiet word end)

-- what holds of a word that this one is
of-word : (test : Term → Bool) (word : Term) (which : Term) → word ≡ which → IsTrue (test which) → IsTrue (test word)
of-word test word which is holds = subst (λ one. IsTrue (test one)) (sym is) holds

mutual
  -- what is of a rank
  ranked-reads : {limit rank depth : ℕ} {at here : Head} {words rest : List Word} {tree whole : Tree} {steps : List Step} {node : Opened} {outer : List Opened}
      → IsTrue (is_steady here) → is_outside here ≡ is_outside at → Ranked limit rank depth at words rest tree → Quiet rank rest
      → Derives limit (with_tail rank steps) depth here rest (with_child (Some tree) node ∷ outer) whole → Derives limit (Read (chain_of rank) ∷ steps) depth here words (node ∷ outer) whole
  ranked-reads steady same (Ranked.operand operand) quiet more = operand-reads steady same operand quiet more
  ranked-reads steady same (Ranked.above {rank = rank} low ranked) quiet more =
      let over = above-over rank low quiet more in
      chain-reads rank low (ranked-reads steady same ranked over.1 over.0)
  ranked-reads {here = here} {steps = steps} {node = node} steady same (Ranked.joined {word = word} {left = first} operator left is right) quiet more =
      let over = above-over (rank_of operator) (rank-low operator) quiet (Derives.join more) in
      ranked-reads {node = node} steady same left (of-word (is_quiet (rank_of operator)) word.term (sign_of operator) is (operator-quiet operator))
      (operator-reads steps operator is
      (Derives.expect is (at-stays {here = here} word steady (of-word is_inner word.term (sign_of operator) is (sign-inner operator))
      (ranked-reads {node = with_child (Some first) node} steady same right over.1 over.0))))

  -- an operand
  operand-reads : {limit depth : ℕ} {at here : Head} {words rest : List Word} {tree whole : Tree} {steps : List Step} {node : Opened} {outer : List Opened}
      → IsTrue (is_steady here) → is_outside here ≡ is_outside at → Operand limit depth at words rest tree → Quiet 6 rest
      → Derives limit steps depth here rest (with_child (Some tree) node ∷ outer) whole → Derives limit (Read sort.Unary ∷ steps) depth here words (node ∷ outer) whole
  operand-reads {here = here} {steps = steps} steady same (Operand.signed {word = word} operator is low inner) quiet more =
      sign-reads steps operator is
      (Derives.open_node (Derives.deepen is low (at-stays {here = here} word steady (of-word is_inner word.term (unary_sign operator) is (unary-inner operator))
      (operand-reads {node = opened_at word.spot} steady same inner quiet (Derives.make (risen more))))))
  operand-reads {here = here} steady same (Operand.number {word = word} is) quiet more =
      Derives.read (ap (choice sort.Unary) is)
      (Derives.open_node (Derives.take (ap is_number is) (at-stays {here = here} word steady (of-word is_inner word.term term.Number is refl) (Derives.make more))))
  operand-reads {rest = rest} steady same (Operand.placed spot) quiet more = place-operand steady same spot quiet (place-reads-steps steady same spot (quiet-plain rest quiet) more)
  operand-reads {here = here} steady same (Operand.parenthesis {word = word} {last = last} opens low inner closes) quiet more =
      let within = around here steady in
      Derives.read (ap (choice sort.Unary) opens)
      (Derives.open_node (Derives.deepen opens low (moved (ap (behind here) opens ∙ within.opened)
      (ranked-reads {node = opened_at word.spot} within.steady (within.outside ∙ same) inner (quiet-end last.term (of-word is_end last.term term.CloseParen closes refl))
      (ended (of-word is_end last.term term.CloseParen closes refl)
      (Derives.expect closes (moved (ap (behind (inside_of here)) closes ∙ within.closed) (Derives.make (risen more)))))))))
  operand-reads {here = here} steady same (Operand.getter {word = word} which is opens closes) quiet more =
      let within = around here steady in
      Derives.read (getter-choice which word.term is)
      (Derives.open_node (Derives.take is (at-stays {here = here} word steady (getter-inner which word.term is)
      (Derives.read (ap (choice (sort.AfterGetter which)) opens)
      (Derives.expect opens (moved (ap (behind here) opens ∙ within.opened)
      (Derives.expect closes (moved (ap (behind (inside_of here)) closes ∙ within.closed) (Derives.make more)))))))))

  -- the steps of a place, whatever they are read for
  place-reads-steps : {limit depth : ℕ} {at here : Head} {words rest : List Word} {tree whole : Tree} {steps : List Step} {node : Opened} {outer : List Opened}
      → IsTrue (is_steady here) → is_outside here ≡ is_outside at → Place limit depth at words rest tree → Plain rest
      → Derives limit steps depth here rest (with_child (Some tree) node ∷ outer) whole
      → Derives limit (Open ∷ Take class.Name ∷ Read sort.IndexPart ∷ Make kind.Place ∷ steps) depth here words (node ∷ outer) whole
  place-reads-steps {at = at} {here = here} steady same (Place.place {word = word} is IndexPart.bare) plain more =
      let named = name-here here at word.term same is in
      Derives.open_node (Derives.take named (at-stays {here = here} word steady (name-inner here word.term named) (plain-reads plain (Derives.make more))))
  place-reads-steps {at = at} {here = here} steady same (Place.place {word = word} is (IndexPart.indexed {word = first} {last = last} opens low inner closes)) plain more =
      let named = name-here here at word.term same is in
      Derives.open_node (Derives.take named (at-stays {here = here} word steady (name-inner here word.term named)
      (Derives.read (ap (choice sort.IndexPart) opens)
      (Derives.deepen opens low (at-stays {here = here} first steady (of-word is_inner first.term term.OpenBracket opens refl)
      (ranked-reads {node = record (opened_at word.spot) { name = word.value }} steady same inner (quiet-end last.term (of-word is_end last.term term.CloseBracket closes refl))
      (ended (of-word is_end last.term term.CloseBracket closes refl)
      (Derives.expect closes (at-stays {here = here} last steady (of-word is_inner last.term term.CloseBracket closes refl) (risen (Derives.make more)))))))))))

-- ---- for those above

-- what is an expression is read as one
pub expression_derives : {limit depth : ℕ} {at : Head} {words rest : List Word} {tree whole : Tree} {steps : List Step} {node : Opened} {outer : List Opened}
    → IsTrue (is_steady at) → Expression limit depth at words rest tree → Ends rest → Derives limit steps depth at rest (plus (Some tree) (node ∷ outer)) whole
    → Derives limit (Read sort.Expr ∷ steps) depth at words (node ∷ outer) whole
expression_derives {rest = []} steady expression ends more = elim ends [ ]
expression_derives {rest = word ∷ rest} steady expression ends more = ranked-reads steady refl expression (quiet-end word.term ends) (ended ends more)

-- what is a place is read as one
pub place_derives : {limit depth : ℕ} {at : Head} {words rest : List Word} {tree whole : Tree} {steps : List Step} {node : Opened} {outer : List Opened}
    → IsTrue (is_steady at) → Place limit depth at words rest tree → NoIndex rest → Derives limit steps depth at rest (plus (Some tree) (node ∷ outer)) whole
    → Derives limit (Read sort.Place ∷ steps) depth at words (node ∷ outer) whole
place_derives {words = []} steady spot bare more = elim spot [ ]
place_derives {words = word ∷ words} {rest = rest} steady spot bare more = Derives.read refl (place-reads-steps steady refl spot (plain rest bare) more)
  where
    no-index : (word : Term) → (word ≢ term.OpenBracket) → IsTrue (is_empty (choice sort.IndexPart word))
    no-index term.OpenBracket fails = absurd (fails refl)
    no-index other bare = refl

    plain : (rest : List Word) → NoIndex rest → Plain rest
    plain [] bare = bare
    plain (next ∷ rest) bare = no-index next.term bare
