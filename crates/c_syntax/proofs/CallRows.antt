-- The table's rules of arguments, calls and values do no more than what their sorts mean.
use Rattle.std.proofs.Common.{ℕ, ◌≡◌, IsTrue, List, [], ◌∷◌, Some, refl, subst}
use Rattle.c_syntax.specs.declared.grammar.Class.TheVariants as class
use Rattle.c_syntax.specs.declared.head.Head.{Head}
use Rattle.c_syntax.specs.declared.head.Head.TheVariants as head
use Rattle.c_syntax.specs.declared.node.NodeKind.TheVariants as node
use Rattle.c_syntax.specs.declared.term.Term.{Term}
use Rattle.c_syntax.specs.declared.term.Term.TheVariants as term
use Rattle.c_syntax.specs.language.Heads.{behind_outside}
use Rattle.c_syntax.specs.language.Words.{Word}
use Rattle.c_syntax.specs.language.Tree.{Tree}
use Rattle.c_syntax.specs.language.WordClasses.{is_name}
use Rattle.c_syntax.specs.workings.Derivation.{Opened, keep, kept, opened_at, with_child}
use Rattle.c_syntax.specs.language.Productions.{ArgumentsPart, Call, Lock, MoreArguments, Value, kids, made_at, named_at}
use Rattle.c_syntax.proofs.CallMeaning.{BehindName, Named, ReadsAfterRightName, ReadsArgs, ReadsMoreArgs, ReadsRight}
use Rattle.c_syntax.proofs.Effects.{Effect, Expects, Takes, Opens, Makes}
use Rattle.c_syntax.proofs.ExpressionFolds.{ReadsIndex, ReadsRanked, ReadsTail, expression-behind_name, expression-read}
use Rattle.c_syntax.proofs.OutsideSteps.{name-outside, picked}
use Rattle.c_syntax.proofs.Pushing.{all_added, made-pushed}
use Rattle.c_syntax.proofs.Standing.{Stands}

-- behind a name words leave off as before it
name-behind : (word : Term) → IsTrue (is_name word) → behind_outside word ≡ head.Outside
name-behind word named = picked (is_name word) head.Outside (name-outside word) named

pub name_taken : (next : Effect) (depth : ℕ) (word : Word) (words : List Word) (nodes : List Opened) → Takes class.Name next depth head.Outside (word ∷ words) nodes
    → IsTrue (is_name word.term) × next depth head.Outside words (kept class.Name word nodes)
name_taken next depth word words nodes (named, goes) = (named, subst (λ at. next depth at words (kept class.Name word nodes)) (name-behind word.term named) goes)

-- what begins with a name does what holds where the name stands
pub by_name : (effect : Effect) (depth : ℕ) (word : Word) (words : List Word) (nodes : List Opened) → Opens (Takes class.Name (BehindName effect)) depth head.Outside (word ∷ words) nodes
    → effect depth head.Outside (word ∷ words) nodes
by_name effect depth word words nodes taken =
    let goes = name_taken (BehindName effect) depth word words (opened_at word.spot ∷ nodes) taken in
    goes.1 word nodes (Named.named goes.0)

-- ---- arguments

pub args_none : (limit : ℕ) (next : Effect) (depth : ℕ) (at : Head) (words : List Word) (nodes : List Opened) → next depth at words nodes → ReadsArgs limit next depth at words nodes
args_none limit next depth at words nodes goes Stands.stands = (words, [], ArgumentsPart.none, goes)

pub args_some : (limit : ℕ) (next : Effect) (depth : ℕ) (at : Head) (words : List Word) (nodes : List Opened) → ReadsRanked limit 0 (ReadsMoreArgs limit next) depth at words nodes
    → ReadsArgs limit next depth at words nodes
args_some limit next depth at words nodes reads Stands.stands =
    let one = reads refl in
    let others = one.3 Stands.stands in
    (others.0, one.1 ∷ others.1, ArgumentsPart.some one.2 others.2, others.3)

pub more_args_none : (limit : ℕ) (next : Effect) (depth : ℕ) (at : Head) (words : List Word) (nodes : List Opened) → next depth at words nodes → ReadsMoreArgs limit next depth at words nodes
more_args_none limit next depth at words nodes goes Stands.stands = (words, [], MoreArguments.last, goes)

pub more_args_some : (limit : ℕ) (next : Effect) (depth : ℕ) (at : Head) (words : List Word) (nodes : List Opened)
    → Expects term.Comma (ReadsRanked limit 0 (ReadsMoreArgs limit next)) depth at words nodes → ReadsMoreArgs limit next depth at words nodes
more_args_some limit next depth at [] nodes fails Stands.stands = absurd fails
more_args_some limit next depth at (word ∷ words) nodes (is, reads) Stands.stands =
    let one = reads refl in
    let others = one.3 Stands.stands in
    (others.0, one.1 ∷ others.1, MoreArguments.further is one.2 others.2, others.3)

-- ---- calls

-- a lock
abbrev pub ReadsLock : Effect → Effect
ReadsLock next = Expects term.OpenParen (Expects term.Ampersand (Opens (Takes class.Name (Makes node.Name (Expects term.CloseParen next)))))

abbrev AddsLock : Effect → ℕ → List Word → Opened → List Opened → Type 0
AddsLock next depth words own outer = (rest : List Word) × (tree : Tree) × Lock words rest tree × next depth head.Outside rest (with_child (Some tree) own ∷ outer)

pub locked : (next : Effect) (depth : ℕ) (words : List Word) (own : Opened) (outer : List Opened) → ReadsLock next depth head.Outside words (own ∷ outer) → AddsLock next depth words own outer
locked next depth [] own outer fails = absurd fails
locked next depth (first ∷ []) own outer (opens, fails) = absurd fails
locked next depth (first ∷ second ∷ []) own outer (opens, (refers, fails)) = absurd fails
locked next depth (first ∷ second ∷ word ∷ words) own outer (opens, (refers, taken)) =
    let goes = name_taken (Makes node.Name (Expects term.CloseParen next)) depth word words (opened_at word.spot ∷ own ∷ outer) taken in
    closing words goes.1 goes.0
  where
    closing : (words : List Word) → Expects term.CloseParen next depth head.Outside words (with_child (Some (named_at node.Name word (kids []))) own ∷ outer) → IsTrue (is_name word.term)
        → AddsLock next depth (first ∷ second ∷ word ∷ words) own outer
    closing [] fails named = absurd fails
    closing (last ∷ rest) (closes, goes) named = (rest, named_at node.Name word (kids []), Lock.lock opens refers named closes, goes)

-- a test of one
abbrev pub ReadsTest : Effect → Effect
ReadsTest next = Opens (Expects term.TestLock (ReadsLock (Makes node.TestLock next)))

abbrev pub AddsCall : ℕ → Effect → ℕ → List Word → Opened → List Opened → Type 0
AddsCall limit next depth words own outer = (rest : List Word) × (tree : Tree) × Call limit depth words rest tree × next depth head.Outside rest (with_child (Some tree) own ∷ outer)

pub tested : (limit : ℕ) (next : Effect) (depth : ℕ) (words : List Word) (own : Opened) (outer : List Opened) → ReadsTest next depth head.Outside words (own ∷ outer) → AddsCall limit next depth words own outer
tested limit next depth [] own outer fails = absurd fails
tested limit next depth (word ∷ words) own outer (is, reads) =
    let lock = locked (Makes node.TestLock next) depth words (opened_at word.spot) (own ∷ outer) reads in
    (lock.0, made_at node.TestLock word (kids (lock.1 ∷ [])), Call.test is lock.2, lock.3)

-- a call, behind its name
abbrev pub ReadsCall : ℕ → Effect → Effect
ReadsCall limit next = Expects term.OpenParen (ReadsArgs limit (Expects term.CloseParen (Makes node.Call next)))

pub called : (limit : ℕ) (next : Effect) (depth : ℕ) (word : Word) (words : List Word) (parent : Opened) (outer : List Opened) → IsTrue (is_name word.term)
    → ReadsCall limit next depth head.Outside words (keep class.Name word (opened_at word.spot) ∷ parent ∷ outer) → AddsCall limit next depth (word ∷ words) parent outer
called limit next depth word [] parent outer named fails = absurd fails
called limit next depth word (first ∷ words) parent outer named (opens, reads) =
    let arguments = reads Stands.stands in
    closing arguments.0 arguments.1 arguments.2 arguments.3
  where
    closing : (rest : List Word) (trees : List Tree) → ArgumentsPart limit depth words rest trees
        → Expects term.CloseParen (Makes node.Call next) depth head.Outside rest (all_added trees (keep class.Name word (opened_at word.spot) ∷ parent ∷ outer))
        → AddsCall limit next depth (word ∷ first ∷ words) parent outer
    closing [] trees arguments fails = absurd fails
    closing (last ∷ rest) trees arguments (closes, goes) = (
      rest,
      named_at node.Call word (kids trees),
      Call.call named opens arguments closes,
      subst (next depth head.Outside rest) (made-pushed node.Call trees (keep class.Name word (opened_at word.spot)) parent outer) goes,
    )

-- ---- values

-- what may follow the first operand of an expression
abbrev pub ReadsTails : ℕ → Effect → Effect
ReadsTails limit next = ReadsTail limit 5 (ReadsTail limit 4 (ReadsTail limit 3 (ReadsTail limit 2 (ReadsTail limit 1 (ReadsTail limit 0 next)))))

pub right_expression : (limit : ℕ) (next : Effect) (depth : ℕ) (at : Head) (words : List Word) (nodes : List Opened) → ReadsRanked limit 6 (ReadsTails limit next) depth at words nodes
    → ReadsRight limit next depth at words nodes
right_expression limit next depth at words [] reads stands = elim stands [ ]
right_expression limit next depth at words (own ∷ outer) reads Stands.stands =
    let whole = expression-read limit next depth head.Outside words (own ∷ outer) reads refl in
    (whole.0, whole.1, Value.expression whole.2, whole.3)

pub right_test : (limit : ℕ) (next : Effect) (depth : ℕ) (at : Head) (words : List Word) (nodes : List Opened) → ReadsTest next depth at words nodes → ReadsRight limit next depth at words nodes
right_test limit next depth at words [] reads stands = elim stands [ ]
right_test limit next depth at words (own ∷ outer) reads Stands.stands =
    let call = tested limit next depth words own outer reads in
    (call.0, call.1, Value.called call.2, call.3)

pub right_named : (limit : ℕ) (next : Effect) (depth : ℕ) (at : Head) (words : List Word) (nodes : List Opened) → Opens (Takes class.Name (ReadsAfterRightName limit next)) depth at words nodes
    → ReadsRight limit next depth at words nodes
right_named limit next depth at [] nodes fails stands = absurd fails
right_named limit next depth at (word ∷ words) nodes taken Stands.stands = by_name (ReadsRight limit next) depth word words nodes taken Stands.stands

pub right_named_call : (limit : ℕ) (next : Effect) (depth : ℕ) (at : Head) (words : List Word) (nodes : List Opened) → ReadsCall limit next depth at words nodes
    → ReadsAfterRightName limit next depth at words nodes
right_named_call limit next depth at words nodes reads word [] (Named.named named) stands = elim stands [ ]
right_named_call limit next depth at words nodes reads word (parent ∷ outer) (Named.named named) stands =
    let call = called limit next depth word words parent outer named reads in
    (call.0, call.1, Value.called call.2, call.3)

pub right_named_place : (limit : ℕ) (next : Effect) (depth : ℕ) (at : Head) (words : List Word) (nodes : List Opened) → ReadsIndex limit (Makes node.Place (ReadsTails limit next)) depth at words nodes
    → ReadsAfterRightName limit next depth at words nodes
right_named_place limit next depth at words nodes reads word [] (Named.named named) stands = elim stands [ ]
right_named_place limit next depth at words nodes reads word (parent ∷ outer) (Named.named named) stands =
    let whole = expression-behind_name limit next depth word words (parent ∷ outer) named reads refl in
    (whole.0, whole.1, Value.expression whole.2, whole.3)
