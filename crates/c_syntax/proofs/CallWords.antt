-- What the productions of arguments, locks, calls and values derive.
use Rattle.std.proofs.Common.{ℕ, ◌≡◌, List, [], ◌∷◌, ◌++◌, Some, refl, ap}
use Rattle.c_syntax.specs.declared.grammar.Class.TheVariants as class
use Rattle.c_syntax.specs.declared.grammar.Sort.TheVariants as sort
use Rattle.c_syntax.specs.declared.grammar.Step.{Step}
use Rattle.c_syntax.specs.declared.grammar.Step.TheVariants.{Expect, Take, Read, Open, Make}
use Rattle.c_syntax.specs.declared.head.Head.TheVariants as head
use Rattle.c_syntax.specs.declared.node.NodeKind.TheVariants as node
use Rattle.c_syntax.specs.declared.term.Term.TheVariants as term
use Rattle.c_syntax.specs.language.Words.{Word}
use Rattle.c_syntax.specs.language.Tree.{Tree}
use Rattle.c_syntax.specs.workings.Derivation.{Derives, Opened, keep, kept, opened_at}
use Rattle.c_syntax.specs.language.Productions.{ArgumentsPart, Call, Is, Lock, MoreArguments, Value, kids, made_at, named_at}
use Rattle.c_syntax.proofs.Expressions.{expression_derives}
use Rattle.c_syntax.proofs.FirstSteps.{args_expression, right_by_name, right_expression}
use Rattle.c_syntax.proofs.FirstWords.{expression-begins}
use Rattle.c_syntax.proofs.OutsideSteps.{expect, make, read_term, take_name}
use Rattle.c_syntax.proofs.Pushing.{Ends, all_added, is_end, plus}

-- a comma or the end follows each argument
more_arguments-end : {limit depth : ℕ} {words rest : List Word} {trees : List Tree} {last : Word} → MoreArguments limit depth words (last ∷ rest) trees → last.term ≡ term.CloseParen → Ends words
more_arguments-end MoreArguments.last closes = ap is_end closes
more_arguments-end (MoreArguments.further is expression arguments) closes = ap is_end is

-- further arguments
pub more_arguments_derive : {limit depth : ℕ} {words rest : List Word} {trees : List Tree} {whole : Tree} {steps : List Step} {own : Opened} {outer : List Opened} {last : Word}
    → MoreArguments limit depth words (last ∷ rest) trees → last.term ≡ term.CloseParen → Derives limit steps depth head.Outside (last ∷ rest) (all_added trees (own ∷ outer)) whole
    → Derives limit (Read sort.MoreArgs ∷ steps) depth head.Outside words (own ∷ outer) whole
more_arguments_derive MoreArguments.last closes more = read_term term.CloseParen closes refl more
more_arguments_derive (MoreArguments.further is expression arguments) closes more =
    read_term term.Comma is refl
    (expect is refl (expression_derives refl expression (more_arguments-end arguments closes) (more_arguments_derive arguments closes more)))

-- arguments
pub arguments_derive : {limit depth : ℕ} {words rest : List Word} {trees : List Tree} {whole : Tree} {steps : List Step} {own : Opened} {outer : List Opened} {last : Word}
    → ArgumentsPart limit depth words (last ∷ rest) trees → last.term ≡ term.CloseParen → Derives limit steps depth head.Outside (last ∷ rest) (all_added trees (own ∷ outer)) whole
    → Derives limit (Read sort.Args ∷ steps) depth head.Outside words (own ∷ outer) whole
arguments_derive ArgumentsPart.none closes more = read_term term.CloseParen closes refl more
arguments_derive {words = words} (ArgumentsPart.some expression arguments) closes more =
    let ends = more_arguments-end arguments closes in
    args_expression words (expression-begins expression ends) (expression_derives refl expression ends (more_arguments_derive arguments closes more))

-- a lock
abbrev pub lock_steps : List Step
lock_steps = Expect term.OpenParen ∷ Expect term.Ampersand ∷ Open ∷ Take class.Name ∷ Make node.Name ∷ Expect term.CloseParen ∷ []

pub lock_derives : {limit depth : ℕ} {words rest : List Word} {tree whole : Tree} {steps : List Step} {own : Opened} {outer : List Opened} → Lock words rest tree
    → Derives limit steps depth head.Outside rest (plus (Some tree) (own ∷ outer)) whole → Derives limit (lock_steps ++ steps) depth head.Outside words (own ∷ outer) whole
lock_derives (Lock.lock opens refers named closes) more =
    expect opens refl (expect refers refl (Derives.open_node (take_name named (Derives.make (expect closes refl more)))))

-- a test of a lock, where the table tells it by its first word
abbrev pub test_steps : List Step
test_steps = Open ∷ Expect term.TestLock ∷ lock_steps ++ Make node.TestLock ∷ []

pub test_derives : {limit depth : ℕ} {words rest : List Word} {word : Word} {tree whole : Tree} {steps : List Step} {own : Opened} {outer : List Opened} → Is term.TestLock word → Lock words rest tree
    → Derives limit steps depth head.Outside rest (plus (Some (made_at node.TestLock word (kids (tree ∷ [])))) (own ∷ outer)) whole
    → Derives limit (test_steps ++ steps) depth head.Outside (word ∷ words) (own ∷ outer) whole
test_derives is locked more = Derives.open_node (expect is refl (lock_derives locked (Derives.make more)))

-- a call, behind its name
abbrev pub call_steps : List Step
call_steps = Expect term.OpenParen ∷ Read sort.Args ∷ Expect term.CloseParen ∷ Make node.Call ∷ []

pub call_derives : {limit depth : ℕ} {words rest : List Word} {first last : Word} {trees : List Tree} {whole : Tree} {steps : List Step} {own : Opened} {outer : List Opened} (word : Word)
    → Is term.OpenParen first → ArgumentsPart limit depth words (last ∷ rest) trees → Is term.CloseParen last
    → Derives limit steps depth head.Outside rest (plus (Some (named_at node.Call word (kids trees))) (own ∷ outer)) whole
    → Derives limit (call_steps ++ steps) depth head.Outside (first ∷ words) (kept class.Name word (opened_at word.spot ∷ own ∷ outer)) whole
call_derives {trees = trees} word opens arguments closes more =
    expect opens refl (arguments_derive arguments closes (expect closes refl (make node.Call trees (keep class.Name word (opened_at word.spot)) more)))

-- a value
pub value_derives : {limit depth : ℕ} {words rest : List Word} {tree whole : Tree} {steps : List Step} {own : Opened} {outer : List Opened}
    → Value limit depth words rest tree → Ends rest → Derives limit steps depth head.Outside rest (plus (Some tree) (own ∷ outer)) whole
    → Derives limit (Read sort.Right ∷ steps) depth head.Outside words (own ∷ outer) whole
value_derives {words = words} (Value.expression expression) ends more = right_expression words (expression-begins expression ends) (expression_derives refl expression ends more)
value_derives (Value.called (Call.call {word = word} named opens arguments closes)) ends more =
    right_by_name named (read_term term.OpenParen opens refl (call_derives word opens arguments closes more))
value_derives (Value.called (Call.test is locked)) ends more = read_term term.TestLock is refl (test_derives is locked more)
