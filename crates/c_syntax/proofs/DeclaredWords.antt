-- What the productions of local variables and of locks derive.
use Rattle.std.proofs.Common.{ℕ, ◌≡◌, List, [], ◌∷◌, Some, refl, ap}
use Rattle.c_syntax.specs.declared.grammar.Class.TheVariants as class
use Rattle.c_syntax.specs.declared.grammar.Sort.TheVariants as sort
use Rattle.c_syntax.specs.declared.grammar.Step.{Step}
use Rattle.c_syntax.specs.declared.grammar.Step.TheVariants.{Take, Read, Open, Make}
use Rattle.c_syntax.specs.declared.head.Head.TheVariants as head
use Rattle.c_syntax.specs.declared.node.NodeKind.TheVariants as node
use Rattle.c_syntax.specs.declared.term.Term.{Term}
use Rattle.c_syntax.specs.declared.term.Term.TheVariants as term
use Rattle.c_syntax.specs.language.Words.{Word}
use Rattle.c_syntax.specs.language.Tree.{Tree}
use Rattle.c_syntax.specs.workings.Grammar.{local_rest}
use Rattle.c_syntax.specs.workings.Derivation.{Derives, Opened, opened_at}
use Rattle.c_syntax.specs.language.Productions.{Local, Locals, Locks, MoreLocals, MoreNames, Names, Size, name_node}
use Rattle.c_syntax.proofs.CallWords.{value_derives}
use Rattle.c_syntax.proofs.OutsideSteps.{expect, make, pick, read_term, read_where, take_name, take_number}
use Rattle.c_syntax.proofs.Pushing.{Ends, all_added, is_end, plus}

-- a name alone, where nothing of it follows
local_rest-end : (word : Term) → local_rest word ≡ pick (is_end word) (Some (Make node.LocalVar ∷ [])) (local_rest word)
local_rest-end term.OpenBrace = refl
local_rest-end other = refl

-- a local variable
local_derives : {limit depth : ℕ} {words rest : List Word} {tree whole : Tree} {steps : List Step} {own : Opened} {outer : List Opened} → Local limit depth words rest tree → Ends rest
    → Derives limit steps depth head.Outside rest (plus (Some tree) (own ∷ outer)) whole
    → Derives limit (Open ∷ Take class.Name ∷ Read sort.LocalRest ∷ steps) depth head.Outside words (own ∷ outer) whole
local_derives {rest = []} (Local.plain named) ends more = absurd ends
local_derives {rest = next ∷ rest} (Local.plain named) ends more =
    Derives.open_node (take_name named (read_where (is_end next.term) (Make node.LocalVar ∷ []) (local_rest-end next.term) ends (Derives.make more)))
local_derives (Local.array named (Size.size opens number closes)) ends more =
    Derives.open_node (take_name named
    (read_term term.OpenBracket opens refl (expect opens refl (take_number number (expect closes refl (Derives.make more))))))
local_derives (Local.set named sets value) ends more =
    Derives.open_node (take_name named
    (read_term term.Set sets refl (expect sets refl (value_derives value ends (Derives.make more)))))

more_locals-end : {limit depth : ℕ} {words rest : List Word} {trees : List Tree} {last : Word} → MoreLocals limit depth words (last ∷ rest) trees → last.term ≡ term.Semicolon → Ends words
more_locals-end MoreLocals.last closes = ap is_end closes
more_locals-end (MoreLocals.further is one others) closes = ap is_end is

-- further ones
more_locals_derive : {limit depth : ℕ} {words rest : List Word} {trees : List Tree} {whole : Tree} {steps : List Step} {own : Opened} {outer : List Opened} {last : Word}
    → MoreLocals limit depth words (last ∷ rest) trees → last.term ≡ term.Semicolon → Derives limit steps depth head.Outside (last ∷ rest) (all_added trees (own ∷ outer)) whole
    → Derives limit (Read sort.MoreLocals ∷ steps) depth head.Outside words (own ∷ outer) whole
more_locals_derive MoreLocals.last closes more = read_term term.Semicolon closes refl more
more_locals_derive (MoreLocals.further is one others) closes more =
    read_term term.Comma is refl (expect is refl (local_derives one (more_locals-end others closes) (more_locals_derive others closes more)))

-- the local variables of a declaration
pub locals_derive : {limit depth : ℕ} {words rest : List Word} {tree whole : Tree} {steps : List Step} {own : Opened} {outer : List Opened}
    → Locals limit depth words rest tree → Derives limit steps depth head.Outside rest (plus (Some tree) (own ∷ outer)) whole
    → Derives limit (Read sort.Locals ∷ steps) depth head.Outside words (own ∷ outer) whole
locals_derive (Locals.locals {word = word} {tree = tree} {trees = trees} is one others ends) more =
    Derives.read refl (Derives.open_node (expect is refl
    (local_derives one (more_locals-end others ends)
    (more_locals_derive others ends (expect ends refl (make node.Locals (tree ∷ trees) (opened_at word.spot) more))))))

-- further locks
more_locks_derive : {limit depth : ℕ} {words rest : List Word} {trees : List Tree} {whole : Tree} {steps : List Step} {own : Opened} {outer : List Opened} {last : Word}
    → MoreNames head.Outside words (last ∷ rest) trees → last.term ≡ term.Semicolon → Derives limit steps depth head.Outside (last ∷ rest) (all_added trees (own ∷ outer)) whole
    → Derives limit (Read sort.MoreLocks ∷ steps) depth head.Outside words (own ∷ outer) whole
more_locks_derive MoreNames.last closes more = read_term term.Semicolon closes refl more
more_locks_derive (MoreNames.further is named others) closes more =
    read_term term.Comma is refl (expect is refl (Derives.open_node (take_name named (Derives.make (more_locks_derive others closes more)))))

-- the locks of a declaration
pub locks_derive : {limit depth : ℕ} {words rest : List Word} {tree whole : Tree} {steps : List Step} {own : Opened} {outer : List Opened}
    → Locks words rest tree → Derives limit steps depth head.Outside rest (plus (Some tree) (own ∷ outer)) whole
    → Derives limit (Read sort.Locks ∷ steps) depth head.Outside words (own ∷ outer) whole
locks_derive (Locks.locks {word = word} is (Names.names {word = name} {trees = trees} named others) ends) more =
    Derives.read refl (Derives.open_node (expect is refl (Derives.open_node (take_name named (Derives.make
    (more_locks_derive others ends (expect ends refl (make node.Locks (name_node name ∷ trees) (opened_at word.spot) more))))))))
