-- The table's rules of local variables and of locks do no more than what their sorts mean.
use Rattle.std.proofs.Common.{ℕ, ◌≡◌, IsTrue, List, [], ◌∷◌, Some, refl, ap, subst}
use Rattle.std.proofs.lemmas.Bool.{false≢true}
use Rattle.c_syntax.specs.declared.grammar.Class.TheVariants as class
use Rattle.c_syntax.specs.declared.head.Head.{Head}
use Rattle.c_syntax.specs.declared.head.Head.TheVariants as head
use Rattle.c_syntax.specs.declared.node.NodeKind.TheVariants as node
use Rattle.c_syntax.specs.declared.term.Term.{Term}
use Rattle.c_syntax.specs.declared.term.Term.TheVariants as term
use Rattle.c_syntax.specs.language.Heads.{behind_outside}
use Rattle.c_syntax.specs.language.Words.{Word}
use Rattle.c_syntax.specs.language.Tree.{Tree}
use Rattle.c_syntax.specs.language.Tree.Tree.{Node}
use Rattle.c_syntax.specs.language.Tree.Children.{Over}
use Rattle.c_syntax.specs.language.WordClasses.{is_name}
use Rattle.c_syntax.specs.workings.Derivation.{Opened, is_number, keep, opened_at, with_child}
use Rattle.c_syntax.specs.language.Productions.{Local, Locals, Locks, MoreLocals, MoreNames, Names, Size, kids, made_at, name_node, named_at}
use Rattle.c_syntax.proofs.CallMeaning.{Named, ReadsLocal, ReadsLocalRest, ReadsLocals, ReadsLocks, ReadsMoreLocals, ReadsMoreLocks, ReadsRight}
use Rattle.c_syntax.proofs.CallRows.{by_name, name_taken}
use Rattle.c_syntax.proofs.Effects.{Effect, Expects, Takes, Opens, Makes}
use Rattle.c_syntax.proofs.Pushing.{all_added, made-pushed}
use Rattle.c_syntax.proofs.Standing.{Stands}

-- ---- a local variable, behind its name

pub local_plain : (limit : ℕ) (next : Effect) (depth : ℕ) (at : Head) (words : List Word) (nodes : List Opened) → Makes node.LocalVar next depth at words nodes → ReadsLocalRest limit next depth at words nodes
local_plain limit next depth at words nodes goes word [] (Named.named named) stands = elim stands [ ]
local_plain limit next depth at words nodes goes word (parent ∷ outer) (Named.named named) stands = (words, named_at node.LocalVar word Over, Local.plain named, goes)

pub number-is : (word : Term) → IsTrue (is_number word) → word ≡ term.Number
number-is term.Number is = refl
number-is other fails = absurd (false≢true fails)

pub local_array : (limit : ℕ) (next : Effect) (depth : ℕ) (at : Head) (words : List Word) (nodes : List Opened)
    → Expects term.OpenBracket (Takes class.Number (Expects term.CloseBracket (Makes node.LocalArray next))) depth at words nodes → ReadsLocalRest limit next depth at words nodes
local_array limit next depth at [] nodes fails word outer named stands = absurd fails
local_array limit next depth at (first ∷ []) nodes (opens, fails) word outer named stands = absurd fails
local_array limit next depth at (first ∷ number ∷ words) nodes (opens, (is, reads)) word [] (Named.named named) stands = elim stands [ ]
local_array limit next depth at (first ∷ number ∷ words) nodes (opens, (is, reads)) word (parent ∷ outer) (Named.named named) stands =
    let After : Effect = Expects term.CloseBracket (Makes node.LocalArray next) in
    let own = keep class.Number number (keep class.Name word (opened_at word.spot)) in
    closing words (subst (λ here. After depth here words (own ∷ parent ∷ outer)) (ap behind_outside (number-is number.term is)) reads)
  where
    closing : (words : List Word) → Expects term.CloseBracket (Makes node.LocalArray next) depth head.Outside words (keep class.Number number (keep class.Name word (opened_at word.spot)) ∷ parent ∷ outer)
        → (rest : List Word) × (tree : Tree) × Local limit depth (word ∷ first ∷ number ∷ words) rest tree × next depth head.Outside rest (with_child (Some tree) parent ∷ outer)
    closing [] fails = absurd fails
    closing (last ∷ rest) (closes, goes) =
        (rest, Node node.LocalArray word.spot word.value number.value [] Over, Local.array named (Size.size opens (number-is number.term is) closes), goes)

pub local_set : (limit : ℕ) (next : Effect) (depth : ℕ) (at : Head) (words : List Word) (nodes : List Opened)
    → Expects term.Set (ReadsRight limit (Makes node.LocalSet next)) depth at words nodes → ReadsLocalRest limit next depth at words nodes
local_set limit next depth at [] nodes fails word outer named stands = absurd fails
local_set limit next depth at (equals ∷ words) nodes (sets, reads) word [] (Named.named named) stands = elim stands [ ]
local_set limit next depth at (equals ∷ words) nodes (sets, reads) word (parent ∷ outer) (Named.named named) stands =
    let value = reads Stands.stands in
    (value.0, named_at node.LocalSet word (kids (value.1 ∷ [])), Local.set named sets value.2, value.3)

-- ---- local variables

pub more_locals_none : (limit : ℕ) (next : Effect) (depth : ℕ) (at : Head) (words : List Word) (nodes : List Opened) → next depth at words nodes → ReadsMoreLocals limit next depth at words nodes
more_locals_none limit next depth at words nodes goes Stands.stands = (words, [], MoreLocals.last, goes)

-- one, from its name on
local_from_name : (limit : ℕ) (next : Effect) (depth : ℕ) (words : List Word) (own : Opened) (outer : List Opened)
    → Opens (Takes class.Name (ReadsLocalRest limit next)) depth head.Outside words (own ∷ outer)
    → (rest : List Word) × (tree : Tree) × Local limit depth words rest tree × next depth head.Outside rest (with_child (Some tree) own ∷ outer)
local_from_name limit next depth [] own outer fails = absurd fails
local_from_name limit next depth (word ∷ words) own outer taken = by_name (ReadsLocal limit next) depth word words (own ∷ outer) taken Stands.stands

pub more_locals_some : (limit : ℕ) (next : Effect) (depth : ℕ) (at : Head) (words : List Word) (nodes : List Opened)
    → Expects term.Comma (Opens (Takes class.Name (ReadsLocalRest limit (ReadsMoreLocals limit next)))) depth at words nodes → ReadsMoreLocals limit next depth at words nodes
more_locals_some limit next depth at [] nodes fails stands = absurd fails
more_locals_some limit next depth at (comma ∷ words) [] reads stands = elim stands [ ]
more_locals_some limit next depth at (comma ∷ words) (own ∷ outer) (is, taken) Stands.stands =
    let one = local_from_name limit (ReadsMoreLocals limit next) depth words own outer taken in
    let others = one.3 Stands.stands in
    (others.0, one.1 ∷ others.1, MoreLocals.further is one.2 others.2, others.3)

pub locals_all : (limit : ℕ) (next : Effect) (depth : ℕ) (at : Head) (words : List Word) (nodes : List Opened)
    → Opens (Expects term.Int (Opens (Takes class.Name (ReadsLocalRest limit (ReadsMoreLocals limit (Expects term.Semicolon (Makes node.Locals next))))))) depth at words nodes
    → ReadsLocals limit next depth at words nodes
locals_all limit next depth at [] nodes fails stands = absurd fails
locals_all limit next depth at (word ∷ words) [] reads stands = elim stands [ ]
locals_all limit next depth at (word ∷ words) (own ∷ outer) (is, taken) Stands.stands =
    let one = local_from_name limit (ReadsMoreLocals limit (Expects term.Semicolon (Makes node.Locals next))) depth words (opened_at word.spot) (own ∷ outer) taken in
    let others = one.3 Stands.stands in
    ending one.0 one.1 one.2 others.0 others.1 others.2 others.3
  where
    ending : (middle : List Word) (tree : Tree) → Local limit depth words middle tree → (rest : List Word) (trees : List Tree) → MoreLocals limit depth middle rest trees
        → Expects term.Semicolon (Makes node.Locals next) depth head.Outside rest (all_added (tree ∷ trees) (opened_at word.spot ∷ own ∷ outer))
        → (rest : List Word) × (tree : Tree) × Locals limit depth (word ∷ words) rest tree × next depth head.Outside rest (with_child (Some tree) own ∷ outer)
    ending middle tree one [] trees others fails = absurd fails
    ending middle tree one (last ∷ rest) trees others (ends, goes) = (
      rest,
      made_at node.Locals word (kids (tree ∷ trees)),
      Locals.locals is one others ends,
      subst (next depth head.Outside rest) (made-pushed node.Locals (tree ∷ trees) (opened_at word.spot) own outer) goes,
    )

-- ---- locks

pub more_locks_none : (next : Effect) (depth : ℕ) (at : Head) (words : List Word) (nodes : List Opened) → next depth at words nodes → ReadsMoreLocks next depth at words nodes
more_locks_none next depth at words nodes goes Stands.stands = (words, [], MoreNames.last, goes)

pub more_locks_some : (next : Effect) (depth : ℕ) (at : Head) (words : List Word) (nodes : List Opened)
    → Expects term.Comma (Opens (Takes class.Name (Makes node.Name (ReadsMoreLocks next)))) depth at words nodes → ReadsMoreLocks next depth at words nodes
more_locks_some next depth at [] nodes fails stands = absurd fails
more_locks_some next depth at (comma ∷ words) [] reads stands = elim stands [ ]
more_locks_some next depth at (comma ∷ []) (own ∷ outer) (is, fails) Stands.stands = absurd fails
more_locks_some next depth at (comma ∷ word ∷ words) (own ∷ outer) (is, taken) Stands.stands =
    let goes = name_taken (Makes node.Name (ReadsMoreLocks next)) depth word words (opened_at word.spot ∷ own ∷ outer) taken in
    let others = goes.1 Stands.stands in
    (others.0, name_node word ∷ others.1, MoreNames.further is goes.0 others.2, others.3)

pub locks_all : (next : Effect) (depth : ℕ) (at : Head) (words : List Word) (nodes : List Opened)
    → Opens (Expects term.LockType (Opens (Takes class.Name (Makes node.Name (ReadsMoreLocks (Expects term.Semicolon (Makes node.Locks next))))))) depth at words nodes
    → ReadsLocks next depth at words nodes
locks_all next depth at [] nodes fails stands = absurd fails
locks_all next depth at (word ∷ words) [] reads stands = elim stands [ ]
locks_all next depth at (word ∷ []) (own ∷ outer) (is, fails) Stands.stands = absurd fails
locks_all next depth at (word ∷ name ∷ words) (own ∷ outer) (is, taken) Stands.stands =
    let goes = name_taken (Makes node.Name (ReadsMoreLocks (Expects term.Semicolon (Makes node.Locks next)))) depth name words (opened_at name.spot ∷ opened_at word.spot ∷ own ∷ outer) taken in
    let others = goes.1 Stands.stands in
    ending goes.0 others.0 others.1 others.2 others.3
  where
    ending : IsTrue (is_name name.term) → (rest : List Word) (trees : List Tree) → MoreNames head.Outside words rest trees
        → Expects term.Semicolon (Makes node.Locks next) depth head.Outside rest (all_added (name_node name ∷ trees) (opened_at word.spot ∷ own ∷ outer))
        → (rest : List Word) × (tree : Tree) × Locks (word ∷ name ∷ words) rest tree × next depth head.Outside rest (with_child (Some tree) own ∷ outer)
    ending named [] trees others fails = absurd fails
    ending named (last ∷ rest) trees others (ends, goes) = (
      rest,
      made_at node.Locks word (kids (name_node name ∷ trees)),
      Locks.locks is (Names.names named others) ends,
      subst (next depth head.Outside rest) (made-pushed node.Locks (name_node name ∷ trees) (opened_at word.spot) own outer) goes,
    )
