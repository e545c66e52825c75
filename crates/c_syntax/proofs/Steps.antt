-- What each step says of the words that it reads: a derivation whose first step is known, undone by that step.
use Rattle.std.proofs.Common.{ℕ, ◌≡◌, ◌<◌, ◌+◌, ◌-◌, false, List, [], ◌∷◌, ◌++◌, Some, IsTrue, subst, sym, ◌∙◌}
use Rattle.c_syntax.specs.declared.node.NodeKind.{NodeKind}
use Rattle.c_syntax.specs.declared.term.Term.{Term}
use Rattle.c_syntax.specs.declared.grammar.Class.{Class}
use Rattle.c_syntax.specs.declared.grammar.Sort.{Sort}
use Rattle.c_syntax.specs.declared.grammar.Step.{Step}
use Rattle.c_syntax.specs.declared.grammar.Step.TheVariants.{Expect, Deepen, Rise, Take, InHead, Read, Open, Make, Join, Wrap, Skip}
use Rattle.c_syntax.specs.declared.head.Head.{Head}
use Rattle.c_syntax.specs.language.Heads.{behind}
use Rattle.c_syntax.specs.language.Words.{Word}
use Rattle.c_syntax.specs.language.Tree.{Tree}
use Rattle.c_syntax.specs.workings.Grammar.{choice}
use Rattle.c_syntax.specs.language.WordClasses.{is_outside}
use Rattle.c_syntax.specs.workings.Derivation.{Derives, Opened, fits, kept, made, joined, wrapped, skipped, opened_at, result_of}

pub over-back : {limit depth : ℕ} {at : Head} {nodes : List Opened} {tree : Tree} → Derives limit [] depth at [] nodes tree → result_of nodes ≡ tree
over-back (Derives.over same) = same

-- where no step is left no word can be read
pub none-left : {limit depth : ℕ} {at : Head} {word : Word} {words : List Word} {nodes : List Opened} {tree : Tree} → Derives limit [] depth at (word ∷ words) nodes tree → ⊥
none-left reading = elim reading [ ]

pub expect-back : {limit depth : ℕ} {at : Head} {steps : List Step} {word : Word} {words : List Word} {nodes : List Opened} {tree : Tree} {term : Term} → Derives limit (Expect term ∷ steps) depth at (word ∷ words) nodes tree → (word.term ≡ term) × Derives limit steps depth (behind at word.term) words nodes tree
expect-back (Derives.expect same rest) = (same, rest)

pub deepen-back : {limit depth : ℕ} {at : Head} {steps : List Step} {word : Word} {words : List Word} {nodes : List Opened} {tree : Tree} {term : Term} → Derives limit (Deepen term ∷ steps) depth at (word ∷ words) nodes tree → (word.term ≡ term) × (depth < limit) × Derives limit steps (depth + 1) (behind at word.term) words nodes tree
deepen-back (Derives.deepen same low rest) = (same, low, rest)

pub take-back : {limit depth : ℕ} {at : Head} {steps : List Step} {word : Word} {words : List Word} {nodes : List Opened} {tree : Tree} {which : Class} → Derives limit (Take which ∷ steps) depth at (word ∷ words) nodes tree → IsTrue (fits at which word.term) × Derives limit steps depth (behind at word.term) words (kept which word nodes) tree
take-back (Derives.take fit rest) = (fit, rest)

pub rise-back : {limit depth : ℕ} {at : Head} {steps : List Step} {words : List Word} {nodes : List Opened} {tree : Tree} → Derives limit (Rise ∷ steps) depth at words nodes tree → Derives limit steps (depth - 1) at words nodes tree
rise-back (Derives.rise rest) = rest

pub in_head-back : {limit depth : ℕ} {at : Head} {steps : List Step} {words : List Word} {nodes : List Opened} {tree : Tree} → Derives limit (InHead ∷ steps) depth at words nodes tree → (is_outside at ≡ false) × Derives limit steps depth at words nodes tree
in_head-back (Derives.in_head inside rest) = (inside, rest)

pub read-back : {limit depth : ℕ} {at : Head} {steps : List Step} {word : Word} {words : List Word} {nodes : List Opened} {tree : Tree} {what : Sort} → Derives limit (Read what ∷ steps) depth at (word ∷ words) nodes tree → (chosen : List Step) × (choice what word.term ≡ Some chosen) × Derives limit (chosen ++ steps) depth at (word ∷ words) nodes tree
read-back (Derives.read {chosen = chosen} same rest) = (chosen, same, rest)

pub open-back : {limit depth : ℕ} {at : Head} {steps : List Step} {word : Word} {words : List Word} {nodes : List Opened} {tree : Tree} → Derives limit (Open ∷ steps) depth at (word ∷ words) nodes tree → Derives limit steps depth at (word ∷ words) (opened_at word.spot ∷ nodes) tree
open-back (Derives.open_node rest) = rest

pub make-back : {limit depth : ℕ} {at : Head} {steps : List Step} {words : List Word} {nodes : List Opened} {tree : Tree} {kind : NodeKind} → Derives limit (Make kind ∷ steps) depth at words nodes tree → Derives limit steps depth at words (made kind nodes) tree
make-back (Derives.make rest) = rest

pub join-back : {limit depth : ℕ} {at : Head} {steps : List Step} {words : List Word} {nodes : List Opened} {tree : Tree} {kind : NodeKind} → Derives limit (Join kind ∷ steps) depth at words nodes tree → Derives limit steps depth at words (joined kind nodes) tree
join-back (Derives.join rest) = rest

pub wrap-back : {limit depth : ℕ} {at : Head} {steps : List Step} {words : List Word} {nodes : List Opened} {tree : Tree} {kind : NodeKind} → Derives limit (Wrap kind ∷ steps) depth at words nodes tree → Derives limit steps depth at words (wrapped kind nodes) tree
wrap-back (Derives.wrap rest) = rest

pub skip-back : {limit depth : ℕ} {at : Head} {steps : List Step} {words : List Word} {nodes : List Opened} {tree : Tree} → Derives limit (Skip ∷ steps) depth at words nodes tree → Derives limit steps depth at words (skipped nodes) tree
skip-back (Derives.skip rest) = rest

pub some-one : {first second : List Step} → Some first ≡ Some second → first ≡ second
some-one same = cc

-- a sort is read by the one choice that there is
pub read-as : {limit depth : ℕ} {at : Head} {steps chosen : List Step} {word : Word} {words : List Word} {nodes : List Opened} {tree : Tree} {what : Sort} → choice what word.term ≡ Some chosen → Derives limit (Read what ∷ steps) depth at (word ∷ words) nodes tree → Derives limit (chosen ++ steps) depth at (word ∷ words) nodes tree
read-as {limit} {depth} {at} {steps} {chosen} {word} {words} {nodes} {tree} {what} same reading =
    let back = read-back reading in
    let one : back.0 ≡ chosen = some-one (sym back.1 ∙ same) in
    subst (λ first. Derives limit (first ++ steps) depth at (word ∷ words) nodes tree) one back.2
