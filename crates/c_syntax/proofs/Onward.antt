-- Steps that read words of which the term is known: how a derivation goes on over them.
use Rattle.std.proofs.Common.{ℕ, ◌≡◌, ◌<◌, ◌+◌, Bool, List, ◌∷◌, ◌++◌, Some, IsTrue, ap, subst, sym, ◌∙◌}
use Rattle.c_syntax.specs.declared.term.Term.{Term}
use Rattle.c_syntax.specs.declared.grammar.Class.{Class}
use Rattle.c_syntax.specs.declared.grammar.Sort.{Sort}
use Rattle.c_syntax.specs.declared.grammar.Step.{Step}
use Rattle.c_syntax.specs.declared.grammar.Step.TheVariants.{Expect, Deepen, Take, Read}
use Rattle.c_syntax.specs.declared.head.Head.{Head}
use Rattle.c_syntax.specs.language.Heads.{behind}
use Rattle.c_syntax.specs.language.Words.{Word}
use Rattle.c_syntax.specs.language.Tree.{Tree}
use Rattle.c_syntax.specs.workings.Grammar.{choice, given}
use Rattle.c_syntax.specs.workings.Derivation.{Derives, Opened, fits, kept}

-- a derivation from a head that is the same
at_same : {limit depth : ℕ} {first second : Head} {steps : List Step} {words : List Word} {nodes : List Opened} {tree : Tree} → first ≡ second → Derives limit steps depth second words nodes tree
    → Derives limit steps depth first words nodes tree
at_same {limit} {depth} {steps = steps} {words = words} {nodes = nodes} {tree = tree} same more = subst (λ at. Derives limit steps depth at words nodes tree) (sym same) more

-- .. with open nodes that are the same
pub nodes_same : {limit depth : ℕ} {at : Head} {steps : List Step} {words : List Word} {first second : List Opened} {tree : Tree} → first ≡ second → Derives limit steps depth at words second tree
    → Derives limit steps depth at words first tree
nodes_same {limit} {depth} {at} {steps} {words} {tree = tree} same more = subst (λ nodes. Derives limit steps depth at words nodes tree) (sym same) more

pub expect_word : {limit depth : ℕ} {at : Head} {steps : List Step} {word : Word} {words : List Word} {nodes : List Opened} {tree : Tree} {which : Term} → word.term ≡ which
    → Derives limit steps depth (behind at which) words nodes tree → Derives limit (Expect which ∷ steps) depth at (word ∷ words) nodes tree
expect_word {at = at} same more = Derives.expect same (at_same (ap (behind at) same) more)

pub deepen_word : {limit depth : ℕ} {at : Head} {steps : List Step} {word : Word} {words : List Word} {nodes : List Opened} {tree : Tree} {which : Term} → word.term ≡ which → depth < limit
    → Derives limit steps (depth + 1) (behind at which) words nodes tree → Derives limit (Deepen which ∷ steps) depth at (word ∷ words) nodes tree
deepen_word {at = at} same low more = Derives.deepen same low (at_same (ap (behind at) same) more)

-- a word that leaves this head
pub take_word : {limit depth : ℕ} {at after : Head} {steps : List Step} {word : Word} {words : List Word} {nodes : List Opened} {tree : Tree} {which : Class} → IsTrue (fits at which word.term)
    → behind at word.term ≡ after → Derives limit steps depth after words (kept which word nodes) tree → Derives limit (Take which ∷ steps) depth at (word ∷ words) nodes tree
take_word fit leaves more = Derives.take fit (at_same leaves more)

-- what is read by the steps that this term chooses
pub read_word : {limit depth : ℕ} {at : Head} {steps chosen : List Step} {word : Word} {words : List Word} {nodes : List Opened} {tree : Tree} {what : Sort} → (which : Term) → word.term ≡ which
    → choice what which ≡ Some chosen → Derives limit (chosen ++ steps) depth at (word ∷ words) nodes tree → Derives limit (Read what ∷ steps) depth at (word ∷ words) nodes tree
read_word {what = what} which same chosen more = Derives.read (ap (choice what) same ∙ chosen) more

-- the steps of a clause that its directive has
pub given_holds : {test : Bool} → IsTrue test → (steps : List Step) → given test steps ≡ Some steps
given_holds holds steps = ap (λ test. given test steps) holds
