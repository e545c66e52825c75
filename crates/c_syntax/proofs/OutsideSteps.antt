-- The steps that read a word outside of the heads of directives, and those that make a node.
use Rattle.std.proofs.Common.{ℕ, ◌≡◌, ◌<◌, ◌+◌, ◌-◌, Bool, true, false, IsTrue, List, ◌∷◌, ◌++◌, Some, refl, sym, ap, subst, ◌∙◌, arith}
use Rattle.c_syntax.specs.declared.grammar.Class.TheVariants as class
use Rattle.c_syntax.specs.declared.grammar.Sort.{Sort}
use Rattle.c_syntax.specs.declared.grammar.Step.{Step}
use Rattle.c_syntax.specs.declared.grammar.Step.TheVariants.{Expect, Deepen, Rise, Take, Read, Make}
use Rattle.c_syntax.specs.declared.head.Head.{Head}
use Rattle.c_syntax.specs.declared.head.Head.TheVariants as head
use Rattle.c_syntax.specs.declared.node.NodeKind.{NodeKind}
use Rattle.c_syntax.specs.declared.term.Term.{Term}
use Rattle.c_syntax.specs.declared.term.Term.TheVariants as term
use Rattle.c_syntax.specs.language.Heads.{behind_outside}
use Rattle.c_syntax.specs.language.Words.{Word}
use Rattle.c_syntax.specs.language.Tree.{Tree}
use Rattle.c_syntax.specs.workings.Grammar.{choice}
use Rattle.c_syntax.specs.language.WordClasses.{is_name}
use Rattle.c_syntax.specs.workings.Derivation.{Derives, Opened, kept, is_number, is_text, with_child}
use Rattle.c_syntax.proofs.Pushing.{all_added, made-pushed, tree_with}

-- what is so where a test holds
abbrev pub pick : {X : Type 0} → Bool → X → X → X
pick true chosen other = chosen
pick false chosen other = other

pub picked : {X : Type 0} (test : Bool) (chosen : X) {some : X} → some ≡ pick test chosen some → IsTrue test → some ≡ chosen
picked {X} test chosen {some} same holds = subst (λ which. some ≡ pick which chosen some) holds same

-- no head begins behind a name
pub name-outside : (word : Term) → behind_outside word ≡ pick (is_name word) head.Outside (behind_outside word)
name-outside term.Pragma = refl
name-outside other = refl

-- words that are read outside of heads
goes : {limit depth : ℕ} {steps : List Step} {at : Head} {words : List Word} {nodes : List Opened} {tree : Tree} → at ≡ head.Outside → Derives limit steps depth head.Outside words nodes tree
    → Derives limit steps depth at words nodes tree
goes {limit} {depth} {steps} {at} {words} {nodes} {tree} same more = subst (λ at. Derives limit steps depth at words nodes tree) (sym same) more

module _ {limit depth : ℕ} {steps : List Step} {word : Word} {words : List Word} {nodes : List Opened} {tree : Tree} where
  -- one word
  pub expect : {which : Term} → word.term ≡ which → behind_outside which ≡ head.Outside → Derives limit steps depth head.Outside words nodes tree
      → Derives limit (Expect which ∷ steps) depth head.Outside (word ∷ words) nodes tree
  expect same outside more = Derives.expect same (goes (ap behind_outside same ∙ outside) more)

  pub deepen : {which : Term} → word.term ≡ which → behind_outside which ≡ head.Outside → depth < limit → Derives limit steps (depth + 1) head.Outside words nodes tree
      → Derives limit (Deepen which ∷ steps) depth head.Outside (word ∷ words) nodes tree
  deepen same outside low more = Derives.deepen same low (goes (ap behind_outside same ∙ outside) more)

  -- a name, a number or a text
  pub take_name : IsTrue (is_name word.term) → Derives limit steps depth head.Outside words (kept class.Name word nodes) tree
      → Derives limit (Take class.Name ∷ steps) depth head.Outside (word ∷ words) nodes tree
  take_name named more =
      Derives.take named (goes (picked (is_name word.term) head.Outside (name-outside word.term) named) more)

  pub take_number : word.term ≡ term.Number → Derives limit steps depth head.Outside words (kept class.Number word nodes) tree
      → Derives limit (Take class.Number ∷ steps) depth head.Outside (word ∷ words) nodes tree
  take_number same more =
      Derives.take (ap is_number same) (goes (ap behind_outside same) more)

  pub take_text : word.term ≡ term.Text → Derives limit steps depth head.Outside words (kept class.Text word nodes) tree
      → Derives limit (Take class.Text ∷ steps) depth head.Outside (word ∷ words) nodes tree
  take_text same more =
      Derives.take (ap is_text same) (goes (ap behind_outside same) more)

  -- a sort, by its next word
  pub read_term : {what : Sort} {chosen : List Step} (which : Term) → word.term ≡ which → choice what which ≡ Some chosen → Derives limit (chosen ++ steps) depth head.Outside (word ∷ words) nodes tree
      → Derives limit (Read what ∷ steps) depth head.Outside (word ∷ words) nodes tree
  read_term {what} which same chosen more = Derives.read (ap (choice what) same ∙ chosen) more

  -- .. by a test of it
  pub read_where : {what : Sort} (test : Bool) (chosen : List Step) → choice what word.term ≡ pick test (Some chosen) (choice what word.term) → IsTrue test
      → Derives limit (chosen ++ steps) depth head.Outside (word ∷ words) nodes tree → Derives limit (Read what ∷ steps) depth head.Outside (word ∷ words) nodes tree
  read_where test chosen same holds more = Derives.read (picked test (Some chosen) same holds) more

-- back from where a word led deeper
pub rise : {limit depth : ℕ} {at : Head} {steps : List Step} {words : List Word} {nodes : List Opened} {tree : Tree} → Derives limit steps depth at words nodes tree
    → Derives limit (Rise ∷ steps) (depth + 1) at words nodes tree
rise {limit} {depth} {at} {steps} {words} {nodes} {tree} more = Derives.rise (subst (λ deep. Derives limit steps deep at words nodes tree) (lower depth) more)
  where
    lower : (depth : ℕ) → depth ≡ depth + 1 - 1
    lower depth = omega arith

-- the node over the trees that were added to it
pub make : {limit depth : ℕ} {at : Head} {steps : List Step} {words : List Word} {tree : Tree} (kind : NodeKind) (trees : List Tree) (node : Opened) {parent : Opened} {outer : List Opened}
    → Derives limit steps depth at words (with_child (Some (tree_with kind trees node)) parent ∷ outer) tree
    → Derives limit (Make kind ∷ steps) depth at words (all_added trees (node ∷ parent ∷ outer)) tree
make {limit} {depth} {at} {steps} {words} {tree} kind trees node {parent} {outer} more =
    Derives.make (subst (λ nodes. Derives limit steps depth at words nodes tree) (sym (made-pushed kind trees node parent outer)) more)
