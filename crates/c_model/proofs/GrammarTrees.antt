-- The tree that words spell has the forms of a program's tree.
use Rattle.std.specs.Prelude.{ℕ, ◌≡◌, IsTrue, List, refl}
use Rattle.std.proofs.Common.{subst}
use Rattle.c_syntax.specs.declared.head.Head.{Head}
use Rattle.c_syntax.specs.declared.grammar.Step.{Step}
use Rattle.c_syntax.specs.declared.node.NodeKind.{NodeKind}
use Rattle.c_syntax.specs.declared.node.NodeKind.TheVariants as node
use Rattle.c_syntax.specs.language.Words.{Word}
use Rattle.c_syntax.specs.language.Tree.{Tree, kind_of}
use Rattle.c_syntax.specs.language.Numbered.{TreeView, root_tree}
use Rattle.c_syntax.specs.language.Productions.{IsProgram, depth_limit}
use Rattle.c_syntax.specs.workings.Derivation.{Derives, Opened}
use Rattle.c_syntax.specs.workings.Derivation.Derives.{over, expect, deepen, rise, take, in_head, read, open_node, make, join, wrap, skip}
use Rattle.c_syntax.proofs.ProgramWords.{program_derives}
use Rattle.c_model.specs.Formed.{IsProgramFormed}
use Rattle.c_model.proofs.Grammar.{IsGood, Leads, is_program, never}
use Rattle.c_model.proofs.GrammarRules.{RuleFor, rule}

good : {limit depth : ℕ} {at : Head} {steps : List Step} {words : List Word} {nodes : List Opened} {tree : Tree} → Derives limit steps depth at words nodes tree → Leads steps nodes → IsGood tree
unfolding Leads
good (over {tree = tree} is) leads = subst IsGood is leads
good (expect is derived) leads = good derived leads
good (deepen is below derived) leads = good derived leads
good (rise derived) leads = good derived leads
good (take {word = word} fits derived) leads = good derived (leads word)
good (in_head is derived) leads = good derived leads
good (read {steps = steps} {chosen = chosen} {word = word} {nodes = nodes} {what = what} is derived) leads = good derived (subst (RuleFor what) is (rule what word.term) steps nodes leads)
good (open_node {word = word} derived) leads = good derived (leads word.spot)
good (make derived) leads = good derived leads
good (join derived) leads = good derived leads
good (wrap derived) leads = good derived leads
good (skip derived) leads = good derived leads

program-kind : (kind : NodeKind) → IsTrue (is_program kind) → kind ≡ node.Program
program-kind node.Program is = refl
program-kind other is = never is

pub spelled_is_formed : (words : List Word) (program : TreeView) → IsProgram depth_limit words (root_tree program) → IsProgramFormed program
unfolding Leads
spelled_is_formed words program spells =
    let is : IsGood (root_tree program) = good (program_derives depth_limit words (root_tree program) spells) (λ tree is formed. record { kind = program-kind (kind_of tree) is; formed = formed }) in
    record { kind = is.kind; formed = is.formed }
