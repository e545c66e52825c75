-- What stands before what a construct executes: its clauses, and the name of a critical.
use Rattle.std.specs.Prelude.{ℕ, ◌≡◌, false, List, [], ◌∷◌, ◌++◌, refl}
use Rattle.std.proofs.Common.{sym, ap, subst, ◌∙◌, append-nil, append_assoc}
use Rattle.c_syntax.specs.declared.node.Directive.{Directive}
use Rattle.c_syntax.specs.declared.node.Lead.{Lead}
use Rattle.c_syntax.specs.declared.node.NodeKind.TheVariants as node
use Rattle.c_syntax.specs.language.Words.{Word}
use Rattle.c_syntax.specs.language.Tree.{Tree, over_one}
use Rattle.c_syntax.specs.language.Tree.Children.{Over, Child}
use Rattle.c_syntax.specs.language.Productions.{Chunk, Clause, Clauses, DirectiveOf, kids, name_node}
use Rattle.c_check.specs.declared.acts.act.Act.{Act}
use Rattle.c_check.specs.declared.acts.role.Role.{Role}
use Rattle.c_check.specs.declared.acts.role.Role.TheVariants as role
use Rattle.c_check.specs.declared.acts.role.Naming.TheVariants as naming
use Rattle.c_check.specs.Acts.{acts, clause_outside, outside_acts, statements}
use Rattle.c_check.specs.Statements.{statement_of}
use Rattle.check_laws.specs.Scopes.{Position, behind, declared, positions, positions_among}
use Rattle.check_laws.specs.ListedNames.{positions_inside}
use Rattle.check_laws.proofs.Does.{Does, does-node, plain, still}
use Rattle.check_laws.proofs.Parts.{position}
use Rattle.check_laws.proofs.Quiet.{names_of, ranked, row-end, row-then}
use Rattle.check_laws.proofs.Visible.{behind-nothing}

-- clauses
chunk_of : {words rest : List Word} {trees : List Tree} → Chunk words rest trees → Does false [] [] (positions_among (kids trees))
unfolding positions positions_among
chunk_of Chunk.none = Does.nothing false
chunk_of (Chunk.some comma is) = Does.plainly false [] [] [] _ [] (plain _ refl refl refl) (Does.nothing false)

clause_of : {limit depth : ℕ} {which : Directive} {words rest : List Word} {tree : Tree} → Clause limit depth which words rest tree → Does false (clause_outside (Child tree Over)) [] (positions tree)
unfolding clause_outside positions positions_among
clause_of (Clause.num_threads has is first one last) = does-node false _ [] _ _ (plain _ refl refl refl) (row-then (ranked one role.Plain refl) (row-end role.Plain)).does
clause_of (Clause.default_of how has is first told last) = does-node false [] [] [] _ (plain _ refl refl refl) (Does.nothing false)
clause_of (Clause.data_of how has is first list last) = names_of list (naming.Mentioned _) refl _ (still _ refl refl) refl
clause_of (Clause.reduction_of how has is first sign colon list last) = names_of list (naming.Mentioned _) refl _ (still _ refl refl) refl
clause_of (Clause.schedule_of how has is first told chunk last) = does-node false [] [] _ _ (plain _ refl refl refl) (chunk_of chunk)
clause_of (Clause.nowait has is) = does-node false [] [] [] _ (plain _ refl refl refl) (Does.nothing false)
clause_of (Clause.condition has is first one last) = does-node false _ [] _ _ (plain _ refl refl refl) (row-then (ranked one role.Plain refl) (row-end role.Plain)).does

clause-node : (acts : List Act) (lead : Lead) (tree : Tree) → Does false acts [] (positions tree) → Does false acts [] (positions (over_one (node.Clause lead) tree))
unfolding positions positions_among
clause-node acts lead tree it =
    does-node false acts [] (positions tree ++ []) (over_one (node.Clause lead) tree) (plain _ refl refl refl) (subst (λ (nodes : List Position). Does false acts [] nodes) (sym (append-nil (positions tree))) it)

-- what stands before what a construct executes
pub record Heads (trees : List Tree) : Type 0 where
  pub does : Does false (outside_acts (kids trees)) [] (positions_among (kids trees))
  pub acts_behind : (more : List Tree) → outside_acts (kids (trees ++ more)) ≡ outside_acts (kids trees) ++ outside_acts (kids more)
  pub nodes_behind : (more : List Tree) → positions_among (kids (trees ++ more)) ≡ positions_among (kids trees) ++ positions_among (kids more)
  pub statement_behind : (more : List Tree) → statement_of (kids (trees ++ more)) ≡ statement_of (kids more)
  pub inside_behind : (more : List Tree) → positions_inside (kids (trees ++ more)) ≡ positions_inside (kids more)
  pub statements_behind : (around : Role) (more : List Tree) → statements around (kids (trees ++ more)) ≡ statements around (kids more)

no-heads : Heads []
unfolding outside_acts positions_among
no-heads = record { does = Does.nothing false; acts_behind = λ more. refl; nodes_behind = λ more. refl; statement_behind = λ more. refl; inside_behind = λ more. refl; statements_behind = λ around more. refl }

heads-then : (lead : Lead) (tree : Tree) (trees : List Tree) → Does false (clause_outside (Child tree Over)) [] (positions tree) → Heads trees → Heads (over_one (node.Clause lead) tree ∷ trees)
unfolding outside_acts positions_among declared statement_of positions_inside statements
heads-then lead tree trees first more = record {
  does = Does.both false (clause_outside (Child tree Over)) (outside_acts (kids trees)) [] [] (positions (over_one (node.Clause lead) tree)) (positions_among (kids trees)) (clause-node _ lead tree first) more.does;
  acts_behind = λ others. ap (λ (acts : List Act). clause_outside (Child tree Over) ++ acts) (more.acts_behind others) ∙ sym (append_assoc (clause_outside (Child tree Over)) (outside_acts (kids trees)) (outside_acts (kids others)));
  nodes_behind = λ others.
      ap (λ (nodes : List Position). positions (over_one (node.Clause lead) tree) ++ nodes) (behind-nothing (positions_among (kids (trees ++ others))) ∙ more.nodes_behind others
      ∙ ap (λ (nodes : List Position). nodes ++ positions_among (kids others)) (sym (behind-nothing (positions_among (kids trees)))))
      ∙ sym (append_assoc (positions (over_one (node.Clause lead) tree)) (behind [] (positions_among (kids trees))) (positions_among (kids others)));
  statement_behind = more.statement_behind;
  inside_behind = more.inside_behind;
  statements_behind = more.statements_behind;
}

clauses_of : {limit depth : ℕ} {which : Directive} {words rest : List Word} {trees : List Tree} → Clauses limit depth which words rest trees → Heads trees
clauses_of Clauses.none = no-heads
clauses_of (Clauses.plain one rest) = heads-then _ _ _ (clause_of one) (clauses_of rest)
clauses_of (Clauses.behind_comma comma one rest) = heads-then _ _ _ (clause_of one) (clauses_of rest)

pub directive_of : {limit depth : ℕ} {which : Directive} {words rest : List Word} {trees : List Tree} → DirectiveOf limit depth which words rest trees → Heads trees
unfolding outside_acts positions positions_among declared statement_of positions_inside statements
directive_of (DirectiveOf.with_clauses told clauses) = clauses_of clauses
directive_of (DirectiveOf.masked is) = no-heads
directive_of (DirectiveOf.master is) = no-heads
directive_of (DirectiveOf.critical is) = no-heads
directive_of (DirectiveOf.critical_named {name = name} is first named last) = record {
  does = Does.plainly false [] [] [] (name_node name) [] (plain _ refl refl refl) (Does.nothing false);
  acts_behind = λ more. refl;
  nodes_behind = λ more. ap (λ (nodes : List Position). position (name_node name) ∷ nodes) (behind-nothing (positions_among (kids more)));
  statement_behind = λ more. refl;
  inside_behind = λ more. refl;
  statements_behind = λ around more. refl;
}
