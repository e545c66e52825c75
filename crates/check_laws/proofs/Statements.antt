-- Statements, and what stands in blocks.
use Rattle.std.specs.Prelude.{ℕ, ◌≡◌, ◌⊎◌, Bool, true, false, List, [], ◌∷◌, None, refl}
use Rattle.std.proofs.Common.{sym, subst, inl, inr}
use Rattle.c_syntax.specs.declared.node.Directive.{Directive}
use Rattle.c_syntax.specs.declared.node.Directive.TheVariants as directive
use Rattle.c_syntax.specs.declared.node.Standalone.{Standalone}
use Rattle.c_syntax.specs.declared.node.Standalone.TheVariants as standalone
use Rattle.c_syntax.specs.declared.node.NodeKind.TheVariants as node
use Rattle.c_syntax.specs.language.Words.{Word}
use Rattle.c_syntax.specs.language.Tree.{Tree}
use Rattle.c_syntax.specs.language.Tree.Children.{Over, Absent}
use Rattle.c_syntax.specs.language.Productions.{Block, Construct, Items, MoreSections, Section, Sections, Statement, is_sections, kids, made_at}
use Rattle.c_check.specs.declared.acts.role.Role.TheVariants as role
use Rattle.c_check.specs.Acts.{acts, each}
use Rattle.c_check.specs.Loops.{loop_name}
use Rattle.c_check.specs.Statements.{shares_loop}
use Rattle.check_laws.specs.Scopes.{Declaration, declared, declared_among, positions, positions_among}
use Rattle.check_laws.proofs.Does.{Does, does-node, plain, still}
use Rattle.check_laws.proofs.Quiet.{Quiet, Row, call_of, lock_of, more_arguments, ranked, row-end, row-then, then-silent, value_of}
use Rattle.check_laws.proofs.LoopConstructs.{DoneLoop}
use Rattle.check_laws.proofs.Stepping.{step_of, target-then}
use Rattle.check_laws.proofs.Declaring.{locals_of, locks_of}
use Rattle.check_laws.proofs.Heads.{directive_of}
use Rattle.check_laws.proofs.Executing.{Executed, construct-other, executed-then, none-executed, section-apart, statement-apart}
use Rattle.check_laws.proofs.LoopConstructs.{construct-either, loop-quiet, loop-shared}

sections-share : (which : Directive) → is_sections which ≡ true → shares_loop which ≡ false
sections-share directive.Sections is = refl
sections-share directive.ParallelSections is = refl
sections-share other is = absurd (let no : false ≡ true = is in cc)

row-absent : Row role.Plain (Absent Over)
unfolding each positions_among
row-absent = record { does = Does.nothing false }

pub items-then : (file : Bool) (tree : Tree) (trees : List Tree) → Does file (acts role.Plain tree) (declared tree) (positions tree) → Does file (each role.Plain (kids trees)) (declared_among (kids trees)) (positions_among (kids trees))
    → Does file (each role.Plain (kids (tree ∷ trees))) (declared_among (kids (tree ∷ trees))) (positions_among (kids (tree ∷ trees)))
unfolding each declared_among positions_among
items-then file tree trees first more = Does.both file _ _ _ _ _ _ first more

quiet-item : (tree : Tree) → Quiet role.Plain tree → Does false (acts role.Plain tree) (declared tree) (positions tree)
quiet-item tree quiet = subst (λ (made : List Declaration). Does false (acts role.Plain tree) made (positions tree)) (sym quiet.none) quiet.does

standalone-does : (which : Standalone) (word : Word) → let tree = made_at (node.Standalone which) word Over in Does false (acts role.Plain tree) (declared tree) (positions tree)
unfolding acts declared positions positions_among
standalone-does standalone.Barrier word = does-node false _ [] [] _ (plain _ refl refl refl) (Does.silent false _ refl)
standalone-does standalone.Taskwait word = does-node false [] [] [] _ (plain _ refl refl refl) (Does.nothing false)

block-quiet : (word : Word) (trees : List Tree) → Does false (each role.Plain (kids trees)) (declared_among (kids trees)) (positions_among (kids trees)) → Quiet role.Plain (made_at node.Block word (kids trees))
unfolding acts positions declared
block-quiet word trees items = record { does = does-node false _ [] _ _ (plain _ refl refl refl) (Does.scoped false _ _ _ items); none = refl }

pub no-items : (file : Bool) → Does file (each role.Plain Over) (declared_among Over) (positions_among Over)
unfolding each declared_among positions_among
no-items file = Does.nothing file

mutual
  unfolding acts each positions positions_among declared

  pub items : {limit depth : ℕ} {words rest : List Word} {trees : List Tree} → Items limit depth words rest trees → Does false (each role.Plain (kids trees)) (declared_among (kids trees)) (positions_among (kids trees))
  items Items.none = no-items false
  items (Items.locals one more) = items-then false _ _ (locals_of one) (items more)
  items (Items.locks one more) = items-then false _ _ (locks_of false one) (items more)
  items (Items.alone {word = word} which is told last more) = items-then false (made_at (node.Standalone which) word Over) _ (standalone-does which word) (items more)
  items (Items.statement one more) = items-then false _ _ (quiet-item _ (statement one)) (items more)

  pub block : {limit depth : ℕ} {words rest : List Word} {tree : Tree} → Block limit depth words rest tree → Quiet role.Plain tree
  block (Block.block {word = word} {trees = trees} first deep some last) = block-quiet word trees (items some)

  pub statement : {limit depth : ℕ} {words rest : List Word} {tree : Tree} → Statement limit depth words rest tree → Quiet role.Plain tree
  statement (Statement.empty is) = record { does = does-node false [] [] [] _ (plain _ refl refl refl) (Does.nothing false); none = refl }
  statement (Statement.braced one) = block one
  statement (Statement.if_alone is deep first condition last one none) = record {
    does = does-node false _ [] _ _ (plain _ refl refl refl) (row-then (ranked condition role.Plain refl) (row-then (statement one) row-absent)).does;
    none = refl;
  }
  statement (Statement.if_else is deep first condition last one other second) = record {
    does = does-node false _ [] _ _ (plain _ refl refl refl) (row-then (ranked condition role.Plain refl) (row-then (statement one) (row-then (statement second) (row-end role.Plain)))).does;
    none = refl;
  }
  statement (Statement.while is deep first condition last one) = record {
    does = does-node false _ [] _ _ (plain _ refl refl refl) (row-then (ranked condition role.Plain refl) (row-then (statement one) (row-end role.Plain))).does;
    none = refl;
  }
  statement (Statement.loop {word = word} is deep first begins one tests two steps last body) = loop-quiet word begins tests steps (statement body)
  statement (Statement.returns is last) = record { does = does-node false _ [] _ _ (plain _ refl refl refl) (Does.silent false _ refl); none = refl }
  statement (Statement.returns_value is value last) = record {
    does = does-node false _ [] _ _ (plain _ refl refl refl) (then-silent _ refl (row-then (value_of value role.Used refl) (row-end role.Used)).does);
    none = refl;
  }
  statement (Statement.set_call left equals right last) = record { does = target-then role.Used _ _ left refl refl refl (row-then (call_of right role.Used) (row-end role.Used)); none = refl }
  statement (Statement.called one last) = record { does = does-node false _ [] _ _ (plain _ refl refl refl) (row-then (call_of one role.Plain) (row-end role.Plain)).does; none = refl }
  statement (Statement.stepped one last) = record { does = does-node false _ [] _ _ (plain _ refl refl refl) (row-then (step_of one role.Plain) (row-end role.Plain)).does; none = refl }
  statement (Statement.print is first told more last end) = record { does = does-node false _ [] _ _ (plain _ refl refl refl) (then-silent _ refl (more_arguments more).does); none = refl }
  statement (Statement.locking which is locked last) = record { does = lock_of locked _ (still _ refl refl) refl; none = refl }
  statement (Statement.construct one) = construct one

  pub construct : {limit depth : ℕ} {words rest : List Word} {tree : Tree} → Construct limit depth words rest tree → Quiet role.Plain tree
  construct (Construct.around {which = which} {word = word} {trees = trees} {tree = tree} is deep sections told last one) =
      construct-either which word trees tree (directive_of told) (statement-apart one) (statement one) (shared_by one)
  construct (Construct.in_sections {which = which} {word = word} {trees = trees} {parts = parts} is deep sections told last several) =
      construct-other which word trees parts (directive_of told) (sections-share which sections) (sections_of several)

  shared_by : {limit depth : ℕ} {words rest : List Word} {tree : Tree} → Statement limit depth words rest tree → (loop_name tree ≡ None) ⊎ DoneLoop tree
  shared_by (Statement.loop {word = word} is deep first begins one tests two steps last body) = inr (loop-shared word begins tests steps (statement body))
  shared_by (Statement.empty is) = inl refl
  shared_by (Statement.braced (Block.block first deep some last)) = inl refl
  shared_by (Statement.if_alone is deep first condition last one none) = inl refl
  shared_by (Statement.if_else is deep first condition last one other second) = inl refl
  shared_by (Statement.while is deep first condition last one) = inl refl
  shared_by (Statement.returns is last) = inl refl
  shared_by (Statement.returns_value is value last) = inl refl
  shared_by (Statement.set_call left equals right last) = inl refl
  shared_by (Statement.called one last) = inl refl
  shared_by (Statement.stepped one last) = inl refl
  shared_by (Statement.print is first told more last end) = inl refl
  shared_by (Statement.locking which is locked last) = inl refl
  shared_by (Statement.construct (Construct.around is deep sections told last one)) = inl refl
  shared_by (Statement.construct (Construct.in_sections is deep sections told last parts)) = inl refl

  sections_of : {limit depth : ℕ} {words rest : List Word} {trees : List Tree} → Sections limit depth words rest trees → Executed trees
  sections_of (Sections.from_statement first one more last) = executed-then _ _ (statement-apart one) (statement one) (more_sections more)
  sections_of (Sections.from_section first one more last) = executed-then _ _ (section-apart one) (section one) (more_sections more)

  more_sections : {limit depth : ℕ} {words rest : List Word} {trees : List Tree} → MoreSections limit depth words rest trees → Executed trees
  more_sections MoreSections.last = none-executed
  more_sections (MoreSections.further one more) = executed-then _ _ (section-apart one) (section one) (more_sections more)

  section : {limit depth : ℕ} {words rest : List Word} {tree : Tree} → Section limit depth words rest tree → Quiet role.Plain tree
  section (Section.section is deep told last one) = record { does = does-node false _ [] _ _ (plain _ refl refl refl) (row-then (statement one) (row-end role.Plain)).does; none = refl }
