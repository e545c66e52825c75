-- What a construct executes, and the construct around it.
use Rattle.std.specs.Prelude.{ℕ, ◌≡◌, true, false, List, [], ◌∷◌, ◌++◌, refl}
use Rattle.std.proofs.Common.{sym, ap, subst, ◌∙◌, append-nil, append_assoc}
use Rattle.c_syntax.specs.declared.node.Directive.{Directive}
use Rattle.c_syntax.specs.declared.node.NodeKind.TheVariants as node
use Rattle.c_syntax.specs.language.Words.{Word}
use Rattle.c_syntax.specs.language.Tree.{Tree, Children, kind_of}
use Rattle.c_syntax.specs.language.Tree.Tree.{Node}
use Rattle.c_syntax.specs.language.Tree.Children.{Child}
use Rattle.c_syntax.specs.language.Productions.{Block, Construct, Section, Statement, kids, made_at}
use Rattle.c_check.specs.declared.acts.act.Act.{Act}
use Rattle.c_check.specs.declared.acts.act.Act.TheVariants.{Enter, Leave}
use Rattle.c_check.specs.declared.acts.role.Role.{Role}
use Rattle.c_check.specs.declared.acts.role.Role.TheVariants as role
use Rattle.c_check.specs.Acts.{acts, outside_acts, statements}
use Rattle.c_check.specs.Clauses.{inside_acts}
use Rattle.c_check.specs.Statements.{is_head, name_of_critical, odd_loop, shares_loop, statement_of, statement_role}
use Rattle.check_laws.specs.Scopes.{Declaration, Position, behind, declared, positions, positions_among}
use Rattle.check_laws.specs.ListedNames.{positions_inside}
use Rattle.check_laws.proofs.Does.{Does, does-of}
use Rattle.check_laws.proofs.Quiet.{Quiet}
use Rattle.check_laws.proofs.Parts.{position}
use Rattle.check_laws.proofs.Visible.{behind-nothing}
use Rattle.check_laws.proofs.Heads.{Heads}

-- what a construct executes is no clause
pub statement-apart : {limit depth : ℕ} {words rest : List Word} {tree : Tree} → Statement limit depth words rest tree → is_head (kind_of tree) ≡ false
statement-apart (Statement.empty is) = refl
statement-apart (Statement.braced (Block.block first deep items last)) = refl
statement-apart (Statement.if_alone is deep first condition last one none) = refl
statement-apart (Statement.if_else is deep first condition last one other second) = refl
statement-apart (Statement.while is deep first condition last one) = refl
statement-apart (Statement.loop is deep first begins one tests two steps last body) = refl
statement-apart (Statement.returns is last) = refl
statement-apart (Statement.returns_value is value last) = refl
statement-apart (Statement.set_call left equals right last) = refl
statement-apart (Statement.called one last) = refl
statement-apart (Statement.stepped one last) = refl
statement-apart (Statement.print is first told more last end) = refl
statement-apart (Statement.locking which is locked last) = refl
statement-apart (Statement.construct (Construct.around is deep sections told last one)) = refl
statement-apart (Statement.construct (Construct.in_sections is deep sections told last parts)) = refl

pub section-apart : {limit depth : ℕ} {words rest : List Word} {tree : Tree} → Section limit depth words rest tree → is_head (kind_of tree) ≡ false
section-apart (Section.section is deep told last one) = refl

pub outside-apart : (tree : Tree) (rest : Children) → is_head (kind_of tree) ≡ false → outside_acts (Child tree rest) ≡ outside_acts rest
unfolding outside_acts
outside-apart (Node (node.Clause lead) spot name number text children) rest is = absurd (let no : true ≡ false = is in cc)
outside-apart (Node other spot name number text children) rest is = refl

pub statement-first : (tree : Tree) (rest : Children) → is_head (kind_of tree) ≡ false → statement_of (Child tree rest) ≡ tree
unfolding statement_of
statement-first tree rest is = rw is refl

pub statements-first : (around : Role) (tree : Tree) (rest : Children) → is_head (kind_of tree) ≡ false → statements around (Child tree rest) ≡ acts around tree ++ statements around rest
unfolding statements
statements-first around tree rest is = rw is refl

pub inside-first : (tree : Tree) (rest : Children) → is_head (kind_of tree) ≡ false → positions_inside (Child tree rest) ≡ positions_among (Child tree rest)
unfolding positions_inside
inside-first tree rest is = rw is refl

-- parts that a construct executes
pub record Executed (trees : List Tree) : Type 0 where
  pub does : Does false (statements role.Plain (kids trees)) [] (positions_among (kids trees))
  pub outside : outside_acts (kids trees) ≡ []
  pub inside : positions_inside (kids trees) ≡ positions_among (kids trees)

pub none-executed : Executed []
unfolding statements positions_among outside_acts positions_inside
none-executed = record { does = Does.nothing false; outside = refl; inside = refl }

pub executed-then : (tree : Tree) (trees : List Tree) → is_head (kind_of tree) ≡ false → Quiet role.Plain tree → Executed trees → Executed (tree ∷ trees)
unfolding positions_among
executed-then tree trees apart first more =
    let both = Does.both false (acts role.Plain tree) (statements role.Plain (kids trees)) [] [] (positions tree) (positions_among (kids trees)) first.does more.does in
    record {
      does =
          subst (λ (acts : List Act). Does false acts [] (positions tree ++ behind (declared tree) (positions_among (kids trees)))) (sym (statements-first role.Plain tree (kids trees) apart))
          (subst (λ (scope : List Declaration). Does false (acts role.Plain tree ++ statements role.Plain (kids trees)) [] (positions tree ++ behind scope (positions_among (kids trees)))) (sym first.none) both);
      outside = outside-apart tree (kids trees) apart ∙ more.outside;
      inside = inside-first tree (kids trees) apart;
    }

-- a construct
acts-parted : (outside inside odd some : List Act) (enter leave : Act) → ((((outside ++ enter ∷ inside) ++ odd) ++ some) ++ leave ∷ []) ≡ outside ++ (enter ∷ inside ++ ((odd ++ some) ++ leave ∷ []))
acts-parted outside inside odd some enter leave =
    ap (λ (acts : List Act). acts ++ leave ∷ []) (append_assoc (outside ++ enter ∷ inside) odd some)
    ∙ append_assoc (outside ++ enter ∷ inside) (odd ++ some) (leave ∷ []) ∙ append_assoc outside (enter ∷ inside) ((odd ++ some) ++ leave ∷ [])

module _ (which : Directive) (word : Word) (trees parts : List Tree) where
  abbrev pub children_here : Children
  children_here = kids (trees ++ parts)

  abbrev pub me : Tree
  me = made_at (node.Construct which) word children_here

  abbrev pub inner_acts : List Act
  inner_acts = odd_loop which children_here ++ statements (statement_role which children_here) children_here

  -- from where it begins to where it ends
  abbrev pub own_acts : List Act → List Act
  own_acts inner = Enter word.spot which (name_of_critical children_here) ∷ inside_acts children_here ++ (inner ++ Leave ∷ [])

  pub construct-quiet : Heads trees → outside_acts (kids parts) ≡ [] → Does false (own_acts inner_acts) [] (position me ∷ positions_among (kids parts)) → Quiet role.Plain me
  unfolding acts declared positions
  construct-quiet heads apart within =
      let both = Does.both false (outside_acts (kids trees)) (own_acts inner_acts) [] [] (positions_among (kids trees)) (position me ∷ positions_among (kids parts)) heads.does within in
      let outside : outside_acts (kids trees) ≡ outside_acts children_here =
      sym (heads.acts_behind parts ∙ ap (λ (acts : List Act). outside_acts (kids trees) ++ acts) apart ∙ append-nil (outside_acts (kids trees))) in
      let whole = subst (λ (acts : List Act). Does false (acts ++ own_acts inner_acts) [] (positions_among (kids trees) ++ behind [] (position me ∷ positions_among (kids parts)))) outside both in
      let parted = does-of false _ (acts role.Plain me) [] [] _ (positions_among (kids trees) ++ position me ∷ positions_among (kids parts))
      (sym (acts-parted (outside_acts children_here) (inside_acts children_here) (odd_loop which children_here) (statements (statement_role which children_here) children_here)
      (Enter word.spot which (name_of_critical children_here)) Leave)) refl
      (ap (λ (nodes : List Position). positions_among (kids trees) ++ nodes) (behind-nothing (position me ∷ positions_among (kids parts)))) whole in
      let first = Does.front false (acts role.Plain me) [] (position me) (positions_among (kids trees)) (positions_among (kids parts)) parted in
      record {
        does = subst (λ (nodes : List Position). Does false (acts role.Plain me) [] (position me ∷ nodes)) (sym (behind-nothing (positions_among children_here) ∙ heads.nodes_behind parts)) first;
        none = refl;
      }

  -- one that shares out no loop
  other-acts : Heads trees → shares_loop which ≡ false → inner_acts ≡ statements role.Plain (kids parts)
  other-acts heads shares = rw shares (heads.statements_behind role.Plain parts)

  pub construct-other : Heads trees → shares_loop which ≡ false → Executed parts → Quiet role.Plain me
  construct-other heads shares executed =
      construct-quiet heads executed.outside
      (subst (λ (acts : List Act). Does false (own_acts acts) [] (position me ∷ positions_among (kids parts))) (sym (other-acts heads shares))
      (Does.constructs me which (name_of_critical children_here) (statements role.Plain (kids parts)) (positions_among (kids parts)) refl shares (heads.inside_behind parts ∙ executed.inside) executed.does))
