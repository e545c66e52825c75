-- Loops, and the constructs that share them out.
use Rattle.std.specs.Prelude.{ℕ, ◌≡◌, ◌⊎◌, true, false, List, [], ◌∷◌, ◌++◌, Option, Some, None, refl}
use Rattle.std.proofs.Common.{sym, ap, subst, ◌∙◌, inl, inr, append-nil, append_assoc}
use Rattle.std.proofs.lemmas.Bool.{cases_Bool}
use Rattle.std.proofs.lemmas.List.{map-append}
use Rattle.c_syntax.specs.declared.node.Directive.{Directive}
use Rattle.c_syntax.specs.declared.node.NodeKind.TheVariants as node
use Rattle.c_syntax.specs.language.Words.{Word}
use Rattle.c_syntax.specs.language.Tree.{Tree, Children, kind_of}
use Rattle.c_syntax.specs.language.Tree.Children.{Over, Child}
use Rattle.c_syntax.specs.language.Productions.{ConditionPart, FirstPart, StepPart, kids, made_at, maybe}
use Rattle.c_check.specs.declared.acts.act.Act.{Act}
use Rattle.c_check.specs.declared.acts.act.Act.TheVariants.{Close, Loop, Open}
use Rattle.c_check.specs.declared.acts.role.Role.{Role}
use Rattle.c_check.specs.declared.acts.role.Role.TheVariants as role
use Rattle.c_check.specs.Acts.{acts, each, first_part, outside_acts, statements}
use Rattle.c_check.specs.Loops.{has_form, loop_name}
use Rattle.c_check.specs.Statements.{is_head, name_of_critical, role_with, shares_loop, statement_of}
use Rattle.check_laws.specs.Scopes.{Declaration, Position, behind, declared, positions, positions_among, under}
use Rattle.check_laws.proofs.Calm.{calm-both, condition-calm, first-calm, third-calm}
use Rattle.check_laws.proofs.Forms.{found-head}
use Rattle.check_laws.specs.ListedNames.{positions_inside}
use Rattle.check_laws.proofs.Does.{Does, does-of, plain}
use Rattle.check_laws.proofs.Parts.{LoopParts, odd_acts, part_acts, part_declared, part_nodes, position}
use Rattle.check_laws.proofs.Quiet.{Quiet}
use Rattle.check_laws.proofs.Stepping.{condition_part, first-acts, first_of, part-positions, second-acts, step_part, third-acts}
use Rattle.check_laws.proofs.Visible.{behind-nothing}
use Rattle.check_laws.proofs.Heads.{Heads}
use Rattle.check_laws.proofs.Executing.{construct-other, construct-quiet, executed-then, inner_acts, inside-first, none-executed, outside-apart, own_acts, statement-first, statements-first}

-- a `for` with what its parts do
pub record DoneLoop (tree : Tree) : Type 0 where
  pub parts : LoopParts tree
  pub head : Does false parts.head_acts (part_declared parts.begins) parts.head_nodes
  pub inner : Does false (acts role.Plain parts.body) [] (positions parts.body)

-- a loop with its parts
three-parts : (made : List Declaration) (one two three body : List Position) → one ++ behind made (two ++ behind [] (three ++ behind [] body)) ≡ (one ++ behind made (two ++ behind [] three)) ++ behind made body
three-parts made one two three body =
    ap (λ (nodes : List Position). one ++ behind made (two ++ nodes)) (behind-nothing (three ++ behind [] body) ∙ ap (λ (nodes : List Position). three ++ nodes) (behind-nothing body)
    ∙ ap (λ (nodes : List Position). nodes ++ body) (sym (behind-nothing three)))
    ∙ ap (λ (nodes : List Position). one ++ behind made nodes) (sym (append_assoc two (behind [] three) body))
    ∙ ap (λ (nodes : List Position). one ++ nodes) (map-append (under made) (two ++ behind [] three) body)
    ∙ sym (append_assoc one (behind made (two ++ behind [] three)) (behind made body))

module _ {limit depth : ℕ} {one two three four five six : List Word} {begins tests steps : Option Tree} {body : Tree} (word : Word) (first : FirstPart limit depth one two begins)
    (second : ConditionPart limit depth three four tests) (third : StepPart limit depth five six steps) (inner : Quiet role.Plain body) where
  abbrev pub loop_here : Tree
  loop_here = made_at node.For word (maybe begins (maybe tests (maybe steps (Child body Over))))

  abbrev head_acts_here : List Act
  head_acts_here = part_acts begins ++ (part_acts tests ++ part_acts steps)

  abbrev head_nodes_here : List Position
  head_nodes_here = part_nodes begins ++ behind (part_declared begins) (part_nodes tests ++ behind [] (part_nodes steps))

  parts-acts : (mark : List Act) → first_part mark (maybe begins (maybe tests (maybe steps (Child body Over)))) ≡ head_acts_here ++ (mark ++ acts role.Plain body)
  unfolding each
  parts-acts mark =
      first-acts mark begins _ ∙ ap (λ (some : List Act). part_acts begins ++ some) (second-acts mark tests _ ∙ ap (λ (some : List Act). part_acts tests ++ some) (third-acts mark steps _))
      ∙ ap (λ (some : List Act). part_acts begins ++ (part_acts tests ++ (part_acts steps ++ (mark ++ some)))) (append-nil (acts role.Plain body))
      ∙ ap (λ (some : List Act). part_acts begins ++ some) (sym (append_assoc (part_acts tests) (part_acts steps) (mark ++ acts role.Plain body)))
      ∙ sym (append_assoc (part_acts begins) (part_acts tests ++ part_acts steps) (mark ++ acts role.Plain body))

  parts-nodes : positions_among (maybe begins (maybe tests (maybe steps (Child body Over)))) ≡ head_nodes_here ++ behind (part_declared begins) (positions body)
  unfolding positions_among
  parts-nodes =
      part-positions begins _ ∙ ap (λ (some : List Position). part_nodes begins ++ behind (part_declared begins) some) (
      part-positions tests _ ∙ ap (λ (scope : List Declaration). part_nodes tests ++ behind scope (positions_among (maybe steps (Child body Over)))) (condition_part second).none
      ∙ ap (λ (some : List Position). part_nodes tests ++ behind [] some) (
      part-positions steps _ ∙ ap (λ (scope : List Declaration). part_nodes steps ++ behind scope (positions_among (Child body Over))) (step_part third).none
      ∙ ap (λ (some : List Position). part_nodes steps ++ behind [] some) (append-nil (positions body)))
      ) ∙ three-parts (part_declared begins) (part_nodes begins) (part_nodes tests) (part_nodes steps) (positions body)

  parts-here : LoopParts loop_here
  unfolding acts positions
  parts-here = record {
    begins = begins;
    tests = tests;
    steps = steps;
    body = body;
    kind = refl;
    children = refl;
    head_acts = head_acts_here;
    head_nodes = head_nodes_here;
    acts_are = λ name. ap (λ (some : List Act). Open ∷ some ++ Close ∷ []) (parts-acts (Loop name ∷ []));
    nodes_are = ap (λ (some : List Position). position loop_here ∷ some) (behind-nothing (positions_among (maybe begins (maybe tests (maybe steps (Child body Over))))) ∙ parts-nodes);
    calm = calm-both (part_acts begins) (part_acts tests ++ part_acts steps) (first-calm first) (calm-both (part_acts tests) (part_acts steps) (condition-calm second) (third-calm third));
    heads = λ i named form. found-head begins tests steps body first second third loop_here refl refl i named form;
  }

  pub loop-shared : DoneLoop loop_here
  unfolding parts-here
  loop-shared = record {
    parts = parts-here;
    head = Does.both false (part_acts begins) (part_acts tests ++ part_acts steps) (part_declared begins) [] (part_nodes begins) (part_nodes tests ++ behind [] (part_nodes steps)) (first_of first)
        (Does.both false (part_acts tests) (part_acts steps) [] [] (part_nodes tests) (part_nodes steps) (condition_part second).does (step_part third).does);
    inner = inner.does;
  }

  pub loop-quiet : Quiet role.Plain loop_here
  unfolding acts positions declared loop-shared parts-here
  loop-quiet =
      let shared = loop-shared.parts in
      let both = Does.both false shared.head_acts (acts role.Plain body) (part_declared begins) [] shared.head_nodes (positions body) loop-shared.head inner.does in
      let scoped = Does.scoped false (shared.head_acts ++ acts role.Plain body) ([] ++ part_declared begins) (shared.head_nodes ++ behind (part_declared begins) (positions body)) both in
      let whole = Does.plainly false (Open ∷ (shared.head_acts ++ acts role.Plain body) ++ Close ∷ []) [] (shared.head_nodes ++ behind (part_declared begins) (positions body)) loop_here [] (plain loop_here refl refl refl) scoped in
      record {
        does = does-of false _ (acts role.Plain loop_here) [] [] _ (positions loop_here) (ap (λ (some : List Act). Open ∷ some ++ Close ∷ []) (sym (parts-acts []))) refl (sym shared.nodes_are) whole;
        none = refl;
      }

-- a construct that shares out a loop
module _ (which : Directive) (word : Word) (trees : List Tree) (tree : Tree) (heads : Heads trees) (shares : shares_loop which ≡ true) (apart : is_head (kind_of tree) ≡ false) (quiet : Quiet role.Plain tree) where
  abbrev over_here : Children
  over_here = kids (trees ++ tree ∷ [])

  abbrev construct_here : Tree
  construct_here = made_at (node.Construct which) word over_here

  abbrev nodes_here : List Position
  nodes_here = positions_among (kids (tree ∷ []))

  loop-is : statement_of over_here ≡ tree
  loop-is = heads.statement_behind (tree ∷ []) ∙ statement-first tree Over apart

  statements-are : (around : Role) → statements around over_here ≡ acts around tree
  unfolding statements
  statements-are around = heads.statements_behind around (tree ∷ []) ∙ statements-first around tree Over apart ∙ append-nil (acts around tree)

  nodes-are : nodes_here ≡ positions tree
  unfolding positions_among
  nodes-are = append-nil (positions tree)

  inner-acts : inner_acts which word trees (tree ∷ []) ≡ odd_acts (has_form (statement_of over_here)) ++ statements (role_with (loop_name (statement_of over_here))) over_here
  inner-acts = rw shares refl

  inside-is : positions_inside over_here ≡ positions tree
  inside-is = heads.inside_behind (tree ∷ []) ∙ inside-first tree Over apart ∙ nodes-are

  abbrev acts_over : List Act → List Act
  acts_over some = own_acts which word trees (tree ∷ []) (odd_acts (has_form (statement_of over_here)) ++ some)

  construct-named : (shared : (loop_name tree ≡ None) ⊎ DoneLoop tree) (name : Option ℕ) → loop_name (statement_of over_here) ≡ name
      → Does false (acts_over (statements (role_with name) over_here)) [] (position construct_here ∷ positions tree)
  construct-named shared None named =
      subst (λ (some : List Act). Does false (acts_over some) [] (position construct_here ∷ positions tree)) (sym (statements-are role.Plain))
      (Does.misses construct_here which (name_of_critical over_here) (acts role.Plain tree) (positions tree) refl shares named inside-is quiet.does)
  construct-named (inl unnamed) (Some name) named = absurd (let no : None ≡ Some name = sym unnamed ∙ ap loop_name (sym loop-is) ∙ named in cc)
  construct-named (inr shared) (Some name) named =
      let there : DoneLoop (statement_of over_here) = subst DoneLoop (sym loop-is) shared in
      let nodes : positions tree ≡ position (statement_of over_here) ∷ (there.parts.head_nodes ++ behind (part_declared there.parts.begins) (positions there.parts.body)) =
      ap positions (sym loop-is) ∙ there.parts.nodes_are in
      let same : statements (role.Looped name) over_here ≡ Open ∷ (there.parts.head_acts ++ Loop name ∷ acts role.Plain there.parts.body) ++ Close ∷ [] =
      statements-are (role.Looped name) ∙ ap (acts (role.Looped name)) (sym loop-is) ∙ there.parts.acts_are name in
      let it = Does.shares construct_here which (name_of_critical over_here) name there.parts refl shares named (inside-is ∙ nodes) there.head there.inner in
      subst (λ (some : List Act). Does false (acts_over some) [] (position construct_here ∷ positions tree)) (sym same)
      (subst (λ (some : List Position). Does false (acts_over (Open ∷ (there.parts.head_acts ++ Loop name ∷ acts role.Plain there.parts.body) ++ Close ∷ [])) [] (position construct_here ∷ some)) (sym nodes) it)

  construct-loop : (loop_name tree ≡ None) ⊎ DoneLoop tree → Quiet role.Plain construct_here
  unfolding outside_acts
  construct-loop shared =
      construct-quiet which word trees (tree ∷ []) heads (outside-apart tree Over apart)
      (subst (λ (some : List Act). Does false (own_acts which word trees (tree ∷ []) some) [] (position construct_here ∷ nodes_here)) (sym inner-acts)
      (subst (λ (some : List Position). Does false (acts_over (statements (role_with (loop_name (statement_of over_here))) over_here)) [] (position construct_here ∷ some)) (sym nodes-are)
      (construct-named shared (loop_name (statement_of over_here)) refl)))

pub construct-either : (which : Directive) (word : Word) (trees : List Tree) (tree : Tree) → Heads trees → is_head (kind_of tree) ≡ false → Quiet role.Plain tree → (loop_name tree ≡ None) ⊎ DoneLoop tree
    → Quiet role.Plain (made_at (node.Construct which) word (kids (trees ++ tree ∷ [])))
construct-either which word trees tree heads apart quiet shared =
    elim (cases_Bool (shares_loop which)) [
      | inl shares ↦ construct-loop which word trees tree heads shares apart quiet shared
      | inr other ↦ construct-other which word trees (tree ∷ []) heads other (executed-then tree [] apart quiet none-executed)
    ]
