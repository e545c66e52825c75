-- Statements in which something is so of each construct, and what they lead to.
use Rattle.std.proofs.Common.{ℕ, ℤ, zero, suc, ◌≡◌, ◌++◌, if◌then◌else◌, Bool, true, false, List, [], ◌∷◌, map, slice_index_or, unwrap_or}
use Rattle.std.specs.Prelude.{Option, Some, None}
use Rattle.c_syntax.specs.declared.node.BinaryOp.{BinaryOp}
use Rattle.c_syntax.specs.declared.node.Directive.{Directive}
use Rattle.c_syntax.specs.declared.node.NodeKind.TheVariants as node
use Rattle.c_syntax.specs.language.Tree.{Tree, Children, at_place, child_of, kind_of, nothing}
use Rattle.c_syntax.specs.language.Tree.Tree.{Node}
use Rattle.c_syntax.specs.language.Tree.Children.{Over, Child, Absent}
use Rattle.c_check.specs.LoopParts.{comparison_of, parts_if, parts_in, parts_with, statement_parts, step_of}
use Rattle.c_check.specs.Loops.{child_at, has_head, loop_name}
use Rattle.c_check.specs.Statements.{is_head, shares_loop, statement_of}
use Rattle.c_model.specs.Clauses.{section_statement, statements_among}
use Rattle.c_model.specs.Loops.{no_loop}
use Rattle.c_model.specs.Parts.{declarators_in, flat_declarations, parts, trees_in}
use Rattle.work_laws.proofs.Items.{AreRules, EachTree, IsConstruct}

-- this is so of each construct of a statement, and of those below some nodes
unfoldable mutual
  pub EachConstruct : (Tree → Type 0) → Tree → Type 0
  EachConstruct P (Node node.Block spot name number text children) = EachConstructIn P children
  EachConstruct P (Node node.Globals spot name number text children) = EachConstructIn P children
  EachConstruct P (Node node.Locals spot name number text children) = EachConstructIn P children
  EachConstruct P (Node node.Locks spot name number text children) = EachConstructIn P children
  EachConstruct P (Node node.If spot name number text children) = EachConstructIn P children
  EachConstruct P (Node node.While spot name number text children) = EachConstructIn P children
  EachConstruct P (Node node.For spot name number text children) = EachConstructIn P children
  EachConstruct P (Node (node.Construct which) spot name number text children) =
      P (Node (node.Construct which) spot name number text children) × EachConstructIn P children
  EachConstruct P (Node node.Section spot name number text children) = EachConstructIn P children
  EachConstruct P (Node other spot name number text children) = Unit {0}

  pub EachConstructIn : (Tree → Type 0) → Children → Type 0
  EachConstructIn P Over = Unit {0}
  EachConstructIn P (Absent rest) = EachConstructIn P rest
  EachConstructIn P (Child tree rest) = EachConstruct P tree × EachConstructIn P rest

module _ (P : Tree → Type 0) (none : P nothing) where
  none-each : EachConstruct P nothing
  unfolding EachConstruct
  none-each = tt

  at-child : (children : Children) (place : ℕ) → EachConstructIn P children → EachConstruct P (unwrap_or (at_place children place) nothing)
  unfolding EachConstruct EachConstructIn
  at-child Over place are = tt
  at-child (Child tree rest) zero are = are.0
  at-child (Child tree rest) (suc place) are = at-child rest place are.1
  at-child (Absent rest) zero are = tt
  at-child (Absent rest) (suc place) are = at-child rest place are

  -- ---- a block

  each-part : (children : Children) → EachConstructIn P children → EachTree (EachConstruct P) (trees_in children)
  unfolding EachConstructIn trees_in
  each-part Over are = tt
  each-part (Absent rest) are = tt
  each-part (Child tree rest) are = (are.0, each-part rest are.1)

  both-parts : (some more : List Tree) → EachTree (EachConstruct P) some → EachTree (EachConstruct P) more → EachTree (EachConstruct P) (some ++ more)
  both-parts [] more are also = also
  both-parts (tree ∷ some) more are also = (are.0, both-parts some more are.1 also)

  flat-parts : (tree : Tree) → EachConstruct P tree → EachTree (EachConstruct P) (declarators_in (kind_of tree) tree)
  unfolding EachConstruct
  flat-parts (Node node.Globals spot name number text children) is = each-part children is
  flat-parts (Node node.Locals spot name number text children) is = each-part children is
  flat-parts (Node node.Locks spot name number text children) is = each-part children is
  flat-parts (Node other spot name number text children) is = (is, tt)

  block-parts : (children : Children) → EachConstructIn P children → EachTree (EachConstruct P) (flat_declarations (trees_in children))
  unfolding EachConstructIn trees_in flat_declarations
  block-parts Over are = tt
  block-parts (Absent rest) are = tt
  block-parts (Child tree rest) are =
      both-parts (declarators_in (kind_of tree) tree) (flat_declarations (trees_in rest)) (flat-parts tree are.0) (block-parts rest are.1)

  -- ---- a construct

  chosen : (head : Bool) (tree other : Tree) → EachConstruct P tree → EachConstruct P other → EachConstruct P (if head then other else tree)
  chosen true tree other is also = also
  chosen false tree other is also = is

  in-statement : (children : Children) → EachConstructIn P children → EachConstruct P (statement_of children)
  unfolding EachConstructIn EachConstruct statement_of
  in-statement Over are = tt
  in-statement (Absent rest) are = tt
  in-statement (Child tree rest) are = chosen (is_head (kind_of tree)) tree (statement_of rest) are.0 (in-statement rest are.1)

  in-section : (tree : Tree) → EachConstruct P tree → EachConstruct P (section_statement (kind_of tree) tree)
  unfolding EachConstruct
  in-section (Node node.Section spot name number text children) is = at-child children 0 is
  in-section (Node other spot name number text children) is = is

  behind-section : (head : Bool) (tree : Tree) (trees : List Tree) (place : ℕ) → EachConstruct P tree
      → ((place : ℕ) → EachConstruct P (slice_index_or (map (λ (tree : Tree). section_statement (kind_of tree) tree) trees) place nothing))
      → EachConstruct P (slice_index_or (map (λ (tree : Tree). section_statement (kind_of tree) tree) (if head then trees else tree ∷ trees)) place nothing)
  behind-section true tree trees place is each = each place
  behind-section false tree trees zero is each = in-section tree is
  behind-section false tree trees (suc place) is each = each place

  among-sections : (children : Children) → EachConstructIn P children → (place : ℕ)
      → EachConstruct P (slice_index_or (map (λ (tree : Tree). section_statement (kind_of tree) tree) (statements_among (trees_in children))) place nothing)
  unfolding EachConstructIn EachConstruct statements_among trees_in
  among-sections Over are place = tt
  among-sections (Absent rest) are place = tt
  among-sections (Child tree rest) are place =
      behind-section (is_head (kind_of tree)) tree (statements_among (trees_in rest)) place are.0 (among-sections rest are.1)

  -- the body of the loop that it shares out
  body-with : (variable start end body : Option Tree) (comparison : Option BinaryOp) (step : Option ℤ) → EachConstruct P (unwrap_or body nothing)
      → EachConstruct P (unwrap_or (parts_with variable start end body comparison step) no_loop).body
  body-with (Some variable) (Some start) (Some end) (Some body) (Some comparison) (Some step) is = is
  body-with variable start end body comparison step is = none-each

  body-if : (has : Bool) (tree : Tree) → EachConstruct P (child_at tree 3) → EachConstruct P (unwrap_or (if has then parts_in tree else None) no_loop).body
  body-if false tree is = none-each
  body-if true tree is =
      body-with (child_of (child_at tree 0) 0) (child_of (child_at tree 0) 1) (child_of (child_at tree 1) 1) (child_of tree 3)
      (comparison_of (kind_of (child_at tree 1))) (step_of (child_at tree 2)) is

  body-named : (name : Option ℕ) (tree : Tree) → EachConstruct P (child_at tree 3) → EachConstruct P (unwrap_or (parts_if name tree) no_loop).body
  body-named None tree is = none-each
  body-named (Some name) tree is = body-if (has_head name tree) tree is

  body-of : (tree : Tree) → EachConstruct P tree → EachConstruct P (unwrap_or (statement_parts tree) no_loop).body
  unfolding EachConstruct
  body-of (Node node.For spot name number text children) is =
      let tree = Node node.For spot name number text children in body-named (loop_name tree) tree (at-child children 3 is)
  body-of (Node other spot name number text children) is = none-each

  body-shared : (shares : Bool) (tree : Tree) → EachConstruct P tree → EachConstruct P (unwrap_or (if shares then statement_parts tree else None) no_loop).body
  body-shared false tree is = none-each
  body-shared true tree is = body-of tree is

  construct-each : (tree : Tree) (which : Directive) → kind_of tree ≡ node.Construct which → EachConstruct P tree → IsConstruct (EachConstruct P) P tree
  unfolding EachConstruct
  construct-each (Node (node.Construct directive) spot name number text children) which kind is =
      record {
        statement = in-statement children is.1;
        section = among-sections children is.1;
        body = body-shared (shares_loop directive) (statement_of children) (in-statement children is.1);
        self = is.0;
      }
  construct-each (Node other spot name number text children) which kind is = cc

  no-construct : IsConstruct (EachConstruct P) P nothing
  unfolding EachConstruct statement_of statements_among trees_in
  no-construct = record { statement = tt; section = λ place. tt; body = tt; self = none }

  -- ---- plain statements

  block-each : (tree : Tree) → kind_of tree ≡ node.Block → EachConstruct P tree → EachTree (EachConstruct P) (flat_declarations (parts tree))
  unfolding EachConstruct
  block-each (Node node.Block spot name number text children) kind is = block-parts children is
  block-each (Node other spot name number text children) kind is = cc

  branches-each : (tree : Tree) → kind_of tree ≡ node.If → EachConstruct P tree → EachConstruct P (child_at tree 1) × EachConstruct P (child_at tree 2)
  unfolding EachConstruct
  branches-each (Node node.If spot name number text children) kind is = (at-child children 1 is, at-child children 2 is)
  branches-each (Node other spot name number text children) kind is = cc

  repeated-each : (tree : Tree) → kind_of tree ≡ node.While → EachConstruct P tree → EachConstruct P (child_at tree 1)
  unfolding EachConstruct
  repeated-each (Node node.While spot name number text children) kind is = at-child children 1 is
  repeated-each (Node other spot name number text children) kind is = cc

  looped-each : (tree : Tree) → kind_of tree ≡ node.For → EachConstruct P tree → EachConstruct P (child_at tree 3)
  unfolding EachConstruct
  looped-each (Node node.For spot name number text children) kind is = at-child children 3 is
  looped-each (Node other spot name number text children) kind is = cc

  pub each-rules : AreRules (EachConstruct P) P
  each-rules =
      record {
        none = none-each;
        no_construct = no-construct;
        block = block-each;
        branches = branches-each;
        repeated = repeated-each;
        looped = looped-each;
        construct = construct-each;
      }
