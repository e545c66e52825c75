-- The table's rules of statements, blocks and sections do no more than what these sorts mean.
use Rattle.std.proofs.Common.{ℕ, ◌≡◌, ◌<◌, ◌+◌, ◌⊎◌, inl, inr, Bool, true, false, List, [], ◌∷◌, Option, Some, None, refl, sym, ap, subst, ◌∙◌}
use Rattle.std.proofs.lemmas.Bool.{false≢true}
use Rattle.c_syntax.specs.declared.grammar.Sort.TheVariants as sort
use Rattle.c_syntax.specs.declared.head.Head.{Head}
use Rattle.c_syntax.specs.declared.head.Head.TheVariants as head
use Rattle.c_syntax.specs.declared.node.Bump.TheVariants as bump
use Rattle.c_syntax.specs.declared.node.Directive.{Directive}
use Rattle.c_syntax.specs.declared.node.LockCall.TheVariants as lock_call
use Rattle.c_syntax.specs.declared.node.NodeKind.TheVariants as node
use Rattle.c_syntax.specs.declared.node.Standalone.{Standalone}
use Rattle.c_syntax.specs.declared.node.Standalone.TheVariants as standalone
use Rattle.c_syntax.specs.declared.term.Term.{Term}
use Rattle.c_syntax.specs.declared.term.Term.TheVariants as term
use Rattle.c_syntax.specs.language.Words.{Word}
use Rattle.c_syntax.specs.language.Tree.{Tree, before}
use Rattle.c_syntax.specs.language.Tree.Children.{Over, Child, Absent}
use Rattle.c_syntax.specs.workings.Grammar.{choice}
use Rattle.c_syntax.specs.workings.Derivation.{Opened, made, opened_at, with_child}
use Rattle.c_syntax.specs.language.Productions.{Block, ConditionPart, Construct, Expression, FirstPart, Is, Items, NoElse, Statement, StepPart, Value, kids, made_at, maybe, standalone_word}
use Rattle.c_syntax.proofs.CallMeaning.{ReadsCondition, ReadsFirst, ReadsStatement, ReadsThird}
use Rattle.c_syntax.proofs.CallRows.{by_name}
use Rattle.c_syntax.proofs.ClauseFolds.{Does, did}
use Rattle.c_syntax.proofs.Effects.{Effect, Expects, Folds, Makes, Rises}
use Rattle.c_syntax.proofs.ExpressionFolds.{ReadsRanked, lowered}
use Rattle.c_syntax.proofs.HeadMeaning.{Body, Constructed, Deeper, ReadsConstruct}
use Rattle.c_syntax.proofs.Pushing.{all_added, made-pushed, plus}
use Rattle.c_syntax.proofs.SortMeaning.{reads}
use Rattle.c_syntax.proofs.Standing.{Stands}
use Rattle.c_syntax.proofs.Standing.Stands.{stands}
use Rattle.c_syntax.proofs.StatementMeaning.{ElsePart, ReadsElsePart, ReadsItems, ReadsReturnPart}
use Rattle.c_syntax.proofs.StatementRows.{statement_bumped, statement_lock, statement_print, statement_test}

-- the line of a directive with its `#`, and what stands behind it, is a construct
pub constructed-construct : {limit depth : ℕ} {which : Directive} {words rest : List Word} {trees : List Tree} {word : Word} → Is term.Pragma word → depth < limit
    → Constructed limit (depth + 1) which words rest trees → Construct limit depth (word ∷ words) rest (made_at (node.Construct which) word (kids trees))
constructed-construct is low (Constructed.constructed directed ends (Body.statement plain statement)) = Construct.around is low plain directed ends statement
constructed-construct is low (Constructed.constructed directed ends (Body.sections are parts)) = Construct.in_sections is low are directed ends parts

-- the children of a loop, of which some may be absent
loop-children : (begins tests steps : Option Tree) (tree : Tree) → before (Some tree ∷ steps ∷ tests ∷ begins ∷ []) Over ≡ maybe begins (maybe tests (maybe steps (Child tree Over)))
loop-children None None None tree = refl
loop-children None None (Some steps) tree = refl
loop-children None (Some tests) None tree = refl
loop-children None (Some tests) (Some steps) tree = refl
loop-children (Some begins) None None tree = refl
loop-children (Some begins) None (Some steps) tree = refl
loop-children (Some begins) (Some tests) None tree = refl
loop-children (Some begins) (Some tests) (Some steps) tree = refl

module _ (limit depth : ℕ) (next : Effect) (word : Word) (own : Opened) (outer : List Opened) where
  -- a statement that begins with the word, and what goes on behind it
  abbrev Done : List Word → Type 0
  Done words = (rest : List Word) × (tree : Tree) × Statement limit depth (word ∷ words) rest tree × next depth head.Outside rest (with_child (Some tree) own ∷ outer)

  abbrev begun : Opened
  begun = opened_at word.spot

  pub construct_done : (words : List Word) → Is term.Pragma word → depth < limit → ReadsConstruct limit next (depth + 1) head.Directive words (begun ∷ own ∷ outer) → Done words
  construct_done words is low read =
      let inner = read stands in (
        inner.1,
        made_at (node.Construct inner.0) word (kids inner.2),
        Statement.construct (constructed-construct is low inner.3),
        subst (λ nodes. next depth head.Outside inner.1 nodes) (made-pushed (node.Construct inner.0) inner.2 begun own outer)
            (lowered next depth head.Outside inner.1 (made (node.Construct inner.0) (all_added inner.2 (begun ∷ own ∷ outer))) inner.4),
      )

  -- `if`
  if_else : (first last : Word) (words behind middle rest : List Word) (condition tree : Tree) (child : Option Tree) → Is term.If word → depth < limit → Is term.OpenParen first
      → Expression limit (depth + 1) head.Outside words (last ∷ behind) condition → Is term.CloseParen last → Statement limit (depth + 1) behind middle tree → ElsePart limit (depth + 1) middle rest child
      → Makes node.If (Rises next) (depth + 1) head.Outside rest (plus child (with_child (Some tree) (with_child (Some condition) begun) ∷ own ∷ outer)) → Done (first ∷ words)
  if_else first last words behind middle rest condition tree child is low opens expression closes statement (ElsePart.none none) goes = (
    rest,
    made_at node.If word (Child condition (Child tree (Absent Over))),
    Statement.if_alone is low opens expression closes statement none,
    lowered next depth head.Outside rest (with_child (Some (made_at node.If word (Child condition (Child tree (Absent Over))))) own ∷ outer) goes,
  )
  if_else first last words behind middle rest condition tree child is low opens expression closes statement (ElsePart.some {tree = second} other more) goes = (
    rest,
    made_at node.If word (kids (condition ∷ tree ∷ second ∷ [])),
    Statement.if_else is low opens expression closes statement other more,
    lowered next depth head.Outside rest (with_child (Some (made_at node.If word (kids (condition ∷ tree ∷ second ∷ [])))) own ∷ outer) goes,
  )

  if_body : (first : Word) (words rest : List Word) (condition : Tree) → Is term.If word → depth < limit → Is term.OpenParen first → Expression limit (depth + 1) head.Outside words rest condition
      → Expects term.CloseParen (ReadsStatement limit (ReadsElsePart limit (Makes node.If (Rises next)))) (depth + 1) head.Outside rest (with_child (Some condition) begun ∷ own ∷ outer)
      → Done (first ∷ words)
  if_body first words [] condition is low opens expression run = absurd run
  if_body first words (last ∷ behind) condition is low opens expression (closes, read) =
      let body = read stands in
      let other = body.3 stands in
      if_else first last words behind body.0 other.0 condition body.1 other.1 is low opens expression closes body.2 other.2 other.3

  if_done : (words : List Word) → Is term.If word → depth < limit
      → Expects term.OpenParen (ReadsRanked limit 0 (Expects term.CloseParen (ReadsStatement limit (ReadsElsePart limit (Makes node.If (Rises next)))))) (depth + 1) head.Outside words (begun ∷ own ∷ outer)
      → Done words
  if_done [] is low run = absurd run
  if_done (first ∷ words) is low (opens, read) = let inner = read refl in if_body first words inner.0 inner.1 is low opens inner.2 inner.3

  -- `while`
  while_body : (first : Word) (words rest : List Word) (condition : Tree) → Is term.While word → depth < limit → Is term.OpenParen first → Expression limit (depth + 1) head.Outside words rest condition
      → Expects term.CloseParen (ReadsStatement limit (Makes node.While (Rises next))) (depth + 1) head.Outside rest (with_child (Some condition) begun ∷ own ∷ outer) → Done (first ∷ words)
  while_body first words [] condition is low opens expression run = absurd run
  while_body first words (last ∷ behind) condition is low opens expression (closes, read) =
      let body = read stands in (
        body.0,
        made_at node.While word (kids (condition ∷ body.1 ∷ [])),
        Statement.while is low opens expression closes body.2,
        lowered next depth head.Outside body.0 (with_child (Some (made_at node.While word (kids (condition ∷ body.1 ∷ [])))) own ∷ outer) body.3,
      )

  while_done : (words : List Word) → Is term.While word → depth < limit
      → Expects term.OpenParen (ReadsRanked limit 0 (Expects term.CloseParen (ReadsStatement limit (Makes node.While (Rises next))))) (depth + 1) head.Outside words (begun ∷ own ∷ outer) → Done words
  while_done [] is low run = absurd run
  while_done (first ∷ words) is low (opens, read) = let inner = read refl in while_body first words inner.0 inner.1 is low opens inner.2 inner.3

  -- `for`
  for_body : (first one two : Word) (words second third rest : List Word) (begins tests steps : Option Tree) → Is term.For word → depth < limit → Is term.OpenParen first
      → FirstPart limit (depth + 1) words (one ∷ second) begins → Is term.Semicolon one → ConditionPart limit (depth + 1) second (two ∷ third) tests → Is term.Semicolon two
      → StepPart limit (depth + 1) third rest steps
      → Expects term.CloseParen (ReadsStatement limit (Makes node.For (Rises next))) (depth + 1) head.Outside rest
      (with_child steps (with_child tests (with_child begins begun)) ∷ own ∷ outer)
      → Done (first ∷ words)
  for_body first one two words second third [] begins tests steps is low opens at_first ends_one at_second ends_two at_third run = absurd run
  for_body first one two words second third (last ∷ behind) begins tests steps is low opens at_first ends_one at_second ends_two at_third (closes, read) =
      let body = read stands in (
        body.0,
        made_at node.For word (maybe begins (maybe tests (maybe steps (Child body.1 Over)))),
        Statement.loop is low opens at_first ends_one at_second ends_two at_third closes body.2,
        subst (λ children. next depth head.Outside body.0 (with_child (Some (made_at node.For word children)) own ∷ outer)) (loop-children begins tests steps body.1)
            (lowered next depth head.Outside body.0 (with_child (Some (made_at node.For word (before (Some body.1 ∷ steps ∷ tests ∷ begins ∷ []) Over))) own ∷ outer) body.3),
      )

  for_third : (first one : Word) (words second rest : List Word) (begins tests : Option Tree) → Is term.For word → depth < limit → Is term.OpenParen first
      → FirstPart limit (depth + 1) words (one ∷ second) begins → Is term.Semicolon one → ConditionPart limit (depth + 1) second rest tests
      → Expects term.Semicolon (ReadsThird limit (Expects term.CloseParen (ReadsStatement limit (Makes node.For (Rises next))))) (depth + 1) head.Outside rest
      (with_child tests (with_child begins begun) ∷ own ∷ outer)
      → Done (first ∷ words)
  for_third first one words second [] begins tests is low opens at_first ends_one at_second run = absurd run
  for_third first one words second (two ∷ third) begins tests is low opens at_first ends_one at_second (ends_two, read) =
      let inner = read stands in
      for_body first one two words second third inner.0 begins tests inner.1 is low opens at_first ends_one at_second ends_two inner.2 inner.3

  for_second : (first : Word) (words rest : List Word) (begins : Option Tree) → Is term.For word → depth < limit → Is term.OpenParen first
      → FirstPart limit (depth + 1) words rest begins
      → Expects term.Semicolon (ReadsCondition limit (Expects term.Semicolon (ReadsThird limit (Expects term.CloseParen (ReadsStatement limit (Makes node.For (Rises next))))))) (depth + 1) head.Outside rest
      (with_child begins begun ∷ own ∷ outer)
      → Done (first ∷ words)
  for_second first words [] begins is low opens at_first run = absurd run
  for_second first words (one ∷ second) begins is low opens at_first (ends_one, read) =
      let inner = read stands in
      for_third first one words second inner.0 begins inner.1 is low opens at_first ends_one inner.2 inner.3

  for_done : (words : List Word) → Is term.For word → depth < limit
      → Expects term.OpenParen (ReadsFirst limit (Expects term.Semicolon (ReadsCondition limit (Expects term.Semicolon (ReadsThird limit (Expects term.CloseParen (ReadsStatement limit (Makes node.For (Rises next))))))))) (depth + 1) head.Outside words (begun ∷ own ∷ outer)
      → Done words
  for_done [] is low run = absurd run
  for_done (first ∷ words) is low (opens, read) = let inner = read stands in for_second first words inner.0 inner.1 is low opens inner.2 inner.3

  -- `return`
  return_value : (words rest : List Word) (tree : Tree) → Is term.Return word → Value limit depth words rest tree
      → Expects term.Semicolon (Makes node.Return next) depth head.Outside rest (with_child (Some tree) begun ∷ own ∷ outer) → Done words
  return_value words [] tree is value run = absurd run
  return_value words (last ∷ rest) tree is value (ends, goes) = (rest, made_at node.Return word (kids (tree ∷ [])), Statement.returns_value is value ends, goes)

  return_done : (words : List Word) → Is term.Return word → ReadsReturnPart limit (Expects term.Semicolon (Makes node.Return next)) depth head.Outside words (begun ∷ own ∷ outer) → Done words
  return_done [] is (inl run) = absurd run
  return_done (last ∷ rest) is (inl run) = (rest, made_at node.Return word Over, Statement.returns is run.0, run.1)
  return_done words is (inr read) = let inner = read stands in return_value words inner.0 inner.1 is inner.2 inner.3

  plain_done : (words : List Word) (ahead : Term) → Does limit next depth head.Outside (word ∷ words) (own ∷ outer) (Done words) (choice sort.PlainStatement ahead)
  plain_done words term.Semicolon = λ run. (words, made_at node.Empty word Over, Statement.empty run.0, run.1)
  plain_done words term.OpenBrace = λ run. let inner = run stands in (inner.0, inner.1, Statement.braced inner.2, inner.3)
  plain_done words term.If = λ run. if_done words run.0 run.1 run.2
  plain_done words term.While = λ run. while_done words run.0 run.1 run.2
  plain_done words term.For = λ run. for_done words run.0 run.1 run.2
  plain_done words term.Return = λ run. return_done words run.0 run.1
  plain_done words term.Printf = λ run. statement_print limit next depth head.Outside (word ∷ words) (own ∷ outer) run stands
  plain_done words term.InitLock = λ run. statement_lock limit lock_call.Init next depth head.Outside (word ∷ words) (own ∷ outer) run stands
  plain_done words term.DestroyLock = λ run. statement_lock limit lock_call.Destroy next depth head.Outside (word ∷ words) (own ∷ outer) run stands
  plain_done words term.SetLock = λ run. statement_lock limit lock_call.Set next depth head.Outside (word ∷ words) (own ∷ outer) run stands
  plain_done words term.UnsetLock = λ run. statement_lock limit lock_call.Unset next depth head.Outside (word ∷ words) (own ∷ outer) run stands
  plain_done words term.TestLock = λ run. statement_test limit next depth head.Outside (word ∷ words) (own ∷ outer) run stands
  plain_done words term.PlusPlus = λ run. statement_bumped limit bump.Increment next depth head.Outside (word ∷ words) (own ∷ outer) run stands
  plain_done words term.MinusMinus = λ run. statement_bumped limit bump.Decrement next depth head.Outside (word ∷ words) (own ∷ outer) run stands
  plain_done words other = λ run. by_name (ReadsStatement limit next) depth word words (own ∷ outer) run stands

  statement_done : (words : List Word) (ahead : Term) → Does limit next depth head.Outside (word ∷ words) (own ∷ outer) (Done words) (choice sort.Statement ahead)
  statement_done words term.Pragma = λ run. construct_done words run.0 run.1 run.2
  statement_done words other = λ run. run stands

plain_stands : (limit : ℕ) (next : Effect) (depth : ℕ) (at : Head) (word : Word) (words : List Word) (nodes : List Opened) → Stands head.Outside at nodes
    → Does limit next depth at (word ∷ words) nodes ((rest : List Word) × (tree : Tree) × Statement limit depth (word ∷ words) rest tree × next depth head.Outside rest (plus (Some tree) nodes))
    (choice sort.PlainStatement word.term)
plain_stands limit next depth at word words nodes (stands {own} {outer}) = plain_done limit depth next word own outer words word.term

pub plain_statement_fold : (limit : ℕ) → Folds limit (reads limit) sort.PlainStatement
plain_statement_fold limit word chosen same next depth at words nodes run = λ place.
    did limit next depth at (word ∷ words) nodes _ _ chosen (plain_stands limit next depth at word words nodes place) same run

statement_stands : (limit : ℕ) (next : Effect) (depth : ℕ) (at : Head) (word : Word) (words : List Word) (nodes : List Opened) → Stands head.Outside at nodes
    → Does limit next depth at (word ∷ words) nodes ((rest : List Word) × (tree : Tree) × Statement limit depth (word ∷ words) rest tree × next depth head.Outside rest (plus (Some tree) nodes))
    (choice sort.Statement word.term)
statement_stands limit next depth at word words nodes (stands {own} {outer}) = statement_done limit depth next word own outer words word.term

pub statement_fold : (limit : ℕ) → Folds limit (reads limit) sort.Statement
statement_fold limit word chosen same next depth at words nodes run = λ place.
    did limit next depth at (word ∷ words) nodes _ _ chosen (statement_stands limit next depth at word words nodes place) same run

return_part_done : (limit : ℕ) (next : Effect) (depth : ℕ) (at : Head) (words : List Word) (nodes : List Opened) (ahead : Term)
    → Does limit next depth at words nodes (ReadsReturnPart limit next depth at words nodes) (choice sort.ReturnPart ahead)
return_part_done limit next depth at words nodes term.Semicolon = λ run. inl run
return_part_done limit next depth at words nodes other = λ run. inr run

pub return_part_fold : (limit : ℕ) → Folds limit (reads limit) sort.ReturnPart
return_part_fold limit word chosen same next depth at words nodes run = did limit next depth at (word ∷ words) nodes _ _ chosen (return_part_done limit next depth at (word ∷ words) nodes word.term) same run

abbrev is_else : Term → Bool
is_else term.Else = true
is_else other = false

no-else : (word : Word) (words : List Word) → is_else word.term ≡ false → NoElse (word ∷ words)
no-else word words none is = false≢true (sym none ∙ ap is_else is)

else_part_done : (limit : ℕ) (next : Effect) (depth : ℕ) (at : Head) (word : Word) (words : List Word) (nodes : List Opened) → Stands head.Outside at nodes → (ahead : Term) → word.term ≡ ahead
    → Does limit next depth at (word ∷ words) nodes ((rest : List Word) × (child : Option Tree) × ElsePart limit depth (word ∷ words) rest child × next depth head.Outside rest (plus child nodes))
    (choice sort.ElsePart ahead)
else_part_done limit next depth at word words nodes (stands {own} {outer}) term.Else is = λ run.
    let inner = run.1 stands in
    (inner.0, Some inner.1, ElsePart.some run.0 inner.2, inner.3)
else_part_done limit next depth at word words nodes (stands {own} {outer}) other is = λ run. (word ∷ words, None, ElsePart.none (no-else word words (ap is_else is)), run)

pub else_part_fold : (limit : ℕ) → Folds limit (reads limit) sort.ElsePart
else_part_fold limit word chosen same next depth at words nodes run = λ place.
    did limit next depth at (word ∷ words) nodes _ _ chosen (else_part_done limit next depth at word words nodes place word.term refl) same run

-- ---- blocks

block_ends : (limit depth : ℕ) (next : Effect) (word : Word) (own : Opened) (outer : List Opened) (words rest : List Word) (trees : List Tree) → Is term.OpenBrace word → depth < limit
    → Items limit (depth + 1) words rest trees
    → Expects term.CloseBrace (Makes node.Block (Rises next)) (depth + 1) head.Outside rest (all_added trees (opened_at word.spot ∷ own ∷ outer))
    → (rest : List Word) × (tree : Tree) × Block limit depth (word ∷ words) rest tree × next depth head.Outside rest (with_child (Some tree) own ∷ outer)
block_ends limit depth next word own outer words [] trees is low items run = absurd run
block_ends limit depth next word own outer words (last ∷ rest) trees is low items (closes, goes) = (
  rest,
  made_at node.Block word (kids trees),
  Block.block is low items closes,
  subst (λ nodes. next depth head.Outside rest nodes) (made-pushed node.Block trees (opened_at word.spot) own outer)
      (lowered next depth head.Outside rest (made node.Block (all_added trees (opened_at word.spot ∷ own ∷ outer))) goes),
)

block_done : (limit : ℕ) (next : Effect) (depth : ℕ) (at : Head) (word : Word) (words : List Word) (nodes : List Opened) → Stands head.Outside at nodes
    → Does limit next depth at (word ∷ words) nodes ((rest : List Word) × (tree : Tree) × Block limit depth (word ∷ words) rest tree × next depth head.Outside rest (plus (Some tree) nodes))
    (choice sort.Block word.term)
block_done limit next depth at word words nodes (stands {own} {outer}) = λ run.
    let items = run.2 stands in
    block_ends limit depth next word own outer words items.0 items.1 run.0 run.1 items.2 items.3

pub block_fold : (limit : ℕ) → Folds limit (reads limit) sort.Block
block_fold limit word chosen same next depth at words nodes run = λ place. did limit next depth at (word ∷ words) nodes _ _ chosen (block_done limit next depth at word words nodes place) same run

module _ (limit depth : ℕ) (next : Effect) (word : Word) (own : Opened) (outer : List Opened) where
  abbrev Listed : List Word → Type 0
  Listed words = (rest : List Word) × (trees : List Tree) × Items limit depth (word ∷ words) rest trees × next depth head.Outside rest (all_added trees (own ∷ outer))

  -- a directive without statement
  alone_ends : (which : Standalone) (told : Word) (words : List Word) → Is term.Pragma word → Is (standalone_word which) told
      → Expects term.PragmaEnd (Makes (node.Standalone which) (ReadsItems limit next)) depth head.Bare words (opened_at word.spot ∷ own ∷ outer) → Listed (told ∷ words)
  alone_ends which told [] is tells run = absurd run
  alone_ends which told (last ∷ rest) is tells (ends, read) =
      let others = read stands in
      (others.0, made_at (node.Standalone which) word Over ∷ others.1, Items.alone which is tells ends others.2, others.3)

  alone_done : (which : Standalone) (words : List Word) → Is term.Pragma word
      → Expects (standalone_word which) (Expects term.PragmaEnd (Makes (node.Standalone which) (ReadsItems limit next))) depth head.Directive words (opened_at word.spot ∷ own ∷ outer) → Listed words
  alone_done which [] is run = absurd run
  alone_done standalone.Barrier (told ∷ words) is (tells, run) = alone_ends standalone.Barrier told words is tells run
  alone_done standalone.Taskwait (told ∷ words) is (tells, run) = alone_ends standalone.Taskwait told words is tells run

  directive_item : (words : List Word) → Is term.Pragma word
      → Deeper limit (ReadsItems limit next) depth words (opened_at word.spot ∷ own ∷ outer)
      ⊎ ((which : Standalone) × Expects (standalone_word which) (Expects term.PragmaEnd (Makes (node.Standalone which) (ReadsItems limit next))) depth head.Directive words (opened_at word.spot ∷ own ∷ outer))
      → Listed words
  directive_item words is (inl (which, rest, trees, low, constructed, goes)) =
      let others = subst (λ nodes. ReadsItems limit next depth head.Outside rest nodes) (made-pushed (node.Construct which) trees (opened_at word.spot) own outer) goes stands in
      (others.0, made_at (node.Construct which) word (kids trees) ∷ others.1, Items.statement (Statement.construct (constructed-construct is low constructed)) others.2, others.3)
  directive_item words is (inr (which, run)) = alone_done which words is run

  items_done : (words : List Word) (ahead : Term) → Does limit next depth head.Outside (word ∷ words) (own ∷ outer) (Listed words) (choice sort.Items ahead)
  items_done words term.CloseBrace = λ run. (word ∷ words, [], Items.none, run)
  items_done words term.Int = λ run.
      let first = run stands in
      let others = first.3 stands in
      (others.0, first.1 ∷ others.1, Items.locals first.2 others.2, others.3)
  items_done words term.LockType = λ run.
      let first = run stands in
      let others = first.3 stands in
      (others.0, first.1 ∷ others.1, Items.locks first.2 others.2, others.3)
  items_done words term.Pragma = λ run. directive_item words run.0 (run.1 stands)
  items_done words other = λ run.
      let first = run stands in
      let others = first.3 stands in
      (others.0, first.1 ∷ others.1, Items.statement first.2 others.2, others.3)

items_stands : (limit : ℕ) (next : Effect) (depth : ℕ) (at : Head) (word : Word) (words : List Word) (nodes : List Opened) → Stands head.Outside at nodes
    → Does limit next depth at (word ∷ words) nodes ((rest : List Word) × (trees : List Tree) × Items limit depth (word ∷ words) rest trees × next depth head.Outside rest (all_added trees nodes))
    (choice sort.Items word.term)
items_stands limit next depth at word words nodes (stands {own} {outer}) = items_done limit depth next word own outer words word.term

pub items_fold : (limit : ℕ) → Folds limit (reads limit) sort.Items
items_fold limit word chosen same next depth at words nodes run = λ place. did limit next depth at (word ∷ words) nodes _ _ chosen (items_stands limit next depth at word words nodes place) same run
