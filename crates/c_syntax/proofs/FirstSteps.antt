-- By which steps the table reads what begins with a name, and what begins with another word of an expression, outside of heads: a derivation of an
-- expression or of a place serves the sorts in which a call, an assignment or a statement may stand there too.
use Rattle.std.proofs.Common.{ℕ, ◌≡◌, ◌⊎◌, Bool, true, false, ◌||◌, IsTrue, List, [], ◌∷◌, ◌++◌, Some, refl, sym, subst, ◌∙◌, inl, inr}
use Rattle.std.proofs.lemmas.Bool.{false≢true}
use Rattle.c_syntax.specs.declared.grammar.Class.TheVariants as class
use Rattle.c_syntax.specs.declared.grammar.Sort.{Sort}
use Rattle.c_syntax.specs.declared.grammar.Sort.TheVariants as sort
use Rattle.c_syntax.specs.declared.grammar.Step.{Step}
use Rattle.c_syntax.specs.declared.grammar.Step.TheVariants.{Take, Read, Open, Make, Join, Wrap}
use Rattle.c_syntax.specs.declared.head.Head.{Head}
use Rattle.c_syntax.specs.declared.head.Head.TheVariants as head
use Rattle.c_syntax.specs.declared.node.Setting.TheVariants as setting
use Rattle.c_syntax.specs.declared.node.NodeKind.TheVariants as node
use Rattle.c_syntax.specs.declared.term.Term.{Term}
use Rattle.c_syntax.specs.declared.term.Term.TheVariants as term
use Rattle.c_syntax.specs.language.Heads.{behind}
use Rattle.c_syntax.specs.language.Words.{Word}
use Rattle.c_syntax.specs.language.Tree.{Tree}
use Rattle.c_syntax.specs.workings.Grammar.{choice, right, after_right_name, assign_right, after_assign_name, plain_statement, after_statement_name, unary, args, init_part, cond_part, step_part}
use Rattle.c_syntax.specs.language.WordClasses.{is_name}
use Rattle.c_syntax.specs.workings.Derivation.{Derives, Opened, kept, opened_at}
use Rattle.c_syntax.proofs.FirstWords.{Begins, NoParen, begins, leads, no_paren}
use Rattle.c_syntax.proofs.OutsideSteps.{pick, picked, name-outside, read_where, take_name}

-- what the table says of these words
abbrev tails : List Step
tails = Read sort.ProdTail ∷ Read sort.SumTail ∷ Read sort.RelTail ∷ Read sort.EqualTail ∷ Read sort.AndTail ∷ Read sort.OrTail ∷ []

right-named : (word : Term) → right word ≡ pick (is_name word) (Some (Open ∷ Take class.Name ∷ Read sort.AfterRightName ∷ [])) (right word)
right-named term.OpenBrace = refl
right-named other = refl

right-leading : (word : Term) → right word ≡ pick (leads word) (Some (Read sort.Unary ∷ tails)) (right word)
right-leading term.OpenBrace = refl
right-leading other = refl

after_right_name-bare : (word : Term) → after_right_name word ≡ pick (no_paren word) (Some (Read sort.IndexPart ∷ Make node.Place ∷ tails)) (after_right_name word)
after_right_name-bare term.OpenBrace = refl
after_right_name-bare other = refl

abbrev set_steps : List Step
set_steps = Join (node.Assign setting.Plain) ∷ Wrap node.Step ∷ []

assign_right-named : (word : Term) → assign_right word ≡ pick (is_name word) (Some (Open ∷ Take class.Name ∷ Read sort.AfterAssignName ∷ [])) (assign_right word)
assign_right-named term.OpenBrace = refl
assign_right-named other = refl

assign_right-leading : (word : Term) → assign_right word ≡ pick (leads word) (Some (Read sort.Unary ∷ tails ++ set_steps)) (assign_right word)
assign_right-leading term.OpenBrace = refl
assign_right-leading other = refl

after_assign_name-bare : (word : Term) → after_assign_name word ≡ pick (no_paren word) (Some (Read sort.IndexPart ∷ Make node.Place ∷ tails ++ set_steps)) (after_assign_name word)
after_assign_name-bare term.OpenBrace = refl
after_assign_name-bare other = refl

plain_statement-named : (word : Term) → plain_statement word ≡ pick (is_name word) (Some (Open ∷ Take class.Name ∷ Read sort.AfterStatementName ∷ [])) (plain_statement word)
plain_statement-named term.OpenBrace = refl
plain_statement-named other = refl

after_statement_name-bare : (word : Term) → after_statement_name word ≡ pick (no_paren word) (Some (Read sort.IndexPart ∷ Make node.Place ∷ Read sort.AfterPlace ∷ [])) (after_statement_name word)
after_statement_name-bare term.OpenBrace = refl
after_statement_name-bare other = refl

abbrev place_steps : List Step
place_steps = Open ∷ Take class.Name ∷ Read sort.IndexPart ∷ Make node.Place ∷ []

unary-named : (word : Term) → unary word ≡ pick (is_name word) (Some place_steps) (unary word)
unary-named term.OpenBrace = refl
unary-named other = refl

args-beginning : (word : Term) → args word ≡ pick (begins word) (Some (Read sort.Expr ∷ Read sort.MoreArgs ∷ [])) (args word)
args-beginning term.OpenBrace = refl
args-beginning other = refl

cond_part-beginning : (word : Term) → cond_part word ≡ pick (begins word) (Some (Read sort.Expr ∷ [])) (cond_part word)
cond_part-beginning term.OpenBrace = refl
cond_part-beginning other = refl

init_part-named : (word : Term) → init_part word ≡ pick (is_name word) (Some (Read sort.Place ∷ Read sort.StepRest ∷ [])) (init_part word)
init_part-named term.OpenBrace = refl
init_part-named other = refl

step_part-named : (word : Term) → step_part word ≡ pick (is_name word) (Some (Read sort.Place ∷ Read sort.StepRest ∷ [])) (step_part word)
step_part-named term.OpenBrace = refl
step_part-named other = refl

some-one : {first second : List Step} → Some first ≡ Some second → first ≡ second
some-one same = cc

-- a sort is read by the one choice that there is
read-as : {limit depth : ℕ} {at : Head} {steps chosen : List Step} {word : Word} {words : List Word} {nodes : List Opened} {tree : Tree} {what : Sort} → choice what word.term ≡ Some chosen
    → Derives limit (Read what ∷ steps) depth at (word ∷ words) nodes tree → Derives limit (chosen ++ steps) depth at (word ∷ words) nodes tree
read-as {limit} {depth} {at} {steps} {word = word} {words} {nodes} {tree} same (Derives.read chosen more) =
    subst (λ first. Derives limit (first ++ steps) depth at (word ∷ words) nodes tree) (some-one (sym chosen ∙ same)) more

-- the steps behind a node that is opened, and a name that is taken
named-behind : {limit depth : ℕ} {at : Head} {steps : List Step} {word : Word} {words : List Word} {nodes : List Opened} {tree : Tree}
    → Derives limit (Open ∷ Take class.Name ∷ steps) depth at (word ∷ words) nodes tree → Derives limit steps depth (behind at word.term) words (kept class.Name word (opened_at word.spot ∷ nodes)) tree
named-behind (Derives.open_node (Derives.take named more)) = more

module _ {limit depth : ℕ} {steps : List Step} {word : Word} {words : List Word} {nodes : List Opened} {tree : Tree} where
  -- an expression is its first operand, and what may follow that
  unary_chain : Derives limit (Read sort.Expr ∷ steps) depth head.Outside (word ∷ words) nodes tree
      → Derives limit (Read sort.Unary ∷ tails ++ steps) depth head.Outside (word ∷ words) nodes tree
  unary_chain more = read-as refl (read-as refl (read-as refl (read-as refl (read-as refl (read-as refl more)))))

  -- .. behind the name that it begins with
  named_chain : IsTrue (is_name word.term) → Derives limit (Read sort.Unary ∷ steps) depth head.Outside (word ∷ words) nodes tree
      → Derives limit (Read sort.IndexPart ∷ Make node.Place ∷ steps) depth head.Outside words (kept class.Name word (opened_at word.spot ∷ nodes)) tree
  named_chain named more =
      let taken = named-behind (read-as (picked (is_name word.term) (Some place_steps) (unary-named word.term) named) more) in
      subst (λ at. Derives limit (Read sort.IndexPart ∷ Make node.Place ∷ steps) depth at words (kept class.Name word (opened_at word.spot ∷ nodes)) tree) (picked (is_name word.term) head.Outside (name-outside word.term) named) taken

  -- .. and a place is that too
  placed_chain : IsTrue (is_name word.term) → Derives limit (Read sort.Place ∷ steps) depth head.Outside (word ∷ words) nodes tree
      → Derives limit (Read sort.IndexPart ∷ Make node.Place ∷ steps) depth head.Outside words (kept class.Name word (opened_at word.spot ∷ nodes)) tree
  placed_chain named more = named_chain named (Derives.read (picked (is_name word.term) (Some place_steps) (unary-named word.term) named) (read-as refl more))

  -- a name begins what is read behind it
  by_name : (what after : Sort) → ((word : Term) → choice what word ≡ pick (is_name word) (Some (Open ∷ Take class.Name ∷ Read after ∷ [])) (choice what word))
      → IsTrue (is_name word.term) → Derives limit (Read after ∷ steps) depth head.Outside words (kept class.Name word (opened_at word.spot ∷ nodes)) tree
      → Derives limit (Read what ∷ steps) depth head.Outside (word ∷ words) nodes tree
  by_name what after table named more =
      read_where (is_name word.term) (Open ∷ Take class.Name ∷ Read after ∷ []) (table word.term) named (Derives.open_node (take_name named more))

  pub right_by_name : IsTrue (is_name word.term) → Derives limit (Read sort.AfterRightName ∷ steps) depth head.Outside words (kept class.Name word (opened_at word.spot ∷ nodes)) tree
      → Derives limit (Read sort.Right ∷ steps) depth head.Outside (word ∷ words) nodes tree
  right_by_name named more = by_name sort.Right sort.AfterRightName right-named named more

  pub assign_by_name : IsTrue (is_name word.term) → Derives limit (Read sort.AfterAssignName ∷ steps) depth head.Outside words (kept class.Name word (opened_at word.spot ∷ nodes)) tree
      → Derives limit (Read sort.AssignRight ∷ steps) depth head.Outside (word ∷ words) nodes tree
  assign_by_name named more = by_name sort.AssignRight sort.AfterAssignName assign_right-named named more

  pub statement_by_name : IsTrue (is_name word.term) → Derives limit (Read sort.AfterStatementName ∷ steps) depth head.Outside words (kept class.Name word (opened_at word.spot ∷ nodes)) tree
      → Derives limit (Read sort.PlainStatement ∷ steps) depth head.Outside (word ∷ words) nodes tree
  statement_by_name named more = by_name sort.PlainStatement sort.AfterStatementName plain_statement-named named more

-- a word that begins an expression
or-true : (first second : Bool) → IsTrue first ⊎ IsTrue second → IsTrue (first || second)
or-true true second holds = refl
or-true false second (inl fails) = absurd (false≢true fails)
or-true false second (inr holds) = holds

first-begins : (word : Word) (words : List Word) → Begins (word ∷ words) → IsTrue (begins word.term)
first-begins word words (inl (named, bare)) = or-true (is_name word.term) (leads word.term) (inl named)
first-begins word words (inr leading) = or-true (is_name word.term) (leads word.term) (inr leading)

module _ {limit depth : ℕ} {steps : List Step} {nodes : List Opened} {tree : Tree} where
  -- an expression where a call may stand too
  pub right_expression : (words : List Word) → Begins words → Derives limit (Read sort.Expr ∷ steps) depth head.Outside words nodes tree
      → Derives limit (Read sort.Right ∷ steps) depth head.Outside words nodes tree
  right_expression [] begin more = absurd begin
  right_expression (word ∷ []) (inl (named, bare)) more = absurd bare
  right_expression (word ∷ next ∷ words) (inl (named, bare)) more =
      right_by_name named (read_where (no_paren next.term) (Read sort.IndexPart ∷ Make node.Place ∷ tails) (after_right_name-bare next.term) bare (named_chain named (unary_chain more)))
  right_expression (word ∷ words) (inr leading) more = read_where (leads word.term) (Read sort.Unary ∷ tails) (right-leading word.term) leading (unary_chain more)

  -- .. where it is set
  pub assign_expression : (words : List Word) → Begins words → Derives limit (Read sort.Expr ∷ Join (node.Assign setting.Plain) ∷ Wrap node.Step ∷ steps) depth head.Outside words nodes tree
      → Derives limit (Read sort.AssignRight ∷ steps) depth head.Outside words nodes tree
  assign_expression [] begin more = absurd begin
  assign_expression (word ∷ []) (inl (named, bare)) more = absurd bare
  assign_expression (word ∷ next ∷ words) (inl (named, bare)) more =
      assign_by_name named
      (read_where (no_paren next.term) (Read sort.IndexPart ∷ Make node.Place ∷ tails ++ set_steps) (after_assign_name-bare next.term) bare (named_chain named (unary_chain more)))
  assign_expression (word ∷ words) (inr leading) more = read_where (leads word.term) (Read sort.Unary ∷ tails ++ set_steps) (assign_right-leading word.term) leading (unary_chain more)

  -- a place that begins a statement
  pub statement_place : (word : Word) (words : List Word) → IsTrue (is_name word.term) → NoParen words
      → Derives limit (Read sort.Place ∷ Read sort.AfterPlace ∷ steps) depth head.Outside (word ∷ words) nodes tree → Derives limit (Read sort.PlainStatement ∷ steps) depth head.Outside (word ∷ words) nodes tree
  statement_place word [] named bare more = absurd bare
  statement_place word (next ∷ words) named bare more =
      statement_by_name named
      (read_where (no_paren next.term) (Read sort.IndexPart ∷ Make node.Place ∷ Read sort.AfterPlace ∷ []) (after_statement_name-bare next.term) bare (placed_chain named more))

  -- arguments and conditions that are there
  pub args_expression : (words : List Word) → Begins words → Derives limit (Read sort.Expr ∷ Read sort.MoreArgs ∷ steps) depth head.Outside words nodes tree
      → Derives limit (Read sort.Args ∷ steps) depth head.Outside words nodes tree
  args_expression [] begin more = absurd begin
  args_expression (word ∷ words) begin more = read_where (begins word.term) (Read sort.Expr ∷ Read sort.MoreArgs ∷ []) (args-beginning word.term) (first-begins word words begin) more

  pub condition_expression : (words : List Word) → Begins words → Derives limit (Read sort.Expr ∷ steps) depth head.Outside words nodes tree
      → Derives limit (Read sort.CondPart ∷ steps) depth head.Outside words nodes tree
  condition_expression [] begin more = absurd begin
  condition_expression (word ∷ words) begin more = read_where (begins word.term) (Read sort.Expr ∷ []) (cond_part-beginning word.term) (first-begins word words begin) more

-- steps that begin with a place
pub first-named : (word : Term) → IsTrue (is_name word) → choice sort.InitPart word ≡ Some (Read sort.Place ∷ Read sort.StepRest ∷ [])
first-named word named = picked (is_name word) (Some (Read sort.Place ∷ Read sort.StepRest ∷ [])) (init_part-named word) named

pub third-named : (word : Term) → IsTrue (is_name word) → choice sort.StepPart word ≡ Some (Read sort.Place ∷ Read sort.StepRest ∷ [])
third-named word named = picked (is_name word) (Some (Read sort.Place ∷ Read sort.StepRest ∷ [])) (step_part-named word) named
