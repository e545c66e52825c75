-- Each rule of the sorts of values, declarations and steps does no more than what its sort means.
use Rattle.std.proofs.Common.{ℕ, IsTrue, Bool, true, false, List, ◌∷◌}
use Rattle.std.proofs.lemmas.Bool.{false≢true}
use Rattle.c_syntax.specs.declared.grammar.Sort.{Sort}
use Rattle.c_syntax.specs.declared.grammar.Sort.TheVariants as sort
use Rattle.c_syntax.specs.declared.head.Head.{Head}
use Rattle.c_syntax.specs.declared.node.Bump.TheVariants as bump
use Rattle.c_syntax.specs.declared.node.Setting.TheVariants as setting
use Rattle.c_syntax.specs.declared.term.Term.{Term}
use Rattle.c_syntax.specs.declared.term.Term.TheVariants as term
use Rattle.c_syntax.specs.language.Words.{Word}
use Rattle.c_syntax.specs.workings.Grammar.{choice}
use Rattle.c_syntax.specs.workings.Derivation.{Opened}
use Rattle.c_syntax.proofs.CallRows.{args_none, args_some, more_args_none, more_args_some, right_expression, right_named, right_named_call, right_named_place, right_test}
use Rattle.c_syntax.proofs.DeclaredRows.{local_array, local_plain, local_set, locals_all, locks_all, more_locals_none, more_locals_some, more_locks_none, more_locks_some}
use Rattle.c_syntax.proofs.Effects.{Effect, Folds, IsFolded, folds-by}
use Rattle.c_syntax.proofs.SortMeaning.{reads}
use Rattle.c_syntax.proofs.StatementRows.{assign_expression, assign_named, assign_named_call, assign_named_place, assign_test, place_bumped, place_changed, place_set, statement_named_call, statement_named_place}
use Rattle.c_syntax.proofs.StepRows.{condition_none, condition_some, first_bump, first_declared, first_none, first_place, step_bumped, step_set, third_bump, third_none, third_place}

-- the sorts of values, declarations and steps
abbrev pub is_call_sort : Sort → Bool
is_call_sort sort.Args = true
is_call_sort sort.MoreArgs = true
is_call_sort sort.Right = true
is_call_sort sort.AfterRightName = true
is_call_sort sort.AssignRight = true
is_call_sort sort.AfterAssignName = true
is_call_sort sort.AfterStatementName = true
is_call_sort sort.AfterPlace = true
is_call_sort sort.Locals = true
is_call_sort sort.LocalRest = true
is_call_sort sort.MoreLocals = true
is_call_sort sort.Locks = true
is_call_sort sort.MoreLocks = true
is_call_sort sort.InitPart = true
is_call_sort sort.CondPart = true
is_call_sort sort.StepPart = true
is_call_sort sort.StepRest = true
is_call_sort other = false

module _ (limit : ℕ) where
  -- what a rule for this word chooses is what its sort means
  abbrev IsFoldedAt : Sort → Effect → ℕ → Head → List Word → List Opened → Term → Type 0
  IsFoldedAt what next depth at words nodes ahead = IsFolded limit (reads limit) what next depth at words nodes (choice what ahead)

  args-folded : (next : Effect) (depth : ℕ) (at : Head) (words : List Word) (nodes : List Opened) (ahead : Term) → IsFoldedAt sort.Args next depth at words nodes ahead
  args-folded next depth at words nodes term.CloseParen = args_none limit next depth at words nodes
  args-folded next depth at words nodes other = args_some limit next depth at words nodes

  more_args-folded : (next : Effect) (depth : ℕ) (at : Head) (words : List Word) (nodes : List Opened) (ahead : Term) → IsFoldedAt sort.MoreArgs next depth at words nodes ahead
  more_args-folded next depth at words nodes term.Comma = more_args_some limit next depth at words nodes
  more_args-folded next depth at words nodes other = more_args_none limit next depth at words nodes

  right-folded : (next : Effect) (depth : ℕ) (at : Head) (words : List Word) (nodes : List Opened) (ahead : Term) → IsFoldedAt sort.Right next depth at words nodes ahead
  right-folded next depth at words nodes term.TestLock = right_test limit next depth at words nodes
  right-folded next depth at words nodes term.Number = right_expression limit next depth at words nodes
  right-folded next depth at words nodes term.OpenParen = right_expression limit next depth at words nodes
  right-folded next depth at words nodes term.Minus = right_expression limit next depth at words nodes
  right-folded next depth at words nodes term.Not = right_expression limit next depth at words nodes
  right-folded next depth at words nodes term.GetThreadNum = right_expression limit next depth at words nodes
  right-folded next depth at words nodes term.GetNumThreads = right_expression limit next depth at words nodes
  right-folded next depth at words nodes term.GetMaxThreads = right_expression limit next depth at words nodes
  right-folded next depth at words nodes other = right_named limit next depth at words nodes

  after_right_name-folded : (next : Effect) (depth : ℕ) (at : Head) (words : List Word) (nodes : List Opened) (ahead : Term) → IsFoldedAt sort.AfterRightName next depth at words nodes ahead
  after_right_name-folded next depth at words nodes term.OpenParen = right_named_call limit next depth at words nodes
  after_right_name-folded next depth at words nodes other = right_named_place limit next depth at words nodes

  assign_right-folded : (next : Effect) (depth : ℕ) (at : Head) (words : List Word) (nodes : List Opened) (ahead : Term) → IsFoldedAt sort.AssignRight next depth at words nodes ahead
  assign_right-folded next depth at words nodes term.TestLock = assign_test limit next depth at words nodes
  assign_right-folded next depth at words nodes term.Number = assign_expression limit next depth at words nodes
  assign_right-folded next depth at words nodes term.OpenParen = assign_expression limit next depth at words nodes
  assign_right-folded next depth at words nodes term.Minus = assign_expression limit next depth at words nodes
  assign_right-folded next depth at words nodes term.Not = assign_expression limit next depth at words nodes
  assign_right-folded next depth at words nodes term.GetThreadNum = assign_expression limit next depth at words nodes
  assign_right-folded next depth at words nodes term.GetNumThreads = assign_expression limit next depth at words nodes
  assign_right-folded next depth at words nodes term.GetMaxThreads = assign_expression limit next depth at words nodes
  assign_right-folded next depth at words nodes other = assign_named limit next depth at words nodes

  after_assign_name-folded : (next : Effect) (depth : ℕ) (at : Head) (words : List Word) (nodes : List Opened) (ahead : Term) → IsFoldedAt sort.AfterAssignName next depth at words nodes ahead
  after_assign_name-folded next depth at words nodes term.OpenParen = assign_named_call limit next depth at words nodes
  after_assign_name-folded next depth at words nodes other = assign_named_place limit next depth at words nodes

  after_statement_name-folded : (next : Effect) (depth : ℕ) (at : Head) (words : List Word) (nodes : List Opened) (ahead : Term) → IsFoldedAt sort.AfterStatementName next depth at words nodes ahead
  after_statement_name-folded next depth at words nodes term.OpenParen = statement_named_call limit next depth at words nodes
  after_statement_name-folded next depth at words nodes other = statement_named_place limit next depth at words nodes

  after_place-folded : (next : Effect) (depth : ℕ) (at : Head) (words : List Word) (nodes : List Opened) (ahead : Term) → IsFoldedAt sort.AfterPlace next depth at words nodes ahead
  after_place-folded next depth at words nodes term.Set = place_set limit next depth at words nodes
  after_place-folded next depth at words nodes term.PlusSet = place_changed limit setting.Add next depth at words nodes
  after_place-folded next depth at words nodes term.MinusSet = place_changed limit setting.Subtract next depth at words nodes
  after_place-folded next depth at words nodes term.TimesSet = place_changed limit setting.Multiply next depth at words nodes
  after_place-folded next depth at words nodes term.SlashSet = place_changed limit setting.Divide next depth at words nodes
  after_place-folded next depth at words nodes term.PercentSet = place_changed limit setting.Remainder next depth at words nodes
  after_place-folded next depth at words nodes term.PlusPlus = place_bumped limit bump.Increment next depth at words nodes
  after_place-folded next depth at words nodes term.MinusMinus = place_bumped limit bump.Decrement next depth at words nodes
  after_place-folded next depth at words nodes other = tt

  step_rest-folded : (next : Effect) (depth : ℕ) (at : Head) (words : List Word) (nodes : List Opened) (ahead : Term) → IsFoldedAt sort.StepRest next depth at words nodes ahead
  step_rest-folded next depth at words nodes term.Set = step_set limit setting.Plain next depth at words nodes
  step_rest-folded next depth at words nodes term.PlusSet = step_set limit setting.Add next depth at words nodes
  step_rest-folded next depth at words nodes term.MinusSet = step_set limit setting.Subtract next depth at words nodes
  step_rest-folded next depth at words nodes term.TimesSet = step_set limit setting.Multiply next depth at words nodes
  step_rest-folded next depth at words nodes term.SlashSet = step_set limit setting.Divide next depth at words nodes
  step_rest-folded next depth at words nodes term.PercentSet = step_set limit setting.Remainder next depth at words nodes
  step_rest-folded next depth at words nodes term.PlusPlus = step_bumped limit bump.Increment next depth at words nodes
  step_rest-folded next depth at words nodes term.MinusMinus = step_bumped limit bump.Decrement next depth at words nodes
  step_rest-folded next depth at words nodes other = tt

  init_part-folded : (next : Effect) (depth : ℕ) (at : Head) (words : List Word) (nodes : List Opened) (ahead : Term) → IsFoldedAt sort.InitPart next depth at words nodes ahead
  init_part-folded next depth at words nodes term.Semicolon = first_none limit next depth at words nodes
  init_part-folded next depth at words nodes term.Int = first_declared limit next depth at words nodes
  init_part-folded next depth at words nodes term.PlusPlus = first_bump limit bump.Increment next depth at words nodes
  init_part-folded next depth at words nodes term.MinusMinus = first_bump limit bump.Decrement next depth at words nodes
  init_part-folded next depth at words nodes other = first_place limit next depth at words nodes

  cond_part-folded : (next : Effect) (depth : ℕ) (at : Head) (words : List Word) (nodes : List Opened) (ahead : Term) → IsFoldedAt sort.CondPart next depth at words nodes ahead
  cond_part-folded next depth at words nodes term.Semicolon = condition_none limit next depth at words nodes
  cond_part-folded next depth at words nodes other = condition_some limit next depth at words nodes

  step_part-folded : (next : Effect) (depth : ℕ) (at : Head) (words : List Word) (nodes : List Opened) (ahead : Term) → IsFoldedAt sort.StepPart next depth at words nodes ahead
  step_part-folded next depth at words nodes term.CloseParen = third_none limit next depth at words nodes
  step_part-folded next depth at words nodes term.PlusPlus = third_bump limit bump.Increment next depth at words nodes
  step_part-folded next depth at words nodes term.MinusMinus = third_bump limit bump.Decrement next depth at words nodes
  step_part-folded next depth at words nodes other = third_place limit next depth at words nodes

  local_rest-folded : (next : Effect) (depth : ℕ) (at : Head) (words : List Word) (nodes : List Opened) (ahead : Term) → IsFoldedAt sort.LocalRest next depth at words nodes ahead
  local_rest-folded next depth at words nodes term.OpenBracket = local_array limit next depth at words nodes
  local_rest-folded next depth at words nodes term.Set = local_set limit next depth at words nodes
  local_rest-folded next depth at words nodes other = local_plain limit next depth at words nodes

  more_locals-folded : (next : Effect) (depth : ℕ) (at : Head) (words : List Word) (nodes : List Opened) (ahead : Term) → IsFoldedAt sort.MoreLocals next depth at words nodes ahead
  more_locals-folded next depth at words nodes term.Comma = more_locals_some limit next depth at words nodes
  more_locals-folded next depth at words nodes other = more_locals_none limit next depth at words nodes

  more_locks-folded : (next : Effect) (depth : ℕ) (at : Head) (words : List Word) (nodes : List Opened) (ahead : Term) → IsFoldedAt sort.MoreLocks next depth at words nodes ahead
  more_locks-folded next depth at words nodes term.Comma = more_locks_some next depth at words nodes
  more_locks-folded next depth at words nodes other = more_locks_none next depth at words nodes

  -- so it is for each of these sorts
  pub calls-fold : (what : Sort) → IsTrue (is_call_sort what) → Folds limit (reads limit) what
  calls-fold sort.Args is = folds-by limit (reads limit) sort.Args (λ word next depth at words nodes. args-folded next depth at (word ∷ words) nodes word.term)
  calls-fold sort.MoreArgs is = folds-by limit (reads limit) sort.MoreArgs (λ word next depth at words nodes. more_args-folded next depth at (word ∷ words) nodes word.term)
  calls-fold sort.Right is = folds-by limit (reads limit) sort.Right (λ word next depth at words nodes. right-folded next depth at (word ∷ words) nodes word.term)
  calls-fold sort.AfterRightName is = folds-by limit (reads limit) sort.AfterRightName (λ word next depth at words nodes. after_right_name-folded next depth at (word ∷ words) nodes word.term)
  calls-fold sort.AssignRight is = folds-by limit (reads limit) sort.AssignRight (λ word next depth at words nodes. assign_right-folded next depth at (word ∷ words) nodes word.term)
  calls-fold sort.AfterAssignName is = folds-by limit (reads limit) sort.AfterAssignName (λ word next depth at words nodes. after_assign_name-folded next depth at (word ∷ words) nodes word.term)
  calls-fold sort.AfterStatementName is = folds-by limit (reads limit) sort.AfterStatementName (λ word next depth at words nodes. after_statement_name-folded next depth at (word ∷ words) nodes word.term)
  calls-fold sort.AfterPlace is = folds-by limit (reads limit) sort.AfterPlace (λ word next depth at words nodes. after_place-folded next depth at (word ∷ words) nodes word.term)
  calls-fold sort.Locals is = folds-by limit (reads limit) sort.Locals (λ word next depth at words nodes. locals_all limit next depth at (word ∷ words) nodes)
  calls-fold sort.LocalRest is = folds-by limit (reads limit) sort.LocalRest (λ word next depth at words nodes. local_rest-folded next depth at (word ∷ words) nodes word.term)
  calls-fold sort.MoreLocals is = folds-by limit (reads limit) sort.MoreLocals (λ word next depth at words nodes. more_locals-folded next depth at (word ∷ words) nodes word.term)
  calls-fold sort.Locks is = folds-by limit (reads limit) sort.Locks (λ word next depth at words nodes. locks_all next depth at (word ∷ words) nodes)
  calls-fold sort.MoreLocks is = folds-by limit (reads limit) sort.MoreLocks (λ word next depth at words nodes. more_locks-folded next depth at (word ∷ words) nodes word.term)
  calls-fold sort.InitPart is = folds-by limit (reads limit) sort.InitPart (λ word next depth at words nodes. init_part-folded next depth at (word ∷ words) nodes word.term)
  calls-fold sort.CondPart is = folds-by limit (reads limit) sort.CondPart (λ word next depth at words nodes. cond_part-folded next depth at (word ∷ words) nodes word.term)
  calls-fold sort.StepPart is = folds-by limit (reads limit) sort.StepPart (λ word next depth at words nodes. step_part-folded next depth at (word ∷ words) nodes word.term)
  calls-fold sort.StepRest is = folds-by limit (reads limit) sort.StepRest (λ word next depth at words nodes. step_rest-folded next depth at (word ∷ words) nodes word.term)
  calls-fold other fails = absurd (false≢true fails)
