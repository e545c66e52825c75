-- Each rule of the sorts of files does no more than what its sort means.
use Rattle.std.proofs.Common.{ℕ, inl, inr, IsTrue, Bool, true, false, List, ◌∷◌}
use Rattle.std.proofs.lemmas.Bool.{false≢true}
use Rattle.c_syntax.specs.declared.grammar.Sort.{Sort}
use Rattle.c_syntax.specs.declared.grammar.Sort.TheVariants as sort
use Rattle.c_syntax.specs.declared.head.Head.{Head}
use Rattle.c_syntax.specs.declared.term.Term.{Term}
use Rattle.c_syntax.specs.declared.term.Term.TheVariants as term
use Rattle.c_syntax.specs.language.Words.{Word}
use Rattle.c_syntax.specs.workings.Grammar.{choice}
use Rattle.c_syntax.specs.workings.Derivation.{Opened}
use Rattle.c_syntax.proofs.Effects.{Effect, Folds, IsFolded, folds-by}
use Rattle.c_syntax.proofs.FileRows.{more_parameters_none, more_parameters_some, more_variables_none, more_variables_some, parameters_empty, parameters_listed, parameters_void, parts_include, parts_int, parts_locks, parts_none, parts_void, variable_array, variable_plain, variable_set}
use Rattle.c_syntax.proofs.SortMeaning.{reads}

abbrev pub is_file_sort : Sort → Bool
is_file_sort sort.Program = true
is_file_sort sort.Globals = true
is_file_sort sort.AfterIntName = true
is_file_sort sort.Body = true
is_file_sort sort.Params = true
is_file_sort sort.MoreParams = true
is_file_sort sort.GlobalRest = true
is_file_sort sort.Initial = true
is_file_sort sort.MoreGlobals = true
is_file_sort other = false

module _ (limit : ℕ) where
  -- what a rule for this word chooses is what its sort means
  abbrev IsFoldedAt : Sort → Effect → ℕ → Head → List Word → List Opened → Term → Type 0
  IsFoldedAt what next depth at words nodes ahead = IsFolded limit (reads limit) what next depth at words nodes (choice what ahead)

  globals-folded : (next : Effect) (depth : ℕ) (at : Head) (words : List Word) (nodes : List Opened) (ahead : Term) → IsFoldedAt sort.Globals next depth at words nodes ahead
  globals-folded next depth at words nodes term.Include = parts_include limit next depth at words nodes
  globals-folded next depth at words nodes term.Int = parts_int limit next depth at words nodes
  globals-folded next depth at words nodes term.Void = parts_void limit next depth at words nodes
  globals-folded next depth at words nodes term.LockType = parts_locks limit next depth at words nodes
  globals-folded next depth at words nodes other = parts_none limit next depth at words nodes

  after_int_name-folded : (next : Effect) (depth : ℕ) (at : Head) (words : List Word) (nodes : List Opened) (ahead : Term) → IsFoldedAt sort.AfterIntName next depth at words nodes ahead
  after_int_name-folded next depth at words nodes term.OpenParen = λ reads. inl reads
  after_int_name-folded next depth at words nodes other = λ reads. inr reads

  params-folded : (next : Effect) (depth : ℕ) (at : Head) (words : List Word) (nodes : List Opened) (ahead : Term) → IsFoldedAt sort.Params next depth at words nodes ahead
  params-folded next depth at words nodes term.Void = parameters_void next depth at words nodes
  params-folded next depth at words nodes term.Int = parameters_listed next depth at words nodes
  params-folded next depth at words nodes other = parameters_empty next depth at words nodes

  more_params-folded : (next : Effect) (depth : ℕ) (at : Head) (words : List Word) (nodes : List Opened) (ahead : Term) → IsFoldedAt sort.MoreParams next depth at words nodes ahead
  more_params-folded next depth at words nodes term.Comma = more_parameters_some next depth at words nodes
  more_params-folded next depth at words nodes other = more_parameters_none next depth at words nodes

  global_rest-folded : (next : Effect) (depth : ℕ) (at : Head) (words : List Word) (nodes : List Opened) (ahead : Term) → IsFoldedAt sort.GlobalRest next depth at words nodes ahead
  global_rest-folded next depth at words nodes term.OpenBracket = variable_array next depth at words nodes
  global_rest-folded next depth at words nodes term.Set = variable_set next depth at words nodes
  global_rest-folded next depth at words nodes other = variable_plain next depth at words nodes

  initial-folded : (next : Effect) (depth : ℕ) (at : Head) (words : List Word) (nodes : List Opened) (ahead : Term) → IsFoldedAt sort.Initial next depth at words nodes ahead
  initial-folded next depth at words nodes term.Minus = λ reads. inl reads
  initial-folded next depth at words nodes other = λ reads. inr reads

  more_globals-folded : (next : Effect) (depth : ℕ) (at : Head) (words : List Word) (nodes : List Opened) (ahead : Term) → IsFoldedAt sort.MoreGlobals next depth at words nodes ahead
  more_globals-folded next depth at words nodes term.Comma = more_variables_some next depth at words nodes
  more_globals-folded next depth at words nodes other = more_variables_none next depth at words nodes

  -- so it is for each of these sorts
  pub files-fold : (what : Sort) → IsTrue (is_file_sort what) → Folds limit (reads limit) what
  files-fold sort.Program is = folds-by limit (reads limit) sort.Program (λ word next depth at words nodes reads. reads)
  files-fold sort.Globals is = folds-by limit (reads limit) sort.Globals (λ word next depth at words nodes. globals-folded next depth at (word ∷ words) nodes word.term)
  files-fold sort.AfterIntName is = folds-by limit (reads limit) sort.AfterIntName (λ word next depth at words nodes. after_int_name-folded next depth at (word ∷ words) nodes word.term)
  files-fold sort.Body is = folds-by limit (reads limit) sort.Body (λ word next depth at words nodes reads. reads)
  files-fold sort.Params is = folds-by limit (reads limit) sort.Params (λ word next depth at words nodes. params-folded next depth at (word ∷ words) nodes word.term)
  files-fold sort.MoreParams is = folds-by limit (reads limit) sort.MoreParams (λ word next depth at words nodes. more_params-folded next depth at (word ∷ words) nodes word.term)
  files-fold sort.GlobalRest is = folds-by limit (reads limit) sort.GlobalRest (λ word next depth at words nodes. global_rest-folded next depth at (word ∷ words) nodes word.term)
  files-fold sort.Initial is = folds-by limit (reads limit) sort.Initial (λ word next depth at words nodes. initial-folded next depth at (word ∷ words) nodes word.term)
  files-fold sort.MoreGlobals is = folds-by limit (reads limit) sort.MoreGlobals (λ word next depth at words nodes. more_globals-folded next depth at (word ∷ words) nodes word.term)
  files-fold other fails = absurd (false≢true fails)
