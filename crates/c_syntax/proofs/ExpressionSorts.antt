-- Each rule of the sorts of expressions does no more than what its sort means.
use Rattle.std.proofs.Common.{ℕ, ◌≡◌, IsTrue, Bool, true, false, List, ◌∷◌, refl, lit<}
use Rattle.std.proofs.lemmas.Bool.{false≢true}
use Rattle.c_syntax.specs.declared.node.BinaryOp.TheVariants as binary
use Rattle.c_syntax.specs.declared.node.UnaryOp.TheVariants as unary
use Rattle.c_syntax.specs.declared.node.Getter.{Getter}
use Rattle.c_syntax.specs.declared.node.Getter.TheVariants as getter
use Rattle.c_syntax.specs.declared.head.Head.{Head}
use Rattle.c_syntax.specs.declared.grammar.Sort.{Sort}
use Rattle.c_syntax.specs.declared.grammar.Sort.TheVariants as sort
use Rattle.c_syntax.specs.declared.term.Term.{Term}
use Rattle.c_syntax.specs.declared.term.Term.TheVariants as term
use Rattle.c_syntax.specs.language.Words.{Word}
use Rattle.c_syntax.specs.workings.Grammar.{choice}
use Rattle.c_syntax.specs.workings.Derivation.{Opened}
use Rattle.c_syntax.proofs.Effects.{Effect, Folds, IsFolded, folds-by}
use Rattle.c_syntax.proofs.ExpressionFolds.{ReadsAfterGetter, ReadsIndex, ReadsPlace, ReadsRanked, ReadsTail, called-folds, chain-folds, getter-folds, index-folds, index-over, named-folds, number-folds, parenthesis-folds, place-folds, placed-folds, sign-folds, tail-further, tail-over}

-- the sorts of expressions do this, and the others what is told of them
abbrev pub expression_reads : ℕ → (Sort → Effect → Effect) → Sort → Effect → Effect
expression_reads limit others sort.Expr next = ReadsRanked limit 0 next
expression_reads limit others sort.AndChain next = ReadsRanked limit 1 next
expression_reads limit others sort.EqualChain next = ReadsRanked limit 2 next
expression_reads limit others sort.RelChain next = ReadsRanked limit 3 next
expression_reads limit others sort.SumChain next = ReadsRanked limit 4 next
expression_reads limit others sort.ProdChain next = ReadsRanked limit 5 next
expression_reads limit others sort.Unary next = ReadsRanked limit 6 next
expression_reads limit others sort.OrTail next = ReadsTail limit 0 next
expression_reads limit others sort.AndTail next = ReadsTail limit 1 next
expression_reads limit others sort.EqualTail next = ReadsTail limit 2 next
expression_reads limit others sort.RelTail next = ReadsTail limit 3 next
expression_reads limit others sort.SumTail next = ReadsTail limit 4 next
expression_reads limit others sort.ProdTail next = ReadsTail limit 5 next
expression_reads limit others sort.IndexPart next = ReadsIndex limit next
expression_reads limit others (sort.AfterGetter which) next = ReadsAfterGetter limit which next
expression_reads limit others sort.Place next = ReadsPlace limit next
expression_reads limit others what next = others what next

-- the sorts of expressions
abbrev pub is_expression_sort : Sort → Bool
is_expression_sort sort.Expr = true
is_expression_sort sort.AndChain = true
is_expression_sort sort.EqualChain = true
is_expression_sort sort.RelChain = true
is_expression_sort sort.SumChain = true
is_expression_sort sort.ProdChain = true
is_expression_sort sort.Unary = true
is_expression_sort sort.OrTail = true
is_expression_sort sort.AndTail = true
is_expression_sort sort.EqualTail = true
is_expression_sort sort.RelTail = true
is_expression_sort sort.SumTail = true
is_expression_sort sort.ProdTail = true
is_expression_sort sort.IndexPart = true
is_expression_sort (sort.AfterGetter which) = true
is_expression_sort sort.Place = true
is_expression_sort other = false

module _ (limit : ℕ) (others : Sort → Effect → Effect) where
  -- what a rule for this word chooses is what its sort means
  abbrev IsFoldedAt : Sort → Effect → ℕ → Head → List Word → List Opened → Term → Type 0
  IsFoldedAt what next depth at words nodes ahead = IsFolded limit (expression_reads limit others) what next depth at words nodes (choice what ahead)

  -- the tail of each rank
  or_tail-folded : (next : Effect) (depth : ℕ) (at : Head) (words : List Word) (nodes : List Opened) (ahead : Term) → IsFoldedAt sort.OrTail next depth at words nodes ahead
  or_tail-folded next depth at words nodes term.OrOr = tail-further limit next depth at words nodes binary.Or
  or_tail-folded next depth at words nodes other = tail-over limit 0 next depth at words nodes

  and_tail-folded : (next : Effect) (depth : ℕ) (at : Head) (words : List Word) (nodes : List Opened) (ahead : Term) → IsFoldedAt sort.AndTail next depth at words nodes ahead
  and_tail-folded next depth at words nodes term.AndAnd = tail-further limit next depth at words nodes binary.And
  and_tail-folded next depth at words nodes other = tail-over limit 1 next depth at words nodes

  equal_tail-folded : (next : Effect) (depth : ℕ) (at : Head) (words : List Word) (nodes : List Opened) (ahead : Term) → IsFoldedAt sort.EqualTail next depth at words nodes ahead
  equal_tail-folded next depth at words nodes term.EqualEqual = tail-further limit next depth at words nodes binary.Equal
  equal_tail-folded next depth at words nodes term.NotEqual = tail-further limit next depth at words nodes binary.NotEqual
  equal_tail-folded next depth at words nodes other = tail-over limit 2 next depth at words nodes

  rel_tail-folded : (next : Effect) (depth : ℕ) (at : Head) (words : List Word) (nodes : List Opened) (ahead : Term) → IsFoldedAt sort.RelTail next depth at words nodes ahead
  rel_tail-folded next depth at words nodes term.Less = tail-further limit next depth at words nodes binary.Less
  rel_tail-folded next depth at words nodes term.LessEqual = tail-further limit next depth at words nodes binary.LessEqual
  rel_tail-folded next depth at words nodes term.Greater = tail-further limit next depth at words nodes binary.Greater
  rel_tail-folded next depth at words nodes term.GreaterEqual = tail-further limit next depth at words nodes binary.GreaterEqual
  rel_tail-folded next depth at words nodes other = tail-over limit 3 next depth at words nodes

  sum_tail-folded : (next : Effect) (depth : ℕ) (at : Head) (words : List Word) (nodes : List Opened) (ahead : Term) → IsFoldedAt sort.SumTail next depth at words nodes ahead
  sum_tail-folded next depth at words nodes term.Plus = tail-further limit next depth at words nodes binary.Add
  sum_tail-folded next depth at words nodes term.Minus = tail-further limit next depth at words nodes binary.Subtract
  sum_tail-folded next depth at words nodes other = tail-over limit 4 next depth at words nodes

  prod_tail-folded : (next : Effect) (depth : ℕ) (at : Head) (words : List Word) (nodes : List Opened) (ahead : Term) → IsFoldedAt sort.ProdTail next depth at words nodes ahead
  prod_tail-folded next depth at words nodes term.Star = tail-further limit next depth at words nodes binary.Multiply
  prod_tail-folded next depth at words nodes term.Slash = tail-further limit next depth at words nodes binary.Divide
  prod_tail-folded next depth at words nodes term.Percent = tail-further limit next depth at words nodes binary.Remainder
  prod_tail-folded next depth at words nodes other = tail-over limit 5 next depth at words nodes

  -- operands
  unary-folded : (next : Effect) (depth : ℕ) (at : Head) (word : Word) (words : List Word) (nodes : List Opened) (ahead : Term) → word.term ≡ ahead
      → IsFoldedAt sort.Unary next depth at (word ∷ words) nodes ahead
  unary-folded next depth at word words nodes term.Minus is = λ reads. sign-folds limit next depth at word words nodes unary.Negate reads
  unary-folded next depth at word words nodes term.Not is = λ reads. sign-folds limit next depth at word words nodes unary.Not reads
  unary-folded next depth at word words nodes term.Number is = λ reads. number-folds limit next depth at word words nodes is reads
  unary-folded next depth at word words nodes term.OpenParen is = λ reads. parenthesis-folds limit next depth at word words nodes reads
  unary-folded next depth at word words nodes term.GetThreadNum is = λ reads. getter-folds limit getter.ThreadNum next depth at word words nodes reads
  unary-folded next depth at word words nodes term.GetNumThreads is = λ reads. getter-folds limit getter.NumThreads next depth at word words nodes reads
  unary-folded next depth at word words nodes term.GetMaxThreads is = λ reads. getter-folds limit getter.MaxThreads next depth at word words nodes reads
  unary-folded next depth at word words nodes other is = λ reads. placed-folds limit next depth at (word ∷ words) nodes (place-folds limit next depth at word words nodes reads)

  -- indices
  index-folded : (next : Effect) (depth : ℕ) (at : Head) (words : List Word) (nodes : List Opened) (ahead : Term) → IsFoldedAt sort.IndexPart next depth at words nodes ahead
  index-folded next depth at words nodes term.OpenBracket = index-folds limit next depth at words nodes
  index-folded next depth at words nodes other = index-over limit next depth at words nodes

  -- what follows the name of a routine
  after_getter-folded : (which : Getter) (next : Effect) (depth : ℕ) (at : Head) (words : List Word) (nodes : List Opened) (ahead : Term) → IsFoldedAt (sort.AfterGetter which) next depth at words nodes ahead
  after_getter-folded which next depth at words nodes term.OpenParen = called-folds limit which next depth at words nodes
  after_getter-folded which next depth at words nodes other = named-folds limit which next depth at words nodes

  -- so it is for each sort of expressions
  pub expressions-fold : (what : Sort) → IsTrue (is_expression_sort what) → Folds limit (expression_reads limit others) what
  expressions-fold sort.Expr is = folds-by limit (expression_reads limit others) sort.Expr (λ word next depth at words nodes reads. chain-folds limit 0 next depth at (word ∷ words) nodes (lit< tt) reads)
  expressions-fold sort.AndChain is = folds-by limit (expression_reads limit others) sort.AndChain (λ word next depth at words nodes reads. chain-folds limit 1 next depth at (word ∷ words) nodes (lit< tt) reads)
  expressions-fold sort.EqualChain is = folds-by limit (expression_reads limit others) sort.EqualChain (λ word next depth at words nodes reads. chain-folds limit 2 next depth at (word ∷ words) nodes (lit< tt) reads)
  expressions-fold sort.RelChain is = folds-by limit (expression_reads limit others) sort.RelChain (λ word next depth at words nodes reads. chain-folds limit 3 next depth at (word ∷ words) nodes (lit< tt) reads)
  expressions-fold sort.SumChain is = folds-by limit (expression_reads limit others) sort.SumChain (λ word next depth at words nodes reads. chain-folds limit 4 next depth at (word ∷ words) nodes (lit< tt) reads)
  expressions-fold sort.ProdChain is = folds-by limit (expression_reads limit others) sort.ProdChain (λ word next depth at words nodes reads. chain-folds limit 5 next depth at (word ∷ words) nodes (lit< tt) reads)
  expressions-fold sort.Unary is = folds-by limit (expression_reads limit others) sort.Unary (λ word next depth at words nodes. unary-folded next depth at word words nodes word.term refl)
  expressions-fold sort.OrTail is = folds-by limit (expression_reads limit others) sort.OrTail (λ word next depth at words nodes. or_tail-folded next depth at (word ∷ words) nodes word.term)
  expressions-fold sort.AndTail is = folds-by limit (expression_reads limit others) sort.AndTail (λ word next depth at words nodes. and_tail-folded next depth at (word ∷ words) nodes word.term)
  expressions-fold sort.EqualTail is = folds-by limit (expression_reads limit others) sort.EqualTail (λ word next depth at words nodes. equal_tail-folded next depth at (word ∷ words) nodes word.term)
  expressions-fold sort.RelTail is = folds-by limit (expression_reads limit others) sort.RelTail (λ word next depth at words nodes. rel_tail-folded next depth at (word ∷ words) nodes word.term)
  expressions-fold sort.SumTail is = folds-by limit (expression_reads limit others) sort.SumTail (λ word next depth at words nodes. sum_tail-folded next depth at (word ∷ words) nodes word.term)
  expressions-fold sort.ProdTail is = folds-by limit (expression_reads limit others) sort.ProdTail (λ word next depth at words nodes. prod_tail-folded next depth at (word ∷ words) nodes word.term)
  expressions-fold sort.IndexPart is = folds-by limit (expression_reads limit others) sort.IndexPart (λ word next depth at words nodes. index-folded next depth at (word ∷ words) nodes word.term)
  expressions-fold (sort.AfterGetter which) is = folds-by limit (expression_reads limit others) (sort.AfterGetter which) (λ word next depth at words nodes. after_getter-folded which next depth at (word ∷ words) nodes word.term)
  expressions-fold sort.Place is = folds-by limit (expression_reads limit others) sort.Place (λ word next depth at words nodes reads. place-folds limit next depth at word words nodes reads)
  expressions-fold other fails = absurd (false≢true fails)
