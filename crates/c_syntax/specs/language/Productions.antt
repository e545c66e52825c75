-- The grammar by its productions, as the page on the language has them. Here each token is a word. A relation holds of the limit of the depth; the depth
-- of what it stands in; for expressions and names also whether they stand in the head of a directive (`at`); the words from where it begins; the words
-- left behind it (`rest`); and what it makes: a tree, trees, children, or a number. `words` are those behind the first words that are written out, and
-- `behind`, `middle`, `second` and `third` those behind a further part. Nothing is deeper than the limit.
-- Some productions are clauses of the relation of another, as `if` is one of `Statement`; those of the operators are ranks of `Ranked`.
-- A relation may leave off early, as with no index before a `[`: no program goes on so. Only for `else` does this need a premise of its own, `NoElse`.
use Rattle.std.specs.Prelude.{ℕ, ◌≡◌, ◌≢◌, ◌<◌, ◌+◌, IsTrue, Bool, true, false, List, [], ◌∷◌, ◌++◌, Option, Some, None}
use Rattle.c_syntax.specs.declared.term.Term.{Term}
use Rattle.c_syntax.specs.declared.term.Term.TheVariants as term
use Rattle.c_syntax.specs.declared.head.Head.{Head}
use Rattle.c_syntax.specs.declared.head.Head.TheVariants as head
use Rattle.c_syntax.specs.declared.node.BinaryOp.{BinaryOp}
use Rattle.c_syntax.specs.declared.node.BinaryOp.TheVariants as binary
use Rattle.c_syntax.specs.declared.node.UnaryOp.{UnaryOp}
use Rattle.c_syntax.specs.declared.node.UnaryOp.TheVariants as unary
use Rattle.c_syntax.specs.declared.node.Getter.{Getter}
use Rattle.c_syntax.specs.declared.node.Bump.{Bump}
use Rattle.c_syntax.specs.declared.node.Bump.TheVariants as bump
use Rattle.c_syntax.specs.declared.node.Data.{Data}
use Rattle.c_syntax.specs.declared.node.Data.TheVariants as data_clause
use Rattle.c_syntax.specs.declared.node.Default.{Default}
use Rattle.c_syntax.specs.declared.node.Default.TheVariants as default
use Rattle.c_syntax.specs.declared.node.Directive.{Directive}
use Rattle.c_syntax.specs.declared.node.Directive.TheVariants as directive
use Rattle.c_syntax.specs.declared.node.Lead.TheVariants as lead
use Rattle.c_syntax.specs.declared.node.LockCall.{LockCall}
use Rattle.c_syntax.specs.declared.node.LockCall.TheVariants as lock_call
use Rattle.c_syntax.specs.declared.node.Parameters.TheVariants as params
use Rattle.c_syntax.specs.declared.node.ReductionOp.{ReductionOp}
use Rattle.c_syntax.specs.declared.node.ReductionOp.TheVariants as reduction
use Rattle.c_syntax.specs.declared.node.Returns.{Returns}
use Rattle.c_syntax.specs.declared.node.Returns.TheVariants as returning
use Rattle.c_syntax.specs.declared.node.ScheduleKind.{ScheduleKind}
use Rattle.c_syntax.specs.declared.node.ScheduleKind.TheVariants as schedule
use Rattle.c_syntax.specs.declared.node.Setting.{Setting}
use Rattle.c_syntax.specs.declared.node.Setting.TheVariants as setting
use Rattle.c_syntax.specs.declared.node.Side.TheVariants as side
use Rattle.c_syntax.specs.declared.node.Sign.TheVariants as sign
use Rattle.c_syntax.specs.declared.node.Standalone.{Standalone}
use Rattle.c_syntax.specs.declared.node.Standalone.TheVariants as standalone
use Rattle.c_syntax.specs.declared.node.NodeKind.{NodeKind}
use Rattle.c_syntax.specs.declared.node.NodeKind.TheVariants as node
use Rattle.c_syntax.specs.language.Words.{Word}
use Rattle.c_syntax.specs.language.Tree.{Tree, Children, over_one, over_two}
use Rattle.c_syntax.specs.language.Tree.Tree.{Node}
use Rattle.c_syntax.specs.language.Tree.Children.{Over, Child, Absent}
use Rattle.c_syntax.specs.language.WordClasses.{is_getter, is_name_at}

-- the word is this one, or one of this kind
abbrev pub Is : Term → Word → Type 0
Is which word = word.term ≡ which

-- the word is a name where it stands
abbrev pub IsName : Head → Word → Type 0
IsName at word = IsTrue (is_name_at at word.term)

-- children that are all there
abbrev pub kids : List Tree → Children
kids [] = Over
kids (tree ∷ trees) = Child tree (kids trees)

-- a node that begins with this word, and one that keeps the word's name
abbrev pub made_at : NodeKind → Word → Children → Tree
made_at kind word children = Node kind word.spot 0 0 [] children

abbrev pub named_at : NodeKind → Word → Children → Tree
named_at kind word children = Node kind word.spot word.value 0 [] children

-- ---- expressions

-- the operators, by rank, from the one that binds least
abbrev pub rank_of : BinaryOp → ℕ
rank_of binary.Or = 0
rank_of binary.And = 1
rank_of binary.Equal = 2
rank_of binary.NotEqual = 2
rank_of binary.Less = 3
rank_of binary.LessEqual = 3
rank_of binary.Greater = 3
rank_of binary.GreaterEqual = 3
rank_of binary.Add = 4
rank_of binary.Subtract = 4
rank_of binary.Multiply = 5
rank_of binary.Divide = 5
rank_of binary.Remainder = 5

abbrev pub sign_of : BinaryOp → Term
sign_of binary.Or = term.OrOr
sign_of binary.And = term.AndAnd
sign_of binary.Equal = term.EqualEqual
sign_of binary.NotEqual = term.NotEqual
sign_of binary.Less = term.Less
sign_of binary.LessEqual = term.LessEqual
sign_of binary.Greater = term.Greater
sign_of binary.GreaterEqual = term.GreaterEqual
sign_of binary.Add = term.Plus
sign_of binary.Subtract = term.Minus
sign_of binary.Multiply = term.Star
sign_of binary.Divide = term.Slash
sign_of binary.Remainder = term.Percent

abbrev pub unary_sign : UnaryOp → Term
unary_sign unary.Negate = term.Minus
unary_sign unary.Not = term.Not

mutual
  -- what operators of this rank and of greater ones join, from the left: an expression is of rank 0, a conjunction of 1, an equality of 2, a comparison of
  -- 3, a sum of 4, a product of 5, and an operand of 6
  pub data Ranked : (limit rank depth : ℕ) → Head → List Word → List Word → Tree → Type 0 where
    operand : {limit depth : ℕ} {at : Head} {words rest : List Word} {tree : Tree} → Operand limit depth at words rest tree → Ranked limit 6 depth at words rest tree
    above : {limit rank depth : ℕ} {at : Head} {words rest : List Word} {tree : Tree} → rank < 6 → Ranked limit (rank + 1) depth at words rest tree → Ranked limit rank depth at words rest tree
    joined : {limit depth : ℕ} {at : Head} {words behind rest : List Word} {word : Word} {left right : Tree} → (operator : BinaryOp)
        → Ranked limit (rank_of operator) depth at words (word ∷ behind) left → Is (sign_of operator) word → Ranked limit (rank_of operator + 1) depth at behind rest right
        → Ranked limit (rank_of operator) depth at words rest (over_two (node.Binary operator) left right)

  -- operand = ( "-" | "!" ) operand | Number | place | parenthesis | getter
  pub data Operand : (limit depth : ℕ) → Head → List Word → List Word → Tree → Type 0 where
    signed : {limit depth : ℕ} {at : Head} {words rest : List Word} {word : Word} {tree : Tree} → (operator : UnaryOp) → Is (unary_sign operator) word → depth < limit
        → Operand limit (depth + 1) at words rest tree → Operand limit depth at (word ∷ words) rest (made_at (node.Unary operator) word (kids (tree ∷ [])))
    number : {limit depth : ℕ} {at : Head} {rest : List Word} {word : Word} → Is term.Number word
        → Operand limit depth at (word ∷ rest) rest (Node node.Number word.spot 0 word.value [] Over)
    placed : {limit depth : ℕ} {at : Head} {words rest : List Word} {tree : Tree} → Place limit depth at words rest tree → Operand limit depth at words rest tree
    parenthesis : {limit depth : ℕ} {at : Head} {words rest : List Word} {word last : Word} {tree : Tree} → Is term.OpenParen word → depth < limit
        → Ranked limit 0 (depth + 1) at words (last ∷ rest) tree → Is term.CloseParen last → Operand limit depth at (word ∷ words) rest (made_at node.Paren word (kids (tree ∷ [])))
    getter : {limit depth : ℕ} {at : Head} {rest : List Word} {word opened last : Word} → (which : Getter) → IsTrue (is_getter which word.term) → Is term.OpenParen opened
        → Is term.CloseParen last → Operand limit depth at (word ∷ opened ∷ last ∷ rest) rest (made_at (node.Getter which) word Over)

  -- place = name [ index ]
  pub data Place : (limit depth : ℕ) → Head → List Word → List Word → Tree → Type 0 where
    place : {limit depth : ℕ} {at : Head} {words rest : List Word} {word : Word} {children : Children} → IsName at word → IndexPart limit depth at words rest children
        → Place limit depth at (word ∷ words) rest (named_at node.Place word children)

  -- [ index ], where index = "[" expression "]"
  pub data IndexPart : (limit depth : ℕ) → Head → List Word → List Word → Children → Type 0 where
    bare : {limit depth : ℕ} {at : Head} {rest : List Word} → IndexPart limit depth at rest rest Over
    indexed : {limit depth : ℕ} {at : Head} {words rest : List Word} {word last : Word} {tree : Tree} → Is term.OpenBracket word → depth < limit
        → Ranked limit 0 (depth + 1) at words (last ∷ rest) tree → Is term.CloseBracket last → IndexPart limit depth at (word ∷ words) rest (kids (tree ∷ []))

abbrev pub Expression : (limit depth : ℕ) → Head → List Word → List Word → Tree → Type 0
Expression limit depth at words rest tree = Ranked limit 0 depth at words rest tree

-- a child that may be absent, before others
abbrev pub maybe : Option Tree → Children → Children
maybe None children = Absent children
maybe (Some tree) children = Child tree children

-- ---- calls

-- the node `Name` of this word
abbrev pub name_node : Word → Tree
name_node word = named_at node.Name word Over

-- { "," expression }
pub data MoreArguments : (limit depth : ℕ) → List Word → List Word → List Tree → Type 0 where
  last : {limit depth : ℕ} {rest : List Word} → MoreArguments limit depth rest rest []
  further : {limit depth : ℕ} {words behind rest : List Word} {word : Word} {tree : Tree} {trees : List Tree} → Is term.Comma word
      → Expression limit depth head.Outside words behind tree → MoreArguments limit depth behind rest trees → MoreArguments limit depth (word ∷ words) rest (tree ∷ trees)

-- [ arguments ], where arguments = expression { "," expression }
pub data ArgumentsPart : (limit depth : ℕ) → List Word → List Word → List Tree → Type 0 where
  none : {limit depth : ℕ} {rest : List Word} → ArgumentsPart limit depth rest rest []
  some : {limit depth : ℕ} {words behind rest : List Word} {tree : Tree} {trees : List Tree} → Expression limit depth head.Outside words behind tree
      → MoreArguments limit depth behind rest trees → ArgumentsPart limit depth words rest (tree ∷ trees)

-- lock = "(" "&" name ")"
pub data Lock : List Word → List Word → Tree → Type 0 where
  lock : {rest : List Word} {first second word last : Word} → Is term.OpenParen first → Is term.Ampersand second → IsName head.Outside word → Is term.CloseParen last
      → Lock (first ∷ second ∷ word ∷ last ∷ rest) rest (name_node word)

-- call = name "(" [ arguments ] ")" | "omp_test_lock" lock
pub data Call : (limit depth : ℕ) → List Word → List Word → Tree → Type 0 where
  call : {limit depth : ℕ} {words rest : List Word} {word first last : Word} {trees : List Tree} → IsName head.Outside word → Is term.OpenParen first
      → ArgumentsPart limit depth words (last ∷ rest) trees → Is term.CloseParen last → Call limit depth (word ∷ first ∷ words) rest (named_at node.Call word (kids trees))
  test : {limit depth : ℕ} {words rest : List Word} {word : Word} {tree : Tree} → Is term.TestLock word → Lock words rest tree
      → Call limit depth (word ∷ words) rest (made_at node.TestLock word (kids (tree ∷ [])))

-- value = expression | call
pub data Value : (limit depth : ℕ) → List Word → List Word → Tree → Type 0 where
  expression : {limit depth : ℕ} {words rest : List Word} {tree : Tree} → Expression limit depth head.Outside words rest tree → Value limit depth words rest tree
  called : {limit depth : ℕ} {words rest : List Word} {tree : Tree} → Call limit depth words rest tree → Value limit depth words rest tree

-- ---- declarations

-- size = "[" Number "]"
pub data Size : List Word → List Word → ℕ → Type 0 where
  size : {rest : List Word} {first word last : Word} → Is term.OpenBracket first → Is term.Number word → Is term.CloseBracket last → Size (first ∷ word ∷ last ∷ rest) rest word.value

-- local = name [ size | "=" value ]
pub data Local : (limit depth : ℕ) → List Word → List Word → Tree → Type 0 where
  plain : {limit depth : ℕ} {rest : List Word} {word : Word} → IsName head.Outside word → Local limit depth (word ∷ rest) rest (named_at node.LocalVar word Over)
  array : {limit depth : ℕ} {words rest : List Word} {word : Word} {number : ℕ} → IsName head.Outside word → Size words rest number
      → Local limit depth (word ∷ words) rest (Node node.LocalArray word.spot word.value number [] Over)
  set : {limit depth : ℕ} {words rest : List Word} {word equals : Word} {tree : Tree} → IsName head.Outside word → Is term.Set equals → Value limit depth words rest tree
      → Local limit depth (word ∷ equals ∷ words) rest (named_at node.LocalSet word (kids (tree ∷ [])))

-- { "," local }
pub data MoreLocals : (limit depth : ℕ) → List Word → List Word → List Tree → Type 0 where
  last : {limit depth : ℕ} {rest : List Word} → MoreLocals limit depth rest rest []
  further : {limit depth : ℕ} {words behind rest : List Word} {word : Word} {tree : Tree} {trees : List Tree} → Is term.Comma word → Local limit depth words behind tree
      → MoreLocals limit depth behind rest trees → MoreLocals limit depth (word ∷ words) rest (tree ∷ trees)

-- locals = "int" local { "," local } ";"
pub data Locals : (limit depth : ℕ) → List Word → List Word → Tree → Type 0 where
  locals : {limit depth : ℕ} {words behind rest : List Word} {word last : Word} {tree : Tree} {trees : List Tree} → Is term.Int word → Local limit depth words behind tree
      → MoreLocals limit depth behind (last ∷ rest) trees → Is term.Semicolon last → Locals limit depth (word ∷ words) rest (made_at node.Locals word (kids (tree ∷ trees)))

-- { "," name }, where the names stand here
pub data MoreNames : Head → List Word → List Word → List Tree → Type 0 where
  last : {at : Head} {rest : List Word} → MoreNames at rest rest []
  further : {at : Head} {words rest : List Word} {comma word : Word} {trees : List Tree} → Is term.Comma comma → IsName at word → MoreNames at words rest trees
      → MoreNames at (comma ∷ word ∷ words) rest (name_node word ∷ trees)

-- list = name { "," name }, of words that are names at this place. Locks have one too
pub data Names : Head → List Word → List Word → List Tree → Type 0 where
  names : {at : Head} {words rest : List Word} {word : Word} {trees : List Tree} → IsName at word → MoreNames at words rest trees → Names at (word ∷ words) rest (name_node word ∷ trees)

-- locks = "omp_lock_t" name { "," name } ";"
pub data Locks : List Word → List Word → Tree → Type 0 where
  locks : {words rest : List Word} {word last : Word} {trees : List Tree} → Is term.LockType word → Names head.Outside words (last ∷ rest) trees → Is term.Semicolon last
      → Locks (word ∷ words) rest (made_at node.Locks word (kids trees))

-- ---- steps

-- setting = "=" | "+=" | "-=" | "*=" | "/=" | "%="
abbrev pub setting_sign : Setting → Term
setting_sign setting.Plain = term.Set
setting_sign setting.Add = term.PlusSet
setting_sign setting.Subtract = term.MinusSet
setting_sign setting.Multiply = term.TimesSet
setting_sign setting.Divide = term.SlashSet
setting_sign setting.Remainder = term.PercentSet

-- bump = "++" | "--"
abbrev pub bump_sign : Bump → Term
bump_sign bump.Increment = term.PlusPlus
bump_sign bump.Decrement = term.MinusMinus

-- step = place setting expression | place bump | bump place
pub data StepOf : (limit depth : ℕ) → List Word → List Word → Tree → Type 0 where
  assigned : {limit depth : ℕ} {words behind rest : List Word} {word : Word} {left right : Tree} → (which : Setting) → Place limit depth head.Outside words (word ∷ behind) left
      → Is (setting_sign which) word → Expression limit depth head.Outside behind rest right → StepOf limit depth words rest (over_two (node.Assign which) left right)
  behind : {limit depth : ℕ} {words rest : List Word} {word : Word} {tree : Tree} → (which : Bump) → Place limit depth head.Outside words (word ∷ rest) tree
      → Is (bump_sign which) word → StepOf limit depth words rest (over_one (node.Bump which side.Behind) tree)
  before : {limit depth : ℕ} {words rest : List Word} {word : Word} {tree : Tree} → (which : Bump) → Is (bump_sign which) word → Place limit depth head.Outside words rest tree
      → StepOf limit depth (word ∷ words) rest (made_at (node.Bump which side.Before) word (kids (tree ∷ [])))

-- [ first ], where first = "int" name "=" expression | step
pub data FirstPart : (limit depth : ℕ) → List Word → List Word → Option Tree → Type 0 where
  none : {limit depth : ℕ} {rest : List Word} → FirstPart limit depth rest rest None
  declared : {limit depth : ℕ} {words rest : List Word} {word name equals : Word} {tree : Tree} → Is term.Int word → IsName head.Outside name → Is term.Set equals
      → Expression limit depth head.Outside words rest tree → FirstPart limit depth (word ∷ name ∷ equals ∷ words) rest (Some (made_at node.Init word (kids (name_node name ∷ tree ∷ []))))
  stepped : {limit depth : ℕ} {words rest : List Word} {tree : Tree} → StepOf limit depth words rest tree → FirstPart limit depth words rest (Some tree)

-- [ expression ], the condition of a loop
pub data ConditionPart : (limit depth : ℕ) → List Word → List Word → Option Tree → Type 0 where
  none : {limit depth : ℕ} {rest : List Word} → ConditionPart limit depth rest rest None
  some : {limit depth : ℕ} {words rest : List Word} {tree : Tree} → Expression limit depth head.Outside words rest tree → ConditionPart limit depth words rest (Some tree)

-- [ step ], the last in the head of a loop
pub data StepPart : (limit depth : ℕ) → List Word → List Word → Option Tree → Type 0 where
  none : {limit depth : ℕ} {rest : List Word} → StepPart limit depth rest rest None
  some : {limit depth : ℕ} {words rest : List Word} {tree : Tree} → StepOf limit depth words rest tree → StepPart limit depth words rest (Some tree)

-- ---- clauses

-- the head of a directive: each word is a name there, where the grammar has one. Any place in a head would do, since names ask only whether it is one
abbrev pub in_head : Head
in_head = head.Inside 1

abbrev pub default_word : Default → Term
default_word default.Shared = term.Shared
default_word default.None = term.None

abbrev pub data_word : Data → Term
data_word data_clause.Shared = term.Shared
data_word data_clause.Private = term.Private
data_word data_clause.Firstprivate = term.Firstprivate

-- operator = "+" | "*" | "max" | "min"
abbrev pub operator_word : ReductionOp → Term
operator_word reduction.Add = term.Plus
operator_word reduction.Multiply = term.Star
operator_word reduction.Max = term.Max
operator_word reduction.Min = term.Min

-- kind = "static" | "dynamic" | "guided"
abbrev pub kind_word : ScheduleKind → Term
kind_word schedule.Static = term.Static
kind_word schedule.Dynamic = term.Dynamic
kind_word schedule.Guided = term.Guided

-- The directives that have each clause.
abbrev pub has_num_threads : Directive → Bool
has_num_threads directive.Parallel = true
has_num_threads directive.ParallelFor = true
has_num_threads directive.ParallelSections = true
has_num_threads other = false

-- .. `default` and `shared`
abbrev pub has_default : Directive → Bool
has_default directive.Parallel = true
has_default directive.ParallelFor = true
has_default directive.ParallelSections = true
has_default directive.Task = true
has_default other = false

-- .. `private` and `firstprivate`
abbrev pub has_private : Directive → Bool
has_private directive.Parallel = true
has_private directive.For = true
has_private directive.Sections = true
has_private directive.Single = true
has_private directive.ParallelFor = true
has_private directive.ParallelSections = true
has_private directive.Task = true
has_private other = false

abbrev pub has_data : Data → Directive → Bool
has_data data_clause.Shared which = has_default which
has_data data_clause.Private which = has_private which
has_data data_clause.Firstprivate which = has_private which

abbrev pub has_reduction : Directive → Bool
has_reduction directive.Parallel = true
has_reduction directive.For = true
has_reduction directive.Sections = true
has_reduction directive.ParallelFor = true
has_reduction directive.ParallelSections = true
has_reduction other = false

abbrev pub has_schedule : Directive → Bool
has_schedule directive.For = true
has_schedule directive.ParallelFor = true
has_schedule other = false

abbrev pub has_nowait : Directive → Bool
has_nowait directive.For = true
has_nowait directive.Sections = true
has_nowait directive.Single = true
has_nowait other = false

abbrev pub has_if : Directive → Bool
has_if directive.Task = true
has_if other = false

-- [ "," Number ]
pub data Chunk : List Word → List Word → List Tree → Type 0 where
  none : {rest : List Word} → Chunk rest rest []
  some : {rest : List Word} {comma word : Word} → Is term.Comma comma → Is term.Number word → Chunk (comma ∷ word ∷ rest) rest (Node node.Number word.spot 0 word.value [] Over ∷ [])

-- clause = num_threads | default | data | reduction | schedule | nowait | if_clause, as far as the directive has them
pub data Clause : (limit depth : ℕ) → Directive → List Word → List Word → Tree → Type 0 where
  num_threads : {limit depth : ℕ} {which : Directive} {words rest : List Word} {word first last : Word} {tree : Tree} → IsTrue (has_num_threads which) → Is term.NumThreads word
      → Is term.OpenParen first → Expression limit depth in_head words (last ∷ rest) tree → Is term.CloseParen last
      → Clause limit depth which (word ∷ first ∷ words) rest (made_at node.NumThreads word (kids (tree ∷ [])))
  default_of : {limit depth : ℕ} {which : Directive} {rest : List Word} {word first told last : Word} → (how : Default) → IsTrue (has_default which) → Is term.Default word
      → Is term.OpenParen first → Is (default_word how) told → Is term.CloseParen last → Clause limit depth which (word ∷ first ∷ told ∷ last ∷ rest) rest (made_at (node.Default how) word Over)
  data_of : {limit depth : ℕ} {which : Directive} {words rest : List Word} {word first last : Word} {trees : List Tree} → (how : Data) → IsTrue (has_data how which) → Is (data_word how) word
      → Is term.OpenParen first → Names in_head words (last ∷ rest) trees → Is term.CloseParen last → Clause limit depth which (word ∷ first ∷ words) rest (made_at (node.Data how) word (kids trees))
  reduction_of : {limit depth : ℕ} {which : Directive} {words rest : List Word} {word first sign colon last : Word} {trees : List Tree} → (how : ReductionOp) → IsTrue (has_reduction which)
      → Is term.Reduction word → Is term.OpenParen first → Is (operator_word how) sign → Is term.Colon colon → Names in_head words (last ∷ rest) trees → Is term.CloseParen last
      → Clause limit depth which (word ∷ first ∷ sign ∷ colon ∷ words) rest (made_at (node.Reduction how) word (kids trees))
  schedule_of : {limit depth : ℕ} {which : Directive} {words rest : List Word} {word first told last : Word} {trees : List Tree} → (how : ScheduleKind) → IsTrue (has_schedule which)
      → Is term.Schedule word → Is term.OpenParen first → Is (kind_word how) told → Chunk words (last ∷ rest) trees → Is term.CloseParen last
      → Clause limit depth which (word ∷ first ∷ told ∷ words) rest (made_at (node.Schedule how) word (kids trees))
  nowait : {limit depth : ℕ} {which : Directive} {rest : List Word} {word : Word} → IsTrue (has_nowait which) → Is term.Nowait word
      → Clause limit depth which (word ∷ rest) rest (made_at node.Nowait word Over)
  condition : {limit depth : ℕ} {which : Directive} {words rest : List Word} {word first last : Word} {tree : Tree} → IsTrue (has_if which) → Is term.If word → Is term.OpenParen first
      → Expression limit depth in_head words (last ∷ rest) tree → Is term.CloseParen last
      → Clause limit depth which (word ∷ first ∷ words) rest (made_at node.IfClause word (kids (tree ∷ [])))

-- clauses = { [ "," ] clause }
pub data Clauses : (limit depth : ℕ) → Directive → List Word → List Word → List Tree → Type 0 where
  none : {limit depth : ℕ} {which : Directive} {rest : List Word} → Clauses limit depth which rest rest []
  plain : {limit depth : ℕ} {which : Directive} {words behind rest : List Word} {tree : Tree} {trees : List Tree} → Clause limit depth which words behind tree
      → Clauses limit depth which behind rest trees → Clauses limit depth which words rest (over_one (node.Clause lead.Blank) tree ∷ trees)
  behind_comma : {limit depth : ℕ} {which : Directive} {words behind rest : List Word} {comma : Word} {tree : Tree} {trees : List Tree} → Is term.Comma comma
      → Clause limit depth which words behind tree → Clauses limit depth which behind rest trees
      → Clauses limit depth which (comma ∷ words) rest (over_one (node.Clause lead.Comma) tree ∷ trees)

-- ---- statements

-- the words of the directives that may have clauses
pub data DirectiveWords : Directive → List Word → List Word → Type 0 where
  parallel : {rest : List Word} {word : Word} → Is term.Parallel word → DirectiveWords directive.Parallel (word ∷ rest) rest
  parallel_for : {rest : List Word} {word second : Word} → Is term.Parallel word → Is term.For second → DirectiveWords directive.ParallelFor (word ∷ second ∷ rest) rest
  parallel_sections : {rest : List Word} {word second : Word} → Is term.Parallel word → Is term.Sections second → DirectiveWords directive.ParallelSections (word ∷ second ∷ rest) rest
  loop : {rest : List Word} {word : Word} → Is term.For word → DirectiveWords directive.For (word ∷ rest) rest
  sections : {rest : List Word} {word : Word} → Is term.Sections word → DirectiveWords directive.Sections (word ∷ rest) rest
  single : {rest : List Word} {word : Word} → Is term.Single word → DirectiveWords directive.Single (word ∷ rest) rest
  task : {rest : List Word} {word : Word} → Is term.Task word → DirectiveWords directive.Task (word ∷ rest) rest

-- directive, and in_sections: with what stands behind its words, which is clauses, or of a critical the name, if it has one. `is_sections` tells which it is
pub data DirectiveOf : (limit depth : ℕ) → Directive → List Word → List Word → List Tree → Type 0 where
  with_clauses : {limit depth : ℕ} {which : Directive} {words middle rest : List Word} {trees : List Tree} → DirectiveWords which words middle → Clauses limit depth which middle rest trees
      → DirectiveOf limit depth which words rest trees
  masked : {limit depth : ℕ} {rest : List Word} {word : Word} → Is term.Masked word → DirectiveOf limit depth directive.Masked (word ∷ rest) rest []
  master : {limit depth : ℕ} {rest : List Word} {word : Word} → Is term.Master word → DirectiveOf limit depth directive.Master (word ∷ rest) rest []
  critical : {limit depth : ℕ} {rest : List Word} {word : Word} → Is term.Critical word → DirectiveOf limit depth directive.Critical (word ∷ rest) rest []
  critical_named : {limit depth : ℕ} {rest : List Word} {word first name last : Word} → Is term.Critical word → Is term.OpenParen first → IsName in_head name → Is term.CloseParen last
      → DirectiveOf limit depth directive.Critical (word ∷ first ∷ name ∷ last ∷ rest) rest (name_node name ∷ [])

-- directives with the braces of sections behind their line
abbrev pub is_sections : Directive → Bool
is_sections directive.Sections = true
is_sections directive.ParallelSections = true
is_sections other = false

-- lock_routine = "omp_init_lock" | "omp_destroy_lock" | "omp_set_lock" | "omp_unset_lock"
abbrev pub routine_word : LockCall → Term
routine_word lock_call.Init = term.InitLock
routine_word lock_call.Destroy = term.DestroyLock
routine_word lock_call.Set = term.SetLock
routine_word lock_call.Unset = term.UnsetLock

abbrev pub standalone_word : Standalone → Term
standalone_word standalone.Barrier = term.Barrier
standalone_word standalone.Taskwait = term.Taskwait

-- no `else` is next: so an `else` belongs to the nearest `if` that can have it
abbrev pub NoElse : List Word → Type 0
NoElse [] = Unit {0}
NoElse (word ∷ rest) = word.term ≢ term.Else

mutual
  -- block = "{" { item } "}"
  pub data Block : (limit depth : ℕ) → List Word → List Word → Tree → Type 0 where
    block : {limit depth : ℕ} {words rest : List Word} {word last : Word} {trees : List Tree} → Is term.OpenBrace word → depth < limit → Items limit (depth + 1) words (last ∷ rest) trees
        → Is term.CloseBrace last → Block limit depth (word ∷ words) rest (made_at node.Block word (kids trees))

  -- { item }, where item = locals | locks | standalone | statement
  pub data Items : (limit depth : ℕ) → List Word → List Word → List Tree → Type 0 where
    none : {limit depth : ℕ} {rest : List Word} → Items limit depth rest rest []
    locals : {limit depth : ℕ} {words behind rest : List Word} {tree : Tree} {trees : List Tree} → Locals limit depth words behind tree → Items limit depth behind rest trees
        → Items limit depth words rest (tree ∷ trees)
    locks : {limit depth : ℕ} {words behind rest : List Word} {tree : Tree} {trees : List Tree} → Locks words behind tree → Items limit depth behind rest trees
        → Items limit depth words rest (tree ∷ trees)
    alone : {limit depth : ℕ} {behind rest : List Word} {word told last : Word} {trees : List Tree} → (which : Standalone) → Is term.Pragma word → Is (standalone_word which) told
        → Is term.PragmaEnd last → Items limit depth behind rest trees → Items limit depth (word ∷ told ∷ last ∷ behind) rest (made_at (node.Standalone which) word Over ∷ trees)
    statement : {limit depth : ℕ} {words behind rest : List Word} {tree : Tree} {trees : List Tree} → Statement limit depth words behind tree → Items limit depth behind rest trees
        → Items limit depth words rest (tree ∷ trees)

  -- statement = ";" | block | if | while | for | return | set_call | called | stepped | print | lock_call | construct
  pub data Statement : (limit depth : ℕ) → List Word → List Word → Tree → Type 0 where
    empty : {limit depth : ℕ} {rest : List Word} {word : Word} → Is term.Semicolon word → Statement limit depth (word ∷ rest) rest (made_at node.Empty word Over)
    braced : {limit depth : ℕ} {words rest : List Word} {tree : Tree} → Block limit depth words rest tree → Statement limit depth words rest tree
    -- if = "if" "(" expression ")" statement [ "else" statement ]
    if_alone : {limit depth : ℕ} {words behind rest : List Word} {word first last : Word} {condition tree : Tree} → Is term.If word → depth < limit → Is term.OpenParen first
        → Expression limit (depth + 1) head.Outside words (last ∷ behind) condition → Is term.CloseParen last → Statement limit (depth + 1) behind rest tree → NoElse rest
        → Statement limit depth (word ∷ first ∷ words) rest (made_at node.If word (Child condition (Child tree (Absent Over))))
    if_else : {limit depth : ℕ} {words behind middle rest : List Word} {word first last other : Word} {condition tree second : Tree} → Is term.If word → depth < limit → Is term.OpenParen first
        → Expression limit (depth + 1) head.Outside words (last ∷ behind) condition → Is term.CloseParen last → Statement limit (depth + 1) behind (other ∷ middle) tree
        → Is term.Else other → Statement limit (depth + 1) middle rest second
        → Statement limit depth (word ∷ first ∷ words) rest (made_at node.If word (kids (condition ∷ tree ∷ second ∷ [])))
    -- while = "while" "(" expression ")" statement
    while : {limit depth : ℕ} {words behind rest : List Word} {word first last : Word} {condition tree : Tree} → Is term.While word → depth < limit → Is term.OpenParen first
        → Expression limit (depth + 1) head.Outside words (last ∷ behind) condition → Is term.CloseParen last → Statement limit (depth + 1) behind rest tree
        → Statement limit depth (word ∷ first ∷ words) rest (made_at node.While word (kids (condition ∷ tree ∷ [])))
    -- for = "for" "(" [ first ] ";" [ expression ] ";" [ step ] ")" statement
    loop : {limit depth : ℕ} {words second third behind rest : List Word} {word first one two last : Word} {begins tests steps : Option Tree} {tree : Tree} → Is term.For word → depth < limit
        → Is term.OpenParen first → FirstPart limit (depth + 1) words (one ∷ second) begins → Is term.Semicolon one → ConditionPart limit (depth + 1) second (two ∷ third) tests → Is term.Semicolon two
        → StepPart limit (depth + 1) third (last ∷ behind) steps → Is term.CloseParen last → Statement limit (depth + 1) behind rest tree
        → Statement limit depth (word ∷ first ∷ words) rest (made_at node.For word (maybe begins (maybe tests (maybe steps (Child tree Over)))))
    -- return = "return" [ value ] ";"
    returns : {limit depth : ℕ} {rest : List Word} {word last : Word} → Is term.Return word → Is term.Semicolon last
        → Statement limit depth (word ∷ last ∷ rest) rest (made_at node.Return word Over)
    returns_value : {limit depth : ℕ} {words rest : List Word} {word last : Word} {tree : Tree} → Is term.Return word → Value limit depth words (last ∷ rest) tree → Is term.Semicolon last
        → Statement limit depth (word ∷ words) rest (made_at node.Return word (kids (tree ∷ [])))
    -- set_call = place "=" call ";"
    set_call : {limit depth : ℕ} {words behind rest : List Word} {equals last : Word} {left right : Tree} → Place limit depth head.Outside words (equals ∷ behind) left → Is term.Set equals
        → Call limit depth behind (last ∷ rest) right → Is term.Semicolon last → Statement limit depth words rest (over_two node.SetCall left right)
    -- called = call ";"
    called : {limit depth : ℕ} {words rest : List Word} {last : Word} {tree : Tree} → Call limit depth words (last ∷ rest) tree → Is term.Semicolon last
        → Statement limit depth words rest (over_one node.Called tree)
    -- stepped = step ";"
    stepped : {limit depth : ℕ} {words rest : List Word} {last : Word} {tree : Tree} → StepOf limit depth words (last ∷ rest) tree → Is term.Semicolon last
        → Statement limit depth words rest (over_one node.Step tree)
    -- print = "printf" "(" Text [ "," arguments ] ")" ";", which is the text and { "," expression }
    print : {limit depth : ℕ} {words rest : List Word} {word first told last end : Word} {trees : List Tree} → Is term.Printf word → Is term.OpenParen first → Is term.Text told
        → MoreArguments limit depth words (last ∷ end ∷ rest) trees → Is term.CloseParen last → Is term.Semicolon end
        → Statement limit depth (word ∷ first ∷ told ∷ words) rest (Node node.Print word.spot 0 0 told.text (kids trees))
    -- lock_call = lock_routine lock ";"
    locking : {limit depth : ℕ} {words rest : List Word} {word last : Word} {tree : Tree} → (which : LockCall) → Is (routine_word which) word → Lock words (last ∷ rest) tree
        → Is term.Semicolon last → Statement limit depth (word ∷ words) rest (made_at (node.LockCall which) word (kids (tree ∷ [])))
    construct : {limit depth : ℕ} {words rest : List Word} {tree : Tree} → Construct limit depth words rest tree → Statement limit depth words rest tree

  -- construct = Pragma directive PragmaEnd statement | Pragma in_sections PragmaEnd sections
  pub data Construct : (limit depth : ℕ) → List Word → List Word → Tree → Type 0 where
    around : {limit depth : ℕ} {which : Directive} {words behind rest : List Word} {word last : Word} {trees : List Tree} {tree : Tree} → Is term.Pragma word → depth < limit
        → is_sections which ≡ false → DirectiveOf limit (depth + 1) which words (last ∷ behind) trees → Is term.PragmaEnd last → Statement limit (depth + 1) behind rest tree
        → Construct limit depth (word ∷ words) rest (made_at (node.Construct which) word (kids (trees ++ tree ∷ [])))
    in_sections : {limit depth : ℕ} {which : Directive} {words behind rest : List Word} {word last : Word} {trees parts : List Tree} → Is term.Pragma word → depth < limit
        → is_sections which ≡ true → DirectiveOf limit (depth + 1) which words (last ∷ behind) trees → Is term.PragmaEnd last → Sections limit (depth + 1) behind rest parts
        → Construct limit depth (word ∷ words) rest (made_at (node.Construct which) word (kids (trees ++ parts)))

  -- sections = "{" ( statement | section ) { section } "}"
  pub data Sections : (limit depth : ℕ) → List Word → List Word → List Tree → Type 0 where
    from_statement : {limit depth : ℕ} {words behind rest : List Word} {word last : Word} {tree : Tree} {trees : List Tree} → Is term.OpenBrace word → Statement limit depth words behind tree
        → MoreSections limit depth behind (last ∷ rest) trees → Is term.CloseBrace last → Sections limit depth (word ∷ words) rest (tree ∷ trees)
    from_section : {limit depth : ℕ} {words behind rest : List Word} {word last : Word} {tree : Tree} {trees : List Tree} → Is term.OpenBrace word → Section limit depth words behind tree
        → MoreSections limit depth behind (last ∷ rest) trees → Is term.CloseBrace last → Sections limit depth (word ∷ words) rest (tree ∷ trees)

  -- { section }
  pub data MoreSections : (limit depth : ℕ) → List Word → List Word → List Tree → Type 0 where
    last : {limit depth : ℕ} {rest : List Word} → MoreSections limit depth rest rest []
    further : {limit depth : ℕ} {words behind rest : List Word} {tree : Tree} {trees : List Tree} → Section limit depth words behind tree → MoreSections limit depth behind rest trees
        → MoreSections limit depth words rest (tree ∷ trees)

  -- section = Pragma "section" PragmaEnd statement
  pub data Section : (limit depth : ℕ) → List Word → List Word → Tree → Type 0 where
    section : {limit depth : ℕ} {words rest : List Word} {word told last : Word} {tree : Tree} → Is term.Pragma word → depth < limit → Is term.Section told → Is term.PragmaEnd last
        → Statement limit (depth + 1) words rest tree → Section limit depth (word ∷ told ∷ last ∷ words) rest (made_at node.Section word (kids (tree ∷ [])))

-- ---- files

-- { "," "int" name }
pub data MoreParameters : List Word → List Word → List Tree → Type 0 where
  last : {rest : List Word} → MoreParameters rest rest []
  further : {words rest : List Word} {comma word name : Word} {trees : List Tree} → Is term.Comma comma → Is term.Int word → IsName head.Outside name → MoreParameters words rest trees
      → MoreParameters (comma ∷ word ∷ name ∷ words) rest (name_node name ∷ trees)

-- parameters = [ "void" | parameter { "," parameter } ], where parameter = "int" name. Without any their node stands at the next word
pub data Parameters : List Word → List Word → Tree → Type 0 where
  empty : {rest : List Word} {next : Word} → Parameters (next ∷ rest) (next ∷ rest) (made_at (node.Params params.Empty) next Over)
  void : {rest : List Word} {word : Word} → Is term.Void word → Parameters (word ∷ rest) rest (made_at (node.Params params.Void) word Over)
  listed : {words rest : List Word} {word name : Word} {trees : List Tree} → Is term.Int word → IsName head.Outside name → MoreParameters words rest trees
      → Parameters (word ∷ name ∷ words) rest (made_at (node.Params params.Listed) word (kids (name_node name ∷ trees)))

abbrev pub returns_word : Returns → Term
returns_word returning.Int = term.Int
returns_word returning.Void = term.Void

-- function = ( "int" | "void" ) name "(" parameters ")" block
pub data Function : (limit depth : ℕ) → List Word → List Word → Tree → Type 0 where
  function : {limit depth : ℕ} {words behind rest : List Word} {word name first last : Word} {parameters body : Tree} → (which : Returns) → Is (returns_word which) word
      → IsName head.Outside name → Is term.OpenParen first → Parameters words (last ∷ behind) parameters → Is term.CloseParen last → Block limit depth behind rest body
      → Function limit depth (word ∷ name ∷ first ∷ words) rest (made_at (node.Function which) word (kids (name_node name ∷ parameters ∷ body ∷ [])))

-- variable = name [ size | "=" [ "-" ] Number ]
pub data Variable : List Word → List Word → Tree → Type 0 where
  plain : {rest : List Word} {word : Word} → IsName head.Outside word → Variable (word ∷ rest) rest (named_at node.GlobalVar word Over)
  array : {words rest : List Word} {word : Word} {number : ℕ} → IsName head.Outside word → Size words rest number
      → Variable (word ∷ words) rest (Node node.GlobalArray word.spot word.value number [] Over)
  set : {rest : List Word} {word equals number : Word} → IsName head.Outside word → Is term.Set equals → Is term.Number number
      → Variable (word ∷ equals ∷ number ∷ rest) rest (Node (node.GlobalSet sign.Plus) word.spot word.value number.value [] Over)
  set_below : {rest : List Word} {word equals minus number : Word} → IsName head.Outside word → Is term.Set equals → Is term.Minus minus → Is term.Number number
      → Variable (word ∷ equals ∷ minus ∷ number ∷ rest) rest (Node (node.GlobalSet sign.Minus) word.spot word.value number.value [] Over)

-- { "," variable }
pub data MoreVariables : List Word → List Word → List Tree → Type 0 where
  last : {rest : List Word} → MoreVariables rest rest []
  further : {words behind rest : List Word} {comma : Word} {tree : Tree} {trees : List Tree} → Is term.Comma comma → Variable words behind tree → MoreVariables behind rest trees
      → MoreVariables (comma ∷ words) rest (tree ∷ trees)

-- variables = "int" variable { "," variable } ";"
pub data Variables : List Word → List Word → Tree → Type 0 where
  variables : {words behind rest : List Word} {word last : Word} {tree : Tree} {trees : List Tree} → Is term.Int word → Variable words behind tree → MoreVariables behind (last ∷ rest) trees
      → Is term.Semicolon last → Variables (word ∷ words) rest (made_at node.Globals word (kids (tree ∷ trees)))

-- { Include | function | variables | locks }
pub data FileParts : (limit depth : ℕ) → List Word → List Word → List Tree → Type 0 where
  none : {limit depth : ℕ} {rest : List Word} → FileParts limit depth rest rest []
  include : {limit depth : ℕ} {behind rest : List Word} {word : Word} {trees : List Tree} → Is term.Include word → FileParts limit depth behind rest trees
      → FileParts limit depth (word ∷ behind) rest (made_at node.Include word Over ∷ trees)
  function : {limit depth : ℕ} {words behind rest : List Word} {tree : Tree} {trees : List Tree} → Function limit depth words behind tree → FileParts limit depth behind rest trees
      → FileParts limit depth words rest (tree ∷ trees)
  variables : {limit depth : ℕ} {words behind rest : List Word} {tree : Tree} {trees : List Tree} → Variables words behind tree → FileParts limit depth behind rest trees
      → FileParts limit depth words rest (tree ∷ trees)
  locks : {limit depth : ℕ} {words behind rest : List Word} {tree : Tree} {trees : List Tree} → Locks words behind tree → FileParts limit depth behind rest trees
      → FileParts limit depth words rest (tree ∷ trees)

-- program = { Include | function | variables | locks } End
pub data IsProgram : ℕ → List Word → Tree → Type 0 where
  program : {limit : ℕ} {words : List Word} {first last : Word} {trees : List Tree} → FileParts limit 0 (first ∷ words) (last ∷ []) trees → Is term.End last
      → IsProgram limit (first ∷ words) (made_at node.Program first (kids trees))

-- the limit of the depth of programs
abbrev pub depth_limit : ℕ
depth_limit = 64

-- some words more make the words a program
abbrev pub GoesOn : ℕ → List Word → Type 0
GoesOn limit words = (more : List Word) × (tree : Tree) × IsProgram limit (words ++ more) tree
