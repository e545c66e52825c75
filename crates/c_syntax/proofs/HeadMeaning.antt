-- What the sorts of text in the head of a directive mean by the productions: names, clauses and directives.
use Rattle.std.proofs.Common.{ℕ, ◌≡◌, ◌<◌, ◌+◌, ◌-◌, ◌⊎◌, Bool, true, false, IsTrue, List, [], ◌∷◌, ◌++◌}
use Rattle.c_syntax.specs.declared.head.Head.TheVariants as head
use Rattle.c_syntax.specs.declared.node.Default.{Default}
use Rattle.c_syntax.specs.declared.node.Directive.{Directive}
use Rattle.c_syntax.specs.declared.node.Directive.TheVariants as directive
use Rattle.c_syntax.specs.declared.node.NodeKind.TheVariants as node
use Rattle.c_syntax.specs.declared.node.ReductionOp.{ReductionOp}
use Rattle.c_syntax.specs.declared.node.ScheduleKind.{ScheduleKind}
use Rattle.c_syntax.specs.declared.node.Standalone.{Standalone}
use Rattle.c_syntax.specs.declared.term.Term.TheVariants as term
use Rattle.c_syntax.specs.language.Words.{Word}
use Rattle.c_syntax.specs.language.Tree.{Tree}
use Rattle.c_syntax.specs.workings.Derivation.{Opened, made}
use Rattle.c_syntax.specs.language.Productions.{Chunk, Clause, Clauses, DirectiveOf, Is, IsName, MoreNames, Names, Sections, Statement, default_word, in_head, is_sections, kind_word, name_node, operator_word, standalone_word}
use Rattle.c_syntax.proofs.Effects.{Effect, Expects, Makes}
use Rattle.c_syntax.proofs.Pushing.{all_added}
use Rattle.c_syntax.proofs.Standing.{AddsAll, AddsOne, Stands}

-- ---- names and clauses

abbrev pub ReadsNames : Effect → Effect
ReadsNames next = AddsAll in_head (Names in_head) next

abbrev pub ReadsMoreNames : Effect → Effect
ReadsMoreNames next = AddsAll in_head (MoreNames in_head) next

abbrev pub ReadsChunk : Effect → Effect
ReadsChunk next = AddsAll in_head Chunk next

abbrev pub ReadsClauses : (limit : ℕ) → Directive → Effect → Effect
ReadsClauses limit which next depth at words nodes = AddsAll head.Clause (Clauses limit depth which) next depth at words nodes

abbrev pub ReadsClause : (limit : ℕ) → Directive → Effect → Effect
ReadsClause limit which next depth at words nodes = AddsOne head.Clause (Clause limit depth which) next depth at words nodes

abbrev pub ReadsDefaultWord : Effect → Effect
ReadsDefaultWord next depth at words nodes = (how : Default) × Expects (default_word how) (Expects term.CloseParen (Makes (node.Default how) next)) depth at words nodes

abbrev pub ReadsOperator : Effect → Effect
ReadsOperator next depth at words nodes =
    (how : ReductionOp) × Expects (operator_word how) (Expects term.Colon (ReadsNames (Expects term.CloseParen (Makes (node.Reduction how) next)))) depth at words nodes

abbrev pub ReadsKind : Effect → Effect
ReadsKind next depth at words nodes = (how : ScheduleKind) × Expects (kind_word how) (ReadsChunk (Expects term.CloseParen (Makes (node.Schedule how) next))) depth at words nodes

-- ---- directives

-- what stands behind the line of a directive
pub data Body : (limit depth : ℕ) → Directive → List Word → List Word → List Tree → Type 0 where
  statement : {limit depth : ℕ} {which : Directive} {words rest : List Word} {tree : Tree} → is_sections which ≡ false → Statement limit depth words rest tree
      → Body limit depth which words rest (tree ∷ [])
  sections : {limit depth : ℕ} {which : Directive} {words rest : List Word} {trees : List Tree} → is_sections which ≡ true → Sections limit depth words rest trees
      → Body limit depth which words rest trees

-- a name in parentheses, or none
pub data CriticalName : List Word → List Word → List Tree → Type 0 where
  none : {rest : List Word} → CriticalName rest rest []
  named : {rest : List Word} {first name last : Word} → Is term.OpenParen first → IsName in_head name → Is term.CloseParen last
      → CriticalName (first ∷ name ∷ last ∷ rest) rest (name_node name ∷ [])

-- the line of a directive from its directive on, and the text behind it
pub data Constructed : (limit depth : ℕ) → Directive → List Word → List Word → List Tree → Type 0 where
  constructed : {limit depth : ℕ} {which : Directive} {words behind rest : List Word} {trees parts : List Tree} {last : Word}
      → DirectiveOf limit depth which words (last ∷ behind) trees → Is term.PragmaEnd last → Body limit depth which behind rest parts
      → Constructed limit depth which words rest (trees ++ parts)

-- directives that have clauses, and those that have none
abbrev pub is_clausal : Directive → Bool
is_clausal directive.Masked = false
is_clausal directive.Master = false
is_clausal directive.Critical = false
is_clausal other = true

abbrev pub is_bare : Directive → Bool
is_bare directive.Masked = true
is_bare directive.Master = true
is_bare other = false

-- what follows the first word of a directive on its line: those of two words begin as `parallel` does
pub data Follows : (limit depth : ℕ) → Directive → Directive → List Word → List Word → List Tree → Type 0 where
  clauses : {limit depth : ℕ} {which : Directive} {words rest : List Word} {trees : List Tree} → IsTrue (is_clausal which) → Clauses limit depth which words rest trees
      → Follows limit depth which which words rest trees
  parallel_for : {limit depth : ℕ} {words rest : List Word} {trees : List Tree} {second : Word} → Is term.For second → Clauses limit depth directive.ParallelFor words rest trees
      → Follows limit depth directive.Parallel directive.ParallelFor (second ∷ words) rest trees
  parallel_sections : {limit depth : ℕ} {words rest : List Word} {trees : List Tree} {second : Word} → Is term.Sections second
      → Clauses limit depth directive.ParallelSections words rest trees → Follows limit depth directive.Parallel directive.ParallelSections (second ∷ words) rest trees
  bare : {limit depth : ℕ} {which : Directive} {rest : List Word} → IsTrue (is_bare which) → Follows limit depth which which rest rest []
  critical : {limit depth : ℕ} {words rest : List Word} {trees : List Tree} → CriticalName words rest trees
      → Follows limit depth directive.Critical directive.Critical words rest trees

-- .. with the text behind the line
pub data Lined : (limit depth : ℕ) → Directive → Directive → List Word → List Word → List Tree → Type 0 where
  lined : {limit depth : ℕ} {first which : Directive} {words behind rest : List Word} {trees parts : List Tree} {last : Word}
      → Follows limit depth first which words (last ∷ behind) trees → Is term.PragmaEnd last → Body limit depth which behind rest parts
      → Lined limit depth first which words rest (trees ++ parts)

abbrev pub ReadsCriticalName : Effect → Effect
ReadsCriticalName next = AddsAll head.Clause CriticalName next

-- the construct is closed, with these as its children
abbrev pub Closes : Effect → ℕ → Directive → List Word → List Tree → List Opened → Type 0
Closes next depth which rest trees nodes = next depth head.Outside rest (made (node.Construct which) (all_added trees nodes))

abbrev pub ReadsBehind : (limit : ℕ) → Directive → Effect → Effect
ReadsBehind limit first next depth at words nodes =
    Stands head.Clause at nodes → (which : Directive) × (rest : List Word) × (trees : List Tree) × Lined limit depth first which words rest trees × Closes next depth which rest trees nodes

abbrev pub ReadsConstruct : (limit : ℕ) → Effect → Effect
ReadsConstruct limit next depth at words nodes =
    Stands head.Directive at nodes
    → (which : Directive) × (rest : List Word) × (trees : List Tree) × Constructed limit depth which words rest trees × Closes next (depth - 1) which rest trees nodes

-- a construct that counts for the depth only now
abbrev pub Deeper : (limit : ℕ) → Effect → ℕ → List Word → List Opened → Type 0
Deeper limit next depth words nodes =
    (which : Directive) × (rest : List Word) × (trees : List Tree) × (depth < limit) × Constructed limit (depth + 1) which words rest trees × Closes next depth which rest trees nodes

abbrev pub ReadsItemDirective : (limit : ℕ) → Effect → Effect
ReadsItemDirective limit next depth at words nodes =
    Stands head.Directive at nodes
    → Deeper limit next depth words nodes
    ⊎ ((which : Standalone) × Expects (standalone_word which) (Expects term.PragmaEnd (Makes (node.Standalone which) next)) depth at words nodes)
