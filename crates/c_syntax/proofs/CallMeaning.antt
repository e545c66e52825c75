-- What the sorts of values, declarations and steps mean by the productions.
use Rattle.std.proofs.Common.{ℕ, IsTrue, List, ◌∷◌, Some}
use Rattle.c_syntax.specs.declared.grammar.Class.TheVariants as class
use Rattle.c_syntax.specs.declared.head.Head.{Head}
use Rattle.c_syntax.specs.declared.head.Head.TheVariants as head
use Rattle.c_syntax.specs.declared.node.Setting.TheVariants as setting
use Rattle.c_syntax.specs.declared.node.NodeKind.TheVariants as node
use Rattle.c_syntax.specs.language.Words.{Word}
use Rattle.c_syntax.specs.language.Tree.{Tree, over_one, over_two}
use Rattle.c_syntax.specs.language.WordClasses.{is_name}
use Rattle.c_syntax.specs.workings.Derivation.{Opened, keep, opened_at, with_child}
use Rattle.c_syntax.specs.language.Productions.{ArgumentsPart, Call, ConditionPart, Expression, FirstPart, Local, Locals, Locks, MoreArguments, MoreLocals, MoreNames, Place, Statement, StepOf, StepPart, Value}
use Rattle.c_syntax.proofs.Effects.{Effect}
use Rattle.c_syntax.proofs.Pushing.{plus}
use Rattle.c_syntax.proofs.Standing.{AddsAll, AddsMaybe, AddsOne}

-- a node is open that has a name, and the words behind that are next
pub data Named (word : Word) (outer : List Opened) : Head → List Opened → Type 0 where
  named : IsTrue (is_name word.term) → Named word outer head.Outside (keep class.Name word (opened_at word.spot) ∷ outer)

-- what is to hold where the name stands
abbrev pub BehindName : Effect → Effect
BehindName effect depth at words nodes = (word : Word) → (outer : List Opened) → Named word outer at nodes → effect depth head.Outside (word ∷ words) outer

-- the newest child is this tree, and was added to these nodes
pub data Holds (left : Tree) : List Opened → Head → List Opened → Type 0 where
  holds : {own : Opened} {outer : List Opened} → Holds left (own ∷ outer) head.Outside (with_child (Some left) own ∷ outer)

-- what is to hold where the place stands that it is
abbrev pub BehindPlace : ℕ → Effect → Effect
BehindPlace limit effect depth at words nodes =
    (left : Tree) → (before : List Opened) → Holds left before at nodes → (from : List Word) → Place limit depth head.Outside from words left → effect depth head.Outside from before

abbrev pub ReadsArgs : ℕ → Effect → Effect
ReadsArgs limit next depth at words nodes = AddsAll head.Outside (ArgumentsPart limit depth) next depth at words nodes

abbrev pub ReadsMoreArgs : ℕ → Effect → Effect
ReadsMoreArgs limit next depth at words nodes = AddsAll head.Outside (MoreArguments limit depth) next depth at words nodes

abbrev pub ReadsRight : ℕ → Effect → Effect
ReadsRight limit next depth at words nodes = AddsOne head.Outside (Value limit depth) next depth at words nodes

abbrev pub ReadsLocal : ℕ → Effect → Effect
ReadsLocal limit next depth at words nodes = AddsOne head.Outside (Local limit depth) next depth at words nodes

abbrev pub ReadsMoreLocals : ℕ → Effect → Effect
ReadsMoreLocals limit next depth at words nodes = AddsAll head.Outside (MoreLocals limit depth) next depth at words nodes

abbrev pub ReadsLocals : ℕ → Effect → Effect
ReadsLocals limit next depth at words nodes = AddsOne head.Outside (Locals limit depth) next depth at words nodes

abbrev pub ReadsLocks : Effect → Effect
ReadsLocks next = AddsOne head.Outside Locks next

abbrev pub ReadsMoreLocks : Effect → Effect
ReadsMoreLocks next = AddsAll head.Outside (MoreNames head.Outside) next

abbrev pub ReadsStatement : ℕ → Effect → Effect
ReadsStatement limit next depth at words nodes = AddsOne head.Outside (Statement limit depth) next depth at words nodes

abbrev pub ReadsStep : ℕ → Effect → Effect
ReadsStep limit next depth at words nodes = AddsOne head.Outside (StepOf limit depth) next depth at words nodes

abbrev pub ReadsFirst : ℕ → Effect → Effect
ReadsFirst limit next depth at words nodes = AddsMaybe head.Outside (FirstPart limit depth) next depth at words nodes

abbrev pub ReadsCondition : ℕ → Effect → Effect
ReadsCondition limit next depth at words nodes = AddsMaybe head.Outside (ConditionPart limit depth) next depth at words nodes

abbrev pub ReadsThird : ℕ → Effect → Effect
ReadsThird limit next depth at words nodes = AddsMaybe head.Outside (StepPart limit depth) next depth at words nodes

-- what is assigned to a place: an expression, which makes a step, or a call
pub data Assigned (limit depth : ℕ) (left : Tree) : List Word → List Word → Tree → Type 0 where
  expression : {words rest : List Word} {right : Tree} → Expression limit depth head.Outside words rest right
      → Assigned limit depth left words rest (over_one node.Step (over_two (node.Assign setting.Plain) left right))
  called : {words rest : List Word} {right : Tree} → Call limit depth words rest right → Assigned limit depth left words rest (over_two node.SetCall left right)

abbrev pub ReadsAssign : ℕ → Effect → Effect
ReadsAssign limit next depth at words nodes =
    (left : Tree) → (before : List Opened) → Holds left before at nodes → (rest : List Word) × (tree : Tree) × Assigned limit depth left words rest tree × next depth head.Outside rest (plus (Some tree) before)

abbrev pub ReadsAfterRightName : ℕ → Effect → Effect
ReadsAfterRightName limit next = BehindName (ReadsRight limit next)

abbrev pub ReadsLocalRest : ℕ → Effect → Effect
ReadsLocalRest limit next = BehindName (ReadsLocal limit next)

abbrev pub ReadsAfterAssignName : ℕ → Effect → Effect
ReadsAfterAssignName limit next = BehindName (ReadsAssign limit next)

abbrev pub ReadsAfterStatementName : ℕ → Effect → Effect
ReadsAfterStatementName limit next = BehindName (ReadsStatement limit next)

abbrev pub ReadsAfterPlace : ℕ → Effect → Effect
ReadsAfterPlace limit next = BehindPlace limit (ReadsStatement limit next)

abbrev pub ReadsStepRest : ℕ → Effect → Effect
ReadsStepRest limit next = BehindPlace limit (ReadsStep limit next)
