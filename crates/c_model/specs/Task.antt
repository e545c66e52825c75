-- What is left of a task's code, and what one step of it comes to.
use Rattle.std.specs.Prelude.{ℕ, Bool, true, false, if◌then◌else◌, List, map, Option, ℤ}
use Rattle.c_syntax.specs.declared.node.NodeKind.{NodeKind}
use Rattle.c_syntax.specs.declared.node.NodeKind.TheVariants as node
use Rattle.c_syntax.specs.declared.node.ReductionOp.{ReductionOp}
use Rattle.c_syntax.specs.language.Tree.{Tree, kind_of}
use Rattle.c_syntax.specs.language.Numbered.{TreeView}
use Rattle.c_model.specs.declared.view.View.{View}
use Rattle.c_model.specs.declared.question.Ask.{Ask}
use Rattle.c_model.specs.declared.point.MutexKind.{MutexKind}
use Rattle.c_model.specs.declared.point.Point.{Point}
use Rattle.c_model.specs.declared.point.SyncKind.{SyncKind}
use Rattle.c_model.specs.declared.point.SyncStage.{SyncStage}
use Rattle.c_model.specs.declared.point.Target.{Target}
use Rattle.c_model.specs.declared.point.WorkKind.{WorkKind}
use Rattle.c_model.specs.declared.entry.Entry.{Entry}

-- A loop that is shared out: its directive, the variable's value in the first iteration, by how much it changes, how many iterations there
-- are, and how many names stay in scope behind the loop.
pub record SharedLoop : Type 0 where
  pub construct : Tree
  pub start : ℤ
  pub step : ℤ
  pub count : ℕ
  pub names : ℕ

-- What stands next in a task's code.
pub data Item : Type 0 where
  -- a statement or a directive begins
  Start : Tree → Item
  -- a declarator of a block comes
  Declare : Tree → Item
  -- a block ends, and so many names stay in scope
  Leave : ℕ → Item
  -- the test of a plain `for`, behind which so many names stay, and its third part
  Test : Tree → ℕ → Item
  Third : Tree → ℕ → Item
  -- a declarator has made the cell of its variable, and the call that it is set to begins. The variable comes into scope behind it
  Initialise : Tree → Entry → Item
  -- the function returns this number, which a call gave
  Return : ℤ → Item
  -- a function's body has ended without a return
  FallOff : Item
  -- a region was forked by a parallel construct, and isn't over
  Forked : Tree → Item
  -- the worksharing construct that a combined directive has inside begins
  Inside : Tree → Item
  -- a construct makes the cells of its own
  MakeCells : Tree → Item
  -- the next chunk of a loop is asked for; the iterations from one number up to another one stand next
  NextChunk : SharedLoop → Item
  Iterations : SharedLoop → (at upto : ℕ) → Item
  -- the next section is asked for. So many names stay in scope behind the construct
  NextSection : Tree → ℕ → Item
  -- a reduction variable is combined with the one among the first so many names
  Combine : ReductionOp → (name names : ℕ) → Item
  -- a worksharing construct's work ends. It had so many iterations, sections or statements, and so many names stay in scope
  EndWork : Tree → WorkKind → (count names : ℕ) → Item
  -- the statement of a `masked` construct has ended
  EndMasked : Tree → Item
  -- an event of a barrier or taskwait. It has the place of this tree
  Sync : Tree → SyncKind → SyncStage → Item
  -- a lock or critical with this wait identifier comes to be owned; is given back
  Acquire : Tree → MutexKind → ℕ → Item
  Release : Tree → ℕ → Item
  -- an `omp_test_lock` looks whether the lock is free, and its value goes there; it owns the lock, and gives 1
  TestLock : Tree → ℕ → Target → Item
  Tested : Target → Item

-- a call that hasn't ended: what stands next in the function that called, the names there, and where the value goes
pub record OpenCall : Type 0 where
  pub todo : List Item
  pub env : List Entry
  pub to : Target

-- A task's code: what stands next, the names in scope, the calls that are open, the newest first, and the value that the last call to end
-- gave. In the initial task main is a call too.
pub record Task : Type 0 where
  pub todo : List Item
  pub env : List Entry
  pub calls : List OpenCall
  pub returned : Option ℤ

-- what all tasks share: the cells by number, and the bytes that were printed
pub record Store : Type 0 where
  pub cells : List ℤ
  pub text : List ℕ

-- a task with the store
pub record Moment : Type 0 where
  pub task : Task
  pub store : Store

-- What one step of a task comes to.
pub data Outcome : Type 0 where
  -- a silent step, and this is so after it
  StepsTo : Moment → Outcome
  -- a silent step that has to be told something, in this construct or call
  Asks : Ask → Tree → Outcome
  -- an event, at this construct, directive or call
  Occurs : Point → Tree → Outcome
  -- the code has ended, and this is the value of the last call, or 0
  Ends : ℤ → Outcome
  Traps : ℕ → Outcome
  Limits : ℕ → Outcome

-- A step is made from here: the program, what the thread sees of its team, the task without the item that stands next, and the store.
pub record StepStart : Type 0 where
  pub program : TreeView
  pub view : View
  pub task : Task
  pub store : Store

-- what a part of a block is: a declarator, or else a statement
abbrev pub is_declarator : NodeKind → Bool
is_declarator node.Name = true
is_declarator node.LocalVar = true
is_declarator node.LocalArray = true
is_declarator node.LocalSet = true
is_declarator other = false

abbrev pub item_of_part : Tree → Item
item_of_part tree = if is_declarator (kind_of tree) then Declare tree else Start tree

abbrev pub items_of_parts : List Tree → List Item
items_of_parts trees = map item_of_part trees
