-- What holds of the frames of a control, and where a step can be made.
use Rattle.std.specs.Prelude.{ℕ, ◌+◌, ◌<◌, ◌≤◌, ◌≡◌, ◌^◌, ℤ, true, List, ◌∷◌, length}
use Rattle.std.specs.List.{All}
use Rattle.c_syntax.specs.language.Tree.{kind_of, name_of}
use Rattle.c_syntax.specs.language.Numbered.{TreeView, tree_at}
use Rattle.c_model.specs.declared.point.Work.{Work}
use Rattle.c_model.specs.declared.point.Work.TheVariants as work
use Rattle.c_model.specs.declared.point.Point.{Point}
use Rattle.c_model.specs.declared.point.Point.TheVariants as point
use Rattle.c_model.specs.Cells.{fits_cell}
use Rattle.c_model.specs.Loops.{iteration_value, loop_of}
use Rattle.c_model.specs.Task.{Store, is_declarator}
use Rattle.c_steps.specs.declared.item.Loop.{Loop}
use Rattle.c_steps.specs.declared.item.Item.{Item}
use Rattle.c_steps.specs.declared.item.Item.TheVariants as item
use Rattle.c_steps.specs.declared.frame.Frame.{Frame}
use Rattle.c_steps.specs.declared.frame.Frame.TheVariants as frame
use Rattle.c_steps.specs.declared.next.Next.{Next}
use Rattle.c_steps.specs.declared.next.Next.TheVariants as next
use Rattle.c_steps.specs.Nodes.{IsPart, part_at}
use Rattle.c_steps.specs.Rooming.{IsEntry}
use Rattle.c_model.specs.declared.entry.Entry.{Entry}
use Rattle.c_steps.specs.Items.{begun, calls_at, item_at, todo_at}
use Rattle.c_steps.specs.ControlView.{ControlView}

-- the numbers of a loop: each iteration has a value that a cell can hold
pub record AreLoopNumbers (start : ℤ) (count : ℕ) (step : ℤ) : Type 0 where
  pub first : fits_cell start ≡ true
  pub few : count ≤ 2 ^ 32
  pub values : (iteration : ℕ) → iteration < count → fits_cell (iteration_value start step iteration) ≡ true

-- what is kept of a loop is the directive's
pub record IsLoop (program : TreeView) (it : Loop) : Type 0 where
  pub construct : it.construct < length program.trees
  pub variable : it.variable ≡ name_of (loop_of (tree_at program.trees it.construct)).variable
  pub is_part : IsPart program.trees it.body
  pub body : part_at program.trees it.body ≡ (loop_of (tree_at program.trees it.construct)).body
  pub numbers : AreLoopNumbers it.start it.count it.step

abbrev pub IsItem : TreeView → Item → Type 0
IsItem program (item.Start part) = IsPart program.trees part
IsItem program (item.Declare node) = (node < length program.trees) × (is_declarator (kind_of (tree_at program.trees node)) ≡ true)
IsItem program (item.Leave names) = Unit {0}
IsItem program (item.Test node names) = node < length program.trees
IsItem program (item.Third node names) = node < length program.trees
IsItem program (item.Initialise node entry) = (node < length program.trees) × IsEntry entry
IsItem program (item.Return number) = Unit {0}
IsItem program item.FallOff = Unit {0}
IsItem program (item.Forked node) = node < length program.trees
IsItem program (item.Inside node) = node < length program.trees
IsItem program (item.MakeCells node) = node < length program.trees
IsItem program (item.NextChunk shared) = IsLoop program shared
IsItem program (item.Iterations shared at upto) = IsLoop program shared × (at < upto) × (upto ≤ shared.count)
IsItem program (item.NextSection node names) = node < length program.trees
IsItem program (item.Combine operator name names) = Unit {0}
IsItem program (item.EndWork node kind count names) = node < length program.trees
IsItem program (item.EndMasked node) = node < length program.trees
IsItem program (item.Sync node kind stage) = node < length program.trees
IsItem program (item.Acquire node kind id) = node < length program.trees
IsItem program (item.Release node id) = node < length program.trees
IsItem program (item.TestLock node id to) = node < length program.trees
IsItem program (item.Tested to) = Unit {0}

abbrev pub IsFrame : TreeView → Frame → Type 0
IsFrame program (frame.One it) = IsItem program it
IsFrame program (frame.Parts block place at names) = block < length program.trees
IsFrame program (frame.Combining construct from names) = construct < length program.trees
IsFrame program (frame.Combines operator name construct from names) = construct < length program.trees
IsFrame program (frame.Caller base to) = Unit {0}

-- the frames are of this program
abbrev pub AreFrames : TreeView → List Frame → Type 0
AreFrames program frames = All (IsFrame program) frames

-- it is no call
abbrev pub IsPlain : Frame → Type 0
IsPlain (frame.Caller base to) = ⊥
IsPlain other = Unit {0}

-- it has a place to go on
abbrev pub CanBegin : List Frame → Type 0
CanBegin (frame.Parts block place at names ∷ frames) = at < 4294967295
CanBegin other = Unit {0}

-- this stands next
pub record IsFront (program : TreeView) (frames : List Frame) (it : Item) : Type 0 where
  pub is_item : IsItem program it
  pub todo : todo_at program frames ≡ item_at program it ∷ todo_at program (begun frames)
  pub can_begin : CanBegin frames
  pub are_begun : AreFrames program (begun frames)
  pub calls : (names : List Entry) → calls_at program names (begun frames) ≡ calls_at program names frames

-- a step can be made of what stands next
pub record IsStepping (program : TreeView) (held : ControlView) : Type 0 where
  pub are_frames : AreFrames program held.frames
  pub can_begin : CanBegin held.frames
  pub are_begun : AreFrames program (begun held.frames)
  pub calls : (names : List Entry) → calls_at program names (begun held.frames) ≡ calls_at program names held.frames
  pub spare : 0 < held.spare

-- an event can be passed that is of what stands next
pub record IsPassing (program : TreeView) (held : ControlView) : Type 0 where
  pub are_frames : AreFrames program held.frames
  pub can_begin : CanBegin held.frames
  pub are_begun : AreFrames program (begun held.frames)
  pub calls : (names : List Entry) → calls_at program names (begun held.frames) ≡ calls_at program names held.frames
  pub passes : 0 < held.passes

-- a silent step takes one from the spare
pub record IsAfterStep (old new : ControlView) : Type 0 where
  pub spare : new.spare + 1 ≡ old.spare
  pub passes : new.passes ≡ old.passes
  pub step_names : new.step_names ≡ old.step_names
  pub room : new.room ≡ old.room

-- an answer but a silent step leaves control and cells as they were
abbrev pub IsSettled : Next → ControlView → Store → ControlView → Store → Type 0
IsSettled next.Quiet old before new after = IsAfterStep old new
IsSettled other old before new after = (new ≡ old) × (after ≡ before)

-- nothing was done
abbrev pub IsUnchanging : Next → Type 0
IsUnchanging result = (held : ControlView) (store : Store) → IsSettled result held store held store

-- of a loop that begins to be shared out each iteration has a value that a cell can hold
abbrev pub AreWorkNumbers : Work → Type 0
AreWorkNumbers (work.Loop start count step schedule) = AreLoopNumbers start count step
AreWorkNumbers other = Unit {0}

abbrev pub ArePointNumbers : Point → Type 0
ArePointNumbers (point.WorkBegin codeptr shared) = AreWorkNumbers shared
ArePointNumbers other = Unit {0}

-- an event stands at a node of the program, with such numbers
abbrev pub FitsProgram : TreeView → Next → Type 0
FitsProgram program (next.Event at node) = (node < length program.trees) × ArePointNumbers at
FitsProgram program other = Unit {0}
