-- What the items and frames of a control stand for: the items of the definitions, over the trees that the nodes have the numbers of.
use Rattle.std.specs.Prelude.{ℕ, ◌+◌, List, [], ◌∷◌, ◌++◌, length, drop, take, Option, Some, None}
use Rattle.c_syntax.specs.declared.node.NodeKind.{NodeKind}
use Rattle.c_syntax.specs.declared.node.NodeKind.TheVariants as node
use Rattle.c_syntax.specs.language.Tree.{Tree, kind_of}
use Rattle.c_syntax.specs.language.Numbered.{TreeView, tree_at}
use Rattle.c_model.specs.declared.entry.Entry.{Entry}
use Rattle.c_model.specs.Parts.{flat_declarations}
use Rattle.c_model.specs.Calls.{file_bound}
use Rattle.c_model.specs.Copies.{combining_all}
use Rattle.c_model.specs.Task.{Item, OpenCall, SharedLoop, items_of_parts}
use Rattle.c_model.specs.Task.Item.{Start, Declare, Leave, Test, Third, Initialise, Return, FallOff, Forked, Inside, MakeCells, NextChunk, Iterations, NextSection, Combine, EndWork, EndMasked, Sync, Acquire, Release, TestLock, Tested}
use Rattle.c_steps.specs.declared.item.Loop.{Loop}
use Rattle.c_steps.specs.declared.item.Item as of_item
use Rattle.c_steps.specs.declared.item.Item.TheVariants as item
use Rattle.c_steps.specs.declared.frame.Frame.{Frame}
use Rattle.c_steps.specs.declared.frame.Frame.TheVariants as frame
use Rattle.c_steps.specs.Nodes.{part_at}
use Rattle.c_steps.specs.declared.listed.ListedPlace.{ListedPlace}
use Rattle.c_steps.specs.ListedNames.{listed_from}
use Rattle.c_steps.specs.Rests.{parts_from}

-- the names of the file
unfoldable pub file_names : TreeView → List Entry
file_names program = (file_bound program).env

-- names count without those of the file
abbrev pub with_file : TreeView → ℕ → ℕ
with_file program names = length (file_names program) + names

abbrev pub loop_at : TreeView → Loop → SharedLoop
loop_at program it =
    record {
      construct = tree_at program.trees it.construct;
      start = it.start;
      step = it.step;
      count = it.count;
      names = with_file program it.names;
    }

abbrev pub item_at : TreeView → of_item.Item → Item
item_at program (item.Start part) = Start (part_at program.trees part)
item_at program (item.Declare node) = Declare (tree_at program.trees node)
item_at program (item.Leave names) = Leave (with_file program names)
item_at program (item.Test node names) = Test (tree_at program.trees node) (with_file program names)
item_at program (item.Third node names) = Third (tree_at program.trees node) (with_file program names)
item_at program (item.Initialise node entry) = Initialise (tree_at program.trees node) entry
item_at program (item.Return number) = Return number
item_at program item.FallOff = FallOff
item_at program (item.Forked node) = Forked (tree_at program.trees node)
item_at program (item.Inside node) = Inside (tree_at program.trees node)
item_at program (item.MakeCells node) = MakeCells (tree_at program.trees node)
item_at program (item.NextChunk shared) = NextChunk (loop_at program shared)
item_at program (item.Iterations shared at upto) = Iterations (loop_at program shared) at upto
item_at program (item.NextSection node names) = NextSection (tree_at program.trees node) (with_file program names)
item_at program (item.Combine operator name names) = Combine operator name (with_file program names)
item_at program (item.EndWork node kind count names) = EndWork (tree_at program.trees node) kind count (with_file program names)
item_at program (item.EndMasked node) = EndMasked (tree_at program.trees node)
item_at program (item.Sync node kind stage) = Sync (tree_at program.trees node) kind stage
item_at program (item.Acquire node kind id) = Acquire (tree_at program.trees node) kind id
item_at program (item.Release node id) = Release (tree_at program.trees node) id
item_at program (item.TestLock node id to) = TestLock (tree_at program.trees node) id to
item_at program (item.Tested to) = Tested to

-- the declarators for which a part of a block stands, behind so many
abbrev pub declarators_from : NodeKind → Tree → ℕ → List Tree
declarators_from node.Globals tree at = parts_from tree at
declarators_from node.Locals tree at = parts_from tree at
declarators_from node.Locks tree at = parts_from tree at
declarators_from other tree at = drop at (tree ∷ [])

-- of these parts of a block, what is left behind so many declarators of the first
unfoldable pub parts_left : ℕ → List Tree → List Tree
parts_left at [] = []
parts_left at (tree ∷ trees) = declarators_from (kind_of tree) tree at ++ flat_declarations trees

-- the reductions of a construct from a place on, with the variables among the first so many names
abbrev pub combining_from : Tree → ListedPlace → ℕ → List Item
combining_from construct from names = combining_all names (listed_from construct from)

-- what stands next by a frame, before what the frames below it say
abbrev pub items_at : TreeView → Frame → List Item
items_at program (frame.One it) = item_at program it ∷ []
items_at program (frame.Parts block place at names) =
    items_of_parts (parts_left at (parts_from (tree_at program.trees block) place)) ++ Leave (with_file program names) ∷ []
items_at program (frame.Combining construct from names) = combining_from (tree_at program.trees construct) from (with_file program names)
items_at program (frame.Combines operator name construct from names) =
    Combine operator name (with_file program names) ∷ combining_from (tree_at program.trees construct) from (with_file program names)
items_at program (frame.Caller base to) = []

-- what stands next in the function that was called last. The newest frame is the first
unfoldable pub todo_at : TreeView → List Frame → List Item
todo_at program [] = []
todo_at program (frame.One it ∷ frames) = items_at program (frame.One it) ++ todo_at program frames
todo_at program (frame.Parts block place at names ∷ frames) = items_at program (frame.Parts block place at names) ++ todo_at program frames
todo_at program (frame.Combining construct from names ∷ frames) = items_at program (frame.Combining construct from names) ++ todo_at program frames
todo_at program (frame.Combines operator name construct from names ∷ frames) =
    items_at program (frame.Combines operator name construct from names) ++ todo_at program frames
todo_at program (frame.Caller base to ∷ frames) = []

-- the calls that are open, the newest first, where those that called have these names
unfoldable pub calls_at : TreeView → List Entry → List Frame → List OpenCall
calls_at program names [] = []
calls_at program names (frame.One it ∷ frames) = calls_at program names frames
calls_at program names (frame.Parts block place at stay ∷ frames) = calls_at program names frames
calls_at program names (frame.Combining construct from stay ∷ frames) = calls_at program names frames
calls_at program names (frame.Combines operator name construct from stay ∷ frames) = calls_at program names frames
calls_at program names (frame.Caller base to ∷ frames) =
    record { todo = todo_at program frames; env = file_names program ++ drop base names; to = to } ∷ calls_at program (take base names) frames

-- the frames when the item that stands next has begun
abbrev pub begun : List Frame → List Frame
begun [] = []
begun (frame.One it ∷ frames) = frames
begun (frame.Parts block place at names ∷ frames) = frame.Parts block place (at + 1) names ∷ frames
begun (frame.Combining construct from names ∷ frames) = frame.Combining construct from names ∷ frames
begun (frame.Combines operator name construct from names ∷ frames) = frame.Combining construct from names ∷ frames
begun (frame.Caller base to ∷ frames) = frame.Caller base to ∷ frames

-- what stands next by an item, if there is one
abbrev pub items_if : TreeView → Option of_item.Item → List Item
items_if program None = []
items_if program (Some it) = item_at program it ∷ []
