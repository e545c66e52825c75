-- Where the code of a member of a team begins.
use Rattle.std.specs.Prelude.{ℕ, ◌≡◌, Bool, true, false, List, [], ◌∷◌, ◌++◌, Option, Some, None}
use Rattle.c_syntax.specs.declared.node.Directive.TheVariants as directive
use Rattle.c_syntax.specs.declared.node.NodeKind.{NodeKind}
use Rattle.c_syntax.specs.declared.node.NodeKind.TheVariants as node
use Rattle.c_syntax.specs.language.Tree.{Tree, kind_of}
use Rattle.c_syntax.specs.language.Numbered.{TreeView}
use Rattle.c_model.specs.declared.entry.Entry.{Entry}
use Rattle.c_model.specs.Clauses.{construct_statement}
use Rattle.c_model.specs.Copies.{combines, makes_cells}
use Rattle.c_model.specs.Task.{Item}
use Rattle.c_model.specs.Task.Item.{Forked, Inside, Start}
use Rattle.c_steps.specs.ControlView.{ControlView}
use Rattle.c_steps.specs.Items.{calls_at, todo_at}
use Rattle.c_steps.specs.Ready.{AreFrames}

-- a region that was forked stands next
unfoldable pub HasForked : List Item → Type 0
HasForked (Forked construct ∷ items) = Unit {0}
HasForked other = ⊥

-- the construct of a region that was forked, if an item is of one
abbrev pub forked_of : Option Item → Option Tree
forked_of (Some (Forked construct)) = Some construct
forked_of other = None

-- what a member executes of a parallel construct that isn't combined with another one
abbrev pub region_items : Tree → ℕ → List Item
region_items construct names = makes_cells construct ++ Start (construct_statement construct) ∷ combines construct names

abbrev pub member_by : Bool → Tree → ℕ → List Item
member_by true construct names = Inside construct ∷ []
member_by false construct names = region_items construct names

-- these items stand next, before what stood there
pub record IsPutBefore (program : TreeView) (items : List Item) (old new : ControlView) : Type 0 where
  pub rest : new ≡ record old { frames = new.frames; frames_now = new.frames_now }
  pub todo : todo_at program new.frames ≡ items ++ todo_at program old.frames
  pub calls : (names : List Entry) → calls_at program names new.frames ≡ calls_at program names old.frames
  pub are_frames : AreFrames program old.frames → AreFrames program new.frames

-- an explicit task is made of what stands next
abbrev pub IsTaskConstruct : NodeKind → Type 0
IsTaskConstruct (node.Construct directive.Task) = Unit {0}
IsTaskConstruct other = ⊥

abbrev pub IsCreation : Option Item → Type 0
IsCreation (Some (Start construct)) = IsTaskConstruct (kind_of construct)
IsCreation other = ⊥

abbrev pub created_of : Option Item → Option Tree
created_of (Some (Start construct)) = Some construct
created_of other = None
