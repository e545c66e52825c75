-- What a frame on top says of what stands next.
use Rattle.std.proofs.Common.{◌≡◌, ℕ, ◌+◌, ◌<◌, List, [], ◌∷◌, ◌++◌, length, refl, ap, subst, arith}
use Rattle.c_syntax.specs.declared.node.NodeKind.{NodeKind}
use Rattle.c_syntax.specs.declared.node.NodeKind.TheVariants as node
use Rattle.c_syntax.specs.language.Tree.{Tree, kind_of}
use Rattle.c_syntax.specs.language.Numbered.{TreeView, tree_at}
use Rattle.c_check.specs.Tasks.{from_place}
use Rattle.c_model.specs.Parts.{declarators_in, flat_declarations}
use Rattle.c_model.specs.Task.{item_of_part}
use Rattle.c_steps.specs.declared.item.Item.{Item}
use Rattle.c_steps.specs.declared.item.Item.TheVariants as item
use Rattle.c_steps.specs.declared.frame.Frame.{Frame}
use Rattle.c_steps.specs.declared.frame.Frame.TheVariants as frame
use Rattle.c_steps.specs.Items.{calls_at, declarators_from, item_at, parts_left, todo_at, with_file}
use Rattle.c_steps.specs.Ready.{IsFrame, IsItem}
use Rattle.c_steps.specs.Rests.{parts_from}
use Rattle.c_syntax.specs.declared.node.ReductionOp.{ReductionOp}
use Rattle.c_model.specs.Copies.{combining_all, combining_of}
use Rattle.c_steps.specs.declared.listed.ListedPlace.{ListedPlace}
use Rattle.c_steps.specs.declared.listed.Copying.TheVariants as copying
use Rattle.c_steps.specs.declared.listed.FoundName.{FoundName}
use Rattle.c_steps.specs.ListedNames.{copying_of, listed_from, listed_of}
use Rattle.c_steps.specs.declared.look.Plain.{Plain}
use Rattle.c_steps.specs.Looking.{IsInPlaceOf, IsOver, ShowsItem, weight, weights}
use Rattle.c_steps.specs.Trying.{item_of}
use Rattle.std.proofs.lemmas.List.Elements.{All-cons}

-- a part of a block has all of its declarators left at first
from-first : (kind : NodeKind) (tree : Tree) → declarators_from kind tree 0 ≡ declarators_in kind tree
unfolding from_place
from-first node.Globals tree = refl
from-first node.Locals tree = refl
from-first node.Locks tree = refl
from-first other tree = refl

-- a block has all of its parts left when it is entered
pub parts_left_whole : (trees : List Tree) → parts_left 0 trees ≡ flat_declarations trees
unfolding parts_left flat_declarations
parts_left_whole [] = refl
parts_left_whole (tree ∷ trees) = ap (λ first. first ++ flat_declarations trees) (from-first (kind_of tree) tree)

-- an item that is a frame of its own
pub shows_one : (program : TreeView) (it : Item) → IsItem program it → ShowsItem program (frame.One it) it
unfolding todo_at calls_at weight weights
shows_one program it is = record {
  front = λ frames are. record { is_item = is; can_begin = tt; todo = refl; calls = λ names. refl; are_begun = are };
  less = λ frames. omega arith;
}

-- .. where it is plain
pub shows_plain : (program : TreeView) (it : Item) (found : Plain) → IsItem program it → it ≡ item_of found → ShowsItem program (frame.One it) (item_of found)
shows_plain program it found is same = subst (ShowsItem program (frame.One it)) same (shows_one program it is)

module _ (program : TreeView) (block place at names : ℕ) where
  abbrev here : Frame
  here = frame.Parts block place at names

  abbrev from : ℕ → List Tree
  from place = parts_from (tree_at program.trees block) place

  -- a part of a block
  pub shows_part : (part found : Tree) (it : Item) → block < length program.trees → at < 4294967295 → from place ≡ part ∷ from (place + 1) → declarators_from (kind_of part) part at ≡ found ∷ declarators_from (kind_of part) part (at + 1) → item_at program it ≡ item_of_part found → IsItem program it → ShowsItem program here it
  unfolding todo_at calls_at weight weights parts_left
  shows_part part found it within fits parts declarators same is = record {
    front = λ frames are. record {
      is_item = is;
      can_begin = fits;
      todo = rw (parts, declarators, same) refl;
      calls = λ names. refl;
      are_begun = All-cons (IsFrame program) _ _ within are;
    };
    less = λ frames. rw (parts, declarators) (omega (arith));
  }

  -- the declarators of a part are over
  pub instead_next : (part : Tree) → block < length program.trees → from place ≡ part ∷ from (place + 1) → declarators_from (kind_of part) part at ≡ [] → IsInPlaceOf program here (frame.Parts block (place + 1) 0 names)
  unfolding todo_at calls_at weight parts_left
  instead_next part within parts declarators = record {
    is_frame = within;
    todo = λ frames. rw (parts, declarators, parts_left_whole (from (place + 1))) refl;
    calls = λ names frames. refl;
    less = rw (parts, declarators, parts_left_whole (from (place + 1))) (omega arith);
  }

  -- the parts are over
  pub instead_leave : from place ≡ [] → IsInPlaceOf program here (frame.One (item.Leave names))
  unfolding todo_at calls_at weight parts_left
  instead_leave parts = record {
    is_frame = tt;
    todo = λ frames. rw parts refl;
    calls = λ names frames. refl;
    less = omega arith;
  }

module _ (program : TreeView) (construct : ℕ) (names : ℕ) where
  -- no reduction is left
  pub reductions_over : (from : ListedPlace) → listed_from (tree_at program.trees construct) from ≡ [] → IsOver program (frame.Combining construct from names)
  unfolding todo_at calls_at weight combining_all
  reductions_over from none = record { todo = λ frames. rw none refl; calls = λ names frames. refl; less = omega arith }

  -- a variable that is reduced
  pub reduction_next : (from : ListedPlace) (found : FoundName) (operator : ReductionOp) → construct < length program.trees → found.listed.copying ≡ copying.Reduced operator → listed_from (tree_at program.trees construct) from ≡ listed_of found.listed ∷ listed_from (tree_at program.trees construct) found.next → IsInPlaceOf program (frame.Combining construct from names) (frame.Combines operator found.listed.name construct found.next names)
  unfolding todo_at calls_at weight combining_all
  reduction_next from found operator within reduced is = record {
    is_frame = within;
    todo = λ frames. rw (is, reduced) refl;
    calls = λ names frames. refl;
    less = rw is (omega arith);
  }

  -- a variable that isn't
  pub variable_next : (from : ListedPlace) (found : FoundName) → construct < length program.trees → (combining_of (with_file program names) (listed_of found.listed) (copying_of found.listed.copying) ≡ []) → listed_from (tree_at program.trees construct) from ≡ listed_of found.listed ∷ listed_from (tree_at program.trees construct) found.next → IsInPlaceOf program (frame.Combining construct from names) (frame.Combining construct found.next names)
  unfolding todo_at calls_at weight combining_all
  variable_next from found within plain is = record {
    is_frame = within;
    todo = λ frames. rw (is, plain) refl;
    calls = λ names frames. refl;
    less = rw is (omega arith);
  }

  -- a reduction
  pub shows_reduction : (operator : ReductionOp) (name : ℕ) (from : ListedPlace) → construct < length program.trees → ShowsItem program (frame.Combines operator name construct from names) (item.Combine operator name names)
  unfolding todo_at calls_at weight weights
  shows_reduction operator name from within = record {
    front = λ frames are. record {
      is_item = tt;
      can_begin = tt;
      todo = refl;
      calls = λ names. refl;
      are_begun = All-cons (IsFrame program) _ _ within are;
    };
    less = λ frames. omega arith;
  }

-- nothing stands next in a function where the one that called it has left something
pub caller_nothing : (program : TreeView) (base : ℕ) (to : _) (frames : List Frame) → todo_at program (frame.Caller base to ∷ frames) ≡ []
unfolding todo_at
caller_nothing program base to frames = refl

pub ruleset shown_cases = (shows_one, shows_reduction, caller_nothing)

pub ruleset instead_cases = (shows_part, instead_next, instead_leave)
