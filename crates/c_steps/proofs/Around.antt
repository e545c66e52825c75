-- The regions that a task is in, told frame by frame.
use Rattle.std.proofs.Common.{ℕ, ◌≡◌, ◌||◌, if◌then◌else◌, Bool, true, false, List, [], ◌∷◌, ◌++◌, length, reverse, take, refl, sym, ap, ◌∙◌, arith}
use Rattle.std.specs.List.{list_any}
use Rattle.std.proofs.Math.Bool.{or_assoc}
use Rattle.std.proofs.lemmas.List.{reverse-append, reverse-reverse}
use Rattle.std.proofs.lemmas.List.Folds.{list_any-append}
use Rattle.c_syntax.specs.language.Tree.{Tree, kind_of}
use Rattle.c_syntax.specs.language.Numbered.{TreeView, tree_at}
use Rattle.c_model.specs.declared.entry.Entry.{Entry}
use Rattle.c_model.specs.Clauses.{Copying, Listed}
use Rattle.c_model.specs.Clauses.Copying.{Private, First, Reduced}
use Rattle.c_model.specs.Copies.{combining_all, combining_of}
use Rattle.c_model.specs.Task.{Item as SeenItem, OpenCall, is_declarator, items_of_parts}
use Rattle.c_model.specs.Task.Item.{Combine, Declare, Leave, Start}
use Rattle.c_syntax.specs.declared.node.ReductionOp.{ReductionOp}
use Rattle.c_model.specs.Upcoming.{has_such}
use Rattle.c_steps.specs.declared.control.around.Around.{Around}
use Rattle.c_steps.specs.declared.control.around.Around.TheVariants as around
use Rattle.c_steps.specs.declared.frame.Frame.{Frame}
use Rattle.c_steps.specs.declared.frame.Frame.TheVariants as frame
use Rattle.c_steps.specs.declared.item.Item.{Item}
use Rattle.c_steps.specs.declared.item.Item.TheVariants as item
use Rattle.c_steps.specs.Around.{frame_has, frames_have, is_such, item_is}
use Rattle.c_steps.specs.ControlView.{ControlView, task_at}
use Rattle.c_steps.specs.Items.{calls_at, combining_from, item_at, items_at, parts_left, todo_at, with_file}
use Rattle.c_steps.specs.ListedNames.{listed_from}
use Rattle.c_steps.specs.Rests.{parts_from}

-- an item stands for what the item of the definitions stands for
item-such : (program : TreeView) (such : Around) (it : Item) → is_such such (item_at program it) ≡ item_is such it
item-such program around.Work (item.NextChunk shared) = refl
item-such program around.Exclusive (item.NextChunk shared) = refl
item-such program (around.Critical wait_id) (item.NextChunk shared) = refl
item-such program around.Work other = refl
item-such program around.Exclusive other = refl
item-such program (around.Critical wait_id) other = refl

part-none : (such : Around) (tree : Tree) (declares : Bool) → is_such such (if declares then Declare tree else Start tree) ≡ false
part-none around.Work tree true = refl
part-none around.Exclusive tree true = refl
part-none (around.Critical id) tree true = refl
part-none around.Work tree false = refl
part-none around.Exclusive tree false = refl
part-none (around.Critical id) tree false = refl

leave-none : (such : Around) (names : ℕ) → is_such such (Leave names) ≡ false
leave-none around.Work names = refl
leave-none around.Exclusive names = refl
leave-none (around.Critical id) names = refl

combine-none : (such : Around) (operator : ReductionOp) (name names : ℕ) → is_such such (Combine operator name names) ≡ false
combine-none around.Work operator name names = refl
combine-none around.Exclusive operator name names = refl
combine-none (around.Critical id) operator name names = refl

module _ (program : TreeView) (such : Around) where
  abbrev has : List SeenItem → Bool
  has items = list_any (is_such such) items

  parts-have-none : (trees : List Tree) → has (items_of_parts trees) ≡ false
  parts-have-none [] = refl
  parts-have-none (tree ∷ trees) = ap (λ found. found || has (items_of_parts trees)) (part-none such tree (is_declarator (kind_of tree))) ∙ parts-have-none trees

  one-has-none : (names : ℕ) (listed : Listed) (rest : List Listed) (copying : Copying) → has (combining_all names rest) ≡ false → has (combining_of names listed copying ++ combining_all names rest) ≡ false
  one-has-none names listed rest Private none = none
  one-has-none names listed rest First none = none
  one-has-none names listed rest (Reduced operator) none = ap (λ found. found || has (combining_all names rest)) (combine-none such operator listed.name names) ∙ none

  combining-has-none : (names : ℕ) (all : List Listed) → has (combining_all names all) ≡ false
  unfolding combining_all
  combining-has-none names [] = refl
  combining-has-none names (listed ∷ rest) = one-has-none names listed rest listed.copying (combining-has-none names rest)

  -- what stands before the frames below adds nothing, but for an item
  behind-none : (first second : List SeenItem) → has first ≡ false → has (first ++ second) ≡ has second
  behind-none first second none = list_any-append (is_such such) first second ∙ ap (λ found. found || has second) none

  parts-behind : (block place at names : ℕ) → has (items_at program (frame.Parts block place at names)) ≡ false
  parts-behind block place at names =
      let trees = parts_left at (parts_from (tree_at program.trees block) place) in
      behind-none (items_of_parts trees) (Leave (with_file program names) ∷ []) (parts-have-none trees) ∙ ap (λ found. found || false) (leave-none such (with_file program names))

  -- in the function that was called last, and in those that are to go on
  abbrev in_calls : List Entry → List Frame → Bool
  in_calls names frames = list_any (λ (call : OpenCall). has call.todo) (calls_at program names frames)

  around-is : (frames : List Frame) (names : List Entry) → (has (todo_at program frames) || in_calls names frames) ≡ frames_have such frames
  unfolding todo_at calls_at frames_have
  around-is [] names = refl
  around-is (frame.One it ∷ frames) names =
      or_assoc (is_such such (item_at program it)) (has (todo_at program frames)) (in_calls names frames)
      ∙ ap (λ found. found || (has (todo_at program frames) || in_calls names frames)) (item-such program such it)
      ∙ ap (λ more. item_is such it || more) (around-is frames names)
  around-is (frame.Parts block place at stay ∷ frames) names =
      ap (λ found. found || in_calls names frames) (behind-none (items_at program (frame.Parts block place at stay)) (todo_at program frames) (parts-behind block place at stay))
      ∙ around-is frames names
  around-is (frame.Combining construct from stay ∷ frames) names =
      ap (λ found. found || in_calls names frames) (behind-none (items_at program (frame.Combining construct from stay)) (todo_at program frames) (combining-has-none (with_file program stay) (listed_from (tree_at program.trees construct) from)))
      ∙ around-is frames names
  around-is (frame.Combines operator name construct from stay ∷ frames) names =
      ap (λ found. found || in_calls names frames) (
      behind-none (items_at program (frame.Combines operator name construct from stay)) (todo_at program frames)
      (ap (λ found. found || has (combining_from (tree_at program.trees construct) from (with_file program stay))) (combine-none such operator name (with_file program stay)) ∙ combining-has-none (with_file program stay) (listed_from (tree_at program.trees construct) from)))
      ∙ around-is frames names
  around-is (frame.Caller base to ∷ frames) names = around-is frames (take base names)

  pub task_around : (held : ControlView) → has_such (is_such such) (task_at program held) ≡ frames_have such held.frames
  task_around held = around-is held.frames (take held.base held.names)

-- frame by frame, from the top
pub record Remains (such : Around) (frames below : List Frame) : Type 0 where
  pub same : frames_have such frames ≡ frames_have such (reverse below)

pub all_remain : (such : Around) (frames items : List Frame) → items ≡ reverse frames → Remains such frames items
all_remain such frames items is = record { same = ap (frames_have such) (sym (ap reverse is ∙ reverse-reverse frames)) }

module _ (such : Around) (frames below rest : List Frame) (it : Frame) (so : Remains such frames below) (last : below ≡ rest ++ it ∷ []) where
  whole : frames_have such frames ≡ (frame_has such it || frames_have such (reverse rest))
  unfolding frames_have
  whole = so.same ∙ ap (frames_have such) (ap reverse last ∙ reverse-append rest (it ∷ []))

  pub found_here : frame_has such it ≡ true → frames_have such frames ≡ true
  found_here found = whole ∙ ap (λ here. here || frames_have such (reverse rest)) found

  pub rest_remains : frame_has such it ≡ false → Remains such frames rest
  rest_remains missing = record { same = whole ∙ ap (λ here. here || frames_have such (reverse rest)) missing }

pub none_remains : (such : Around) (frames below : List Frame) → Remains such frames below → length below ≡ 0 → frames_have such frames ≡ false
unfolding frames_have
none_remains such frames [] so none = so.same
none_remains such frames (it ∷ below) so none = absurd (omega (arith, none))

pub ruleset around_cases = (task_around, found_here, rest_remains, none_remains, all_remain)
