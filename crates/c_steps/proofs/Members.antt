-- Where the code of a member of a team begins.
use Rattle.std.proofs.Common.{◌≡◌, ℕ, ℤ, ◌<◌, ◌≤◌, Bool, true, List, [], ◌∷◌, ◌++◌, length, take, drop, slice_get, Option, Some, None, IfSome, refl, sym, ap, ◌∙◌, subst, append_assoc, arith, rules}
use Rattle.std.proofs.lemmas.List.{append-nil, length-append}
use Rattle.std.proofs.lemmas.List.Elements.{All-cons, All-nil}
use Rattle.c_syntax.specs.language.Tree.{Tree, kind_of}
use Rattle.c_syntax.specs.language.Numbered.{TreeView, tree_at}
use Rattle.c_model.specs.declared.point.SyncKind.TheVariants as sync
use Rattle.c_model.specs.declared.point.SyncStage.TheVariants as stage
use Rattle.c_model.specs.declared.view.View.{View}
use Rattle.c_model.specs.Begin.{forked_construct, member_items, member_statement, member_task, new_task}
use Rattle.c_model.specs.Clauses.{construct_statement}
use Rattle.c_model.specs.Copies.{combines, combining_all, listed_variables, makes_cells}
use Rattle.c_model.specs.Step.{items_from_next}
use Rattle.c_model.specs.declared.point.Point.TheVariants.{ParallelBegin}
use Rattle.c_model.specs.AfterEvents.{passed_at, settled_after_event}
use Rattle.c_model.specs.Task.{Item as SeenItem, Task}
use Rattle.c_model.specs.Task.{Item as seen}
use Rattle.c_model.specs.Width.{IsWithin}
use Rattle.c_model.proofs.WidthNames.{least}
use Rattle.c_model.proofs.WidthTasks.{member_is_within}
use Rattle.c_steps.specs.Beginning.{HasForked, IsPutBefore, forked_of, member_by, region_items}
use Rattle.c_steps.specs.declared.frame.Frame.TheVariants as frame
use Rattle.c_steps.specs.declared.item.Item.{Item}
use Rattle.c_steps.specs.declared.item.Item.TheVariants as item
use Rattle.c_steps.specs.declared.listed.ListedPlace.{ListedPlace}
use Rattle.c_steps.specs.ControlView.{ControlView, env_at, task_at}
use Rattle.c_steps.specs.Items.{calls_at, file_names, item_at, items_if, todo_at, with_file}
use Rattle.c_steps.specs.ListedNames.{listed_from}
use Rattle.c_steps.specs.OfProgram.{IsMadeFor}
use Rattle.c_steps.specs.Moves.{beginning, pushed, then_if, then_item}
use Rattle.c_steps.specs.Nodes.{IsPart, part_at}
use Rattle.c_steps.specs.Passing.{IsEventOfNext}
use Rattle.c_steps.specs.Ready.{IsFrame, IsItem}
use Rattle.c_steps.proofs.Frames.{all_names}
use Rattle.c_steps.proofs.Giving.{nothing_past}

-- one item, and none or one
put_one : (program : TreeView) (held : ControlView) (it : Item) → IsItem program it → IsPutBefore program (item_at program it ∷ []) held (then_item it held)
unfolding todo_at calls_at
put_one program held it is = record { rest = refl; todo = refl; calls = λ names. refl; are_frames = λ are. All-cons (IsFrame program) (frame.One it) held.frames is are }

put_if : (program : TreeView) (held : ControlView) (it : Option Item) → IfSome it (IsItem program) → IsPutBefore program (items_if program it) held (then_if it held)
unfolding todo_at calls_at
put_if program held None is = record { rest = refl; todo = refl; calls = λ names. refl; are_frames = λ are. are }
put_if program held (Some it) is = record { rest = refl; todo = refl; calls = λ names. refl; are_frames = λ are. All-cons (IsFrame program) (frame.One it) held.frames is are }

put_combining : (program : TreeView) (held : ControlView) (node : ℕ) (from : ListedPlace) (names : ℕ) → node < length program.trees → listed_from (tree_at program.trees node) from ≡ listed_variables (tree_at program.trees node) → IsPutBefore program (combines (tree_at program.trees node) (with_file program names)) held (pushed (frame.Combining node from names) held)
unfolding todo_at calls_at
put_combining program held node from names within first = record {
  rest = refl;
  todo = ap (λ listed. combining_all (with_file program names) listed ++ todo_at program held.frames) first;
  calls = λ names. refl;
  are_frames = λ are. All-cons (IsFrame program) (frame.Combining node from names) held.frames within are;
}

-- some before others
pub put_both : (program : TreeView) (first last : List SeenItem) (old mid new : ControlView) → IsPutBefore program last old mid → IsPutBefore program first mid new → IsPutBefore program (first ++ last) old new
put_both program first last old mid new below above = record {
  rest = above.rest ∙ ap (λ (held : ControlView). record held { frames = new.frames; frames_now = new.frames_now }) below.rest;
  todo = above.todo ∙ ap (λ items. first ++ items) below.todo ∙ sym (append_assoc first last (todo_at program old.frames));
  calls = λ names. above.calls names ∙ below.calls names;
  are_frames = λ are. above.are_frames (below.are_frames are);
}

pub region_put : (program : TreeView) (held : ControlView) (node names : ℕ) (from : ListedPlace) (part : Option ℕ) (cells : Option Item) → node < length program.trees → listed_from (tree_at program.trees node) from ≡ listed_variables (tree_at program.trees node) → part_at program.trees part ≡ construct_statement (tree_at program.trees node) → IsPart program.trees part → items_if program cells ≡ makes_cells (tree_at program.trees node) → IfSome cells (IsItem program) →
    IsPutBefore program (region_items (tree_at program.trees node) (with_file program names)) held (then_if cells (then_item (item.Start part) (pushed (frame.Combining node from names) held)))
region_put program held node names from part cells within first statement there makes are =
    let combining = pushed (frame.Combining node from names) held in
    let started = then_item (item.Start part) combining in
    let behind = put_both program (seen.Start (part_at program.trees part) ∷ []) (combines (tree_at program.trees node) (with_file program names)) held combining started (put_combining program held node from names within first) (put_one program combining (item.Start part) there) in
    let all = put_both program (items_if program cells) (seen.Start (part_at program.trees part) ∷ combines (tree_at program.trees node) (with_file program names)) held started (then_if cells started) behind (put_if program started cells are) in
    subst (λ items. IsPutBefore program items held (then_if cells started)) (ap (λ own. own ++ seen.Start (part_at program.trees part) ∷ combines (tree_at program.trees node) (with_file program names)) makes ∙ ap (λ part. makes_cells (tree_at program.trees node) ++ seen.Start part ∷ combines (tree_at program.trees node) (with_file program names)) statement) all

-- what a member executes, and the region's barrier
pub member_put : (program : TreeView) (held mid new : ControlView) (node names : ℕ) (inside : Bool) → node < length program.trees → mid ≡ then_item (item.Sync node sync.Parallel stage.RegionBegin) held → IsPutBefore program (member_by inside (tree_at program.trees node) (with_file program names)) mid new →
    ((construct : Tree) (names : ℕ) → member_statement (kind_of (tree_at program.trees node)) construct names ≡ member_by inside construct names) →
    IsPutBefore program (member_items (tree_at program.trees node) (with_file program names)) held new
member_put program held mid new node names inside within is above same =
    let barrier = item.Sync node sync.Parallel stage.RegionBegin in
    let tree = tree_at program.trees node in
    let below = subst (IsPutBefore program (item_at program barrier ∷ []) held) (sym is) (put_one program held barrier within) in
    let all = put_both program (member_by inside tree (with_file program names)) (item_at program barrier ∷ []) held mid new below above in
    subst (λ items. IsPutBefore program items held new) (ap (λ items. items ++ item_at program barrier ∷ []) (sym (same tree (with_file program names)))) all

pub inside_put : (program : TreeView) (held new : ControlView) (node names : ℕ) (inside : Bool) → inside ≡ true → node < length program.trees → new ≡ then_item (item.Inside node) held → IsPutBefore program (member_by inside (tree_at program.trees node) names) held new
inside_put program held new node names inside so within is =
    rw so (subst (IsPutBefore program (seen.Inside (tree_at program.trees node) ∷ []) held) (sym is) (put_one program held (item.Inside node) within))

-- the names fit
pub own_fit : (program : TreeView) (held into : ControlView) → IsMadeFor program held → IsMadeFor program into → length (drop held.base held.names) ≤ into.room
unfolding file_names
own_fit program held into made is =
    let all = least program (task_at program held).todo (length (env_at program held)) in
    let now = made.is_within.now in
    let names = length-append (file_names program) (drop held.base held.names) in
    let fits = is.fits in
    omega (arith, all, now, names, fits)

-- the region that was forked
forked_in : (items : List SeenItem) (construct : Tree) → forked_of (slice_get items 0) ≡ Some construct → forked_construct items ≡ construct
forked_in (seen.Forked own ∷ items) construct is = let same : own ≡ construct = search rules in same
forked_in [] construct is = absurd (search rules)
forked_in (it ∷ items) construct is = absurd (search rules)

none_in : (items : List SeenItem) → HasForked items → forked_of (slice_get items 0) ≡ None → ⊥
unfolding HasForked
none_in (seen.Forked own ∷ items) has is = absurd (search rules)
none_in [] has is = has
none_in (it ∷ items) has is = has

pub none_forked : (program : TreeView) (view : View) (held : ControlView) → view.index ≡ 0 → HasForked (todo_at program held.frames) → forked_of (slice_get (items_from_next view (todo_at program held.frames)) 0) ≡ None → ⊥
none_forked program view held first has is =
    none_in (todo_at program held.frames) has (sym (ap (λ (items : List SeenItem). forked_of (slice_get items 0)) (nothing_past view (todo_at program held.frames) first)) ∙ is)

module _ (program : TreeView) (view : View) (held into new : ControlView) (node names : ℕ) (first : view.index ≡ 0) where
  module _ (is : forked_of (slice_get (items_from_next view (todo_at program held.frames)) 0) ≡ Some (tree_at program.trees node)) (own : names ≡ length (drop held.base held.names)) (put : IsPutBefore program (member_items (tree_at program.trees node) (with_file program names)) (beginning (drop held.base held.names) into) new) where
    pub member_stands : task_at program new ≡ member_task (task_at program held)
    unfolding todo_at calls_at
    member_stands =
        let construct : forked_construct (todo_at program held.frames) ≡ tree_at program.trees node = forked_in (todo_at program held.frames) (tree_at program.trees node) (sym (ap (λ (items : List SeenItem). forked_of (slice_get items 0)) (nothing_past view (todo_at program held.frames) first)) ∙ is) in
        let count : length (env_at program held) ≡ with_file program names = all_names program (drop held.base held.names) ∙ ap (with_file program) (sym own) in
        let items : todo_at program new.frames ≡ member_items (forked_construct (todo_at program held.frames)) (length (env_at program held)) =
        put.todo ∙ append-nil (member_items (tree_at program.trees node) (with_file program names)) ∙ rw (construct, count) refl in
        let same : task_at program new ≡ record (task_at program (beginning (drop held.base held.names) into)) { todo = todo_at program new.frames; calls = calls_at program (take new.base new.names) new.frames } =
        ap (λ (held : ControlView). record (task_at program held) { todo = todo_at program new.frames; calls = calls_at program (take new.base new.names) new.frames }) put.rest in
        same
        ∙ ap (λ calls. record (task_at program (beginning (drop held.base held.names) into)) { todo = todo_at program new.frames; calls = calls }) (put.calls (take new.base new.names))
        ∙ ap (λ items. new_task items (env_at program held)) items

    pub member_made : IsMadeFor program held → IsMadeFor program into → IsMadeFor program new
    member_made made room = record {
      are_frames = put.are_frames (All-nil (IsFrame program));
      brings = ap (λ (held : ControlView). held.step_names) put.rest ∙ room.brings;
      fits = let same : new.room ≡ into.room = ap (λ (held : ControlView). held.room) put.rest in let fits = room.fits in omega (arith, same, fits);
      is_within = subst (IsWithin program) (sym member_stands) (member_is_within program (task_at program held) made.is_within);
    }

-- behind the event with which a region begins, the region that was forked stands next
behind-fork : (program : TreeView) (codeptr : ℕ) (requested : ℤ) (node : ℕ) (executes : Bool) (items : List SeenItem) (task : Task) → IsEventOfNext program (ParallelBegin codeptr requested) node items → HasForked (passed_at items (ParallelBegin codeptr requested) executes task).todo
unfolding IsEventOfNext HasForked
behind-fork program codeptr requested node executes [] task is = absurd is
behind-fork program codeptr requested node executes (it ∷ items) task is = tt

pub has_forked : (program : TreeView) (old new : ControlView) (codeptr : ℕ) (requested : ℤ) (node : ℕ) (executes : Bool) → IsEventOfNext program (ParallelBegin codeptr requested) node (todo_at program old.frames) → task_at program new ≡ settled_after_event (ParallelBegin codeptr requested) executes (task_at program old) → HasForked (todo_at program new.frames)
has_forked program old new codeptr requested node executes is task =
    subst (λ (task : Task). HasForked task.todo) (sym task) (behind-fork program codeptr requested node executes (todo_at program old.frames) (task_at program old) is)
