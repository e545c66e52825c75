-- Names and frames of a control.
use Rattle.std.proofs.Common.{◌≡◌, ℕ, ◌+◌, List, [], ◌∷◌, ◌++◌, length, take, drop, Option, Some, None, slice_get, slice_set, refl, sym, ap, ◌∙◌, subst, arith, rules, ◌<◌, length-append, append_assoc, ◌≤◌}
use Rattle.std.proofs.lemmas.List.{drop-append-le, drop-take, take-append-le, take-take}
use Rattle.std.proofs.Math.Seq.{take-append-add}
use Rattle.c_syntax.specs.language.Numbered.{TreeView}
use Rattle.c_model.specs.declared.entry.Entry.{Entry}
use Rattle.c_model.specs.declared.point.Target.{Target}
use Rattle.c_model.specs.Task.{OpenCall}
use Rattle.c_steps.specs.declared.frame.Frame.{Frame}
use Rattle.c_steps.specs.declared.frame.Frame.TheVariants as frame
use Rattle.c_steps.specs.Items.{calls_at, file_names, todo_at, with_file}
use Rattle.c_steps.specs.Moves.{below_call, last_call}
use Rattle.c_syntax.specs.language.Numbered.{tree_at}
use Rattle.c_check.specs.Tasks.{from_place}
use Rattle.c_model.specs.Parts.{flat_declarations, parts}
use Rattle.c_model.specs.Task.{items_of_parts}
use Rattle.c_model.specs.Task.Item.{Leave}
use Rattle.c_steps.specs.Ready.{IsPlain}
use Rattle.c_steps.specs.Widths.{step_names}
use Rattle.c_steps.proofs.Looking.{parts_left_whole}
use Rattle.c_steps.specs.Rooming.{open_calls}

-- the names of the functions that called stay where names go
pub take_shorter : {X : Type 0} (base count : ℕ) (names : List X) → take base (take (base + count) names) ≡ take base names
take_shorter base count names = take-take base (base + count) names (omega arith)

-- so many names of a function stay, and those of the file
pub cut_names : {X : Type 0} (base count : ℕ) (file names : List X) → file ++ drop base (take (base + count) names) ≡ take (length file + count) (file ++ drop base names)
cut_names base count file names = ap (λ own. file ++ own) (drop-take base count names) ∙ sym (take-append-add file (drop base names) count)

-- a name more of a function leaves those of the functions that called, and comes behind the others
pub bound_names : {X : Type 0} (base : ℕ) (names : List X) (entry : X) → base ≤ length names → take base (names ++ entry ∷ []) ≡ take base names
bound_names base names entry within = take-append-le base names (entry ∷ []) within

pub bound_env : {X : Type 0} (base : ℕ) (file names : List X) (entry : X) → base ≤ length names → file ++ drop base (names ++ entry ∷ []) ≡ (file ++ drop base names) ++ entry ∷ []
bound_env base file names entry within = ap (λ own. file ++ own) (drop-append-le base names (entry ∷ []) within) ∙ sym (append_assoc file (drop base names) (entry ∷ []))

-- a frame on top that is no call
pub record IsPlainTop (frames : List Frame) : Type 0 where
  pub count : open_calls (drop 1 frames) ≡ open_calls frames
  pub last : last_call (drop 1 frames) ≡ last_call frames
  pub below : below_call (drop 1 frames) ≡ below_call frames

plain_first : (it : Frame) (frames : List Frame) → IsPlain it → IsPlainTop (it ∷ frames)
unfolding open_calls last_call below_call
plain_first (frame.One it) frames plain = record { count = refl; last = refl; below = refl }
plain_first (frame.Parts block place at names) frames plain = record { count = refl; last = refl; below = refl }
plain_first (frame.Combining construct from names) frames plain = record { count = refl; last = refl; below = refl }
plain_first (frame.Combines operator name construct from names) frames plain = record { count = refl; last = refl; below = refl }
plain_first (frame.Caller base to) frames plain = absurd plain

-- a frame more that is no call, and a call more
pub plain_count : (it : Frame) (frames : List Frame) → IsPlain it → open_calls (it ∷ frames) ≡ open_calls frames
plain_count it frames plain = sym (plain_first it frames plain).count

pub caller_count : (base : ℕ) (to : Target) (frames : List Frame) → open_calls (frame.Caller base to ∷ frames) ≡ open_calls frames + 1
unfolding open_calls
caller_count base to frames = refl

pub plain_top : (frames : List Frame) (it : Frame) → Some it ≡ slice_get frames 0 → IsPlain it → IsPlainTop frames
plain_top [] it top plain = absurd (search rules)
plain_top (first ∷ frames) it top plain = let same : it ≡ first = search rules in plain_first first frames (subst IsPlain same plain)

same_count : (it other : Frame) (frames : List Frame) → IsPlain it → IsPlain other → open_calls (other ∷ frames) ≡ open_calls (it ∷ frames)
same_count it other frames plain fine = sym (plain_first other frames fine).count ∙ (plain_first it frames plain).count

-- another one in its place
pub replaced_top : (frames : List Frame) (it other : Frame) → Some it ≡ slice_get frames 0 → IsPlain it → IsPlain other → open_calls (slice_set frames 0 other) ≡ open_calls frames
replaced_top [] it other top plain fine = absurd (search rules)
replaced_top (first ∷ frames) it other top plain fine = let same : it ≡ first = search rules in same_count first other frames (subst IsPlain same plain) fine

-- a call on top
pub record IsCallerTop (base : ℕ) (to : Target) (frames : List Frame) : Type 0 where
  pub count : open_calls frames ≡ open_calls (drop 1 frames) + 1
  pub last : last_call frames ≡ Some (base, to)
  pub below : below_call frames ≡ drop 1 frames

pub caller_top : (frames : List Frame) (base : ℕ) (to : Target) → Some (frame.Caller base to) ≡ slice_get frames 0 → IsCallerTop base to frames
unfolding open_calls last_call below_call
caller_top [] base to top = absurd (search rules)
caller_top (first ∷ frames) base to top =
    let same : frame.Caller base to ≡ first = search rules in
    subst (λ it. IsCallerTop base to (it ∷ frames)) same (record { count = refl; last = refl; below = refl })

-- no frame is left
pub no_top : (frames : List Frame) → None ≡ slice_get frames 0 → last_call frames ≡ None × frames ≡ []
unfolding last_call
no_top [] top = (refl, refl)
no_top (first ∷ frames) top = absurd (search rules)

-- the calls that are open, by the one that was opened last
abbrev pub calls_from_last : TreeView → List Entry → List Frame → Option (ℕ × Target) → List OpenCall
calls_from_last program names below None = []
calls_from_last program names below (Some call) =
    record { todo = todo_at program below; env = file_names program ++ drop call.0 names; to = call.1 } ∷ calls_at program (take call.0 names) below

pub calls_by_last : (program : TreeView) (names : List Entry) (frames : List Frame) → calls_at program names frames ≡ calls_from_last program names (below_call frames) (last_call frames)
unfolding calls_at last_call below_call
calls_by_last program names [] = refl
calls_by_last program names (frame.One it ∷ frames) = calls_by_last program names frames
calls_by_last program names (frame.Parts block place at stay ∷ frames) = calls_by_last program names frames
calls_by_last program names (frame.Combining construct from stay ∷ frames) = calls_by_last program names frames
calls_by_last program names (frame.Combines operator name construct from stay ∷ frames) = calls_by_last program names frames
calls_by_last program names (frame.Caller base to ∷ frames) = refl

-- so many calls are open
pub calls_counted : (program : TreeView) (names : List Entry) (frames : List Frame) → length (calls_at program names frames) ≡ open_calls frames
unfolding calls_at open_calls
calls_counted program names [] = refl
calls_counted program names (frame.One it ∷ frames) = calls_counted program names frames
calls_counted program names (frame.Parts block place at stay ∷ frames) = calls_counted program names frames
calls_counted program names (frame.Combining construct from stay ∷ frames) = calls_counted program names frames
calls_counted program names (frame.Combines operator name construct from stay ∷ frames) = calls_counted program names frames
calls_counted program names (frame.Caller base to ∷ frames) = let rest = calls_counted program (take base names) frames in omega arith

-- a block is entered with all of its parts left
pub entered_block : (program : TreeView) (block names : ℕ) (frames : List Frame) → todo_at program (frame.Parts block 0 0 names ∷ frames) ≡ (items_of_parts (flat_declarations (parts (tree_at program.trees block))) ++ Leave (with_file program names) ∷ []) ++ todo_at program frames
unfolding todo_at from_place
entered_block program block names frames =
    ap (λ left. (items_of_parts left ++ Leave (with_file program names) ∷ []) ++ todo_at program frames) (parts_left_whole (parts (tree_at program.trees block)))

-- the names of the file and those of the function
pub all_names : (program : TreeView) (own : List Entry) → length (file_names program ++ own) ≡ with_file program (length own)
all_names program own = length-append (file_names program) own

-- each program may bring a name into scope in a step
pub step_brings : (program : TreeView) (node : ℕ) → node < length program.trees → 0 < step_names program
step_brings program node within = omega arith

pub ruleset tops_cases = (plain_top, caller_top, no_top)

pub ruleset entered_cases = (entered_block, all_names)

pub ruleset cut_cases = (cut_names, take_shorter)
