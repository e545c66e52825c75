-- There is room for the names that a call brings into scope.
use Rattle.std.specs.Prelude.{◌≡◌, ℕ, zero, suc, ◌+◌, ◌-◌, ◌≤◌, ◌<◌, ◌++◌, List, [], ◌∷◌, length, Option, Some, None}
use Rattle.std.proofs.Common.{ap, sym, ◌∙◌, arith}
use Rattle.std.proofs.lemmas.List.{append-nil}
use Rattle.c_syntax.specs.language.Tree.{Tree}
use Rattle.c_syntax.specs.language.Numbered.{TreeView, tree_at}
use Rattle.c_model.specs.declared.entry.Entry.{Entry}
use Rattle.c_model.specs.declared.limits.TheConstants.{CALL_LIMIT}
use Rattle.c_model.specs.Parts.{parts, trees_in}
use Rattle.c_steps.specs.ControlView.{ControlView}
use Rattle.c_steps.specs.Items.{begun}
use Rattle.c_steps.specs.Moves.{bound_if, entries_if}
use Rattle.c_steps.specs.Nodes.{IsPart, part_at}
use Rattle.c_steps.specs.Ready.{IsStepping}
use Rattle.c_steps.specs.Rooming.{open_calls}
use Rattle.c_steps.specs.Widths.{most_of_steps, names_of_step, step_names}
use Rattle.c_steps.proofs.Frames.{calls_counted}

-- no name more is in scope
pub no_name_more : (held : ControlView) → held ≡ bound_if None held
no_name_more held =
    let count : held.names_now ≡ held.names_now - 0 = omega arith in
    ap (λ (names : List Entry). record held { names = names }) (sym (append-nil held.names))
    ∙ ap (λ (now : ℕ). record held { names = held.names ++ []; names_now = now }) count

steps_within : (trees : List Tree) (node : ℕ) → node < length trees → names_of_step (tree_at trees node) ≤ most_of_steps trees
unfolding most_of_steps
steps_within [] node within = absurd (omega (arith, within))
steps_within (tree ∷ trees) zero within = omega arith
steps_within (tree ∷ trees) (suc node) within = omega (arith, steps_within trees node (omega (arith, within)))

-- a step may bring the parts of a node into scope, and one name more
pub parts_within : (program : TreeView) (part : Option ℕ) → IsPart program.trees part → length (parts (part_at program.trees part)) + 1 ≤ step_names program
unfolding IsPart trees_in
parts_within program None there = omega arith
parts_within program (Some node) there = omega (arith, steps_within program.trees node there)

few_entries : (declared : Option Entry) → length (entries_if declared) ≤ 1
few_entries None = omega arith
few_entries (Some entry) = omega arith

-- behind a name that is declared there is room for the parameters
pub room_for_parts : (program : TreeView) (part : Option ℕ) (declared : Option Entry) (now : ℕ) → now ≡ step_names program → IsPart program.trees part →
    length (parts (part_at program.trees part)) ≤ now - length (entries_if declared)
room_for_parts program part declared now is there = omega (arith, is, parts_within program part there, few_entries declared)

-- no fewer calls may be opened when the item that stands next has begun
pub few_open : (program : TreeView) (held : ControlView) → IsStepping program held → open_calls held.frames < CALL_LIMIT → open_calls (begun held.frames) < CALL_LIMIT
few_open program held ready few =
    let same : open_calls (begun held.frames) ≡ open_calls held.frames =
    sym (calls_counted program [] (begun held.frames)) ∙ ap length (ready.calls []) ∙ calls_counted program [] held.frames in
    omega (arith, few, same)
