-- Criticals, computed: what they wait for, by the order in which their names appear.
use Rattle.std.specs.Prelude.{ℕ, ◌≡◌, List, [], ◌∷◌, pos, refl}
use Rattle.std.specs.Fmt.{digits}
use Rattle.c_syntax.specs.declared.node.Returns.TheVariants as returns
use Rattle.c_syntax.specs.declared.node.Parameters.TheVariants as params
use Rattle.c_syntax.specs.declared.node.Directive.TheVariants as directive
use Rattle.c_syntax.specs.declared.node.NodeKind.{NodeKind}
use Rattle.c_syntax.specs.declared.node.NodeKind.TheVariants as node
use Rattle.c_syntax.specs.language.Tree.{Tree}
use Rattle.c_syntax.specs.language.Tree.Tree.{Node}
use Rattle.c_syntax.specs.language.Numbered.{TreeView}
use Rattle.c_model.specs.declared.point.Point.TheVariants as point
use Rattle.c_model.specs.Parts.{trees_in, flat_declarations}
use Rattle.c_model.specs.Program.{function_among, variables_among}
use Rattle.c_model.specs.Cells.{first_named, last_named, with_declarators}
use Rattle.c_model.specs.Value.{value, values, all_values}
use Rattle.c_model.specs.Text.{printed_text, text_behind_percent, text_behind_backslash}
use Rattle.c_model.specs.Clauses.{clauses_among, expression_among, listed_among, schedule_among, statements_among}
use Rattle.c_model.specs.Copies.{combining_all, with_listed}
use Rattle.c_model.specs.Calls.{with_parameters}
use Rattle.c_model.specs.Step.{items_from_next, silent}
use Rattle.c_model.proofs.Watching.{watched, children, alone, at_start, reached, plain, program_of}
use Rattle.c_model.proofs.Watching.Deed.{After, End}
use Rattle.c_check.specs.Acts.{acts, each, outside_acts, statements}
use Rattle.c_check.specs.Checked.{after_all}
use Rattle.c_check.specs.Clauses.{inside_acts}
use Rattle.c_check.specs.Constructs.{loops_in, mention, unlisted_in}
use Rattle.c_check.specs.Declarations.{find, still_in_scope}
use Rattle.c_check.specs.Here.{after}
use Rattle.c_check.specs.NameLists.{child_count, names}
use Rattle.c_check.specs.Once.{is_among, with_each}
use Rattle.c_check.specs.Seen.{slot_in, slots_copied}
use Rattle.c_check.specs.Shares.{copies_around, shared_by_rule}
use Rattle.c_check.specs.Statements.{statement_of}
use Rattle.c_model.specs.Cells.{last_of_slot}
use Rattle.c_model.specs.Copies.{with_slots}
use Rattle.c_model.specs.declared.point.MutexKind.TheVariants as mutex
use Rattle.c_model.specs.declared.point.Target.TheVariants as target
use Rattle.c_model.proofs.Watching.{named}
use Rattle.c_check.specs.Seen.{number_among}

abbrev placed : ℕ → NodeKind → List Tree → Tree
placed line kind trees = Node kind (record { line = line; column = 1 }) 0 0 [] (children trees)

abbrev critical : ℕ → List Tree → Tree
critical line trees = placed line (node.Construct directive.Critical) trees

-- a critical with the name 2; one without a name, around one with the name 3; one with the name 2 again
abbrev guarding : TreeView
guarding =
    program_of 1 (
    plain (node.Function returns.Int) (
    named node.Name 1
    ∷ plain (node.Params params.Void) []
    ∷ plain node.Block (
    critical 2 (named node.Name 2 ∷ plain node.Empty [] ∷ [])
    ∷ critical 3 (critical 4 (named node.Name 3 ∷ plain node.Empty [] ∷ []) ∷ [])
    ∷ critical 5 (named node.Name 2 ∷ plain node.Empty [] ∷ [])
    ∷ [])
    ∷ [])
    ∷ [])

-- at the end main's block is left, and main falls off
guarding-runs :
    watched 100 guarding alone [] 0 (at_start guarding)
    ≡ After 1 (point.MutexAcquire 131073 1 mutex.Critical target.Nowhere)
    ∷ After 0 (point.MutexAcquired 131073 1 mutex.Critical)
    ∷ After 1 (point.MutexReleased 131073 1 mutex.Critical)
    ∷ After 0 (point.MutexAcquire 196609 2 mutex.Critical target.Nowhere)
    ∷ After 0 (point.MutexAcquired 196609 2 mutex.Critical)
    ∷ After 0 (point.MutexAcquire 262145 3 mutex.Critical target.Nowhere)
    ∷ After 0 (point.MutexAcquired 262145 3 mutex.Critical)
    ∷ After 1 (point.MutexReleased 262145 3 mutex.Critical)
    ∷ After 0 (point.MutexReleased 196609 2 mutex.Critical)
    ∷ After 0 (point.MutexAcquire 327681 1 mutex.Critical target.Nowhere)
    ∷ After 0 (point.MutexAcquired 327681 1 mutex.Critical)
    ∷ After 1 (point.MutexReleased 327681 1 mutex.Critical)
    ∷ End 2 (pos 0) []
    ∷ []
unfolding watched reached silent children items_from_next trees_in flat_declarations function_among variables_among first_named last_named with_declarators value values all_values printed_text text_behind_percent text_behind_backslash with_parameters digits clauses_among expression_among listed_among schedule_among statements_among combining_all with_listed after_all after acts each find still_in_scope names child_count outside_acts inside_acts statements mention is_among with_each slot_in slots_copied copies_around shared_by_rule unlisted_in loops_in statement_of with_slots last_of_slot number_among
guarding-runs = refl
