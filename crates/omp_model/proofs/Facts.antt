-- More runs, computed: single lines, stores, and what can be inquired.
use Rattle.std.specs.Prelude.{ℕ, ◌≡◌, ◌-◌, [], ◌∷◌, List, Option, Some, None, drop, length, map, refl, slice_get, take}
use Rattle.c_syntax.specs.declared.node.BinaryOp.TheVariants as binary
use Rattle.c_syntax.specs.declared.node.Returns.TheVariants as returns
use Rattle.c_syntax.specs.declared.node.Parameters.TheVariants as params
use Rattle.c_syntax.specs.declared.node.Directive.TheVariants as directive
use Rattle.c_syntax.specs.declared.node.Lead.TheVariants as lead
use Rattle.c_syntax.specs.declared.node.LockCall.TheVariants as lock_call
use Rattle.c_syntax.specs.declared.node.Getter.TheVariants as getter
use Rattle.c_syntax.specs.declared.node.Standalone.TheVariants as standalone
use Rattle.c_syntax.specs.declared.node.NodeKind.TheVariants as node
use Rattle.c_syntax.specs.language.Tree.{Tree}
use Rattle.ompt_calls.specs.declared.call.Call.TheVariants as call
use Rattle.ompt_calls.specs.declared.snapshot.Target.TheVariants as target
use Rattle.ompt_calls.specs.declared.snapshot.Snapshot.{Snapshot}
use Rattle.ompt_calls.specs.Item.{Item}
use Rattle.omp_model.specs.declared.cause.Cause.TheVariants as cause
use Rattle.omp_model.specs.declared.history.What.TheVariants.{Go, Put, Back}
use Rattle.omp_model.specs.declared.history.Entry.{Entry}
use Rattle.c_check.specs.Acts.{acts, each, target, function, init, first_part, second_part, third_part, outside_acts, clause_outside, statements}
use Rattle.c_check.specs.Checked.{after_all}
use Rattle.c_check.specs.Clauses.{inside_acts}
use Rattle.c_check.specs.Constructs.{mention, unlisted_in, loops_in}
use Rattle.c_check.specs.Declarations.{find, still_in_scope}
use Rattle.c_check.specs.Here.{after}
use Rattle.c_check.specs.Loops.{stands_in, stands_among}
use Rattle.c_check.specs.NameLists.{child_count, names}
use Rattle.c_check.specs.Once.{is_among, with_each}
use Rattle.c_check.specs.Rules.{masked_badly, critical_badly, spoiled, is_loop_inside, not_listed}
use Rattle.c_check.specs.Seen.{slot_in, construct_at, slots_copied, number_among}
use Rattle.c_check.specs.Shares.{shared_by_rule, sharing_at, copies_around}
use Rattle.c_check.specs.Statements.{statement_of}
use Rattle.c_check.specs.Tasks.{from_place, told_by_all}
use Rattle.c_model.specs.Calls.{with_parameters}
use Rattle.c_model.specs.Cells.{last_named, first_named, last_of_slot, with_declarators}
use Rattle.c_model.specs.Clauses.{clauses_among, statements_among, expression_among, schedule_among, listed_among}
use Rattle.c_model.specs.Copies.{with_listed, with_slots, combining_all}
use Rattle.c_model.specs.Parts.{trees_in, flat_declarations}
use Rattle.c_model.specs.Program.{function_among, variables_among}
use Rattle.c_model.specs.Step.{items_from_next, silent}
use Rattle.c_model.specs.Text.{printed_text, text_behind_percent, text_behind_backslash}
use Rattle.c_model.specs.Value.{value, values, all_values}
use Rattle.task_pool.specs.Allowed.{descends_within, last_where}
use Rattle.team_parts.specs.Chunks.{dealt_count}
use Rattle.sync_objects.specs.Owners.{critical_locks, look_up, in_order, without, with_owner}
use Rattle.omp_model.specs.Calls.{call_of}
use Rattle.omp_model.specs.Changes.{with_invitations}
use Rattle.omp_model.specs.Gates.{arrival}
use Rattle.omp_model.specs.EventEffects.{fault_of_point, fault_of, effect_of_point, effect_of, go_of_code}
use Rattle.omp_model.specs.Returning.{at_back}
use Rattle.omp_model.specs.Serial.{enabled_among, serial_from, serial}
use Rattle.omp_model.specs.Silent.{silent_step}
use Rattle.omp_model.specs.Snapshots.{state_of, levels_from, down_from, regions_after}
use Rattle.omp_model.specs.Turn.{walk, unlimited, turn, enabled}
use Rattle.omp_model.specs.State.{Run}
use Rattle.omp_model.specs.Cause.{cause_of}
use Rattle.omp_model.specs.Heard.{heard}
use Rattle.omp_model.specs.Legal.{Legal}
use Rattle.omp_model.proofs.Written.{Line, at, children, frame, line, lines, run_of, word}

-- the line that has so many before it
abbrev line_behind : ℕ → Run → Option Line
line_behind count run = slice_get (lines run (serial run)) count

-- the last line
abbrev last_line : Run → Option Line
last_line run = slice_get (drop (length (lines run (serial run)) - 1) (lines run (serial run))) 0

-- int main(void) {
-- #pragma omp parallel num_threads(1)
-- #pragma omp parallel
-- ;
-- return 0;
-- }
abbrev nested_program : Tree
nested_program =
    at 1 1 node.Program 0 0 (
    Some (at 1 1 (node.Function returns.Int) 0 0 (
    Some (at 1 5 node.Name 1 0 [])
    ∷ Some (at 1 9 (node.Params params.Void) 0 0 [])
    ∷ Some (at 1 16 node.Block 0 0 (
    Some (at 2 1 (node.Construct directive.Parallel) 0 0 (
    Some (at 2 22 (node.Clause lead.Blank) 0 0 (
    Some (at 2 22 node.NumThreads 0 0 (Some (at 2 34 node.Number 0 1 []) ∷ [])) ∷ []))
    ∷ Some (at 3 1 (node.Construct directive.Parallel) 0 0 (Some (at 4 1 node.Empty 0 0 []) ∷ [])) ∷ []))
    ∷ Some (at 5 1 node.Return 0 0 (Some (at 5 8 node.Number 0 0 []) ∷ [])) ∷ [])) ∷ [])) ∷ [])

abbrev nested_run : Run
nested_run = run_of 1 1 nested_program

nested-lines : take 4 (drop 2 (lines nested_run (serial nested_run))) ≡
    line 4 0 (call.ParallelBegin (word 1) (frame 0 32769) (word 2) 1 2147483649 131073)
    ∷ line 6 0 (call.ImplicitTask 1 (word 2) (word 2) 1 0 2)
    ∷ line 8 0 (call.ParallelBegin (word 2) (frame 2 32770) (word 3) 1 2147483649 196609)
    ∷ line 10 0 (call.ImplicitTask 1 (word 3) (word 3) 1 0 2)
    ∷ []
unfolding children acts each target function init first_part second_part third_part outside_acts clause_outside statements after_all inside_acts mention unlisted_in loops_in find still_in_scope after stands_in stands_among child_count names is_among with_each masked_badly critical_badly spoiled is_loop_inside not_listed slot_in construct_at slots_copied number_among shared_by_rule sharing_at copies_around statement_of from_place told_by_all with_parameters last_named first_named last_of_slot with_declarators clauses_among statements_among expression_among schedule_among listed_among with_listed with_slots combining_all trees_in flat_declarations function_among variables_among items_from_next silent printed_text text_behind_percent text_behind_backslash value values all_values descends_within last_where dealt_count critical_locks look_up in_order without with_owner call_of with_invitations arrival fault_of_point fault_of effect_of_point effect_of go_of_code at_back enabled_among serial_from silent_step state_of levels_from down_from regions_after walk unlimited turn enabled
nested-lines = refl

-- what can be inquired at the innermost begin
abbrev inquired : ℕ → Run → Option Snapshot
inquired count run = slice_get (map (λ (item : Item). item.snapshot) (heard run (serial run))) count

nested-snapshot : inquired 5 nested_run ≡ Some (record {
  thread = word 1;
  state = 0x001;
  wait_id = 0;
  tasks =
      record { flags = 2; word = word 3; frame = frame 3 0; region = word 3; index = 0 }
      ∷ record { flags = 2; word = word 2; frame = frame 2 32770; region = word 2; index = 0 }
      ∷ record { flags = 1; word = word 1; frame = frame 0 32769; region = word 1; index = 0 }
      ∷ [];
  regions = record { word = word 3; team = 1 } ∷ record { word = word 2; team = 1 } ∷ record { word = word 1; team = 1 } ∷ [];
  fresh = None;
})
unfolding children acts each target function init first_part second_part third_part outside_acts clause_outside statements after_all inside_acts mention unlisted_in loops_in find still_in_scope after stands_in stands_among child_count names is_among with_each masked_badly critical_badly spoiled is_loop_inside not_listed slot_in construct_at slots_copied number_among shared_by_rule sharing_at copies_around statement_of from_place told_by_all with_parameters last_named first_named last_of_slot with_declarators clauses_among statements_among expression_among schedule_among listed_among with_listed with_slots combining_all trees_in flat_declarations function_among variables_among items_from_next silent printed_text text_behind_percent text_behind_backslash value values all_values descends_within last_where dealt_count critical_locks look_up in_order without with_owner call_of with_invitations arrival fault_of_point fault_of effect_of_point effect_of go_of_code at_back enabled_among serial_from silent_step state_of levels_from down_from regions_after walk unlimited turn enabled
nested-snapshot = refl

-- Task 5 is the newer one, but doesn't descend from task 2, which waits for its own child.
-- int main(void) {
-- #pragma omp parallel num_threads(2)
-- {
-- if (omp_get_thread_num() == 0) {
-- #pragma omp task
-- ;
-- #pragma omp taskwait
-- } else {
-- #pragma omp task
-- ;
-- }
-- }
-- return 0;
-- }
abbrev scheduling_program : Tree
scheduling_program =
    at 1 1 node.Program 0 0 (
    Some (at 1 1 (node.Function returns.Int) 0 0 (
    Some (at 1 5 node.Name 1 0 [])
    ∷ Some (at 1 9 (node.Params params.Void) 0 0 [])
    ∷ Some (at 1 16 node.Block 0 0 (
    Some (at 2 1 (node.Construct directive.Parallel) 0 0 (
    Some (at 2 22 (node.Clause lead.Blank) 0 0 (
    Some (at 2 22 node.NumThreads 0 0 (Some (at 2 34 node.Number 0 2 []) ∷ [])) ∷ []))
    ∷ Some (at 3 1 node.Block 0 0 (
    Some (at 4 1 node.If 0 0 (
    Some (at 4 5 (node.Binary binary.Equal) 0 0 (
    Some (at 4 5 (node.Getter getter.ThreadNum) 0 0 [])
    ∷ Some (at 4 29 node.Number 0 0 []) ∷ []))
    ∷ Some (at 4 32 node.Block 0 0 (
    Some (at 5 1 (node.Construct directive.Task) 0 0 (Some (at 6 1 node.Empty 0 0 []) ∷ []))
    ∷ Some (at 7 1 (node.Standalone standalone.Taskwait) 0 0 []) ∷ []))
    ∷ Some (at 8 8 node.Block 0 0 (
    Some (at 9 1 (node.Construct directive.Task) 0 0 (Some (at 10 1 node.Empty 0 0 []) ∷ [])) ∷ [])) ∷ [])) ∷ [])) ∷ []))
    ∷ Some (at 13 1 node.Return 0 0 (Some (at 13 8 node.Number 0 0 []) ∷ [])) ∷ [])) ∷ [])) ∷ [])

abbrev scheduling_run : Run
scheduling_run = run_of 2 1 scheduling_program

scheduling-starts : take 2 (drop 12 (lines scheduling_run (serial scheduling_run))) ≡
    line 24 0 (call.TaskSchedule (word 2) 7 (word 4)) ∷ line 26 1 (call.TaskSchedule (word 3) 7 (word 5)) ∷ []
unfolding children acts each target function init first_part second_part third_part outside_acts clause_outside statements after_all inside_acts mention unlisted_in loops_in find still_in_scope after stands_in stands_among child_count names is_among with_each masked_badly critical_badly spoiled is_loop_inside not_listed slot_in construct_at slots_copied number_among shared_by_rule sharing_at copies_around statement_of from_place told_by_all with_parameters last_named first_named last_of_slot with_declarators clauses_among statements_among expression_among schedule_among listed_among with_listed with_slots combining_all trees_in flat_declarations function_among variables_among items_from_next silent printed_text text_behind_percent text_behind_backslash value values all_values descends_within last_where dealt_count critical_locks look_up in_order without with_owner call_of with_invitations arrival fault_of_point fault_of effect_of_point effect_of go_of_code at_back enabled_among serial_from silent_step state_of levels_from down_from regions_after walk unlimited turn enabled
scheduling-starts = refl

-- Thread 0 waits in the region's barrier, so it holds its implicit task there only as one that is suspended in a barrier, and starts the task that the
-- other member has made.
-- int main(void) {
-- #pragma omp parallel num_threads(2)
-- {
-- if (omp_get_thread_num() == 1) {
-- #pragma omp task
-- ;
-- }
-- }
-- return 0;
-- }
abbrev suspended_program : Tree
suspended_program =
    at 1 1 node.Program 0 0 (
    Some (at 1 1 (node.Function returns.Int) 0 0 (
    Some (at 1 5 node.Name 1 0 [])
    ∷ Some (at 1 9 (node.Params params.Void) 0 0 [])
    ∷ Some (at 1 16 node.Block 0 0 (
    Some (at 2 1 (node.Construct directive.Parallel) 0 0 (
    Some (at 2 22 (node.Clause lead.Blank) 0 0 (
    Some (at 2 22 node.NumThreads 0 0 (Some (at 2 34 node.Number 0 2 []) ∷ [])) ∷ []))
    ∷ Some (at 3 1 node.Block 0 0 (
    Some (at 4 1 node.If 0 0 (
    Some (at 4 5 (node.Binary binary.Equal) 0 0 (
    Some (at 4 5 (node.Getter getter.ThreadNum) 0 0 [])
    ∷ Some (at 4 29 node.Number 0 1 []) ∷ []))
    ∷ Some (at 4 32 node.Block 0 0 (
    Some (at 5 1 (node.Construct directive.Task) 0 0 (Some (at 6 1 node.Empty 0 0 []) ∷ [])) ∷ [])) ∷ [])) ∷ [])) ∷ []))
    ∷ Some (at 9 1 node.Return 0 0 (Some (at 9 8 node.Number 0 0 []) ∷ [])) ∷ [])) ∷ [])) ∷ [])

abbrev suspended_run : Run
suspended_run = run_of 2 1 suspended_program

suspended-starts : line_behind 10 suspended_run ≡ Some (line 20 0 (call.TaskSchedule (word 2) 7 (word 4)))
unfolding children acts each target function init first_part second_part third_part outside_acts clause_outside statements after_all inside_acts mention unlisted_in loops_in find still_in_scope after stands_in stands_among child_count names is_among with_each masked_badly critical_badly spoiled is_loop_inside not_listed slot_in construct_at slots_copied number_among shared_by_rule sharing_at copies_around statement_of from_place told_by_all with_parameters last_named first_named last_of_slot with_declarators clauses_among statements_among expression_among schedule_among listed_among with_listed with_slots combining_all trees_in flat_declarations function_among variables_among items_from_next silent printed_text text_behind_percent text_behind_backslash value values all_values descends_within last_where dealt_count critical_locks look_up in_order without with_owner call_of with_invitations arrival fault_of_point fault_of effect_of_point effect_of go_of_code at_back enabled_among serial_from silent_step state_of levels_from down_from regions_after walk unlimited turn enabled
suspended-starts = refl

-- A nested region has a team of one, though two threads are there and asked for.
-- int main(void) {
-- #pragma omp parallel num_threads(1)
-- #pragma omp parallel num_threads(2)
-- ;
-- return 0;
-- }
abbrev lone_program : Tree
lone_program =
    at 1 1 node.Program 0 0 (
    Some (at 1 1 (node.Function returns.Int) 0 0 (
    Some (at 1 5 node.Name 1 0 [])
    ∷ Some (at 1 9 (node.Params params.Void) 0 0 [])
    ∷ Some (at 1 16 node.Block 0 0 (
    Some (at 2 1 (node.Construct directive.Parallel) 0 0 (
    Some (at 2 22 (node.Clause lead.Blank) 0 0 (
    Some (at 2 22 node.NumThreads 0 0 (Some (at 2 34 node.Number 0 1 []) ∷ [])) ∷ []))
    ∷ Some (at 3 1 (node.Construct directive.Parallel) 0 0 (
    Some (at 3 22 (node.Clause lead.Blank) 0 0 (
    Some (at 3 22 node.NumThreads 0 0 (Some (at 3 34 node.Number 0 2 []) ∷ [])) ∷ []))
    ∷ Some (at 4 1 node.Empty 0 0 []) ∷ [])) ∷ []))
    ∷ Some (at 5 1 node.Return 0 0 (Some (at 5 8 node.Number 0 0 []) ∷ [])) ∷ [])) ∷ [])) ∷ [])

abbrev lone_run : Run
lone_run = run_of 2 1 lone_program

lone-begins : take 2 (drop 4 (lines lone_run (serial lone_run))) ≡
    line 8 0 (call.ParallelBegin (word 2) (frame 2 32770) (word 3) 2 2147483649 196609)
    ∷ line 10 0 (call.ImplicitTask 1 (word 3) (word 3) 1 0 2)
    ∷ []
unfolding children acts each target function init first_part second_part third_part outside_acts clause_outside statements after_all inside_acts mention unlisted_in loops_in find still_in_scope after stands_in stands_among child_count names is_among with_each masked_badly critical_badly spoiled is_loop_inside not_listed slot_in construct_at slots_copied number_among shared_by_rule sharing_at copies_around statement_of from_place told_by_all with_parameters last_named first_named last_of_slot with_declarators clauses_among statements_among expression_among schedule_among listed_among with_listed with_slots combining_all trees_in flat_declarations function_among variables_among items_from_next silent printed_text text_behind_percent text_behind_backslash value values all_values descends_within last_where dealt_count critical_locks look_up in_order without with_owner call_of with_invitations arrival fault_of_point fault_of effect_of_point effect_of go_of_code at_back enabled_among serial_from silent_step state_of levels_from down_from regions_after walk unlimited turn enabled
lone-begins = refl

-- A lock is given back by a task that doesn't own it.
-- #include <omp.h>
-- omp_lock_t l;
-- int main(void) {
-- omp_init_lock(&l);
-- omp_set_lock(&l);
-- #pragma omp parallel num_threads(1)
-- omp_unset_lock(&l);
-- return 0;
-- }
abbrev foreign_program : Tree
foreign_program =
    at 1 1 node.Program 0 0 (
    Some (at 1 1 node.Include 0 0 [])
    ∷ Some (at 2 1 node.Locks 0 0 (Some (at 2 12 node.Name 1 0 []) ∷ []))
    ∷ Some (at 3 1 (node.Function returns.Int) 0 0 (
    Some (at 3 5 node.Name 2 0 [])
    ∷ Some (at 3 9 (node.Params params.Void) 0 0 [])
    ∷ Some (at 3 16 node.Block 0 0 (
    Some (at 4 1 (node.LockCall lock_call.Init) 0 0 (Some (at 4 16 node.Name 1 0 []) ∷ []))
    ∷ Some (at 5 1 (node.LockCall lock_call.Set) 0 0 (Some (at 5 15 node.Name 1 0 []) ∷ []))
    ∷ Some (at 6 1 (node.Construct directive.Parallel) 0 0 (
    Some (at 6 22 (node.Clause lead.Blank) 0 0 (
    Some (at 6 22 node.NumThreads 0 0 (Some (at 6 34 node.Number 0 1 []) ∷ [])) ∷ []))
    ∷ Some (at 7 1 (node.LockCall lock_call.Unset) 0 0 (Some (at 7 17 node.Name 1 0 []) ∷ [])) ∷ []))
    ∷ Some (at 8 1 node.Return 0 0 (Some (at 8 8 node.Number 0 0 []) ∷ [])) ∷ [])) ∷ [])) ∷ [])

abbrev foreign_run : Run
foreign_run = run_of 1 2 foreign_program

foreign-ends : cause_of foreign_run (serial foreign_run) ≡ Some (cause.Trapped 8)
unfolding children acts each target function init first_part second_part third_part outside_acts clause_outside statements after_all inside_acts mention unlisted_in loops_in find still_in_scope after stands_in stands_among child_count names is_among with_each masked_badly critical_badly spoiled is_loop_inside not_listed slot_in construct_at slots_copied number_among shared_by_rule sharing_at copies_around statement_of from_place told_by_all with_parameters last_named first_named last_of_slot with_declarators clauses_among statements_among expression_among schedule_among listed_among with_listed with_slots combining_all trees_in flat_declarations function_among variables_among items_from_next silent printed_text text_behind_percent text_behind_backslash value values all_values descends_within last_where dealt_count critical_locks look_up in_order without with_owner call_of with_invitations arrival fault_of_point fault_of effect_of_point effect_of go_of_code at_back enabled_among serial_from silent_step state_of levels_from down_from regions_after walk unlimited turn enabled
foreign-ends = refl

foreign-last : last_line foreign_run ≡ Some (line 12 0 (call.ImplicitTask 1 (word 2) (word 2) 1 0 2))
unfolding children acts each target function init first_part second_part third_part outside_acts clause_outside statements after_all inside_acts mention unlisted_in loops_in find still_in_scope after stands_in stands_among child_count names is_among with_each masked_badly critical_badly spoiled is_loop_inside not_listed slot_in construct_at slots_copied number_among shared_by_rule sharing_at copies_around statement_of from_place told_by_all with_parameters last_named first_named last_of_slot with_declarators clauses_among statements_among expression_among schedule_among listed_among with_listed with_slots combining_all trees_in flat_declarations function_among variables_among items_from_next silent printed_text text_behind_percent text_behind_backslash value values all_values descends_within last_where dealt_count critical_locks look_up in_order without with_owner call_of with_invitations arrival fault_of_point fault_of effect_of_point effect_of go_of_code at_back enabled_among serial_from silent_step state_of levels_from down_from regions_after walk unlimited turn enabled
foreign-last = refl

-- One member meets a barrier where the other one meets a single.
-- int main(void) {
-- #pragma omp parallel num_threads(2)
-- if (omp_get_thread_num() == 0) {
-- #pragma omp barrier
-- } else {
-- #pragma omp single
-- ;
-- }
-- return 0;
-- }
abbrev mismatched_program : Tree
mismatched_program =
    at 1 1 node.Program 0 0 (
    Some (at 1 1 (node.Function returns.Int) 0 0 (
    Some (at 1 5 node.Name 1 0 [])
    ∷ Some (at 1 9 (node.Params params.Void) 0 0 [])
    ∷ Some (at 1 16 node.Block 0 0 (
    Some (at 2 1 (node.Construct directive.Parallel) 0 0 (
    Some (at 2 22 (node.Clause lead.Blank) 0 0 (
    Some (at 2 22 node.NumThreads 0 0 (Some (at 2 34 node.Number 0 2 []) ∷ [])) ∷ []))
    ∷ Some (at 3 1 node.If 0 0 (
    Some (at 3 5 (node.Binary binary.Equal) 0 0 (
    Some (at 3 5 (node.Getter getter.ThreadNum) 0 0 [])
    ∷ Some (at 3 29 node.Number 0 0 []) ∷ []))
    ∷ Some (at 3 32 node.Block 0 0 (Some (at 4 1 (node.Standalone standalone.Barrier) 0 0 []) ∷ []))
    ∷ Some (at 5 8 node.Block 0 0 (
    Some (at 6 1 (node.Construct directive.Single) 0 0 (Some (at 7 1 node.Empty 0 0 []) ∷ [])) ∷ [])) ∷ [])) ∷ []))
    ∷ Some (at 9 1 node.Return 0 0 (Some (at 9 8 node.Number 0 0 []) ∷ [])) ∷ [])) ∷ [])) ∷ [])

abbrev mismatched_run : Run
mismatched_run = run_of 2 1 mismatched_program

mismatched-ends : cause_of mismatched_run (serial mismatched_run) ≡ Some (cause.Trapped 4)
unfolding children acts each target function init first_part second_part third_part outside_acts clause_outside statements after_all inside_acts mention unlisted_in loops_in find still_in_scope after stands_in stands_among child_count names is_among with_each masked_badly critical_badly spoiled is_loop_inside not_listed slot_in construct_at slots_copied number_among shared_by_rule sharing_at copies_around statement_of from_place told_by_all with_parameters last_named first_named last_of_slot with_declarators clauses_among statements_among expression_among schedule_among listed_among with_listed with_slots combining_all trees_in flat_declarations function_among variables_among items_from_next silent printed_text text_behind_percent text_behind_backslash value values all_values descends_within last_where dealt_count critical_locks look_up in_order without with_owner call_of with_invitations arrival fault_of_point fault_of effect_of_point effect_of go_of_code at_back enabled_among serial_from silent_step state_of levels_from down_from regions_after walk unlimited turn enabled
mismatched-ends = refl

mismatched-last : last_line mismatched_run ≡ Some (line 12 0 (call.SyncRegion 3 1 (word 2) (word 2) 262145))
unfolding children acts each target function init first_part second_part third_part outside_acts clause_outside statements after_all inside_acts mention unlisted_in loops_in find still_in_scope after stands_in stands_among child_count names is_among with_each masked_badly critical_badly spoiled is_loop_inside not_listed slot_in construct_at slots_copied number_among shared_by_rule sharing_at copies_around statement_of from_place told_by_all with_parameters last_named first_named last_of_slot with_declarators clauses_among statements_among expression_among schedule_among listed_among with_listed with_slots combining_all trees_in flat_declarations function_among variables_among items_from_next silent printed_text text_behind_percent text_behind_backslash value values all_values descends_within last_where dealt_count critical_locks look_up in_order without with_owner call_of with_invitations arrival fault_of_point fault_of effect_of_point effect_of go_of_code at_back enabled_among serial_from silent_step state_of levels_from down_from regions_after walk unlimited turn enabled
mismatched-last = refl

mismatched-long : length (serial mismatched_run) ≡ 15
unfolding children acts each target function init first_part second_part third_part outside_acts clause_outside statements after_all inside_acts mention unlisted_in loops_in find still_in_scope after stands_in stands_among child_count names is_among with_each masked_badly critical_badly spoiled is_loop_inside not_listed slot_in construct_at slots_copied number_among shared_by_rule sharing_at copies_around statement_of from_place told_by_all with_parameters last_named first_named last_of_slot with_declarators clauses_among statements_among expression_among schedule_among listed_among with_listed with_slots combining_all trees_in flat_declarations function_among variables_among items_from_next silent printed_text text_behind_percent text_behind_backslash value values all_values descends_within last_where dealt_count critical_locks look_up in_order without with_owner call_of with_invitations arrival fault_of_point fault_of effect_of_point effect_of go_of_code at_back enabled_among serial_from silent_step state_of levels_from down_from regions_after walk unlimited turn enabled
mismatched-long = refl

-- The second call waits for the lock for ever.
-- #include <omp.h>
-- omp_lock_t l;
-- int main(void) {
--   omp_init_lock(&l);
--   omp_set_lock(&l);
--   omp_set_lock(&l);
--   return 0;
-- }
abbrev waiting_program : Tree
waiting_program =
    at 1 1 node.Program 0 0 (
    Some (at 1 1 node.Include 0 0 [])
    ∷ Some (at 2 1 node.Locks 0 0 (Some (at 2 12 node.Name 1 0 []) ∷ []))
    ∷ Some (at 3 1 (node.Function returns.Int) 0 0 (
    Some (at 3 5 node.Name 2 0 [])
    ∷ Some (at 3 9 (node.Params params.Void) 0 0 [])
    ∷ Some (at 3 16 node.Block 0 0 (
    Some (at 4 3 (node.LockCall lock_call.Init) 0 0 (Some (at 4 18 node.Name 1 0 []) ∷ []))
    ∷ Some (at 5 3 (node.LockCall lock_call.Set) 0 0 (Some (at 5 17 node.Name 1 0 []) ∷ []))
    ∷ Some (at 6 3 (node.LockCall lock_call.Set) 0 0 (Some (at 6 17 node.Name 1 0 []) ∷ []))
    ∷ Some (at 7 3 node.Return 0 0 (Some (at 7 10 node.Number 0 0 []) ∷ [])) ∷ [])) ∷ [])) ∷ [])

abbrev waiting_run : Run
waiting_run = run_of 1 2 waiting_program

waiting-state : map (λ (item : Item). item.snapshot.state) (drop 5 (heard waiting_run (serial waiting_run))) ≡ 0x041 ∷ []
unfolding children acts each target function init first_part second_part third_part outside_acts clause_outside statements after_all inside_acts mention unlisted_in loops_in find still_in_scope after stands_in stands_among child_count names is_among with_each masked_badly critical_badly spoiled is_loop_inside not_listed slot_in construct_at slots_copied number_among shared_by_rule sharing_at copies_around statement_of from_place told_by_all with_parameters last_named first_named last_of_slot with_declarators clauses_among statements_among expression_among schedule_among listed_among with_listed with_slots combining_all trees_in flat_declarations function_among variables_among items_from_next silent printed_text text_behind_percent text_behind_backslash value values all_values descends_within last_where dealt_count critical_locks look_up in_order without with_owner call_of with_invitations arrival fault_of_point fault_of effect_of_point effect_of go_of_code at_back enabled_among serial_from silent_step state_of levels_from down_from regions_after walk unlimited turn enabled
waiting-state = refl

waiting-for : map (λ (item : Item). item.snapshot.wait_id) (drop 5 (heard waiting_run (serial waiting_run))) ≡ 65536 ∷ []
unfolding children acts each target function init first_part second_part third_part outside_acts clause_outside statements after_all inside_acts mention unlisted_in loops_in find still_in_scope after stands_in stands_among child_count names is_among with_each masked_badly critical_badly spoiled is_loop_inside not_listed slot_in construct_at slots_copied number_among shared_by_rule sharing_at copies_around statement_of from_place told_by_all with_parameters last_named first_named last_of_slot with_declarators clauses_among statements_among expression_among schedule_among listed_among with_listed with_slots combining_all trees_in flat_declarations function_among variables_among items_from_next silent printed_text text_behind_percent text_behind_backslash value values all_values descends_within last_where dealt_count critical_locks look_up in_order without with_owner call_of with_invitations arrival fault_of_point fault_of effect_of_point effect_of go_of_code at_back enabled_among serial_from silent_step state_of levels_from down_from regions_after walk unlimited turn enabled
waiting-for = refl

-- Two sections among four members: 46 events, of which two tell that a section was taken.
-- int main(void) {
-- #pragma omp parallel num_threads(4)
-- #pragma omp sections nowait
-- {
-- #pragma omp section
-- ;
-- #pragma omp section
-- ;
-- }
-- return 0;
-- }
abbrev shared_program : Tree
shared_program =
    at 1 1 node.Program 0 0 (
    Some (at 1 1 (node.Function returns.Int) 0 0 (
    Some (at 1 5 node.Name 1 0 [])
    ∷ Some (at 1 9 (node.Params params.Void) 0 0 [])
    ∷ Some (at 1 16 node.Block 0 0 (
    Some (at 2 1 (node.Construct directive.Parallel) 0 0 (
    Some (at 2 22 (node.Clause lead.Blank) 0 0 (
    Some (at 2 22 node.NumThreads 0 0 (Some (at 2 34 node.Number 0 4 []) ∷ [])) ∷ []))
    ∷ Some (at 3 1 (node.Construct directive.Sections) 0 0 (
    Some (at 3 22 (node.Clause lead.Blank) 0 0 (Some (at 3 22 node.Nowait 0 0 []) ∷ []))
    ∷ Some (at 5 1 node.Section 0 0 (Some (at 6 1 node.Empty 0 0 []) ∷ []))
    ∷ Some (at 7 1 node.Section 0 0 (Some (at 8 1 node.Empty 0 0 []) ∷ [])) ∷ [])) ∷ []))
    ∷ Some (at 10 1 node.Return 0 0 (Some (at 10 8 node.Number 0 0 []) ∷ [])) ∷ [])) ∷ [])) ∷ [])

abbrev shared_run : Run
shared_run = run_of 4 1 shared_program

shared-long : length (lines shared_run (serial shared_run)) ≡ 46
unfolding children acts each target function init first_part second_part third_part outside_acts clause_outside statements after_all inside_acts mention unlisted_in loops_in find still_in_scope after stands_in stands_among child_count names is_among with_each masked_badly critical_badly spoiled is_loop_inside not_listed slot_in construct_at slots_copied number_among shared_by_rule sharing_at copies_around statement_of from_place told_by_all with_parameters last_named first_named last_of_slot with_declarators clauses_among statements_among expression_among schedule_among listed_among with_listed with_slots combining_all trees_in flat_declarations function_among variables_among items_from_next silent printed_text text_behind_percent text_behind_backslash value values all_values descends_within last_where dealt_count critical_locks look_up in_order without with_owner call_of with_invitations arrival fault_of_point fault_of effect_of_point effect_of go_of_code at_back enabled_among serial_from silent_step state_of levels_from down_from regions_after walk unlimited turn enabled
shared-long = refl

shared-ends : cause_of shared_run (serial shared_run) ≡ Some cause.Done
unfolding children acts each target function init first_part second_part third_part outside_acts clause_outside statements after_all inside_acts mention unlisted_in loops_in find still_in_scope after stands_in stands_among child_count names is_among with_each masked_badly critical_badly spoiled is_loop_inside not_listed slot_in construct_at slots_copied number_among shared_by_rule sharing_at copies_around statement_of from_place told_by_all with_parameters last_named first_named last_of_slot with_declarators clauses_among statements_among expression_among schedule_among listed_among with_listed with_slots combining_all trees_in flat_declarations function_among variables_among items_from_next silent printed_text text_behind_percent text_behind_backslash value values all_values descends_within last_where dealt_count critical_locks look_up in_order without with_owner call_of with_invitations arrival fault_of_point fault_of effect_of_point effect_of go_of_code at_back enabled_among serial_from silent_step state_of levels_from down_from regions_after walk unlimited turn enabled
shared-ends = refl

-- A tool hears the begins of regions and worksharing, and stores 77 into the word of the region and 100 into that of the task.
-- int main(void) {
-- #pragma omp parallel num_threads(1)
-- #pragma omp single nowait
-- ;
-- return 0;
-- }
abbrev storing_program : Tree
storing_program =
    at 1 1 node.Program 0 0 (
    Some (at 1 1 (node.Function returns.Int) 0 0 (
    Some (at 1 5 node.Name 1 0 [])
    ∷ Some (at 1 9 (node.Params params.Void) 0 0 [])
    ∷ Some (at 1 16 node.Block 0 0 (
    Some (at 2 1 (node.Construct directive.Parallel) 0 0 (
    Some (at 2 22 (node.Clause lead.Blank) 0 0 (
    Some (at 2 22 node.NumThreads 0 0 (Some (at 2 34 node.Number 0 1 []) ∷ [])) ∷ []))
    ∷ Some (at 3 1 (node.Construct directive.Single) 0 0 (
    Some (at 3 20 (node.Clause lead.Blank) 0 0 (Some (at 3 20 node.Nowait 0 0 []) ∷ []))
    ∷ Some (at 4 1 node.Empty 0 0 []) ∷ [])) ∷ []))
    ∷ Some (at 5 1 node.Return 0 0 (Some (at 5 8 node.Number 0 0 []) ∷ [])) ∷ [])) ∷ [])) ∷ [])

abbrev storing_run : Run
storing_run = record (run_of 1 1 storing_program) { mask = 0x100008 }

abbrev go : Entry
go = record { thread = 0; what = Go }

abbrev back : Entry
back = record { thread = 0; what = Back }

abbrev storing_history : List Entry
storing_history =
    go ∷ back ∷ go ∷ back ∷ go ∷ record { thread = 0; what = Put (target.Parallel 2) 77 } ∷ back ∷ go ∷ back
    ∷ go ∷ record { thread = 0; what = Put (target.Task 2) 100 } ∷ back ∷ go ∷ back ∷ []

storing-heard : lines storing_run storing_history ≡
    line 4 0 (call.ParallelBegin (word 1) (frame 0 32769) (word 2) 1 2147483649 131073)
    ∷ line 9 0 (call.Work 3 1 (record { identity = 2; value = 77 }) (word 2) 1 196609)
    ∷ line 12 0 (call.Work 3 2 (record { identity = 2; value = 77 }) (record { identity = 2; value = 100 }) 1 196609)
    ∷ []
unfolding children acts each target function init first_part second_part third_part outside_acts clause_outside statements after_all inside_acts mention unlisted_in loops_in find still_in_scope after stands_in stands_among child_count names is_among with_each masked_badly critical_badly spoiled is_loop_inside not_listed slot_in construct_at slots_copied number_among shared_by_rule sharing_at copies_around statement_of from_place told_by_all with_parameters last_named first_named last_of_slot with_declarators clauses_among statements_among expression_among schedule_among listed_among with_listed with_slots combining_all trees_in flat_declarations function_among variables_among items_from_next silent printed_text text_behind_percent text_behind_backslash value values all_values descends_within last_where dealt_count critical_locks look_up in_order without with_owner call_of with_invitations arrival fault_of_point fault_of effect_of_point effect_of go_of_code at_back enabled_among serial_from silent_step state_of levels_from down_from regions_after walk unlimited turn enabled
storing-heard = refl

storing-allowed : Legal storing_run storing_history
unfolding children acts each target function init first_part second_part third_part outside_acts clause_outside statements after_all inside_acts mention unlisted_in loops_in find still_in_scope after stands_in stands_among child_count names is_among with_each masked_badly critical_badly spoiled is_loop_inside not_listed slot_in construct_at slots_copied number_among shared_by_rule sharing_at copies_around statement_of from_place told_by_all with_parameters last_named first_named last_of_slot with_declarators clauses_among statements_among expression_among schedule_among listed_among with_listed with_slots combining_all trees_in flat_declarations function_among variables_among items_from_next silent printed_text text_behind_percent text_behind_backslash value values all_values descends_within last_where dealt_count critical_locks look_up in_order without with_owner call_of with_invitations arrival fault_of_point fault_of effect_of_point effect_of go_of_code at_back enabled_among serial_from silent_step state_of levels_from down_from regions_after walk unlimited turn enabled
storing-allowed = (refl, (refl, (refl, (refl, (refl, (refl, (refl, (refl, (refl, (refl, (refl, (refl, (refl, (refl, tt))))))))))))))
