-- Serial runs of small programs, computed: what a tool hears, the cause, and how many entries there are.
use Rattle.std.specs.Prelude.{[], ◌∷◌, Some, refl}
use Rattle.c_syntax.specs.declared.node.BinaryOp.TheVariants as binary
use Rattle.c_syntax.specs.declared.node.Bump.TheVariants as bump
use Rattle.c_syntax.specs.declared.node.Side.TheVariants as side
use Rattle.c_syntax.specs.declared.node.Returns.TheVariants as returns
use Rattle.c_syntax.specs.declared.node.Parameters.TheVariants as params
use Rattle.c_syntax.specs.declared.node.Directive.TheVariants as directive
use Rattle.c_syntax.specs.declared.node.Lead.TheVariants as lead
use Rattle.c_syntax.specs.declared.node.ScheduleKind.TheVariants as schedule
use Rattle.c_syntax.specs.declared.node.LockCall.TheVariants as lock_call
use Rattle.c_syntax.specs.declared.node.NodeKind.TheVariants as node
use Rattle.ompt_calls.specs.declared.call.Call.TheVariants as call
use Rattle.omp_model.specs.declared.cause.Cause.TheVariants as cause
use Rattle.c_check.specs.Acts.{acts, each, target, function, init, first_part, second_part, third_part, outside_acts, clause_outside, statements}
use Rattle.c_check.specs.Checked.{after_all}
use Rattle.c_check.specs.Clauses.{inside_acts}
use Rattle.c_check.specs.Constructs.{mention, unlisted_in, loops_in}
use Rattle.c_check.specs.Declarations.{find, still_in_scope}
use Rattle.c_check.specs.Here.{after}
use Rattle.c_check.specs.Loops.{stands_in, stands_among}
use Rattle.c_check.specs.NameLists.{child_count, names}
use Rattle.c_check.specs.Once.{is_among, with_each}
use Rattle.c_check.specs.Rules.{masked_badly, critical_badly, spoiled, is_loop_inside, not_listed}
use Rattle.c_check.specs.Seen.{slot_in, construct_at, slots_copied, number_among}
use Rattle.c_check.specs.Shares.{shared_by_rule, sharing_at, copies_around}
use Rattle.c_check.specs.Statements.{statement_of}
use Rattle.c_check.specs.Tasks.{from_place, told_by_all}
use Rattle.c_model.specs.Calls.{with_parameters}
use Rattle.c_model.specs.Cells.{last_named, first_named, last_of_slot, with_declarators}
use Rattle.c_model.specs.Clauses.{clauses_among, statements_among, expression_among, schedule_among, listed_among}
use Rattle.c_model.specs.Copies.{with_listed, with_slots, combining_all}
use Rattle.c_model.specs.Parts.{trees_in, flat_declarations}
use Rattle.c_model.specs.Program.{function_among, variables_among}
use Rattle.c_model.specs.Step.{items_from_next, silent}
use Rattle.c_model.specs.Text.{printed_text, text_behind_percent, text_behind_backslash}
use Rattle.c_model.specs.Value.{value, values, all_values}
use Rattle.task_pool.specs.Allowed.{descends_within, last_where}
use Rattle.team_parts.specs.Chunks.{dealt_count}
use Rattle.sync_objects.specs.Owners.{critical_locks, look_up, in_order, without, with_owner}
use Rattle.omp_model.specs.Calls.{call_of}
use Rattle.omp_model.specs.Changes.{with_invitations}
use Rattle.omp_model.specs.Gates.{arrival}
use Rattle.omp_model.specs.EventEffects.{fault_of_point, fault_of, effect_of_point, effect_of, go_of_code}
use Rattle.omp_model.specs.Returning.{at_back}
use Rattle.omp_model.specs.Serial.{enabled_among, serial_from}
use Rattle.omp_model.specs.Silent.{silent_step}
use Rattle.omp_model.specs.Snapshots.{state_of, levels_from, down_from, regions_after}
use Rattle.omp_model.specs.Turn.{walk, unlimited, turn, enabled}
use Rattle.omp_model.specs.State.{Run}
use Rattle.omp_model.proofs.Written.{Runs, at, children, frame, line, run_of, word}

-- int main(void) { return 0; }
abbrev empty_run : Run
empty_run =
    run_of 1 1 (
    at 1 1 node.Program 0 0 (
    Some (at 1 1 (node.Function returns.Int) 0 0 (
    Some (at 1 5 node.Name 1 0 [])
    ∷ Some (at 1 9 (node.Params params.Void) 0 0 [])
    ∷ Some (at 1 16 node.Block 0 0 (Some (at 1 18 node.Return 0 0 (Some (at 1 25 node.Number 0 0 []) ∷ [])) ∷ [])) ∷ [])) ∷ []))

empty : Runs empty_run cause.Done 8 (
    line 0 0 (call.ThreadBegin 1 (word 1))
    ∷ line 2 0 (call.ImplicitTask 1 (word 1) (word 1) 1 1 1)
    ∷ line 4 0 (call.ImplicitTask 2 (word 0) (word 1) 0 1 1)
    ∷ line 6 0 (call.ThreadEnd (word 1))
    ∷ [])
unfolding children acts each target function init first_part second_part third_part outside_acts clause_outside statements after_all inside_acts mention unlisted_in loops_in find still_in_scope after stands_in stands_among child_count names is_among with_each masked_badly critical_badly spoiled is_loop_inside not_listed slot_in construct_at slots_copied number_among shared_by_rule sharing_at copies_around statement_of from_place told_by_all with_parameters last_named first_named last_of_slot with_declarators clauses_among statements_among expression_among schedule_among listed_among with_listed with_slots combining_all trees_in flat_declarations function_among variables_among items_from_next silent printed_text text_behind_percent text_behind_backslash value values all_values descends_within last_where dealt_count critical_locks look_up in_order without with_owner call_of with_invitations arrival fault_of_point fault_of effect_of_point effect_of go_of_code at_back enabled_among serial_from silent_step state_of levels_from down_from regions_after walk unlimited turn enabled
empty = record { told = refl; ends = refl; long = refl }

-- int main(void) {
-- #pragma omp parallel num_threads(2)
-- { }
-- return 0;
-- }
abbrev two_run : Run
two_run =
    run_of 2 1 (
    at 1 1 node.Program 0 0 (
    Some (at 1 1 (node.Function returns.Int) 0 0 (
    Some (at 1 5 node.Name 1 0 [])
    ∷ Some (at 1 9 (node.Params params.Void) 0 0 [])
    ∷ Some (at 1 16 node.Block 0 0 (
    Some (at 2 1 (node.Construct directive.Parallel) 0 0 (
    Some (at 2 22 (node.Clause lead.Blank) 0 0 (
    Some (at 2 22 node.NumThreads 0 0 (Some (at 2 34 node.Number 0 2 []) ∷ [])) ∷ []))
    ∷ Some (at 3 1 node.Block 0 0 []) ∷ []))
    ∷ Some (at 4 1 node.Return 0 0 (Some (at 4 8 node.Number 0 0 []) ∷ [])) ∷ [])) ∷ [])) ∷ []))

two : Runs two_run cause.Done 41 (
    line 0 0 (call.ThreadBegin 1 (word 1))
    ∷ line 2 0 (call.ImplicitTask 1 (word 1) (word 1) 1 1 1)
    ∷ line 4 0 (call.ParallelBegin (word 1) (frame 0 32769) (word 2) 2 2147483649 131073)
    ∷ line 6 1 (call.ThreadBegin 2 (word 2))
    ∷ line 8 0 (call.ImplicitTask 1 (word 2) (word 2) 2 0 2)
    ∷ line 10 1 (call.ImplicitTask 1 (word 2) (word 3) 2 1 2)
    ∷ line 12 0 (call.SyncRegion 9 1 (word 2) (word 2) 131073)
    ∷ line 14 1 (call.SyncRegion 9 1 (word 2) (word 3) 131073)
    ∷ line 16 0 (call.SyncRegionWait 9 1 (word 2) (word 2) 131073)
    ∷ line 18 1 (call.SyncRegionWait 9 1 (word 2) (word 3) 131073)
    ∷ line 20 0 (call.SyncRegionWait 9 2 (word 0) (word 2) 131073)
    ∷ line 22 1 (call.SyncRegionWait 9 2 (word 0) (word 3) 131073)
    ∷ line 24 0 (call.SyncRegion 9 2 (word 0) (word 2) 131073)
    ∷ line 26 1 (call.SyncRegion 9 2 (word 0) (word 3) 131073)
    ∷ line 28 0 (call.ImplicitTask 2 (word 0) (word 2) 0 0 2)
    ∷ line 30 1 (call.ImplicitTask 2 (word 0) (word 3) 0 1 2)
    ∷ line 32 0 (call.ParallelEnd (word 2) (word 1) 2147483649 131073)
    ∷ line 35 1 (call.ThreadEnd (word 2))
    ∷ line 37 0 (call.ImplicitTask 2 (word 0) (word 1) 0 1 1)
    ∷ line 39 0 (call.ThreadEnd (word 1))
    ∷ [])
unfolding children acts each target function init first_part second_part third_part outside_acts clause_outside statements after_all inside_acts mention unlisted_in loops_in find still_in_scope after stands_in stands_among child_count names is_among with_each masked_badly critical_badly spoiled is_loop_inside not_listed slot_in construct_at slots_copied number_among shared_by_rule sharing_at copies_around statement_of from_place told_by_all with_parameters last_named first_named last_of_slot with_declarators clauses_among statements_among expression_among schedule_among listed_among with_listed with_slots combining_all trees_in flat_declarations function_among variables_among items_from_next silent printed_text text_behind_percent text_behind_backslash value values all_values descends_within last_where dealt_count critical_locks look_up in_order without with_owner call_of with_invitations arrival fault_of_point fault_of effect_of_point effect_of go_of_code at_back enabled_among serial_from silent_step state_of levels_from down_from regions_after walk unlimited turn enabled
two = record { told = refl; ends = refl; long = refl }

-- int main(void) {
-- #pragma omp parallel num_threads(0)
-- { }
-- return 0;
-- }
abbrev none_run : Run
none_run =
    run_of 1 1 (
    at 1 1 node.Program 0 0 (
    Some (at 1 1 (node.Function returns.Int) 0 0 (
    Some (at 1 5 node.Name 1 0 [])
    ∷ Some (at 1 9 (node.Params params.Void) 0 0 [])
    ∷ Some (at 1 16 node.Block 0 0 (
    Some (at 2 1 (node.Construct directive.Parallel) 0 0 (
    Some (at 2 22 (node.Clause lead.Blank) 0 0 (
    Some (at 2 22 node.NumThreads 0 0 (Some (at 2 34 node.Number 0 0 []) ∷ [])) ∷ []))
    ∷ Some (at 3 1 node.Block 0 0 []) ∷ []))
    ∷ Some (at 4 1 node.Return 0 0 (Some (at 4 8 node.Number 0 0 []) ∷ [])) ∷ [])) ∷ [])) ∷ []))

none : Runs none_run (cause.Trapped 5) 5 (
    line 0 0 (call.ThreadBegin 1 (word 1))
    ∷ line 2 0 (call.ImplicitTask 1 (word 1) (word 1) 1 1 1)
    ∷ [])
unfolding children acts each target function init first_part second_part third_part outside_acts clause_outside statements after_all inside_acts mention unlisted_in loops_in find still_in_scope after stands_in stands_among child_count names is_among with_each masked_badly critical_badly spoiled is_loop_inside not_listed slot_in construct_at slots_copied number_among shared_by_rule sharing_at copies_around statement_of from_place told_by_all with_parameters last_named first_named last_of_slot with_declarators clauses_among statements_among expression_among schedule_among listed_among with_listed with_slots combining_all trees_in flat_declarations function_among variables_among items_from_next silent printed_text text_behind_percent text_behind_backslash value values all_values descends_within last_where dealt_count critical_locks look_up in_order without with_owner call_of with_invitations arrival fault_of_point fault_of effect_of_point effect_of go_of_code at_back enabled_among serial_from silent_step state_of levels_from down_from regions_after walk unlimited turn enabled
none = record { told = refl; ends = refl; long = refl }

-- int main(void) {
-- #pragma omp task if(0)
-- ;
-- return 0;
-- }
abbrev undeferred_run : Run
undeferred_run =
    run_of 1 1 (
    at 1 1 node.Program 0 0 (
    Some (at 1 1 (node.Function returns.Int) 0 0 (
    Some (at 1 5 node.Name 1 0 [])
    ∷ Some (at 1 9 (node.Params params.Void) 0 0 [])
    ∷ Some (at 1 16 node.Block 0 0 (
    Some (at 2 1 (node.Construct directive.Task) 0 0 (
    Some (at 2 18 (node.Clause lead.Blank) 0 0 (
    Some (at 2 18 node.IfClause 0 0 (Some (at 2 21 node.Number 0 0 []) ∷ [])) ∷ []))
    ∷ Some (at 3 1 node.Empty 0 0 []) ∷ []))
    ∷ Some (at 4 1 node.Return 0 0 (Some (at 4 8 node.Number 0 0 []) ∷ [])) ∷ [])) ∷ [])) ∷ []))

undeferred : Runs undeferred_run cause.Done 14 (
    line 0 0 (call.ThreadBegin 1 (word 1))
    ∷ line 2 0 (call.ImplicitTask 1 (word 1) (word 1) 1 1 1)
    ∷ line 4 0 (call.TaskCreate (word 1) (frame 0 32769) (word 2) 134217732 0 131073)
    ∷ line 6 0 (call.TaskSchedule (word 1) 7 (word 2))
    ∷ line 8 0 (call.TaskSchedule (word 2) 1 (word 1))
    ∷ line 10 0 (call.ImplicitTask 2 (word 0) (word 1) 0 1 1)
    ∷ line 12 0 (call.ThreadEnd (word 1))
    ∷ [])
unfolding children acts each target function init first_part second_part third_part outside_acts clause_outside statements after_all inside_acts mention unlisted_in loops_in find still_in_scope after stands_in stands_among child_count names is_among with_each masked_badly critical_badly spoiled is_loop_inside not_listed slot_in construct_at slots_copied number_among shared_by_rule sharing_at copies_around statement_of from_place told_by_all with_parameters last_named first_named last_of_slot with_declarators clauses_among statements_among expression_among schedule_among listed_among with_listed with_slots combining_all trees_in flat_declarations function_among variables_among items_from_next silent printed_text text_behind_percent text_behind_backslash value values all_values descends_within last_where dealt_count critical_locks look_up in_order without with_owner call_of with_invitations arrival fault_of_point fault_of effect_of_point effect_of go_of_code at_back enabled_among serial_from silent_step state_of levels_from down_from regions_after walk unlimited turn enabled
undeferred = record { told = refl; ends = refl; long = refl }

-- #include <omp.h>
-- omp_lock_t l;
-- int main(void) {
--   omp_init_lock(&l);
--   omp_set_lock(&l);
--   omp_set_lock(&l);
--   return 0;
-- }
abbrev deadlock_run : Run
deadlock_run =
    run_of 1 2 (
    at 1 1 node.Program 0 0 (
    Some (at 1 1 node.Include 0 0 [])
    ∷ Some (at 2 1 node.Locks 0 0 (Some (at 2 12 node.Name 1 0 []) ∷ []))
    ∷ Some (at 3 1 (node.Function returns.Int) 0 0 (
    Some (at 3 5 node.Name 2 0 [])
    ∷ Some (at 3 9 (node.Params params.Void) 0 0 [])
    ∷ Some (at 3 16 node.Block 0 0 (
    Some (at 4 3 (node.LockCall lock_call.Init) 0 0 (Some (at 4 18 node.Name 1 0 []) ∷ []))
    ∷ Some (at 5 3 (node.LockCall lock_call.Set) 0 0 (Some (at 5 17 node.Name 1 0 []) ∷ []))
    ∷ Some (at 6 3 (node.LockCall lock_call.Set) 0 0 (Some (at 6 17 node.Name 1 0 []) ∷ []))
    ∷ Some (at 7 3 node.Return 0 0 (Some (at 7 10 node.Number 0 0 []) ∷ [])) ∷ [])) ∷ [])) ∷ []))

deadlock : Runs deadlock_run cause.Deadlock 12 (
    line 0 0 (call.ThreadBegin 1 (word 1))
    ∷ line 2 0 (call.ImplicitTask 1 (word 1) (word 1) 1 1 1)
    ∷ line 4 0 (call.LockInit 1 0 0 65536 262147)
    ∷ line 6 0 (call.MutexAcquire 1 0 0 65536 327683)
    ∷ line 8 0 (call.MutexAcquired 1 65536 327683)
    ∷ line 10 0 (call.MutexAcquire 1 0 0 65536 393219)
    ∷ [])
unfolding children acts each target function init first_part second_part third_part outside_acts clause_outside statements after_all inside_acts mention unlisted_in loops_in find still_in_scope after stands_in stands_among child_count names is_among with_each masked_badly critical_badly spoiled is_loop_inside not_listed slot_in construct_at slots_copied number_among shared_by_rule sharing_at copies_around statement_of from_place told_by_all with_parameters last_named first_named last_of_slot with_declarators clauses_among statements_among expression_among schedule_among listed_among with_listed with_slots combining_all trees_in flat_declarations function_among variables_among items_from_next silent printed_text text_behind_percent text_behind_backslash value values all_values descends_within last_where dealt_count critical_locks look_up in_order without with_owner call_of with_invitations arrival fault_of_point fault_of effect_of_point effect_of go_of_code at_back enabled_among serial_from silent_step state_of levels_from down_from regions_after walk unlimited turn enabled
deadlock = record { told = refl; ends = refl; long = refl }

-- omp_lock_t l;
-- int main(void) {
-- int r;
-- omp_init_lock(&l);
-- r = omp_test_lock(&l);
-- r = omp_test_lock(&l);
-- return r;
-- }
abbrev failing_run : Run
failing_run =
    run_of 1 2 (
    at 1 1 node.Program 0 0 (
    Some (at 1 1 node.Locks 0 0 (Some (at 1 12 node.Name 1 0 []) ∷ []))
    ∷ Some (at 2 1 (node.Function returns.Int) 0 0 (
    Some (at 2 5 node.Name 2 0 [])
    ∷ Some (at 2 9 (node.Params params.Void) 0 0 [])
    ∷ Some (at 2 16 node.Block 0 0 (
    Some (at 3 1 node.Locals 0 0 (Some (at 3 5 node.LocalVar 3 0 []) ∷ []))
    ∷ Some (at 4 1 (node.LockCall lock_call.Init) 0 0 (Some (at 4 16 node.Name 1 0 []) ∷ []))
    ∷ Some (at 5 1 node.SetCall 0 0 (
    Some (at 5 1 node.Place 3 0 [])
    ∷ Some (at 5 5 node.TestLock 0 0 (Some (at 5 20 node.Name 1 0 []) ∷ [])) ∷ []))
    ∷ Some (at 6 1 node.SetCall 0 0 (
    Some (at 6 1 node.Place 3 0 [])
    ∷ Some (at 6 5 node.TestLock 0 0 (Some (at 6 20 node.Name 1 0 []) ∷ [])) ∷ []))
    ∷ Some (at 7 1 node.Return 0 0 (Some (at 7 8 node.Place 3 0 []) ∷ [])) ∷ [])) ∷ [])) ∷ []))

failing : Runs failing_run cause.Done 16 (
    line 0 0 (call.ThreadBegin 1 (word 1))
    ∷ line 2 0 (call.ImplicitTask 1 (word 1) (word 1) 1 1 1)
    ∷ line 4 0 (call.LockInit 1 0 0 65536 262145)
    ∷ line 6 0 (call.MutexAcquire 2 0 0 65536 327685)
    ∷ line 8 0 (call.MutexAcquired 2 65536 327685)
    ∷ line 10 0 (call.MutexAcquire 2 0 0 65536 393221)
    ∷ line 12 0 (call.ImplicitTask 2 (word 0) (word 1) 0 1 1)
    ∷ line 14 0 (call.ThreadEnd (word 1))
    ∷ [])
unfolding children acts each target function init first_part second_part third_part outside_acts clause_outside statements after_all inside_acts mention unlisted_in loops_in find still_in_scope after stands_in stands_among child_count names is_among with_each masked_badly critical_badly spoiled is_loop_inside not_listed slot_in construct_at slots_copied number_among shared_by_rule sharing_at copies_around statement_of from_place told_by_all with_parameters last_named first_named last_of_slot with_declarators clauses_among statements_among expression_among schedule_among listed_among with_listed with_slots combining_all trees_in flat_declarations function_among variables_among items_from_next silent printed_text text_behind_percent text_behind_backslash value values all_values descends_within last_where dealt_count critical_locks look_up in_order without with_owner call_of with_invitations arrival fault_of_point fault_of effect_of_point effect_of go_of_code at_back enabled_among serial_from silent_step state_of levels_from down_from regions_after walk unlimited turn enabled
failing = record { told = refl; ends = refl; long = refl }

-- int main(void) {
-- #pragma omp for schedule(static,2) nowait
-- for (int i = 0; i < 3; i++) ;
-- return 0;
-- }
abbrev dispatched_run : Run
dispatched_run =
    run_of 1 1 (
    at 1 1 node.Program 0 0 (
    Some (at 1 1 (node.Function returns.Int) 0 0 (
    Some (at 1 5 node.Name 1 0 [])
    ∷ Some (at 1 9 (node.Params params.Void) 0 0 [])
    ∷ Some (at 1 16 node.Block 0 0 (
    Some (at 2 1 (node.Construct directive.For) 0 0 (
    Some (at 2 17 (node.Clause lead.Blank) 0 0 (
    Some (at 2 17 (node.Schedule schedule.Static) 0 0 (Some (at 2 33 node.Number 0 2 []) ∷ [])) ∷ []))
    ∷ Some (at 2 36 (node.Clause lead.Blank) 0 0 (Some (at 2 36 node.Nowait 0 0 []) ∷ []))
    ∷ Some (at 3 1 node.For 0 0 (
    Some (at 3 6 node.Init 0 0 (Some (at 3 10 node.Name 2 0 []) ∷ Some (at 3 14 node.Number 0 0 []) ∷ []))
    ∷ Some (at 3 17 (node.Binary binary.Less) 0 0 (
    Some (at 3 17 node.Place 2 0 [])
    ∷ Some (at 3 21 node.Number 0 3 []) ∷ []))
    ∷ Some (at 3 24 (node.Bump bump.Increment side.Behind) 0 0 (Some (at 3 24 node.Place 2 0 []) ∷ []))
    ∷ Some (at 3 29 node.Empty 0 0 []) ∷ [])) ∷ []))
    ∷ Some (at 4 1 node.Return 0 0 (Some (at 4 8 node.Number 0 0 []) ∷ [])) ∷ [])) ∷ [])) ∷ []))

dispatched : Runs dispatched_run cause.Done 16 (
    line 0 0 (call.ThreadBegin 1 (word 1))
    ∷ line 2 0 (call.ImplicitTask 1 (word 1) (word 1) 1 1 1)
    ∷ line 4 0 (call.Work 1 1 (word 1) (word 1) 3 131073)
    ∷ line 6 0 (call.Dispatch (word 1) (word 1) 3 0 2)
    ∷ line 8 0 (call.Dispatch (word 1) (word 1) 3 2 1)
    ∷ line 10 0 (call.Work 1 2 (word 1) (word 1) 3 131073)
    ∷ line 12 0 (call.ImplicitTask 2 (word 0) (word 1) 0 1 1)
    ∷ line 14 0 (call.ThreadEnd (word 1))
    ∷ [])
unfolding children acts each target function init first_part second_part third_part outside_acts clause_outside statements after_all inside_acts mention unlisted_in loops_in find still_in_scope after stands_in stands_among child_count names is_among with_each masked_badly critical_badly spoiled is_loop_inside not_listed slot_in construct_at slots_copied number_among shared_by_rule sharing_at copies_around statement_of from_place told_by_all with_parameters last_named first_named last_of_slot with_declarators clauses_among statements_among expression_among schedule_among listed_among with_listed with_slots combining_all trees_in flat_declarations function_among variables_among items_from_next silent printed_text text_behind_percent text_behind_backslash value values all_values descends_within last_where dealt_count critical_locks look_up in_order without with_owner call_of with_invitations arrival fault_of_point fault_of effect_of_point effect_of go_of_code at_back enabled_among serial_from silent_step state_of levels_from down_from regions_after walk unlimited turn enabled
dispatched = record { told = refl; ends = refl; long = refl }
