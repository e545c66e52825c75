-- The run of the smallest program, computed for each number of threads: its entries, its records and its cause.
use Rattle.std.proofs.Common.{ℕ, zero, suc, ◌≡◌, ◌≤◌, Some, refl, subst, inl, inr, arith}
use Rattle.std.proofs.lemmas.Bool.{cases_eq}
use Rattle.omp_model.specs.declared.cause.Cause.TheVariants as cause
use Rattle.c_check.specs.Acts.{acts, each, target, function, init, first_part, second_part, third_part, outside_acts, clause_outside, statements}
use Rattle.c_check.specs.Checked.{after_all}
use Rattle.c_check.specs.Clauses.{inside_acts}
use Rattle.c_check.specs.Constructs.{mention, unlisted_in, loops_in}
use Rattle.c_check.specs.Declarations.{find, still_in_scope}
use Rattle.c_check.specs.Here.{after}
use Rattle.c_check.specs.Loops.{stands_in, stands_among}
use Rattle.c_check.specs.NameLists.{child_count, names}
use Rattle.c_check.specs.Once.{is_among, with_each}
use Rattle.c_check.specs.Rules.{masked_badly, critical_badly, spoiled, is_loop_inside, not_listed}
use Rattle.c_check.specs.Seen.{slot_in, construct_at, slots_copied, number_among}
use Rattle.c_check.specs.Shares.{shared_by_rule, sharing_at, copies_around}
use Rattle.c_check.specs.Statements.{statement_of}
use Rattle.c_check.specs.Tasks.{from_place, told_by_all}
use Rattle.c_model.specs.Calls.{with_parameters}
use Rattle.c_model.specs.Cells.{last_named, first_named, last_of_slot, with_declarators}
use Rattle.c_model.specs.Clauses.{clauses_among, statements_among, expression_among, schedule_among, listed_among}
use Rattle.c_model.specs.Copies.{with_listed, with_slots, combining_all}
use Rattle.c_model.specs.Parts.{trees_in, flat_declarations}
use Rattle.c_model.specs.Program.{function_among, variables_among}
use Rattle.c_model.specs.Step.{items_from_next, silent}
use Rattle.c_model.specs.Text.{printed_text, text_behind_percent, text_behind_backslash}
use Rattle.c_model.specs.Value.{value, values, all_values}
use Rattle.task_pool.specs.Allowed.{descends_within, last_where}
use Rattle.team_parts.specs.Chunks.{dealt_count}
use Rattle.sync_objects.specs.Owners.{critical_locks, look_up, in_order, without, with_owner}
use Rattle.omp_model.specs.Calls.{call_of}
use Rattle.omp_model.specs.Changes.{with_invitations}
use Rattle.omp_model.specs.Gates.{arrival}
use Rattle.omp_model.specs.EventEffects.{fault_of_point, fault_of, effect_of_point, effect_of, go_of_code}
use Rattle.omp_model.specs.Returning.{at_back}
use Rattle.omp_model.specs.Serial.{enabled_among, serial_from}
use Rattle.omp_model.specs.Silent.{silent_step}
use Rattle.omp_model.specs.Snapshots.{state_of, levels_from, down_from, regions_after}
use Rattle.omp_model.specs.Turn.{walk, unlimited, turn, enabled}
use Rattle.omp_model.specs.Cause.{cause_of}
use Rattle.omp_model.specs.Empty.{empty_history, empty_records, empty_run}
use Rattle.omp_model.specs.Records.{records_of}
use Rattle.omp_model.specs.Serial.{serial}

-- what is so at each number from 1 to this one
abbrev Each : (ℕ → Type 0) → ℕ → Type 0
Each P zero = Unit {0}
Each P (suc most) = P (suc most) × Each P most

-- one of these numbers
each_at : (P : ℕ → Type 0) (most n : ℕ) → Each P most → 1 ≤ n → n ≤ most → P n
each_at P zero n each low high = absurd (omega arith)
each_at P (suc most) n each low high = elim (cases_eq (suc most) n) [ inl same ↦ subst P same each.0 | inr other ↦ each_at P most n each.1 low (omega arith) ]

pub entries : (n : ℕ) → 1 ≤ n → n ≤ 16 → serial (empty_run n) ≡ empty_history
unfolding acts each target function init first_part second_part third_part outside_acts clause_outside statements after_all inside_acts mention unlisted_in loops_in find still_in_scope after stands_in stands_among child_count names is_among with_each masked_badly critical_badly spoiled is_loop_inside not_listed slot_in construct_at slots_copied number_among shared_by_rule sharing_at copies_around statement_of from_place told_by_all with_parameters last_named first_named last_of_slot with_declarators clauses_among statements_among expression_among schedule_among listed_among with_listed with_slots combining_all trees_in flat_declarations function_among variables_among items_from_next silent printed_text text_behind_percent text_behind_backslash value values all_values descends_within last_where dealt_count critical_locks look_up in_order without with_owner call_of with_invitations arrival fault_of_point fault_of effect_of_point effect_of go_of_code at_back enabled_among serial_from silent_step state_of levels_from down_from regions_after walk unlimited turn enabled
entries n = each_at (λ n. serial (empty_run n) ≡ empty_history) 16 n (refl, (refl, (refl, (refl, (refl, (refl, (refl, (refl, (refl, (refl, (refl, (refl, (refl, (refl, (refl, (refl, tt))))))))))))))))

pub records : (n : ℕ) → 1 ≤ n → n ≤ 16 → records_of (empty_run n) empty_history ≡ empty_records
unfolding acts each target function init first_part second_part third_part outside_acts clause_outside statements after_all inside_acts mention unlisted_in loops_in find still_in_scope after stands_in stands_among child_count names is_among with_each masked_badly critical_badly spoiled is_loop_inside not_listed slot_in construct_at slots_copied number_among shared_by_rule sharing_at copies_around statement_of from_place told_by_all with_parameters last_named first_named last_of_slot with_declarators clauses_among statements_among expression_among schedule_among listed_among with_listed with_slots combining_all trees_in flat_declarations function_among variables_among items_from_next silent printed_text text_behind_percent text_behind_backslash value values all_values descends_within last_where dealt_count critical_locks look_up in_order without with_owner call_of with_invitations arrival fault_of_point fault_of effect_of_point effect_of go_of_code at_back enabled_among serial_from silent_step state_of levels_from down_from regions_after walk unlimited turn enabled
records n = each_at (λ n. records_of (empty_run n) empty_history ≡ empty_records) 16 n (refl, (refl, (refl, (refl, (refl, (refl, (refl, (refl, (refl, (refl, (refl, (refl, (refl, (refl, (refl, (refl, tt))))))))))))))))

pub ends : (n : ℕ) → 1 ≤ n → n ≤ 16 → cause_of (empty_run n) empty_history ≡ Some cause.Done
unfolding acts each target function init first_part second_part third_part outside_acts clause_outside statements after_all inside_acts mention unlisted_in loops_in find still_in_scope after stands_in stands_among child_count names is_among with_each masked_badly critical_badly spoiled is_loop_inside not_listed slot_in construct_at slots_copied number_among shared_by_rule sharing_at copies_around statement_of from_place told_by_all with_parameters last_named first_named last_of_slot with_declarators clauses_among statements_among expression_among schedule_among listed_among with_listed with_slots combining_all trees_in flat_declarations function_among variables_among items_from_next silent printed_text text_behind_percent text_behind_backslash value values all_values descends_within last_where dealt_count critical_locks look_up in_order without with_owner call_of with_invitations arrival fault_of_point fault_of effect_of_point effect_of go_of_code at_back enabled_among serial_from silent_step state_of levels_from down_from regions_after walk unlimited turn enabled
ends n = each_at (λ n. cause_of (empty_run n) empty_history ≡ Some cause.Done) 16 n (refl, (refl, (refl, (refl, (refl, (refl, (refl, (refl, (refl, (refl, (refl, (refl, (refl, (refl, (refl, (refl, tt))))))))))))))))
