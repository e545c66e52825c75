-- A member of a region that all have left has finished.
use Rattle.std.proofs.Common.{ℕ, zero, suc, ◌≡◌, ◌<◌, Bool, true, false, List, [], ◌∷◌, take, length, slice_index_or, arith}
use Rattle.std.specs.List.{list_all}
use Rattle.std.proofs.lemmas.Bool.{and_parts}
use Rattle.team_parts.specs.declared.meeting.TheConstants.{TEAM_LIMIT}
use Rattle.ompt_calls.specs.declared.event.EventRecord.{EventRecord}
use Rattle.omp_model.specs.State.{World, region_at}
use Rattle.omp_model.specs.Gates.{all_left}
use Rattle.nested_runs.proofs.Known.{HasGone, TellsRegion, task_of_member}

-- where each of the first flags is set, so is this one
flag-set : (flags : List Bool) (size i : ℕ) → list_all (λ (flag : Bool). flag) (take size flags) ≡ true → i < size → i < length flags →
    slice_index_or flags i false ≡ true
flag-set [] size i all within there = absurd (omega arith)
flag-set (flag ∷ flags) zero i all within there = absurd (omega arith)
flag-set (flag ∷ flags) (suc size) zero all within there = (and_parts flag (list_all (λ (x : Bool). x) (take size flags)) all).0
flag-set (flag ∷ flags) (suc size) (suc i) all within there =
    flag-set flags size i (and_parts flag (list_all (λ (x : Bool). x) (take size flags)) all).1 (omega arith) (omega arith)

pub member-gone : (W : World) (past : List EventRecord) (r i : ℕ) → TellsRegion W past r → all_left W r ≡ true → i < (region_at W r).head.size →
    i < TEAM_LIMIT → HasGone W past (task_of_member W r i)
member-gone W past r i tells left within fits =
    tells.gone i (flag-set (region_at W r).head.left (region_at W r).head.size i left within (omega (arith, tells.left)))
