use Rattle.std.proofs.Common.{◌≡◌, ℕ, ℤ, nat_lt, List, refl}
use Rattle.team_parts.specs.declared.meeting.Schedule.{Schedule}
use Rattle.team_parts.specs.declared.meeting.Schedule.TheVariants.{Static, Dynamic, Guided}
use Rattle.team_parts.specs.declared.meeting.Meeting.TheVariants.{Loop}
use Rattle.team_parts.specs.Dealing.{IsDealtOut, chunks_dealt, times_dealt, one_if}
use Rattle.team_parts.proofs.Counted.{dynamic-most, dynamic-least, guided-most, guided-least}
use Rattle.team_parts.proofs.InTurn.{in-turn-once}
use Rattle.team_parts.proofs.Owned.{static-once}
use Rattle.team_parts.proofs.laws.each_iteration_once.Goals as goal

each-once : (at : ℕ) (start : ℤ) (count : ℕ) (step : ℤ) (schedule : Schedule) (size : ℕ) (order : List ℕ) → let what = Loop at start count step schedule in IsDealtOut what size order → (iteration : ℕ) → times_dealt (chunks_dealt what size order) iteration ≡ one_if (nat_lt iteration count)
each-once at start count step (Static length) size order out iteration =
    static-once at start count step length size order out iteration
each-once at start count step (Dynamic length) size order out iteration =
    in-turn-once at start count step (Dynamic length) size order (λ taken member. refl) (dynamic-most length size) (λ rest. dynamic-least length size rest out.chunk) out iteration
each-once at start count step (Guided length) size order out iteration =
    in-turn-once at start count step (Guided length) size order (λ taken member. refl) (guided-most length size) (λ rest. guided-least length size rest out.chunk) out iteration

pub returns : goal.returns
returns c = each-once
