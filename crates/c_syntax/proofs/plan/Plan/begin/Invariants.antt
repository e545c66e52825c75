use Rattle.std.proofs.Common.{◌≡◌, ◌++◌, length}
use Rattle.std.specs.Prelude.{reverse}
use Rattle.c_syntax.proofs.plan.Plan.begin.Given as goal

-- the steps that were put down stand behind those that weren't
abbrev pub invariant-loop-step : goal.invariant-loop-step
invariant-loop-step l = l.steps ++ l.fn.self ≡ l.rest ++ reverse l.self-inside.steps.items

abbrev pub decreases-loop-step : goal.decreases-loop-step
decreases-loop-step l = length l.rest
