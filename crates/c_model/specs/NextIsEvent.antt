-- Which outcomes there are where an event or the end stands next, and which where none does.
use Rattle.std.specs.Prelude.{Bool, true, false}
use Rattle.c_model.specs.Task.{Outcome}
use Rattle.c_model.specs.Task.Outcome.{StepsTo, Asks, Occurs, Ends, Traps, Limits}

-- where an event or the end stands next, nothing is a silent step and nothing is asked; where none does, no event occurs and the code doesn't end
unfoldable pub FitsTask : Outcome → Bool → Type 0
FitsTask (StepsTo next) true = ⊥
FitsTask (StepsTo next) false = Unit {0}
FitsTask (Asks ask tree) true = ⊥
FitsTask (Asks ask tree) false = Unit {0}
FitsTask (Occurs point tree) true = Unit {0}
FitsTask (Occurs point tree) false = ⊥
FitsTask (Ends number) true = Unit {0}
FitsTask (Ends number) false = ⊥
FitsTask (Traps trap) stands = Unit {0}
FitsTask (Limits limit) stands = Unit {0}
