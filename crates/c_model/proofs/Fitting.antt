-- Which outcomes an item that is an event by its form comes to, and which another one.
use Rattle.std.specs.Prelude.{Bool, true, false}
use Rattle.c_model.specs.Task.{Outcome}
use Rattle.c_model.specs.Task.Outcome.{StepsTo, Asks, Occurs, Ends, Traps, Limits}

-- An item that is an event by its form comes to an event, and another one to a silent step or a question. A trap or a limit may come of both, and the
-- end of neither.
unfoldable pub Fits : Outcome → Bool → Type 0
Fits (StepsTo next) true = ⊥
Fits (StepsTo next) false = Unit {0}
Fits (Asks ask tree) true = ⊥
Fits (Asks ask tree) false = Unit {0}
Fits (Occurs point tree) true = Unit {0}
Fits (Occurs point tree) false = ⊥
Fits (Ends number) stands = ⊥
Fits (Traps trap) stands = Unit {0}
Fits (Limits limit) stands = Unit {0}
