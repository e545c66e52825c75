use Rattle.std.proofs.Common.{◌≡◌, ◌+◌}
use Rattle.c_steps.specs.OfProgram.{IsMadeFor}
use Rattle.c_steps.specs.Views.{HasNumbers}
use Rattle.c_steps.specs.Trying.{HaveStepsMade}
use Rattle.c_steps.proofs.control.Control.try_steps.Given as goal

-- so many steps were made, and for the others there is room
abbrev pub invariant-loop-made : goal.invariant-loop-made
invariant-loop-made l =
    record {
      steps : HaveStepsMade l.code l.view l.made l.initial.self l.initial.cells l.self l.cells;
      made : IsMadeFor l.code l.self;
      spare : l.self.spare + l.made ≡ l.initial.self.spare;
      numbers : HasNumbers l.view;
    }
