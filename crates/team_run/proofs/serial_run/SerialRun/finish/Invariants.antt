use Rattle.std.proofs.Common.{◌≡◌, ◌-◌, None}
use Rattle.team_run.specs.{Names.TURN_LIMIT, Names.state_of, Serving.Serves, Serving.AreSame, Standing.StandsAt}
use Rattle.team_run.proofs.serial_run.SerialRun.finish.Given as goal

-- the run stands where its history leads to, and its parts were called for what was heard
abbrev pub invariant-loop-ready : goal.invariant-loop-ready
invariant-loop-ready g l = record {
  run : l.self.book.run ≡ l.initial.self.book.run;
  stands : StandsAt l.self.book.run l.self.next l.self.book.history;
  serves : Serves g.P.ToolPart.stands_for l.self.book.run l.initial.self.parts.items l.initial.self.book.history None
      l.self.parts.items l.self.book.history;
  same : AreSame g.P.ToolPart.same l.initial.self.parts.items l.self.parts.items;
}

-- the turns that are left
abbrev pub decreases-loop-ready : goal.decreases-loop-ready
decreases-loop-ready g l = TURN_LIMIT - (state_of l.self.book).turns
