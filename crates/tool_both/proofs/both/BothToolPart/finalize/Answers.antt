use Rattle.tool_api.specs.Record.{Record}
use Rattle.tool_both.proofs.Ends.{finalized_by}
use Rattle.tool_both.proofs.Joining.{both-finished, active-end, inactive-end}
use Rattle.tool_both.proofs.both.BothToolPart.finalize.Goals as goal
use Rattle.tool_both.proofs.both.BothToolPart.finalize.Goals.{then-self-ne0, else-self-ne0}

pub returns-then-self-ne0-2-clause-finished : goal.returns-then-self-ne0-2-clause-finished
returns-then-self-ne0-2-clause-finished g c =
    let both = c.args.self.now in
    let FA = g.A.ToolPart.stands_for in
    let FB = g.B.ToolPart.stands_for in
    let by_first : (r : Record) → FA both.first r → FA c.if-self-ne0.self.1.0 (finalized_by both.masks.first_answer r) =
    elim c.if-self-ne0.branch [
      | then-self-ne0 w ↦ rw w.self-is (active-end FA both.first w.finalize.new.self both.masks.first_answer w.if-self-ne0.true w.finalize.ensures.finished)
      | else-self-ne0 w ↦ rw w.self-is (inactive-end FA both.first both.masks.first_answer w.if-self-ne0.false)
    ] in
    both-finished FA FB both.first c.if-self-ne0.self.1.0 both.second c.finalize-then-self-ne0-2.new.self both.masks both.whole by_first
    (active-end FB both.second c.finalize-then-self-ne0-2.new.self both.masks.second_answer c.if-self-ne0-2.true c.finalize-then-self-ne0-2.ensures.finished)

pub returns-else-self-ne0-2-clause-finished : goal.returns-else-self-ne0-2-clause-finished
returns-else-self-ne0-2-clause-finished g c =
    let both = c.args.self.now in
    let FA = g.A.ToolPart.stands_for in
    let FB = g.B.ToolPart.stands_for in
    let by_first : (r : Record) → FA both.first r → FA c.if-self-ne0.self.1.0 (finalized_by both.masks.first_answer r) =
    elim c.if-self-ne0.branch [
      | then-self-ne0 w ↦ rw w.self-is (active-end FA both.first w.finalize.new.self both.masks.first_answer w.if-self-ne0.true w.finalize.ensures.finished)
      | else-self-ne0 w ↦ rw w.self-is (inactive-end FA both.first both.masks.first_answer w.if-self-ne0.false)
    ] in
    both-finished FA FB both.first c.if-self-ne0.self.1.0 both.second both.second both.masks both.whole by_first
    (inactive-end FB both.second both.masks.second_answer c.if-self-ne0-2.false)
