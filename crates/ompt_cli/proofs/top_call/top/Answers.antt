use Rattle.ompt_cli.specs.Words.{texts}
use Rattle.ompt_cli.proofs.top_call.top.Goals as goal

pub returns-in-Err-clause-carried : goal.returns-in-Err-clause-carried
returns-in-Err-clause-carried g c =
    rw (c.tell.ensures.end, c.tell.ensures.shown, c.tell.ensures.read, c.tell.ensures.ran)
    (rw (c.in-Err.ensures.untouched.0, c.in-Err.ensures.untouched.1) at (c.run_settings-outcome.ensures.carried (texts c.args.words.now) c.in-Err.ensures.asked.0))

pub returns-in-Err-clause-guests : goal.returns-in-Err-clause-guests
returns-in-Err-clause-guests g c = rw c.tell.ensures.ran (rw c.in-Err.ensures.kept at c.run_settings-outcome.ensures.guests)
