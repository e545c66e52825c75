use Rattle.trace_check.proofs.kept.Kept.stay.Goals as goal
use Rattle.trace_check.proofs.Learned.{after_is, stayed_known, kept_current}

pub returns-clause-learned : goal.returns-clause-learned
returns-clause-learned c = λ past known unbroken keeps.
    let kept = c.args.self.now in
    let event = c.args.event.now in
    let runs = kept_current kept past event.thread c.args.thread known c.requires.known in
    let things = c.in_ok-note.ensures.learned past runs known.things unbroken keeps in
    stayed_known kept c.note.new.self c.put_thread.new.threads past event c.args.thread c.after.result known unbroken keeps c.requires.known c.requires.stays
    c.note.ensures.threads c.note.ensures.brackets things
    (after_is c.after.result c.args.thread event.call c.args.thread.current c.args.thread.depth c.after.ensures.ended c.after.ensures.later
    c.after.ensures.asked c.after.ensures.current c.after.ensures.depth)
    c.put_thread.ensures
