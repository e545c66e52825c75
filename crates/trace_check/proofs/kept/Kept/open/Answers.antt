use Rattle.std.proofs.Common.{ℕ, ◌+◌, Some, None, refl, subst}
use Rattle.std.specs.Ordering.{nat_cmp}
use Rattle.std.specs.BTreeMap.{Updates}
use Rattle.trace_check.specs.Checking.{current_after}
use Rattle.trace_check.specs.declared.things.Opened.{Opened}
use Rattle.trace_check.specs.declared.things.Thread.{Thread}
use Rattle.trace_check.proofs.kept.Kept.open.Goals as goal
use Rattle.trace_check.proofs.Learned.{after_is, beside, opened_known, some_value, taken_back, kept_current}

pub returns-in-Err-clause-unchanged : goal.returns-in-Err-clause-unchanged
returns-in-Err-clause-unchanged c = λ past known unbroken.
    let kept = c.args.self.now in
    let thread = c.args.thread in
    let one : Opened = record { bracket = c.args.bracket; before = thread.current } in
    let key = c.bracket_key-key.ensures.key in
    let puts = subst (λ (k : ℕ). Updates nat_cmp kept.brackets c.insert.new.self k (Some one)) key c.in_ok-insert.ensures.updates in
    let takes = subst (λ (k : ℕ). Updates nat_cmp c.enter.new.self.brackets c.remove-opened.new.self k None) key c.remove-opened.ensures.updates in
    taken_back kept c.enter.new.self c.insert.new.self c.remove-opened.new.self past c.args.event.now.thread thread one known c.requires.known
    c.bracket_key-key.ensures.fits puts c.enter.ensures.threads c.enter.ensures.brackets
    (c.in-Err.ensures.unchanged past (beside kept kept.threads c.insert.new.self past known.things)) takes

pub returns-clause-learned : goal.returns-clause-learned
returns-clause-learned c = λ past known unbroken keeps.
    let kept = c.args.self.now in
    let event = c.args.event.now in
    let thread = c.args.thread in
    let runs = kept_current kept past event.thread thread known c.requires.known in
    let one : Opened = record { bracket = c.args.bracket; before = thread.current } in
    let next : Thread =
    record {
      ended = c.after.result.ended;
      later = c.after.result.later;
      asked = c.after.result.asked;
      current = c.current_after.result;
      depth =
          c.in_ok-depth.depth;
    } in
    let puts = subst (λ (k : ℕ). Updates nat_cmp kept.brackets c.insert.new.self k (Some one)) c.bracket_key-key.ensures.key c.in_ok-insert.ensures.updates in
    let things = c.in_default.ensures.learned past runs (beside kept kept.threads c.insert.new.self past known.things) unbroken keeps in
    opened_known kept c.enter.new.self c.insert.new.self c.put_thread.new.threads past event thread next c.args.bracket
    c.in_ok-depth.depth known unbroken keeps
    c.requires.known c.requires.opens
    (some_value c.checked_add.result _
    (thread.depth + 1) c.in_ok-depth.depth c.checked_add.ensures c.in_ok-depth.ensures.ok_part) c.bracket_key-key.ensures.fits puts
    c.enter.ensures.threads c.enter.ensures.brackets things
    (after_is next thread event.call
    (current_after event.call thread.current) c.in_ok-depth.depth c.after.ensures.ended c.after.ensures.later c.after.ensures.asked c.current_after.ensures refl)
    c.put_thread.ensures
