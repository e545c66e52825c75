use Rattle.std.proofs.Common.{◌≡◌, ℕ, None, refl, sym, ap, subst, ◌∙◌}
use Rattle.std.specs.Ordering.{nat_cmp}
use Rattle.std.specs.BTreeMap.{Updates, get}
use Rattle.trace_check.specs.declared.things.Thread.{Thread}
use Rattle.trace_check.proofs.kept.Kept.close.Goals as goal
use Rattle.trace_check.proofs.kept.Kept.close.Goals.{in-Some, in-None}
use Rattle.trace_check.proofs.Learned.{after_is, beside, closed_known, task_before, kept_current}

pub returns : goal.returns
returns c = record {
  learned = λ past known unbroken keeps.
      let kept = c.args.self.now in
      let event = c.args.event.now in
      let thread = c.args.thread in
      let place = c.saturating_sub-depth.result in
      let found = c.remove-opened.result in
      let runs = kept_current kept past event.thread thread known c.requires.known in
      let before : c.match-opened.next ≡ task_before found =
      elim c.match-opened.branch [ in-Some w ↦ w.next-is ∙ sym (ap task_before w.in-Some.is) | in-None w ↦ w.next-is ∙ sym (ap task_before w.in-None.is) ] in
      let next : Thread =
      record { ended = c.after.result.ended; later = c.after.result.later; asked = c.after.result.asked; current = c.match-opened.next; depth = place } in
      let takes =
      subst (λ (k : ℕ). Updates nat_cmp kept.brackets c.remove-opened.new.self k None) c.bracket_key.ensures.key c.remove-opened.ensures.updates in
      let found_is = c.remove-opened.ensures.value ∙ ap (λ (k : ℕ). get nat_cmp kept.brackets k) c.bracket_key.ensures.key in
      let things = c.leave.ensures.learned past runs (beside kept kept.threads c.remove-opened.new.self past known.things) unbroken keeps in
      closed_known kept c.leave.new.self c.remove-opened.new.self c.put_thread.new.threads past event thread next place found known unbroken keeps
      c.requires.known c.requires.closes c.saturating_sub-depth.ensures c.bracket_key.ensures.fits found_is takes c.leave.ensures.threads
      c.leave.ensures.brackets things
      (after_is next thread event.call (task_before found) place c.after.ensures.ended c.after.ensures.later c.after.ensures.asked before refl)
      c.put_thread.ensures;
}
