use Rattle.std.proofs.Common.{◌≡◌, ◌∙◌, ◌+◌, ◌++◌, ◌∷◌, [], List, refl, sym, ap, subst, arith}
use Rattle.sync_objects.specs.declared.entry.Entry.{Entry}
use Rattle.sync_objects.specs.Owners.{critical_locks}
use Rattle.sync_objects.specs.Places.{IsRising, free_entry, locks_of}
use Rattle.sync_objects.proofs.Rising.{rising-criticals, criticals-none, criticals-more}
use Rattle.sync_objects.proofs.Showing.{shown-criticals, view-equal}
use Rattle.sync_objects.proofs.locks.Locks.new.Goals as goal

pub loop-before-init : goal.loop-before-init
loop-before-init c = c.in_ok-entries.ensures.items ∙ sym criticals-none

pub loop-before-preserved : goal.loop-before-preserved
loop-before-preserved c = c.in_ok-push.ensures.items ∙ (ap (λ (entries : List Entry). entries ++ free_entry (c.loop-before.before + 1) ∷ []) c.loop-before.invariant ∙ sym (criticals-more c.loop-before.before))

pub invariant_of-result : goal.invariant_of-result
invariant_of-result c = (omega arith, subst IsRising (sym c.loop-before.invariant) (rising-criticals c.loop-before.before))

pub returns : goal.returns
returns c =
    let all : c.loop-before.before ≡ c.args.criticals = omega arith in
    view-equal _ _ (ap locks_of c.loop-before.invariant ∙ (shown-criticals c.loop-before.before ∙ ap critical_locks all)) refl
