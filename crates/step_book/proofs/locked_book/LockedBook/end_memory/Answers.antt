use Rattle.std.proofs.Common.{◌∙◌, sym, refl, append-nil}
use Rattle.step_book.proofs.Locking.{beyond-all, locked-after, grown, hold-made, round}
use Rattle.step_book.proofs.locked_book.LockedBook.end_memory.Goals as goal

pub invariant_of-self : goal.invariant_of-self
invariant_of-self g c =
    let made = round _ _ _ _ _ _ _ _ _ _ _ c.self.invariant.seat c.pass.invariant.badge c.take_pass.ensures.view c.take_pass.ensures.told c.add_hold.ensures.view c.give_pass.ensures.view c.give_pass.ensures.pass_view in
    let none = beyond-all c.entries-entries.result.now in
    locked-after _ _ _ _ _ _ c.self.inside.book _ _ _ _ _ c.self.invariant made (c.give_pass.ensures.seat ∙ c.requires.table) (rw c.end_memory.ensures refl) (rw (c.end_memory.ensures, none) (sym (append-nil c.self.inside.book.history))) (rw none tt)

pub returns-clause-seen : goal.returns-clause-seen
returns-clause-seen g c =
    let made = round _ _ _ _ _ _ _ _ _ _ _ c.self.invariant.seat c.pass.invariant.badge c.take_pass.ensures.view c.take_pass.ensures.told c.add_hold.ensures.view c.give_pass.ensures.view c.give_pass.ensures.pass_view in
    grown _ _ _ _ _ (hold-made _ _ _ _ _ _ _ made c.self.invariant.own _ _ _ _ _ c.pass.view_is) (beyond-all c.entries-entries.result.now)
