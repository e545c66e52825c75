use Rattle.std.proofs.Common.{◌≡◌, refl, ◌∙◌, length}
use Rattle.std.proofs.lemmas.List.{reverse-append}
use Rattle.c_check.proofs.Numbers.{ended_in-more, more_open, numbered-next}
use Rattle.c_check.proofs.constructs.arena.Constructs.settle.Goals as goal

pub invariant_of-self-in-Continue-branch-4 : goal.invariant_of-self-in-Continue-branch-4
invariant_of-self-in-Continue-branch-4 c =
    rw (c.in_ok-push-2.ensures.items, c.in_ok-push.ensures.items, c.in_ok-reserve.ensures.items, c.in_ok-reserve-2.ensures.items, reverse-append, c.len-number.ensures, c.in_ok-reserve.ensures.len, c.self.inside.older.ok.0)
    (more_open _ _ _ _ c.self.invariant c.in-Some.newest)

pub returns-in_ok-push-2 : goal.returns-in_ok-push-2
returns-in_ok-push-2 c =
    let number : c.len-number.result ≡ length c.self.inside.older.items = c.len-number.ensures ∙ c.in_ok-reserve.ensures.len ∙ c.self.inside.older.ok.0 in
    rw (c.in_ok-push-2.ensures.items, c.in_ok-push.ensures.items, c.in_ok-reserve.ensures.items, c.in_ok-reserve-2.ensures.items, numbered-next c.self.inside.older.items c.in-Some.newest c.self.inside.around.items c.len-number.result number c.self.invariant.open_below, ended_in-more c.self.inside.older.items c.in-Some.newest c.self.inside.ended.items c.self.invariant.ended_below, c.in-Some.ensures.after, ← c.self.view_is, ← c.in-Some.ensures.value)
    refl
