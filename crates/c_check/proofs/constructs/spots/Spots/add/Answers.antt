use Rattle.std.proofs.Common.{◌≡◌, ◌+◌, length, sym, arith}
use Rattle.c_check.proofs.Standing.{number_from-more}
use Rattle.c_check.proofs.constructs.spots.Spots.add.Goals as goal

pub invariant_of-self-2 : goal.invariant_of-self-2
invariant_of-self-2 c = λ place.
    let number : c.len-number.result ≡ 0 + length c.self.inside.all.items = omega (arith, c.len-number.ensures, c.self.inside.all.ok.0) in
    rw (c.in_ok-push.ensures.items, c.in_ok-reserve.ensures.items, c.in_ok-keep_first.ensures.kept place, c.self.invariant place) (sym (number_from-more 0 _ c.args.spot _ place number))
