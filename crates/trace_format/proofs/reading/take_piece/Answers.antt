use Rattle.std.proofs.Common.{◌≡◌, ◌++◌, refl, subst, arith}
use Rattle.trace_format.specs.declared.read_end.ReadEnd.{ReadEnd}
use Rattle.trace_format.specs.declared.read_end.ReadEnd.TheVariants.{Refused, Stopped}
use Rattle.trace_format.specs.Handing.{IsCutShort}
use Rattle.trace_format.proofs.Feeding.{still_within}
use Rattle.trace_format.proofs.Handing.{cut_refused, cut_stopped, hands_more, hands_none, hands_whole}
use Rattle.trace_format.proofs.reading.take_piece.Goals as goal

pub loop-used-init : goal.loop-used-init
loop-used-init g c = record {
  within = omega arith;
  open_still = c.requires.open;
  took = λ start bytes hands. hands_none _ bytes c.args.piece.now _ hands;
}

pub returns-in-Err-clause-cut : goal.returns-in-Err-clause-cut
returns-in-Err-clause-cut g c =
    λ end is start bytes hands.
    let e : Refused c.in-Err.refusal ≡ end = cc in
    subst
    (λ (e : ReadEnd _). IsCutShort e (bytes ++ c.args.piece.now) (g.T.Taker.took start c.loop-used.taker) (g.T.Taker.stopped start c.loop-used.taker)) e
    (cut_refused c.in-Err.refusal _ _ bytes _ _ _ (g.T.Taker.stopped start c.loop-used.taker) (c.loop-used.invariant.took start bytes hands)
    c.in-Err.ensures.refused c.in-Err.ensures.up_to)

pub returns-in-Err-hand_on-clause-cut : goal.returns-in-Err-hand_on-clause-cut
returns-in-Err-hand_on-clause-cut g c =
    λ end is start bytes hands.
    let e : Stopped c.in-Err-hand_on.stop ≡ end = cc in
    let stopped = c.in-Err-hand_on.ensures.stopped c.in-Err-hand_on.stop refl in
    subst
    (λ (e : ReadEnd _). IsCutShort e (bytes ++ c.args.piece.now) (g.T.Taker.took start c.hand_on.new.taker)
    (g.T.Taker.stopped start c.hand_on.new.taker)) e
    (cut_stopped c.in-Err-hand_on.stop _ _ bytes _ _ _ _ _ (g.T.Taker.took start c.hand_on.new.taker) (g.T.Taker.stopped start c.hand_on.new.taker)
    (c.loop-used.invariant.took start bytes hands) c.in-Ok.ensures.ok stopped.0 (stopped.1 start))

pub loop-used-preserved : goal.loop-used-preserved
loop-used-preserved g c = record {
  within = still_within c.args.piece.now c.loop-used.used c.in-Ok.taken.used c.loop-used.invariant.within c.in-Ok.ensures.used;
  open_still = c.in-Ok.ensures.open;
  took = λ start bytes hands. hands_more _ _ bytes _ _ _ _ _ _ (c.loop-used.invariant.took start bytes hands) c.in-Ok.ensures.ok (c.in_default.ensures.took start);
}

pub returns-clause-whole : goal.returns-clause-whole
returns-clause-whole g c = λ start bytes hands. hands_whole _ bytes _ _ _ c.loop-used-test.false (c.loop-used.invariant.took start bytes hands)
