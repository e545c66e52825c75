use Rattle.std.proofs.Common.{◌<◌, refl, take, length, arith, length-take-le, rules}
use Rattle.trace_format.proofs.Handing.{reads_cut, reads_fewer, reads_more, reads_none, reads_truncated, reads_unfailed, reads_whole}
use Rattle.trace_format.proofs.reading.read_items.Goals as goal

pub loop-count-init : goal.loop-count-init
loop-count-init g c = record {
  reads_so = reads_none _ _ _ c.new-reader.ensures.taken c.requires.none;
  open_still = c.new-reader.ensures.unrefused;
  steady = refl;
}

pub returns-in-Err-clause-read : goal.returns-in-Err-clause-read
returns-in-Err-clause-read g c =
    reads_cut c.in-Err.end _ _ _ _ _ _ _ _ c.loop-count.invariant.reads_so c.in-Bytes.ensures.gives.2 (c.in-Err.ensures.cut c.in-Err.end refl c.args.taker.now)

pub returns-in-Err-clause-failed : goal.returns-in-Err-clause-failed
returns-in-Err-clause-failed g c =
    reads_unfailed c.in-Err.end _ _ _ _ _ _ _ c.loop-count.invariant.reads_so (c.in-Err.ensures.cut c.in-Err.end refl c.args.taker.now)

pub loop-count-smaller : goal.loop-count-smaller
loop-count-smaller g c =
    let some : 0 < length (take c.in-Bytes.count c.read.new.buf) =
    omega (arith, c.in-Bytes.ensures.gives.0, length-take-le c.in-Bytes.count c.read.new.buf c.in-Bytes.ensures.gives.1) in
    reads_fewer _ _ _ _ _ _ _ c.loop-count.invariant.reads_so (c.in_default.ensures.whole c.args.taker.now) c.in_default.ensures.open some

pub loop-count-preserved : goal.loop-count-preserved
loop-count-preserved g c = record {
  reads_so = reads_more _ _ _ _ _ _ _ _ c.loop-count.invariant.reads_so c.in-Bytes.ensures.gives.2 (c.in_default.ensures.whole c.args.taker.now);
  open_still = c.in_default.ensures.open;
  steady = search rules;
}

pub returns-in-Ok-clause-read : goal.returns-in-Ok-clause-read
returns-in-Ok-clause-read g c =
    reads_whole _ _ _ _ _ (g.T.Taker.stopped c.args.taker.now c.loop-count.taker) c.loop-count.invariant.reads_so
    c.in-End.ensures.gives (c.in-Ok.ensures.whole c.loop-count.invariant.open_still)

pub returns-in-Err-end-clause-read : goal.returns-in-Err-end-clause-read
returns-in-Err-end-clause-read g c =
    reads_truncated c.in-Err-end.refusal _ _ _ (g.S.Source.left c.read.new.self) _ (g.T.Taker.stopped c.args.taker.now c.loop-count.taker)
    c.loop-count.invariant.reads_so c.in-End.ensures.gives.0
    (c.in-Err-end.ensures.truncated c.loop-count.invariant.open_still)
