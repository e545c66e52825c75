use Rattle.std.proofs.Common.{rules, ◌-◌, ◌≡◌, length, take, drop, ap, arith, length-drop, take_all, ◌∙◌}
use Rattle.std.proofs.Math.Seq.{take-add}
use Rattle.std.proofs.KnownBytes.{Appends-trans}
use Rattle.run_edges.proofs.writing.write_all.Goals as goal

pub loop-taken-preserved : goal.loop-taken-preserved
loop-taken-preserved g c =
    let piece = c.args.piece.now in
    let at = c.loop-taken.taken in
    let left = length-drop at piece in
    let rest : take (length piece - at) (drop at piece) ≡ drop at piece = take_all _ _ (omega (arith, left)) in
    let taken = rw rest at c.in-Bytes.ensures.takes in
    record {
      within = omega (arith, left, taken.1);
      appended = rw take-add (Appends-trans _ _ _ _ _ c.loop-taken.invariant.appended taken.2);
      steady = c.in-Bytes.ensures.steady (search rules) ∙ c.loop-taken.invariant.steady;
      idle = λ none. absurd (omega (arith, ap length none));
    }
