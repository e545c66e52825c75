use Rattle.std.proofs.Common.{ℕ, ◌<◌, length, take, drop, arith, ap, ◌∙◌}
use Rattle.c_tokens.specs.language.Places.{places_after}
use Rattle.c_tokens.specs.declared.place.Place.{Place}
use Rattle.std.proofs.lemmas.Grind.{common_steps}
use Rattle.c_tokens.proofs.Ends.{AreTails-end}
use Rattle.c_tokens.proofs.Ending.{scan-ends}
use Rattle.c_tokens.proofs.Law.{scan-reads}
use Rattle.c_tokens.proofs.Scanning.{end-read, fault-read, item-read}
use Rattle.c_tokens.proofs.scan.tokens.Goals as goal

pub returns-in-Fault-clause-fault : goal.returns-in-Fault-clause-fault
returns-in-Fault-clause-fault c = λ named.
    let some : 0 < length c.loop-rest.rest.now = grind arith in
    fault-read _ c.loop-rest.found.items c.loop-rest.rest.now c.loop-rest.place c.loop-rest.invariant.tokens some c.item_at-item.result c.in-Fault.flaw c.in-Fault.offset _ c.item_at-item.ensures.item c.item_at-item.ensures.fits c.in-Fault.is c.fault_at.ensures.fault

pub returns-in-Fault-clause-ended : goal.returns-in-Fault-clause-ended
returns-in-Fault-clause-ended c = λ named. scan-ends c.args.text.now _ (returns-in-Fault-clause-fault c named)

pub loop-rest-preserved : goal.loop-rest-preserved
loop-rest-preserved c =
    let rest = c.loop-rest.rest.now in
    let some : 0 < length rest = grind arith in
    record {
      tokens = item-read _ c.loop-rest.found.items rest c.loop-rest.place c.loop-rest.invariant.tokens some c.item_at-item.result c.push.new.found.items c.split_at.result.0.now c.split_at.result.1.now c.past-place.result c.item_at-item.ensures.item c.item_at-item.ensures.fits c.in_default.not-Fault (grind (arith, common_steps)) (c.split_at.ensures.front ∙ ap (λ (n : ℕ). take n rest) c.len.ensures) (c.split_at.ensures.back ∙ ap (λ (n : ℕ). drop n rest) c.len.ensures) (c.past-place.ensures.place ∙ ap (places_after c.split_at.result.0.now) c.with.ensures);
      at = omega (arith, c.past-place.ensures.at, ap (λ (p : Place). p.at) c.with.ensures, c.split_at.ensures.front_len, c.split_at.ensures.back_len, c.loop-rest.invariant.at);
      bounded = c.past-place.ensures.bounded;
      tails = AreTails-end rest c.split_at.result.1.now _ c.loop-rest.invariant.tails (c.split_at.result.0.now, c.split_at.ensures.by_index.0);
    }

pub returns-clause-tokens : goal.returns-clause-tokens
returns-clause-tokens c = end-read _ c.loop-rest.found.items c.close.new.found.items c.loop-rest.rest.now c.loop-rest.place c.loop-rest.invariant.tokens (grind arith) (grind (arith, common_steps))

pub returns-clause-read : goal.returns-clause-read
returns-clause-read c = scan-reads c.args.text.now c.close.new.found.items (returns-clause-tokens c)
