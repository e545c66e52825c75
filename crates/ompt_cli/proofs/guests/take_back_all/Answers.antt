use Rattle.std.proofs.Common.{◌≡◌, ◌∷◌, ◌++◌, [], length, length-append, reverse, sym, ap, ◌∙◌, append_assoc, arith}
use Rattle.ompt_cli.{specs.Guests.guests_of, proofs.Handing.guests-more}
use Rattle.ompt_cli.proofs.guests.take_back_all.Goals as goal

pub loop-part-preserved : goal.loop-part-preserved
loop-part-preserved g c =
    let part = c.in-Some.part in
    let popped : c.loop-part.parts.items ≡ c.pop.new.self.items ++ part ∷ [] = rw c.in-Some.is at c.pop.ensures.items in record {
      waits =
          rw c.wait_again.ensures.waits (sym (append_assoc (guests_of (λ guest. guest.0) c.pop.new.self.items) (guests_of (λ guest. guest.0) (part ∷ [])) (reverse c.loop-part.waiting.items))
          ∙ ap (λ guests. guests ++ reverse c.loop-part.waiting.items) (sym (guests-more (λ guest. guest.0) c.pop.new.self.items part) ∙ ap (guests_of (λ guest. guest.0)) (sym popped)) ∙ c.loop-part.invariant.waits);
      room = omega (arith, c.loop-part.invariant.room, ap length popped, length-append c.pop.new.self.items (part ∷ []), c.wait_again.ensures.len, c.wait_again.ensures.capacity);
    }
