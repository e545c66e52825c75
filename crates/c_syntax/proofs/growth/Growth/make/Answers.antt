use Rattle.std.proofs.Common.{length, take, ◌∙◌, refl}
use Rattle.std.proofs.lemmas.List.{take_rest}
use Rattle.std.proofs.lemmas.List.Elements.{All-take}
use Rattle.c_syntax.specs.workings.Nodes.{IsBelow}
use Rattle.c_syntax.proofs.Opening.{AllBelow-puts, AreOpen-made, AreOpen-without, Puts, opened-made, tree_made}
use Rattle.c_syntax.proofs.growth.Growth.make.Goals as goal

pub invariant_of-self-in_err-made : goal.invariant_of-self-in_err-made
invariant_of-self-in_err-made c =
    let inside = c.self.inside in
    (AreOpen-without inside.nodes inside.children.items inside.texts.items inside.inner _ _ _ c.in-Some.ensures.items c.self.invariant.0, rw c.in_err-made.ensures.err c.self.invariant.1)

puts : (c : goal.In_ok-push) → Puts c.self.inside.nodes (tree_made c.self.inside.nodes c.self.inside.children.items c.self.inside.texts.items c.self.inside.inner c.in-Some.parent c.self.inside.outer.items c.pop.new.self.items c.in-Some.ensures.items c.self.invariant.0 c.args.kind) (take c.self.inside.inner.children c.self.inside.children.items) c.add.new.self c.push.new.self.items c.in_ok-made.made
puts c =
    let inside = c.self.inside in
    record {
      added = c.in_ok-made.ensures.added ∙ rw (c.deref.ensures.value, c.deref-2.ensures.value, take_rest inside.texts.items inside.inner.text, take_rest inside.children.items inside.inner.children, c.name_in.ensures) refl;
      numbered = c.in_ok-made.ensures.number;
      pushed = c.in_ok-push.ensures.items ∙ rw c.truncate-2.ensures.items refl;
    }

pub invariant_of-self-2 : goal.invariant_of-self-2
invariant_of-self-2 c =
    let inside = c.self.inside in (
      AreOpen-made inside.nodes inside.children.items inside.texts.items inside.inner _ _ _ c.in-Some.ensures.items c.self.invariant.0 _ _ _ _ _ (puts c) c.truncate.ensures.items,
      AllBelow-puts _ _ _ _ _ _ (puts c) (All-take (IsBelow (length inside.nodes)) inside.inner.children inside.children.items c.self.invariant.1),
    )

pub returns : goal.returns
returns c =
    let inside = c.self.inside in
    opened-made inside.nodes inside.children.items inside.texts.items inside.inner _ _ _ c.in-Some.ensures.items c.self.invariant.0 _ _ _ _ _ (puts c) c.truncate.ensures.items _ c.self.invariant.1 c.self.view_is
