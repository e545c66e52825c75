use Rattle.std.proofs.Common.{◌≡◌, ◌-◌, length, take, Some, refl, ◌∙◌, arith}
use Rattle.c_syntax.specs.language.Tree.{over_two}
use Rattle.c_syntax.specs.workings.Derivation.{joined}
use Rattle.c_syntax.specs.workings.Nodes.{IsBelow}
use Rattle.c_syntax.specs.language.Numbered.{tree_at}
use Rattle.c_syntax.proofs.Opening.{Puts}
use Rattle.c_syntax.proofs.Joining.{All-ends, ends-two, joined-none, opened-over, still-open}
use Rattle.c_syntax.proofs.growth.Growth.join.Goals as goal

pub returns-in_default : goal.returns-in_default
returns-in_default c =
    let inside = c.self.inside in
    joined-none inside.nodes inside.children.items inside.texts.items inside.inner _ _ c.self.view_is _ c.deref.ensures.value c.args.kind c.in_default.ensures

pub add_over-requires : goal.add_over-requires
add_over-requires c =
    let at = ends-two _ _ _ _ _ c.deref.ensures.value c.self.invariant.0.0 c.in-Some.ensures in
    let below = All-ends (IsBelow (length c.self.inside.nodes)) _ _ _ at c.self.invariant.1 in
    record {
      first = below 0 (Some 0) (omega arith);
      children = below;
    }

puts : (c : goal.In_ok-push) → Puts c.self.inside.nodes (over_two c.args.kind (tree_at c.self.inside.nodes c.in-Some.left) (tree_at c.self.inside.nodes c.in-Some.right)) (take (length c.self.inside.children.items - 2) c.self.inside.children.items) c.add_over.new.nodes c.push.new.self.items c.in_ok-made.made
puts c =
    let count : c.len.result ≡ length c.self.inside.children.items = omega arith in
    record {
      added = c.in_ok-made.ensures.added;
      numbered = c.in_ok-made.ensures.number;
      pushed = c.in_ok-push.ensures.items ∙ rw (c.truncate.ensures.items, count) refl;
    }

pub invariant_of-self-2 : goal.invariant_of-self-2
invariant_of-self-2 c =
    let inside = c.self.inside in
    let at = ends-two _ _ _ _ _ c.deref.ensures.value c.self.invariant.0.0 c.in-Some.ensures in
    still-open inside.nodes inside.children.items _ inside.texts.items inside.inner _ at _ _ _ _ (puts c) c.self.invariant.0 c.self.invariant.1

pub returns : goal.returns
returns c =
    let inside = c.self.inside in
    let at = ends-two _ _ _ _ _ c.deref.ensures.value c.self.invariant.0.0 c.in-Some.ensures in
    opened-over inside.nodes inside.children.items _ inside.texts.items inside.inner _ at _ _ _ _ (puts c) (joined c.args.kind) _ refl c.self.invariant.1 c.self.view_is
