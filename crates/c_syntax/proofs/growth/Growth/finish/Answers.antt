use Rattle.std.proofs.Common.{◌<◌, ◌∷◌, [], length, None, ap, ◌∙◌, arith, length-append}
use Rattle.std.proofs.Math.Seq.{get_or-append_seam}
use Rattle.c_syntax.specs.language.Tree.{nothing}
use Rattle.c_syntax.specs.workings.Nodes.{IsBelow}
use Rattle.c_syntax.specs.language.Numbered.{root_tree}
use Rattle.c_syntax.proofs.Joining.{All-ends, ends-one, result-none, result-some}
use Rattle.c_syntax.proofs.growth.Growth.finish.Goals as goal
use Rattle.c_syntax.proofs.growth.Growth.finish.Goals.{in-Some, in-None+in_ok-root-in-None}

pub new-requires : goal.new-requires
new-requires c =
    elim c.match-last_made.branch [
      | in-Some w ↦
          let at = ends-one _ _ _ _ c.deref.ensures.value c.self.invariant.0.0 w.in-Some.ensures in
          let below : w.in-Some.root < length c.self.inside.nodes = All-ends (IsBelow (length c.self.inside.nodes)) _ _ _ at c.self.invariant.1 0 None (omega arith) in
          rw (w.root-is, w.self-inside-is) below
      | in-None+in_ok-root-in-None w ↦
          let longer = ap length w.in_ok-root-in-None.ensures.added ∙ length-append c.self.inside.nodes (nothing ∷ []) in
          let below : w.in_ok-root-in-None.root < length w.add.new.self = omega (arith, w.in_ok-root-in-None.ensures.number, longer) in
          rw (w.root-is, w.self-inside-is) below
    ]

pub returns-clause-root : goal.returns-clause-root
returns-clause-root c =
    let inside = c.self.inside in
    ap root_tree c.new.ensures ∙
    elim c.match-last_made.branch [
      | in-Some w ↦
          rw (w.root-is, w.self-inside-is) (result-some inside.nodes inside.children.items inside.texts.items inside.inner _ _ c.self.view_is _ c.deref.ensures.value _ w.in-Some.ensures)
      | in-None+in_ok-root-in-None w ↦
          let added = w.in_ok-root-in-None.ensures in
          rw (w.root-is, w.self-inside-is, added.added, added.number) (get_or-append_seam inside.nodes nothing [] nothing ∙ result-none inside.nodes inside.children.items inside.texts.items inside.inner _ _ c.self.view_is _ c.deref.ensures.value w.in-None.ensures)
    ]
