use Rattle.std.proofs.Common.{ℤ, w32, true, sym, subst}
use Rattle.std.proofs.lemmas.Int.{to_z-of_z}
use Rattle.c_syntax.specs.language.Numbered.{TreeView}
use Rattle.c_model.specs.declared.point.Point.TheVariants as event
use Rattle.c_steps.specs.Items.{todo_at}
use Rattle.c_steps.specs.Passing.{IsEventOfNext}
use Rattle.c_steps.proofs.Members.{has_forked}
use Rattle.test_texts.proofs.driver.Driver.fork.Goals as goal

pub member-requires-clause-forked : goal.member-requires-clause-forked
member-requires-clause-forked c =
    let is = subst (λ (program : TreeView). IsEventOfNext program (event.ParallelBegin c.args.codeptr c.args.requested) c.args.node (todo_at program c.args.control.frames)) (sym c.self.view_is) c.requires.event in
    has_forked c.self.inside.code c.args.control c.passed.new.self c.args.codeptr _ c.args.node true
    (subst (λ (requested : ℤ). IsEventOfNext c.self.inside.code (event.ParallelBegin c.args.codeptr requested) c.args.node (todo_at c.self.inside.code c.args.control.frames)) (sym (to_z-of_z w32 c.args.requested c.ranges.requested)) is)
    c.passed.ensures.went
