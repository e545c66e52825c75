use Rattle.std.proofs.Common.{refl, ap, ◌∙◌}
use Rattle.c_steps.specs.ControlView.{task_at}
use Rattle.omp_model.specs.EventEffects.{member_code}
use Rattle.omp_board.specs.Tasks.{code_of}
use Rattle.omp_board.proofs.Members.{can_begin, forked_stands, member_blank, member_coded, none_stands}
use Rattle.omp_board.proofs.controls.begin_member.Goals as goal

pub member-requires-clause-forked : goal.member-requires-clause-forked
member-requires-clause-forked c =
    let parent = task_at c.args.code.now c.in_ok-parent.parent.now in
    can_begin parent.todo (forked_stands _ refl parent c.in-RegionEnd.ensures)

pub returns-in-RegionEnd-clause-code : goal.returns-in-RegionEnd-clause-code
returns-in-RegionEnd-clause-code c =
    let parent = task_at c.args.code.now c.in_ok-parent.parent.now in
    c.member.ensures.task
    ∙ member_coded parent (forked_stands _ refl parent c.in-RegionEnd.ensures)
    ∙ ap (λ control. member_code (code_of c.args.code.now control)) c.in_ok-parent.ensures

pub returns-in_default : goal.returns-in_default
returns-in_default c =
    let parent = task_at c.args.code.now c.in_ok-parent.parent.now in
    record {
      code =
          member_blank parent (none_stands _ refl parent (λ is. c.in_default.not-RegionEnd (c.upcoming.ensures ∙ is)))
          ∙ ap (λ control. member_code (code_of c.args.code.now control)) c.in_ok-parent.ensures;
      made = tt;
      blanks = c.requires.blanks;
    }
