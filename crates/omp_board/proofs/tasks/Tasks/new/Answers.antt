use Rattle.std.proofs.Common.{sym, subst, refl, arith}
use Rattle.std.specs.List.{All}
use Rattle.std.proofs.lemmas.List.Elements.{All-nil}
use Rattle.c_steps.specs.OfProgram.{IsMadeFor}
use Rattle.omp_board.proofs.Kept.{kept_first}
use Rattle.omp_board.proofs.tasks.Tasks.new.Goals as goal

pub invariant_of-result : goal.invariant_of-result
invariant_of-result c =
    let program = c.in_ok-code.code in
    let first = c.in_ok-cells.field-0 in
    let are = c.in_ok-cells.ensures.list in (
      kept_first program _ _ first.list.items _ first.blanks.spare.items refl are.made are.tasks_are (omega (arith, first.list.ok))
          (subst (All (IsMadeFor program)) (sym c.in_ok-cells.ensures.spare) (All-nil (IsMadeFor program))),
      c.in_ok-cells.ensures.none,
    )
