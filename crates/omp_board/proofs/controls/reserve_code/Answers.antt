use Rattle.omp_board.proofs.Reserving.{same_tasks}
use Rattle.omp_board.proofs.controls.reserve_code.Goals as goal

pub returns-in-Some-clause-seen : goal.returns-in-Some-clause-seen
returns-in-Some-clause-seen c =
    same_tasks c.args.code.now c.in-Some.control c.reserve.new.self c.reserve.result c.reserve.ensures.room c.reserve.ensures.memory c.args.list.now c.args.task c.index-list-task.result c.in-Some.is
