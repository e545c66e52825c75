use Rattle.omp_board.proofs.Beside.{initial_fits, member_counted, member_fits, parent_there, region_there, task_fits}
use Rattle.omp_board.proofs.board.Board.occur.Goals as goal

pub take_up-requires : goal.take_up-requires
take_up-requires c = initial_fits _ _ (rw c.in-InitialTaskBegin.is at c.requires.fits)

pub join-requires-clause-place : goal.join-requires-clause-place
join-requires-clause-place c = region_there _ _ _ _ c.requires.made (rw c.in-MemberBegin.is at c.requires.meets)

pub join-requires-clause-parent : goal.join-requires-clause-parent
join-requires-clause-parent c = parent_there _ _ _ _ c.requires.made (rw c.in-MemberBegin.is at c.requires.meets)

pub join-requires-clause-few : goal.join-requires-clause-few
join-requires-clause-few c = member_counted _ _ _ _ (rw c.in-MemberBegin.is at c.requires.fits)

pub join-requires-clause-stack : goal.join-requires-clause-stack
join-requires-clause-stack c = member_fits _ _ _ _ (rw c.in-MemberBegin.is at c.requires.fits)

pub take_up-requires-in-TaskBegin : goal.take_up-requires-in-TaskBegin
take_up-requires-in-TaskBegin c = task_fits _ _ _ _ (rw c.in-TaskBegin.is at c.requires.fits)
