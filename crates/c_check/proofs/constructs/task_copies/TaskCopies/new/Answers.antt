use Rattle.std.proofs.Common.{refl}
use Rattle.c_check.specs.Once.{is_among, with_each}
use Rattle.c_check.specs.Seen.{slots_copied}
use Rattle.c_check.proofs.constructs.task_copies.TaskCopies.new.Goals as goal

pub returns : goal.returns
unfolding is_among with_each slots_copied
returns c = record { slots = λ task. rw c.new.ensures.empty refl; known = λ task slot. rw c.new-2.ensures.empty refl }
