use Rattle.std.proofs.Common.{◌≡◌, ◌+◌, ◌≤◌, ◌++◌, List, length, take, vec_len, vec_capacity}
use Rattle.std.specs.Prelude.{reverse}
use Rattle.ompt_calls.specs.declared.snapshot.TaskLevel.{TaskLevel}
use Rattle.omp_model.specs.Snapshots.{levels_from, regions_after}
use Rattle.omp_board.proofs.levels.Filling.push_stack.Given as goal

-- the levels so far, and those that are left
abbrev pub invariant-loop-below : goal.invariant-loop-below
invariant-loop-below l =
    record {
      below : l.below ≤ length l.stack;
      items : l.self.tasks.items ++ levels_from l.board.world l.thread l.event l.owner (reverse (take l.below l.stack)) ≡ l.initial.self.tasks.items ++ levels_from l.board.world l.thread l.event l.owner (reverse l.stack);
      regions : (rest : List TaskLevel) → l.self.regions.items ++ regions_after l.board.world l.self.last (levels_from l.board.world l.thread l.event l.owner (reverse (take l.below l.stack)) ++ rest) ≡ l.initial.self.regions.items ++ regions_after l.board.world l.initial.self.last (levels_from l.board.world l.thread l.event l.owner (reverse l.stack) ++ rest);
      len : vec_len l.self.tasks + l.below ≡ vec_len l.initial.self.tasks + length l.stack;
      few : vec_len l.self.regions + l.below ≤ vec_len l.initial.self.regions + length l.stack;
      capacity : vec_capacity l.initial.self.tasks ≤ vec_capacity l.self.tasks;
      enough : vec_capacity l.initial.self.regions ≤ vec_capacity l.self.regions;
    }

abbrev pub decreases-loop-below : goal.decreases-loop-below
decreases-loop-below l = l.below
