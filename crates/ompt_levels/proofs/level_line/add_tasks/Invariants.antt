use Rattle.std.proofs.Common.{◌≡◌, ◌++◌, take}
use Rattle.ompt_levels.specs.LevelLine.{tasks_text}
use Rattle.ompt_levels.proofs.level_line.add_tasks.Given as goal

abbrev pub invariant-loop-level : goal.invariant-loop-level
invariant-loop-level l = l.line.items ≡ l.fn.line.items ++ tasks_text (take l.level-index l.level-items)
