use Rattle.std.proofs.Common.{◌≡◌, ◌++◌, take}
use Rattle.ompt_levels.specs.LevelLine.{regions_text}
use Rattle.ompt_levels.proofs.level_line.add_regions.Given as goal

abbrev pub invariant-loop-level : goal.invariant-loop-level
invariant-loop-level l = l.line.items ≡ l.fn.line.items ++ regions_text (take l.level-index l.level-items)
