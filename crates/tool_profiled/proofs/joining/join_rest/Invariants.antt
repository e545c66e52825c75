use Rattle.std.proofs.Common.{◌≡◌, ◌++◌, All, length, map, reverse}
use Rattle.tool_profiled.specs.Joining.{IsFresh, part_in}
use Rattle.tool_profiled.proofs.joining.join_rest.Given as goal

-- what is joined so far, and what waits still
abbrev pub invariant-loop-part : goal.invariant-loop-part
invariant-loop-part g l =
    record {
      parts : map part_in l.joined.items ++ reverse l.waiting.items ≡ map part_in l.initial.joined.items ++ reverse l.initial.waiting.items;
      fresh : All (IsFresh g.P.ToolPart.stands_for l.masks) l.initial.joined.items → All (IsFresh g.P.ToolPart.stands_for l.masks) l.joined.items;
    }

-- what waits
abbrev pub decreases-loop-part : goal.decreases-loop-part
decreases-loop-part g l = length l.waiting.items
