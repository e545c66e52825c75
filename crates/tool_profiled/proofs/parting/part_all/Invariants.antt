use Rattle.std.proofs.Common.{◌≡◌, ◌+◌, ◌≤◌, ◌++◌, length, map, reverse, vec_capacity, vec_len}
use Rattle.tool_profiled.specs.Joining.{part_in, profile_in}
use Rattle.tool_profiled.proofs.parting.part_all.Given as goal

-- what is apart so far, and what waits still
abbrev pub invariant-loop-both : goal.invariant-loop-both
invariant-loop-both g l =
    record {
      parts : l.room.parts.items ++ map part_in (reverse l.waiting.items) ≡ map part_in l.fn.joined.items;
      profiles : l.room.profiles.items ++ map profile_in (reverse l.waiting.items) ≡ map profile_in l.fn.joined.items;
      part_room : vec_len l.room.parts + length l.waiting.items ≤ vec_capacity l.room.parts;
      profile_room : vec_len l.room.profiles + length l.waiting.items ≤ vec_capacity l.room.profiles;
    }

-- what waits
abbrev pub decreases-loop-both : goal.decreases-loop-both
decreases-loop-both g l = length l.waiting.items
