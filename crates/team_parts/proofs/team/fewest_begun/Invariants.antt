use Rattle.std.proofs.Common.{◌≡◌, ℕ, ◌&&◌, nat_le, take, slice_index_or}
use Rattle.std.specs.List.{list_all}
use Rattle.team_parts.specs.Team.{has_begun, new_member}
use Rattle.team_parts.proofs.team.fewest_begun.Given as goal

abbrev pub invariant-loop-member : goal.invariant-loop-member
invariant-loop-member l =
    (barrier : ℕ) → (list_all (has_begun barrier) (take l.member-index l.members) && has_begun barrier (slice_index_or l.members 0 new_member)) ≡ nat_le barrier l.fewest
