use Rattle.std.proofs.Common.{◌<◌, length, ap, arith}
use Rattle.std.proofs.lemmas.List.{get_or_read}
use Rattle.team_parts.specs.Team.{TeamView, new_member}
use Rattle.team_parts.proofs.Sound.{sound-passed}
use Rattle.team_parts.proofs.team.Team.pass.Goals as goal

pub invariant_of-self : goal.invariant_of-self
invariant_of-self c =
    let inside = c.self.inside in
    let of_team : c.args.member < length inside.members.items = omega (arith, c.requires, ap (λ (team : TeamView). length team.members) c.self.view_is) in
    let read = get_or_read inside.members.items c.args.member c.index.result.now of_team c.index.ensures new_member in
    let written = get_or_read inside.members.items c.args.member c.index_mut.result.now of_team c.index_mut.ensures.value new_member in
    (c.self.invariant.0, rw (c.max-self-inside.ensures, read, written) (sound-passed inside.members.items inside.meetings.items inside.fewest_begun inside.most_passed c.args.member of_team c.self.invariant.1))
