use Rattle.std.proofs.Common.{◌≡◌, ◌≤◌, [], length, map, sym, ap, ◌∙◌, arith}
use Rattle.std.proofs.lemmas.List.{length-map, nil_from_length}
use Rattle.team_parts.specs.Team.{TeamView}
use Rattle.team_parts.specs.Gatherings.{meeting_of}
use Rattle.team_parts.proofs.Sound.{sound-fit}
use Rattle.team_parts.proofs.team.Team.fit.Goals as goal

pub invariant_of-self : goal.invariant_of-self
invariant_of-self c =
    let inside = c.self.inside in
    let fresh : map meeting_of inside.meetings.items ≡ [] = ap (λ (team : TeamView). team.meetings) c.self.view_is ∙ c.requires.fresh in
    let nothing : inside.meetings.items ≡ [] = nil_from_length inside.meetings.items (sym (length-map inside.meetings.items meeting_of) ∙ ap length fresh) in
    let few : c.args.size ≤ length inside.members.items = omega (arith, c.requires.few, ap (λ (team : TeamView). length team.members) c.self.view_is) in
    let sound = rw nothing at c.self.invariant.1 in
    (c.self.invariant.0, rw (c.truncate.ensures.items, nothing) (sound-fit inside.members.items inside.fewest_begun inside.most_passed c.args.size c.requires.some few sound))
