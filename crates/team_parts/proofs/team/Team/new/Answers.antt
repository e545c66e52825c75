use Rattle.std.proofs.Common.{◌≡◌, replicate, arith, rules}
use Rattle.team_parts.specs.Team.{new_member}
use Rattle.team_parts.proofs.Sound.{sound-new}
use Rattle.team_parts.proofs.team.Team.new.Goals as goal

pub invariant_of-result : goal.invariant_of-result
invariant_of-result c =
    let members : c.resize.new.self.items ≡ replicate c.args.size new_member = search rules in
    let none = c.new.ensures.items in
    (omega arith, rw (members, none) (sound-new c.args.size c.requires.some c.requires.few))
