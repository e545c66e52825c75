use Rattle.std.proofs.Common.{◌≡◌, ◌+◌, ◌<◌, true, false, ◌++◌, ◌∷◌, [], length, get_or, map, refl, sym, ap, ◌∙◌, arith}
use Rattle.std.specs.Prelude.{Ok}
use Rattle.std.specs.Vec.{vec_len}
use Rattle.std.proofs.lemmas.List.{get_or_read, length-map, map_push}
use Rattle.team_parts.specs.Gatherings.{fresh_gathering, meeting_of}
use Rattle.team_parts.specs.Team.{TeamView, new_member, after_meeting, answer_to_meet}
use Rattle.team_parts.proofs.Asking.{view_of}
use Rattle.team_parts.proofs.Places.{after-meeting, within-unless-first}
use Rattle.team_parts.proofs.Sound.{sound-first, sound-meeting}
use Rattle.team_parts.proofs.team.Team.meet.Goals as goal
use Rattle.team_parts.proofs.team.Team.meet.Goals.{then-is_first, else-is_first}

pub invariant_of-self : goal.invariant_of-self
invariant_of-self c =
    let inside = c.self.inside in
    let member = c.args.member in
    let what = c.args.what in
    let team = view_of inside.members.items inside.meetings.items inside.room in
    let of_team : member < length inside.members.items = omega (arith, c.requires.member, ap (λ (team : TeamView). length team.members) c.self.view_is) in
    let room = ap (λ (team : TeamView). team.room) c.self.view_is in
    let answer : answer_to_meet team member what ≡ Ok c.in_ok-is_first.is_first = ap (λ (t : TeamView). answer_to_meet t member what) c.self.view_is ∙ sym c.meeting_answer.ensures ∙ c.in_ok-is_first.was in
    elim c.if-is_first.branch [
      | then-is_first w ↦
          let pushed : w.push.new.self.items ≡ inside.meetings.items ++ fresh_gathering what ∷ [] = w.push.ensures.items ∙ rw (w.unwrap.ensures, w.fresh_gathering.ensures) refl in
          let longer : vec_len w.push.new.self ≡ vec_len inside.meetings + 1 = w.push.ensures.len ∙ rw w.unwrap.ensures refl in
          let member_is = rw w.self-inside-is at c.index.ensures in
          let read = get_or_read inside.members.items member c.index.result.now of_team member_is new_member in
          rw (c.with_meeting.ensures, read, w.self-inside-is) (
            omega (arith, longer, room, c.requires.room, c.self.invariant.0, w.push.ensures.capacity),
            rw pushed (sound-first inside.members.items inside.meetings.items inside.fewest_begun inside.most_passed member what c.requires.chunk of_team c.self.invariant.1),
          )
      | else-is_first w ↦
          let within = within-unless-first (map meeting_of inside.meetings.items) (get_or inside.members.items member new_member).met what (rw w.if-is_first.false at answer) in
          let many = length-map inside.meetings.items meeting_of in
          let member_is = rw w.self-inside-is at c.index.ensures in
          let read = get_or_read inside.members.items member c.index.result.now of_team member_is new_member in
          rw (c.with_meeting.ensures, read, w.self-inside-is) (
            c.self.invariant.0,
            sound-meeting inside.members.items inside.meetings.items inside.fewest_begun inside.most_passed member what of_team (omega arith) c.self.invariant.1,
          )
    ]

pub returns-clause-met : goal.returns-clause-met
returns-clause-met c =
    let inside = c.self.inside in
    let member = c.args.member in
    let what = c.args.what in
    let team = view_of inside.members.items inside.meetings.items inside.room in
    let of_team : member < length inside.members.items = omega (arith, c.requires.member, ap (λ (team : TeamView). length team.members) c.self.view_is) in
    let answer : answer_to_meet team member what ≡ Ok c.in_ok-is_first.is_first = ap (λ (t : TeamView). answer_to_meet t member what) c.self.view_is ∙ sym c.meeting_answer.ensures ∙ c.in_ok-is_first.was in
    elim c.if-is_first.branch [
      | then-is_first w ↦
          let pushed : w.push.new.self.items ≡ inside.meetings.items ++ fresh_gathering what ∷ [] = w.push.ensures.items ∙ rw (w.unwrap.ensures, w.fresh_gathering.ensures) refl in
          let member_is = rw w.self-inside-is at c.index.ensures in
          let read = get_or_read inside.members.items member c.index.result.now of_team member_is new_member in
          rw (c.with_meeting.ensures, read, w.self-inside-is, pushed, map_push)
          (after-meeting team member what true (rw w.if-is_first.true at answer) ∙ ap (λ (t : TeamView). after_meeting t member what) c.self.view_is)
      | else-is_first w ↦
          let member_is = rw w.self-inside-is at c.index.ensures in
          let read = get_or_read inside.members.items member c.index.result.now of_team member_is new_member in
          rw (c.with_meeting.ensures, read, w.self-inside-is)
          (after-meeting team member what false (rw w.if-is_first.false at answer) ∙ ap (λ (t : TeamView). after_meeting t member what) c.self.view_is)
    ]
