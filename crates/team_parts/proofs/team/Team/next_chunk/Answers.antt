use Rattle.std.proofs.Common.{◌≡◌, ◌<◌, ◌∙◌, length, refl, sym, ap, arith}
use Rattle.std.specs.Prelude.{is_some}
use Rattle.team_parts.specs.Chunks.{next_chunk_of}
use Rattle.team_parts.specs.Team.{TeamView, last_number, after_chunk, next_chunk}
use Rattle.team_parts.proofs.Asking.{view_of, after-asking, last-asked}
use Rattle.team_parts.proofs.team.Team.next_chunk.Goals as goal

pub returns-clause-taken : goal.returns-clause-taken
returns-clause-taken c =
    let inside = c.self.inside in
    let members = inside.members.items in
    let meetings = inside.meetings.items in
    let member = c.args.member in
    let gathering = c.in_ok-gathering.gathering.now in
    let team = view_of members meetings inside.room in
    let last = c.last_number-last.ensures ∙ ap (λ (t : TeamView). last_number t member) (sym c.self.view_is) in
    let within : c.last_number-last.result < length meetings = omega (arith, c.in_ok-gathering.ensures.variant.0 refl) in
    let read = last-asked members meetings inside.room member c.last_number-last.result gathering within last c.in_ok-gathering.ensures.value in
    let size : c.len-size.result ≡ length members = omega (arith, c.len-size.ensures) in
    let answer : c.take_chunk.result ≡ next_chunk team member = c.take_chunk.ensures.answer ∙ ap (λ met. next_chunk_of met c.len-size.result member) read ∙ rw size refl in
    after-asking members meetings inside.room member c.last_number-last.result gathering c.take_chunk.new.self (is_some c.take_chunk.result) within last c.in_ok-gathering.ensures.value c.take_chunk.ensures.taken
    ∙ rw answer refl
    ∙ ap (λ (t : TeamView). after_chunk t member) c.self.view_is
