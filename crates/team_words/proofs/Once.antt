-- Where nothing is left of a loop or of sections, the members took each iteration, or each section, once.
use Rattle.std.proofs.Common.{◌≡◌, ℕ, ℤ, ◌≤◌, nat_lt, None, if◌then◌else◌, Bool, Some, List, length, sym, ap, subst, refl, ◌∙◌, arith}
use Rattle.std.proofs.lemmas.Bool.{cases_lt, lt-ltb}
use Rattle.std.proofs.Common.{inl, inr}
use Rattle.team_parts.specs.declared.meeting.Schedule.{Schedule}
use Rattle.team_parts.specs.declared.meeting.Schedule.TheVariants.{Static, Dynamic, Guided}
use Rattle.team_parts.specs.declared.meeting.Meeting.{Meeting}
use Rattle.team_parts.specs.declared.meeting.Meeting.TheVariants.{Loop, Sections}
use Rattle.team_parts.specs.Meetings.{HasChunk, TeamMeeting}
use Rattle.team_parts.specs.Chunks.{next_chunk_of}
use Rattle.team_parts.specs.Dealing.{IsDealtOut, chunks_dealt, one_if, times_dealt}
use Rattle.team_parts.specs.Team.{TeamView}
use Rattle.team_parts.proofs.Counted.{dynamic-least, dynamic-most, guided-least, guided-most}
use Rattle.team_parts.proofs.InTurn.{in-turn-once}
use Rattle.team_parts.proofs.Owned.{static-once}
use Rattle.team_words.specs.Team.{Team, met_by}
use Rattle.team_words.specs.Shares.{taken_by_all, taken_in}
use Rattle.team_words.specs.Counted.{counted_taken}
use Rattle.team_words.specs.Dealt.{AreSectionsOver, IsLoopOver, IsMet}
use Rattle.team_words.proofs.Deals.{AreInTurn, HasOrder, IsDealt, chunk-same}
use Rattle.team_words.proofs.Keeping.{Keeps}
use Rattle.team_words.proofs.Meets.{member-within}
use Rattle.team_words.proofs.Taken.{all-taken, own-taken}

once : (at : ℕ) (start : ℤ) (count : ℕ) (step : ℤ) (schedule : Schedule) (size : ℕ) (order : List ℕ) → let what = Loop at start count step schedule in IsDealtOut what size order → (iteration : ℕ) → times_dealt (chunks_dealt what size order) iteration ≡ one_if (nat_lt iteration count)
once at start count step (Static length) size order out iteration = static-once at start count step length size order out iteration
once at start count step (Dynamic length) size order out iteration =
    in-turn-once at start count step (Dynamic length) size order (λ taken member. refl) (dynamic-most length size) (λ rest. dynamic-least length size rest out.chunk) out iteration
once at start count step (Guided length) size order out iteration =
    in-turn-once at start count step (Guided length) size order (λ taken member. refl) (guided-most length size) (λ rest. guided-least length size rest out.chunk) out iteration

-- what was dealt of what some member has met
dealt-of : (team : Team) (view : TeamView) (n : ℕ) (what : Meeting) → Keeps team.members view → IsMet team n what → IsDealt what (length team.members) (counted_taken team.members n) (taken_by_all team n)
dealt-of team view n what keeps met =
    let at = keeps.each met.member n met.within in
    subst (λ (w : Meeting). IsDealt w (length team.members) (counted_taken team.members n) (taken_by_all team n)) (at.same ∙ met.same) (keeps.taken n at.within).dealt

pub loop-once : (team : Team) (view : TeamView) (n at : ℕ) (start : ℤ) (count : ℕ) (step : ℤ) (schedule : Schedule) → let what = Loop at start count step schedule in Keeps team.members view → HasChunk what → IsLoopOver team n what → (iteration : ℕ) → times_dealt (taken_by_all team n) iteration ≡ one_if (nat_lt iteration count)
loop-once team view n at start count step schedule keeps chunk over iteration =
    let what = Loop at start count step schedule in
    let size = length team.members in
    let taken = counted_taken team.members n in
    let dealt = dealt-of team view n what keeps over.met in
    let has : HasOrder what size taken (taken_by_all team n) = dealt.1 in
    let some = member-within team.members n over.met.member over.met.within in
    let out : IsDealtOut what size has.order =
    record {
      some = omega (arith, some);
      few = keeps.few;
      chunk = chunk;
      of_team = has.of_team;
      over = λ member of_team.
          ap (λ (met : TeamMeeting). next_chunk_of met size member) has.met
          ∙ chunk-same what size member taken (taken_in n (met_by team member)) (taken_by_all team n) (own-taken team.members n member of_team) (all-taken team.members n) dealt
          ∙ over.over member of_team;
    } in
    sym (has.times iteration) ∙ once at start count step schedule size has.order out iteration

none-left : (count many : ℕ) → (if nat_lt many count then Some many else None) ≡ None → count ≤ many
none-left count many none = elim (cases_lt many count) [
  | inl less ↦
      let some : (if nat_lt many count then Some many else None) ≡ Some many = ap (λ (test : Bool). if test then Some many else None) (lt-ltb many count less) in
      absurd cc
  | inr more ↦ more
]

pub sections-once : (team : Team) (view : TeamView) (n at count : ℕ) → Keeps team.members view → AreSectionsOver team n (Sections at count) → (section : ℕ) → times_dealt (taken_by_all team n) section ≡ one_if (nat_lt section count)
sections-once team view n at count keeps over section =
    let turn : AreInTurn count (taken_by_all team n) = dealt-of team view n (Sections at count) keeps over.met in
    let all : length (taken_by_all team n) ≡ count = let left = none-left count (length (taken_by_all team n)) over.over in omega (arith, turn.within) in
    turn.times section ∙ ap (λ m. one_if (nat_lt section m)) all
