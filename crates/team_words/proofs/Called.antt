-- Call by call the counters answer as the team does, and count it.
use Rattle.std.proofs.Common.{◌≡◌, ℕ, ◌<◌, ◌&&◌, nat_lt, Bool, true, Option, Result, List, [], ◌∷◌, length, refl, sym, ap, ap₂, subst}
use Rattle.std.proofs.lemmas.Bool.{and_parts, ltb-true}
use Rattle.team_parts.specs.declared.meeting.Mismatch.{Mismatch}
use Rattle.team_parts.specs.Team.{TeamView}
use Rattle.team_words.specs.Team.{Team, answer_to_meet, fresh_team, is_at_barrier, may_go_on, met_by}
use Rattle.team_words.specs.Shares.{next_chunk, next_section}
use Rattle.team_words.specs.Calls.{AreMade, TeamAnswer, TeamCall, after_call, after_calls, answer_of, answers_of, counters_after, counters_after_answer, counters_after_calls, counters_answer, counters_answers, fresh_counters, is_member, may_make, may_make_all}
use Rattle.team_words.specs.Calls.TeamCall.{Meet, WouldMeet, TakeChunk, TakeSection, Arrive, MayPass, Pass}
use Rattle.team_words.specs.Calls.TeamAnswer.{Meets, Chunk, Section, Ends}
use Rattle.team_words.proofs.Keeping.{Keeps, keeps-fresh}
use Rattle.team_words.proofs.Meets.{meet-answer, meet-step}
use Rattle.team_words.proofs.Takes.{chunk-answer, chunk-step, section-answer, section-step}
use Rattle.team_words.proofs.Waits.{arrive-step, pass-step, wait-answer}

-- the two parts of what lets a member make a call
member-of : (team : Team) (i : ℕ) (test : Bool) → (is_member team i && test) ≡ true → (i < length team.members) × (test ≡ true)
member-of team i test may = let both = and_parts (is_member team i) test may in (ltb-true i (length team.members) both.0, both.1)

taker-of : (team : Team) (i : ℕ) → (is_member team i && nat_lt 0 (length (met_by team i))) ≡ true → (i < length team.members) × (0 < length (met_by team i))
taker-of team i may = let both = member-of team i (nat_lt 0 (length (met_by team i))) may in (both.0, ltb-true 0 (length (met_by team i)) both.1)

pub one-answer : (team : Team) (view : TeamView) (call : TeamCall) → Keeps team.members view → may_make team call ≡ true → counters_answer view call ≡ answer_of team call
one-answer team view (Meet i what) keeps may = ap (λ (answer : Result Bool Mismatch). Meets answer) (meet-answer team view i what keeps)
one-answer team view (WouldMeet i what) keeps may = ap (λ (answer : Result Bool Mismatch). Meets answer) (meet-answer team view i what keeps)
one-answer team view (TakeChunk i) keeps may =
    let both = taker-of team i may in ap (λ (answer : Option (ℕ × ℕ)). Chunk answer) (chunk-answer team view i keeps both.0 both.1)
one-answer team view (TakeSection i) keeps may =
    let both = taker-of team i may in ap (λ (answer : Option ℕ). Section answer) (section-answer team view i keeps both.1)
one-answer team view (Arrive i) keeps may = refl
one-answer team view (MayPass i unfinished) keeps may =
    ap (λ (answer : Bool). Ends answer) (wait-answer team view i unfinished keeps (member-of team i (is_at_barrier (met_by team i)) may).1)
one-answer team view (Pass i) keeps may = refl

pub one-step : (team : Team) (view : TeamView) (call : TeamCall) → Keeps team.members view → may_make team call ≡ true → Keeps (after_call team call).members (counters_after view call)
one-step team view (Meet i what) keeps may =
    let both = member-of team i (may_go_on (met_by team i)) may in
    let same = meet-answer team view i what keeps in
    subst (λ (answer : Result Bool Mismatch). Keeps (after_call team (Meet i what)).members (counters_after_answer view i what answer)) (sym same)
    (meet-step team view i what (answer_to_meet team i what) keeps both.0 both.1 same)
one-step team view (WouldMeet i what) keeps may = keeps
one-step team view (TakeChunk i) keeps may =
    let both = taker-of team i may in chunk-step team view i (next_chunk team i) keeps both.0 both.1 (chunk-answer team view i keeps both.0 both.1) refl
one-step team view (TakeSection i) keeps may =
    let both = taker-of team i may in section-step team view i (next_section team i) keeps both.0 both.1 (section-answer team view i keeps both.1) refl
one-step team view (Arrive i) keeps may = arrive-step team view i keeps (member-of team i (is_at_barrier (met_by team i)) may).1
one-step team view (MayPass i unfinished) keeps may = keeps
one-step team view (Pass i) keeps may = pass-step team view i keeps (member-of team i (is_at_barrier (met_by team i)) may).1

-- .. and so for all calls
pub keeps-all : (team : Team) (view : TeamView) (calls : List TeamCall) → Keeps team.members view → may_make_all team calls ≡ true → Keeps (after_calls team calls).members (counters_after_calls view calls)
keeps-all team view [] keeps may = keeps
keeps-all team view (call ∷ calls) keeps may =
    let both = and_parts (may_make team call) (may_make_all (after_call team call) calls) may in
    keeps-all (after_call team call) (counters_after view call) calls (one-step team view call keeps both.0) both.1

pub all-answers : (team : Team) (view : TeamView) (calls : List TeamCall) → Keeps team.members view → may_make_all team calls ≡ true → counters_answers view calls ≡ answers_of team calls
all-answers team view [] keeps may = refl
all-answers team view (call ∷ calls) keeps may =
    let both = and_parts (may_make team call) (may_make_all (after_call team call) calls) may in
    ap₂ (λ (answer : TeamAnswer) (answers : List TeamAnswer). answer ∷ answers) (one-answer team view call keeps both.0)
    (all-answers (after_call team call) (counters_after view call) calls (one-step team view call keeps both.0) both.1)

pub keeps-made : (size room : ℕ) (calls : List TeamCall) → AreMade size calls → Keeps (after_calls (fresh_team size) calls).members (counters_after_calls (fresh_counters size room) calls)
keeps-made size room calls made = keeps-all (fresh_team size) (fresh_counters size room) calls (keeps-fresh size room made.few) made.in_order

pub answers-made : (size room : ℕ) (calls : List TeamCall) → AreMade size calls → counters_answers (fresh_counters size room) calls ≡ answers_of (fresh_team size) calls
answers-made size room calls made = all-answers (fresh_team size) (fresh_counters size room) calls (keeps-fresh size room made.few) made.in_order
