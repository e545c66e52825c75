-- Calls with one more, and what that leaves of what a member has met last.
use Rattle.std.proofs.Common.{Bool, List, [], ap, arith, false, if◌then◌else◌, length, refl, slice_get, slice_set, true, ℕ, ◌++◌, ◌+◌, ◌-◌, ◌<◌, ◌∙◌, ◌∷◌, ◌≡◌, ◌≢◌}
use Rattle.std.specs.Prelude.{Option, Some, None, Result, Ok, Err, is_some}
use Rattle.std.proofs.lemmas.Bool.{and_from, and_parts}
use Rattle.std.proofs.lemmas.List.{get_or-set_other, get_or-set_same, get_or_push, length-append, length-set}
use Rattle.team_parts.specs.declared.meeting.Meeting.{Meeting}
use Rattle.team_parts.specs.declared.meeting.Mismatch.{Mismatch}
use Rattle.team_parts.specs.declared.member.Member.{Member}
use Rattle.team_parts.specs.Meetings.{TeamMeeting, is_barrier}
use Rattle.team_parts.specs.Team as counters
use Rattle.team_words.specs.Calls.{TeamCall, after_answer, after_call, after_calls, all_end_in_time, counters_after, counters_after_answer, counters_after_calls, ends_in_time, may_make, may_make_all}
use Rattle.team_words.specs.Calls.TeamCall.{Arrive, MayPass, Meet, Pass, TakeChunk, TakeSection, WouldMeet}
use Rattle.team_words.specs.Shares.{after_chunk, after_section, next_chunk, next_section, with_taken}
use Rattle.team_words.specs.Team.{Met, Team, answer_to_meet, is_at_barrier, last_met, last_number, met_at, met_by, not_met, with_arrived, with_mets, with_passed}
use Rattle.team_words.proofs.ChangedLists.{read-alike}
use Rattle.team_words.proofs.Keeping.{new_met}
use Rattle.team_calls.specs.Agreed.{agrees, all_agree}

-- ---- one call more

pub after-more : (team : Team) (calls : List TeamCall) (call : TeamCall) → after_calls team (calls ++ call ∷ []) ≡ after_call (after_calls team calls) call
after-more team [] call = refl
after-more team (first ∷ calls) call = after-more (after_call team first) calls call

pub counters-more : (view : counters.TeamView) (calls : List TeamCall) (call : TeamCall) →
    counters_after_calls view (calls ++ call ∷ []) ≡ counters_after (counters_after_calls view calls) call
counters-more view [] call = refl
counters-more view (first ∷ calls) call = counters-more (counters_after view first) calls call

pub made-more : (team : Team) (calls : List TeamCall) (call : TeamCall) → may_make_all team calls ≡ true → may_make (after_calls team calls) call ≡ true →
    may_make_all team (calls ++ call ∷ []) ≡ true
made-more team [] call made may = and_from (may_make team call) true may refl
made-more team (first ∷ calls) call made may =
    let both = and_parts (may_make team first) (may_make_all (after_call team first) calls) made in
    and_from (may_make team first) (may_make_all (after_call team first) (calls ++ call ∷ [])) both.0
    (made-more (after_call team first) calls call both.1 may)

pub time-more : (team : Team) (calls : List TeamCall) (call : TeamCall) → all_end_in_time team calls ≡ true →
    ends_in_time (after_calls team calls) call ≡ true → all_end_in_time team (calls ++ call ∷ []) ≡ true
time-more team [] call time ends = and_from (ends_in_time team call) true ends refl
time-more team (first ∷ calls) call time ends =
    let both = and_parts (ends_in_time team first) (all_end_in_time (after_call team first) calls) time in
    and_from (ends_in_time team first) (all_end_in_time (after_call team first) (calls ++ call ∷ [])) both.0
    (time-more (after_call team first) calls call both.1 ends)

pub agree-more : (team : Team) (calls : List TeamCall) (call : TeamCall) → all_agree team calls ≡ true → agrees (after_calls team calls) call ≡ true →
    all_agree team (calls ++ call ∷ []) ≡ true
agree-more team [] call agreed agree = and_from (agrees team call) true agree refl
agree-more team (first ∷ calls) call agreed agree =
    let both = and_parts (agrees team first) (all_agree (after_call team first) calls) agreed in
    and_from (agrees team first) (all_agree (after_call team first) (calls ++ call ∷ [])) both.0
    (agree-more (after_call team first) calls call both.1 agree)

-- ---- the counters have as many members

placed-members : (team : counters.TeamView) (found : Option TeamMeeting) (what : Meeting) → (counters.with_place team found what).members ≡ team.members
placed-members team None what = refl
placed-members team (Some met) what = refl

met-size : (team : counters.TeamView) (i : ℕ) (what : Meeting) → length (counters.after_meeting team i what).members ≡ length team.members
met-size team i what =
    let found = slice_get team.meetings (counters.member_at team i).met in
    length-set (counters.with_place team found what).members i (counters.with_meeting (counters.member_at team i) what)
    ∙ ap (λ (members : List Member). length members) (placed-members team found what)

answered-size : (team : counters.TeamView) (i : ℕ) (what : Meeting) (answer : Result Bool Mismatch) →
    length (counters_after_answer team i what answer).members ≡ length team.members
answered-size team i what (Ok first) = met-size team i what
answered-size team i what (Err mismatch) = refl

either-size : (b : Bool) (team : counters.TeamView) (i : ℕ) → length (if b then counters.after_taking team i else team).members ≡ length team.members
either-size true team i = refl
either-size false team i = refl

pub call-size : (team : counters.TeamView) (call : TeamCall) → length (counters_after team call).members ≡ length team.members
call-size team (Meet i what) = answered-size team i what (counters.answer_to_meet team i what)
call-size team (WouldMeet i what) = refl
call-size team (TakeChunk i) = either-size (is_some (counters.next_chunk team i)) team i
call-size team (TakeSection i) = either-size (is_some (counters.next_section team i)) team i
call-size team (Arrive i) = length-set team.members i (record (counters.member_at team i) { begun = (counters.member_at team i).barriers })
call-size team (MayPass i unfinished) = refl
call-size team (Pass i) = length-set team.members i (record (counters.member_at team i) { passed = (counters.member_at team i).barriers })

-- ---- what a member has met last

-- it is the same, but for what was taken
pub record SameLast (mets after : List Met) : Type 0 where
  pub at : is_at_barrier after ≡ is_at_barrier mets
  pub arrived : (last_met after).arrived ≡ (last_met mets).arrived
  pub passed : (last_met after).passed ≡ (last_met mets).passed

same-last : (mets : List Met) → SameLast mets mets
same-last mets = record { at = refl; arrived = refl; passed = refl }

-- the last meeting is changed
changed-last : {A : Type 0} (f : Met → A) (mets : List Met) (new : Met) → f new ≡ f (last_met mets) →
    f (last_met (slice_set mets (last_number mets) new)) ≡ f (last_met mets)
changed-last f mets new same =
    ap (λ (count : ℕ). f (met_at (count - 1) (slice_set mets (last_number mets) new))) (length-set mets (last_number mets) new)
    ∙ read-alike f mets (last_number mets) (last_number mets) new not_met same

own-last : (mets : List Met) (new : Met) → 0 < length mets → last_met (slice_set mets (last_number mets) new) ≡ new
own-last mets new some =
    ap (λ (count : ℕ). met_at (count - 1) (slice_set mets (last_number mets) new)) (length-set mets (last_number mets) new)
    ∙ get_or-set_same mets (last_number mets) new not_met (omega (arith, some))

-- one more is met
met-last : (mets : List Met) (new : Met) → last_met (mets ++ new ∷ []) ≡ new
met-last mets new =
    let long = length-append mets (new ∷ []) in
    ap (λ (count : ℕ). met_at (count - 1) (mets ++ new ∷ [])) long
    ∙ get_or_push mets new not_met (length mets + 1 - 1) (omega arith)

-- ---- one member

own-mets : (team : Team) (i : ℕ) (mets : List Met) → i < length team.members → met_by (with_mets team i mets) i ≡ mets
own-mets team i mets within = get_or-set_same team.members i mets [] within

other-mets : (team : Team) (i j : ℕ) (mets : List Met) → j ≢ i → met_by (with_mets team i mets) j ≡ met_by team j
other-mets team i j mets other = get_or-set_other team.members i j mets [] other

-- a member takes a chunk or a section
taken-last : (team : Team) (i j : ℕ) (chunk : ℕ × ℕ) → SameLast (met_by team j) (met_by (with_taken team i chunk) j)
taken-last team i j chunk =
    let mets = met_by team i in
    let new : Met = record (last_met mets) { taken = (last_met mets).taken ++ chunk ∷ [] } in
    let after = slice_set mets (last_number mets) new in
    record {
      at = read-alike is_at_barrier team.members i j after [] (changed-last (λ (met : Met). is_barrier met.what) mets new refl);
      arrived = read-alike (λ (mets : List Met). (last_met mets).arrived) team.members i j after []
          (changed-last (λ (met : Met). met.arrived) mets new refl);
      passed = read-alike (λ (mets : List Met). (last_met mets).passed) team.members i j after []
          (changed-last (λ (met : Met). met.passed) mets new refl);
    }

chunk-last : (team : Team) (i j : ℕ) (answer : Option (ℕ × ℕ)) → SameLast (met_by team j) (met_by (after_chunk team i answer) j)
chunk-last team i j None = same-last (met_by team j)
chunk-last team i j (Some chunk) = taken-last team i j chunk

section-last : (team : Team) (i j : ℕ) (answer : Option ℕ) → SameLast (met_by team j) (met_by (after_section team i answer) j)
section-last team i j None = same-last (met_by team j)
section-last team i j (Some section) = taken-last team i j (section, 1)

pub asked-chunk : (team : Team) (i j : ℕ) → SameLast (met_by team j) (met_by (after_call team (TakeChunk i)) j)
asked-chunk team i j = chunk-last team i j (next_chunk team i)

pub asked-section : (team : Team) (i j : ℕ) → SameLast (met_by team j) (met_by (after_call team (TakeSection i)) j)
asked-section team i j = section-last team i j (next_section team i)

-- a member meets something
pub met-own : (team : Team) (i : ℕ) (what : Meeting) (first : Bool) → i < length team.members → answer_to_meet team i what ≡ Ok first →
    last_met (met_by (after_call team (Meet i what)) i) ≡ new_met what
met-own team i what first within answer =
    ap (λ (answer : Result Bool Mismatch). last_met (met_by (after_answer team i what answer) i)) answer
    ∙ ap last_met (own-mets team i (met_by team i ++ new_met what ∷ []) within)
    ∙ met-last (met_by team i) (new_met what)

pub met-other : (team : Team) (i j : ℕ) (what : Meeting) → j ≢ i → met_by (after_call team (Meet i what)) j ≡ met_by team j
met-other team i j what other = by-answer (answer_to_meet team i what)
  where
    by-answer : (answer : Result Bool Mismatch) → met_by (after_answer team i what answer) j ≡ met_by team j
    by-answer (Ok first) = other-mets team i j (met_by team i ++ new_met what ∷ []) other
    by-answer (Err mismatch) = refl

-- it arrives, and it passes
pub arrived-own : (team : Team) (i : ℕ) → i < length team.members → 0 < length (met_by team i) →
    last_met (met_by (with_arrived team i) i) ≡ record (last_met (met_by team i)) { arrived = true }
arrived-own team i within some =
    let mets = met_by team i in
    let new : Met = record (last_met mets) { arrived = true } in
    ap last_met (own-mets team i (slice_set mets (last_number mets) new) within) ∙ own-last mets new some

pub passed-own : (team : Team) (i : ℕ) → i < length team.members → 0 < length (met_by team i) →
    last_met (met_by (with_passed team i) i) ≡ record (last_met (met_by team i)) { passed = true }
passed-own team i within some =
    let mets = met_by team i in
    let new : Met = record (last_met mets) { passed = true } in
    ap last_met (own-mets team i (slice_set mets (last_number mets) new) within) ∙ own-last mets new some

pub arrived-other : (team : Team) (i j : ℕ) → j ≢ i → met_by (with_arrived team i) j ≡ met_by team j
arrived-other team i j other = other-mets team i j _ other

pub passed-other : (team : Team) (i j : ℕ) → j ≢ i → met_by (with_passed team i) j ≡ met_by team j
passed-other team i j other = other-mets team i j _ other
