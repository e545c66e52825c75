-- No member passes a barrier before all have arrived at it.
use Rattle.std.proofs.Common.{◌≡◌, ℕ, zero, suc, ◌<◌, ◌==◌, ◌&&◌, Bool, true, Option, Some, None, Result, Ok, Err, List, [], ◌∷◌, ◌++◌, length, get_or, set, refl, sym, ap, subst, ◌∙◌, inl, inr, arith}
use Rattle.std.specs.List.{list_all, list_any}
use Rattle.std.proofs.lemmas.Bool.{and_parts, cases_eq, cases_lt, false≢true, or_cases}
use Rattle.std.proofs.lemmas.List.{get_or_default, get_or-set_other, length-replicate, length-set, set_past}
use Rattle.std.proofs.lemmas.List.Folds.{Any-from_list_any}
use Rattle.std.proofs.lemmas.List.Sums.{AllPass-from_list_all}
use Rattle.team_parts.specs.declared.meeting.Meeting.{Meeting}
use Rattle.team_parts.specs.declared.meeting.Mismatch.{Mismatch}
use Rattle.team_words.specs.Team.{Met, Team, answer_to_meet, fresh_team, has_arrived, has_passed, last_met, last_number, may_pass, met_at, met_by, not_met, with_arrived, with_passed}
use Rattle.team_words.specs.Shares.{after_chunk, after_section, next_chunk, next_section, with_taken}
use Rattle.team_words.specs.Calls.{TeamCall, after_answer, after_call, after_calls, all_end_in_time, ends_in_time}
use Rattle.team_words.specs.Calls.TeamCall.{Meet, WouldMeet, TakeChunk, TakeSection, Arrive, MayPass, Pass}
use Rattle.team_words.proofs.ChangedLists.{at-replicate, read-alike, read-either}
use Rattle.team_words.proofs.Keeping.{new_met}

-- each member has arrived at its meeting with this number
abbrev HaveArrived : List (List Met) → ℕ → Type 0
HaveArrived members n = (i : ℕ) → i < length members → has_arrived n (get_or members i []) ≡ true

abbrev pub AreTogether : List (List Met) → Type 0
AreTogether members = (n i : ℕ) → has_passed n (get_or members i []) ≡ true → HaveArrived members n

-- one member changes: it has arrived where it had, and all have arrived where it has passed
record MayChange (members : List (List Met)) (i : ℕ) (mets : List Met) : Type 0 where
  pub arrived : (n : ℕ) → has_arrived n (get_or members i []) ≡ true → has_arrived n mets ≡ true
  pub passed : (n : ℕ) → has_passed n mets ≡ true → HaveArrived members n

changed-within : (members : List (List Met)) (i : ℕ) (mets : List Met) → i < length members → AreTogether members → MayChange members i mets → AreTogether (set members i mets)
changed-within members i mets of_team together may n k passed j within =
    let before : HaveArrived members n =
    read-either (λ (xs : List Met). has_passed n xs ≡ true → HaveArrived members n) members i k mets [] (may.passed n) (together n k) passed in
    read-either (λ (xs : List Met). has_arrived n xs ≡ true) members i j mets [] (may.arrived n (before i of_team)) (before j (omega (arith, length-set members i mets)))

changed : (members : List (List Met)) (i : ℕ) (mets : List Met) → AreTogether members → MayChange members i mets → AreTogether (set members i mets)
changed members i mets together may = elim (cases_lt i (length members)) [
  | inl of_team ↦ changed-within members i mets of_team together may
  | inr past ↦ subst AreTogether (sym (set_past members i mets past)) together
]

-- what a member meets doesn't change where it has arrived and passed
push-alike : (flag : Met → Bool) (mets : List Met) (new : Met) (n : ℕ) → flag new ≡ flag not_met → flag (met_at n (mets ++ new ∷ [])) ≡ flag (met_at n mets)
push-alike flag [] new zero same = same
push-alike flag [] new (suc n) same = refl
push-alike flag (met ∷ mets) new zero same = refl
push-alike flag (met ∷ mets) new (suc n) same = push-alike flag mets new n same

met-more : (members : List (List Met)) (i : ℕ) (what : Meeting) → AreTogether members → AreTogether (set members i (get_or members i [] ++ new_met what ∷ []))
met-more members i what together =
    let old = get_or members i [] in
    changed members i (old ++ new_met what ∷ []) together
    (record {
      arrived = λ n was. push-alike (λ (met : Met). met.arrived) old (new_met what) n refl ∙ was;
      passed = λ n is. together n i (sym (push-alike (λ (met : Met). met.passed) old (new_met what) n refl) ∙ is);
    })

met-answered : (team : Team) (i : ℕ) (what : Meeting) (answer : Result Bool Mismatch) → AreTogether team.members → AreTogether (after_answer team i what answer).members
met-answered team i what (Ok first) together = met-more team.members i what together
met-answered team i what (Err fault) together = together

-- nor does what it takes
taken-more : (team : Team) (i : ℕ) (chunk : ℕ × ℕ) → AreTogether team.members → AreTogether (with_taken team i chunk).members
taken-more team i chunk together =
    let mets = met_by team i in
    let last = last_number mets in
    let old = last_met mets in
    let new : Met = record old { taken = old.taken ++ chunk ∷ [] } in
    changed team.members i (set mets last new) together
    (record {
      arrived = λ n was. read-alike (λ (met : Met). met.arrived) mets last n new not_met refl ∙ was;
      passed = λ n is. together n i (sym (read-alike (λ (met : Met). met.passed) mets last n new not_met refl) ∙ is);
    })

chunk-taken : (team : Team) (i : ℕ) (answer : Option (ℕ × ℕ)) → AreTogether team.members → AreTogether (after_chunk team i answer).members
chunk-taken team i None together = together
chunk-taken team i (Some chunk) together = taken-more team i chunk together

section-taken : (team : Team) (i : ℕ) (answer : Option ℕ) → AreTogether team.members → AreTogether (after_section team i answer).members
section-taken team i None together = together
section-taken team i (Some section) together = taken-more team i (section, 1) together

arrived-more : (team : Team) (i : ℕ) → AreTogether team.members → AreTogether (with_arrived team i).members
arrived-more team i together =
    let mets = met_by team i in
    let last = last_number mets in
    let new : Met = record (last_met mets) { arrived = true } in
    changed team.members i (set mets last new) together
    (record {
      arrived = λ n was. read-either (λ (met : Met). met.arrived ≡ true) mets last n new not_met refl was;
      passed = λ n is. together n i (sym (read-alike (λ (met : Met). met.passed) mets last n new not_met refl) ∙ is);
    })

-- a wait that may end
all-arrived : (team : Team) (i : ℕ) → AreTogether team.members → may_pass team i 0 ≡ true → HaveArrived team.members (last_number (met_by team i))
all-arrived team i together may =
    let n = last_number (met_by team i) in
    elim (or_cases (list_all (has_arrived n) team.members && 0 == 0) (list_any (has_passed n) team.members) may) [
      | inl both ↦
          let all = AllPass-from_list_all (has_arrived n) team.members (and_parts (list_all (has_arrived n) team.members) (0 == 0) both).0 in
          λ j within. all j [] within
      | inr some ↦
          let found = Any-from_list_any (has_passed n) team.members some in
          let read = get_or_default team.members found.0 [] found.1 found.2 ∙ found.3 in
          together n found.0 (ap (has_passed n) read ∙ found.4)
    ]

passed-more : (team : Team) (i : ℕ) → AreTogether team.members → may_pass team i 0 ≡ true → AreTogether (with_passed team i).members
passed-more team i together may =
    let mets = met_by team i in
    let last = last_number mets in
    let new : Met = record (last_met mets) { passed = true } in
    changed team.members i (set mets last new) together
    (record {
      arrived = λ n was. read-alike (λ (met : Met). met.arrived) mets last n new not_met refl ∙ was;
      passed = λ n is. elim (cases_eq n last) [
        | inl same ↦ subst (λ (k : ℕ). HaveArrived team.members k) (sym same) (all-arrived team i together may)
        | inr apart ↦ together n i (sym (ap (λ (met : Met). met.passed) (get_or-set_other mets last n new not_met apart)) ∙ is)
      ];
    })

one-call : (team : Team) (call : TeamCall) → AreTogether team.members → ends_in_time team call ≡ true → AreTogether (after_call team call).members
one-call team (Meet i what) together in_time = met-answered team i what (answer_to_meet team i what) together
one-call team (WouldMeet i what) together in_time = together
one-call team (TakeChunk i) together in_time = chunk-taken team i (next_chunk team i) together
one-call team (TakeSection i) together in_time = section-taken team i (next_section team i) together
one-call team (Arrive i) together in_time = arrived-more team i together
one-call team (MayPass i unfinished) together in_time = together
one-call team (Pass i) together in_time = passed-more team i together in_time

all-calls : (team : Team) (calls : List TeamCall) → AreTogether team.members → all_end_in_time team calls ≡ true → AreTogether (after_calls team calls).members
all-calls team [] together in_time = together
all-calls team (call ∷ calls) together in_time =
    let both = and_parts (ends_in_time team call) (all_end_in_time (after_call team call) calls) in_time in
    all-calls (after_call team call) calls (one-call team call together both.0) both.1

fresh-together : (size : ℕ) → AreTogether (fresh_team size).members
fresh-together size n i passed = absurd (at-replicate (λ (mets : List Met). has_passed n mets ≡ true → ⊥) size i [] (λ is. false≢true is) passed)

pub together-made : (size : ℕ) (calls : List TeamCall) → all_end_in_time (fresh_team size) calls ≡ true → AreTogether (after_calls (fresh_team size) calls).members
together-made size calls in_time = all-calls (fresh_team size) calls (fresh-together size) in_time

-- ---- a team keeps its size

length-answer : (team : Team) (i : ℕ) (what : Meeting) (answer : Result Bool Mismatch) → length (after_answer team i what answer).members ≡ length team.members
length-answer team i what (Ok first) = length-set team.members i _
length-answer team i what (Err fault) = refl

length-chunk : (team : Team) (i : ℕ) (answer : Option (ℕ × ℕ)) → length (after_chunk team i answer).members ≡ length team.members
length-chunk team i None = refl
length-chunk team i (Some chunk) = length-set team.members i _

length-section : (team : Team) (i : ℕ) (answer : Option ℕ) → length (after_section team i answer).members ≡ length team.members
length-section team i None = refl
length-section team i (Some section) = length-set team.members i _

length-call : (team : Team) (call : TeamCall) → length (after_call team call).members ≡ length team.members
length-call team (Meet i what) = length-answer team i what (answer_to_meet team i what)
length-call team (WouldMeet i what) = refl
length-call team (TakeChunk i) = length-chunk team i (next_chunk team i)
length-call team (TakeSection i) = length-section team i (next_section team i)
length-call team (Arrive i) = length-set team.members i _
length-call team (MayPass i unfinished) = refl
length-call team (Pass i) = length-set team.members i _

length-calls : (team : Team) (calls : List TeamCall) → length (after_calls team calls).members ≡ length team.members
length-calls team [] = refl
length-calls team (call ∷ calls) = length-calls (after_call team call) calls ∙ length-call team call

pub length-made : (size : ℕ) (calls : List TeamCall) → length (after_calls (fresh_team size) calls).members ≡ size
length-made size calls = let nothing : List Met = [] in length-calls (fresh_team size) calls ∙ length-replicate size nothing
