-- A team, with what was told of each of its meetings, and how far a member has come in the one that it has had last.
use Rattle.omp_model.proofs.Reading.{read-same}
use Rattle.c_model.specs.Clauses.{sections_of}
use Rattle.c_model.specs.Program.{place_of}
use Rattle.team_parts.specs.declared.meeting.Meeting.TheVariants.{Sections}
use Rattle.std.proofs.Common.{ℕ, ◌≡◌, ◌≢◌, ◌-◌, ◌<◌, ◌≤◌, ◌++◌, false, Some, None, List, [], ◌∷◌, length, slice_index_or, slice_set, refl, sym, ap, ◌∙◌, subst, subst₂, inl, inr, arith, ap₂}
use Rattle.std.specs.List.{list_any}
use Rattle.std.proofs.lemmas.Bool.{cases_eq}
use Rattle.std.proofs.lemmas.List.{get_or-set_other, get_or-set_same, get_or_append_left, get_or_push, length-append, length-set}
use Rattle.c_syntax.specs.language.Tree.{Tree}
use Rattle.c_model.specs.declared.point.WorkKind.{WorkKind}
use Rattle.c_model.specs.declared.point.WorkKind.TheVariants as work_kind
use Rattle.c_model.specs.Task.{Task as Code}
use Rattle.c_brackets.specs.Opened.{open_task}
use Rattle.team_parts.specs.declared.meeting.Meeting.{Meeting}
use Rattle.team_parts.specs.declared.meeting.TheConstants.{TEAM_LIMIT}
use Rattle.team_parts.specs.declared.member.Member.{Member}
use Rattle.team_parts.specs.Meetings.{HasChunk, TeamMeeting}
use Rattle.team_parts.specs.Team.{TeamView, after_meeting, after_taking, fresh_meeting, last_meeting, last_number, member_at, new_member, next_chunk, next_section, no_meeting, with_meeting, with_place, with_taken}
use Rattle.std.specs.Prelude.{Option, slice_get}
use Rattle.omp_model.proofs.Later.{at-set}
use Rattle.guard_laws.proofs.LastMeetings.{is_work}
use Rattle.work_laws.specs.Told.{Telling, nothing_told}
use Rattle.work_laws.proofs.Items.{AnyTree, HoldsCode}
use Rattle.work_laws.proofs.Meetings.{IsOverFor, TellsMeeting, over-chunk, over-section, tells-fresh}

-- ---- what was told of the meetings of a team

pub record TellsTeam (size : ℕ) (meetings : List TeamMeeting) (n : ℕ) (told : Telling) : Type 0 where
  pub none : length meetings ≤ n → told ≡ nothing_told
  pub some : n < length meetings → TellsMeeting size (slice_index_or meetings n no_meeting) told

-- the same meetings
pub tells-same : (size after : ℕ) (meetings others : List TeamMeeting) (n : ℕ) (told : Telling) → after ≡ size → others ≡ meetings →
    TellsTeam size meetings n told → TellsTeam after others n told
tells-same size after meetings others n told count same tells =
    subst₂ (λ (size : ℕ) (meetings : List TeamMeeting). TellsTeam size meetings n told) (sym count) (sym same) tells

-- one of the meetings is changed
pub tells-here : (size : ℕ) (meetings : List TeamMeeting) (n : ℕ) (now : TeamMeeting) (told : Telling) → n < length meetings →
    TellsMeeting size now told →
    TellsTeam size (slice_set meetings n now) n told
tells-here size meetings n now told below tells =
    record {
      none = λ past. absurd (omega (arith, below, past, length-set meetings n now));
      some = λ within. subst (λ (met : TeamMeeting). TellsMeeting size met told) (sym (get_or-set_same meetings n now no_meeting below)) tells;
    }

pub tells-there : (size : ℕ) (meetings : List TeamMeeting) (m n : ℕ) (now : TeamMeeting) (told : Telling) → n ≢ m → TellsTeam size meetings n told →
    TellsTeam size (slice_set meetings m now) n told
tells-there size meetings m n now told other tells =
    record {
      none = λ past. tells.none (omega (arith, past, length-set meetings m now));
      some = λ within.
          subst (λ (met : TeamMeeting). TellsMeeting size met told) (sym (get_or-set_other meetings m n now no_meeting other))
          (tells.some (omega (arith, within, length-set meetings m now)));
    }

-- what was told of a meeting that is there
pub tells-changed : (size : ℕ) (meetings : List TeamMeeting) (n : ℕ) (told after : Telling) → n < length meetings →
    (TellsMeeting size (slice_index_or meetings n no_meeting) told → TellsMeeting size (slice_index_or meetings n no_meeting) after) →
    TellsTeam size meetings n told → TellsTeam size meetings n after
tells-changed size meetings n told after below changed tells =
    record { none = λ past. absurd (omega (arith, below, past)); some = λ within. changed (tells.some within) }

-- one meeting is new
pub tells-placed : (size : ℕ) (meetings : List TeamMeeting) (what : Meeting) (n : ℕ) (told : Telling) → 1 ≤ size → size ≤ TEAM_LIMIT →
    HasChunk what → TellsTeam size meetings n told →
    TellsTeam size (meetings ++ fresh_meeting what ∷ []) n told
tells-placed size meetings what n told some few chunk tells =
    let more = length-append meetings (fresh_meeting what ∷ []) in
    elim (cases_eq n (length meetings)) [
      | inl last ↦ record {
        none = λ past. tells.none (omega (arith, last));
        some = λ within.
            subst₂ (λ (met : TeamMeeting) (told : Telling). TellsMeeting size met told)
            (sym (get_or_push meetings (fresh_meeting what) no_meeting n (sym last))) (sym (tells.none (omega (arith, last))))
            (tells-fresh size what some few chunk);
      }
      | inr other ↦ record {
        none = λ past. tells.none (omega (arith, past, more));
        some = λ within.
            let below : n < length meetings = omega (arith, within, more, other) in
            subst (λ (met : TeamMeeting). TellsMeeting size met told) (sym (get_or_append_left meetings (fresh_meeting what ∷ []) no_meeting n below))
            (tells.some below);
      }
    ]

placed-members : (team : TeamView) (found : Option TeamMeeting) (what : Meeting) → (with_place team found what).members ≡ team.members
placed-members team None what = refl
placed-members team (Some met) what = refl

tells-with-place : (team : TeamView) (found : Option TeamMeeting) (what : Meeting) (size n : ℕ) (told : Telling) → 1 ≤ size →
    size ≤ TEAM_LIMIT → HasChunk what →
    TellsTeam size team.meetings n told → TellsTeam size (with_place team found what).meetings n told
tells-with-place team None what size n told some few chunk tells = tells-placed size team.meetings what n told some few chunk tells
tells-with-place team (Some met) what size n told some few chunk tells = tells

met-count : (team : TeamView) (i : ℕ) (what : Meeting) → length (after_meeting team i what).members ≡ length team.members
met-count team i what =
    let found = slice_get team.meetings (member_at team i).met in
    length-set (with_place team found what).members i (with_meeting (member_at team i) what)
    ∙ ap (λ (members : List Member). length members) (placed-members team found what)

-- a member meets something
pub tells-met : (team : TeamView) (i : ℕ) (what : Meeting) (n : ℕ) (told : Telling) → i < length team.members → length team.members ≤ TEAM_LIMIT →
    HasChunk what → TellsTeam (length team.members) team.meetings n told →
    TellsTeam (length (after_meeting team i what).members) (after_meeting team i what).meetings n told
tells-met team i what n told within few chunk tells =
    let found = slice_get team.meetings (member_at team i).met in
    tells-same (length team.members) (length (after_meeting team i what).members) (with_place team found what).meetings
    (after_meeting team i what).meetings n told (met-count team i what) refl
    (tells-with-place team found what (length team.members) n told (omega (arith, within)) few chunk tells)

-- ---- how far a member has come

-- no loop and no sections end in the code
abbrev pub NoEnd : WorkKind → Type 0
NoEnd work_kind.Loop = ⊥
NoEnd work_kind.Sections = ⊥
NoEnd other = Unit {0}

-- sections that ask for one are what was met last
abbrev pub AsksAt : Meeting → Tree → Type 0
AsksAt (Sections at count) construct = (at ≡ place_of construct) × (count ≡ length (sections_of construct))
AsksAt other construct = ⊥

abbrev pub HasNoEnd : Meeting → Code → Type 0
HasNoEnd met code = HoldsCode AnyTree AnyTree (AsksAt met) NoEnd code

abbrev pub last_what : TeamView → ℕ → Meeting
last_what team i = (last_meeting team i).what

abbrev pub IsFreeCode : Code → Type 0
IsFreeCode code = list_any is_work (open_task code) ≡ false

abbrev pub IsOverAt : TeamView → ℕ → Type 0
IsOverAt team i = IsOverFor (length team.members) (last_meeting team i) i

-- a member is in no work; or it hasn't ended that of the meeting that it has had last; or nothing of that is left for it
pub data Standing (code : Code) (team : TeamView) (i : ℕ) : Type 0 where
  Outside : IsFreeCode code → Standing code team i
  Within : 1 ≤ (member_at team i).met → HasNoEnd (last_what team i) code → Standing code team i
  Behind : 1 ≤ (member_at team i).met → IsOverAt team i → Standing code team i

pub standing-kept : (code next : Code) (team after : TeamView) (i : ℕ) → (IsFreeCode code → IsFreeCode next) →
    (1 ≤ (member_at team i).met → HasNoEnd (last_what team i) code → HasNoEnd (last_what after i) next) →
    (1 ≤ (member_at team i).met → 1 ≤ (member_at after i).met) →
    (1 ≤ (member_at team i).met → IsOverAt team i → IsOverAt after i) → Standing code team i → Standing next after i
standing-kept code next team after i free ends met over (Outside is) = Outside (free is)
standing-kept code next team after i free ends met over (Within some is) = Within (met some) (ends some is)
standing-kept code next team after i free ends met over (Behind some is) = Behind (met some) (over some is)

-- the meeting that a member has had last is the same
pub what-same : (team after : TeamView) (i : ℕ) → after.meetings ≡ team.meetings → (member_at after i).met ≡ (member_at team i).met →
    last_what after i ≡ last_what team i
what-same team after i meetings met =
    ap₂ (λ (all : List TeamMeeting) (m : ℕ). (slice_index_or all (m - 1) no_meeting).what) meetings met

pub what-taken : (team : TeamView) (j i : ℕ) → last_what (after_taking team j) i ≡ last_what team i
what-taken team j i =
    read-same (λ (met : TeamMeeting). met.what) no_meeting team.meetings (last_number team j) (last_number team i)
    (with_taken (last_meeting team j) j) refl

pub ends-what : (met other : Meeting) (code : Code) → other ≡ met → HasNoEnd met code → HasNoEnd other code
ends-what met other code same ends = subst (λ (met : Meeting). HasNoEnd met code) (sym same) ends

-- another member's code, and a team that has met the same and taken the same
pub over-same : (team after : TeamView) (i : ℕ) → length after.members ≡ length team.members → after.meetings ≡ team.meetings →
    (member_at after i).met ≡ (member_at team i).met → IsOverAt team i → IsOverAt after i
over-same team after i count meetings met over =
    subst₂ (λ (size : ℕ) (last : TeamMeeting). IsOverFor size last i) (sym count)
    (sym (ap (λ (all : List TeamMeeting). slice_index_or all (last_number after i) no_meeting) meetings
    ∙ ap (λ (m : ℕ). slice_index_or team.meetings (m - 1) no_meeting) met)) over

-- where some member takes a chunk or a section
over-taking : (team : TeamView) (j i : ℕ) → (IsOverFor (length team.members) (last_meeting team j) i →
    IsOverFor (length team.members) (with_taken (last_meeting team j) j) i) → IsOverAt team i → IsOverAt (after_taking team j) i
over-taking team j i here over =
    let size = length team.members in
    at-set (λ (met : TeamMeeting). IsOverFor size met i) no_meeting team.meetings (last_number team j) (last_number team i)
    (with_taken (last_meeting team j) j) over
    (λ is. here (subst (λ (n : ℕ). IsOverFor size (slice_index_or team.meetings n no_meeting) i) is over))

pub over-taken-chunk : (team : TeamView) (j i : ℕ) (chunk : ℕ × ℕ) → next_chunk team j ≡ Some chunk → IsOverAt team i → IsOverAt (after_taking team j) i
over-taken-chunk team j i chunk next over =
    over-taking team j i (over-chunk (length team.members) (last_meeting team j) j i chunk next) over

pub over-taken-section : (team : TeamView) (j i section : ℕ) → next_section team j ≡ Some section → IsOverAt team i → IsOverAt (after_taking team j) i
over-taken-section team j i section next over =
    over-taking team j i (over-section (length team.members) (last_meeting team j) j i section next) over

-- where another member meets something
pub placed-last : (team : TeamView) (found : Option TeamMeeting) (what : Meeting) (n : ℕ) → n < length team.meetings →
    slice_index_or (with_place team found what).meetings n no_meeting ≡ slice_index_or team.meetings n no_meeting
placed-last team None what n below = get_or_append_left team.meetings (fresh_meeting what ∷ []) no_meeting n below
placed-last team (Some met) what n below = refl

pub other-member : (team : TeamView) (j i : ℕ) (what : Meeting) → i ≢ j → member_at (after_meeting team j what) i ≡ member_at team i
other-member team j i what other =
    let found = slice_get team.meetings (member_at team j).met in
    get_or-set_other (with_place team found what).members j i (with_meeting (member_at team j) what) new_member other
    ∙ ap (λ (members : List Member). slice_index_or members i new_member) (placed-members team found what)

pub last-met : (team : TeamView) (j i : ℕ) (what : Meeting) → i ≢ j → 1 ≤ (member_at team i).met → (member_at team i).met ≤ length team.meetings →
    last_meeting (after_meeting team j what) i ≡ last_meeting team i
last-met team j i what other some within =
    let found = slice_get team.meetings (member_at team j).met in
    let met : (member_at (after_meeting team j what) i).met ≡ (member_at team i).met = ap (λ (x : Member). x.met) (other-member team j i what other) in
    ap (λ (m : ℕ). slice_index_or (with_place team found what).meetings (m - 1) no_meeting) met
    ∙ placed-last team found what (last_number team i) (omega (arith, some, within))

pub over-met : (team : TeamView) (j i : ℕ) (what : Meeting) → i ≢ j → 1 ≤ (member_at team i).met → (member_at team i).met ≤ length team.meetings →
    IsOverAt team i → IsOverAt (after_meeting team j what) i
over-met team j i what other some within over =
    subst₂ (λ (size : ℕ) (met : TeamMeeting). IsOverFor size met i) (sym (met-count team j what))
    (sym (last-met team j i what other some within)) over

-- who meets something has met it
pub own-met : (team : TeamView) (i : ℕ) (what : Meeting) → i < length team.members → 1 ≤ (member_at (after_meeting team i what) i).met
own-met team i what within =
    let found = slice_get team.meetings (member_at team i).met in
    let members = (with_place team found what).members in
    let own : member_at (after_meeting team i what) i ≡ with_meeting (member_at team i) what =
    get_or-set_same members i (with_meeting (member_at team i) what) new_member
    (omega (arith, within, ap (λ (xs : List Member). length xs) (placed-members team found what))) in
    omega (arith, ap (λ (x : Member). x.met) own)
