-- What a team deals of the loop or sections that a member has met last fits these.
use Rattle.std.proofs.Common.{ℕ, zero, suc, ◌≡◌, ◌<◌, ◌≤◌, ◌+◌, ◌-◌, ◌*◌, min, nat_le, nat_lt, Bool, true, false, if◌then◌else◌, List, [], ◌∷◌, length, slice_index_or, sum, refl, subst, inl, inr, arith}
use Rattle.std.specs.Int.{div_ceil}
use Rattle.std.specs.Prelude.{Option, Some, None, slice_get}
use Rattle.std.proofs.lemmas.Bool.{and_from, cases_lt, cond-true, le-leb, lt-ltb, ltb-true}
use Rattle.std.proofs.lemmas.Grind.{div_ceil_times}
use Rattle.std.proofs.lemmas.Nat.{mul-le}
use Rattle.team_parts.specs.declared.meeting.Meeting.{Meeting}
use Rattle.team_parts.specs.declared.meeting.Meeting.TheVariants as meeting
use Rattle.team_parts.specs.declared.meeting.Schedule.{Schedule}
use Rattle.team_parts.specs.declared.meeting.Schedule.TheVariants.{Dynamic, Guided, Static}
use Rattle.team_parts.specs.Chunks.{block_of, chunk_after, chunk_at, chunk_in, chunk_of, dealt_count, next_length, own_chunk, section_in}
use Rattle.team_parts.specs.Meetings.{HasChunkOf, TeamMeeting}
use Rattle.team_parts.specs.Team.{TeamView, last_meeting, last_number, next_chunk, next_section, no_meeting}
use Rattle.team_parts.proofs.Counted.{dynamic-least, guided-least}
use Rattle.omp_model.proofs.Alike.{what_met}
use Rattle.omp_model.specs.Silent.{fits_loop, fitting_chunk, fitting_section}
use Rattle.guard_laws.proofs.LastMeetings.{MetLoop, MetSections, last_met}

-- ---- chunks

at-fits : (b : Bool) (count : ℕ) (chunk : ℕ × ℕ) → (b ≡ true → fits_loop count chunk ≡ true) →
    fitting_chunk count (if b then Some chunk else None) ≡ (if b then Some chunk else None)
at-fits true count chunk fits = cond-true (fits_loop count chunk) (Some chunk) None (fits refl)
at-fits false count chunk fits = refl

-- a chunk that begins within the loop, of at most so many iterations, and of some
chunk-fits : (start most count : ℕ) → (start < count → 1 ≤ most) → fitting_chunk count (chunk_at start most count) ≡ chunk_at start most count
chunk-fits start most count some =
    at-fits (nat_lt start count) count (start, min most (count - start)) (λ is.
    let below : start < count = ltb-true start count is in
    let most-some : 1 ≤ most = some below in
    and_from (nat_lt 0 (min most (count - start))) (nat_le (start + min most (count - start)) count)
    (lt-ltb 0 (min most (count - start)) (omega (arith, below, most-some))) (le-leb (start + min most (count - start)) count (omega (arith, below))))

-- chunks that go round and round, and blocks
block-some : (count block size : ℕ) → 0 < count → count ≤ block * size → 1 ≤ block
block-some count block size some rounded = elim (cases_lt 0 block) [
  | inl more ↦ more
  | inr none ↦ let nothing : block * size ≤ 0 * size = mul-le block size 0 size none (omega arith) in absurd (omega arith)
]

block-fits : (size count member turn : ℕ) → 1 ≤ size → fitting_chunk count (block_of size count member turn) ≡ block_of size count member turn
block-fits size count member zero team =
    let block = div_ceil count size in
    chunk-fits (member * block) block count (λ below. block-some count block size (omega (arith, below)) (div_ceil_times count size team).0)
block-fits size count member (suc turn) team = refl

own-fits : (chunk size count member turn : ℕ) → 1 ≤ size →
    fitting_chunk count (own_chunk chunk size count member turn) ≡ own_chunk chunk size count member turn
own-fits zero size count member turn team = block-fits size count member turn team
own-fits (suc less) size count member turn team = chunk-fits ((turn * size + member) * (less + 1)) (less + 1) count (λ below. omega arith)

-- chunks that go to whoever asks
after-fits : (how : Schedule) (size count chunks : ℕ) → ((rest : ℕ) → 0 < rest → 1 ≤ next_length how size rest) →
    fitting_chunk count (chunk_after how size count chunks) ≡ chunk_after how size count chunks
after-fits how size count chunks least =
    let before = dealt_count how size count chunks in
    chunk-fits before (next_length how size (count - before)) count (λ below. least (count - before) (omega (arith, below)))

of-fits : (how : Schedule) (size count : ℕ) (taken : List ℕ) (member : ℕ) → 1 ≤ size → HasChunkOf how →
    fitting_chunk count (chunk_of how size count taken member) ≡ chunk_of how size count taken member
of-fits (Static chunk) size count taken member team has = own-fits chunk size count member (slice_index_or taken member 0) team
of-fits (Dynamic chunk) size count taken member team has =
    after-fits (Dynamic chunk) size count (sum taken) (λ rest left. dynamic-least chunk size rest has left)
of-fits (Guided chunk) size count taken member team has =
    after-fits (Guided chunk) size count (sum taken) (λ rest left. guided-least chunk size rest has left)

met-chunk : (what : Meeting) (count size : ℕ) (taken : List ℕ) (member : ℕ) → 1 ≤ size → MetLoop count (Some what) →
    fitting_chunk count (chunk_in what size taken member) ≡ chunk_in what size taken member
met-chunk (meeting.Loop at start whole step how) count size taken member team met =
    subst (λ (n : ℕ). fitting_chunk n (chunk_of how size whole taken member) ≡ chunk_of how size whole taken member) met.0
    (of-fits how size whole taken member team met.1)
met-chunk (meeting.Sections at whole) count size taken member team met = absurd met
met-chunk (meeting.Single at) count size taken member team met = absurd met
met-chunk (meeting.Barrier at kind) count size taken member team met = absurd met

-- ---- sections

if-fits : (b : Bool) (count section : ℕ) → nat_lt section count ≡ b →
    fitting_section count (if b then Some section else None) ≡ (if b then Some section else None)
if-fits true count section is = cond-true (nat_lt section count) (Some section) None is
if-fits false count section is = refl

met-section : (what : Meeting) (count : ℕ) (taken : List ℕ) → MetSections count (Some what) →
    fitting_section count (section_in what taken) ≡ section_in what taken
met-section (meeting.Sections at whole) count taken met =
    subst (λ (n : ℕ). fitting_section n (section_in (meeting.Sections at whole) taken) ≡ section_in (meeting.Sections at whole) taken) met
    (if-fits (nat_lt (sum taken) whole) whole (sum taken) refl)
met-section (meeting.Loop at start whole step how) count taken met = absurd met
met-section (meeting.Single at) count taken met = absurd met
met-section (meeting.Barrier at kind) count taken met = absurd met

-- ---- the team

-- what was met last is the meeting of which is dealt
pub read-met : (P : Option Meeting → Type 0) → (P None → ⊥) → (meetings : List TeamMeeting) (n : ℕ) →
    P (slice_get (what_met (record { members = []; meetings = meetings; room = 0 })) n) → P (Some (slice_index_or meetings n no_meeting).what)
read-met P none [] n met = absurd (none met)
read-met P none (one ∷ meetings) zero met = met
read-met P none (one ∷ meetings) (suc n) met = read-met P none meetings n met

pub dealt-chunk : (team : TeamView) (i count : ℕ) → 1 ≤ length team.members → MetLoop count (last_met team i) →
    fitting_chunk count (next_chunk team i) ≡ next_chunk team i
dealt-chunk team i count some met =
    let last = last_meeting team i in
    met-chunk last.what count (length team.members) last.taken i some (read-met (MetLoop count) (λ none. none) team.meetings (last_number team i) met)

pub dealt-section : (team : TeamView) (i count : ℕ) → MetSections count (last_met team i) →
    fitting_section count (next_section team i) ≡ next_section team i
dealt-section team i count met =
    let last = last_meeting team i in
    met-section last.what count last.taken (read-met (MetSections count) (λ none. none) team.meetings (last_number team i) met)
