-- Where all members have ended their work, each iteration was told once, and as many sections as there are.
use Rattle.std.proofs.Common.{ℕ, ℤ, ◌≡◌, ◌≤◌, ◌<◌, nat_lt, Bool, if◌then◌else◌, Some, None, List, [], ◌∷◌, length, sum, slice_index_or, refl, sym, ap, ◌∙◌, subst, subst₂, inl, inr, arith}
use Rattle.std.specs.List.{Contains}
use Rattle.std.proofs.lemmas.Bool.{cases_lt, lt-ltb}
use Rattle.std.proofs.lemmas.List.{get_or_past}
use Rattle.std.proofs.lemmas.List.Elements.{All-contains}
use Rattle.c_check.specs.Checked.{Checked}
use Rattle.c_model.specs.Formed.{IsProgramFormed}
use Rattle.team_parts.specs.declared.meeting.Meeting.{Meeting}
use Rattle.team_parts.specs.declared.meeting.Meeting.TheVariants.{Loop, Sections}
use Rattle.team_parts.specs.declared.meeting.Schedule.{Schedule}
use Rattle.team_parts.specs.declared.meeting.Schedule.TheVariants.{Dynamic, Guided, Static}
use Rattle.team_parts.specs.Chunks.{next_chunk_of}
use Rattle.team_parts.specs.Dealing.{IsDealtOut, chunks_dealt, one_if, times_dealt}
use Rattle.team_parts.specs.Meetings.{TeamMeeting}
use Rattle.team_parts.specs.Team.{TeamView, no_meeting}
use Rattle.team_parts.proofs.Counted.{dynamic-least, dynamic-most, guided-least, guided-most}
use Rattle.team_parts.proofs.InTurn.{in-turn-once}
use Rattle.team_parts.proofs.Owned.{static-once}
use Rattle.omp_model.specs.declared.history.Entry.{Entry}
use Rattle.omp_model.specs.declared.history.What.{What}
use Rattle.omp_model.specs.declared.history.What.TheVariants.{Go, Put, Back}
use Rattle.omp_model.specs.Legal.{Legal, after, entered}
use Rattle.omp_model.specs.State.{Run, State, first, region_at}
use Rattle.omp_model.specs.Turn.{Turn}
use Rattle.guard_laws.proofs.Masks.{all_told, legal-told, told-after as after-told, told-does, told-turn, whole-told}
use Rattle.work_laws.specs.Told.{HaveEnded, Telling, meeting_of, nothing_told, told_of, with_entries, with_entry, with_outcome}
use Rattle.work_laws.proofs.Meetings.{IsDealt, IsOverFor, TellsMeeting}
use Rattle.work_laws.proofs.Runs.{told-after}
use Rattle.work_laws.proofs.Shares.{TellsAt}
use Rattle.work_laws.proofs.Teams.{TellsTeam}

-- ---- a meeting

each-once : (at : ℕ) (start : ℤ) (count : ℕ) (step : ℤ) (how : Schedule) (size : ℕ) (order : List ℕ) → let what = Loop at start count step how in
    IsDealtOut what size order → (iteration : ℕ) → times_dealt (chunks_dealt what size order) iteration ≡ one_if (nat_lt iteration count)
each-once at start count step (Static length) size order out iteration = static-once at start count step length size order out iteration
each-once at start count step (Dynamic length) size order out iteration =
    in-turn-once at start count step (Dynamic length) size order (λ taken member. refl) (dynamic-most length size)
    (λ rest. dynamic-least length size rest out.chunk) out iteration
each-once at start count step (Guided length) size order out iteration =
    in-turn-once at start count step (Guided length) size order (λ taken member. refl) (guided-most length size)
    (λ rest. guided-least length size rest out.chunk) out iteration

loop-told : (size : ℕ) (taken : List ℕ) (told : Telling) (at : ℕ) (start : ℤ) (count : ℕ) (step : ℤ) (how : Schedule) →
    TellsMeeting size (record { what = Loop at start count step how; taken = taken }) told → ((member : ℕ) → member < size →
    Contains told.ended member) →
    (iteration : ℕ) → times_dealt told.chunks iteration ≡ one_if (nat_lt iteration count)
loop-told size taken told at start count step how tells ended iteration =
    let met : TeamMeeting = record { what = Loop at start count step how; taken = taken } in
    let dealt : IsDealt size met told.chunks = tells.deals in
    let out : IsDealtOut (Loop at start count step how) size dealt.order = record {
      some = tells.some;
      few = tells.few;
      chunk = tells.chunk;
      of_team = dealt.of_team;
      over = λ member below. ap (λ (x : TeamMeeting). next_chunk_of x size member) dealt.met_is
          ∙ (All-contains (IsOverFor size met) told.ended member tells.over (ended member below)).0;
    } in
    sym (ap (λ (chunks : List (ℕ × ℕ)). times_dealt chunks iteration) dealt.chunks_are)
    ∙ each-once at start count step how size dealt.order out iteration

none-left : (section count : ℕ) → (if nat_lt section count then Some section else None) ≡ None → count ≤ section
none-left section count none =
    elim (cases_lt section count) [
      | inl below ↦
          let wrong : Some section ≡ None = sym (ap (λ (b : Bool). if b then Some section else None) (lt-ltb section count below)) ∙ none in cc
      | inr past ↦ past
    ]

sections-told : (size : ℕ) (taken : List ℕ) (told : Telling) (at count : ℕ) →
    TellsMeeting size (record { what = Sections at count; taken = taken }) told →
    ((member : ℕ) → member < size → Contains told.ended member) → length told.sections ≡ count
sections-told size taken told at count tells ended =
    let met : TeamMeeting = record { what = Sections at count; taken = taken } in
    let over : IsOverFor size met 0 = All-contains (IsOverFor size met) told.ended 0 tells.over (ended 0 tells.some) in
    omega (arith, tells.deals.0, tells.deals.1, none-left (sum taken) count over.1)

-- ---- a history

-- whichever callbacks are registered
module _ (run : Run) (r n : ℕ) where
  entry-told : (S : State) (t : ℕ) (what : What) (told : Telling) → with_entry (all_told run) S t r n what told ≡ with_entry run S t r n what told
  entry-told S t Go told = ap (λ (now : Turn). with_outcome now.state.world t r n now.outcome told) (told-turn run S t)
  entry-told S t (Put place word) told = refl
  entry-told S t Back told = refl

  pub entries-told : (S : State) (history : List Entry) (told : Telling) →
      with_entries (all_told run) S r n history told ≡ with_entries run S r n history told
  entries-told S [] told = refl
  entries-told S (entry ∷ rest) told =
      ap (λ (x : Telling). with_entries (all_told run) (entered (all_told run) S entry) r n rest x) (entry-told S entry.thread entry.what told)
      ∙ (ap (λ (S' : State). with_entries (all_told run) S' r n rest (with_entry run S entry.thread r n entry.what told))
      (told-does run S entry.thread entry.what)
      ∙ entries-told (entered run S entry) rest (with_entry run S entry.thread r n entry.what told))

module _ (run : Run) (history : List Entry) (r n : ℕ) (some : 1 ≤ run.threads) (few : run.threads ≤ 16) (checked : Checked run.program)
    (formed : IsProgramFormed run.program) (legal : Legal run history) where
  abbrev team : TeamView
  team = (region_at (after run history).world r).team

  abbrev told : Telling
  told = told_of run history r n

  tells : TellsTeam (length team.members) team.meetings n told
  tells =
      let whole = whole-told run some few checked formed in
      subst₂ (λ (S : State) (x : Telling). TellsAt S.world r n x) (after-told run history) (entries-told run r n (first run) history nothing_told)
      ((told-after (all_told run) history whole (legal-told run whole history legal)).tells.teams r n)

  -- a meeting that is no barrier is there
  met-below : (what : Meeting) → meeting_of team n ≡ what → (no_meeting.what ≡ what → ⊥) → n < length team.meetings
  met-below what is none =
      elim (cases_lt n (length team.meetings)) [
        | inl below ↦ below
        | inr beyond ↦ absurd (none (sym (ap (λ (met : TeamMeeting). met.what) (get_or_past team.meetings n no_meeting beyond)) ∙ is))
      ]

  tells-met : (what : Meeting) → meeting_of team n ≡ what → (no_meeting.what ≡ what → ⊥) →
      TellsMeeting (length team.members) (record { what = what; taken = (slice_index_or team.meetings n no_meeting).taken }) told
  tells-met what is none =
      let met = slice_index_or team.meetings n no_meeting in
      subst (λ (what : Meeting). TellsMeeting (length team.members) (record { what = what; taken = met.taken }) told) is (tells.some
      (met-below what is none))

  no-loop : (at : ℕ) (start : ℤ) (count : ℕ) (step : ℤ) (how : Schedule) → no_meeting.what ≡ Loop at start count step how → ⊥
  no-loop at start count step how is = cc

  no-sections : (at count : ℕ) → no_meeting.what ≡ Sections at count → ⊥
  no-sections at count is = cc

  pub iterations-once : (at : ℕ) (start : ℤ) (count : ℕ) (step : ℤ) (how : Schedule) → meeting_of team n ≡ Loop at start count step how →
      HaveEnded team told → (iteration : ℕ) → times_dealt told.chunks iteration ≡ one_if (nat_lt iteration count)
  iterations-once at start count step how is ended iteration =
      loop-told (length team.members) (slice_index_or team.meetings n no_meeting).taken told at start count step how
      (tells-met (Loop at start count step how) is (no-loop at start count step how)) ended iteration

  pub sections-all : (at count : ℕ) → meeting_of team n ≡ Sections at count → HaveEnded team told → length told.sections ≡ count
  sections-all at count is ended =
      sections-told (length team.members) (slice_index_or team.meetings n no_meeting).taken told at count
      (tells-met (Sections at count) is (no-sections at count)) ended
