-- A meeting of a team, and what was told of it: each chunk or section that a member takes is one that was told, and who has ended has nothing left.
use Rattle.std.proofs.Common.{ℕ, ◌≡◌, ◌+◌, ◌<◌, ◌≤◌, ◌++◌, nat_lt, Bool, true, false, if◌then◌else◌, Some, None, List, [], ◌∷◌, All, length, sum, slice_index_or, refl, sym, ap, ◌∙◌, subst, inl, inr, arith}
use Rattle.std.proofs.lemmas.Bool.{cases_eq, ltb-true}
use Rattle.std.proofs.lemmas.List.{get_or-set_other, length-append, length-set}
use Rattle.std.proofs.lemmas.List.Elements.{All-nil, All-push, All-weaker}
use Rattle.team_parts.specs.declared.meeting.Meeting.{Meeting}
use Rattle.team_parts.specs.declared.meeting.Meeting.TheVariants.{Loop, Sections, Single, Barrier}
use Rattle.team_parts.specs.declared.meeting.Schedule.{Schedule}
use Rattle.team_parts.specs.declared.meeting.Schedule.TheVariants.{Dynamic, Guided, Static}
use Rattle.team_parts.specs.declared.meeting.TheConstants.{TEAM_LIMIT}
use Rattle.team_parts.specs.Chunks.{chunk_in, chunk_of, next_chunk_of, next_section_of, own_chunk, section_in}
use Rattle.team_parts.specs.Dealing.{Deal, after_all, after_asking, none_dealt, with_chunk}
use Rattle.team_parts.specs.Meetings.{HasChunk, TeamMeeting, one_more}
use Rattle.team_parts.specs.Team.{fresh_meeting, with_taken}
use Rattle.team_parts.proofs.Counted.{sum-one_more}
use Rattle.work_laws.specs.Told.{Telling, nothing_told}

-- ---- what was told of a meeting

-- members have asked in some order, and these chunks were dealt
pub record IsDealt (size : ℕ) (met : TeamMeeting) (chunks : List (ℕ × ℕ)) : Type 0 where
  pub order : List ℕ
  pub of_team : All (λ (member : ℕ). member < size) order
  pub met_is : (after_all size (none_dealt met.what) order).met ≡ met
  pub chunks_are : (after_all size (none_dealt met.what) order).chunks ≡ chunks

abbrev pub Deals : ℕ → Meeting → List ℕ → Telling → Type 0
Deals size (Loop at start count step how) taken told = IsDealt size (record { what = Loop at start count step how; taken = taken }) told.chunks
Deals size (Sections at count) taken told = (length told.sections ≡ sum taken) × (sum taken ≤ count)
Deals size (Single at) taken told = Unit {0}
Deals size (Barrier at kind) taken told = Unit {0}

-- nothing is left for a member
abbrev pub IsOverFor : ℕ → TeamMeeting → ℕ → Type 0
IsOverFor size met member = (next_chunk_of met size member ≡ None) × (next_section_of met ≡ None)

pub record TellsMeeting (size : ℕ) (met : TeamMeeting) (told : Telling) : Type 0 where
  pub some : 1 ≤ size
  pub few : size ≤ TEAM_LIMIT
  pub chunk : HasChunk met.what
  pub places : length met.taken ≡ TEAM_LIMIT
  pub deals : Deals size met.what met.taken told
  pub over : All (IsOverFor size met) told.ended

-- ---- a meeting that is new

fresh-dealt : (size : ℕ) (what : Meeting) → IsDealt size (fresh_meeting what) []
unfolding after_all
fresh-dealt size what = record { order = []; of_team = All-nil _; met_is = refl; chunks_are = refl }

fresh-deals : (size : ℕ) (what : Meeting) → Deals size what (fresh_meeting what).taken nothing_told
fresh-deals size (Loop at start count step how) = fresh-dealt size (Loop at start count step how)
fresh-deals size (Sections at count) = (refl, omega arith)
fresh-deals size (Single at) = tt
fresh-deals size (Barrier at kind) = tt

pub tells-fresh : (size : ℕ) (what : Meeting) → 1 ≤ size → size ≤ TEAM_LIMIT → HasChunk what → TellsMeeting size (fresh_meeting what) nothing_told
tells-fresh size what some few chunk =
    record { some = some; few = few; chunk = chunk; places = refl; deals = fresh-deals size what; over = All-nil _ }

-- ---- a member takes a chunk

-- one more member asks
all-more : (size : ℕ) (dealt : Deal) (order : List ℕ) (member : ℕ) →
    after_all size dealt (order ++ member ∷ []) ≡ after_asking size (after_all size dealt order) member
unfolding after_all
all-more size dealt [] member = refl
all-more size dealt (other ∷ order) member = all-more size (after_asking size dealt other) order member

dealt-more : (size : ℕ) (met : TeamMeeting) (chunks : List (ℕ × ℕ)) (member : ℕ) (chunk : ℕ × ℕ) → member < size →
    next_chunk_of met size member ≡ Some chunk → IsDealt size met chunks → IsDealt size (with_taken met member) (chunks ++ chunk ∷ [])
dealt-more size met chunks member chunk of_team next is =
    let so = after_all size (none_dealt met.what) is.order in
    let asked : after_all size (none_dealt met.what) (is.order ++ member ∷ []) ≡ with_chunk so member (Some chunk) =
    all-more size (none_dealt met.what) is.order member
    ∙ ap (with_chunk so member) (ap (λ (x : TeamMeeting). next_chunk_of x size member) is.met_is ∙ next) in
    record {
      order = is.order ++ member ∷ [];
      of_team = All-push (λ (m : ℕ). m < size) is.order member is.of_team of_team;
      met_is = ap (λ (x : Deal). x.met) asked ∙ ap (λ (x : TeamMeeting). with_taken x member) is.met_is;
      chunks_are = ap (λ (x : Deal). x.chunks) asked ∙ ap (λ (xs : List (ℕ × ℕ)). xs ++ chunk ∷ []) is.chunks_are;
    }

-- who has nothing left has nothing left where another one takes a chunk
own-over : (length size count : ℕ) (taken : List ℕ) (member other : ℕ) (chunk : ℕ × ℕ) →
    chunk_of (Static length) size count taken member ≡ Some chunk → chunk_of (Static length) size count taken other ≡ None →
    chunk_of (Static length) size count (one_more taken member) other ≡ None
own-over length size count taken member other chunk next over =
    elim (cases_eq other member) [
      | inl same ↦
          let both : chunk_of (Static length) size count taken member ≡ None =
          subst (λ (m : ℕ). chunk_of (Static length) size count taken m ≡ None) same over in
          let wrong : Some chunk ≡ None = sym next ∙ both in cc
      | inr apart ↦
          ap (λ (turn : ℕ). own_chunk length size count other turn)
          (get_or-set_other taken member other (slice_index_or taken member 0 + 1) 0 apart) ∙ over
    ]

schedule-over : (how : Schedule) (size count : ℕ) (taken : List ℕ) (member other : ℕ) (chunk : ℕ × ℕ) →
    chunk_of how size count taken member ≡ Some chunk → chunk_of how size count taken other ≡ None →
    chunk_of how size count (one_more taken member) other ≡ None
schedule-over (Static length) size count taken member other chunk next over = own-over length size count taken member other chunk next over
schedule-over (Dynamic length) size count taken member other chunk next over = let wrong : Some chunk ≡ None = sym next ∙ over in cc
schedule-over (Guided length) size count taken member other chunk next over = let wrong : Some chunk ≡ None = sym next ∙ over in cc

chunk-over : (what : Meeting) (size : ℕ) (taken : List ℕ) (member other : ℕ) (chunk : ℕ × ℕ) → chunk_in what size taken member ≡ Some chunk →
    IsOverFor size (record { what = what; taken = taken }) other → IsOverFor size (record { what = what; taken = one_more taken member }) other
chunk-over (Loop at start count step how) size taken member other chunk next over =
    (schedule-over how size count taken member other chunk next over.0, refl)
chunk-over (Sections at count) size taken member other chunk next over = cc
chunk-over (Single at) size taken member other chunk next over = cc
chunk-over (Barrier at kind) size taken member other chunk next over = cc

pub over-chunk : (size : ℕ) (met : TeamMeeting) (member other : ℕ) (chunk : ℕ × ℕ) → next_chunk_of met size member ≡ Some chunk →
    IsOverFor size met other → IsOverFor size (with_taken met member) other
over-chunk size met member other chunk next over = chunk-over met.what size met.taken member other chunk next over

chunk-deals : (what : Meeting) (size : ℕ) (taken : List ℕ) (told : Telling) (member : ℕ) (chunk : ℕ × ℕ) → member < size →
    chunk_in what size taken member ≡ Some chunk → Deals size what taken told →
    Deals size what (one_more taken member) (record told { chunks = told.chunks ++ chunk ∷ [] })
chunk-deals (Loop at start count step how) size taken told member chunk of_team next deals =
    dealt-more size (record { what = Loop at start count step how; taken = taken }) told.chunks member chunk of_team next deals
chunk-deals (Sections at count) size taken told member chunk of_team next deals = cc
chunk-deals (Single at) size taken told member chunk of_team next deals = cc
chunk-deals (Barrier at kind) size taken told member chunk of_team next deals = cc

pub tells-chunk : (size : ℕ) (met : TeamMeeting) (told : Telling) (member : ℕ) (chunk : ℕ × ℕ) → member < size →
    next_chunk_of met size member ≡ Some chunk → TellsMeeting size met told →
    TellsMeeting size (with_taken met member) (record told { chunks = told.chunks ++ chunk ∷ [] })
tells-chunk size met told member chunk of_team next tells =
    record {
      some = tells.some;
      few = tells.few;
      chunk = tells.chunk;
      places = length-set met.taken member (slice_index_or met.taken member 0 + 1) ∙ tells.places;
      deals = chunk-deals met.what size met.taken told member chunk of_team next tells.deals;
      over = All-weaker (IsOverFor size met) (IsOverFor size (with_taken met member)) (λ other. over-chunk size met member other chunk next) told.ended
          tells.over;
    }

-- ---- a member takes a section

pub some-section : (b : Bool) (section other : ℕ) → (if b then Some section else None) ≡ Some other → (b ≡ true) × (section ≡ other)
some-section true section other is = (refl, cc)
some-section false section other is = cc

section-deals : (what : Meeting) (size : ℕ) (taken : List ℕ) (told : Telling) (member section codeptr : ℕ) → member < length taken →
    section_in what taken ≡ Some section → Deals size what taken told →
    Deals size what (one_more taken member) (record told { sections = told.sections ++ codeptr ∷ [] })
section-deals (Loop at start count step how) size taken told member section codeptr within next deals = cc
section-deals (Sections at count) size taken told member section codeptr within next deals =
    let below : sum taken < count = ltb-true (sum taken) count (some-section (nat_lt (sum taken) count) (sum taken) section next).0 in
    let more : sum (one_more taken member) ≡ sum taken + 1 = sum-one_more taken member within in (
      omega (arith, more, deals.0, length-append told.sections (codeptr ∷ [])),
      omega (arith, more, below),
    )
section-deals (Single at) size taken told member section codeptr within next deals = cc
section-deals (Barrier at kind) size taken told member section codeptr within next deals = cc

pub over-section : (size : ℕ) (met : TeamMeeting) (member other section : ℕ) → next_section_of met ≡ Some section → IsOverFor size met other →
    IsOverFor size (with_taken met member) other
over-section size met member other section next over = let wrong : Some section ≡ None = sym next ∙ over.1 in cc

pub tells-section : (size : ℕ) (met : TeamMeeting) (told : Telling) (member section codeptr : ℕ) → member < TEAM_LIMIT →
    next_section_of met ≡ Some section → TellsMeeting size met told →
    TellsMeeting size (with_taken met member) (record told { sections = told.sections ++ codeptr ∷ [] })
tells-section size met told member section codeptr few next tells =
    record {
      some = tells.some;
      few = tells.few;
      chunk = tells.chunk;
      places = length-set met.taken member (slice_index_or met.taken member 0 + 1) ∙ tells.places;
      deals = section-deals met.what size met.taken told member section codeptr (omega (arith, few, tells.places)) next tells.deals;
      over = All-weaker (IsOverFor size met) (IsOverFor size (with_taken met member))
          (λ other. over-section size met member other section next) told.ended
          tells.over;
    }

-- ---- a member has ended

deals-ended : (what : Meeting) (size : ℕ) (taken : List ℕ) (told : Telling) (member : ℕ) → Deals size what taken told →
    Deals size what taken (record told { ended = told.ended ++ member ∷ [] })
deals-ended (Loop at start count step how) size taken told member deals = deals
deals-ended (Sections at count) size taken told member deals = deals
deals-ended (Single at) size taken told member deals = tt
deals-ended (Barrier at kind) size taken told member deals = tt

pub tells-ended : (size : ℕ) (met : TeamMeeting) (told : Telling) (member : ℕ) → IsOverFor size met member → TellsMeeting size met told →
    TellsMeeting size met (record told { ended = told.ended ++ member ∷ [] })
tells-ended size met told member over tells =
    record {
      some = tells.some;
      few = tells.few;
      chunk = tells.chunk;
      places = tells.places;
      deals = deals-ended met.what size met.taken told member tells.deals;
      over = All-push (IsOverFor size met) told.ended member tells.over over;
    }
