-- What was dealt in a meeting is what the counters deal: the chunks go to the members in some order of their calls, and sections one by one.
use Rattle.std.proofs.Common.{◌≡◌, ℕ, ◌+◌, ◌-◌, ◌<◌, ◌≤◌, nat_lt, min, max, Bool, true, false, cond, if◌then◌else◌, Some, None, List, [], ◌∷◌, ◌++◌, length, sum, slice_index_or, replicate, All, refl, sym, ap, ap₂, subst, ◌∙◌, arith}
use Rattle.std.specs.Int.{div_ceil}
use Rattle.std.proofs.lemmas.Bool.{le-ltb, ltb-true}
use Rattle.std.proofs.lemmas.List.Elements.{All-nil, All-push}
use Rattle.std.proofs.lemmas.Option.{cond_some}
use Rattle.team_parts.specs.declared.meeting.Schedule.{Schedule}
use Rattle.team_parts.specs.declared.meeting.Schedule.TheVariants.{Static, Dynamic, Guided}
use Rattle.team_parts.specs.declared.meeting.Meeting.{Meeting}
use Rattle.team_parts.specs.declared.meeting.Meeting.TheVariants.{Loop, Sections, Single, Barrier}
use Rattle.team_parts.specs.declared.meeting.TheConstants.{TEAM_LIMIT}
use Rattle.team_parts.specs.Meetings.{TeamMeeting, one_more}
use Rattle.team_parts.specs.Chunks.{chunk_after, chunk_at, dealt_count, next_chunk_of, next_length, own_chunk}
use Rattle.team_parts.specs.Chunks as counters
use Rattle.team_parts.specs.Team.{with_taken}
use Rattle.team_parts.specs.Dealing.{Deal, after_all, after_asking, has_iteration, none_dealt, one_if, times_dealt, with_chunk}
use Rattle.team_parts.proofs.Counted.{dealt_count-more, dealt_count-none}
use Rattle.team_parts.proofs.Orders.{times-more, times-next}
use Rattle.team_words.specs.Shares.{chunk_by, chunk_in, iterations_of, section_in}
use Rattle.team_words.proofs.ChangedLists.{IsMore, one}

-- as many iterations are dealt as the counters have for so many chunks
abbrev pub IsTotal : Schedule → ℕ → ℕ → List (ℕ × ℕ) → Type 0
IsTotal (Static chunk) size count chunks = Unit {0}
IsTotal (Dynamic chunk) size count chunks = iterations_of chunks ≡ dealt_count (Dynamic chunk) size count (length chunks)
IsTotal (Guided chunk) size count chunks = iterations_of chunks ≡ dealt_count (Guided chunk) size count (length chunks)

-- members that ask in some order are answered these chunks
pub record HasOrder (what : Meeting) (size : ℕ) (taken : List ℕ) (chunks : List (ℕ × ℕ)) : Type 0 where
  pub order : List ℕ
  pub of_team : All (λ (member : ℕ). member < size) order
  pub met : (after_all size (none_dealt what) order).met ≡ record { what = what; taken = taken }
  pub times : (k : ℕ) → times_dealt (after_all size (none_dealt what) order).chunks k ≡ times_dealt chunks k

pub record AreInTurn (count : ℕ) (chunks : List (ℕ × ℕ)) : Type 0 where
  pub within : length chunks ≤ count
  pub times : (k : ℕ) → times_dealt chunks k ≡ one_if (nat_lt k (length chunks))

abbrev pub IsDealt : Meeting → ℕ → List ℕ → List (ℕ × ℕ) → Type 0
IsDealt (Loop at start count step schedule) size taken chunks = IsTotal schedule size count chunks × HasOrder (Loop at start count step schedule) size taken chunks
IsDealt (Sections at count) size taken chunks = AreInTurn count chunks
IsDealt (Single at) size taken chunks = Unit {0}
IsDealt (Barrier at kind) size taken chunks = Unit {0}

pub dealt-same : (what : Meeting) (size other_size : ℕ) (taken other_taken : List ℕ) (chunks other_chunks : List (ℕ × ℕ)) → other_size ≡ size → other_taken ≡ taken → other_chunks ≡ chunks → IsDealt what size taken chunks → IsDealt what other_size other_taken other_chunks
dealt-same what size other_size taken other_taken chunks other_chunks sizes takens all dealt =
    subst (λ (n : ℕ). IsDealt what n other_taken other_chunks) (sym sizes)
    (subst (λ (ns : List ℕ). IsDealt what size ns other_chunks) (sym takens)
    (subst (λ (cs : List (ℕ × ℕ)). IsDealt what size taken cs) (sym all) dealt))

-- ---- nothing is dealt at first

total-none : (schedule : Schedule) (size count : ℕ) → IsTotal schedule size count []
total-none (Static chunk) size count = tt
total-none (Dynamic chunk) size count = sym (dealt_count-none (Dynamic chunk) size count)
total-none (Guided chunk) size count = sym (dealt_count-none (Guided chunk) size count)

order-none : (what : Meeting) (size : ℕ) → HasOrder what size (replicate TEAM_LIMIT 0) []
unfolding after_all
order-none what size = record { order = []; of_team = All-nil (λ (member : ℕ). member < size); met = refl; times = λ k. refl }

pub dealt-none : (what : Meeting) (size : ℕ) → IsDealt what size (replicate TEAM_LIMIT 0) []
dealt-none (Loop at start count step schedule) size = (total-none schedule size count, order-none (Loop at start count step schedule) size)
dealt-none (Sections at count) size = record { within = omega arith; times = λ k. sym (ap one_if (le-ltb k 0 (omega arith))) }
dealt-none (Single at) size = tt
dealt-none (Barrier at kind) size = tt

-- ---- the answers are the same

chunk_at-min : (first most count : ℕ) → chunk_at first (min most (count - first)) count ≡ chunk_at first most count
chunk_at-min first most count =
    let same : min (min most (count - first)) (count - first) ≡ min most (count - first) = omega arith in
    ap (λ (length : ℕ). if nat_lt first count then Some (first, length) else None) same

after-same : (schedule : Schedule) (size count chunks all first : ℕ) → chunks ≡ all → first ≡ dealt_count schedule size count all → chunk_after schedule size count chunks ≡ chunk_at first (next_length schedule size (count - first)) count
after-same schedule size count chunks all first many dealt =
    ap (λ (before : ℕ). chunk_at before (next_length schedule size (count - before)) count) (ap (dealt_count schedule size count) many ∙ sym dealt)

chunk-by-same : (schedule : Schedule) (size count member : ℕ) (taken : List ℕ) (own all : List (ℕ × ℕ)) → slice_index_or taken member 0 ≡ length own → sum taken ≡ length all → IsTotal schedule size count all → counters.chunk_of schedule size count taken member ≡ chunk_by schedule size count member own all
chunk-by-same (Static chunk) size count member taken own all own_many many total = ap (own_chunk chunk size count member) own_many
chunk-by-same (Dynamic chunk) size count member taken own all own_many many total =
    after-same (Dynamic chunk) size count (sum taken) (length all) (iterations_of all) many total ∙ chunk_at-min (iterations_of all) chunk count
chunk-by-same (Guided chunk) size count member taken own all own_many many total =
    after-same (Guided chunk) size count (sum taken) (length all) (iterations_of all) many total
    ∙ chunk_at-min (iterations_of all) (max chunk (div_ceil (count - iterations_of all) size)) count

pub chunk-same : (what : Meeting) (size member : ℕ) (taken : List ℕ) (own all : List (ℕ × ℕ)) → slice_index_or taken member 0 ≡ length own → sum taken ≡ length all → IsDealt what size taken all → counters.chunk_in what size taken member ≡ chunk_in what size member own all
chunk-same (Loop at start count step schedule) size member taken own all own_many many dealt = chunk-by-same schedule size count member taken own all own_many many dealt.0
chunk-same (Sections at count) size member taken own all own_many many dealt = refl
chunk-same (Single at) size member taken own all own_many many dealt = refl
chunk-same (Barrier at kind) size member taken own all own_many many dealt = refl

pub section-same : (what : Meeting) (taken : List ℕ) (all : List (ℕ × ℕ)) → sum taken ≡ length all → counters.section_in what taken ≡ section_in what all
section-same (Loop at start count step schedule) taken all many = refl
section-same (Sections at count) taken all many = ap (λ (n : ℕ). if nat_lt n count then Some n else None) many
section-same (Single at) taken all many = refl
section-same (Barrier at kind) taken all many = refl

-- ---- one more is dealt

one-more-is : (iteration : ℕ) (chunk : ℕ × ℕ) → one (has_iteration iteration) chunk ≡ one_if (has_iteration iteration chunk)
one-more-is iteration chunk = cond-one (has_iteration iteration chunk)
  where
    cond-one : (test : Bool) → cond test 1 0 ≡ one_if test
    cond-one true = refl
    cond-one false = refl

times-is-more : (chunks more : List (ℕ × ℕ)) (chunk : ℕ × ℕ) (iteration : ℕ) → IsMore chunks more chunk → times_dealt more iteration ≡ times_dealt chunks iteration + one_if (has_iteration iteration chunk)
times-is-more chunks more chunk iteration is = is.sums (one (has_iteration iteration)) ∙ ap (λ n. times_dealt chunks iteration + n) (one-more-is iteration chunk)

chunk_at-length : (first most count : ℕ) (chunk : ℕ × ℕ) → chunk_at first most count ≡ Some chunk → chunk.1 ≡ min most (count - first)
chunk_at-length first most count chunk same = sym (ap (λ (x : ℕ × ℕ). x.1) (cond_some (nat_lt first count) (first, min most (count - first)) chunk same).1)

total-more : (schedule : Schedule) (size count first : ℕ) (chunks more : List (ℕ × ℕ)) (chunk : ℕ × ℕ) → IsMore chunks more chunk → first ≡ dealt_count schedule size count (length chunks) → iterations_of chunks ≡ first → chunk.1 ≡ next_length schedule size (count - first) → iterations_of more ≡ dealt_count schedule size count (length more)
total-more schedule size count first chunks more chunk is dealt total next =
    is.sums (λ (x : ℕ × ℕ). x.1)
    ∙ ap₂ (λ (m n : ℕ). m + n) total next
    ∙ ap (λ (before : ℕ). before + next_length schedule size (count - before)) dealt
    ∙ sym (dealt_count-more schedule size count (length chunks))
    ∙ ap (dealt_count schedule size count) (sym is.long)

total-next : (schedule : Schedule) (size count member : ℕ) (own chunks more : List (ℕ × ℕ)) (chunk : ℕ × ℕ) → IsMore chunks more chunk → IsTotal schedule size count chunks → chunk_by schedule size count member own chunks ≡ Some chunk → IsTotal schedule size count more
total-next (Static length) size count member own chunks more chunk is total answer = tt
total-next (Dynamic length) size count member own chunks more chunk is total answer =
    total-more (Dynamic length) size count (iterations_of chunks) chunks more chunk is total refl (chunk_at-length (iterations_of chunks) length count chunk answer)
total-next (Guided length) size count member own chunks more chunk is total answer =
    total-more (Guided length) size count (iterations_of chunks) chunks more chunk is total refl
    (chunk_at-length (iterations_of chunks) (max length (div_ceil (count - iterations_of chunks) size)) count chunk answer)

-- one member more asks
after-push : (size : ℕ) (dealt : Deal) (order : List ℕ) (member : ℕ) → after_all size dealt (order ++ member ∷ []) ≡ after_asking size (after_all size dealt order) member
unfolding after_all
after-push size dealt [] member = refl
after-push size dealt (other ∷ order) member = after-push size (after_asking size dealt other) order member

order-next : (what : Meeting) (size member : ℕ) (taken : List ℕ) (chunks more : List (ℕ × ℕ)) (chunk : ℕ × ℕ) → member < size → IsMore chunks more chunk → counters.chunk_in what size taken member ≡ Some chunk → HasOrder what size taken chunks → HasOrder what size (one_more taken member) more
order-next what size member taken chunks more chunk of_team is answer has =
    let now = after_all size (none_dealt what) has.order in
    let answered : next_chunk_of now.met size member ≡ Some chunk = ap (λ (met : TeamMeeting). next_chunk_of met size member) has.met ∙ answer in
    let asked : after_all size (none_dealt what) (has.order ++ member ∷ []) ≡ with_chunk now member (Some chunk) =
    after-push size (none_dealt what) has.order member ∙ ap (with_chunk now member) answered in
    record {
      order = has.order ++ member ∷ [];
      of_team = All-push (λ (m : ℕ). m < size) has.order member has.of_team of_team;
      met = ap (λ (d : Deal). d.met) asked ∙ ap (λ (met : TeamMeeting). with_taken met member) has.met;
      times = λ k.
          ap (λ (d : Deal). times_dealt d.chunks k) asked
          ∙ times-more now member k (Some chunk)
          ∙ ap (λ n. n + one_if (has_iteration k chunk)) (has.times k)
          ∙ sym (times-is-more chunks more chunk k is);
    }

pub dealt-chunk : (what : Meeting) (size member : ℕ) (taken : List ℕ) (own chunks more : List (ℕ × ℕ)) (chunk : ℕ × ℕ) → member < size → IsMore chunks more chunk → counters.chunk_in what size taken member ≡ Some chunk → chunk_in what size member own chunks ≡ Some chunk → IsDealt what size taken chunks → IsDealt what size (one_more taken member) more
dealt-chunk (Loop at start count step schedule) size member taken own chunks more chunk of_team is answer said dealt =
    (total-next schedule size count member own chunks more chunk is dealt.0 said, order-next (Loop at start count step schedule) size member taken chunks more chunk of_team is answer dealt.1)
dealt-chunk (Sections at count) size member taken own chunks more chunk of_team is answer said dealt = absurd cc
dealt-chunk (Single at) size member taken own chunks more chunk of_team is answer said dealt = absurd cc
dealt-chunk (Barrier at kind) size member taken own chunks more chunk of_team is answer said dealt = absurd cc

turn-next : (count : ℕ) (chunks more : List (ℕ × ℕ)) (section : ℕ) → IsMore chunks more (section, 1) → AreInTurn count chunks → section ≡ length chunks → section < count → AreInTurn count more
turn-next count chunks more section is turn first within =
    record {
      within = omega (arith, is.long);
      times = λ k.
          times-is-more chunks more (section, 1) k is
          ∙ ap (λ n. n + one_if (has_iteration k (section, 1))) (turn.times k ∙ ap (λ n. one_if (nat_lt k n)) (sym first))
          ∙ times-next k section 1
          ∙ ap (λ n. one_if (nat_lt k n)) (ap (λ n. n + 1) first ∙ sym is.long);
    }

pub dealt-section : (what : Meeting) (size member : ℕ) (taken : List ℕ) (chunks more : List (ℕ × ℕ)) (section : ℕ) → IsMore chunks more (section, 1) → section_in what chunks ≡ Some section → IsDealt what size taken chunks → IsDealt what size (one_more taken member) more
dealt-section (Loop at start count step schedule) size member taken chunks more section is said dealt = absurd cc
dealt-section (Sections at count) size member taken chunks more section is said dealt =
    let both = cond_some (nat_lt (length chunks) count) (length chunks) section said in
    let below = ltb-true (length chunks) count both.0 in
    turn-next count chunks more section is dealt (sym both.1) (omega (arith, both.1, below))
dealt-section (Single at) size member taken chunks more section is said dealt = absurd cc
dealt-section (Barrier at kind) size member taken chunks more section is said dealt = absurd cc
