-- What is dealt stays as the definitions have it.
use Rattle.std.proofs.Common.{◌≡◌, ℕ, ℤ, ◌+◌, ◌-◌, ◌<◌, ◌≤◌, min, Bool, true, false, cond, nat_lt, Some, None, List, length, sum, slice_index_or, refl, sym, ap, ◌∙◌, add-one, arith}
use Rattle.std.proofs.lemmas.Bool.{ltb-true}
use Rattle.std.proofs.lemmas.List.{length-set}
use Rattle.std.proofs.lemmas.List.Sums.{sum_by-set}
use Rattle.team_parts.specs.declared.meeting.Schedule.{Schedule}
use Rattle.team_parts.specs.declared.meeting.Schedule.TheVariants.{Static, Dynamic, Guided}
use Rattle.team_parts.specs.declared.meeting.Meeting.{Meeting}
use Rattle.team_parts.specs.declared.meeting.Meeting.TheVariants.{Loop, Sections, Single, Barrier}
use Rattle.team_parts.specs.declared.meeting.TheConstants.{TEAM_LIMIT}
use Rattle.team_parts.specs.declared.gathering.Gathering.{Gathering}
use Rattle.team_parts.specs.Meetings.{one_more, HasChunk}
use Rattle.team_parts.specs.Chunks.{chunk_at, next_length, dealt_count, chunk_after, chunk_of, chunk_in, next_chunk_of}
use Rattle.team_parts.specs.Gatherings.{meeting_of, fresh_gathering, dealt_count_by, dealt_count_of, shared_by, shared_length, with_dealt}
use Rattle.team_parts.specs.Sound.{IsCounted}

pub sum-one_more : (taken : List ℕ) (member : ℕ) → member < length taken → sum (one_more taken member) ≡ sum taken + 1
sum-one_more taken member within = omega (arith, sum_by-set (λ (n : ℕ). n) taken member (slice_index_or taken member 0 + 1) 0 within)

pub dealt_count-none : (schedule : Schedule) (size count : ℕ) → dealt_count schedule size count 0 ≡ 0
unfolding dealt_count
dealt_count-none schedule size count = refl

pub dealt_count-more : (schedule : Schedule) (size count chunks : ℕ) → dealt_count schedule size count (chunks + 1) ≡ dealt_count schedule size count chunks + next_length schedule size (count - dealt_count schedule size count chunks)
unfolding dealt_count
dealt_count-more schedule size count chunks = rw add-one refl

none-dealt-by : (schedule : Schedule) (size count : ℕ) → dealt_count_by schedule size count 0 ≡ 0
none-dealt-by (Static chunk) size count = refl
none-dealt-by (Dynamic chunk) size count = dealt_count-none (Dynamic chunk) size count
none-dealt-by (Guided chunk) size count = dealt_count-none (Guided chunk) size count

none-dealt : (what : Meeting) (size : ℕ) → dealt_count_of what size 0 ≡ 0
none-dealt (Loop at start count step schedule) size = none-dealt-by schedule size count
none-dealt (Sections at count) size = refl
none-dealt (Single at) size = refl
none-dealt (Barrier at kind) size = refl

none-shared-by : (schedule : Schedule) → shared_by schedule 0 ≡ 0
none-shared-by (Static chunk) = refl
none-shared-by (Dynamic chunk) = refl
none-shared-by (Guided chunk) = refl

none-shared : (what : Meeting) → shared_length what 0 ≡ 0
none-shared (Loop at start count step schedule) = none-shared-by schedule
none-shared (Sections at count) = refl
none-shared (Single at) = refl
none-shared (Barrier at kind) = refl

pub counted-fresh : (what : Meeting) (size : ℕ) → HasChunk what → IsCounted size (fresh_gathering what)
counted-fresh what size chunk =
    record {
      dealt = sym (none-dealt what size);
      within = omega (arith, none-shared what);
      places = refl;
      chunk = chunk;
    }

cond-some : {X : Type 0} (b : Bool) (x y : X) → cond b (Some x) None ≡ Some y → (b ≡ true) × (x ≡ y)
cond-some true x y same = (refl, cc)
cond-some false x y same = absurd cc

record ChunkAt (start most count : ℕ) (chunk : ℕ × ℕ) : Type 0 where
  pub within : start < count
  pub first : chunk.0 ≡ start
  pub length : chunk.1 ≡ min most (count - start)

chunk_at-some : (start most count : ℕ) (chunk : ℕ × ℕ) → chunk_at start most count ≡ Some chunk → ChunkAt start most count chunk
chunk_at-some start most count chunk same =
    let both = cond-some (nat_lt start count) (start, min most (count - start)) chunk same in
    record {
      within = ltb-true start count both.0;
      first = sym (ap (λ (x : ℕ × ℕ). x.0) both.1);
      length = sym (ap (λ (x : ℕ × ℕ). x.1) both.1);
    }

-- a chunk of those that are dealt to the members that ask
pub record NextChunk (schedule : Schedule) (size count : ℕ) (taken : List ℕ) (member : ℕ) (chunk : ℕ × ℕ) : Type 0 where
  pub first : chunk.0 ≡ dealt_count schedule size count (sum taken)
  pub some : 1 ≤ chunk.1
  pub within : chunk.0 + chunk.1 ≤ count
  pub dealt : chunk.0 + chunk.1 ≡ dealt_count schedule size count (sum (one_more taken member))
  pub one : sum (one_more taken member) ≡ sum taken + 1

pub next-chunk : (schedule : Schedule) (size count : ℕ) (taken : List ℕ) (member : ℕ) (chunk : ℕ × ℕ) → ((rest : ℕ) → next_length schedule size rest ≤ rest) → ((rest : ℕ) → 0 < rest → 1 ≤ next_length schedule size rest) → member < length taken → chunk_after schedule size count (sum taken) ≡ Some chunk → NextChunk schedule size count taken member chunk
next-chunk schedule size count taken member chunk most least of_team same =
    let before = dealt_count schedule size count (sum taken) in
    let at = chunk_at-some before (next_length schedule size (count - before)) count chunk same in
    let one = sum-one_more taken member of_team in
    let more = dealt_count-more schedule size count (sum taken) in
    record {
      first = at.first;
      some = omega (arith, at.length, at.within, least (count - before));
      within = omega (arith, at.first, at.length, at.within);
      dealt = omega (arith, at.first, at.length, at.within, most (count - before)) ∙ sym (ap (dealt_count schedule size count) one ∙ more);
      one = one;
    }

pub dynamic-most : (chunk size rest : ℕ) → next_length (Dynamic chunk) size rest ≤ rest
dynamic-most chunk size rest = omega arith

pub guided-most : (chunk size rest : ℕ) → next_length (Guided chunk) size rest ≤ rest
guided-most chunk size rest = omega arith

pub dynamic-least : (chunk size rest : ℕ) → 1 ≤ chunk → 0 < rest → 1 ≤ next_length (Dynamic chunk) size rest
dynamic-least chunk size rest some left = omega arith

pub guided-least : (chunk size rest : ℕ) → 1 ≤ chunk → 0 < rest → 1 ≤ next_length (Guided chunk) size rest
guided-least chunk size rest some left = omega arith

-- a meeting by its parts
abbrev gathered : Meeting → List ℕ → ℕ → Gathering
gathered what taken dealt = record { what = what; taken = taken; dealt = dealt }

length-one_more : (taken : List ℕ) (member : ℕ) → length (one_more taken member) ≡ length taken
length-one_more taken member = length-set taken member _

counted-loop : (at : ℕ) (start : ℤ) (count : ℕ) (step : ℤ) (schedule : Schedule) (size : ℕ) (taken : List ℕ) (dealt member : ℕ) (chunk : ℕ × ℕ) → let what = Loop at start count step schedule in member < TEAM_LIMIT → IsCounted size (gathered what taken dealt) → chunk_of schedule size count taken member ≡ Some chunk → IsCounted size (with_dealt (gathered what taken dealt) member (shared_by schedule chunk.1))
counted-loop at start count step (Static length) size taken dealt member chunk of_team counted same =
    record { dealt = omega (arith, counted.dealt); within = omega arith; places = length-one_more taken member ∙ counted.places; chunk = counted.chunk }
counted-loop at start count step (Dynamic length) size taken dealt member chunk of_team counted same =
    let next = next-chunk (Dynamic length) size count taken member chunk (dynamic-most length size) (λ rest. dynamic-least length size rest counted.chunk) (omega (arith, counted.places)) same in
    record {
      dealt = omega (arith, counted.dealt, next.first) ∙ next.dealt;
      within = omega (arith, counted.within, next.one, next.some);
      places = length-one_more taken member ∙ counted.places;
      chunk = counted.chunk;
    }
counted-loop at start count step (Guided length) size taken dealt member chunk of_team counted same =
    let next = next-chunk (Guided length) size count taken member chunk (guided-most length size) (λ rest. guided-least length size rest counted.chunk) (omega (arith, counted.places)) same in
    record {
      dealt = omega (arith, counted.dealt, next.first) ∙ next.dealt;
      within = omega (arith, counted.within, next.one, next.some);
      places = length-one_more taken member ∙ counted.places;
      chunk = counted.chunk;
    }

counted-by : (what : Meeting) (size : ℕ) (taken : List ℕ) (dealt member : ℕ) (chunk : ℕ × ℕ) → member < TEAM_LIMIT → IsCounted size (gathered what taken dealt) → chunk_in what size taken member ≡ Some chunk → IsCounted size (with_dealt (gathered what taken dealt) member (shared_length what chunk.1))
counted-by (Loop at start count step schedule) size taken dealt member chunk of_team counted same =
    counted-loop at start count step schedule size taken dealt member chunk of_team counted same
counted-by (Sections at count) size taken dealt member chunk of_team counted same = absurd cc
counted-by (Single at) size taken dealt member chunk of_team counted same = absurd cc
counted-by (Barrier at kind) size taken dealt member chunk of_team counted same = absurd cc

-- once the member has taken its next chunk
pub counted-chunk : (size : ℕ) (gathering : Gathering) (member : ℕ) (chunk : ℕ × ℕ) → member < TEAM_LIMIT → IsCounted size gathering → next_chunk_of (meeting_of gathering) size member ≡ Some chunk → IsCounted size (with_dealt gathering member (shared_length gathering.what chunk.1))
counted-chunk size gathering member chunk of_team counted same =
    counted-by gathering.what size gathering.taken gathering.dealt member chunk of_team counted same
