-- A static loop deals each iteration once.
use Rattle.std.proofs.Common.{◌≡◌, ℕ, ℤ, ◌+◌, ◌<◌, ◌≤◌, nat_lt, Option, Some, None, List, slice_index_or, get_or-set_same, get_or-set_other, inl, inr, refl, sym, ap, subst, ◌∙◌, arith}
use Rattle.std.proofs.lemmas.Bool.{cases_lt, cases_eq, lt-ltb, le-ltb}
use Rattle.std.proofs.Common.{length as list_length}
use Rattle.std.proofs.lemmas.List.{length-set, get_or-replicate}
use Rattle.team_parts.specs.declared.meeting.Schedule.TheVariants.{Static}
use Rattle.team_parts.specs.declared.meeting.Meeting.{Meeting}
use Rattle.team_parts.specs.declared.meeting.Meeting.TheVariants.{Loop}
use Rattle.team_parts.specs.declared.meeting.TheConstants.{TEAM_LIMIT}
use Rattle.team_parts.specs.Meetings.{one_more}
use Rattle.team_parts.specs.Chunks.{own_chunk, chunk_in, next_chunk_of}
use Rattle.team_parts.specs.Dealing.{Deal, none_dealt, with_chunk, after_asking, after_all, times_dealt, one_if, IsDealtOut, chunks_dealt}
use Rattle.team_parts.proofs.Orders.{all-keep, hits, times-more, sums}
use Rattle.team_parts.proofs.Owners.{IsPlaced, place-of, hits-past}

-- so far the iteration was dealt once where its owner has come past its turn, and not at all before
record IsOwned (what : Meeting) (iteration owner turn : ℕ) (dealt : Deal) : Type 0 where
  pub what_met : dealt.met.what ≡ what
  pub places : list_length dealt.met.taken ≡ TEAM_LIMIT
  pub times : times_dealt dealt.chunks iteration ≡ one_if (nat_lt turn (slice_index_or dealt.met.taken owner 0))

-- what a chunk adds that is the owner's, or another member's
owner-times : (taken : List ℕ) (length size count iteration owner turn : ℕ) → owner < list_length taken → IsPlaced length size count iteration owner turn → one_if (nat_lt turn (slice_index_or taken owner 0)) + hits iteration (own_chunk length size count owner (slice_index_or taken owner 0)) ≡ one_if (nat_lt turn (slice_index_or (one_more taken owner) owner 0))
owner-times taken length size count iteration owner turn within placed =
    let now = slice_index_or taken owner 0 in
    let next = slice_index_or (one_more taken owner) owner 0 in
    let one : next ≡ now + 1 = get_or-set_same taken owner (now + 1) 0 within in
    elim (cases_eq now turn) [
      | inl here ↦
          sums _ _ _ 0 1 1
          (ap one_if (le-ltb turn now (omega arith)))
          (ap (λ at. hits iteration (own_chunk length size count owner at)) here ∙ placed.here)
          (ap one_if (lt-ltb turn next (omega arith)))
          refl
      | inr apart ↦
          let none = placed.other owner now placed.of_team (λ _ at. apart at) in
          elim (cases_lt turn now) [
            | inl past ↦ sums _ _ _ 1 0 1 (ap one_if (lt-ltb turn now past)) none (ap one_if (lt-ltb turn next (omega arith))) refl
            | inr before ↦ sums _ _ _ 0 0 0 (ap one_if (le-ltb turn now before)) none (ap one_if (le-ltb turn next (omega arith))) refl
          ]
    ]

owned-times : (taken : List ℕ) (length size count iteration owner turn member : ℕ) → member < size → member < list_length taken → IsPlaced length size count iteration owner turn → one_if (nat_lt turn (slice_index_or taken owner 0)) + hits iteration (own_chunk length size count member (slice_index_or taken member 0)) ≡ one_if (nat_lt turn (slice_index_or (one_more taken member) owner 0))
owned-times taken length size count iteration owner turn member of_team within placed = elim (cases_eq owner member) [
  | inl own ↦
      subst (λ m. one_if (nat_lt turn (slice_index_or taken owner 0)) + hits iteration (own_chunk length size count m (slice_index_or taken m 0)) ≡ one_if (nat_lt turn (slice_index_or (one_more taken m) owner 0))) own
      (owner-times taken length size count iteration owner turn (omega arith) placed)
  | inr other ↦
      let none = placed.other member (slice_index_or taken member 0) of_team (λ own _. other (sym own)) in
      let kept = get_or-set_other taken member owner (slice_index_or taken member 0 + 1) 0 other in
      let same = ap (λ n. one_if (nat_lt turn n)) kept in
      omega (arith, none, same)
]

owned-more : (what : Meeting) (length size count iteration owner turn : ℕ) (dealt : Deal) (member : ℕ) (answer : Option (ℕ × ℕ)) → member < size → size ≤ TEAM_LIMIT → IsPlaced length size count iteration owner turn → own_chunk length size count member (slice_index_or dealt.met.taken member 0) ≡ answer → IsOwned what iteration owner turn dealt → IsOwned what iteration owner turn (with_chunk dealt member answer)
owned-more what length size count iteration owner turn dealt member None of_team few placed same so = so
owned-more what length size count iteration owner turn dealt member (Some chunk) of_team few placed same so =
    record {
      what_met = so.what_met;
      places = length-set dealt.met.taken member _ ∙ so.places;
      times =
          times-more dealt member iteration (Some chunk)
          ∙ ap (λ n. n + hits iteration (Some chunk)) so.times
          ∙ ap (λ a. one_if (nat_lt turn (slice_index_or dealt.met.taken owner 0)) + hits iteration a) (sym same)
          ∙ owned-times dealt.met.taken length size count iteration owner turn member of_team (omega (arith, so.places)) placed;
    }

-- what a member is answered
answered : (at : ℕ) (start : ℤ) (count : ℕ) (step : ℤ) (length size : ℕ) (dealt : Deal) (member : ℕ) → dealt.met.what ≡ Loop at start count step (Static length) → next_chunk_of dealt.met size member ≡ own_chunk length size count member (slice_index_or dealt.met.taken member 0)
answered at start count step length size dealt member met = ap (λ (what : Meeting). chunk_in what size dealt.met.taken member) met

-- an iteration of the loop
owned-once : (at : ℕ) (start : ℤ) (count : ℕ) (step : ℤ) (length size : ℕ) (order : List ℕ) → let what = Loop at start count step (Static length) in IsDealtOut what size order → (iteration owner turn : ℕ) → IsPlaced length size count iteration owner turn → times_dealt (chunks_dealt what size order) iteration ≡ 1
owned-once at start count step length size order out iteration owner turn placed =
    let what = Loop at start count step (Static length) in
    let P : Deal → Type 0 = λ dealt. IsOwned what iteration owner turn dealt in
    let asked : (dealt : Deal) (member : ℕ) → member < size → P dealt → P (after_asking size dealt member) =
    λ dealt member of_team so. owned-more what length size count iteration owner turn dealt member (next_chunk_of dealt.met size member) of_team out.few placed (sym (answered at start count step length size dealt member so.what_met)) so in
    let nothing = get_or-replicate TEAM_LIMIT owner 0 0 (omega (arith, placed.of_team, out.few)) in
    let none : P (none_dealt what) =
    record {
      what_met = refl;
      places = refl;
      times = sym (ap (λ n. one_if (nat_lt turn n)) nothing ∙ ap one_if (le-ltb turn 0 (omega arith)));
    } in
    let last = after_all size (none_dealt what) order in
    let so = all-keep size P asked (none_dealt what) order out.of_team none in
    let ended = sym (answered at start count step length size last owner so.what_met) ∙ out.over owner placed.of_team in
    so.times ∙ ap one_if (lt-ltb turn _ (placed.comes _ ended))

-- anything else
record IsPast (what : Meeting) (iteration : ℕ) (dealt : Deal) : Type 0 where
  pub what_met : dealt.met.what ≡ what
  pub times : times_dealt dealt.chunks iteration ≡ 0

past-more : (what : Meeting) (length size count iteration : ℕ) (dealt : Deal) (member : ℕ) (answer : Option (ℕ × ℕ)) → count ≤ iteration → own_chunk length size count member (slice_index_or dealt.met.taken member 0) ≡ answer → IsPast what iteration dealt → IsPast what iteration (with_chunk dealt member answer)
past-more what length size count iteration dealt member None past same so = so
past-more what length size count iteration dealt member (Some chunk) past same so =
    let none = ap (hits iteration) (sym same) ∙ hits-past length size count iteration member _ past in
    record { what_met = so.what_met; times = times-more dealt member iteration (Some chunk) ∙ sums _ _ _ 0 0 0 so.times none refl refl }

past-never : (at : ℕ) (start : ℤ) (count : ℕ) (step : ℤ) (length size : ℕ) (order : List ℕ) → let what = Loop at start count step (Static length) in IsDealtOut what size order → (iteration : ℕ) → count ≤ iteration → times_dealt (chunks_dealt what size order) iteration ≡ 0
past-never at start count step length size order out iteration past =
    let what = Loop at start count step (Static length) in
    let P : Deal → Type 0 = λ dealt. IsPast what iteration dealt in
    let asked : (dealt : Deal) (member : ℕ) → member < size → P dealt → P (after_asking size dealt member) =
    λ dealt member of_team so. past-more what length size count iteration dealt member (next_chunk_of dealt.met size member) past (sym (answered at start count step length size dealt member so.what_met)) so in
    let so = all-keep size P asked (none_dealt what) order out.of_team (record { what_met = refl; times = refl }) in
    so.times

pub static-once : (at : ℕ) (start : ℤ) (count : ℕ) (step : ℤ) (length size : ℕ) (order : List ℕ) → let what = Loop at start count step (Static length) in IsDealtOut what size order → (iteration : ℕ) → times_dealt (chunks_dealt what size order) iteration ≡ one_if (nat_lt iteration count)
static-once at start count step length size order out iteration = elim (cases_lt iteration count) [
  | inl within ↦
      let place = place-of length size count iteration out.some within in
      owned-once at start count step length size order out iteration place.owner place.turn place.placed
      ∙ sym (ap one_if (lt-ltb iteration count within))
  | inr past ↦ past-never at start count step length size order out iteration past ∙ sym (ap one_if (le-ltb iteration count past))
]
