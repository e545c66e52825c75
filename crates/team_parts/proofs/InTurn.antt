-- A loop whose next chunk goes to whoever asks deals each iteration once.
use Rattle.std.proofs.Common.{◌≡◌, ℕ, ℤ, ◌+◌, ◌-◌, ◌<◌, ◌≤◌, nat_lt, Option, Some, None, List, length, sum, refl, sym, ap, ◌∙◌, arith}
use Rattle.std.proofs.lemmas.Bool.{le-ltb}
use Rattle.std.proofs.lemmas.List.{length-set}
use Rattle.team_parts.specs.declared.meeting.Schedule.{Schedule}
use Rattle.team_parts.specs.declared.meeting.Meeting.{Meeting}
use Rattle.team_parts.specs.declared.meeting.Meeting.TheVariants.{Loop}
use Rattle.team_parts.specs.declared.meeting.TheConstants.{TEAM_LIMIT}
use Rattle.team_parts.specs.Chunks.{next_length, dealt_count, chunk_after, chunk_of, chunk_in, next_chunk_of}
use Rattle.team_parts.specs.Dealing.{Deal, none_dealt, with_chunk, after_asking, after_all, has_iteration, times_dealt, one_if, IsDealtOut, chunks_dealt}
use Rattle.team_parts.proofs.Counted.{dealt_count-none, next-chunk}
use Rattle.team_parts.proofs.Orders.{all-keep, times-more, times-next, chunk_at-none}

-- so far each iteration before the next chunk was dealt once
record IsInTurn (what : Meeting) (schedule : Schedule) (size count iteration : ℕ) (dealt : Deal) : Type 0 where
  pub what_met : dealt.met.what ≡ what
  pub places : length dealt.met.taken ≡ TEAM_LIMIT
  pub within : dealt_count schedule size count (sum dealt.met.taken) ≤ count
  pub times : times_dealt dealt.chunks iteration ≡ one_if (nat_lt iteration (dealt_count schedule size count (sum dealt.met.taken)))

in-turn-none : (what : Meeting) (schedule : Schedule) (size count iteration : ℕ) → IsInTurn what schedule size count iteration (none_dealt what)
in-turn-none what schedule size count iteration =
    let none = dealt_count-none schedule size count in
    record {
      what_met = refl;
      places = refl;
      within = omega (arith, none);
      times = sym (ap (λ n. one_if (nat_lt iteration n)) none ∙ ap one_if (le-ltb iteration 0 (omega arith)));
    }

in-turn-more : (what : Meeting) (schedule : Schedule) (size count iteration : ℕ) → ((rest : ℕ) → next_length schedule size rest ≤ rest) → ((rest : ℕ) → 0 < rest → 1 ≤ next_length schedule size rest) → (dealt : Deal) (member : ℕ) (answer : Option (ℕ × ℕ)) → member < TEAM_LIMIT → chunk_after schedule size count (sum dealt.met.taken) ≡ answer → IsInTurn what schedule size count iteration dealt → IsInTurn what schedule size count iteration (with_chunk dealt member answer)
in-turn-more what schedule size count iteration most least dealt member None of_team same at = at
in-turn-more what schedule size count iteration most least dealt member (Some chunk) of_team same at =
    let next = next-chunk schedule size count dealt.met.taken member chunk most least (omega (arith, at.places)) same in
    record {
      what_met = at.what_met;
      places = length-set dealt.met.taken member _ ∙ at.places;
      within = omega (arith, next.within, next.dealt);
      times =
          times-more dealt member iteration (Some chunk)
          ∙ ap (λ n. n + one_if (has_iteration iteration chunk)) (at.times ∙ ap (λ n. one_if (nat_lt iteration n)) (sym next.first))
          ∙ times-next iteration chunk.0 chunk.1
          ∙ ap (λ n. one_if (nat_lt iteration n)) next.dealt;
    }

-- a schedule that deals by what all members took
pub in-turn-once : (at : ℕ) (start : ℤ) (count : ℕ) (step : ℤ) (schedule : Schedule) (size : ℕ) (order : List ℕ) → let what = Loop at start count step schedule in ((taken : List ℕ) (member : ℕ) → chunk_of schedule size count taken member ≡ chunk_after schedule size count (sum taken)) → ((rest : ℕ) → next_length schedule size rest ≤ rest) → ((rest : ℕ) → 0 < rest → 1 ≤ next_length schedule size rest) → IsDealtOut what size order → (iteration : ℕ) → times_dealt (chunks_dealt what size order) iteration ≡ one_if (nat_lt iteration count)
in-turn-once at start count step schedule size order by_all most least out iteration =
    let what = Loop at start count step schedule in
    let P : Deal → Type 0 = λ dealt. IsInTurn what schedule size count iteration dealt in
    let answered : (dealt : Deal) (member : ℕ) → P dealt → next_chunk_of dealt.met size member ≡ chunk_after schedule size count (sum dealt.met.taken) =
    λ dealt member so. ap (λ (w : Meeting). chunk_in w size dealt.met.taken member) so.what_met ∙ by_all dealt.met.taken member in
    let asked : (dealt : Deal) (member : ℕ) → member < size → P dealt → P (after_asking size dealt member) =
    λ dealt member of_team so. in-turn-more what schedule size count iteration most least dealt member (next_chunk_of dealt.met size member) (omega (arith, out.few)) (sym (answered dealt member so)) so in
    let last = after_all size (none_dealt what) order in
    let so = all-keep size P asked (none_dealt what) order out.of_team (in-turn-none what schedule size count iteration) in
    let before = dealt_count schedule size count (sum last.met.taken) in
    let ended = chunk_at-none before (next_length schedule size (count - before)) count (sym (answered last 0 so) ∙ out.over 0 out.some) in
    let whole : before ≡ count = omega (arith, so.within) in
    so.times ∙ ap (λ n. one_if (nat_lt iteration n)) whole
