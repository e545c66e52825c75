-- Each event of a trace stands behind those before it.
use Rattle.std.proofs.Common.{ℕ, ◌≡◌, ◌<◌, ◌≤◌, ◌+◌, List, [], ◌∷◌, ◌++◌, length, get_or, take, drop, reverse, IfSome, Option, sym, ◌∙◌, ap, subst, append_assoc, arith}
use Rattle.std.proofs.lemmas.List.{drop_more, reverse-append, reverse-reverse, take-append-drop, take_more}
use Rattle.ompt_calls.specs.declared.event.EventRecord.{EventRecord}
use Rattle.trace_check.specs.declared.checker.Checker.{Checker}
use Rattle.trace_check.specs.Checking.{Checks, newest_seq}
use Rattle.trace_format.specs.declared.trace.Header.{Header}
use Rattle.tool_tasks.specs.Span.{AreRising}

next-above : (least : ℕ) (front : List EventRecord) (last event : EventRecord) (behind : List EventRecord)
    → AreRising least (front ++ last ∷ event ∷ behind) → last.seq < event.seq
next-above least [] last event behind rising = let e : last.seq + 1 ≤ event.seq = rising.1.0 in omega arith
next-above least (first ∷ front) last event behind rising = next-above (first.seq + 1) front last event behind rising.1

above : (past : List EventRecord) (event : EventRecord) (behind : List EventRecord) → AreRising 0 (reverse past ++ event ∷ behind)
    → IfSome (newest_seq past) (λ (last : ℕ). last < event.seq)
above [] event behind rising = tt
above (last ∷ past) event behind rising =
    next-above 0 (reverse past) last event behind (subst (AreRising 0) (turned last past) rising)
  where
    turned : (last : EventRecord) (past : List EventRecord) → reverse (last ∷ past) ++ event ∷ behind ≡ reverse past ++ last ∷ event ∷ behind
    turned last past =
        ap (λ (front : List EventRecord). front ++ event ∷ behind) (reverse-append (last ∷ []) past) ∙ append_assoc (reverse past) (last ∷ []) (event ∷ behind)

-- a checker of the events before one checks one more
pub checks_next : (old new : Checker) (header : Header) (events read : List EventRecord) (place : ℕ) (none : EventRecord)
    → AreRising 0 events → read ≡ events → place < length read → Checks old header (take place events)
    → (IfSome old.last (λ (last : ℕ). last < (get_or read place none).seq) → Checks new header (take place events ++ get_or read place none ∷ []))
    → Checks new header (take (place + 1) events)
checks_next old new header events read place none rising same within checks steps =
    of_events (subst (λ (all : List EventRecord). place < length all) same within)
    (subst (λ (all : List EventRecord). IfSome old.last (λ (last : ℕ). last < (get_or all place none).seq) → Checks new header (take place events ++ get_or all place none ∷ [])) same steps)
  where
    of_events : place < length events → (IfSome old.last (λ (last : ℕ). last < (get_or events place none).seq) → Checks new header (take place events ++ get_or events place none ∷ []))
        → Checks new header (take (place + 1) events)
    of_events there steps =
        let event : EventRecord = get_or events place none in
        let parts : events ≡ take place events ++ event ∷ drop (place + 1) events =
        sym (take-append-drop place events) ∙ ap (λ (rest : List EventRecord). take place events ++ rest) (drop_more events place none there) in
        let apart : AreRising 0 (reverse (reverse (take place events)) ++ event ∷ drop (place + 1) events) =
        subst (λ (front : List EventRecord). AreRising 0 (front ++ event ∷ drop (place + 1) events)) (sym (reverse-reverse (take place events))) (subst (AreRising 0) parts rising) in
        let before : IfSome old.last (λ (last : ℕ). last < event.seq) =
        subst (λ (last : Option ℕ). IfSome last (λ (last : ℕ). last < event.seq)) (sym checks.last) (above (reverse (take place events)) event (drop (place + 1) events) apart) in
        subst (Checks new header) (sym (take_more events place none there)) (steps before)
