-- What a checker's verdict says of the events that it was told of.
use Rattle.std.proofs.Common.{◌≡◌, ℕ, suc, zero, ◌<◌, ◌≤◌, ◌==◌, ◌&&◌, ◌||◌, ◌⊎◌, Bool, true, false, not, if◌then◌else◌, List, [], ◌∷◌, ◌++◌, reverse, is_some, Option, Some, None, inl, inr, refl, sym, ap, subst, ◌∙◌, arith}
use Rattle.std.specs.List.{list_all}
use Rattle.std.specs.Option.{unwrap_or}
use Rattle.std.proofs.lemmas.Bool.Decides.{eqb_tells, nat_tests}
use Rattle.std.proofs.lemmas.List.{reverse-reverse}
use Rattle.ompt_calls.specs.declared.call.Call.{Call}
use Rattle.ompt_calls.specs.declared.call.Call.TheVariants.{Dispatch}
use Rattle.ompt_calls.specs.declared.event.EventRecord.{EventRecord}
use Rattle.trace_format.specs.declared.trace.EndMark.{EndMark}
use Rattle.trace_format.specs.declared.trace.Header.{Header}
use Rattle.trace_check.specs.declared.breach.Breach.{Breach}
use Rattle.trace_check.specs.declared.checker.Checker.{Checker}
use Rattle.trace_check.specs.Before.{events_of, has_ended, is_begin, is_end, is_just, is_of}
use Rattle.trace_check.specs.Checking.{BreaksOne, BrokenIn, Checks, KeptBroken, KeptSo, KeptWhole, PartialMask, Rises, Unbroken, entries_of, newest_seq}
use Rattle.trace_check.specs.Nested.{Broken, BrokenAt, BrokenMask, IsFirstBreach, Nested, has_returned, is_closed, is_whole_mask, last_seq}
use Rattle.trace_check.specs.Rules.{first_broken, keeps, keeps_dispatches, keeps_threads}
use Rattle.trace_check.proofs.Telling.{forgets}
use Rattle.trace_check.proofs.Firsts.{Apart, BreaksIn, apart, breaks_from, breaks_in, broken_at, earlier, first_breaks, first_least, first_to, keeps_each, last_newest, later, rises_before, rises_behind, same, unbroken_at}

-- ---- which breach is first

-- a breach of this rule at this place is the first of the two
abbrev AtLeast : ℕ → ℕ → ℕ → ℕ → Type 0
AtLeast rule seq other place = (seq < place) ⊎ ((seq ≡ place) × (rule ≤ other))

-- position 0 comes first
from-zero : (rule seq other place : ℕ) → seq ≡ 0 → rule ≤ other → AtLeast rule seq other place
from-zero rule seq other zero is least = inr (is, least)
from-zero rule seq other (suc place) is least = inl (omega arith)

-- rule 13 comes before rule 14
lesser : (seq other place : ℕ) → AtLeast 14 seq other place → AtLeast 13 seq other place
lesser seq other place (inl before) = inl before
lesser seq other place (inr at) = inr (at.0, omega (arith, at.1))

-- of two events that break a rule, where no event before the first one does
placed : (past a b c d : List EventRecord) (x y : EventRecord) (rule other : ℕ) → Rises past → past ≡ c ++ y ∷ d → Unbroken b →
    first_broken b x ≡ Some rule → keeps other d y ≡ false → Apart a b c d x y → AtLeast rule x.seq other y.seq
placed past a b c d x y rule other rises is unbroken first breaks (earlier m c_is b_is) =
    absurd (keeps_each d y other (unbroken_at m d y (subst Unbroken b_is unbroken)) breaks)
placed past a b c d x y rule other rises is unbroken first breaks (same a_is x_is b_is) =
    let there : keeps other b y ≡ false = subst (λ (l : List EventRecord). keeps other l y ≡ false) (sym b_is) breaks in
    let here : keeps other b x ≡ false = subst (λ (e : EventRecord). keeps other b e ≡ false) (sym x_is) there in
    inr (ap (λ (e : EventRecord). e.seq) x_is, first_least b x rule other first here)
placed past a b c d x y rule other rises is unbroken first breaks (later m a_is d_is) =
    let from : Rises (y ∷ d) = rises_behind c (y ∷ d) (subst Rises is rises) in
    inl (rises_before m b x y (subst (λ (l : List EventRecord). Rises (y ∷ l)) d_is from))

-- the first event that breaks a rule, against any that does
first-in : (past : List EventRecord) (rule seq other place : ℕ) → Rises past → BrokenIn past rule seq → BreaksIn past other place → AtLeast rule seq other place
first-in past rule seq other place rises first breaks =
    let places : Apart first.behind first.before breaks.newer breaks.older first.event breaks.event =
    apart first.behind first.before breaks.newer breaks.older first.event breaks.event (sym first.past_is ∙ breaks.past_is) in
    let least : AtLeast rule first.event.seq other breaks.event.seq =
    placed past first.behind first.before breaks.newer breaks.older first.event breaks.event rule other rises breaks.past_is first.unbroken first.breaks breaks.breaks places in
    subst (λ (n : ℕ). AtLeast rule n other place) (sym first.seq_is) (subst (λ (n : ℕ). AtLeast rule first.event.seq other n) (sym breaks.seq_is) least)

-- the first event that breaks a rule breaks it among all events
broken-there : (events : List EventRecord) (rule seq : ℕ) → BrokenIn (reverse events) rule seq → BrokenAt events rule seq
broken-there events rule seq first = broken_at events rule seq (record {
  newer = first.behind;
  event = first.event;
  older = first.before;
  past_is = first.past_is;
  breaks = first_breaks first.before first.event rule first.breaks;
  seq_is = first.seq_is;
})

-- ---- the end

-- the position of the newest event, and 0 where there is none
last-reversed : (past : List EventRecord) → last_seq (reverse past) ≡ unwrap_or (newest_seq past) 0
last-reversed [] = refl
last-reversed (event ∷ past) = last_newest past event

-- the last position, from the newest event
last-is : (events : List EventRecord) → last_seq events ≡ unwrap_or (newest_seq (reverse events)) 0
last-is events = ap last_seq (sym (reverse-reverse events)) ∙ last-reversed (reverse events)

-- a rule other than 14 at the newest event
not-last : (rule seq : ℕ) → rule ≤ 14 → ((rule == 14) && (seq == seq)) ≡ false → rule ≤ 13
not-last rule seq low other = grind (arith, nat_tests, low, other)

-- an event that breaks another rule than 14 at the end comes before rule 13 there
at-end : (behind before : List EventRecord) (event : EventRecord) (rule : ℕ) → Rises (behind ++ event ∷ before) → rule ≤ 14 →
    ((rule == 14) && is_just event.seq (newest_seq (behind ++ event ∷ before))) ≡ false →
    AtLeast rule event.seq 13 (unwrap_or (newest_seq (behind ++ event ∷ before)) 0)
at-end [] before event rule rises low other = inr (refl, not-last rule event.seq low other)
at-end (new ∷ behind) before event rule rises low other = inl (rises_before behind before event new rises)

-- the same of the first event that breaks a rule
first-at-end : (past : List EventRecord) (rule seq : ℕ) → Rises past → BrokenIn past rule seq → ((rule == 14) && is_just seq (newest_seq past)) ≡ false →
    AtLeast rule seq 13 (unwrap_or (newest_seq past) 0)
first-at-end past rule seq rises first other =
    let P : List EventRecord → Type 0 = λ (l : List EventRecord). ((rule == 14) && is_just first.event.seq (newest_seq l)) ≡ false in
    let other-here : P past = subst (λ (n : ℕ). ((rule == 14) && is_just n (newest_seq past)) ≡ false) first.seq_is other in
    let there = at-end first.behind first.before first.event rule (subst Rises first.past_is rises) (first_to first.before first.event rule first.breaks) (subst P first.past_is other-here) in
    subst (λ (n : ℕ). AtLeast rule n 13 (unwrap_or (newest_seq past) 0)) (sym first.seq_is)
    (subst (λ (l : List EventRecord). AtLeast rule first.event.seq 13 (unwrap_or (newest_seq l) 0)) (sym first.past_is) there)

-- ---- an event that breaks rule 14 alone leaves its thread without end

-- a test that cannot fail holds
pub holds : (b : Bool) → (b ≡ false → ⊥) → b ≡ true
holds true fails = refl
holds false fails = absurd (fails refl)

-- a thread that had no event begins
pub must-begin : (begins none ended : Bool) → (if begins then none else (not none && not ended)) ≡ true → none ≡ true → begins ≡ true
must-begin true none ended kept is = refl
must-begin false true ended kept is = cc
must-begin false false ended kept is = cc

-- a begin without an end fails the test on ends
both-fail : (begins ended rest : Bool) → begins ≡ true → ended ≡ false → ((not begins || ended) && rest) ≡ false
both-fail true false rest begins unended = refl
both-fail true true rest begins unended = cc
both-fail false ended rest begins unended = cc

-- tests fail where the later ones do
rest-fails : (first rest : Bool) → rest ≡ false → (first && rest) ≡ false
rest-fails true rest fails = fails
rest-fails false rest fails = refl

-- the begin of a thread that had an event and has no end stands among the events
begins-open : (past all : List EventRecord) (t : ℕ) → Unbroken past → (events_of t past == 0) ≡ false → has_ended t all ≡ false →
    list_all (λ (event : EventRecord). not (is_begin event.call) || has_ended event.thread all) past ≡ false
begins-open [] all t unbroken had unended = cc
begins-open (event ∷ past) all t unbroken had unended =
    elim (eqb_tells (events_of t past) 0) as (λ _. list_all (λ (event : EventRecord). not (is_begin event.call) || has_ended event.thread all) (event ∷ past) ≡ false) [
      | inl none ↦ (
          let of-it : event.thread ≡ t = grind (arith, nat_tests, had, none.0) in
          let kept : keeps_threads past event ≡ true = holds (keeps_threads past event) (keeps_each past event 2 unbroken.0) in
          let none-here : (events_of event.thread past == 0) ≡ true = subst (λ (n : ℕ). (events_of n past == 0) ≡ true) (sym of-it) none.0 in
          let begins = must-begin (is_begin event.call) (events_of event.thread past == 0) (has_ended event.thread past) kept none-here in
          let open-here : has_ended event.thread all ≡ false = subst (λ (n : ℕ). has_ended n all ≡ false) (sym of-it) unended in
          both-fail (is_begin event.call) (has_ended event.thread all) (list_all (λ (event : EventRecord). not (is_begin event.call) || has_ended event.thread all) past) begins open-here)
      | inr some ↦ rest-fails (not (is_begin event.call) || has_ended event.thread all) (list_all (λ (event : EventRecord). not (is_begin event.call) || has_ended event.thread all) past)
          (begins-open past all t unbroken.1 some.0 unended)
    ]

-- rule 14 is on dispatches alone
no-begin : (past : List EventRecord) (t : ℕ) (call : Call) → keeps_dispatches past t call ≡ false → (is_begin call ≡ false) × (is_end call ≡ false)
no-begin past t (Dispatch region task kind start iterations) breaks = (refl, refl)
no-begin past t other breaks = absurd cc

-- an event that is no begin stands behind others of its thread, none of which is the end
goes-on : (begins none ended : Bool) → begins ≡ false → (if begins then none else (not none && not ended)) ≡ true → (none ≡ false) × (ended ≡ false)
goes-on false false false is kept = (refl, refl)
goes-on false false true is kept = absurd cc
goes-on false true ended is kept = absurd cc
goes-on true none ended is kept = absurd cc

-- and adds no end
adds-no-end : (of-it ends ended : Bool) → ends ≡ false → ended ≡ false → ((of-it && ends) || ended) ≡ false
adds-no-end true false ended is unended = unended
adds-no-end false false ended is unended = unended
adds-no-end of-it true ended is unended = cc

-- three tests fail where the second does
second-fails : (a b c : Bool) → b ≡ false → (a && (b && c)) ≡ false
second-fails true false c is = refl
second-fails false b c is = refl
second-fails true true c is = cc

-- the events are not closed after an event that breaks rule 14 alone
open-dispatch : (past : List EventRecord) (event : EventRecord) → Unbroken past → first_broken past event ≡ Some 14 → is_closed (event ∷ past) ≡ false
open-dispatch past event unbroken first =
    let call = no-begin past event.thread event.call (first_breaks past event 14 first) in
    let keeps-two : keeps_threads past event ≡ true = holds (keeps_threads past event) (λ (fails : keeps_threads past event ≡ false). absurd (let least = first_least past event 14 2 first fails in omega (arith, least))) in
    let on = goes-on (is_begin event.call) (events_of event.thread past == 0) (has_ended event.thread past) call.0 keeps-two in
    let unended : has_ended event.thread (event ∷ past) ≡ false = adds-no-end (is_of event.thread event) (is_end event.call) (has_ended event.thread past) call.1 on.1 in
    let rest = begins-open past (event ∷ past) event.thread unbroken on.0 unended in
    let threads = rest-fails (not (is_begin event.call) || has_ended event.thread (event ∷ past)) (list_all (λ (e : EventRecord). not (is_begin e.call) || has_ended e.thread (event ∷ past)) past) rest in
    second-fails _ _ _ threads

-- the first breach is of rule 14, at the newest event
open-end : (behind before : List EventRecord) (event : EventRecord) → Rises (behind ++ event ∷ before) → Unbroken before → first_broken before event ≡ Some 14 →
    is_just event.seq (newest_seq (behind ++ event ∷ before)) ≡ true → is_closed (behind ++ event ∷ before) ≡ false
open-end [] before event rises unbroken first at = open-dispatch before event unbroken first
open-end (new ∷ behind) before event rises unbroken first at =
    let more = rises_before behind before event new rises in
    let is : (new.seq == event.seq) ≡ true = at in
    absurd (grind (arith, nat_tests, more, is))

-- the newest position is this one
is-newest : (last : Option ℕ) (seq : ℕ) → is_just seq last ≡ true → unwrap_or last 0 ≡ seq
is-newest None seq is = cc
is-newest (Some last) seq is = (let test : (last == seq) ≡ true = is in grind (arith, nat_tests, test))

-- one of three tests fails
pub fails_so : (a b c : Bool) → (a ≡ false) ⊎ ((b ≡ false) ⊎ (c ≡ false)) → (a && (b && c)) ≡ false
fails_so false b c is = refl
fails_so true false c is = refl
fails_so true true false is = refl
fails_so true true true (inl is) = cc
fails_so true true true (inr (inl is)) = cc
fails_so true true true (inr (inr is)) = cc

-- ---- the verdicts

-- the first breach that is known
first-of : (checker : Checker) (header : Header) (events : List EventRecord) (breach : Breach) → checker.breach ≡ Some breach → Checks checker header events →
    KeptBroken checker.kept breach header (reverse events)
first-of checker header events breach is checks = subst (λ (known : Option Breach). KeptSo checker.kept known header (reverse events)) is checks.kept_so

-- what is known where no rule is broken
of-none : (checker : Checker) (header : Header) (events : List EventRecord) → checker.breach ≡ None → Checks checker header events →
    KeptWhole checker.kept header (reverse events)
of-none checker header events is checks = subst (λ (known : Option Breach). KeptSo checker.kept known header (reverse events)) is checks.kept_so

-- a whole mask breaks no rule
not-partial : (header : Header) (rule seq : ℕ) → is_whole_mask header ≡ true → BrokenMask header rule seq → ⊥
not-partial header rule seq whole mask = let wrong : true ≡ false = sym whole ∙ mask.partial in cc

-- a breach of rule 1
first-mask : (header : Header) (events : List EventRecord) (end : EndMark) (breach : Breach) → PartialMask header breach.rule breach.seq → IsFirstBreach header events end breach
first-mask header events end breach first = record {
  broken = inl (record { rule_is = first.rule_is; partial = first.partial; seq_is = first.seq_is });
  least = least;
}
  where
    least : (rule seq : ℕ) → Broken header events end rule seq → AtLeast breach.rule breach.seq rule seq
    least rule seq (inl mask) = from-zero breach.rule breach.seq rule seq first.seq_is (omega (arith, first.rule_is, mask.rule_is))
    least rule seq (inr (inl at)) = from-zero breach.rule breach.seq rule seq first.seq_is (let from = breaks_from (reverse at.before) at.event rule at.breaks in omega (arith, first.rule_is, from))
    least rule seq (inr (inr last)) = from-zero breach.rule breach.seq rule seq first.seq_is (omega (arith, first.rule_is, last.rule_is))

-- a breach by an event, other than one of rule 14 at the end of a program that returned
first-event : (header : Header) (events : List EventRecord) (end : EndMark) (breach : Breach) → Rises (reverse events) → is_whole_mask header ≡ true →
    BrokenIn (reverse events) breach.rule breach.seq → (has_returned end && ((breach.rule == 14) && is_just breach.seq (newest_seq (reverse events)))) ≡ false →
    IsFirstBreach header events end breach
first-event header events end breach rises whole first other = record {
  broken = inr (inl (broken-there events breach.rule breach.seq first));
  least = least;
}
  where
    not-both : (returned last : Bool) → (returned && last) ≡ false → returned ≡ true → last ≡ false
    not-both true last is returns = is
    not-both false last is returns = cc

    least : (rule seq : ℕ) → Broken header events end rule seq → AtLeast breach.rule breach.seq rule seq
    least rule seq (inl mask) = absurd (not-partial header rule seq whole mask)
    least rule seq (inr (inl at)) = first-in (reverse events) breach.rule breach.seq rule seq rises first (breaks_in events rule seq at)
    least rule seq (inr (inr last)) =
        let there = first-at-end (reverse events) breach.rule breach.seq rises first (not-both (has_returned end) ((breach.rule == 14) && is_just breach.seq (newest_seq (reverse events))) other last.returned) in
        let place : seq ≡ unwrap_or (newest_seq (reverse events)) 0 = last.seq_is ∙ last-is events in
        subst (λ (r : ℕ). AtLeast breach.rule breach.seq r seq) (sym last.rule_is) (subst (λ (n : ℕ). AtLeast breach.rule breach.seq 13 n) (sym place) there)

-- the first breach that is known is the first one, but for rule 14 at the end of a program that returned
pub told_breach : (checker : Checker) (header : Header) (events : List EventRecord) (end : EndMark) (breach : Breach) → checker.breach ≡ Some breach → Checks checker header events →
    (has_returned end && ((breach.rule == 14) && is_just breach.seq checker.last)) ≡ false → IsFirstBreach header events end breach
told_breach checker header events end breach is checks other =
    let P : Option ℕ → Type 0 = λ (last : Option ℕ). (has_returned end && ((breach.rule == 14) && is_just breach.seq last)) ≡ false in
    elim ((first-of checker header events breach is checks).first) as (λ _. IsFirstBreach header events end breach) [
      | inl partial ↦ first-mask header events end breach partial
      | inr first ↦ first-event header events end breach checks.rises first.0 first.1 (subst P checks.last other)
    ]

-- a breach of rule 14 at the end of a program that returned: rule 13 is broken there too
end-event : (header : Header) (events : List EventRecord) (end : EndMark) (seq : ℕ) → Rises (reverse events) → is_whole_mask header ≡ true →
    BrokenIn (reverse events) 14 seq → has_returned end ≡ true → is_just seq (newest_seq (reverse events)) ≡ true →
    IsFirstBreach header events end (record { rule = 13; seq = seq })
end-event header events end seq rises whole first returned at = record {
  broken = inr (inr (record { rule_is = refl; returned = returned; open_still = unended; seq_is = sym place }));
  least = least;
}
  where
    place : last_seq events ≡ seq
    place = last-is events ∙ is-newest (newest_seq (reverse events)) seq at

    unended : is_closed (reverse events) ≡ false
    unended =
        let P : List EventRecord → Type 0 = λ (l : List EventRecord). is_just first.event.seq (newest_seq l) ≡ true in
        let at-event : P (reverse events) = subst (λ (n : ℕ). is_just n (newest_seq (reverse events)) ≡ true) first.seq_is at in
        subst (λ (l : List EventRecord). is_closed l ≡ false) (sym first.past_is)
        (open-end first.behind first.before first.event (subst Rises first.past_is rises) first.unbroken first.breaks (subst P first.past_is at-event))

    least : (rule other : ℕ) → Broken header events end rule other → AtLeast 13 seq rule other
    least rule other (inl mask) = absurd (not-partial header rule other whole mask)
    least rule other (inr (inl breaks)) = lesser seq rule other (first-in (reverse events) 14 seq rule other rises first (breaks_in events rule other breaks))
    least rule other (inr (inr last)) = inr (sym place ∙ sym last.seq_is, omega (arith, last.rule_is))

-- there rule 13 is the first one
pub told_end : (checker : Checker) (header : Header) (events : List EventRecord) (end : EndMark) (breach : Breach) → checker.breach ≡ Some breach → Checks checker header events →
    has_returned end ≡ true → breach.rule ≡ 14 → is_just breach.seq checker.last ≡ true → IsFirstBreach header events end (record { rule = 13; seq = breach.seq })
told_end checker header events end breach is checks returned rule at =
    elim ((first-of checker header events breach is checks).first) as (λ _. IsFirstBreach header events end (record { rule = 13; seq = breach.seq })) [
      | inl partial ↦ absurd (omega (arith, rule, partial.rule_is))
      | inr first ↦ end-event header events end breach.seq checks.rises first.0 (subst (λ (n : ℕ). BrokenIn (reverse events) n breach.seq) rule first.1) returned
          (subst (λ (last : Option ℕ). is_just breach.seq last ≡ true) checks.last at)
    ]

-- where no event breaks a rule
none-at : (events : List EventRecord) (rule seq : ℕ) → Unbroken (reverse events) → BrokenAt events rule seq → ⊥
none-at events rule seq unbroken at =
    let breaks = breaks_in events rule seq at in
    keeps_each breaks.older breaks.event rule (unbroken_at breaks.newer breaks.older breaks.event (subst Unbroken breaks.past_is unbroken)) breaks.breaks

-- an end that leaves something open is the first breach, where no event breaks a rule
pub told_open : (checker : Checker) (header : Header) (events : List EventRecord) (end : EndMark) → checker.breach ≡ None → Checks checker header events →
    has_returned end ≡ true → (KeptWhole checker.kept header (reverse events) → is_closed (reverse events) ≡ false) →
    IsFirstBreach header events end (record { rule = 13; seq = unwrap_or checker.last 0 })
told_open checker header events end is checks returned unended = record {
  broken = inr (inr (record { rule_is = refl; returned = returned; open_still = unended whole; seq_is = place }));
  least = least;
}
  where
    whole : KeptWhole checker.kept header (reverse events)
    whole = of-none checker header events is checks

    place : unwrap_or checker.last 0 ≡ last_seq events
    place = ap (λ (last : Option ℕ). unwrap_or last 0) checks.last ∙ sym (last-is events)

    least : (rule seq : ℕ) → Broken header events end rule seq → AtLeast 13 (unwrap_or checker.last 0) rule seq
    least rule seq (inl mask) = absurd (not-partial header rule seq whole.whole mask)
    least rule seq (inr (inl at)) = absurd (none-at events rule seq whole.unbroken at)
    least rule seq (inr (inr last)) = inr (place ∙ sym last.seq_is, omega (arith, last.rule_is))

-- and a trace without one is nested
pub told_nested : (checker : Checker) (header : Header) (events : List EventRecord) (end : EndMark) → checker.breach ≡ None → Checks checker header events →
    (KeptWhole checker.kept header (reverse events) → has_returned end ≡ true → is_closed (reverse events) ≡ true) → Nested header events end
told_nested checker header events end is checks closed rule seq (inl mask) = not-partial header rule seq (of-none checker header events is checks).whole mask
told_nested checker header events end is checks closed rule seq (inr (inl at)) = none-at events rule seq (of-none checker header events is checks).unbroken at
told_nested checker header events end is checks closed rule seq (inr (inr last)) =
    let wrong : true ≡ false = sym (closed (of-none checker header events is checks) last.returned) ∙ last.open_still in cc

-- ---- what is kept then

-- where nothing is broken neither the mask nor an event breaks a rule
none-broken : (checker : Checker) (header : Header) (events : List EventRecord) → checker.breach ≡ None → Checks checker header events → BreaksOne header events → ⊥
none-broken checker header events is checks (rule, seq, inl mask) = not-partial header rule seq (of-none checker header events is checks).whole mask
none-broken checker header events is checks (rule, seq, inr at) = none-at events rule seq (of-none checker header events is checks).unbroken at

-- so a checker of events of which one breaks a rule keeps nothing
pub keeps_nothing : (checker : Checker) (header : Header) (events : List EventRecord) → Checks checker header events → BreaksOne header events → entries_of checker ≡ 0
keeps_nothing checker header events checks breaks = by-breach checker.breach refl
  where
    by-breach : (breach : Option Breach) → checker.breach ≡ breach → entries_of checker ≡ 0
    by-breach None is = absurd (none-broken checker header events is checks breaks)
    by-breach (Some breach) is =
        forgets checker.kept checker.breach header (reverse events) checks.kept_so (subst (λ (found : Option Breach). is_some found ≡ true) (sym is) refl)
