-- In a nested trace slices nest, and where main returned none stays open.
use Rattle.std.proofs.Common.{ℕ, ◌≡◌, ◌==◌, ◌&&◌, ◌||◌, Bool, true, false, not, cond, List, [], ◌∷◌, ◌++◌, length, map, reverse, None, inl, inr, refl, sym, ap, subst, ◌∙◌, append_assoc, arith}
use Rattle.std.specs.List.{list_all, list_any}
use Rattle.std.proofs.lemmas.Bool.{eqb-true}
use Rattle.std.proofs.lemmas.Bool.Decides.{eqb_tells}
use Rattle.std.proofs.lemmas.List.{append-nil, reverse-append, reverse-reverse}
use Rattle.ompt_calls.specs.declared.call.Call.{Call}
use Rattle.ompt_calls.specs.declared.call.Call.TheVariants.{ThreadBegin, ThreadEnd}
use Rattle.ompt_calls.specs.declared.event.EventRecord.{EventRecord}
use Rattle.trace_format.specs.declared.trace.EndMark.{EndMark}
use Rattle.trace_format.specs.declared.trace.Header.{Header}
use Rattle.trace_format.specs.declared.trace.Trace.{Trace}
use Rattle.trace_check.specs.declared.bracket.Bracket.{Bracket}
use Rattle.trace_check.specs.Before.{events_of, has_ended, is_begin, is_end, is_of, opened}
use Rattle.trace_check.specs.Brackets.{change_of, changed}
use Rattle.trace_check.specs.Checking.{Unbroken}
use Rattle.trace_check.specs.Nested.{Nested, are_regions_over, are_tasks_complete, has_begun, has_returned, have_ended, is_closed, last_seq}
use Rattle.trace_check.specs.Rules.{first_broken, keeps_brackets, keeps_threads, may_change}
use Rattle.trace_check.proofs.Few.{begun}
use Rattle.trace_check.proofs.Firsts.{keeps_each}
use Rattle.trace_check.proofs.Quiet.{quiet_opened}
use Rattle.trace_check.proofs.Tests.{left, right}
use Rattle.trace_check.proofs.Verdicts.{holds}
use Rattle.tool_tasks.proofs.Whole.{keeps_at}
use Rattle.trace_view.specs.Chrome.{slice_name}
use Rattle.trace_view.specs.Slices.{NoneOpen, SlicesNest}
use Rattle.trace_view.proofs.OpenSlices.{ends_newest, open_are}

-- ---- the events keep the rules

pub all_nest : (trace : Trace) → Nested trace.header trace.events trace.end → SlicesNest trace.events
all_nest trace nested = λ before event behind is.
    let unbroken : first_broken (reverse before) event ≡ None = keeps_at trace.header trace.events trace.end before behind event nested is in
    ends_newest (reverse before) event
    (holds (keeps_brackets (reverse before) event.thread event.call) (keeps_each (reverse before) event 6 unbroken))

-- a front of them, the newest first
unbroken_to :
    (header : Header) (events : List EventRecord) (end : EndMark) (past behind : List EventRecord) → Nested header events end
    → events ≡ reverse past ++ behind → Unbroken past
unbroken_to header events end [] behind nested is = tt
unbroken_to header events end (event ∷ past) behind nested is =
    let split : events ≡ reverse past ++ event ∷ behind =
    is ∙ (ap (λ (front : List EventRecord). front ++ behind) (reverse-append (event ∷ []) past) ∙ append_assoc (reverse past) (event ∷ []) behind) in (
      subst (λ (past : List EventRecord). first_broken past event ≡ None) (reverse-reverse past)
          (keeps_at header events end (reverse past) behind event nested split),
      unbroken_to header events end past (event ∷ behind) nested split,
    )

-- all of them
unbroken : (trace : Trace) → Nested trace.header trace.events trace.end → Unbroken (reverse trace.events)
unbroken trace nested =
    unbroken_to trace.header trace.events trace.end (reverse trace.events) [] nested
    (sym (append-nil (reverse (reverse trace.events)) ∙ reverse-reverse trace.events))

-- ---- nothing is open on a thread that has ended

-- nothing in a list of length 0
none_in : (brackets : List Bracket) → (length brackets == 0) ≡ true → brackets ≡ []
none_in [] is = refl
none_in (bracket ∷ rest) is = let none : length (bracket ∷ rest) ≡ 0 = eqb-true (length (bracket ∷ rest)) 0 is in absurd (omega arith)

-- the events of a thread that is at its end: its begin, its end, or none
at_end : (past : List EventRecord) (t : ℕ) (call : Call) (ended : Bool)
    → (ended ≡ true → opened t past ≡ []) → (cond (is_begin call) (events_of t past == 0) (not (events_of t past == 0) && not ended)) ≡ true
    → keeps_brackets past t call ≡ true → (is_end call || ended) ≡ true → changed (change_of call) (opened t past) ≡ []
at_end past t (ThreadBegin kind thread) ended before threads brackets is = before is
at_end past t (ThreadEnd thread) ended before threads brackets is = none_in (opened t past) (right (may_change past t (change_of (ThreadEnd thread))) (length (opened t past) == 0) brackets)
at_end past t other true before threads brackets is = absurd (let no : false ≡ true = right (not (events_of t past == 0)) false threads in cc)
at_end past t other false before threads brackets is = absurd (cc)

none_ended : (t : ℕ) (past : List EventRecord) → Unbroken past → has_ended t past ≡ true → opened t past ≡ []
none_ended t [] unbroken ended = refl
none_ended t (event ∷ past) unbroken ended = by-test (none_ended t past unbroken.1) (is_of t event) refl ended
  where
    by-test : (has_ended t past ≡ true → opened t past ≡ []) → (b : Bool) → is_of t event ≡ b → ((b && is_end event.call) || has_ended t past) ≡ true
        → cond b (changed (change_of event.call) (opened t past)) (opened t past) ≡ []
    by-test before true of-it is =
        let same : event.thread ≡ t = eqb-true event.thread t of-it in
        at_end past t event.call (has_ended t past) before
        (subst (λ (n : ℕ). cond (is_begin event.call) (events_of n past == 0) (not (events_of n past == 0) && not (has_ended n past)) ≡ true) same
        (holds (keeps_threads past event) (keeps_each past event 2 unbroken.0)))
        (subst (λ (n : ℕ). keeps_brackets past n event.call ≡ true) same (holds (keeps_brackets past event.thread event.call) (keeps_each past event 6 unbroken.0))) is
    by-test before false other is = before is

-- a thread that has begun has ended, where all have
begun_ended :
    (t : ℕ) (all events : List EventRecord) → list_any (λ (event : EventRecord). is_begin event.call && (t == event.thread)) events ≡ true
    → list_all (λ (event : EventRecord). not (is_begin event.call) || has_ended event.thread all) events ≡ true → has_ended t all ≡ true
begun_ended t all [] some each = absurd (cc)
begun_ended t all (event ∷ rest) some each = by-tests (begun_ended t all rest) (is_begin event.call) (t == event.thread) refl some each
  where
    begins : EventRecord → Bool
    begins event = is_begin event.call && (t == event.thread)

    ends : EventRecord → Bool
    ends event = not (is_begin event.call) || has_ended event.thread all

    by-tests : (list_any begins rest ≡ true → list_all ends rest ≡ true → has_ended t all ≡ true) → (b s : Bool) → (t == event.thread) ≡ s → ((b && s) || list_any begins rest) ≡ true
        → ((not b || has_ended event.thread all) && list_all ends rest) ≡ true
        → has_ended t all ≡ true
    by-tests later true true same some each =
        subst (λ (n : ℕ). has_ended n all ≡ true) (sym (eqb-true t event.thread same)) (left (has_ended event.thread all) (list_all ends rest) each)
    by-tests later true false other some each = later some (right (has_ended event.thread all) (list_all ends rest) each)
    by-tests later false s same some each = later some each

-- so nothing is open on any thread
none_left : (t : ℕ) (past : List EventRecord) → Unbroken past → have_ended past ≡ true → opened t past ≡ []
none_left t past unbroken each = elim (eqb_tells (events_of t past) 0) as (λ _. opened t past ≡ []) [
  | inl none ↦ quiet_opened t past (rw none.0 refl)
  | inr some ↦ none_ended t past unbroken (begun_ended t past past (begun past t unbroken some.0) each)
]

-- where main returned each thread that began has ended
returned :
    (header : Header) (events : List EventRecord) (end : EndMark) → Nested header events end → has_returned end ≡ true → have_ended (reverse events) ≡ true
returned header events end nested main =
    let closed : is_closed (reverse events) ≡ true = holds (is_closed (reverse events)) (λ still. nested 13 (last_seq events) (inr (inr (record {
      rule_is = refl;
      returned = main;
      open_still = still;
      seq_is = refl;
    })))) in
    left (have_ended (reverse events)) (are_regions_over (reverse events) && are_tasks_complete (reverse events))
    (right (has_begun (reverse events)) _ closed)

pub none_open : (trace : Trace) → Nested trace.header trace.events trace.end → has_returned trace.end ≡ true → NoneOpen trace.events
none_open trace nested main = λ t.
    open_are t (reverse trace.events)
    ∙ ap (map slice_name) (none_left t (reverse trace.events) (unbroken trace nested) (returned trace.header trace.events trace.end nested main))
