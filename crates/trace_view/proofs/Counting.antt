-- Waits that are counted, event by event.
use Rattle.std.proofs.Common.{ℕ, ◌≡◌, ◌+◌, ◌<◌, ◌==◌, ◌&&◌, BTreeMap, Bool, true, false, cond, List, [], length, get_or, take, Option, Some, None, Ordering, Less, Equal, Greater, Result, OnOk, unwrap_or, is_eq, nat_cmp, refl, sym, ap, ap₂, subst, ◌∙◌, add-zero, eqb-true}
use Rattle.std.specs.Bool.{beq}
use Rattle.std.specs.BTreeMap.{IsEmpty, Updates, get, is_at}
use Rattle.std.specs.Cmp.{unsigned_tied}
use Rattle.std.specs.Map.{lookup}
use Rattle.std.specs.Ordering.{ordering_then}
use Rattle.std.proofs.lemmas.Bool.{and_parts}
use Rattle.std.proofs.lemmas.List.Sums.{sum_by_more}
use Rattle.ompt_calls.specs.declared.event.EventRecord.{EventRecord}
use Rattle.trace_view.specs.declared.wait_ends.WaitEnd.{WaitEnd}
use Rattle.trace_view.specs.declared.wait_ends.WaitKey.{WaitKey}
use Rattle.trace_view.specs.declared.wait_tallies.Positions.{Positions}
use Rattle.trace_view.specs.declared.wait_tallies.Tally.{Tally}
use Rattle.trace_view.specs.Waits.{is_end_of, is_wait_of, key_of, same_key, wait_end}
use Rattle.trace_view.specs.WaitTallies.{HasTallies, key_cmp, no_waits, one_end, one_event, one_position, positions_counted, tally_at, tally_of}

-- ---- keys

equal_then : (a b : Ordering) → is_eq (ordering_then a b) ≡ is_eq a && is_eq b
equal_then Less b = refl
equal_then Equal b = refl
equal_then Greater b = refl

-- the order tells keys apart by their parts
pub same_by_order : (key other : WaitKey) → is_eq (key_cmp key other) ≡ same_key key other
same_by_order key other =
    equal_then (nat_cmp key.place other.place) (ordering_then (nat_cmp key.cause other.cause) (nat_cmp key.thread other.thread))
    ∙ ap₂ (λ (a b : Bool). a && b) (unsigned_tied key.place other.place) (equal_then (nat_cmp key.cause other.cause) (nat_cmp key.thread other.thread)
    ∙ ap₂ (λ (a b : Bool). a && b) (unsigned_tied key.cause other.cause) (unsigned_tied key.thread other.thread))

-- keys with the same parts are one
pub one_key : (key other : WaitKey) → same_key key other ≡ true → key ≡ other
one_key key other same =
    let first = and_parts (key.place == other.place) ((key.cause == other.cause) && (key.thread == other.thread)) same in
    let second = and_parts (key.cause == other.cause) (key.thread == other.thread) first.1 in
    let place : key.place ≡ other.place = eqb-true key.place other.place first.0 in
    let cause : key.cause ≡ other.cause = eqb-true key.cause other.cause second.0 in
    let thread : key.thread ≡ other.thread = eqb-true key.thread other.thread second.1 in
    λ i. record { place = place i; cause = cause i; thread = thread i }

-- ---- one begin or end more in a map

put_at : (here : Bool) (kept : Option Tally) (put counted : Tally) → (here ≡ true → put ≡ counted)
    → unwrap_or (cond here (Some put) kept) no_waits ≡ cond here counted (unwrap_or kept no_waits)
put_at true kept put counted same = same refl
put_at false kept put counted same = refl

-- it is counted under its key
pub counts_end :
    (old new : BTreeMap WaitKey Tally) (key : WaitKey) (put : Tally) (is_end : Bool) (seq : ℕ)
    → put ≡ one_end (tally_at old key) is_end seq → Updates key_cmp old new key (Some put)
    → (other : WaitKey) → tally_at new other ≡ cond (same_key key other) (one_end (tally_at old other) is_end seq) (tally_at old other)
counts_end old new key put is_end seq is updates other =
    ap (λ (kept : Option Tally). unwrap_or kept no_waits)
    (updates.0 other ∙ ap (λ (here : Bool). cond here (Some put) (get key_cmp old other)) (same_by_order key other))
    ∙ put_at (same_key key other) (get key_cmp old other) put (one_end (tally_at old other) is_end seq)
    (λ same. is ∙ ap (λ (k : WaitKey). one_end (tally_at old k) is_end seq) (one_key key other same))

-- .. where an event tells it
pub counts_told :
    {E : Type 0} (r : Result (Unit {0}) E) (old new : BTreeMap WaitKey Tally) (wait : WaitEnd) (thread seq : ℕ) (told : Option WaitEnd) → Some wait ≡ told
    → OnOk r ((key : WaitKey) → tally_at new key ≡ one_event key (tally_at old key) thread seq (Some wait))
    → OnOk r ((key : WaitKey) → tally_at new key ≡ one_event key (tally_at old key) thread seq told)
counts_told r old new wait thread seq told is counted =
    subst (λ (t : Option WaitEnd). OnOk r ((key : WaitKey) → tally_at new key ≡ one_event key (tally_at old key) thread seq t)) is counted

-- .. and where it tells none
pub counts_none :
    (tallies : BTreeMap WaitKey Tally) (thread seq : ℕ) (told : Option WaitEnd) → None ≡ told
    → (key : WaitKey) → tally_at tallies key ≡ one_event key (tally_at tallies key) thread seq told
counts_none tallies thread seq told is key = ap (one_event key (tally_at tallies key) thread seq) is

-- ---- one event more among those that are counted

abbrev positions_as : ℕ → ℕ → Positions
positions_as count total = record { count = count; total = total }

abbrev tally_as : Positions → Positions → Tally
tally_as begins ends = record { begins = begins; ends = ends }

one_more : (here : Bool) (count total seq : ℕ)
    → positions_as (count + cond here 1 0) (total + cond here seq 0) ≡ cond here (one_position (positions_as count total) seq) (positions_as count total)
one_more true count total seq = refl
one_more false count total seq = ap₂ positions_as (add-zero count) (add-zero total)

position_more : (key : WaitKey) (is_end : Bool) (events : List EventRecord) (place : ℕ) (none : EventRecord) → place < length events
    → positions_counted key is_end (take (place + 1) events)
    ≡ cond (is_wait_of key is_end (get_or events place none)) (one_position (positions_counted key is_end (take place events)) (get_or events place none).seq)
    (positions_counted key is_end (take place events))
position_more key is_end events place none within =
    ap₂ positions_as
    (sum_by_more (λ (event : EventRecord). cond (is_wait_of key is_end event) 1 0) events place none within)
    (sum_by_more (λ (event : EventRecord). cond (is_wait_of key is_end event) event.seq 0) events place none within)
    ∙ one_more (is_wait_of key is_end (get_or events place none)) _ _ (get_or events place none).seq

-- of the two sides, that one has it which the event is of
of_side : (here is_end : Bool) (begins ends : Positions) (seq : ℕ)
    → tally_as (cond (here && beq is_end false) (one_position begins seq) begins) (cond (here && beq is_end true) (one_position ends seq) ends)
    ≡ cond here (one_end (tally_as begins ends) is_end seq) (tally_as begins ends)
of_side true true begins ends seq = refl
of_side true false begins ends seq = refl
of_side false is_end begins ends seq = refl

of_sides : (key : WaitKey) (begins ends : Positions) (thread seq : ℕ) (told : Option WaitEnd)
    → tally_as (cond (is_end_of key false thread told) (one_position begins seq) begins) (cond (is_end_of key true thread told) (one_position ends seq) ends)
    ≡ one_event key (tally_as begins ends) thread seq told
of_sides key begins ends thread seq None = refl
of_sides key begins ends thread seq (Some wait) = of_side (same_key (key_of thread wait) key) wait.is_end begins ends seq

tally_more : (key : WaitKey) (events : List EventRecord) (place : ℕ) (none : EventRecord) → place < length events
    → tally_of key (take (place + 1) events)
    ≡ one_event key (tally_of key (take place events)) (get_or events place none).thread (get_or events place none).seq
    (wait_end (get_or events place none).call)
tally_more key events place none within =
    ap₂ tally_as (position_more key false events place none within) (position_more key true events place none within)
    ∙ of_sides key (positions_counted key false (take place events)) (positions_counted key true (take place events)) (get_or events place none).thread
    (get_or events place none).seq (wait_end (get_or events place none).call)

-- ---- the map

pub none_counted : (tallies : BTreeMap WaitKey Tally) → IsEmpty tallies → HasTallies tallies []
none_counted tallies empty key = ap (λ (entries : List (WaitKey × Tally)). unwrap_or (lookup (is_at (key_cmp key)) entries) no_waits) empty

-- the next event is counted too
pub more_counted :
    (old new : BTreeMap WaitKey Tally) (events : List EventRecord) (place : ℕ) (event none : EventRecord) → place < length events
    → event ≡ get_or events place none → HasTallies old (take place events)
    → ((key : WaitKey) → tally_at new key ≡ one_event key (tally_at old key) event.thread event.seq (wait_end event.call))
    → HasTallies new (take (place + 1) events)
more_counted old new events place event none within is has counted key =
    counted key ∙ (ap (λ (tally : Tally). one_event key tally event.thread event.seq (wait_end event.call)) (has key)
    ∙ (ap (λ (e : EventRecord). one_event key (tally_of key (take place events)) e.thread e.seq (wait_end e.call)) is
    ∙ sym (tally_more key events place none within)))
