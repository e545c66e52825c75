-- The first rule that is broken, over the events before, the newest first.
use Rattle.std.proofs.Common.{◌≡◌, ℕ, ◌+◌, ◌<◌, ◌≤◌, ◌==◌, Bool, true, false, not, if◌then◌else◌, List, [], ◌∷◌, ◌++◌, reverse, Option, Some, None, inl, inr, refl, sym, ap, subst, ◌∙◌, arith}
use Rattle.std.proofs.lemmas.Bool.Decides.{eqb_tells, nat_tests}
use Rattle.std.proofs.lemmas.List.{reverse-append, reverse-reverse}
use Rattle.ompt_calls.specs.declared.event.EventRecord.{EventRecord}
use Rattle.trace_check.specs.Checking.{Rises, Unbroken, is_after}
use Rattle.trace_check.specs.Nested.{BrokenAt, last_seq}
use Rattle.trace_check.specs.Rules.{first_broken, keeps, keeps_asking, keeps_brackets, keeps_creations, keeps_dispatches, keeps_holders, keeps_kind, keeps_regions, keeps_starts, keeps_tasks, keeps_teams, keeps_threads, keeps_waits}

-- ---- tests with rising numbers

-- tests, each with its number
abbrev Tests : Type 0
Tests = List (ℕ × Bool)

-- whether the test with this number holds
abbrev look : ℕ → Tests → Bool
look rule [] = true
look rule (test ∷ rest) = if rule == test.0 then test.1 else look rule rest

-- the number of the first test that fails
abbrev first_of : Tests → Option ℕ
first_of [] = None
first_of (test ∷ rest) = if not test.1 then Some test.0 else first_of rest

-- the numbers rise, from the least one
abbrev RiseFrom : ℕ → Tests → Type 0
RiseFrom least [] = Unit {0}
RiseFrom least (test ∷ rest) = (least ≤ test.0) × RiseFrom (test.0 + 1) rest

-- one that fails has at least the least number
look-from : (least rule : ℕ) (tests : Tests) → RiseFrom least tests → look rule tests ≡ false → least ≤ rule
look-from least rule [] rise fails = cc
look-from least rule (test ∷ rest) rise fails =
    elim (eqb_tells rule test.0) as (λ _. least ≤ rule) [ inl here ↦ omega (arith, here.1, rise.0) | inr other ↦ (let later = look-from (test.0 + 1) rule rest rise.1 (rw other.0 at fails) in omega (arith, later, rise.0)) ]

-- the first that fails has at least the least number
first-from : (least found : ℕ) (tests : Tests) → RiseFrom least tests → first_of tests ≡ Some found → least ≤ found
first-from least found [] rise is = cc
first-from least found ((n, true) ∷ rest) rise is = let later = first-from (n + 1) found rest rise.1 is in omega (arith, later, rise.0)
first-from least found ((n, false) ∷ rest) rise is = subst (λ (m : ℕ). least ≤ m) (let same : n ≡ found = cc in same) rise.0

-- where none fails first, all hold
all-hold : (rule : ℕ) (tests : Tests) → first_of tests ≡ None → look rule tests ≡ false → ⊥
all-hold rule [] is fails = cc
all-hold rule ((n, true) ∷ rest) is fails =
    elim (eqb_tells rule n) as (λ _. ⊥) [ inl here ↦ (let wrong : true ≡ false = rw here.0 at fails in cc) | inr other ↦ all-hold rule rest is (rw other.0 at fails) ]
all-hold rule ((n, false) ∷ rest) is fails = cc

-- the first that fails fails, and no lesser one does
first-fails : (least found : ℕ) (tests : Tests) → RiseFrom least tests → first_of tests ≡ Some found → look found tests ≡ false
first-fails least found [] rise is = cc
first-fails least found ((n, true) ∷ rest) rise is =
    let later = first-from (n + 1) found rest rise.1 is in
    let other : (found == n) ≡ false = grind (arith, nat_tests, later) in
    rw other (first-fails (n + 1) found rest rise.1 is)
first-fails least found ((n, false) ∷ rest) rise is =
    let same : n ≡ found = cc in
    let here : (found == n) ≡ true = grind (arith, nat_tests, same) in
    rw here refl

-- no lesser one fails
first-least : (least found rule : ℕ) (tests : Tests) → RiseFrom least tests → first_of tests ≡ Some found → look rule tests ≡ false → found ≤ rule
first-least least found rule [] rise is fails = cc
first-least least found rule ((n, true) ∷ rest) rise is fails =
    elim (eqb_tells rule n) as (λ _. found ≤ rule) [ inl here ↦ absurd (let wrong : true ≡ false = rw here.0 at fails in cc) | inr other ↦ first-least (n + 1) found rule rest rise.1 is (rw other.0 at fails) ]
first-least least found rule ((n, false) ∷ rest) rise is fails =
    let same : n ≡ found = cc in
    subst (λ (m : ℕ). m ≤ rule) same (look-from n rule ((n, false) ∷ rest) (omega arith, rise.1) fails)

-- no number is above the most
abbrev AtMost : ℕ → Tests → Type 0
AtMost most [] = Unit {0}
AtMost most (test ∷ rest) = (test.0 ≤ most) × AtMost most rest

-- the first that fails is at most the most
first-to : (most found : ℕ) (tests : Tests) → AtMost most tests → first_of tests ≡ Some found → found ≤ most
first-to most found [] low is = absurd cc
first-to most found ((n, true) ∷ rest) low is = first-to most found rest low.1 is
first-to most found ((n, false) ∷ rest) low is = subst (λ (m : ℕ). m ≤ most) (let same : n ≡ found = cc in same) low.0

-- ---- the rules on events

-- the rules on events, as tests
abbrev tests_of : List EventRecord → EventRecord → Tests
tests_of past event =
    (2, keeps_threads past event) ∷ (3, keeps_kind past event.thread event.call) ∷ (4, keeps_regions past event.thread event.call)
    ∷ (5, keeps_tasks past event.thread event.call) ∷ (6, keeps_brackets past event.thread event.call) ∷ (7, keeps_teams past event.call)
    ∷ (8, keeps_asking past event.thread event.call) ∷ (9, keeps_holders past event.thread event.call) ∷ (10, keeps_creations past event.thread event.call)
    ∷ (11, keeps_starts past event.call) ∷ (12, keeps_waits past event.call) ∷ (14, keeps_dispatches past event.thread event.call) ∷ []

-- their numbers rise from 2
rise : (past : List EventRecord) (event : EventRecord) → RiseFrom 2 (tests_of past event)
rise past event = (omega arith, (omega arith, (omega arith, (omega arith, (omega arith, (omega arith, (omega arith, (omega arith, (omega arith, (omega arith, (omega arith, (omega arith, tt))))))))))))

-- a rule is kept where its test holds
as-look : (rule : ℕ) (past : List EventRecord) (event : EventRecord) → keeps rule past event ≡ look rule (tests_of past event)
as-look rule past event = refl

-- the first rule that is broken is the first test that fails
as-first : (past : List EventRecord) (event : EventRecord) → first_broken past event ≡ first_of (tests_of past event)
as-first past event = refl

-- an event that breaks no rule keeps each
pub keeps_each : (past : List EventRecord) (event : EventRecord) (rule : ℕ) → first_broken past event ≡ None → keeps rule past event ≡ false → ⊥
keeps_each past event rule none breaks = all-hold rule (tests_of past event) (sym (as-first past event) ∙ none) (sym (as-look rule past event) ∙ breaks)

-- the first rule that is broken is broken, and no lesser one is
pub first_breaks : (past : List EventRecord) (event : EventRecord) (rule : ℕ) → first_broken past event ≡ Some rule → keeps rule past event ≡ false
first_breaks past event rule first = as-look rule past event ∙ first-fails 2 rule (tests_of past event) (rise past event) (sym (as-first past event) ∙ first)

-- no lesser rule is broken
pub first_least : (past : List EventRecord) (event : EventRecord) (found rule : ℕ) → first_broken past event ≡ Some found → keeps rule past event ≡ false → found ≤ rule
first_least past event found rule first breaks =
    first-least 2 found rule (tests_of past event) (rise past event) (sym (as-first past event) ∙ first) (sym (as-look rule past event) ∙ breaks)

-- a rule that an event breaks is 2 at least
pub breaks_from : (past : List EventRecord) (event : EventRecord) (rule : ℕ) → keeps rule past event ≡ false → 2 ≤ rule
breaks_from past event rule breaks = look-from 2 rule (tests_of past event) (rise past event) (sym (as-look rule past event) ∙ breaks)

-- and 14 at most
pub first_to : (past : List EventRecord) (event : EventRecord) (rule : ℕ) → first_broken past event ≡ Some rule → rule ≤ 14
first_to past event rule first = first-to 14 rule (tests_of past event) low (sym (as-first past event) ∙ first)
  where
    low : AtMost 14 (tests_of past event)
    low = (omega arith, (omega arith, (omega arith, (omega arith, (omega arith, (omega arith, (omega arith, (omega arith, (omega arith, (omega arith, (omega arith, (omega arith, tt))))))))))))

-- ---- places in a list

-- of two elements of a list one stands before the other, or they are the same
pub data Apart {A : Type 0} (a b c d : List A) (x y : A) : Type 0 where
  earlier : (m : List A) → c ≡ a ++ x ∷ m → b ≡ m ++ y ∷ d → Apart a b c d x y
  same : a ≡ c → x ≡ y → b ≡ d → Apart a b c d x y
  later : (m : List A) → a ≡ c ++ y ∷ m → d ≡ m ++ x ∷ b → Apart a b c d x y

-- the places of two elements, with one more in front
one-more : {A : Type 0} (z w : A) (a b c d : List A) (x y : A) → z ≡ w → Apart a b c d x y → Apart (z ∷ a) b (w ∷ c) d x y
one-more z w a b c d x y is (earlier m c_is b_is) = earlier m (rw (← is) (ap (λ rest. z ∷ rest) c_is)) b_is
one-more z w a b c d x y is (same a_is x_is b_is) = same (rw is (ap (λ rest. w ∷ rest) a_is)) x_is b_is
one-more z w a b c d x y is (later m a_is d_is) = later m (rw is (ap (λ rest. w ∷ rest) a_is)) d_is

-- two elements of one list, by the parts before and behind them
pub apart : {A : Type 0} (a b c d : List A) (x y : A) → a ++ x ∷ b ≡ c ++ y ∷ d → Apart a b c d x y
apart [] b [] d x y is =
    let x_is : x ≡ y = cc in
    let b_is : b ≡ d = cc in
    same refl x_is b_is
apart [] b (w ∷ c) d x y is =
    let head : w ≡ x = cc in
    let tail : b ≡ c ++ y ∷ d = cc in
    earlier c (ap (λ z. z ∷ c) head) tail
apart (z ∷ a) b [] d x y is =
    let head : z ≡ y = cc in
    let tail : d ≡ a ++ x ∷ b = cc in
    later a (ap (λ w. w ∷ a) head) tail
apart (z ∷ a) b (w ∷ c) d x y is =
    let head : z ≡ w = cc in
    let tail : a ++ x ∷ b ≡ c ++ y ∷ d = cc in
    one-more z w a b c d x y head (apart a b c d x y tail)

-- an event among unbroken ones breaks no rule
pub unbroken_at : (newer older : List EventRecord) (event : EventRecord) → Unbroken (newer ++ event ∷ older) → first_broken older event ≡ None
unbroken_at [] older event unbroken = unbroken.0
unbroken_at (first ∷ newer) older event unbroken = unbroken_at newer older event unbroken.1

-- newer events have greater positions
after-less : (last : Option ℕ) (seq other : ℕ) → last ≡ Some other → is_after last seq ≡ true → other < seq
after-less last seq other is after = (let test : is_after (Some other) seq ≡ true = subst (λ l. is_after l seq ≡ true) is after in grind (arith, nat_tests, test))

-- an event has a lesser position than a newer one
pub rises_before : (between older : List EventRecord) (event new : EventRecord) → Rises (new ∷ between ++ event ∷ older) → event.seq < new.seq
rises_before [] older event new rises = after-less (Some event.seq) new.seq event.seq refl rises.0
rises_before (first ∷ between) older event new rises =
    let low = rises_before between older event first rises.1 in
    let high = after-less (Some first.seq) new.seq first.seq refl rises.0 in
    omega (arith, low, high)

-- positions rise among the older events too
pub rises_behind : (newer older : List EventRecord) → Rises (newer ++ older) → Rises older
rises_behind [] older rises = rises
rises_behind (first ∷ newer) older rises = rises_behind newer older rises.1

-- ---- the events in their order

-- one more event stands last
reversed_more : (past : List EventRecord) (event : EventRecord) → reverse (event ∷ past) ≡ reverse past ++ event ∷ []
reversed_more past event = reverse-append (event ∷ []) past

-- the last position is that of the last event
last-more : (events : List EventRecord) (event : EventRecord) → last_seq (events ++ event ∷ []) ≡ event.seq
last-more [] event = refl
last-more (first ∷ []) event = refl
last-more (first ∷ second ∷ rest) event = last-more (second ∷ rest) event

-- it is that of the newest event
pub last_newest : (past : List EventRecord) (event : EventRecord) → last_seq (reverse (event ∷ past)) ≡ event.seq
last_newest past event = ap last_seq (reversed_more past event) ∙ last-more (reverse past) event

-- an event that breaks a rule, among the newest first
pub record BreaksIn (past : List EventRecord) (rule seq : ℕ) : Type 0 where
  pub newer : List EventRecord
  pub event : EventRecord
  pub older : List EventRecord
  pub past_is : past ≡ newer ++ event ∷ older
  pub breaks : keeps rule older event ≡ false
  pub seq_is : seq ≡ event.seq

-- a list that is split at an event, reversed
split-reversed : (newer older : List EventRecord) (event : EventRecord) → reverse (newer ++ event ∷ older) ≡ reverse older ++ event ∷ reverse newer
split-reversed newer older event =
    reverse-append newer (event ∷ older) ∙ ap (λ (front : List EventRecord). front ++ reverse newer) (reversed_more older event) ∙ append-more (reverse older) (reverse newer) event
  where
    append-more : (xs ys : List EventRecord) (x : EventRecord) → (xs ++ x ∷ []) ++ ys ≡ xs ++ x ∷ ys
    append-more [] ys x = refl
    append-more (z ∷ xs) ys x = ap (λ rest. z ∷ rest) (append-more xs ys x)

-- an event that breaks a rule, from the events in their order
pub breaks_in : (events : List EventRecord) (rule seq : ℕ) → BrokenAt events rule seq → BreaksIn (reverse events) rule seq
breaks_in events rule seq broken = record {
  newer = reverse broken.behind;
  event = broken.event;
  older = reverse broken.before;
  past_is = ap reverse broken.events_are ∙ split-reversed broken.before broken.behind broken.event;
  breaks = broken.breaks;
  seq_is = broken.seq_is;
}

-- and back
pub broken_at : (events : List EventRecord) (rule seq : ℕ) → BreaksIn (reverse events) rule seq → BrokenAt events rule seq
broken_at events rule seq breaks = record {
  before = reverse breaks.older;
  event = breaks.event;
  behind = reverse breaks.newer;
  events_are = sym (reverse-reverse events) ∙ ap reverse breaks.past_is ∙ split-reversed breaks.newer breaks.older breaks.event;
  breaks = subst (λ (past : List EventRecord). keeps rule past breaks.event ≡ false) (sym (reverse-reverse breaks.older)) breaks.breaks;
  seq_is = breaks.seq_is;
}
