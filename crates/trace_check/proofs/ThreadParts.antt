-- The threads and their brackets after one event more.
use Rattle.std.proofs.Common.{◌≡◌, ℕ, suc, ◌+◌, ◌*◌, ◌<◌, ◌≤◌, ◌==◌, ◌&&◌, ◌||◌, Bool, true, false, cond, List, [], ◌∷◌, drop, length, Option, Some, None, refl, sym, ◌∙◌, ap, subst, arith, zero-add}
use Rattle.std.specs.Prelude.{nat_le}
use Rattle.std.specs.BTreeMap.{BTreeMap, Updates, get}
use Rattle.std.specs.Cmp.{unsigned_tied}
use Rattle.std.specs.Ordering.{nat_cmp}
use Rattle.std.proofs.lemmas.Bool.{eq-eqb, eqb-true}
use Rattle.std.proofs.lemmas.Bool.Decides.{nat_tests}
use Rattle.ompt_calls.specs.declared.call.Call.{Call}
use Rattle.ompt_calls.specs.declared.call.Call.TheVariants.{ThreadBegin}
use Rattle.ompt_calls.specs.declared.event.EventRecord.{EventRecord}
use Rattle.trace_check.specs.declared.bracket.Bracket.{Bracket}
use Rattle.trace_check.specs.declared.change.Change.{Change}
use Rattle.trace_check.specs.declared.change.Change.TheVariants.{Opens, Closes, Stays}
use Rattle.trace_check.specs.declared.things.Asked.{Asked}
use Rattle.trace_check.specs.declared.things.Current.{Current}
use Rattle.trace_check.specs.declared.things.Opened.{Opened}
use Rattle.trace_check.specs.declared.things.Thread.{Thread}
use Rattle.trace_check.specs.Brackets.{change_of, changed}
use Rattle.trace_check.specs.Before.{Join, events_of, has_ended, is_begin, is_end, joins, latest, opened}
use Rattle.trace_check.specs.Checking.{KnownBrackets, KnownThreads, Unbroken, asked_in, bracket_at, running, thread_known, thread_of}
use Rattle.trace_check.specs.Rules.{first_broken}
use Rattle.trace_check.proofs.Kept12.{KeepsAll, keeps_all}
use Rattle.trace_check.proofs.Quiet.{events_more, quiet_opened}
use Rattle.trace_check.proofs.Runs.{thread_places, thread_runs}
use Rattle.trace_check.proofs.Verdicts.{must-begin}

-- ---- maps and keys

-- what a map with one key changed has at a key
changed_at : {V : Type 0} (old new : BTreeMap ℕ V) (key : ℕ) (value : Option V) → Updates nat_cmp old new key value → (q : ℕ)
    → get nat_cmp new q ≡ cond (key == q) value (get nat_cmp old q)
changed_at old new key value updates q = updates.0 q ∙ ap (λ (b : Bool). cond b value (get nat_cmp old q)) (unsigned_tied key q)

-- a key is of one thread
other_thread : (t u place other : ℕ) → place < 4294967296 → other < 4294967296 → (t == u) ≡ false → (t * 4294967296 + place == u * 4294967296 + other) ≡ false
other_thread t u place other low below apart = by-test (t * 4294967296 + place == u * 4294967296 + other) refl
  where
    by-test : (b : Bool) → (t * 4294967296 + place == u * 4294967296 + other) ≡ b → b ≡ false
    by-test true same =
        let e : t * 4294967296 + place ≡ u * 4294967296 + other = eqb-true (t * 4294967296 + place) (u * 4294967296 + other) same in
        let f : t ≡ u = omega (arith, e, low, below) in
        sym (eq-eqb t u f) ∙ apart
    by-test false same = refl

-- and of one place
same_thread : (t place other : ℕ) → (t * 4294967296 + place == t * 4294967296 + other) ≡ (place == other)
same_thread t place other = by-tests (t * 4294967296 + place == t * 4294967296 + other) refl (place == other) refl
  where
    by-tests : (a : Bool) → (t * 4294967296 + place == t * 4294967296 + other) ≡ a → (b : Bool) → (place == other) ≡ b → a ≡ b
    by-tests true whole true part = refl
    by-tests false whole false part = refl
    by-tests true whole false part =
        let e : t * 4294967296 + place ≡ t * 4294967296 + other = eqb-true (t * 4294967296 + place) (t * 4294967296 + other) whole in
        let f : place ≡ other = omega (arith, e) in
        sym (eq-eqb place other f) ∙ part
    by-tests false whole true part =
        let e : t * 4294967296 + place ≡ t * 4294967296 + other = ap (λ (n : ℕ). t * 4294967296 + n) (eqb-true place other part) in
        sym whole ∙ eq-eqb (t * 4294967296 + place) (t * 4294967296 + other) e

-- nothing stands at a place that isn't below the depth
above_all : (all : List Join) (place : ℕ) (brackets : List Bracket) → length brackets ≤ place → bracket_at all place brackets ≡ None
above_all all place [] above = refl
above_all all place (bracket ∷ rest) above = rw (apart (length rest) above, above_all all place rest (below (length rest) above)) refl
  where
    apart : (n : ℕ) → suc n ≤ place → (n == place) ≡ false
    apart n less = grind (arith, nat_tests)

    below : (n : ℕ) → suc n ≤ place → n ≤ place
    below n less = omega (arith, less)

-- ---- threads

-- a thread by its parts
abbrev thread_with : Bool → Bool → Option Asked → Option Current → ℕ → Thread
thread_with ended later asked current depth = record { ended = ended; later = later; asked = asked; current = current; depth = depth }

-- a thread runs after the event what its brackets tell; the other threads are as before
pub threads_more : (old new : BTreeMap ℕ Thread) (past : List EventRecord) (event : EventRecord) (thread : Thread) → Unbroken past
    → first_broken past event ≡ None → KnownThreads old past
    → Updates nat_cmp old new event.thread (Some thread) → thread ≡ thread_of event.thread (event ∷ past) → KnownThreads new (event ∷ past)
threads_more old new past event thread unbroken keeps known updates is =
    λ t. changed_at old new event.thread (Some thread) updates t ∙ by-thread t (event.thread == t) refl
  where
    others : (t : ℕ) → (event.thread == t) ≡ false → thread_known t (event ∷ past) ≡ thread_known t past
    others t other = rw (events_more t event past, other, thread_runs t past event unbroken keeps, zero-add) refl

    had_one : (t : ℕ) → (event.thread == t) ≡ true → thread_known t (event ∷ past) ≡ Some (thread_of t (event ∷ past))
    had_one t same =
        some (events_of t (event ∷ past)) (thread_of t (event ∷ past)) (events_more t event past ∙ ap (λ (b : Bool). cond b 1 0 + events_of t past) same)
      where
        some : (n : ℕ) (one : Thread) → n ≡ 1 + events_of t past → cond (n == 0) None (Some one) ≡ Some one
        some n one more = let e : (n == 0) ≡ false = grind (arith, nat_tests) in rw e refl

    by-thread : (t : ℕ) (b : Bool) → (event.thread == t) ≡ b → cond b (Some thread) (get nat_cmp old t) ≡ thread_known t (event ∷ past)
    by-thread t true same =
        ap (λ (one : Thread). Some one) is ∙ (ap (λ (u : ℕ). Some (thread_of u (event ∷ past))) (eqb-true event.thread t same) ∙ sym (had_one t same))
    by-thread t false other = known t ∙ sym (others t other)

-- ---- brackets

-- what stands at a place before the event stands there still
still_there : (old : BTreeMap ℕ Opened) (past : List EventRecord) (event : EventRecord) → Unbroken past → first_broken past event ≡ None
    → KnownBrackets old past
    → (t place : ℕ) → place < 4294967296 → get nat_cmp old (t * 4294967296 + place) ≡ bracket_at (joins (event ∷ past)) place (opened t past)
still_there old past event unbroken keeps known t place low = known t place low ∙ sym (thread_places t place past event unbroken keeps)

-- a bracket more
pub brackets_opened : (old new : BTreeMap ℕ Opened) (past : List EventRecord) (event : EventRecord) (bracket : Bracket) → Unbroken past
    → first_broken past event ≡ None → KnownBrackets old past
    → change_of event.call ≡ Opens bracket → length (opened event.thread past) < 4294967296
    → Updates nat_cmp old new (event.thread * 4294967296 + length (opened event.thread past))
    (Some (record { bracket = bracket; before = running (joins past) (opened event.thread past) }))
    → KnownBrackets new (event ∷ past)
brackets_opened old new past event bracket unbroken keeps known opens fits updates =
    λ t place low. changed_at old new _ _ updates (t * 4294967296 + place) ∙ by-thread t place low (event.thread == t) refl
  where
    one : Opened
    one = record { bracket = bracket; before = running (joins past) (opened event.thread past) }

    own : (place : ℕ) (b : Bool) → place < 4294967296
        → cond b (Some one) (get nat_cmp old (event.thread * 4294967296 + place))
        ≡ cond b (Some (record { bracket = bracket; before = running (joins (event ∷ past)) (opened event.thread past) }))
        (bracket_at (joins (event ∷ past)) place (opened event.thread past))
    own place true low =
        ap (λ (current : Option Current). Some (record { bracket = bracket; before = current })) (sym (thread_runs event.thread past event unbroken keeps))
    own place false low = still_there old past event unbroken keeps known event.thread place low

    same-thread : (place : ℕ) → place < 4294967296
        → cond (event.thread * 4294967296 + length (opened event.thread past) == event.thread * 4294967296 + place) (Some one)
        (get nat_cmp old (event.thread * 4294967296 + place))
        ≡ bracket_at (joins (event ∷ past)) place (changed (change_of event.call) (opened event.thread past))
    same-thread place low =
        rw (opens, same_thread event.thread (length (opened event.thread past)) place) (own place (length (opened event.thread past) == place) low)

    by-thread : (t place : ℕ) → place < 4294967296 → (b : Bool) → (event.thread == t) ≡ b
        → cond (event.thread * 4294967296 + length (opened event.thread past) == t * 4294967296 + place) (Some one) (get nat_cmp old (t * 4294967296 + place))
        ≡ bracket_at (joins (event ∷ past)) place (cond b (changed (change_of event.call) (opened t past)) (opened t past))
    by-thread t place low true same =
        subst (λ (u : ℕ). cond (event.thread * 4294967296 + length (opened event.thread past) == u * 4294967296 + place) (Some one)
        (get nat_cmp old (u * 4294967296 + place))
        ≡ bracket_at (joins (event ∷ past)) place (changed (change_of event.call) (opened u past))) (eqb-true event.thread t same) (same-thread place low)
    by-thread t place low false other =
        rw (other_thread event.thread t (length (opened event.thread past)) place fits low other) (still_there old past event unbroken keeps known t place low)

-- a bracket less: the place is the last one
pub brackets_closed : (old new : BTreeMap ℕ Opened) (past : List EventRecord) (event : EventRecord) (bracket : Bracket) (place : ℕ) → Unbroken past
    → first_broken past event ≡ None → KnownBrackets old past
    → change_of event.call ≡ Closes bracket → length (opened event.thread past) ≡ place + 1 → place < 4294967296
    → Updates nat_cmp old new (event.thread * 4294967296 + place) None → KnownBrackets new (event ∷ past)
brackets_closed old new past event bracket place unbroken keeps known closes last fits updates =
    λ t other low. changed_at old new _ _ updates (t * 4294967296 + other) ∙ by-thread t other low (event.thread == t) refl
  where
    less : (n m : ℕ) → n ≡ m + 1 → (o : ℕ) → (m == o) ≡ true → n ≤ suc o
    less n m is o same = let e : m ≡ o = eqb-true m o same in omega (arith, is, e)

    own : (other : ℕ) (brackets : List Bracket) (found : Option Opened) → length brackets ≡ place + 1
        → found ≡ bracket_at (joins (event ∷ past)) other brackets → (b : Bool) → (place == other) ≡ b
        → cond b None found ≡ bracket_at (joins (event ∷ past)) other (drop 1 brackets)
    own other [] found deep is b same = let e : 0 ≡ place + 1 = deep in absurd (omega (arith, e))
    own other (first ∷ rest) found deep is true same = sym (above_all (joins (event ∷ past)) other rest (top (length rest) deep))
      where
        top : (n : ℕ) → suc n ≡ place + 1 → n ≤ other
        top n is = let e : place ≡ other = eqb-true place other same in omega (arith, is, e)
    own other (first ∷ rest) found deep is false apart = rw (beside (length rest) deep) at is
      where
        beside : (n : ℕ) → suc n ≡ place + 1 → (n == other) ≡ false
        beside n is = let e : n ≡ place = omega (arith, is) in ap (λ (m : ℕ). m == other) e ∙ apart

    same-thread : (other : ℕ) → other < 4294967296
        → cond (event.thread * 4294967296 + place == event.thread * 4294967296 + other) None (get nat_cmp old (event.thread * 4294967296 + other))
        ≡ bracket_at (joins (event ∷ past)) other (changed (change_of event.call) (opened event.thread past))
    same-thread other low =
        rw (closes, same_thread event.thread place other)
        (own other (opened event.thread past) (get nat_cmp old (event.thread * 4294967296 + other)) last
        (still_there old past event unbroken keeps known event.thread other low) (place == other) refl)

    by-thread : (t other : ℕ) → other < 4294967296 → (b : Bool) → (event.thread == t) ≡ b
        → cond (event.thread * 4294967296 + place == t * 4294967296 + other) None (get nat_cmp old (t * 4294967296 + other))
        ≡ bracket_at (joins (event ∷ past)) other (cond b (changed (change_of event.call) (opened t past)) (opened t past))
    by-thread t other low true same =
        subst (λ (u : ℕ). cond (event.thread * 4294967296 + place == u * 4294967296 + other) None (get nat_cmp old (u * 4294967296 + other))
        ≡ bracket_at (joins (event ∷ past)) other (changed (change_of event.call) (opened u past))) (eqb-true event.thread t same) (same-thread other low)
    by-thread t other low false apart =
        rw (other_thread event.thread t place other fits low apart) (still_there old past event unbroken keeps known t other low)

-- brackets that stay
pub brackets_stay : (old : BTreeMap ℕ Opened) (past : List EventRecord) (event : EventRecord) → Unbroken past → first_broken past event ≡ None
    → KnownBrackets old past
    → change_of event.call ≡ Stays → KnownBrackets old (event ∷ past)
brackets_stay old past event unbroken keeps known stays =
    λ t place low. still_there old past event unbroken keeps known t place low ∙ ap (bracket_at (joins (event ∷ past)) place) (by-thread t (event.thread == t))
  where
    by-thread : (t : ℕ) (b : Bool) → opened t past ≡ cond b (changed (change_of event.call) (opened t past)) (opened t past)
    by-thread t true = ap (λ (change : Change). changed change (opened t past)) (sym stays)
    by-thread t false = refl

-- a bracket that was put and taken away again: nothing stood at its place
pub brackets_back : (old put new : BTreeMap ℕ Opened) (past : List EventRecord) (t place : ℕ) (one : Opened) → KnownBrackets old past
    → length (opened t past) ≡ place → place < 4294967296
    → Updates nat_cmp old put (t * 4294967296 + place) (Some one) → Updates nat_cmp put new (t * 4294967296 + place) None → KnownBrackets new past
brackets_back old put new past t place one known last fits puts takes =
    λ u other low. changed_at put new _ _ takes (u * 4294967296 + other)
    ∙ by-key u other low (t * 4294967296 + place == u * 4294967296 + other) refl (changed_at old put _ _ puts (u * 4294967296 + other))
  where
    none : bracket_at (joins past) place (opened t past) ≡ None
    none = above_all (joins past) place (opened t past) (let less : length (opened t past) ≤ place = omega (arith, last) in less)

    by-key : (u other : ℕ) → other < 4294967296 → (b : Bool) → (t * 4294967296 + place == u * 4294967296 + other) ≡ b
        → get nat_cmp put (u * 4294967296 + other) ≡ cond (t * 4294967296 + place == u * 4294967296 + other) (Some one)
        (get nat_cmp old (u * 4294967296 + other))
        → cond b None (get nat_cmp put (u * 4294967296 + other)) ≡ bracket_at (joins past) other (opened u past)
    by-key u other low true same was =
        let e : t * 4294967296 + place ≡ u * 4294967296 + other = eqb-true (t * 4294967296 + place) (u * 4294967296 + other) same in
        let of-thread : t ≡ u = omega (arith, e, fits, low) in
        let at-place : place ≡ other = omega (arith, e, fits, low) in
        let here : bracket_at (joins past) other (opened t past) ≡ None = subst (λ (n : ℕ). bracket_at (joins past) n (opened t past) ≡ None) at-place none in
        sym (subst (λ (v : ℕ). bracket_at (joins past) other (opened v past) ≡ None) of-thread here)
    by-key u other low false apart was = was ∙ (ap (λ (b : Bool). cond b (Some one) (get nat_cmp old (u * 4294967296 + other))) apart ∙ known u other low)

-- what a bracket that ends kept of the task before it
pub closed_before : (brackets : BTreeMap ℕ Opened) (past : List EventRecord) (event : EventRecord) (bracket : Bracket) (place : ℕ) (found : Option Opened)
    → KnownBrackets brackets past
    → first_broken past event ≡ None → change_of event.call ≡ Closes bracket → length (opened event.thread past) ≡ place + 1 → place < 4294967296
    → get nat_cmp brackets (event.thread * 4294967296 + place) ≡ found → found ≡ bracket_at (joins past) place (opened event.thread past)
closed_before brackets past event bracket place found known keeps closes last fits is = sym is ∙ known event.thread place fits

-- ---- the parts of a thread

-- a thread that is known is what its events tell
pub thread_fields : (t : ℕ) (past : List EventRecord) (thread : Thread) → thread_known t past ≡ Some thread
    → (thread ≡ thread_of t past) × ((events_of t past == 0) ≡ false)
thread_fields t past thread known = by-test (events_of t past == 0) known
  where
    by-test : (b : Bool) → cond b None (Some (thread_of t past)) ≡ Some thread → (thread ≡ thread_of t past) × (b ≡ false)
    by-test true is = absurd (cc)
    by-test false is = (let e : thread ≡ thread_of t past = cc in e, refl)

-- a thread is its parts
by_parts : (e f l m : Bool) (a b : Option Asked) (c d : Option Current) (n o : ℕ) → e ≡ f → l ≡ m → a ≡ b → c ≡ d → n ≡ o
    → thread_with e l a c n ≡ thread_with f m b d o
by_parts e f l m a b c d n o ended later asked current depth = rw (ended, later, asked, current, depth) refl

self : (n : ℕ) → (n == n) ≡ true
self n = eq-eqb n n refl

-- a thread with one event more
own_event : (past : List EventRecord) (event : EventRecord) → events_of event.thread (event ∷ past) ≡ 1 + events_of event.thread past
own_event past event = events_more event.thread event past ∙ ap (λ (b : Bool). cond b 1 0 + events_of event.thread past) (self event.thread)

-- a thread after a later event
pub later_thread : (past : List EventRecord) (event : EventRecord) (thread : Thread) (current : Option Current) (depth : ℕ)
    → thread_known event.thread past ≡ Some thread
    → current ≡ running (joins (event ∷ past)) (changed (change_of event.call) (opened event.thread past))
    → depth ≡ length (changed (change_of event.call) (opened event.thread past))
    → record { ended = thread.ended || is_end event.call; later = true; asked = asked_in (Some event.call); current = current; depth = depth }
    ≡ thread_of event.thread (event ∷ past)
later_thread past event thread current depth known runs deep =
    let fields = thread_fields event.thread past thread known in
    by_parts (thread.ended || is_end event.call) (has_ended event.thread (event ∷ past)) true (nat_le 2 (events_of event.thread (event ∷ past)))
    (asked_in (Some event.call)) (asked_in (latest event.thread (event ∷ past))) current (running (joins (event ∷ past)) (opened event.thread (event ∷ past)))
    depth (length (opened event.thread (event ∷ past)))
    (ends thread.ended (is_end event.call) (has_ended event.thread past) (event.thread == event.thread) (ap (λ (one : Thread). one.ended) fields.0)
    (self event.thread))
    (more (events_of event.thread past) (events_of event.thread (event ∷ past)) (own_event past event) fields.1)
    (ap (λ (b : Bool). asked_in (cond b (Some event.call) (latest event.thread past))) (sym (self event.thread)))
    (runs ∙ ap (running (joins (event ∷ past))) now)
    (deep ∙ ap (λ (brackets : List Bracket). length brackets) now)
  where
    now : changed (change_of event.call) (opened event.thread past) ≡ opened event.thread (event ∷ past)
    now = ap (λ (b : Bool). cond b (changed (change_of event.call) (opened event.thread past)) (opened event.thread past)) (sym (self event.thread))

    ends : (a b c d : Bool) → a ≡ c → d ≡ true → (a || b) ≡ ((d && b) || c)
    ends true true c d is same = rw same refl
    ends true false c d is same = rw same is
    ends false true c d is same = rw same refl
    ends false false c d is same = rw same is

    more : (n m : ℕ) → m ≡ 1 + n → (n == 0) ≡ false → true ≡ nat_le 2 m
    more n m is some = grind (arith, nat_tests)

-- a thread of which nothing is known had no event
no_event : (t : ℕ) (past : List EventRecord) → thread_known t past ≡ None → (events_of t past == 0) ≡ true
no_event t past unknown = by-test (events_of t past == 0) unknown
  where
    by-test : (b : Bool) → cond b None (Some (thread_of t past)) ≡ None → b ≡ true
    by-test true same = refl
    by-test false same = cc

-- so it had no end
no_end : (t : ℕ) (past : List EventRecord) → (events_of t past == 0) ≡ true → has_ended t past ≡ false
no_end t [] none = refl
no_end t (event ∷ past) none = by-test (event.thread == t) (no_end t past) (subst (λ (n : ℕ). (n == 0) ≡ true) (events_more t event past) none)
  where
    by-test : (b : Bool) → ((events_of t past == 0) ≡ true → has_ended t past ≡ false) → (cond b 1 0 + events_of t past == 0) ≡ true
        → ((b && is_end event.call) || has_ended t past) ≡ false
    by-test true rest same = absurd (one_more (events_of t past) same)
      where
        one_more : (n : ℕ) → (1 + n == 0) ≡ true → ⊥
        one_more n is = grind (arith, eqb-true)
    by-test false rest same = rest (rw zero-add at same)

-- what a begin tells of its thread
begin_parts : (call : Call) → is_begin call ≡ true → (is_end call ≡ false) × (asked_in (Some call) ≡ None) × (change_of call ≡ Stays)
begin_parts (ThreadBegin kind thread) begins = (refl, refl, refl)
begin_parts other begins = absurd (cc)

-- the first event of a thread is its begin
pub first_call : (past : List EventRecord) (event : EventRecord) → thread_known event.thread past ≡ None → first_broken past event ≡ None
    → is_begin event.call ≡ true
first_call past event unknown keeps =
    let all : KeepsAll past event = keeps_all past event keeps in
    must-begin (is_begin event.call) (events_of event.thread past == 0) (has_ended event.thread past) all.threads (no_event event.thread past unknown)

-- a thread after its first event
pub first_thread : (past : List EventRecord) (event : EventRecord) → thread_known event.thread past ≡ None → first_broken past event ≡ None
    → record { ended = false; later = false; asked = None; current = None; depth = 0 } ≡ thread_of event.thread (event ∷ past)
first_thread past event unknown keeps =
    let parts = begin_parts event.call (first_call past event unknown keeps) in
    let none : (events_of event.thread past == 0) ≡ true = no_event event.thread past unknown in
    by_parts false (has_ended event.thread (event ∷ past)) false (nat_le 2 (events_of event.thread (event ∷ past)))
    None (asked_in (latest event.thread (event ∷ past))) None (running (joins (event ∷ past)) (opened event.thread (event ∷ past)))
    0 (length (opened event.thread (event ∷ past)))
    (ends (is_end event.call) (has_ended event.thread past) (event.thread == event.thread) parts.0 (no_end event.thread past none))
    (one (events_of event.thread past) (events_of event.thread (event ∷ past)) (own_event past event) none)
    (sym parts.1 ∙ ap (λ (b : Bool). asked_in (cond b (Some event.call) (latest event.thread past))) (sym (self event.thread)))
    (ap (running (joins (event ∷ past))) (empty parts.2))
    (ap (λ (brackets : List Bracket). length brackets) (empty parts.2))
  where
    empty : change_of event.call ≡ Stays → [] ≡ opened event.thread (event ∷ past)
    empty stays = rw (self event.thread, stays, quiet_opened event.thread past (sym unknown)) refl

    ends : (b c d : Bool) → b ≡ false → c ≡ false → false ≡ ((d && b) || c)
    ends b c true is none = rw (is, none) refl
    ends b c false is none = sym none

    one : (n m : ℕ) → m ≡ 1 + n → (n == 0) ≡ true → false ≡ nat_le 2 m
    one n m is none = grind (arith, nat_tests)
