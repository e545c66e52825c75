-- How much is kept, against what is open.
use Rattle.std.proofs.Common.{◌≡◌, ℕ, suc, zero, ◌+◌, ◌*◌, ◌/◌, ◌%◌, ◌<◌, ◌≤◌, ◌==◌, ◌&&◌, ◌||◌, Bool, true, false, not, cond, if◌then◌else◌, List, [], ◌∷◌, ◌++◌, reverse, length, length-append, map, filter, count_by, is_some, Option, Some, None, inl, inr, refl, sym, ap, subst, ◌∙◌, arith}
use Rattle.std.specs.BTreeMap.{BTreeMap, IsOrdered, btree_map_len, get, keys}
use Rattle.std.specs.List.{list_any, sum_by}
use Rattle.std.specs.Map.{keys_of}
use Rattle.std.specs.Option.{unwrap_or}
use Rattle.std.specs.Ordering.{eq_by_cmp, nat_cmp}
use Rattle.std.specs.Cmp.{unsigned_tied}
use Rattle.std.proofs.lemmas.Bool.Decides.{eqb_tells, nat_tests}
use Rattle.std.proofs.lemmas.Cmp.{eq_by_cmp_equiv, nat_cmp_total}
use Rattle.std.proofs.lemmas.List.Folds.{list_any-append}
use Rattle.std.proofs.lemmas.List.Sums.{sum_by-cons}
use Rattle.std.proofs.lemmas.Map.Entries.{length-keys_of}
use Rattle.std.proofs.lemmas.Map.Keys.{IsDistinct-from_sorted}
use Rattle.std.proofs.lemmas.Map.Made.{is_some-lookup}
use Rattle.std.proofs.lemmas.Map.Steps.{length-le_from_keys}
use Rattle.ompt_calls.specs.declared.call.Call.{Call}
use Rattle.ompt_calls.specs.declared.call.Call.TheVariants.{ParallelBegin, MutexReleased, MutexAcquired}
use Rattle.ompt_calls.specs.declared.event.EventRecord.{EventRecord}
use Rattle.trace_format.specs.declared.trace.Header.{Header}
use Rattle.trace_check.specs.declared.bracket.Bracket.{Bracket}
use Rattle.trace_check.specs.declared.breach.Breach.{Breach}
use Rattle.trace_check.specs.declared.checker.Checker.{Checker}
use Rattle.trace_check.specs.declared.kept.Kept.{Kept}
use Rattle.trace_check.specs.declared.things.Region.{Region}
use Rattle.trace_check.specs.Before.{Creation, Join, creations, events_of, has_begun_region, has_ended, has_ended_region, held_after, holder, is_begin, is_complete, is_just, is_open_region, joins, joins_of, opened, region_begun}
use Rattle.trace_check.specs.Checking.{AreOrdered, Checks, IsKnown, IsRegion, KeptSo, KnownBrackets, KnownCreated, KnownHeld, KnownMembers, KnownRegions, KnownThreads, Unbroken, bracket_at, created_of, creation_in, join_at, kept_by, member_of, thread_known, thread_of}
use Rattle.trace_format.specs.Validity.{is_among}
use Rattle.trace_check.specs.Opened.{acquired, acquired_ids, and_id, begun_threads, held_ids, is_begin_of_open, is_held, open_brackets, open_members, open_of, open_regions, open_tasks}
use Rattle.trace_check.specs.Rules.{keeps_threads}
use Rattle.trace_check.proofs.Firsts.{keeps_each}
use Rattle.trace_check.proofs.Quiet.{quiet_opened}
use Rattle.trace_check.proofs.Verdicts.{holds, must-begin}

-- ---- tests of lists

-- one of two holds where both parts of the first do
or-first : (a b rest : Bool) → a ≡ true → b ≡ true → ((a && b) || rest) ≡ true
or-first true true rest first second = refl
or-first true false rest first second = cc
or-first false b rest first second = cc

-- or where the second does
pub or-rest : (a rest : Bool) → rest ≡ true → (a || rest) ≡ true
or-rest true rest is = refl
or-rest false rest is = is

-- one of two holds, from one of two others
or-more : (a b rest more : Bool) → (a ≡ true → b ≡ true) → (rest ≡ true → more ≡ true) → (a || rest) ≡ true → (b || more) ≡ true
or-more true b rest more first others is = rw (first refl) refl
or-more false true rest more first others is = refl
or-more false false rest more first others is = others is

-- an element passes one test where it passes another
pub any-more : {X : Type 0} (p r : X → Bool) (xs : List X) → ((x : X) → p x ≡ true → r x ≡ true) → list_any p xs ≡ true → list_any r xs ≡ true
any-more p r [] more is = is
any-more p r (x ∷ xs) more is = or-more (p x) (r x) (list_any p xs) (list_any r xs) (more x) (any-more p r xs more) is

-- the parts of two tests
pub both : (a b : Bool) → (a && b) ≡ true → (a ≡ true) × (b ≡ true)
both true true is = (refl, refl)
both true false is = absurd cc
both false b is = absurd cc

-- and two tests from their parts
pub and-both : (a b : Bool) → a ≡ true → b ≡ true → (a && b) ≡ true
and-both true true first second = refl
and-both true false first second = cc
and-both false b first second = cc

-- equal numbers pass the test
pub equal : (a b : ℕ) → a ≡ b → (a == b) ≡ true
equal a b is = grind (arith, nat_tests, is)

-- and numbers that pass it are equal
pub equal-so : (a b : ℕ) → (a == b) ≡ true → a ≡ b
equal-so a b is = grind (arith, nat_tests, is)

-- ---- a map whose keys are among some numbers

-- whether a number is among these
abbrev among : ℕ → List ℕ → Bool
among q ks = list_any (λ (k : ℕ). q == k) ks

-- the keys of a map are compared as numbers are
tied : (q : ℕ) (ks : List ℕ) → list_any (eq_by_cmp nat_cmp q) ks ≡ among q ks
tied q [] = refl
tied q (k ∷ ks) = let here = unsigned_tied q k in let rest = tied q ks in cc

-- numbers as the keys of pairs
paired : (ks : List ℕ) → keys_of (map (λ (k : ℕ). (k, k)) ks) ≡ ks
paired [] = refl
paired (k ∷ ks) = ap (λ (rest : List ℕ). k ∷ rest) (paired ks)

-- as many pairs as numbers
as-many : (ks : List ℕ) → length {A = ℕ × ℕ} (map (λ (k : ℕ). (k, k)) ks) ≡ length ks
as-many [] = refl
as-many (k ∷ ks) = let rest = as-many ks in omega (arith, rest)

-- a map whose keys are among these has no more entries
fewer : {V : Type 0} (m : BTreeMap ℕ V) (cover : List ℕ) → IsOrdered nat_cmp m → ((q : ℕ) → is_some (get nat_cmp m q) ≡ true → among q cover ≡ true) →
    btree_map_len m ≤ length cover
fewer {V} m cover ordered covers =
    let es : List (ℕ × ℕ) = map (λ (k : ℕ). (k, k)) cover in
    let less : length (keys m) ≤ length es = length-le_from_keys (eq_by_cmp_equiv nat_cmp_total) (keys m) es (IsDistinct-from_sorted nat_cmp (keys m) ordered)
    (λ (q : ℕ) (is : list_any (eq_by_cmp nat_cmp q) (keys m) ≡ true).
    is_some-lookup (eq_by_cmp nat_cmp q) es ∙ (tied q (keys_of es) ∙ (ap (among q) (paired cover) ∙ covers q (is_some-lookup (eq_by_cmp nat_cmp q) m.entries ∙ is)))) in
    let these = length-keys_of m.entries in
    let those = as-many cover in
    omega (arith, less, these, those)

-- the numbers of those that pass
abbrev chosen : {X : Type 0} → (X → Bool) → (X → ℕ) → List X → List ℕ
chosen p key [] = []
chosen p key (x ∷ xs) = if p x then key x ∷ chosen p key xs else chosen p key xs

-- one number more, or none
length-choice : (b : Bool) (k : ℕ) (ks : List ℕ) (n : ℕ) → length ks ≡ n → length (if b then k ∷ ks else ks) ≡ cond b 1 0 + n
length-choice true k ks n is = omega (arith, is)
length-choice false k ks n is = omega (arith, is)

-- as many numbers as elements that pass
length-chosen : {X : Type 0} (p : X → Bool) (key : X → ℕ) (xs : List X) → length (chosen p key xs) ≡ count_by p xs
length-chosen p key [] = refl
length-chosen {X} p key (x ∷ xs) = length-choice (p x) (key x) (chosen p key xs) (count_by p xs) (length-chosen p key xs) ∙ sym (sum_by-cons (λ (x : X). cond (p x) 1 0) x xs)

-- a number is among one more, or none
found-choice : (b : Bool) (q k : ℕ) (ks : List ℕ) (rest : Bool) → (rest ≡ true → among q ks ≡ true) → ((b && (q == k)) || rest) ≡ true → among q (if b then k ∷ ks else ks) ≡ true
found-choice true q k ks rest more is = or-more (q == k) (q == k) rest (among q ks) (λ h. h) more is
found-choice false q k ks rest more is = more is

-- the number of an element that passes is among them
found-chosen : {X : Type 0} (p : X → Bool) (key : X → ℕ) (q : ℕ) (xs : List X) → list_any (λ (x : X). p x && (q == key x)) xs ≡ true → among q (chosen p key xs) ≡ true
found-chosen p key q [] is = is
found-chosen {X} p key q (x ∷ xs) is = found-choice (p x) q (key x) (chosen p key xs) (list_any (λ (x : X). p x && (q == key x)) xs) (found-chosen p key q xs) is

-- a map whose keys are those of elements that pass has no more entries
counted : {X V : Type 0} (m : BTreeMap ℕ V) (p : X → Bool) (key : X → ℕ) (xs : List X) → IsOrdered nat_cmp m →
    ((q : ℕ) → is_some (get nat_cmp m q) ≡ true → list_any (λ (x : X). p x && (q == key x)) xs ≡ true) → btree_map_len m ≤ count_by p xs
counted m p key xs ordered covers =
    let less = fewer m (chosen p key xs) ordered (λ (q : ℕ) (is : is_some (get nat_cmp m q) ≡ true). found-chosen p key q xs (covers q is)) in
    let those = length-chosen p key xs in
    omega (arith, less, those)

-- ---- threads

-- a thread that had an event has begun
pub begun : (past : List EventRecord) (t : ℕ) → Unbroken past → (events_of t past == 0) ≡ false → list_any (λ (event : EventRecord). is_begin event.call && (t == event.thread)) past ≡ true
begun [] t unbroken had = cc
begun (event ∷ past) t unbroken had =
    elim (eqb_tells (events_of t past) 0) as (λ _. list_any (λ (event : EventRecord). is_begin event.call && (t == event.thread)) (event ∷ past) ≡ true) [
      | inl none ↦ (
          let of-it : event.thread ≡ t = grind (arith, nat_tests, had, none.0) in
          let kept : keeps_threads past event ≡ true = holds (keeps_threads past event) (keeps_each past event 2 unbroken.0) in
          let none-here : (events_of event.thread past == 0) ≡ true = subst (λ (n : ℕ). (events_of n past == 0) ≡ true) (sym of-it) none.0 in
          let begins = must-begin (is_begin event.call) (events_of event.thread past == 0) (has_ended event.thread past) kept none-here in
          or-first (is_begin event.call) (t == event.thread) (list_any (λ (event : EventRecord). is_begin event.call && (t == event.thread)) past) begins (equal t event.thread (sym of-it)))
      | inr some ↦ or-rest (is_begin event.call && (t == event.thread)) (list_any (λ (event : EventRecord). is_begin event.call && (t == event.thread)) past)
          (begun past t unbroken.1 some.0)
    ]

-- what is there in the second case only
pub some-else : {V : Type 0} (b : Bool) (v : Option V) → is_some (if b then None else v) ≡ true → (b ≡ false) × (is_some v ≡ true)
some-else true v is = absurd cc
some-else false v is = (refl, is)

-- and in the first case only
some-then : {V : Type 0} (b : Bool) (v : Option V) → is_some (if b then v else None) ≡ true → (b ≡ true) × (is_some v ≡ true)
some-then true v is = (refl, is)
some-then false v is = absurd cc

-- no more threads are kept than have begun
few-threads : (kept : Kept) (past : List EventRecord) → Unbroken past → IsOrdered nat_cmp kept.threads → KnownThreads kept.threads past → btree_map_len kept.threads ≤ begun_threads past
few-threads kept past unbroken ordered known =
    counted kept.threads (λ (event : EventRecord). is_begin event.call) (λ (event : EventRecord). event.thread) past ordered
    (λ (q : ℕ) (is : is_some (get nat_cmp kept.threads q) ≡ true).
    begun past q unbroken (some-else (events_of q past == 0) (Some (thread_of q past)) (ap is_some (sym (known q)) ∙ is)).0)

-- ---- brackets

-- the keys of the brackets of a thread
abbrev places : ℕ → ℕ → List ℕ
places t zero = []
places t (suc n) = (t * 4294967296 + n) ∷ places t n

-- as many as it has brackets
length-places : (t n : ℕ) → length (places t n) ≡ n
length-places t zero = refl
length-places t (suc n) = let rest = length-places t n in omega (arith, rest)

-- each place has its key
found-place : (t place n : ℕ) → place < n → among (t * 4294967296 + place) (places t n) ≡ true
found-place t place zero low = absurd (omega arith)
found-place t place (suc n) low =
    elim (eqb_tells place n) as (λ _. among (t * 4294967296 + place) (places t (suc n)) ≡ true) [
      | inl here ↦ (let is = equal (t * 4294967296 + place) (t * 4294967296 + n) (omega (arith, here.1)) in rw is refl)
      | inr other ↦ (let less : place < n = (let apart = other.1 in omega (arith, apart, low)) in or-rest ((t * 4294967296 + place) == (t * 4294967296 + n)) (among (t * 4294967296 + place) (places t n)) (found-place t place n less))
    ]

-- the keys of the brackets of each thread that began
abbrev all-places : List EventRecord → List EventRecord → List ℕ
all-places all [] = []
all-places all (event ∷ past) = (if is_begin event.call then places event.thread (length (opened event.thread all)) else []) ++ all-places all past

-- as many keys, or none
length-some : (b : Bool) (t n : ℕ) (ks : List ℕ) (m : ℕ) → length ks ≡ m → length ((if b then places t n else []) ++ ks) ≡ (if b then n else 0) + m
length-some true t n ks m is = let a = length-append (places t n) ks in let b = length-places t n in omega (arith, a, b, is)
length-some false t n ks m is = omega (arith, is)

-- as many as brackets are open
length-all : (all past : List EventRecord) → length (all-places all past) ≡ sum_by (λ (event : EventRecord). if is_begin event.call then length (opened event.thread all) else 0) past
length-all all [] = refl
length-all all (event ∷ past) =
    length-some (is_begin event.call) event.thread (length (opened event.thread all)) (all-places all past) (sum_by (λ (event : EventRecord). if is_begin event.call then length (opened event.thread all) else 0) past) (length-all all past)
    ∙ sym (sum_by-cons (λ (event : EventRecord). if is_begin event.call then length (opened event.thread all) else 0) event past)

-- one of two holds where the first does
pub or-left : (a rest : Bool) → a ≡ true → (a || rest) ≡ true
or-left true rest is = refl
or-left false rest is = cc

-- a key is among those of its thread, or of a later one
found-some : (b : Bool) (t s place n : ℕ) (ks : List ℕ) (rest : Bool) → (t ≡ s → place < n) → (rest ≡ true → among (t * 4294967296 + place) ks ≡ true) → ((b && (t == s)) || rest) ≡ true →
    among (t * 4294967296 + place) ((if b then places s n else []) ++ ks) ≡ true
found-some true t s place n ks rest here more is =
    elim (eqb_tells t s) as (λ _. among (t * 4294967296 + place) (places s n ++ ks) ≡ true) [
      | inl alike ↦ list_any-append (λ (k : ℕ). (t * 4294967296 + place) == k) (places s n) ks
          ∙ or-left (among (t * 4294967296 + place) (places s n)) (among (t * 4294967296 + place) ks)
          (subst (λ (m : ℕ). among (t * 4294967296 + place) (places m n) ≡ true) alike.1 (found-place t place n (here alike.1)))
      | inr other ↦ list_any-append (λ (k : ℕ). (t * 4294967296 + place) == k) (places s n) ks
          ∙ or-rest (among (t * 4294967296 + place) (places s n)) (among (t * 4294967296 + place) ks) (more (rw other.0 at is))
    ]
found-some false t s place n ks rest here more is = more is

-- the key of a bracket of a thread that began is among them
found-all : (all past : List EventRecord) (t place : ℕ) → place < length (opened t all) → list_any (λ (event : EventRecord). is_begin event.call && (t == event.thread)) past ≡ true →
    among (t * 4294967296 + place) (all-places all past) ≡ true
found-all all [] t place low is = is
found-all all (event ∷ past) t place low is =
    found-some (is_begin event.call) t event.thread place (length (opened event.thread all)) (all-places all past) (list_any (λ (event : EventRecord). is_begin event.call && (t == event.thread)) past)
    (λ (alike : t ≡ event.thread). subst (λ (m : ℕ). place < length (opened m all)) alike low) (found-all all past t place low) is

-- a bracket that is found stands at a place below the number of brackets
below-depth : (js : List Join) (place : ℕ) (brackets : List Bracket) → is_some (bracket_at js place brackets) ≡ true → place < length brackets
below-depth js place [] is = absurd cc
below-depth js place (bracket ∷ rest) is =
    elim (eqb_tells (length rest) place) as (λ _. place < length (bracket ∷ rest)) [
      | inl here ↦ omega (arith, here.1)
      | inr other ↦ (let less = below-depth js place rest (rw other.0 at is) in omega (arith, less))
    ]

-- a thread with a bracket had an event
had-event : (t place : ℕ) (past : List EventRecord) → place < length (opened t past) → (events_of t past == 0) ≡ false
had-event t place past low =
    elim (eqb_tells (events_of t past) 0) as (λ _. (events_of t past == 0) ≡ false) [
      | inl none ↦ (
          let unknown : None ≡ thread_known t past = rw none.0 refl in
          let low-none : place < length {A = Bracket} [] = subst (λ (brackets : List Bracket). place < length brackets) (quiet_opened t past unknown) low in
          absurd (omega (arith, low-none)))
      | inr some ↦ some.0
    ]

-- no more brackets are kept than are open
few-brackets : (kept : Kept) (past : List EventRecord) → Unbroken past → IsOrdered nat_cmp kept.brackets → KnownBrackets kept.brackets past → btree_map_len kept.brackets ≤ open_brackets past
few-brackets kept past unbroken ordered known =
    let less = fewer kept.brackets (all-places past past) ordered covers in
    let those = length-all past past in
    omega (arith, less, those)
  where
    covers : (q : ℕ) → is_some (get nat_cmp kept.brackets q) ≡ true → among q (all-places past past) ≡ true
    covers q is =
        let t : ℕ = q / 4294967296 in
        let place : ℕ = q % 4294967296 in
        let low : q % 4294967296 < 4294967296 = omega arith in
        let whole : (q / 4294967296) * 4294967296 + q % 4294967296 ≡ q = omega arith in
        let there : is_some (get nat_cmp kept.brackets ((q / 4294967296) * 4294967296 + q % 4294967296)) ≡ true = subst (λ (n : ℕ). is_some (get nat_cmp kept.brackets n) ≡ true) (sym whole) is in
        let deep = below-depth (joins past) (q % 4294967296) (opened (q / 4294967296) past) (ap is_some (sym (known (q / 4294967296) (q % 4294967296) low)) ∙ there) in
        let begins = begun past (q / 4294967296) unbroken (had-event (q / 4294967296) (q % 4294967296) past deep) in
        subst (λ (n : ℕ). among n (all-places past past) ≡ true) whole (found-all past past (q / 4294967296) (q % 4294967296) deep begins)

-- ---- regions

-- a region that is kept is open
pub is-open : (r : ℕ) (past : List EventRecord) (region : Option Region) → IsRegion r past region → is_some region ≡ true → is_open_region r past ≡ true
is-open r past None known is = cc
is-open r past (Some region) known is = known.is_open

-- its begin is that of an open region
region-at : (r : ℕ) (all : List EventRecord) (seq thread state wait_id : ℕ) (call : Call) → is_open_region r all ≡ true → is_just r (region_begun call) ≡ true →
    (is_begin_of_open all (record { seq = seq; thread = thread; state = state; wait_id = wait_id; call = call }) && (r == unwrap_or (region_begun call) 0)) ≡ true
region-at r all seq thread state wait_id (ParallelBegin task frame region requested flags codeptr) opens is =
    let same : region.identity ≡ r = equal-so region.identity r is in
    and-both (is_open_region region.identity all) (r == region.identity) (subst (λ (n : ℕ). is_open_region n all ≡ true) (sym same) opens) (equal r region.identity (sym same))
region-at r all seq thread state wait_id other opens is = cc

-- no more regions are kept than are open
few-regions : (kept : Kept) (past : List EventRecord) → IsOrdered nat_cmp kept.regions → KnownRegions kept.regions past → btree_map_len kept.regions ≤ open_regions past
few-regions kept past ordered known =
    counted kept.regions (is_begin_of_open past) (λ (event : EventRecord). unwrap_or (region_begun event.call) 0) past ordered
    (λ (r : ℕ) (is : is_some (get nat_cmp kept.regions r) ≡ true).
    let opens : is_open_region r past ≡ true = is-open r past (get nat_cmp kept.regions r) (known r) is in
    any-more (λ (event : EventRecord). is_just r (region_begun event.call)) (λ (event : EventRecord). is_begin_of_open past event && (r == unwrap_or (region_begun event.call) 0)) past
    (λ (event : EventRecord) (begins : is_just r (region_begun event.call) ≡ true). region-at r past event.seq event.thread event.state event.wait_id event.call opens begins)
    (both (has_begun_region r past) (not (has_ended_region r past)) opens).0)

-- ---- implicit tasks

-- what is found at an element, or later
some-or : {V : Type 0} (b : Bool) (v : V) (o : Option V) (rest : Bool) → (is_some o ≡ true → rest ≡ true) → is_some (if b then Some v else o) ≡ true → (b || rest) ≡ true
some-or true v o rest more is = refl
some-or false v o rest more is = more is

-- an index that is found is that of a join
found-join : (index : ℕ) (js : List Join) → is_some (join_at index js) ≡ true → list_any (λ (join : Join). join.index == index) js ≡ true
found-join index [] is = is
found-join index (join ∷ js) is = some-or (join.index == index) join (join_at index js) (list_any (λ (join : Join). join.index == index) js) (found-join index js) is

-- a member is that of a join
some-member : (past : List EventRecord) (join : Option Join) → is_some (member_of past join) ≡ true → is_some join ≡ true
some-member past None is = is
some-member past (Some join) is = refl

-- an element among those that pass another test
in-filter : {X : Type 0} (f p : X → Bool) (xs : List X) → list_any p (filter f xs) ≡ true → list_any (λ (x : X). f x && p x) xs ≡ true
in-filter f p [] is = is
in-filter {X} f p (x ∷ xs) is = by-test (f x) (p x) (filter f xs) (in-filter f p xs) is
  where
    by-test : (b here : Bool) (rest : List X) → (list_any p rest ≡ true → list_any (λ (x : X). f x && p x) xs ≡ true) → list_any p (cond b (x ∷ rest) rest) ≡ true →
        ((b && p x) || list_any (λ (x : X). f x && p x) xs) ≡ true
    by-test true here rest more is = or-more (p x) (p x) (list_any p rest) (list_any (λ (x : X). f x && p x) xs) (λ h. h) more is
    by-test false here rest more is = more is

-- no more implicit tasks are kept than open regions have had
few-members : (kept : Kept) (past : List EventRecord) → IsOrdered nat_cmp kept.members → KnownMembers kept.members past → btree_map_len kept.members ≤ open_members past
few-members kept past ordered known =
    counted kept.members (λ (join : Join). is_open_region join.region past) (λ (join : Join). join.region * 4294967296 + join.index) (joins past) ordered covers
  where
    covers : (q : ℕ) → is_some (get nat_cmp kept.members q) ≡ true → list_any (λ (join : Join). is_open_region join.region past && (q == join.region * 4294967296 + join.index)) (joins past) ≡ true
    covers q is =
        let low : q % 4294967296 < 4294967296 = omega arith in
        let whole : (q / 4294967296) * 4294967296 + q % 4294967296 ≡ q = omega arith in
        let there : is_some (get nat_cmp kept.members ((q / 4294967296) * 4294967296 + q % 4294967296)) ≡ true = subst (λ (n : ℕ). is_some (get nat_cmp kept.members n) ≡ true) (sym whole) is in
        let found = some-then (is_open_region (q / 4294967296) past) (member_of past (join_at (q % 4294967296) (joins_of (q / 4294967296) past)))
        (ap is_some (sym (known (q / 4294967296) (q % 4294967296) low)) ∙ there) in
        let seat = in-filter (λ (join : Join). join.region == (q / 4294967296)) (λ (join : Join). join.index == (q % 4294967296)) (joins past)
        (found-join (q % 4294967296) (joins_of (q / 4294967296) past) (some-member past (join_at (q % 4294967296) (joins_of (q / 4294967296) past)) found.1)) in
        any-more (λ (join : Join). (join.region == (q / 4294967296)) && (join.index == (q % 4294967296))) (λ (join : Join). is_open_region join.region past && (q == join.region * 4294967296 + join.index)) (joins past)
        (λ (join : Join) (sits : ((join.region == (q / 4294967296)) && (join.index == (q % 4294967296))) ≡ true).
        let parts = both (join.region == (q / 4294967296)) (join.index == (q % 4294967296)) sits in
        let region : join.region ≡ q / 4294967296 = equal-so join.region (q / 4294967296) parts.0 in
        let index : join.index ≡ q % 4294967296 = equal-so join.index (q % 4294967296) parts.1 in
        and-both (is_open_region join.region past) (q == join.region * 4294967296 + join.index)
        (subst (λ (n : ℕ). is_open_region n past ≡ true) (sym region) found.0)
        (equal q (join.region * 4294967296 + join.index) (rw (region, index) (sym whole))))
        seat

-- ---- created tasks

-- a task that is found was created
pub found-creation : (task : ℕ) (made : List Creation) → is_some (creation_in task made) ≡ true → list_any (λ (creation : Creation). creation.task == task) made ≡ true
found-creation task [] is = is
found-creation task (creation ∷ made) is =
    some-or (creation.task == task) creation (creation_in task made) (list_any (λ (creation : Creation). creation.task == task) made) (found-creation task made) is

-- a created task that is kept is that of a creation
pub some-created : (past : List EventRecord) (creation : Option Creation) → is_some (created_of past creation) ≡ true → is_some creation ≡ true
some-created past None is = is
some-created past (Some creation) is = refl

-- no more created tasks are kept than are not complete
few-created : (kept : Kept) (past : List EventRecord) → IsOrdered nat_cmp kept.created → KnownCreated kept.created past → btree_map_len kept.created ≤ open_tasks past
few-created kept past ordered known =
    counted kept.created (λ (creation : Creation). not (is_complete creation.task past)) (λ (creation : Creation). creation.task) (creations past) ordered
    (λ (q : ℕ) (is : is_some (get nat_cmp kept.created q) ≡ true).
    let found = some-else (is_complete q past) (created_of past (creation_in q (creations past))) (ap is_some (sym (known q)) ∙ is) in
    any-more (λ (creation : Creation). creation.task == q) (λ (creation : Creation). not (is_complete creation.task past) && (q == creation.task)) (creations past)
    (λ (creation : Creation) (same : (creation.task == q) ≡ true).
    let task : creation.task ≡ q = equal-so creation.task q same in
    and-both (not (is_complete creation.task past)) (q == creation.task)
    (ap not (subst (λ (n : ℕ). is_complete n past ≡ false) (sym task) found.0)) (equal q creation.task (sym task)))
    (found-creation q (creations past) (some-created past (creation_in q (creations past)) found.1)))

-- ---- wait identifiers

-- an identifier stays among those acquired
among-more : (id new : ℕ) (ids : List ℕ) → is_among ids id ≡ true → is_among (and_id (Some new) ids) id ≡ true
among-more id new ids is = by-test (is_among ids new)
  where
    by-test : (b : Bool) → is_among (if b then ids else new ∷ ids) id ≡ true
    by-test true = is
    by-test false = or-rest (id == new) (is_among ids id) is

-- and one that is acquired is among them
among-new : (id new : ℕ) (ids : List ℕ) → new ≡ id → is_among (and_id (Some new) ids) id ≡ true
among-new id new ids same = elim-test (is_among ids new) refl
  where
    elim-test : (b : Bool) → is_among ids new ≡ b → is_among (if b then ids else new ∷ ids) id ≡ true
    elim-test true is = subst (λ (n : ℕ). is_among ids n ≡ true) same is
    elim-test false is = or-left (id == new) (is_among ids id) (equal id new (sym same))

-- what is held after an event was acquired
held-step : (id thread : ℕ) (call : Call) (before : Option ℕ) (ids : List ℕ) → (is_some before ≡ true → is_among ids id ≡ true) → is_some (held_after id thread call before) ≡ true →
    is_among (and_id (acquired call) ids) id ≡ true
held-step id thread (MutexAcquired kind wait_id codeptr) before ids more is =
    elim (eqb_tells wait_id id) as (λ _. is_among (and_id (Some wait_id) ids) id ≡ true) [
      | inl here ↦ among-new id wait_id ids here.1
      | inr other ↦ among-more id wait_id ids (more (rw other.0 at is))
    ]
held-step id thread (MutexReleased kind wait_id codeptr) before ids more is = more (some-else (wait_id == id) before is).1
held-step id thread other before ids more is = more is

-- a wait identifier that is held was acquired
held-among : (id : ℕ) (past : List EventRecord) → is_some (holder id past) ≡ true → is_among (acquired_ids past) id ≡ true
held-among id [] is = is
held-among id (event ∷ past) is = held-step id event.thread event.call (holder id past) (acquired_ids past) (held-among id past) is

-- so one of the identifiers is it
any-among : (ids : List ℕ) (id : ℕ) → is_among ids id ≡ true → list_any (λ (other : ℕ). other == id) ids ≡ true
any-among [] id is = is
any-among (other ∷ ids) id is =
    elim (eqb_tells id other) as (λ _. list_any (λ (one : ℕ). one == id) (other ∷ ids) ≡ true) [
      | inl here ↦ or-left (other == id) (list_any (λ (one : ℕ). one == id) ids) (equal other id (sym here.1))
      | inr apart ↦ or-rest (other == id) (list_any (λ (one : ℕ). one == id) ids) (any-among ids id (rw apart.0 at is))
    ]

-- one that a thread holds is held
some-held : (thread : Option ℕ) → is_some thread ≡ true → is_held thread ≡ true
some-held None is = is
some-held (Some thread) is = refl

-- no more wait identifiers are kept than are held
few-held : (kept : Kept) (past : List EventRecord) → IsOrdered nat_cmp kept.held → KnownHeld kept.held past → btree_map_len kept.held ≤ held_ids past
few-held kept past ordered known =
    counted kept.held (λ (id : ℕ). is_held (holder id past)) (λ (id : ℕ). id) (acquired_ids past) ordered
    (λ (q : ℕ) (is : is_some (get nat_cmp kept.held q) ≡ true).
    let holds-it : is_some (holder q past) ≡ true = ap is_some (sym (known q)) ∙ is in
    any-more (λ (id : ℕ). id == q) (λ (id : ℕ). is_held (holder id past) && (q == id)) (acquired_ids past)
    (λ (id : ℕ) (same : (id == q) ≡ true).
    let is-it : id ≡ q = equal-so id q same in
    and-both (is_held (holder id past)) (q == id) (subst (λ (n : ℕ). is_held (holder n past) ≡ true) (sym is-it) (some-held (holder q past) holds-it)) (equal q id (sym is-it)))
    (any-among (acquired_ids past) q (held-among q past holds-it)))

-- ---- all that is kept

-- no more is kept than is open
few-known : (kept : Kept) (past : List EventRecord) → AreOrdered kept → Unbroken past → IsKnown kept past → kept_by kept ≤ open_of past
few-known kept past ordered unbroken known =
    let threads = few-threads kept past unbroken ordered.threads known.threads in
    let brackets = few-brackets kept past unbroken ordered.brackets known.brackets in
    let regions = few-regions kept past ordered.regions known.things.regions in
    let members = few-members kept past ordered.members known.things.members in
    let created = few-created kept past ordered.created known.things.created in
    let held = few-held kept past ordered.held known.things.held in
    added (btree_map_len kept.threads) (btree_map_len kept.brackets) (btree_map_len kept.regions) (btree_map_len kept.members) (btree_map_len kept.created) (btree_map_len kept.held)
    (begun_threads past) (open_brackets past) (open_regions past) (open_members past) (open_tasks past) (held_ids past) threads brackets regions members created held
  where
    added : (a b c d e f k l m n o p : ℕ) → a ≤ k → b ≤ l → c ≤ m → d ≤ n → e ≤ o → f ≤ p → a + b + c + d + e + f ≤ k + l + m + n + o + p
    added a b c d e f k l m n o p x y z u v w = omega arith

-- nor where a rule is broken
few-so : (kept : Kept) (breach : Option Breach) (header : Header) (past : List EventRecord) → AreOrdered kept → KeptSo kept breach header past → kept_by kept ≤ open_of past
few-so kept None header past ordered so = few-known kept past ordered so.unbroken so.known
few-so kept (Some breach) header past ordered so = none-less (kept_by kept) (open_of past) so.none
  where
    none-less : (a b : ℕ) → a ≡ 0 → a ≤ b
    none-less a b is = omega arith

-- so a checker keeps no more than is open
pub keeps_few : (checker : Checker) (header : Header) (events : List EventRecord) (n : ℕ) → Checks checker header events → AreOrdered checker.kept → n ≤ kept_by checker.kept → n ≤ open_of (reverse events)
keeps_few checker header events n checks ordered less =
    at-most n (kept_by checker.kept) (open_of (reverse events)) less (few-so checker.kept checker.breach header (reverse events) ordered checks.kept_so)
  where
    at-most : (a b c : ℕ) → a ≤ b → b ≤ c → a ≤ c
    at-most a b c x y = omega arith
