-- Whether nothing is open, as it is kept.
use Rattle.std.proofs.Common.{◌≡◌, ℕ, ◌+◌, ◌<◌, ◌==◌, ◌&&◌, ◌||◌, ◌⊎◌, Bool, true, false, not, cond, if◌then◌else◌, List, [], ◌∷◌, length, count_by, is_some, Option, Some, None, inl, inr, refl, sym, ap, subst, ◌∙◌, arith}
use Rattle.std.specs.BTreeMap.{BTreeMap, IsOrdered, btree_map_len, get, values}
use Rattle.std.specs.List.{list_all, list_any}
use Rattle.std.specs.Map.{lookup, values_of}
use Rattle.std.specs.Ordering.{eq_by_cmp, nat_cmp}
use Rattle.std.proofs.lemmas.Bool.Decides.{nat_tests}
use Rattle.std.proofs.lemmas.Cmp.{eq_by_cmp_equiv, nat_cmp_total}
use Rattle.std.proofs.lemmas.List.Folds.{list_all-map}
use Rattle.std.proofs.lemmas.List.Sums.{list_all-from_AllPass, sum_by-cons}
use Rattle.std.proofs.lemmas.Map.Views.{All-found}
use Rattle.ompt_calls.specs.declared.call.Call.{Call}
use Rattle.ompt_calls.specs.declared.call.Call.TheVariants.{ParallelBegin}
use Rattle.ompt_calls.specs.declared.event.EventRecord.{EventRecord}
use Rattle.trace_check.specs.declared.things.Created.{Created}
use Rattle.trace_check.specs.declared.things.Region.{Region}
use Rattle.trace_check.specs.declared.things.Thread.{Thread}
use Rattle.trace_check.specs.Before.{Creation, creations, events_of, has_begun_region, has_ended, has_ended_region, is_begin, is_complete, is_just, is_of, is_open_region, region_begun}
use Rattle.trace_check.specs.Checking.{IsRegion, KnownCreated, KnownRegions, KnownThreads, Unbroken, created_of, creation_in, thread_known, thread_of}
use Rattle.trace_check.specs.Nested.{are_regions_over, are_tasks_complete, has_begun, have_ended, is_region_over}
use Rattle.trace_check.proofs.Few.{and-both, any-more, begun, both, equal, equal-so, found-creation, is-open, or-left, or-rest, some-created, some-else}

-- ---- tests of lists

-- two tests that follow from one another are the same
alike : (a b : Bool) → (a ≡ true → b ≡ true) → (b ≡ true → a ≡ true) → a ≡ b
alike true true there back = refl
alike true false there back = sym (there refl)
alike false true there back = back refl
alike false false there back = refl

-- the element is in the list
abbrev Within : {X : Type 0} → X → List X → Type 0
Within x [] = ⊥
Within x (y ∷ ys) = (x ≡ y) ⊎ Within x ys

-- all pass where each does
all-within : {X : Type 0} (p : X → Bool) (xs : List X) → ((x : X) → Within x xs → p x ≡ true) → list_all p xs ≡ true
all-within p [] each = refl
all-within {X} p (y ∷ ys) each = and-both (p y) (list_all p ys) (each y (inl refl)) (all-within p ys (λ (x : X) (at : Within x ys). each x (inr at)))

-- each passes where all do
within-all : {X : Type 0} (p : X → Bool) (x : X) (xs : List X) → list_all p xs ≡ true → Within x xs → p x ≡ true
within-all p x [] all at = absurd at
within-all {X} p x (y ∷ ys) all (inl same) = subst (λ (z : X). p z ≡ true) (sym same) (both (p y) (list_all p ys) all).0
within-all p x (y ∷ ys) all (inr at) = within-all p x ys (both (p y) (list_all p ys) all).1 at

-- one passes, by one in the list
any-within : {X : Type 0} (p : X → Bool) (x : X) (xs : List X) → p x ≡ true → Within x xs → list_any p xs ≡ true
any-within p x [] is at = absurd at
any-within {X} p x (y ∷ ys) is (inl same) = or-left (p y) (list_any p ys) (subst (λ (z : X). p z ≡ true) same is)
any-within p x (y ∷ ys) is (inr at) = or-rest (p y) (list_any p ys) (any-within p x ys is at)

-- one that passes
record Found {X : Type 0} (p : X → Bool) (xs : List X) : Type 0 where
  item : X
  is_there : Within item xs
  passes : p item ≡ true

-- one that passes is found
found : {X : Type 0} (p : X → Bool) (xs : List X) → list_any p xs ≡ true → Found p xs
found p [] is = absurd cc
found {X} p (y ∷ ys) is = by-test (p y) refl (found p ys) is
  where
    by-test : (b : Bool) → p y ≡ b → (list_any p ys ≡ true → Found p ys) → (b || list_any p ys) ≡ true → Found p (y ∷ ys)
    by-test true passes more is = record { item = y; is_there = inl refl; passes = passes }
    by-test false fails more is =
        let later : Found p ys = more is in
        record { item = later.item; is_there = inr later.is_there; passes = later.passes }

-- some pass where one does
count-some : {X : Type 0} (p : X → Bool) (xs : List X) → list_any p xs ≡ true → (count_by p xs == 0) ≡ false
count-some p [] is = cc
count-some {X} p (x ∷ xs) is = rw (sum_by-cons (λ (x : X). cond (p x) 1 0) x xs) (by-test (p x) (list_any p xs) (count-some p xs) is)
  where
    by-test : (b rest : Bool) → (rest ≡ true → (count_by p xs == 0) ≡ false) → (b || rest) ≡ true → (cond b 1 0 + count_by p xs == 0) ≡ false
    by-test true rest more is = grind (arith, nat_tests)
    by-test false rest more is = let fails = more is in grind (arith, nat_tests, fails)

-- ---- maps

-- a map without an entry finds nothing, and one that finds nothing has no entry
finds-none : {V : Type 0} (test : ℕ → Bool) (es : List (ℕ × V)) → length es ≡ 0 → lookup test es ≡ None
finds-none test [] is = refl
finds-none test (e ∷ es) is = absurd (omega (arith, is))

-- a map that finds nothing has no entry
none-found : {V : Type 0} (es : List (ℕ × V)) → ((q : ℕ) → is_some (lookup (eq_by_cmp nat_cmp q) es) ≡ true → ⊥) → length es ≡ 0
none-found [] none = refl
none-found ((k, v) ∷ es) none = absurd (none k (let same : eq_by_cmp nat_cmp k k ≡ true = (eq_by_cmp_equiv nat_cmp_total).refl k in rw same refl))

-- a value that is found passes where all do
all-values : {V : Type 0} (p : V → Bool) (test : ℕ → Bool) (es : List (ℕ × V)) (v : V) → list_all p (values_of es) ≡ true → lookup test es ≡ Some v → p v ≡ true
all-values p test [] v all is = absurd cc
all-values {V} p test ((k, w) ∷ es) v all is = by-test (test k) (all-values p test es v) is
  where
    parts : (p w ≡ true) × (list_all p (values_of es) ≡ true)
    parts = both (p w) (list_all p (values_of es)) all

    by-test : (b : Bool) → (list_all p (values_of es) ≡ true → lookup test es ≡ Some v → p v ≡ true) → cond b (Some w) (lookup test es) ≡ Some v → p v ≡ true
    by-test true more is = subst (λ (z : V). p z ≡ true) (let same : w ≡ v = cc in same) parts.0
    by-test false more is = more parts.1 is

-- all values pass where each one that is found does
each-value : {V : Type 0} (p : V → Bool) (m : BTreeMap ℕ V) → IsOrdered nat_cmp m → ((k : ℕ) (v : V) → get nat_cmp m k ≡ Some v → p v ≡ true) → list_all p (values m) ≡ true
each-value {V} p m ordered each =
    list_all-map p (λ (e : ℕ × V). e.1) m.entries
    ∙ list_all-from_AllPass (λ (e : ℕ × V). p e.1) m.entries
    (λ (k : ℕ) (d : ℕ × V) (low : k < length m.entries). each _ _ (All-found nat_cmp_total m ordered k d low))

-- ---- threads

-- a thread that had an event is known
had : (t : ℕ) (past : List EventRecord) → (events_of t past == 0) ≡ false → thread_known t past ≡ Some (thread_of t past)
had t past some = rw some refl

-- thread 0 is known exactly where it has begun
pub begun_is : (threads : BTreeMap ℕ Thread) (past : List EventRecord) → KnownThreads threads past → Unbroken past → is_some (get nat_cmp threads 0) ≡ has_begun past
begun_is threads past known unbroken = ap is_some (known 0) ∙ alike (is_some (thread_known 0 past)) (has_begun past) there back
  where
    there : is_some (thread_known 0 past) ≡ true → has_begun past ≡ true
    there is = any-more (λ (event : EventRecord). is_begin event.call && (0 == event.thread)) (λ (event : EventRecord). is_of 0 event && is_begin event.call) past
        (λ (event : EventRecord) (begins : (is_begin event.call && (0 == event.thread)) ≡ true).
        let parts = both (is_begin event.call) (0 == event.thread) begins in
        and-both (is_of 0 event) (is_begin event.call) (equal event.thread 0 (sym (equal-so 0 event.thread parts.1))) parts.0)
        (begun past 0 unbroken (some-else (events_of 0 past == 0) (Some (thread_of 0 past)) is).0)

    back : has_begun past ≡ true → is_some (thread_known 0 past) ≡ true
    back is = ap is_some (had 0 past (count-some (is_of 0) past (any-more (λ (event : EventRecord). is_of 0 event && is_begin event.call) (is_of 0) past
        (λ (event : EventRecord) (begins : (is_of 0 event && is_begin event.call) ≡ true). (both (is_of 0 event) (is_begin event.call) begins).0) is)))

-- a thread that begins has ended, by the test
begins-so : (begins ended : Bool) → (not begins || ended) ≡ true → begins ≡ true → ended ≡ true
begins-so true ended is begins = is
begins-so false ended is begins = absurd cc

-- and the test, by that
so-begins : (begins ended : Bool) → (begins ≡ true → ended ≡ true) → (not begins || ended) ≡ true
so-begins true ended so = so refl
so-begins false ended so = refl

-- the value in the second case
same-value : {V : Type 0} (b : Bool) (v w : V) → (if b then None else Some v) ≡ Some w → (b ≡ false) × (v ≡ w)
same-value true v w is = absurd cc
same-value false v w is = (refl, (let same : v ≡ w = cc in same))

-- all threads that are known have ended exactly where all that began have
pub ended_is : (threads : BTreeMap ℕ Thread) (past : List EventRecord) → IsOrdered nat_cmp threads → KnownThreads threads past → Unbroken past →
    list_all (λ (thread : Thread). thread.ended) (values threads) ≡ have_ended past
ended_is threads past ordered known unbroken = alike (list_all (λ (thread : Thread). thread.ended) (values threads)) (have_ended past) there back
  where
    there : list_all (λ (thread : Thread). thread.ended) (values threads) ≡ true → have_ended past ≡ true
    there all = all-within (λ (event : EventRecord). not (is_begin event.call) || has_ended event.thread past) past
        (λ (event : EventRecord) (at : Within event past). so-begins (is_begin event.call) (has_ended event.thread past)
        (λ _. all-values (λ (thread : Thread). thread.ended) (eq_by_cmp nat_cmp event.thread) threads.entries (thread_of event.thread past) all
        (known event.thread ∙ had event.thread past (count-some (is_of event.thread) past (any-within (is_of event.thread) event past (equal event.thread event.thread refl) at)))))

    back : have_ended past ≡ true → list_all (λ (thread : Thread). thread.ended) (values threads) ≡ true
    back all = each-value (λ (thread : Thread). thread.ended) threads ordered
        (λ (t : ℕ) (thread : Thread) (is : get nat_cmp threads t ≡ Some thread).
        let value = same-value (events_of t past == 0) (thread_of t past) thread (sym (known t) ∙ is) in
        let first : Found (λ (event : EventRecord). is_begin event.call && (t == event.thread)) past = found (λ (event : EventRecord). is_begin event.call && (t == event.thread)) past (begun past t unbroken value.0) in
        let parts = both (is_begin first.item.call) (t == first.item.thread) first.passes in
        let ends = begins-so (is_begin first.item.call) (has_ended first.item.thread past) (within-all (λ (event : EventRecord). not (is_begin event.call) || has_ended event.thread past) first.item past all first.is_there) parts.0 in
        let ends-here : has_ended t past ≡ true = subst (λ (n : ℕ). has_ended n past ≡ true) (sym (equal-so t first.item.thread parts.1)) ends in
        subst (λ (z : Thread). z.ended ≡ true) value.1 ends-here)

-- ---- regions

-- a region that is over has ended
over-so : (r : ℕ) (past : List EventRecord) (seq thread state wait_id : ℕ) (call : Call) → is_just r (region_begun call) ≡ true →
    is_region_over past (record { seq = seq; thread = thread; state = state; wait_id = wait_id; call = call }) ≡ true → has_ended_region r past ≡ true
over-so r past seq thread state wait_id (ParallelBegin task frame region requested flags codeptr) is over =
    subst (λ (n : ℕ). has_ended_region n past ≡ true) (equal-so region.identity r is) over
over-so r past seq thread state wait_id other is over = cc

-- a region that has ended is over
so-over : (past : List EventRecord) (seq thread state wait_id : ℕ) (call : Call) → ((r : ℕ) → is_just r (region_begun call) ≡ true → has_ended_region r past ≡ true) →
    is_region_over past (record { seq = seq; thread = thread; state = state; wait_id = wait_id; call = call }) ≡ true
so-over past seq thread state wait_id (ParallelBegin task frame region requested flags codeptr) so = so region.identity (equal region.identity region.identity refl)
so-over past seq thread state wait_id other so = refl

-- a region that began and is not open has ended
not-open : (begins ended : Bool) → (begins && not ended) ≡ false → begins ≡ true → ended ≡ true
not-open true true is begins = refl
not-open true false is begins = cc
not-open false ended is begins = cc

-- a test cannot hold and fail
not-both : (ended : Bool) → ended ≡ true → not ended ≡ true → ⊥
not-both true is isnt = cc
not-both false is isnt = cc

-- no region is kept exactly where each is over
pub regions_are : (regions : BTreeMap ℕ Region) (past : List EventRecord) → KnownRegions regions past →
    (btree_map_len regions ≡ 0 → are_regions_over past ≡ true) × (are_regions_over past ≡ true → btree_map_len regions ≡ 0)
regions_are regions past known = (there, back)
  where
    there : btree_map_len regions ≡ 0 → are_regions_over past ≡ true
    there none = all-within (is_region_over past) past
        (λ (event : EventRecord) (at : Within event past). so-over past event.seq event.thread event.state event.wait_id event.call
        (λ (r : ℕ) (begins : is_just r (region_begun event.call) ≡ true).
        let closed : is_open_region r past ≡ false = subst (λ (region : Option Region). IsRegion r past region) (finds-none (eq_by_cmp nat_cmp r) regions.entries none) (known r) in
        not-open (has_begun_region r past) (has_ended_region r past) closed (any-within (λ (other : EventRecord). is_just r (region_begun other.call)) event past begins at)))

    back : are_regions_over past ≡ true → btree_map_len regions ≡ 0
    back over = none-found regions.entries
        (λ (r : ℕ) (is : is_some (get nat_cmp regions r) ≡ true).
        let parts = both (has_begun_region r past) (not (has_ended_region r past)) (is-open r past (get nat_cmp regions r) (known r) is) in
        let first : Found (λ (other : EventRecord). is_just r (region_begun other.call)) past = found (λ (other : EventRecord). is_just r (region_begun other.call)) past parts.0 in
        let ends = over-so r past first.item.seq first.item.thread first.item.state first.item.wait_id first.item.call first.passes (within-all (is_region_over past) first.item past over first.is_there) in
        not-both (has_ended_region r past) ends parts.1)

-- ---- created tasks

-- a task that was created is found
creation-some : (task : ℕ) (made : List Creation) → list_any (λ (creation : Creation). creation.task == task) made ≡ true → is_some (creation_in task made) ≡ true
creation-some task [] is = is
creation-some task (creation ∷ made) is = by-test (creation.task == task) (creation-some task made) is
  where
    by-test : (b : Bool) → (list_any (λ (creation : Creation). creation.task == task) made ≡ true → is_some (creation_in task made) ≡ true) → (b || list_any (λ (creation : Creation). creation.task == task) made) ≡ true → is_some (if b then Some creation else creation_in task made) ≡ true
    by-test true more is = refl
    by-test false more is = more is

-- a created task that is not kept is complete
not-kept : (complete : Bool) (past : List EventRecord) (creation : Option Creation) → is_some creation ≡ true → (if complete then None else created_of past creation) ≡ None → complete ≡ true
not-kept true past creation some is = refl
not-kept false past None some is = cc
not-kept false past (Some creation) some is = cc

-- no created task is kept exactly where each is complete
pub tasks_are : (created : BTreeMap ℕ Created) (past : List EventRecord) → KnownCreated created past →
    (btree_map_len created ≡ 0 → are_tasks_complete past ≡ true) × (are_tasks_complete past ≡ true → btree_map_len created ≡ 0)
tasks_are created past known = (there, back)
  where
    there : btree_map_len created ≡ 0 → are_tasks_complete past ≡ true
    there none = all-within (λ (creation : Creation). is_complete creation.task past) (creations past)
        (λ (creation : Creation) (at : Within creation (creations past)).
        not-kept (is_complete creation.task past) past (creation_in creation.task (creations past))
        (creation-some creation.task (creations past) (any-within (λ (other : Creation). other.task == creation.task) creation (creations past) (equal creation.task creation.task refl) at))
        (sym (known creation.task) ∙ finds-none (eq_by_cmp nat_cmp creation.task) created.entries none))

    back : are_tasks_complete past ≡ true → btree_map_len created ≡ 0
    back complete = none-found created.entries
        (λ (task : ℕ) (is : is_some (get nat_cmp created task) ≡ true).
        let parts = some-else (is_complete task past) (created_of past (creation_in task (creations past))) (ap is_some (sym (known task)) ∙ is) in
        let first : Found (λ (creation : Creation). creation.task == task) (creations past) =
        found (λ (creation : Creation). creation.task == task) (creations past) (found-creation task (creations past) (some-created past (creation_in task (creations past)) parts.1)) in
        let done : is_complete first.item.task past ≡ true = within-all (λ (creation : Creation). is_complete creation.task past) first.item (creations past) complete first.is_there in
        let done-here : is_complete task past ≡ true = subst (λ (n : ℕ). is_complete n past ≡ true) (equal-so first.item.task task first.passes) done in
        let wrong : true ≡ false = sym done-here ∙ parts.0 in
        absurd cc)

-- a test and a fact that tell the same
pub tells : (a b : Bool) (p : Type 0) → (a ≡ true → p) × (p → a ≡ true) → (p → b ≡ true) × (b ≡ true → p) → a ≡ b
tells a b p one other = alike a b (λ is. other.0 (one.0 is)) (λ is. one.1 (other.1 is))
