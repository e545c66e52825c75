-- A team whose size is the number of its joins has had each index.
use Rattle.std.proofs.Common.{◌≡◌, ℕ, zero, suc, ◌+◌, ◌*◌, ◌≤◌, ◌<◌, ◌==◌, ◌&&◌, ◌||◌, Bool, true, false, cond, not, List, [], ◌∷◌, length, Option, Some, None, refl, sym, ◌∙◌, ap, subst, arith}
use Rattle.std.specs.Prelude.{nat_lt}
use Rattle.std.specs.List.{AllByRecursion, IsDistinct, list_all, list_any, range_with_len}
use Rattle.std.specs.Ordering.{nat_cmp}
use Rattle.std.specs.BTreeMap.{BTreeMap, get}
use Rattle.std.proofs.Math.Dec.{eqb}
use Rattle.std.proofs.lemmas.Bool.{eqb-true, eq-eqb}
use Rattle.std.proofs.lemmas.Bool.Decides.{nat_tests}
use Rattle.std.proofs.lemmas.Map.Keys.{IsDistinct-cons}
use Rattle.std.proofs.lemmas.Map.Steps.{length-le_from_distinct_below}
use Rattle.ompt_calls.specs.declared.event.EventRecord.{EventRecord}
use Rattle.trace_check.specs.declared.things.Member.{Member}
use Rattle.trace_check.specs.declared.things.Region.{Region}
use Rattle.trace_check.specs.Before.{Join, has_left, joins_of}
use Rattle.trace_check.specs.Checking.{KnownMembers, OpenRegion, Unbroken, has_left_in, join_at, member_known, member_of, team_size}
use Rattle.trace_check.proofs.Joined.{not_at}
use Rattle.trace_check.proofs.TeamTests.{SoundTeam, all_same, by_join, is_beside, sound_team}
use Rattle.trace_check.proofs.Tests.{apart, left, right}

both_so : (a b : Bool) → (a ≡ true → b ≡ true) → (b ≡ true → a ≡ true) → a ≡ b
both_so true true there back = refl
both_so false false there back = refl
both_so true false there back = sym (there refl)
both_so false true there back = back refl

-- each has the size of the team
abbrev has_size : ℕ → Join → Bool
has_size n join = join.actual == n

beside_size : (index actual n : ℕ) (team : List Join) → actual ≡ n → list_all (is_beside index actual) team ≡ true → list_all (has_size n) team ≡ true
beside_size index actual n [] is beside = refl
beside_size index actual n (join ∷ team) is beside =
    let here : (join.actual == actual) ≡ true = right (not (join.index == index)) _ (left (is_beside index actual join) _ beside) in
    let same : (join.actual == n) ≡ true = subst (λ (v : ℕ). (join.actual == v) ≡ true) is here in
    rw (same, beside_size index actual n team is (right (is_beside index actual join) _ beside)) refl

sized : (n : ℕ) (team : List Join) → SoundTeam team → team_size team ≡ Some n → list_all (has_size n) team ≡ true
sized n [] sound size = refl
sized n (join ∷ team) sound size =
    let is : join.actual ≡ n = cc in
    rw (eq-eqb join.actual n is, beside_size join.index join.actual n team is sound.0) refl

-- no index of the size or above it has a join
pub none_above : (n i : ℕ) (team : List Join) → SoundTeam team → team_size team ≡ Some n → n ≤ i → join_at i team ≡ None
none_above n i team sound size above = by-list team sound (sized n team sound size)
  where
    other : (index actual : ℕ) → nat_lt index actual ≡ true → (actual == n) ≡ true → (index == i) ≡ false
    other index actual below is = grind (arith, nat_tests)

    by-test : (join : Join) (team : List Join) (b : Bool) → b ≡ false → join_at i team ≡ None → cond b (Some join) (join_at i team) ≡ None
    by-test join team true apart rest = absurd (cc)
    by-test join team false apart rest = rest

    by-list : (team : List Join) → SoundTeam team → list_all (has_size n) team ≡ true → join_at i team ≡ None
    by-list [] sound size = refl
    by-list (join ∷ team) sound size =
        by-test join team (join.index == i) (other join.index join.actual sound.1 (left (has_size n join) _ size)) (by-list team sound.2 (right (has_size n join) _ size))

-- a test of the join, where there is one
abbrev or_none : (Join → Bool) → Option Join → Bool
or_none f None = true
or_none f (Some join) = f join

lax : (f : Join → Bool) (join : Option Join) → by_join f join ≡ true → or_none f join ≡ true
lax f None holds = refl
lax f (Some join) holds = holds

-- what holds at each index holds of each join
each_join : (f : Join → Bool) (n : ℕ) (team : List Join) → SoundTeam team → list_all (has_size n) team ≡ true → ((i : ℕ) → i < n → or_none f (join_at i team) ≡ true) → list_all f team ≡ true
each_join f n [] sound size at = refl
each_join f n (join ∷ team) sound size at =
    rw (own, each_join f n team sound.2 (right (has_size n join) _ size) rest) refl
  where
    less : (a b m : ℕ) → nat_lt a b ≡ true → (b == m) ≡ true → a < m
    less a b m below is = grind (arith, nat_tests)

    own : f join ≡ true
    own = subst (λ (b : Bool). or_none f (cond b (Some join) (join_at join.index team)) ≡ true) (eq-eqb join.index join.index refl) (at join.index (less join.index join.actual n sound.1 (left (has_size n join) _ size)))

    by-test : (i : ℕ) (b : Bool) → (join.index == i) ≡ b → (found : Option Join) → join_at i team ≡ found → or_none f (cond b (Some join) found) ≡ true → or_none f found ≡ true
    by-test i false same found is holds = holds
    by-test i true same None is holds = refl
    by-test i true same (Some other) is holds = absurd (apart (join.index == i) same (not_at join.index join.actual i other team sound.0 is))

    rest : (i : ℕ) → i < n → or_none f (join_at i team) ≡ true
    rest i below = by-test i (join.index == i) refl (join_at i team) refl (at i below)

-- and the other way
at_each : (f : Join → Bool) (i : ℕ) (team : List Join) → list_all f team ≡ true → or_none f (join_at i team) ≡ true
at_each f i [] holds = refl
at_each f i (join ∷ team) holds = by-test (join.index == i) (left (f join) _ holds) (at_each f i team (right (f join) _ holds))
  where
    by-test : (b : Bool) → f join ≡ true → or_none f (join_at i team) ≡ true → or_none f (cond b (Some join) (join_at i team)) ≡ true
    by-test true here rest = here
    by-test false here rest = rest

-- ---- as many different indices below a number as it says are all of them

abbrev indices : List Join → List ℕ
indices [] = []
indices (join ∷ team) = join.index ∷ indices team

indices_length : (team : List Join) → length (indices team) ≡ length team
indices_length [] = refl
indices_length (join ∷ team) = ap (λ (n : ℕ). suc n) (indices_length team)

flipped : (a b : ℕ) → (a == b) ≡ false → eqb b a ≡ false
flipped a b other = grind (arith, nat_tests)

absent : (i : ℕ) (team : List Join) → join_at i team ≡ None → AllByRecursion (λ y. eqb i y ≡ false) (indices team)
absent i [] none = tt
absent i (join ∷ team) none = by-test (join.index == i) refl none (absent i team)
  where
    by-test : (b : Bool) → (join.index == i) ≡ b → cond b (Some join) (join_at i team) ≡ None → (join_at i team ≡ None → AllByRecursion (λ y. eqb i y ≡ false) (indices team))
        → AllByRecursion (λ y. eqb i y ≡ false) (join.index ∷ indices team)
    by-test true same none rest = absurd (cc)
    by-test false same none rest = (flipped join.index i same, rest none)

beside_absent : (index actual : ℕ) (team : List Join) → list_all (is_beside index actual) team ≡ true → AllByRecursion (λ y. eqb index y ≡ false) (indices team)
beside_absent index actual [] beside = tt
beside_absent index actual (join ∷ team) beside =
    (flip join.index index (left (not (join.index == index)) _ (left (is_beside index actual join) _ beside)), beside_absent index actual team (right (is_beside index actual join) _ beside))
  where
    flip : (a b : ℕ) → not (a == b) ≡ true → eqb b a ≡ false
    flip a b other = grind (arith, nat_tests)

different : (team : List Join) → SoundTeam team → IsDistinct eqb (indices team)
unfolding IsDistinct
different [] sound = tt
different (join ∷ team) sound = (beside_absent join.index join.actual team sound.0, different team sound.2)

below_all : (n q : ℕ) (team : List Join) → SoundTeam team → list_all (has_size n) team ≡ true → list_any (eqb q) (indices team) ≡ true → q < n
below_all n q [] sound size is = absurd (cc)
below_all n q (join ∷ team) sound size is = by-test (eqb q join.index) refl is (below_all n q team sound.2 (right (has_size n join) _ size))
  where
    less : (a b m : ℕ) → nat_lt a b ≡ true → (b == m) ≡ true → eqb q a ≡ true → q < m
    less a b m below is same = grind (arith, nat_tests)

    by-test : (b : Bool) → eqb q join.index ≡ b → (b || list_any (eqb q) (indices team)) ≡ true → (list_any (eqb q) (indices team) ≡ true → q < n) → q < n
    by-test true same is rest = less join.index join.actual n sound.1 (left (has_size n join) _ size) same
    by-test false same is rest = rest is

none_missing : (n i : ℕ) (team : List Join) → SoundTeam team → list_all (has_size n) team ≡ true → length team ≡ n → i < n → join_at i team ≡ None → ⊥
none_missing n i team sound size many below none =
    let few : length (i ∷ indices team) ≤ n = length-le_from_distinct_below (i ∷ indices team) n (IsDistinct-cons eqb i (indices team) (absent i team none) (different team sound)) (λ q is. by-test q (eqb q i) refl is) in
    let e : length (indices team) ≡ length team = indices_length team in
    let f : length (i ∷ indices team) ≡ suc (length (indices team)) = refl in
    absurd (omega (arith, few, e, f))
  where
    same : (q : ℕ) → eqb q i ≡ true → q < n
    same q is = grind (arith, nat_tests)

    by-test : (q : ℕ) (b : Bool) → eqb q i ≡ b → (b || list_any (eqb q) (indices team)) ≡ true → q < n
    by-test q true is any = same q is
    by-test q false is any = below_all n q team sound size any

-- ---- each index of a range

in_range : (p : ℕ → Bool) (a n i : ℕ) → list_all p (range_with_len a n) ≡ true → a ≤ i → i < a + n → p i ≡ true
in_range p a zero i holds from below = absurd (omega arith)
in_range p a (suc n) i holds from below =
    by-first (eqb a i) refl (λ after. in_range p (a + 1) n i (right (p a) _ holds) after (omega arith))
  where
    next : eqb a i ≡ false → a + 1 ≤ i
    next other = grind (arith, nat_tests)

    by-first : (b : Bool) → eqb a i ≡ b → (a + 1 ≤ i → p i ≡ true) → p i ≡ true
    by-first true same rest = subst (λ (v : ℕ). p v ≡ true) (eqb-true a i same) (left (p a) _ holds)
    by-first false other rest = rest (next other)

over_range : (p : ℕ → Bool) (a n : ℕ) → ((i : ℕ) → i < a + n → p i ≡ true) → list_all p (range_with_len a n) ≡ true
over_range p a zero holds = refl
over_range p a (suc n) holds = rw (holds a (omega arith), over_range p (a + 1) n (λ i below. holds i (omega arith))) refl

-- ---- the end of a region

both_tests : (n : ℕ) (f : Join → Bool) (team : List Join) → list_all (has_size n) team ≡ true → list_all f team ≡ true → list_all (λ (join : Join). (join.actual == n) && f join) team ≡ true
both_tests n f [] size holds = refl
both_tests n f (join ∷ team) size holds =
    rw (left (has_size n join) _ size, left (f join) _ holds, both_tests n f team (right (has_size n join) _ size) (right (f join) _ holds)) refl

second_test : (n : ℕ) (f : Join → Bool) (team : List Join) → list_all (λ (join : Join). (join.actual == n) && f join) team ≡ true → list_all f team ≡ true
second_test n f [] holds = refl
second_test n f (join ∷ team) holds = rw (right (has_size n join) (f join) (left (has_size n join && f join) _ holds), second_test n f team (right (has_size n join && f join) _ holds)) refl

team_ends : (n : ℕ) (f : Join → Bool) (team : List Join) → SoundTeam team → team_size team ≡ Some n → length team ≡ n
    → list_all (λ (i : ℕ). by_join f (join_at i team)) (range_with_len 0 n) ≡ list_all (λ (join : Join). (join.actual == n) && f join) team
team_ends n f team sound size many = both_so _ _
    (λ holds. both_tests n f team sizes (each_join f n team sound sizes (λ i below. lax f (join_at i team) (in_range _ 0 n i holds (omega arith) (omega arith)))))
    (λ holds. over_range _ 0 n (λ i below. present i (omega arith) (join_at i team) refl (at_each f i team (second_test n f team holds))))
  where
    sizes : list_all (has_size n) team ≡ true
    sizes = sized n team sound size

    present : (i : ℕ) → i < n → (found : Option Join) → join_at i team ≡ found → or_none f found ≡ true → by_join f found ≡ true
    present i below None is holds = absurd (none_missing n i team sound sizes many below is)
    present i below (Some join) is holds = holds

some_team : (n : ℕ) (team : List Join) → team_size team ≡ Some n → not (length team == 0) ≡ true
some_team n [] size = absurd (cc)
some_team n (join ∷ team) size = more (length team)
  where
    more : (m : ℕ) → not (suc m == 0) ≡ true
    more m = grind (arith, nat_tests)

-- what is kept of the members of a region tells whether each has left
pub team_left : (members : BTreeMap ℕ Member) (r n : ℕ) (past : List EventRecord) (region : Region) → KnownMembers members past → Unbroken past → OpenRegion r past region → region.actual ≡ Some n → region.had ≡ n → n < 4294967296
    → list_all (λ (index : ℕ). has_left_in (get nat_cmp members (r * 4294967296 + index))) (range_with_len 0 n)
    ≡ (not (length (joins_of r past) == 0) && list_all (λ (join : Join). (join.actual == length (joins_of r past)) && has_left join.task past) (joins_of r past))
team_left members r n past region known unbroken kept is had fits =
    let many : length (joins_of r past) ≡ n = sym kept.had ∙ had in
    let size : team_size (joins_of r past) ≡ Some n = sym kept.actual ∙ is in
    let each : list_all (λ (index : ℕ). has_left_in (get nat_cmp members (r * 4294967296 + index))) (range_with_len 0 n) ≡ list_all (λ (i : ℕ). by_join (λ (join : Join). has_left join.task past) (join_at i (joins_of r past))) (range_with_len 0 n) =
    all_same _ _ 0 n n (omega arith) (λ index below. ap has_left_in (known r index (omega arith)) ∙ left_at index) in
    rw (some_team n (joins_of r past) size) (each ∙ subst (λ (m : ℕ). list_all (λ (i : ℕ). by_join (λ (join : Join). has_left join.task past) (join_at i (joins_of r past))) (range_with_len 0 n) ≡ list_all (λ (join : Join). (join.actual == m) && has_left join.task past) (joins_of r past)) (sym many)
    (team_ends n (λ (join : Join). has_left join.task past) (joins_of r past) (sound_team r past unbroken) size many))
  where
    of-join : (join : Option Join) → has_left_in (member_of past join) ≡ by_join (λ (found : Join). has_left found.task past) join
    of-join None = refl
    of-join (Some join) = refl

    left_at : (index : ℕ) → has_left_in (member_known r index past) ≡ by_join (λ (join : Join). has_left join.task past) (join_at index (joins_of r past))
    left_at index = rw kept.is_open (of-join (join_at index (joins_of r past)))
