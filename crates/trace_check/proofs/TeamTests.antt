-- The implicit tasks of a region have different indices and one size, and what is kept of each index tells of all.
use Rattle.std.proofs.Common.{◌≡◌, ℕ, zero, suc, ◌+◌, ◌*◌, ◌≤◌, ◌<◌, ◌==◌, ◌&&◌, ◌||◌, Bool, true, false, cond, not, List, [], ◌∷◌, filter, Option, Some, None, refl, sym, ◌∙◌, ap, subst, arith}
use Rattle.std.specs.Prelude.{nat_le, nat_lt, is_some}
use Rattle.std.specs.List.{list_all, list_any, range_with_len}
use Rattle.std.specs.Ordering.{nat_cmp}
use Rattle.std.specs.BTreeMap.{BTreeMap, get}
use Rattle.std.proofs.lemmas.Bool.{eqb-true}
use Rattle.std.proofs.lemmas.Bool.Decides.{nat_tests}
use Rattle.ompt_calls.specs.declared.event.EventRecord.{EventRecord}
use Rattle.trace_check.specs.declared.things.Member.{Member}
use Rattle.trace_check.specs.declared.things.Region.{Region}
use Rattle.trace_check.specs.Before.{Join, and_more, greatest_task, is_open_region, join_of, joins, joins_of, waits_of}
use Rattle.trace_check.specs.Rules.{have_waited, may_join}
use Rattle.trace_check.specs.Checking.{KnownMembers, OpenRegion, Unbroken, fits_size, has_waited_in, join_at, member_known, member_of, team_size}
use Rattle.trace_check.proofs.Kept12.{KeepsAll, keeps_all}
use Rattle.trace_check.proofs.Tests.{left, right}

-- another index and the same size
abbrev pub is_beside : ℕ → ℕ → Join → Bool
is_beside index actual other = not (other.index == index) && (other.actual == actual)

abbrev pub SoundTeam : List Join → Type 0
SoundTeam [] = Unit {0}
SoundTeam (join ∷ team) = (list_all (is_beside join.index join.actual) team ≡ true) × (nat_lt join.index join.actual ≡ true) × SoundTeam team

same_size : (index actual : ℕ) (team : List Join) → list_all (is_beside index actual) team ≡ true → (v : ℕ) → actual ≡ v → fits_size (team_size team) v ≡ true
same_size index actual [] beside v is = refl
same_size index actual (join ∷ team) beside v is = subst (λ (n : ℕ). (join.actual == n) ≡ true) is (right (not (join.index == index)) _ (left _ _ beside))

-- so it is after events that break no rule
pub sound_team : (r : ℕ) (past : List EventRecord) → Unbroken past → SoundTeam (joins_of r past)
sound_team r [] unbroken = tt
sound_team r (event ∷ past) unbroken =
    let all : KeepsAll past event = keeps_all past event unbroken.0 in
    by-join (join_of event.call) (right _ (may_join past (join_of event.call)) all.tasks) (sound_team r past unbroken.1)
  where
    by-region : (join : Join) (b : Bool) → (join.region == r) ≡ b → may_join past (Some join) ≡ true → SoundTeam (joins_of r past) → SoundTeam (cond b (join ∷ joins_of r past) (joins_of r past))
    by-region join true same may sound =
        let h1 = right (is_open_region join.region past) _ may in
        let h2 = right _ _ h1 in
        let below = left (nat_lt join.index join.actual) _ h2 in
        let beside = right (nat_lt join.index join.actual) _ h2 in
        (subst (λ (n : ℕ). list_all (is_beside join.index join.actual) (joins_of n past) ≡ true) (eqb-true join.region r same) beside, below, sound)
    by-region join false same may sound = sound

    by-join : (join : Option Join) → may_join past join ≡ true → SoundTeam (joins_of r past) → SoundTeam (filter (λ (join : Join). join.region == r) (and_more join (joins past)))
    by-join None may sound = sound
    by-join (Some join) may sound = by-region join (join.region == r) refl may sound

-- ---- the join with an index

abbrev pub by_join : (Join → Bool) → Option Join → Bool
by_join f None = false
by_join f (Some join) = f join

-- none beside has the index
none_beside : (f : Join → Bool) (index actual : ℕ) (team : List Join) → list_all (is_beside index actual) team ≡ true → list_any (λ (join : Join). (join.index == index) && f join) team ≡ false
none_beside f index actual [] beside = refl
none_beside f index actual (join ∷ team) beside =
    by-test (join.index == index) (left _ _ (left _ _ beside)) (none_beside f index actual team (right _ _ beside))
  where
    by-test : (b : Bool) → not b ≡ true → list_any (λ (join : Join). (join.index == index) && f join) team ≡ false → ((b && f join) || list_any (λ (join : Join). (join.index == index) && f join) team) ≡ false
    by-test true apart rest = absurd (cc)
    by-test false apart rest = rest

any_at : (f : Join → Bool) (index : ℕ) (team : List Join) → SoundTeam team → list_any (λ (join : Join). (join.index == index) && f join) team ≡ by_join f (join_at index team)
any_at f index [] sound = refl
any_at f index (join ∷ team) sound = by-test (join.index == index) refl (f join) refl (any_at f index team sound.2)
  where
    by-test : (b : Bool) → (join.index == index) ≡ b → (v : Bool) → f join ≡ v → list_any (λ (join : Join). (join.index == index) && f join) team ≡ by_join f (join_at index team)
        → ((b && v) || list_any (λ (join : Join). (join.index == index) && f join) team) ≡ by_join f (cond b (Some join) (join_at index team))
    by-test true same true is rest = sym is
    by-test true same false is rest = none_beside f index join.actual team (subst (λ (n : ℕ). list_all (is_beside n join.actual) team ≡ true) (eqb-true join.index index same) sound.0) ∙ sym is
    by-test false same v is rest = rest

-- ---- tests of each index

pub all_mono : (p q : ℕ → Bool) → ((n : ℕ) → p n ≡ true → q n ≡ true) → (xs : List ℕ) → list_all p xs ≡ true → list_all q xs ≡ true
all_mono p q more [] holds = refl
all_mono p q more (x ∷ xs) holds = rw (more x (left (p x) _ holds), all_mono p q more xs (right (p x) _ holds)) refl

pub any_mono : (p q : Join → Bool) → ((join : Join) → p join ≡ true → q join ≡ true) → (team : List Join) → list_any p team ≡ true → list_any q team ≡ true
any_mono p q more [] holds = holds
any_mono p q more (join ∷ team) holds = by-tests (p join) (q join) (more join) holds (any_mono p q more team)
  where
    by-tests : (a b : Bool) → (a ≡ true → b ≡ true) → (a || list_any p team) ≡ true → (list_any p team ≡ true → list_any q team ≡ true) → (b || list_any q team) ≡ true
    by-tests true true step holds rest = refl
    by-tests true false step holds rest = absurd (apart (step refl))
      where
        apart : false ≡ true → ⊥
        apart e = cc
    by-tests false true step holds rest = refl
    by-tests false false step holds rest = rest holds

pub all_same : (p q : ℕ → Bool) (a n limit : ℕ) → a + n ≤ limit → ((i : ℕ) → i < limit → p i ≡ q i) → list_all p (range_with_len a n) ≡ list_all q (range_with_len a n)
all_same p q a zero limit few same = refl
all_same p q a (suc n) limit few same = rw (same a (omega arith), all_same p q (a + 1) n limit (omega arith) same) refl

-- more waits than these are these waits
waited_less : (past : List EventRecord) (r actual waits more : ℕ) → waits ≤ more → have_waited past r actual more ≡ true → have_waited past r actual waits ≡ true
waited_less past r actual waits more less holds =
    all_mono _ _ (λ index. any_mono _ _ (λ join. at-join (join.index == index) (waits_of join.task past)) (joins_of r past)) (range_with_len 0 actual) holds
  where
    lower : (w : ℕ) → nat_le more w ≡ true → nat_le waits w ≡ true
    lower w holds = grind (arith, nat_tests)

    at-join : (b : Bool) (w : ℕ) → (b && nat_le more w) ≡ true → (b && nat_le waits w) ≡ true
    at-join true w holds = lower w holds
    at-join false w holds = holds

-- what is kept of an index of an open region tells of its waits
waited_at : (past : List EventRecord) (r index waits : ℕ) → Unbroken past → is_open_region r past ≡ true
    → has_waited_in waits (member_known r index past) ≡ list_any (λ (join : Join). (join.index == index) && nat_le waits (waits_of join.task past)) (joins_of r past)
waited_at past r index waits unbroken is-open =
    rw is-open (at-join (join_at index (joins_of r past)) ∙ sym (any_at (λ (join : Join). nat_le waits (waits_of join.task past)) index (joins_of r past) (sound_team r past unbroken)))
  where
    at-join : (join : Option Join) → has_waited_in waits (member_of past join) ≡ by_join (λ (join : Join). nat_le waits (waits_of join.task past)) join
    at-join None = refl
    at-join (Some join) = refl

-- the size that is kept is that of the joins
pub size_is : (r n actual : ℕ) (past : List EventRecord) (region : Region) → OpenRegion r past region → region.actual ≡ Some n → team_size (joins_of r past) ≡ Some actual → n ≡ actual
size_is r n actual past region kept is size = let e : region.actual ≡ team_size (joins_of r past) = kept.actual in cc

-- so many waits are known to have begun
pub passed : (r n actual waits : ℕ) (past : List EventRecord) (region : Region) → OpenRegion r past region → region.actual ≡ Some n → team_size (joins_of r past) ≡ Some actual
    → 0 < waits → waits ≤ region.waited → true ≡ have_waited past r actual waits
passed r n actual waits past region kept is size some less =
    let e : n ≡ actual = size_is r n actual past region kept is size in
    let h : have_waited past r n region.waited ≡ true = kept.waited n is (omega arith) in
    sym (waited_less past r actual waits region.waited less (subst (λ (v : ℕ). have_waited past r v region.waited ≡ true) e h))

-- or each index tells of it
pub each_waited : (members : BTreeMap ℕ Member) (r n actual waits : ℕ) (past : List EventRecord) (region : Region) → KnownMembers members past → Unbroken past → is_open_region r past ≡ true
    → OpenRegion r past region → region.actual ≡ Some n → team_size (joins_of r past) ≡ Some actual → n < 4294967296
    → list_all (λ (index : ℕ). has_waited_in waits (get nat_cmp members (r * 4294967296 + index))) (range_with_len 0 n) ≡ have_waited past r actual waits
each_waited members r n actual waits past region known unbroken is-open kept is size fits =
    let e : n ≡ actual = size_is r n actual past region kept is size in
    subst (λ (v : ℕ). list_all (λ (index : ℕ). has_waited_in waits (get nat_cmp members (r * 4294967296 + index))) (range_with_len 0 n) ≡ have_waited past r v waits) e
    (all_same _ _ 0 n n (omega arith) (λ index below. ap (has_waited_in waits) (known r index (omega arith)) ∙ waited_at past r index waits unbroken is-open))

-- ---- the begin of an implicit task

-- a new index of the team's size is beside all
beside_all : (index actual : ℕ) (team : List Join) → SoundTeam team
    → list_all (is_beside index actual) team ≡ (fits_size (team_size team) actual && not (is_some (join_at index team)))
beside_all index actual [] sound = refl
beside_all index actual (join ∷ team) sound = by-test (join.index == index) (join.actual == actual) refl (beside_all index actual team sound.2) (same_size join.index join.actual team sound.0)
  where
    by-test : (b a : Bool) → (join.actual == actual) ≡ a → list_all (is_beside index actual) team ≡ (fits_size (team_size team) actual && not (is_some (join_at index team)))
        → ((v : ℕ) → join.actual ≡ v → fits_size (team_size team) v ≡ true)
        → ((not b && a) && list_all (is_beside index actual) team) ≡ (a && not (is_some (cond b (Some join) (join_at index team))))
    by-test true true is rest size = refl
    by-test true false is rest size = refl
    by-test false false is rest size = refl
    by-test false true is rest size = rw (rest, size actual (eqb-true join.actual actual is)) refl

-- whether a task may join an open region, by what is kept of the region and of the index
may_join_is : (join : Join) (past : List EventRecord) (region : Region) → OpenRegion join.region past region → Unbroken past
    → may_join past (Some join) ≡ ((join.task == greatest_task past + 1) && (nat_lt join.index join.actual && (fits_size region.actual join.actual && not (is_some (member_known join.region join.index past)))))
may_join_is join past region kept unbroken =
    rw (kept.is_open, kept.actual) (ap (λ (b : Bool). (join.task == greatest_task past + 1) && (nat_lt join.index join.actual && b))
    (beside_all join.index join.actual (joins_of join.region past) (sound_team join.region past unbroken)
    ∙ ap (λ (b : Bool). fits_size (team_size (joins_of join.region past)) join.actual && not b) (some_join (join_at join.index (joins_of join.region past)))))
  where
    some_join : (found : Option Join) → is_some found ≡ is_some (member_of past found)
    some_join None = refl
    some_join (Some found) = refl

-- one that is the next task, below the size, which fits
pub may_sit : (join : Join) (past : List EventRecord) (region : Region) → OpenRegion join.region past region → Unbroken past
    → (join.task == greatest_task past + 1) ≡ true → join.index < join.actual → fits_size region.actual join.actual ≡ true → not (is_some (member_known join.region join.index past)) ≡ may_join past (Some join)
may_sit join past region kept unbroken next below fits = rw (may_join_is join past region kept unbroken, next, lt-true join.index join.actual below, fits) refl
  where
    lt-true : (a b : ℕ) → a < b → nat_lt a b ≡ true
    lt-true a b less = grind (arith, nat_tests)
