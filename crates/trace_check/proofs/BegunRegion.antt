-- A region begins: nothing of it stands before, and it has no implicit task yet.
use Rattle.std.proofs.Common.{◌≡◌, ℕ, ◌+◌, ◌≤◌, ◌==◌, ◌||◌, Bool, true, false, cond, not, max, List, [], ◌∷◌, length, filter, Option, Some, None, refl, sym, ◌∙◌, ap, subst, arith}
use Rattle.std.specs.Ordering.{nat_cmp}
use Rattle.std.specs.BTreeMap.{BTreeMap, Updates, get}
use Rattle.std.proofs.lemmas.Bool.{eqb-true, eq-eqb}
use Rattle.ompt_calls.specs.declared.event.EventRecord.{EventRecord}
use Rattle.trace_check.specs.declared.kept.Kept.{Kept}
use Rattle.trace_check.specs.declared.things.Member.{Member}
use Rattle.trace_check.specs.declared.things.Region.{Region}
use Rattle.trace_check.specs.Before.{Join, and_more, greatest_region, has_begun_region, has_ended_region, is_just, is_open_region, join_of, joins, joins_of, region_begun, region_ended, region_made}
use Rattle.trace_check.specs.Checking.{IsRegion, KnownMembers, KnownRegions, KnownThings, OpenRegion, Unbroken, join_at, member_known, member_of, team_size}
use Rattle.trace_check.specs.Rules.{first_broken, may_join}
use Rattle.trace_check.proofs.Kept12.{KeepsAll, keeps_all}
use Rattle.trace_check.proofs.Names.{region_fresh}
use Rattle.trace_check.proofs.RegionCalls.{BeginsRegion, begins_region}
use Rattle.trace_check.proofs.RegionParts.{beside_key, member_still, region_still, team_stays}
use Rattle.trace_check.proofs.Untouched.{children_same, created_same, held_same, task_same}
use Rattle.trace_check.proofs.Tests.{apart, left, right}

neither : (a b : Bool) → (a || b) ≡ false → b ≡ false
neither true b none = absurd (cc)
neither false b none = none

-- a region that hasn't begun has no implicit task
none_joined : (r : ℕ) (past : List EventRecord) → Unbroken past → has_begun_region r past ≡ false → joins_of r past ≡ []
none_joined r [] unbroken fresh = refl
none_joined r (event ∷ past) unbroken fresh =
    let all : KeepsAll past event = keeps_all past event unbroken.0 in
    let before : has_begun_region r past ≡ false = neither (is_just r (region_begun event.call)) (has_begun_region r past) fresh in
    by-join before (join_of event.call) (right _ (may_join past (join_of event.call)) all.tasks) (none_joined r past unbroken.1 before)
  where
    by-region : (join : Join) (b : Bool) → (join.region == r) ≡ b → has_begun_region r past ≡ false → is_open_region join.region past ≡ true
        → joins_of r past ≡ []
        → cond b (join ∷ joins_of r past) (joins_of r past) ≡ []
    by-region join true same before is-open rest =
        let is : is_open_region r past ≡ true = subst (λ (n : ℕ). is_open_region n past ≡ true) (eqb-true join.region r same) is-open in
        absurd (apart (has_begun_region r past) (left (has_begun_region r past) (not (has_ended_region r past)) is) before)
    by-region join false same before is-open rest = rest

    by-join : has_begun_region r past ≡ false → (join : Option Join) → may_join past join ≡ true → joins_of r past ≡ []
        → filter (λ (join : Join). join.region == r) (and_more join (joins past)) ≡ []
    by-join before None may rest = rest
    by-join before (Some join) may rest = by-region join (join.region == r) refl before (left (is_open_region join.region past) _ may) rest

-- another region is open as before
begun_other : (r q : ℕ) (past : List EventRecord) (event : EventRecord) → region_begun event.call ≡ Some r → region_ended event.call ≡ None → (r == q) ≡ false
    → is_open_region q (event ∷ past) ≡ is_open_region q past
begun_other r q past event begins ends other = rw (begins, ends, other) refl

-- what is kept of a region that begins
abbrev fresh_one : Region
fresh_one = record { actual = None; had = 0; waited = 0 }

-- the regions, with one more
begun_regions : (old new : BTreeMap ℕ Region) (past : List EventRecord) (event : EventRecord) (r : ℕ) → Unbroken past → first_broken past event ≡ None
    → region_begun event.call ≡ Some r
    → KnownRegions old past → Updates nat_cmp old new r (Some fresh_one) → KnownRegions new (event ∷ past)
begun_regions old new past event r unbroken keeps begins known updates = λ q. by-key q (r == q) refl
  where
    calls : BeginsRegion r event.call
    calls = begins_region r event.call begins

    fresh : (has_begun_region r past ≡ false) × (has_ended_region r past ≡ false)
    fresh = region_fresh r past event unbroken (keeps_all past event keeps) begins

    team : joins_of r (event ∷ past) ≡ []
    team = team_stays r past event calls.tells.joins ∙ none_joined r past unbroken fresh.0

    opens : is_open_region r (event ∷ past) ≡ true
    opens = rw (begins, calls.ends, eq-eqb r r refl, fresh.1) refl

    none-waits : (n : ℕ) {C : Type 0} → 1 ≤ 0 → C
    none-waits n some = absurd (omega (arith, some))

    here : OpenRegion r (event ∷ past) fresh_one
    here = record {
      is_open = opens;
      actual = sym (ap (λ (joins : List Join). team_size joins) team);
      had = sym (ap (λ (joins : List Join). length joins) team);
      waited = λ actual is some. none-waits actual some;
    }

    by-key : (q : ℕ) (b : Bool) → (r == q) ≡ b → IsRegion q (event ∷ past) (get nat_cmp new q)
    by-key q true same =
        subst (λ (n : ℕ). IsRegion n (event ∷ past) (get nat_cmp new n)) (eqb-true r q same)
        (subst (λ (found : Option Region). IsRegion r (event ∷ past) found) (sym updates.1) here)
    by-key q false other =
        subst (λ (found : Option Region). IsRegion q (event ∷ past) found) (sym (updates.2 q (beside_key r q other)))
        (region_still q past event (get nat_cmp old q) (begun_other r q past event begins calls.ends other) (team_stays q past event calls.tells.joins)
        (known q))

-- the implicit tasks, with no more
begun_members : (members : BTreeMap ℕ Member) (past : List EventRecord) (event : EventRecord) (r : ℕ) → Unbroken past → first_broken past event ≡ None
    → region_begun event.call ≡ Some r
    → KnownMembers members past → KnownMembers members (event ∷ past)
begun_members members past event r unbroken keeps begins known = λ q index fits. known q index fits ∙ by-key q index (r == q) refl
  where
    calls : BeginsRegion r event.call
    calls = begins_region r event.call begins

    fresh : (has_begun_region r past ≡ false) × (has_ended_region r past ≡ false)
    fresh = region_fresh r past event unbroken (keeps_all past event keeps) begins

    team : joins_of r (event ∷ past) ≡ []
    team = team_stays r past event calls.tells.joins ∙ none_joined r past unbroken fresh.0

    shut : is_open_region r past ≡ false
    shut = rw fresh.0 refl

    nothing : (b : Bool) → cond {A = Option Member} b None None ≡ None
    nothing true = refl
    nothing false = refl

    before : (index : ℕ) → member_known r index past ≡ None
    before index = ap (λ (b : Bool). cond b (member_of past (join_at index (joins_of r past))) None) shut

    after : (index : ℕ) → member_known r index (event ∷ past) ≡ None
    after index =
        ap (λ (joins : List Join). cond (is_open_region r (event ∷ past)) (member_of (event ∷ past) (join_at index joins)) None) team ∙ nothing
        (is_open_region r (event ∷ past))

    by-key : (q index : ℕ) (b : Bool) → (r == q) ≡ b → member_known q index past ≡ member_known q index (event ∷ past)
    by-key q index true same =
        subst (λ (n : ℕ). member_known n index past ≡ member_known n index (event ∷ past)) (eqb-true r q same) (before index ∙ sym (after index))
    by-key q index false other =
        sym (member_still q index past event (begun_other r q past event begins calls.ends other) (team_stays q past event calls.tells.joins) calls.tells)

-- all that is kept of regions and tasks
pub begun_things : (old : Kept) (regions : BTreeMap ℕ Region) (r : ℕ) → Updates nat_cmp old.regions regions r (Some fresh_one)
    → (event : EventRecord) → region_begun event.call ≡ Some r → (past : List EventRecord) → KnownThings old past → Unbroken past
    → first_broken past event ≡ None
    → KnownThings (record old { regions = regions; greatest_region = r }) (event ∷ past)
begun_things old regions r updates event begins past known unbroken keeps =
    record {
      regions = begun_regions old.regions regions past event r unbroken keeps begins known.regions updates;
      members = begun_members old.members past event r unbroken keeps begins known.members;
      created = created_same old.created past event calls.tells.joins calls.tells.creates calls.tells.starts calls.tells.completes known.created;
      held = held_same old.held past event calls.tells.holds known.held;
      greatest_region = greatest (region_made event.call) (greatest_region past) calls.makes
          (calls.next past event.thread (keeps_all past event keeps).regions);
      greatest_task = task_same old.greatest_task past event calls.tells.makes known.greatest_task;
      children = children_same old.children past event calls.tells.creates calls.tells.completes known.children;
    }
  where
    calls : BeginsRegion r event.call
    calls = begins_region r event.call begins

    greatest : (made before : ℕ) → made ≡ r → r ≡ before + 1 → r ≡ max made before
    greatest made before is next = omega arith
