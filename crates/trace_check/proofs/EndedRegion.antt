-- A region ends, and its implicit tasks are taken out.
use Rattle.std.proofs.Common.{◌≡◌, ℕ, ◌+◌, ◌*◌, ◌≤◌, ◌<◌, ◌==◌, ◌&&◌, ◌⊎◌, inl, inr, Bool, true, false, cond, List, [], ◌∷◌, Option, Some, None, refl, sym, ◌∙◌, ap, subst, arith}
use Rattle.std.specs.Prelude.{nat_lt}
use Rattle.std.specs.Ordering.{nat_cmp}
use Rattle.std.specs.BTreeMap.{BTreeMap, Updates, get}
use Rattle.std.proofs.lemmas.Bool.{eqb-true, eqb-false, eq-eqb, ne_eqb}
use Rattle.std.proofs.lemmas.Bool.Decides.{nat_tests}
use Rattle.ompt_calls.specs.declared.event.EventRecord.{EventRecord}
use Rattle.trace_check.specs.declared.kept.Kept.{Kept}
use Rattle.trace_check.specs.declared.things.Member.{Member}
use Rattle.trace_check.specs.declared.things.Region.{Region}
use Rattle.trace_check.specs.Before.{Join, is_open_region, joins_of, region_begun, region_ended}
use Rattle.trace_check.specs.Checking.{IsRegion, KnownMembers, KnownRegions, KnownThings, Unbroken, join_at, member_known, member_of, team_size}
use Rattle.trace_check.proofs.RegionCalls.{EndsRegion, ends_region}
use Rattle.trace_check.proofs.RegionParts.{beside_key, member_still, region_still, team_stays}
use Rattle.trace_check.proofs.TeamEnds.{none_above}
use Rattle.trace_check.proofs.TeamTests.{sound_team}
use Rattle.trace_check.proofs.Untouched.{children_same, created_same, held_same, region_same, task_same}

-- the members with the indices below n are taken out of a region, and all others stay
pub record TakenOut (old new : BTreeMap ℕ Member) (r n : ℕ) : Type 0 where
  pub gone : (index : ℕ) → index < n → get nat_cmp new (r * 4294967296 + index) ≡ None
  pub others : (key : ℕ) → ((index : ℕ) → index < n → key ≡ r * 4294967296 + index → ⊥) → get nat_cmp new key ≡ get nat_cmp old key

pub none_taken : (members : BTreeMap ℕ Member) (r : ℕ) → TakenOut members members r 0
none_taken members r = record { gone = λ index below. absurd (omega (arith, below)); others = λ key apart. refl }

pub one_taken : (old between new : BTreeMap ℕ Member) (r n key : ℕ) → TakenOut old between r n → key ≡ r * 4294967296 + n
    → Updates nat_cmp between new key None → TakenOut old new r (n + 1)
one_taken old between new r n key taken is updates = record {
  gone = λ index below. by-index index below (index == n) refl;
  others = λ other apart. updates.2 other (beside_key key other (beside other apart)) ∙ taken.others other (λ index below. apart index (omega (arith, below)));
}
  where
    beside : (other : ℕ) → ((index : ℕ) → index < n + 1 → other ≡ r * 4294967296 + index → ⊥) → (key == other) ≡ false
    beside other apart = ne_eqb key other (λ same. apart n (omega arith) (sym same ∙ is))

    by-index : (index : ℕ) → index < n + 1 → (b : Bool) → (index == n) ≡ b → get nat_cmp new (r * 4294967296 + index) ≡ None
    by-index index below true same =
        subst (λ (k : ℕ). get nat_cmp new k ≡ None) (is ∙ ap (λ (i : ℕ). r * 4294967296 + i) (sym (eqb-true index n same))) updates.1
    by-index index below false other =
        let apart : index ≡ n → ⊥ = eqb-false index n other in
        let less : index < n = smaller below apart in
        let other_place : (key == r * 4294967296 + index) ≡ false = ne_eqb key (r * 4294967296 + index) (λ same. apart (equal (sym is ∙ same))) in
        updates.2 (r * 4294967296 + index) (beside_key key (r * 4294967296 + index) other_place) ∙ taken.gone index less
      where
        smaller : index < n + 1 → (index ≡ n → ⊥) → index < n
        smaller below apart = grind arith

        equal : r * 4294967296 + n ≡ r * 4294967296 + index → index ≡ n
        equal same = omega (arith, same)

-- another region is open as before, and this one isn't open
ended_other : (r q : ℕ) (past : List EventRecord) (event : EventRecord) → region_begun event.call ≡ None → region_ended event.call ≡ Some r → (r == q) ≡ false
    → is_open_region q (event ∷ past) ≡ is_open_region q past
ended_other r q past event begins ends other = rw (begins, ends, other) refl

ended_shut : (r : ℕ) (past : List EventRecord) (event : EventRecord) → region_ended event.call ≡ Some r → is_open_region r (event ∷ past) ≡ false
ended_shut r past event ends = rw (ends, eq-eqb r r refl) (nothing _)
  where
    nothing : (b : Bool) → (b && false) ≡ false
    nothing true = refl
    nothing false = refl

-- the regions, with one less
ended_regions : (old new : BTreeMap ℕ Region) (past : List EventRecord) (event : EventRecord) (r : ℕ) → region_ended event.call ≡ Some r
    → KnownRegions old past → Updates nat_cmp old new r None → KnownRegions new (event ∷ past)
ended_regions old new past event r ends known updates = λ q. by-key q (r == q) refl
  where
    calls : EndsRegion r event.call
    calls = ends_region r event.call ends

    by-key : (q : ℕ) (b : Bool) → (r == q) ≡ b → IsRegion q (event ∷ past) (get nat_cmp new q)
    by-key q true same =
        subst (λ (n : ℕ). IsRegion n (event ∷ past) (get nat_cmp new n)) (eqb-true r q same)
        (subst (λ (found : Option Region). IsRegion r (event ∷ past) found) (sym updates.1) (ended_shut r past event ends))
    by-key q false other =
        subst (λ (found : Option Region). IsRegion q (event ∷ past) found) (sym (updates.2 q (beside_key r q other)))
        (region_still q past event (get nat_cmp old q) (ended_other r q past event calls.begins ends other) (team_stays q past event calls.tells.joins)
        (known q))

-- so many indices have an implicit task, at most
abbrev HasBelow : ℕ → ℕ → List EventRecord → Type 0
HasBelow r n past = (index : ℕ) → n ≤ index → member_known r index past ≡ None

nothing : (b : Bool) → cond {A = Option Member} b None None ≡ None
nothing true = refl
nothing false = refl

-- in a team of this size
pub team_below : (r n : ℕ) (past : List EventRecord) (found : Option Region) (region : Region) → Unbroken past → IsRegion r past found → found ≡ Some region
    → region.actual ≡ Some n → HasBelow r n past
team_below r n past None region unbroken known is size = absurd (cc)
team_below r n past (Some other) region unbroken known is size = λ index above.
    let e : other ≡ region = cc in
    let sized : team_size (joins_of r past) ≡ Some n = sym known.actual ∙ (ap (λ (o : Region). o.actual) e ∙ size) in
    let none : join_at index (joins_of r past) ≡ None = none_above n index (joins_of r past) (sound_team r past unbroken) sized above in
    ap (λ (join : Option Join). cond (is_open_region r past) (member_of past join) None) none ∙ nothing (is_open_region r past)

-- where none has joined
pub team_none : (r : ℕ) (past : List EventRecord) (found : Option Region) (region : Region) → IsRegion r past found → found ≡ Some region
    → region.actual ≡ None → HasBelow r 0 past
team_none r past None region known is none = absurd (cc)
team_none r past (Some other) region known is none = λ index above.
    let e : other ≡ region = cc in
    let empty : team_size (joins_of r past) ≡ None = sym known.actual ∙ (ap (λ (o : Region). o.actual) e ∙ none) in
    ap (λ (join : Option Join). cond (is_open_region r past) (member_of past join) None) (no_join index (joins_of r past) empty)
    ∙ nothing (is_open_region r past)
  where
    no_join : (index : ℕ) (team : List Join) → team_size team ≡ None → join_at index team ≡ None
    no_join index [] empty = refl
    no_join index (join ∷ team) empty = absurd (cc)

-- and where the region isn't open
pub team_gone : (r : ℕ) (past : List EventRecord) (found : Option Region) → IsRegion r past found → found ≡ None → HasBelow r 0 past
team_gone r past None known is = λ index above. ap (λ (b : Bool). cond b (member_of past (join_at index (joins_of r past))) None) known
team_gone r past (Some other) known is = absurd (cc)

-- the implicit tasks, without those of the region
ended_members : (old new : BTreeMap ℕ Member) (past : List EventRecord) (event : EventRecord) (r n : ℕ) → n ≤ 4294967296 → region_ended event.call ≡ Some r
    → HasBelow r n past → TakenOut old new r n → KnownMembers old past → KnownMembers new (event ∷ past)
ended_members old new past event r n fits ends below taken known = λ q index within. by-key q index within (r == q) refl
  where
    calls : EndsRegion r event.call
    calls = ends_region r event.call ends

    after : (index : ℕ) → member_known r index (event ∷ past) ≡ None
    after index = ap (λ (b : Bool). cond b (member_of (event ∷ past) (join_at index (joins_of r (event ∷ past)))) None) (ended_shut r past event ends)

    less_or_more : (a b : ℕ) → (a < b) ⊎ (b ≤ a)
    less_or_more a b = by-test (nat_lt a b) refl
      where
        under : nat_lt a b ≡ true → a < b
        under is = grind (arith, nat_tests)

        over : nat_lt a b ≡ false → b ≤ a
        over is = grind (arith, nat_tests)

        by-test : (c : Bool) → nat_lt a b ≡ c → (a < b) ⊎ (b ≤ a)
        by-test true is = inl (under is)
        by-test false is = inr (over is)

    by-index : (index : ℕ) → index < 4294967296 → (index < n) ⊎ (n ≤ index) → get nat_cmp new (r * 4294967296 + index) ≡ None
    by-index index within (inl less) = taken.gone index less
    by-index index within (inr more) =
        taken.others (r * 4294967296 + index) (λ other less same. differs other less more same) ∙ (known r index within ∙ below index more)
      where
        differs : (other : ℕ) → other < n → n ≤ index → r * 4294967296 + index ≡ r * 4294967296 + other → ⊥
        differs other less more same = omega arith

    other_key : (q index other : ℕ) → (r == q) ≡ false → index < 4294967296 → other < 4294967296 → q * 4294967296 + index ≡ r * 4294967296 + other → ⊥
    other_key q index other apart within less same = let e : r ≡ q → ⊥ = eqb-false r q apart in grind arith

    by-key : (q index : ℕ) → index < 4294967296 → (b : Bool) → (r == q) ≡ b → get nat_cmp new (q * 4294967296 + index) ≡ member_known q index (event ∷ past)
    by-key q index within true same =
        subst (λ (m : ℕ). get nat_cmp new (m * 4294967296 + index) ≡ member_known m index (event ∷ past)) (eqb-true r q same)
        (by-index index within (less_or_more index n) ∙ sym (after index))
    by-key q index within false other =
        taken.others (q * 4294967296 + index) (λ place less same. other_key q index place other within (trans place less) same)
        ∙ (known q index within
        ∙ sym (member_still q index past event (ended_other r q past event calls.begins ends other) (team_stays q past event calls.tells.joins) calls.tells))
      where
        trans : (place : ℕ) → place < n → place < 4294967296
        trans place less = omega arith

-- all that is kept of regions and tasks
pub ended_things : (old : Kept) (regions : BTreeMap ℕ Region) (members : BTreeMap ℕ Member) (r n : ℕ) → n ≤ 4294967296
    → Updates nat_cmp old.regions regions r None → TakenOut old.members members r n
    → (event : EventRecord) → region_ended event.call ≡ Some r → (past : List EventRecord) → KnownThings old past → HasBelow r n past
    → KnownThings (record old { regions = regions; members = members }) (event ∷ past)
ended_things old regions members r n fits updates taken event ends past known below =
    record {
      regions = ended_regions old.regions regions past event r ends known.regions updates;
      members = ended_members old.members members past event r n fits ends below taken known.members;
      created = created_same old.created past event calls.tells.joins calls.tells.creates calls.tells.starts calls.tells.completes known.created;
      held = held_same old.held past event calls.tells.holds known.held;
      greatest_region = region_same old.greatest_region past event calls.makes known.greatest_region;
      greatest_task = task_same old.greatest_task past event calls.tells.makes known.greatest_task;
      children = children_same old.children past event calls.tells.creates calls.tells.completes known.children;
    }
  where
    calls : EndsRegion r event.call
    calls = ends_region r event.call ends
