-- A task passes a barrier: each of its team has begun as many waits as it has.
use Rattle.std.proofs.Common.{◌≡◌, ℕ, ◌==◌, Bool, true, false, List, ◌∷◌, Option, Some, None, refl, sym, ◌∙◌, subst}
use Rattle.std.specs.Ordering.{nat_cmp}
use Rattle.std.specs.BTreeMap.{BTreeMap, Updates, get}
use Rattle.std.proofs.lemmas.Bool.{eqb-true}
use Rattle.ompt_calls.specs.declared.event.EventRecord.{EventRecord}
use Rattle.trace_check.specs.declared.kept.Kept.{Kept}
use Rattle.trace_check.specs.declared.things.Current.{Current}
use Rattle.trace_check.specs.declared.things.Member.{Member}
use Rattle.trace_check.specs.declared.things.Region.{Region}
use Rattle.trace_check.specs.declared.things.Seat.{Seat}
use Rattle.trace_check.specs.Before.{joins, opened}
use Rattle.trace_check.specs.Checking.{IsRegion, KnownRegions, KnownThings, OpenRegion, Unbroken, member_known, passes_barrier, running}
use Rattle.trace_check.specs.Rules.{first_broken, have_waited, may_pass}
use Rattle.trace_check.proofs.Creations.{initial_unjoined}
use Rattle.trace_check.proofs.Joined.{Passes, join_in, passes_seated, running_task, seat_of}
use Rattle.trace_check.proofs.Kept12.{KeepsAll, keeps_all}
use Rattle.trace_check.proofs.RegionCalls.{PassesBarrier, passes_a_barrier}
use Rattle.trace_check.proofs.RegionParts.{beside_key, waited_still}
use Rattle.trace_check.proofs.TeamTests.{size_is}
use Rattle.trace_check.proofs.Untouched.{children_same, created_same, held_same, members_same, region_same, regions_same, task_same}

seated_later : (past : List EventRecord) (task : ℕ) (seat : Seat) → Unbroken past → seat_of (join_in task (joins past)) ≡ Some seat → (task == 1) ≡ false
seated_later past task seat unbroken is = by-test (task == 1) refl
  where
    nowhere : join_in task (joins past) ≡ None → seat_of (join_in task (joins past)) ≡ Some seat → ⊥
    nowhere none is = cc

    by-test : (b : Bool) → (task == 1) ≡ b → (task == 1) ≡ false
    by-test true same = absurd (nowhere (subst (λ (n : ℕ). join_in n (joins past) ≡ None) (sym (eqb-true task 1 same)) (initial_unjoined past unbroken)) is)
    by-test false same = same

-- the region whose waits are known
waited_region : (past : List EventRecord) (event : EventRecord) (r waits : ℕ) (region : Region) → PassesBarrier event.call → OpenRegion r past region
    → ((actual : ℕ) → region.actual ≡ Some actual → have_waited past r actual waits ≡ true)
    → IsRegion r (event ∷ past) (Some (record region { waited = waits }))
waited_region past event r waits region calls kept waited = record {
  is_open = rw (calls.begins, calls.ends) kept.is_open;
  actual = rw calls.tells.joins kept.actual;
  had = rw calls.tells.joins kept.had;
  waited = λ actual is some. waited_still past event r actual waits (waited actual is);
}

-- the regions, of which one has more waits that are known
passed_regions : (old new : BTreeMap ℕ Region) (past : List EventRecord) (event : EventRecord) (r waits : ℕ) (found : Option Region) (region : Region)
    → PassesBarrier event.call → KnownRegions old past
    → get nat_cmp old r ≡ found → found ≡ Some region
    → ((actual : ℕ) → region.actual ≡ Some actual → OpenRegion r past region → have_waited past r actual waits ≡ true)
    → Updates nat_cmp old new r (Some (record region { waited = waits })) → KnownRegions new (event ∷ past)
passed_regions old new past event r waits found region calls known there is waited updates = λ q. by-key q (r == q) refl
  where
    kept : OpenRegion r past region
    kept = subst (λ (one : Option Region). IsRegion r past one) (there ∙ is) (known r)

    by-key : (q : ℕ) (b : Bool) → (r == q) ≡ b → IsRegion q (event ∷ past) (get nat_cmp new q)
    by-key q true same =
        subst (λ (n : ℕ). IsRegion n (event ∷ past) (get nat_cmp new n)) (eqb-true r q same)
        (subst (λ (one : Option Region). IsRegion r (event ∷ past) one) (sym updates.1)
        (waited_region past event r waits region calls kept (λ actual size. waited actual size kept)))
    by-key q false other =
        subst (λ (one : Option Region). IsRegion q (event ∷ past) one) (sym (updates.2 q (beside_key r q other)))
        (regions_same old past event calls.begins calls.ends calls.tells.joins known q)

-- all that is kept of regions and tasks, where the regions are known
passed_things : (old : Kept) (regions : BTreeMap ℕ Region) (past : List EventRecord) (event : EventRecord) → PassesBarrier event.call → KnownThings old past
    → KnownRegions regions (event ∷ past)
    → KnownThings (record old { regions = regions }) (event ∷ past)
passed_things old regions past event calls known so =
    record {
      regions = so;
      members = members_same old.members past event calls.begins calls.ends calls.tells.joins calls.tells.leaves calls.tells.waits calls.tells.creates calls.tells.completes known.members;
      created = created_same old.created past event calls.tells.joins calls.tells.creates calls.tells.starts calls.tells.completes known.created;
      held = held_same old.held past event calls.tells.holds known.held;
      greatest_region = region_same old.greatest_region past event calls.makes known.greatest_region;
      greatest_task = task_same old.greatest_task past event calls.tells.makes known.greatest_task;
      children = children_same old.children past event calls.tells.creates calls.tells.completes known.children;
    }

-- where nothing is learned of a region
pub passed_still : (old : Kept) (event : EventRecord) → passes_barrier event.call ≡ true → (past : List EventRecord) → KnownThings old past
    → KnownThings old (event ∷ past)
passed_still old event passes past known =
    let calls : PassesBarrier event.call = passes_a_barrier event.call passes in
    passed_things old old.regions past event calls known (regions_same old.regions past event calls.begins calls.ends calls.tells.joins known.regions)

-- where the task that passes has a place
pub passed_seated : (old : Kept) (regions : BTreeMap ℕ Region) (event : EventRecord) (past : List EventRecord) (current : Current) (seat : Seat)
    (member : Member) (region : Region)
    → passes_barrier event.call ≡ true → running (joins past) (opened event.thread past) ≡ Some current → current.seat ≡ Some seat → KnownThings old past
    → Unbroken past → first_broken past event ≡ None
    → member_known seat.region seat.index past ≡ Some member → get nat_cmp old.regions seat.region ≡ Some region
    → Updates nat_cmp old.regions regions seat.region (Some (record region { waited = member.waits }))
    → KnownThings (record old { regions = regions }) (event ∷ past)
passed_seated old regions event past current seat member region passes run sits known unbroken keeps here there updates =
    passed_things old regions past event calls known
    (passed_regions old.regions regions past event seat.region member.waits _ region calls known.regions there refl waited updates)
  where
    calls : PassesBarrier event.call
    calls = passes_a_barrier event.call passes

    all : KeepsAll past event
    all = keeps_all past event keeps

    own : seat_of (join_in current.task (joins past)) ≡ Some seat
    own = sym (running_task (joins past) (opened event.thread past) current run).1 ∙ sits

    its : calls.task ≡ current.task
    its =
        let e : Some calls.task ≡ Some current.task = sym (calls.runs past event.thread unbroken all.brackets)
        ∙ (running_task (joins past) (opened event.thread past) current run).0 in
        cc

    of-seat : Passes past seat current.task member.waits
    of-seat = passes_seated past current.task seat member unbroken (seated_later past current.task seat unbroken own) own here

    may : may_pass past current.task ≡ true
    may = subst (λ (n : ℕ). may_pass past n ≡ true) its (calls.may past all.waits)

    waited : (actual : ℕ) → region.actual ≡ Some actual → OpenRegion seat.region past region → have_waited past seat.region actual member.waits ≡ true
    waited actual size kept =
        subst (λ (n : ℕ). have_waited past seat.region n member.waits ≡ true)
        (sym (size_is seat.region actual of-seat.actual past region kept size of-seat.size)) (of-seat.is ∙ may)
