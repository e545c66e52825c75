-- An event that speaks of one implicit task alone: a wait that it begins, or its end.
use Rattle.std.proofs.Common.{◌≡◌, ℕ, ◌+◌, ◌*◌, ◌<◌, Option, Some, None, ◌∷◌, List, ◌∙◌, ap}
use Rattle.std.specs.Ordering.{nat_cmp}
use Rattle.std.specs.BTreeMap.{BTreeMap, Updates, get}
use Rattle.ompt_calls.specs.declared.call.Call.{Call}
use Rattle.ompt_calls.specs.declared.event.EventRecord.{EventRecord}
use Rattle.trace_check.specs.declared.kept.Kept.{Kept}
use Rattle.trace_check.specs.declared.things.Current.{Current}
use Rattle.trace_check.specs.declared.things.Member.{Member}
use Rattle.trace_check.specs.declared.things.Seat.{Seat}
use Rattle.trace_check.specs.Before.{creation_of, current, held_after, join_of, joins, opened, region_begun, region_ended, region_made, task_completed, task_made, task_started}
use Rattle.trace_check.specs.Checking.{KnownMembers, KnownThings, Unbroken, current_with, running, seat_in}
use Rattle.trace_check.proofs.MemberParts.{Touches, members_gone, members_put, members_unseated}
use Rattle.trace_check.proofs.Untouched.{children_same, created_same, held_same, region_same, regions_same, task_same}

-- it begins and ends no region, and makes, starts and completes no task
pub record NoRegion (call : Call) : Type 0 where
  pub begins : region_begun call ≡ None
  pub ends : region_ended call ≡ None
  pub joins : join_of call ≡ None
  pub creates : creation_of call ≡ None
  pub starts : task_started call ≡ None
  pub completes : task_completed call ≡ None
  pub region : region_made call ≡ 0
  pub task : task_made call ≡ 0
  pub held : (id t : ℕ) (before : Option ℕ) → held_after id t call before ≡ before

-- what is known beside the implicit tasks stays known
known_beside : (kept : Kept) (members : BTreeMap ℕ Member) (past : List EventRecord) (event : EventRecord) → NoRegion event.call
    → KnownMembers members (event ∷ past) → KnownThings kept past
    → KnownThings (record kept { members = members }) (event ∷ past)
known_beside kept members past event none of-members known = record {
  regions = regions_same kept.regions past event none.begins none.ends none.joins known.regions;
  members = of-members;
  created = created_same kept.created past event none.joins none.creates none.starts none.completes known.created;
  held = held_same kept.held past event none.held known.held;
  greatest_region = region_same kept.greatest_region past event none.region known.greatest_region;
  greatest_task = task_same kept.greatest_task past event none.task known.greatest_task;
  children = children_same kept.children past event none.creates none.completes known.children;
}

-- the task that a thread runs, with its place
pub runs_with : (past : List EventRecord) (t k : ℕ) (found : Option Current) → found ≡ running (joins past) (opened t past) → current t past ≡ Some k
    → found ≡ Some (record { task = k; seat = seat_in k (joins past) })
runs_with past t k found is runs = is ∙ ap (current_with (joins past)) runs

-- where it has no place, where nothing is kept of its place, and where its new value stands there
pub one_unseated : (kept : Kept) (task : ℕ) (next : Member → Member) (past : List EventRecord) (event : EventRecord) → NoRegion event.call → Unbroken past
    → Touches task next past event
    → seat_in task (joins past) ≡ None → KnownThings kept past → KnownThings kept (event ∷ past)
one_unseated kept task next past event none unbroken touches is known =
    known_beside kept kept.members past event none (members_unseated kept.members task next past event unbroken touches is known.members) known

pub one_gone : (kept : Kept) (task : ℕ) (next : Member → Member) (past : List EventRecord) (event : EventRecord) (seat : Seat) → NoRegion event.call
    → Unbroken past → Touches task next past event
    → seat_in task (joins past) ≡ Some seat → seat.index < 4294967296 → get nat_cmp kept.members (seat.region * 4294967296 + seat.index) ≡ None
    → KnownThings kept past → KnownThings kept (event ∷ past)
one_gone kept task next past event seat none unbroken touches is below gone known =
    known_beside kept kept.members past event none (members_gone kept.members task next past event seat unbroken touches is below gone known.members) known

pub one_put : (kept : Kept) (members : BTreeMap ℕ Member) (task : ℕ) (next : Member → Member) (past : List EventRecord) (event : EventRecord)
    (seat : Seat) (member : Member) → NoRegion event.call
    → Unbroken past → Touches task next past event → seat_in task (joins past) ≡ Some seat → seat.index < 4294967296
    → get nat_cmp kept.members (seat.region * 4294967296 + seat.index) ≡ Some member
    → Updates nat_cmp kept.members members (seat.region * 4294967296 + seat.index) (Some (next member))
    → KnownThings kept past → KnownThings (record kept { members = members }) (event ∷ past)
one_put kept members task next past event seat member none unbroken touches is below there updates known =
    known_beside kept members past event none
    (members_put kept.members members task next past event seat member unbroken touches is below there updates known.members) known
