-- The joins of a region are its members, and its end is told when all have left (rules 5 and 7).
use Rattle.std.proofs.Common.{ℕ, ◌≡◌, ◌<◌, ◌≤◌, ◌==◌, ◌&&◌, not, true, false, List, [], ◌∷◌, length, slice_index_or, refl, sym, ap, ◌∙◌, subst, arith}
use Rattle.std.specs.List.{list_all}
use Rattle.std.proofs.lemmas.Bool.{and_from, eq-eqb, lt-ltb, ne_eqb}
use Rattle.std.proofs.lemmas.List.Sums.{list_all-from_AllPass}
use Rattle.ompt_calls.specs.declared.event.EventRecord.{EventRecord}
use Rattle.c_model.specs.declared.point.SyncStage.TheVariants as stage
use Rattle.omp_model.specs.declared.event.Event.{Event}
use Rattle.omp_model.specs.declared.event.Event.TheVariants.{Dispatch, MemberBegin, ParallelEnd, Sync}
use Rattle.omp_model.specs.declared.event.Share.TheVariants.{Chunk, Section}
use Rattle.omp_model.specs.Calls.{call_of}
use Rattle.omp_model.specs.Gates.{all_left}
use Rattle.omp_model.specs.Members.{member_index}
use Rattle.omp_model.specs.State.{Run, World, first, first_world, region_at}
use Rattle.nested_runs.proofs.Recorded.{Inside, inside, recorded}
use Rattle.nested_runs.proofs.Readings.{joined_by}
use Rattle.nested_runs.proofs.Knows.{ComesBack, Goes, IsWholeRun, Knows, Stays}
use Rattle.trace_check.specs.Rules.{keeps_teams, may_join}
use Rattle.trace_check.specs.Before.{Join, has_left, join_of, joins_of}
use Rattle.nested_runs.proofs.Known.{HasGone, IsJoin, TellsMembers, task_of_member}
use Rattle.nested_runs.proofs.BackMembers.{back-members, first-members, stay-members}
use Rattle.nested_runs.proofs.CallReadings.{join-is}
use Rattle.nested_runs.proofs.ListCounts.{count-first}
use Rattle.nested_runs.proofs.GoMembers.{begun-go, carries-go, ended-go, region-go, regions-grow, unjoined-go}
use Rattle.nested_runs.proofs.GoPlaces.{leaving-go, room-go, seated-go}
use Rattle.nested_runs.proofs.MemberJoins.{left-each, open-told, size-fits}
use Rattle.nested_runs.proofs.RegionHeads.{new-member}

-- at the start
pub members-first : (run : Run) → IsWholeRun run → TellsMembers (first_world run) (inside (first run)) []
members-first run whole = first-members run whole

-- after what is no event
pub members-stays : (run : Run) (W after : World) (I J : Inside) (past : List EventRecord) → Stays run W after I J past → TellsMembers after J past
members-stays run W after I J past stays = stay-members run W after I J past stays

-- after the Go of an event
pub members-go : (run : Run) (W after : World) (I J : Inside) (past : List EventRecord) (t position : ℕ) (e : Event) → Goes run W after I J past t e →
    TellsMembers after J (recorded position t after e ∷ past)
members-go run W after I J past t position e goes =
    record {
      begun = begun-go run W after I J past t position e goes;
      ended = ended-go run W after I J past t position e goes;
      region = region-go run W after I J past t position e goes;
      unjoined =
          λ r past-end. unjoined-go run W after I J past t position e goes r (omega (arith, past-end, goes.touches.world.regions, regions-grow e (length W.regions)));
      seated = seated-go run W after I J past t position e goes;
      room = room-go run W after I J past t position e goes;
      leaving = leaving-go run W after I J past t position e goes;
    }

-- after its Back
pub members-back : (run : Run) (W after : World) (I J : Inside) (past : List EventRecord) (t : ℕ) (e : Event) → ComesBack run W after I J past t e →
    TellsMembers after J past
members-back run W after I J past t e back = back-members run W after I J past t e back

-- ---- rule 5, of members

-- another join of the region is that of another index, and of a team of the same size
other-join : (W : World) (r i size : ℕ) (other : Join) → task_of_member W r i ≡ 0 → (region_at W r).head.size ≡ size → IsJoin W r other →
    (not (other.index == i) && (other.actual == size)) ≡ true
other-join W r i size other none same is =
    and_from _ _
    (ap not (ne_eqb other.index i (λ at. omega (arith, is.some, sym is.task ∙ (ap (task_of_member W r) at ∙ none)))))
    (eq-eqb _ _ (is.actual ∙ same))

module _ (run : Run) (W after : World) (I J : Inside) (past : List EventRecord) (t : ℕ) where
  joins : (e : Event) → Goes run W after I J past t e → may_join past (joined_by after t e) ≡ true
  joins (MemberBegin r k) goes =
      let new = new-member run W after I J past t (MemberBegin r k) goes r (member_index W t r) (refl, refl) in
      let carries = carries-go run W after I J past t (MemberBegin r k) goes in
      let place : member_index after t r ≡ member_index W t r = carries.index t r new.some new.made in
      let size : (region_at after r).head.size ≡ (region_at W r).head.size = carries.size r new.made in
      let still : (region_at W r).head.ended ≡ false =
      subst (λ q. (region_at W q).head.ended ≡ false) goes.comes.region
      (goes.knows.seats.invited t (omega (arith, goes.comes.region, goes.comes.some))).region.open_still in
      and_from _ _ (open-told run W I past goes.knows r new.forked new.made still)
      (and_from _ _ (eq-eqb _ _ (goes.comes.task ∙ sym goes.knows.numbers.tasks))
      (and_from _ _ (lt-ltb _ _ (omega (arith, place, size, new.few)))
      (list_all-from_AllPass
      (λ (other : Join). not (other.index == member_index after t r) && (other.actual == (region_at after r).head.size)) (joins_of r past)
      (λ n d within.
      other-join W r (member_index after t r) (region_at after r).head.size (slice_index_or (joins_of r past) n d)
      (ap (task_of_member W r) place ∙ new.none) (sym size)
      ((goes.knows.members.region r new.forked new.made).joined n d within)))))
  joins e goes = refl

pub keeps-joins : (run : Run) (W after : World) (I J : Inside) (past : List EventRecord) (t position : ℕ) (e : Event) → Goes run W after I J past t e →
    may_join past (join_of (recorded position t after e).call) ≡ true
keeps-joins run W after I J past t position e goes = ap (may_join past) (join-is after t e) ∙ joins run W after I J past t e goes

-- ---- rule 7

module _ (run : Run) (W : World) (I : Inside) (past : List EventRecord) (knows : Knows run W I past) (r : ℕ) (forked : 2 ≤ r) (made : r < length W.regions)
    (all : all_left W r ≡ true) where
  -- each member has begun and has gone
  each-gone : (i : ℕ) → i < (region_at W r).head.size → HasGone W past (task_of_member W r i)
  each-gone i below = (knows.members.region r forked made).gone i (left-each run W I past knows r forked made all i below)

  -- so there are as many joins as members
  joins-size : length (joins_of r past) ≡ (region_at W r).head.size
  joins-size =
      let told = knows.members.region r forked made in
      told.count
      ∙ count-first (region_at W r).head.members (region_at W r).head.size (omega (arith, told.members, size-fits run W I past knows r forked made))
      (λ i below. (each-gone i below).some) told.beyond

  closed-join : (join : Join) → IsJoin W r join → ((join.actual == length (joins_of r past)) && has_left join.task past) ≡ true
  closed-join join is =
      and_from _ _ (eq-eqb _ _ (is.actual ∙ sym joins-size))
      (subst (λ k. has_left k past ≡ true) is.task (each-gone join.index is.index).left)

  ends-whole : (not (length (joins_of r past) == 0)
      && list_all (λ (join : Join). (join.actual == length (joins_of r past)) && has_left join.task past) (joins_of r past)) ≡ true
  ends-whole =
      let some = (knows.sound.made.regions r (record { some = omega (arith, forked); below = made })).some in
      and_from _ _ (ap not (ne_eqb _ _ (λ is. omega (arith, is, joins-size, some))))
      (list_all-from_AllPass (λ (join : Join). (join.actual == length (joins_of r past)) && has_left join.task past) (joins_of r past)
      (λ n d within. closed-join (slice_index_or (joins_of r past) n d) ((knows.members.region r forked made).joined n d within)))

pub keeps-teams : (run : Run) (W after : World) (I J : Inside) (past : List EventRecord) (t position : ℕ) (e : Event) → Goes run W after I J past t e →
    keeps_teams past (recorded position t after e).call ≡ true
unfolding call_of
keeps-teams run W after I J past t position (ParallelEnd r codeptr) goes =
    let region = (goes.knows.seats.forks _ goes.comes.0.stand).region in
    let is = goes.comes.1.region in
    ends-whole run W I past goes.knows r (subst (λ q. 2 ≤ q) (sym is) region.forked) (subst (λ q. q < length W.regions) (sym is) region.made) goes.comes.1.left
keeps-teams run W after I J past t position (Sync which stage.RegionBegin codeptr) goes = refl
keeps-teams run W after I J past t position (Sync which stage.WaitBegin codeptr) goes = refl
keeps-teams run W after I J past t position (Sync which stage.WaitEnd codeptr) goes = refl
keeps-teams run W after I J past t position (Sync which stage.RegionEnd codeptr) goes = refl
keeps-teams run W after I J past t position (Dispatch (Chunk start count)) goes = refl
keeps-teams run W after I J past t position (Dispatch (Section codeptr)) goes = refl
keeps-teams run W after I J past t position e goes = refl
