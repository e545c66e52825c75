-- What the Back of an event, and what is no event, leave of what is told of a region's last barrier: all of it.
use Rattle.std.proofs.Common.{ℕ, ◌≡◌, ◌<◌, ◌≤◌, ◌==◌, ◌&&◌, ◌⊎◌, Bool, true, false, if◌then◌else◌, List, [], ◌∷◌, length, slice_index_or, slice_set, refl, sym, ap, ◌∙◌, subst, inl, inr, arith}
use Rattle.std.specs.Prelude.{Some}
use Rattle.std.specs.List.{list_any}
use Rattle.std.proofs.lemmas.Bool.{and_parts, cases_eq, eqb-true}
use Rattle.std.proofs.lemmas.List.{get_or-set_other}
use Rattle.c_model.specs.declared.point.SyncKind.{SyncKind}
use Rattle.c_model.specs.declared.point.SyncKind.TheVariants as sync
use Rattle.c_model.specs.declared.point.SyncStage.{SyncStage}
use Rattle.c_model.specs.declared.point.SyncStage.TheVariants as stage
use Rattle.c_model.specs.Task.{Item, Task as Code}
use Rattle.c_model.specs.Task.Item.{Sync as SyncItem}
use Rattle.ompt_calls.specs.declared.event.EventRecord.{EventRecord}
use Rattle.task_pool.specs.declared.task.Task.{Task as PoolTask}
use Rattle.task_pool.specs.Tasks.{is_open, task_at as pool_task_at}
use Rattle.task_pool.specs.View.{PoolView}
use Rattle.team_parts.specs.declared.meeting.Meeting.{Meeting}
use Rattle.team_parts.specs.declared.member.Member.{Member}
use Rattle.team_parts.specs.Team.{TeamView, member_at, new_member, with_begun}
use Rattle.omp_model.specs.declared.parts.RegionHead.{RegionHead}
use Rattle.omp_model.specs.declared.event.Event.{Event}
use Rattle.omp_model.specs.declared.event.Event.TheVariants.{MemberEnd, Sync}
use Rattle.omp_model.specs.State.{Run, World, pooled_at, region_at, task_at}
use Rattle.omp_model.specs.Members.{current_index, current_region, member_index}
use Rattle.omp_model.specs.Gates.{is_barrier}
use Rattle.omp_model.proofs.Touching.{head_back}
use Rattle.omp_model.proofs.Alike.{what_met}
use Rattle.nested_runs.proofs.Recorded.{Inside}
use Rattle.nested_runs.proofs.Standing.{Stand, ends_behind, is_behind, stand_among, stand_at, stand_within}
use Rattle.nested_runs.proofs.Standing.Stand.{Free, AtSync}
use Rattle.nested_runs.proofs.Touching.{ComesFree}
use Rattle.nested_runs.proofs.Known.{HasNoTasks, HasPassed, IsGoing, IsWaiting, TellsLast, has_left_region, has_met_last, is_last, is_past_wait, task_of_member}
use Rattle.nested_runs.proofs.Knows.{ComesBack, Stays}
use Rattle.nested_runs.proofs.LastSteps.{KeepsMembers, KeepsTeam, counted-of, has-passed, kept-last, passed-in}
use Rattle.nested_runs.proofs.OpenTasks.{no-tasks-back}
use Rattle.nested_runs.proofs.SeatedMembers.{current-of}
use Rattle.nested_runs.proofs.TeamsMet.{MetAlike, begun-alike, begun-passed, counted-alike, met-alike, passed-moved}

-- a team in which the members have met and passed the same
pub record PassedAlike (team after : TeamView) : Type 0 where
  pub met : MetAlike team after
  pub passed : (j : ℕ) → (member_at after j).passed ≡ (member_at team j).passed

-- .. so is the same team, and one with the same members
pub alike-same-team : (team after : TeamView) → after ≡ team → PassedAlike team after
alike-same-team team after same =
    record {
      met = record {
        met = λ j. ap (λ (x : TeamView). (member_at x j).met) same;
        barriers = λ j. ap (λ (x : TeamView). (member_at x j).barriers) same;
        what = ap what_met same;
      };
      passed = λ j. ap (λ (x : TeamView). (member_at x j).passed) same;
    }

pub alike-members : (team after : TeamView) → after.members ≡ team.members → what_met after ≡ what_met team → PassedAlike team after
alike-members team after members what =
    record {
      met = record {
        met = λ j. ap (λ (xs : List Member). (slice_index_or xs j new_member).met) members;
        barriers = λ j. ap (λ (xs : List Member). (slice_index_or xs j new_member).barriers) members;
        what = what;
      };
      passed = λ j. ap (λ (xs : List Member). (slice_index_or xs j new_member).passed) members;
    }

-- in such a team as many have met and passed the last barrier
module _ (W after : World) (q : ℕ) (alike : PassedAlike (region_at W q).team (region_at after q).team) where
  abbrev team : TeamView
  team = (region_at W q).team

  abbrev now : TeamView
  now = (region_at after q).team

  pub has-same : (i : ℕ) → has_met_last after q i ≡ has_met_last W q i
  has-same i = ap (λ (xs : List Meeting). list_any is_last xs) (met-alike team now alike.met i)

  passed-after : (i : ℕ) → HasPassed W q i → HasPassed after q i
  passed-after i passed =
      has-passed after q i (passed-moved team now i (alike.passed i) (alike.met.barriers i) (met-alike team now alike.met i) (passed-in W q i passed))

  passed-before : (i : ℕ) → HasPassed after q i → HasPassed W q i
  passed-before i passed =
      has-passed W q i (passed-moved now team i (sym (alike.passed i)) (sym (alike.met.barriers i)) (sym (met-alike team now alike.met i))
      (passed-in after q i passed))

  pub keeps-alike : TellsLast W q → KeepsTeam W after q
  keeps-alike last =
      record {
        counted = counted-alike team now alike.met (λ j. omega (arith, alike.passed j, last.passed j)) (counted-of W q last);
        kept = passed-after;
        fresh = λ i passed. inl (i, passed-before i passed);
        met = λ i has. has-same i ∙ has;
      }

-- ---- a Back

-- the head of a region is as it was, but for who has left
pub record BackHead (W after : World) (t : ℕ) (e : Event) (q : ℕ) : Type 0 where
  pub task : (region_at after q).head.task ≡ (region_at W q).head.task
  pub size : (region_at after q).head.size ≡ (region_at W q).head.size
  pub members : (region_at after q).head.members ≡ (region_at W q).head.members
  pub left : (i : ℕ) → has_left_region after q i ≡ true → (has_left_region W q i ≡ true) ⊎ ((k : ℕ) × (e ≡ MemberEnd q k) × (i ≡ member_index W t q))

-- .. by the event
module _ (W after : World) (t q : ℕ) where
  back-same : (e : Event) → (region_at after q).head ≡ (region_at W q).head → BackHead W after t e q
  back-same e is =
      record {
        task = ap (λ (head : RegionHead). head.task) is;
        size = ap (λ (head : RegionHead). head.size) is;
        members = ap (λ (head : RegionHead). head.members) is;
        left = λ i left. inl (ap (λ (head : RegionHead). slice_index_or head.left i false) (sym is) ∙ left);
      }

  back-left : (r k : ℕ) (own : Bool) → (q == r) ≡ own →
      (region_at after q).head ≡ (if own then record (region_at W q).head { left = slice_set (region_at W q).head.left (member_index W t r) true } else
      (region_at W q).head) →
      BackHead W after t (MemberEnd r k) q
  back-left r k true same is =
      let own : q ≡ r = eqb-true q r same in
      record {
        task = ap (λ (head : RegionHead). head.task) is;
        size = ap (λ (head : RegionHead). head.size) is;
        members = ap (λ (head : RegionHead). head.members) is;
        left = λ i left. elim (cases_eq i (member_index W t r)) [
          | inl here ↦ inr (k, ap (λ (p : ℕ). MemberEnd p k) (sym own), here ∙ ap (member_index W t) (sym own))
          | inr other ↦ inl (sym (ap (λ (head : RegionHead). slice_index_or head.left i false) is
              ∙ get_or-set_other (region_at W q).head.left (member_index W t r) i true false other) ∙ left)
        ];
      }
  back-left r k false same is = back-same (MemberEnd r k) is

  pub back-head : (e : Event) → (region_at after q).head ≡ head_back W t e q → BackHead W after t e q
  back-head (MemberEnd r k) is = back-left r k (q == r) refl is
  back-head other is = back-same other is

-- its team too, but for a wait that a member has begun
module _ (run : Run) (W after : World) (I J : Inside) (past : List EventRecord) (t : ℕ) where
  back-begun : (which : SyncKind) (codeptr q : ℕ) (own : Bool) → (is_barrier which && q == current_region W t) ≡ own
      → ComesBack run W after I J past t (Sync which stage.WaitBegin codeptr) →
      (region_at after q).team ≡ (if own then with_begun (region_at W q).team (current_index W t) else (region_at W q).team) →
      PassedAlike (region_at W q).team (region_at after q).team
  back-begun which codeptr q true same back is =
      let here : q ≡ current_region W t = eqb-true q (current_region W t) (and_parts (is_barrier which) (q == current_region W t) same).1 in
      let waits = subst (IsWaiting W t) back.within (back.knows.barriers.waiting t) in
      let within = subst (λ r. current_index W t < length (region_at W r).team.members) (sym here)
      (current-of run W I past back.knows t waits.0).within.member in
      let team : TeamView = (region_at W q).team in
      subst (PassedAlike team) (sym is) (record { met = begun-alike team (current_index W t) within; passed = begun-passed team (current_index W t) within })
  back-begun which codeptr q false same back is = alike-same-team (region_at W q).team (region_at after q).team is

  pub back-team : (e : Event) (q : ℕ) → ComesBack run W after I J past t e → PassedAlike (region_at W q).team (region_at after q).team
  back-team (Sync which stage.WaitBegin codeptr) q back =
      back-begun which codeptr q (is_barrier which && q == current_region W t) refl back (back.returns.team q)
  back-team other q back = alike-same-team (region_at W q).team (region_at after q).team (back.returns.team q)

-- the Back of an event
module _ (run : Run) (W after : World) (I J : Inside) (past : List EventRecord) (t : ℕ) (e : Event) (back : ComesBack run W after I J past t e) where
  pub going-own : IsGoing W t (Some e)
  going-own = subst (IsGoing W t) back.within (back.knows.lasts.going t)

  pub last-back : (q : ℕ) → 2 ≤ q → q < length W.regions → TellsLast after q
  last-back q forked below = kept-last W after q last team members
    where
      last : TellsLast W q
      last = back.knows.lasts.region q forked below

      alike : PassedAlike (region_at W q).team (region_at after q).team
      alike = back-team run W after I J past t e q back

      team : KeepsTeam W after q
      team = keeps-alike W after q alike last

      head : BackHead W after t e q
      head = back-head W after t q e (back.returns.head q)

      task : (i : ℕ) → task_of_member after q i ≡ task_of_member W q i
      task i = ap (λ (xs : List ℕ). slice_index_or xs i 0) head.members

      behind : (i : ℕ) → is_behind (task_at after (task_of_member after q i)).code ≡ is_behind (task_at W (task_of_member W q i)).code
      behind i = ap (λ k. is_behind (task_at after k).code) (task i) ∙ ap is_behind (back.returns.code (task_of_member W q i))

      stand : (i : ℕ) → stand_at after (task_of_member after q i) ≡ stand_at W (task_of_member W q i)
      stand i = ap (stand_at after) (task i) ∙ ap (λ (code : Code). stand_among code.todo) (back.returns.code (task_of_member W q i))

      gone : (i : ℕ) → has_left_region after q i ≡ true → HasPassed W q i
      gone i left =
          elim (head.left i left) [
            | inl was ↦ last.gone i was
            | inr now ↦ let going = subst (λ (x : Event). IsGoing W t (Some x)) now.1 going-own in subst (HasPassed W q) (sym now.2) going
          ]

      members : KeepsMembers W after q
      members =
          record {
            size = head.size;
            tasks = λ through. no-tasks-back W t q back.knows.sound.orderly through.tasks after e
                (back.knows.sound.events t e back.within).orderly back.returns;
            behind = λ i some. behind i ∙ last.behind i (subst (λ k. 1 ≤ k) (task i) some) ∙ sym (has-same W after q alike i);
            over = λ i some is waited. team.kept i (last.over i (subst (λ k. 1 ≤ k) (task i) some) (sym (behind i) ∙ is)
                (ap is_past_wait (sym (stand i)) ∙ waited));
            gone = λ i left. team.kept i (gone i left);
          }

  pub kept-back : (q i : ℕ) → 2 ≤ q → q < length W.regions → HasPassed W q i → HasPassed after q i
  kept-back q i forked below = (keeps-alike W after q (back-team run W after I J past t e q back) (back.knows.lasts.region q forked below)).kept i

-- ---- what is no event

-- a code that is behind stands at nothing, or within the region's barrier
pub data BehindAt (stand : Stand) : Type 0 where
  Nowhere : stand ≡ Free → BehindAt stand
  Within : (at : SyncStage) → stand ≡ AtSync sync.Parallel at → BehindAt stand

-- .. by its items
within-at : (at : SyncStage) → BehindAt (stand_within sync.Parallel at)
within-at stage.RegionBegin = Nowhere refl
within-at stage.WaitBegin = Within stage.WaitBegin refl
within-at stage.WaitEnd = Within stage.WaitEnd refl
within-at stage.RegionEnd = Within stage.RegionEnd refl

behind-at : (items : List Item) → ends_behind items ≡ true → BehindAt (stand_among items)
behind-at [] is = Nowhere refl
behind-at (SyncItem tree sync.Parallel at ∷ []) is = within-at at
behind-at items is = cc

-- behind something else than an event of that the code stands at nothing still
freed : (before after : Stand) → BehindAt before → ComesFree before after → is_past_wait before ≡ true
freed before after (Nowhere free) comes = ap is_past_wait free
freed before after (Within at within) comes = absurd (comes.synced sync.Parallel at within)

-- worlds that are alike
module _ (run : Run) (W after : World) (I J : Inside) (past : List EventRecord) (stays : Stays run W after I J past) where
  stays-team : (q : ℕ) → PassedAlike (region_at W q).team (region_at after q).team
  stays-team q = alike-members (region_at W q).team (region_at after q).team (stays.alike.world.team q).members (stays.alike.world.team q).met

  pub pooled-stays : (k : ℕ) → pooled_at after k ≡ pooled_at W k
  pooled-stays k = ap (λ (pool : PoolView). pool_task_at pool.tasks k) stays.alike.world.pool

  pub no-tasks-stays : (q : ℕ) → HasNoTasks W q → HasNoTasks after q
  no-tasks-stays q none k region = ap (λ (task : PoolTask). is_open task) (pooled-stays k) ∙ none k
      (ap (λ (task : PoolTask). task.region) (sym (pooled-stays k)) ∙ region)

  pub kept-stays : (q i : ℕ) → 2 ≤ q → q < length W.regions → HasPassed W q i → HasPassed after q i
  kept-stays q i forked below = (keeps-alike W after q (stays-team q) (stays.knows.lasts.region q forked below)).kept i

  pub last-stays : (q : ℕ) → 2 ≤ q → q < length W.regions → TellsLast after q
  last-stays q forked below = kept-last W after q last team members
    where
      last : TellsLast W q
      last = stays.knows.lasts.region q forked below

      team : KeepsTeam W after q
      team = keeps-alike W after q (stays-team q) last

      task : (i : ℕ) → task_of_member after q i ≡ task_of_member W q i
      task i = ap (λ (xs : List ℕ). slice_index_or xs i 0) (stays.alike.world.head q).members

      behind : (i : ℕ) → 1 ≤ task_of_member W q i → is_behind (task_at after (task_of_member after q i)).code ≡ is_behind
          (task_at W (task_of_member W q i)).code
      behind i some =
          let member = (stays.knows.members.region q forked below).implicit i some in
          ap (λ k. is_behind (task_at after k).code) (task i) ∙ stays.alike.behind (task_of_member W q i) member.made.below member.kind

      over : (i : ℕ) → 1 ≤ task_of_member W q i → is_behind (task_at W (task_of_member W q i)).code ≡ true
          → is_past_wait (stand_at after (task_of_member W q i)) ≡ true → HasPassed W q i
      over i some is waited =
          last.over i some is (elim (stays.alike.stands (task_of_member W q i)) [
            | inl same ↦ ap is_past_wait (sym same) ∙ waited
            | inr comes ↦ freed (stand_at W (task_of_member W q i)) (stand_at after (task_of_member W q i))
                (behind-at (task_at W (task_of_member W q i)).code.todo (and_parts (ends_behind (task_at W (task_of_member W q i)).code.todo) _ is).0) comes
          ])

      members : KeepsMembers W after q
      members =
          record {
            size = (stays.alike.world.head q).size;
            tasks = λ through. no-tasks-stays q through.tasks;
            behind = λ i some. let one = subst (λ k. 1 ≤ k) (task i) some in behind i one ∙ last.behind i one ∙ sym (has-same W after q (stays-team q) i);
            over = λ i some is waited.
                let one = subst (λ k. 1 ≤ k) (task i) some in
                team.kept i (over i one (sym (behind i one) ∙ is) (ap (λ k. is_past_wait (stand_at after k)) (sym (task i)) ∙ waited));
            gone = λ i left. team.kept i (last.gone i (ap (λ (xs : List Bool). slice_index_or xs i false) (sym (stays.alike.world.head q).left) ∙ left));
          }
