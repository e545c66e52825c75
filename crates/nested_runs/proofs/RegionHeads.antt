-- What stays of a region that was made through the Go of an event, and who is its member then.
use Rattle.std.proofs.Common.{ℕ, ◌≡◌, ◌≢◌, ◌<◌, ◌≤◌, ◌+◌, ◌==◌, ◌⊎◌, Bool, false, if◌then◌else◌, List, length, slice_index_or, slice_set, refl, sym, ap, ◌∙◌, subst, inl, inr, arith}
use Rattle.std.proofs.lemmas.Bool.{cases_eq, cases_order, eq-eqb}
use Rattle.std.proofs.lemmas.List.{get_or-set_other, get_or-set_same}
use Rattle.ompt_calls.specs.declared.event.EventRecord.{EventRecord}
use Rattle.task_pool.specs.declared.task.Task.{Task as PoolTask}
use Rattle.task_pool.specs.declared.task.TaskKind.{TaskKind}
use Rattle.task_pool.specs.declared.task.TaskKind.TheVariants as kind
use Rattle.task_pool.specs.Tasks.{is_explicit}
use Rattle.team_parts.specs.declared.meeting.TheConstants.{TEAM_LIMIT}
use Rattle.team_parts.specs.Team.{TeamView, member_at, new_member}
use Rattle.omp_model.specs.declared.event.Event.{Event}
use Rattle.omp_model.specs.declared.event.Event.TheVariants.{InitialTaskBegin, MemberBegin, MemberEnd, ParallelBegin, ParallelEnd}
use Rattle.omp_model.specs.declared.limits.TheConstants.{IMPLICIT_REGION, INITIAL_TASK}
use Rattle.omp_model.specs.declared.parts.RegionHead.{RegionHead}
use Rattle.omp_model.specs.State.{Run, World, fresh_head, fresh_team, pooled_at, region_at, task_at, thread_at}
use Rattle.omp_model.specs.MadeWorld.{IsRegion}
use Rattle.omp_model.specs.Members.{current, current_index, current_region, is_explicit_task, is_outermost, member_index, region_of}
use Rattle.omp_model.specs.EventEffects.{team_size}
use Rattle.omp_model.proofs.Touching.{head_after, head_back, regions_after}
use Rattle.nested_runs.proofs.Coming.{Comes}
use Rattle.nested_runs.proofs.Known.{task_of_member}
use Rattle.nested_runs.proofs.Knows.{Goes, Knows}
use Rattle.nested_runs.proofs.Recorded.{Inside}
use Rattle.nested_runs.proofs.FirstWorlds.{replicated}
use Rattle.nested_runs.proofs.PooledTasks.{by-case, current-made, current-under-way, same-pooled}

-- ---- what stays of a region

pub record SameHead (head after : RegionHead) : Type 0 where
  pub task : after.task ≡ head.task
  pub size : after.size ≡ head.size
  pub left : after.left ≡ head.left

same-head : (head : RegionHead) → SameHead head head
same-head head = record { task = refl; size = refl; left = refl }

-- the Go of an event leaves them, but for a region that it makes
head-stays : (W : World) (t : ℕ) (e : Event) → Comes W t e → (q : ℕ) → q ≢ length W.regions → SameHead (region_at W q).head (head_after W t e q)
head-stays W t (ParallelBegin r requested codeptr) comes q other =
    by-case (SameHead (region_at W q).head) q r _ _ (λ is. absurd (other (is ∙ comes.1.region))) (same-head _)
head-stays W t (ParallelEnd r codeptr) comes q other =
    by-case (SameHead (region_at W q).head) q r _ _ (λ is. record { task = refl; size = refl; left = refl }) (same-head _)
head-stays W t InitialTaskBegin comes q other =
    by-case (SameHead (region_at W q).head) q IMPLICIT_REGION _ _ (λ is. record { task = refl; size = refl; left = refl }) (same-head _)
head-stays W t (MemberBegin r k) comes q other =
    by-case (SameHead (region_at W q).head) q r _ _ (λ is. record { task = refl; size = refl; left = refl }) (same-head _)
head-stays W t e comes q other = same-head _

-- a region that a member joins
abbrev pub Joins : Event → ℕ → Type 0
Joins (MemberBegin r k) q = q ≡ r
Joins other q = ⊥

abbrev pub JoinsAt : World → ℕ → Event → ℕ → ℕ → Type 0
JoinsAt W t e q i = Joins e q × (i ≡ member_index W t q)

-- it does or it doesn't
joins-cases : (W : World) (t : ℕ) (e : Event) (q i : ℕ) → JoinsAt W t e q i ⊎ (JoinsAt W t e q i → ⊥)
joins-cases W t (MemberBegin r k) q i =
    elim (cases_eq q r) [
      | inl is ↦ elim (cases_eq i (member_index W t q)) [ inl here ↦ inl (is, here) | inr apart ↦ inr (λ joins. apart joins.1) ]
      | inr other ↦ inr (λ joins. other joins.0)
    ]
joins-cases W t e q i = inr (λ joins. joins.0)

module _ (run : Run) (W after : World) (I J : Inside) (past : List EventRecord) (t : ℕ) where
  module _ (e : Event) (goes : Goes run W after I J past t e) where
    -- the region and the kind of a task
    pub region-stays : (k : ℕ) → k ≢ length W.tasks → region_of after k ≡ region_of W k
    region-stays k other = ap (λ (x : PoolTask). x.region) (goes.touches.world.pooled k) ∙ (same-pooled W t e goes.comes k other).region

    pub kind-stays : (k : ℕ) → k ≢ length W.tasks → (pooled_at after k).kind ≡ (pooled_at W k).kind
    kind-stays k other = ap (λ (x : PoolTask). x.kind) (goes.touches.world.pooled k) ∙ (same-pooled W t e goes.comes k other).kind

    -- the head of a region
    pub head-same : (q : ℕ) → q ≢ length W.regions → SameHead (region_at W q).head (region_at after q).head
    head-same q other = subst (SameHead (region_at W q).head) (sym (goes.touches.world.head q)) (head-stays W t e goes.comes q other)

    -- whether it is outermost, and the numbers of its members
    outermost-stays : (q : ℕ) → 1 ≤ q → q < length W.regions → is_outermost after q ≡ is_outermost W q
    outermost-stays q some within =
        let made = goes.knows.sound.made.regions q (record { some = some; below = within }) in
        let task : (region_at after q).head.task ≡ (region_at W q).head.task = (head-same q (λ is. omega (arith, is, within))).task in
        ap (λ r. r == IMPLICIT_REGION) (ap (region_of after) task ∙ region-stays (region_at W q).head.task (λ is. omega (arith, is, made.task)))

    pub index-stays : (u q : ℕ) → 1 ≤ q → q < length W.regions → member_index after u q ≡ member_index W u q
    index-stays u q some within = ap (λ (outermost : Bool). if outermost then u else 0) (outermost-stays q some within)

  -- the members of a region that was forked, but for one that joins
  head-member : (e : Event) → Goes run W after I J past t e → (q i : ℕ) → 2 ≤ q → q ≢ length W.regions → (JoinsAt W t e q i → ⊥) →
      slice_index_or (head_after W t e q).members i 0 ≡ task_of_member W q i
  head-member (ParallelBegin r requested codeptr) goes q i forked other apart =
      by-case (λ (head : RegionHead). slice_index_or head.members i 0 ≡ task_of_member W q i) q r _ _ (λ is. absurd (other (is ∙ goes.comes.1.region))) refl
  head-member (ParallelEnd r codeptr) goes q i forked other apart =
      by-case (λ (head : RegionHead). slice_index_or head.members i 0 ≡ task_of_member W q i) q r _ _ (λ is. refl) refl
  head-member InitialTaskBegin goes q i forked other apart =
      by-case (λ (head : RegionHead). slice_index_or head.members i 0 ≡ task_of_member W q i) q IMPLICIT_REGION _ _
      (λ is. absurd (omega (arith, is, forked))) refl
  head-member (MemberBegin r k) goes q i forked other apart =
      by-case (λ (head : RegionHead). slice_index_or head.members i 0 ≡ task_of_member W q i) q r _ _
      (λ is. get_or-set_other (region_at W q).head.members (member_index W t r) i k 0 (λ here. apart (is, here ∙ ap (member_index W t) (sym is)))) refl
  head-member e goes q i forked other apart = refl

  pub old-member : (e : Event) → Goes run W after I J past t e → (q i : ℕ) → 2 ≤ q → q ≢ length W.regions → (JoinsAt W t e q i → ⊥) →
      task_of_member after q i ≡ task_of_member W q i
  old-member e goes q i forked other apart =
      ap (λ (head : RegionHead). slice_index_or head.members i 0) (goes.touches.world.head q) ∙ head-member e goes q i forked other apart

  -- one that joins is new, and had no forerunner
  pub record IsNewMember (q i : ℕ) : Type 0 where
    pub none : task_of_member W q i ≡ 0
    pub task : task_of_member after q i ≡ length W.tasks
    pub few : i < (region_at W q).head.size
    pub within : i < length (region_at W q).head.members
    pub some : 1 ≤ q
    pub made : q < length W.regions
    pub forked : 2 ≤ q

  pub new-member : (e : Event) → Goes run W after I J past t e → (q i : ℕ) → JoinsAt W t e q i → IsNewMember q i
  new-member (MemberBegin r k) goes q i joins =
      let is : q ≡ (thread_at W t).invited = joins.0 ∙ sym goes.comes.region in
      let some : 1 ≤ (thread_at W t).invited = omega (arith, goes.comes.region, goes.comes.some) in
      let named = goes.knows.sound.made.threads t in
      let joined = named.joins some in
      let region = goes.knows.sound.made.regions (thread_at W t).invited joined.made in
      let here : i ≡ member_index W t (thread_at W t).invited = joins.1 ∙ ap (member_index W t) is in
      let forked : 2 ≤ (thread_at W t).invited = named.forks some in
      let told = goes.knows.members.region (thread_at W t).invited forked joined.made.below in
      let few : i < (region_at W q).head.size =
      subst (λ p. i < (region_at W p).head.size) (sym is)
      (subst (λ n. i < n) region.team (subst (λ j. j < length (region_at W (thread_at W t).invited).team.members) (sym here) joined.member)) in
      let within : i < length (region_at W q).head.members =
      omega (
        arith,
        few,
        ap (λ p. (region_at W p).head.size) is,
        region.fits,
        goes.knows.sound.threads,
        goes.knows.sound.whole.few,
        told.members,
        ap
            (λ p. length (region_at W p).head.members) is,
      ) in
      let joined-head : (region_at after q).head.members ≡ slice_set (region_at W q).head.members (member_index W t r) k =
      ap (λ (head : RegionHead). head.members) (goes.touches.world.head q) ∙ rw (eq-eqb q r joins.0) refl in
      record {
        none =
            subst (λ p. task_of_member W p i ≡ 0) (sym is)
            (subst (λ j. task_of_member W (thread_at W t).invited j ≡ 0) (sym here) (goes.knows.members.room t some));
        task = ap (λ (members : List ℕ). slice_index_or members i 0) joined-head
            ∙ (subst (λ j. slice_index_or (slice_set (region_at W q).head.members j k) i 0 ≡ k) (joins.1 ∙ ap (member_index W t) joins.0)
            (get_or-set_same (region_at W q).head.members i k 0 within)
            ∙ goes.comes.task);
        few = few;
        within = within;
        some = omega (arith, is, some);
        made = omega (arith, is, joined.made.below);
        forked = omega (arith, is, forked);
      }
  new-member e goes q i joins = absurd joins.0

  -- each member is new or was there
  pub member-cases : (e : Event) → Goes run W after I J past t e → (q i : ℕ) → 2 ≤ q → q ≢ length W.regions →
      (JoinsAt W t e q i × IsNewMember q i) ⊎ ((JoinsAt W t e q i → ⊥) × (task_of_member after q i ≡ task_of_member W q i))
  member-cases e goes q i forked other =
      elim (joins-cases W t e q i) [
        | inl joins ↦ inl (joins, new-member e goes q i joins)
        | inr apart ↦ inr (apart, old-member e goes q i forked other apart)
      ]

-- ---- the place of a thread's current task in its team

-- the initial task is no member's
pub unlike-kinds : {one : TaskKind} → one ≡ kind.Implicit → one ≡ kind.Initial → ⊥
unlike-kinds implicit initial = cc

-- a task that isn't explicit is the initial one or a member's
pub plain-kinds : (now : TaskKind) → is_explicit now ≡ false → (now ≡ kind.Initial) ⊎ (now ≡ kind.Implicit)
plain-kinds kind.Initial plain = inl refl
plain-kinds kind.Implicit plain = inr refl
plain-kinds kind.Explicit plain = absurd cc
plain-kinds kind.Undeferred plain = absurd cc

module _ (run : Run) (W : World) (I : Inside) (past : List EventRecord) (t : ℕ) (knows : Knows run W I past) (some : 1 ≤ current W t) where
  -- a member stands at its place
  pub member-seated : (pooled_at W (current W t)).kind ≡ kind.Implicit →
      (2 ≤ current_region W t) × (task_of_member W (current_region W t) (current_index W t) ≡ current W t)
  member-seated implicit =
      let seated = knows.members.seated (current W t) (current-made W t knows.sound.made some).made implicit in
      let thread = (current-under-way W t knows.sound.orderly some).thread in
      (seated.region, subst (λ u. task_of_member W (current_region W t) (member_index W u (current_region W t)) ≡ current W t) thread seated.member)

  -- where a task that isn't explicit is in a region that was forked, it is the member
  pub plain-seated : is_explicit_task W (current W t) ≡ false → 2 ≤ current_region W t → task_of_member W (current_region W t) (current_index W t) ≡ current W t
  plain-seated plain forked =
      elim (plain-kinds (pooled_at W (current W t)).kind plain) [
        | inl initial ↦
            let is : current W t ≡ INITIAL_TASK = knows.sound.orderly.alone (current W t) initial in
            absurd (omega (arith, forked, ap (region_of W) is, knows.seats.initial))
        | inr implicit ↦ (member-seated implicit).1
      ]

  -- a member that is the current task stands at this place
  pub one-place : (r i : ℕ) → 2 ≤ r → r < length W.regions → task_of_member W r i ≡ current W t → (r ≡ current_region W t) × (i ≡ current_index W t)
  one-place r i forked made is =
      let member = (knows.members.region r forked made).implicit i (subst (λ k. 1 ≤ k) (sym is) some) in
      let region : r ≡ current_region W t = sym member.region ∙ ap (region_of W) is in
      let thread = (current-under-way W t knows.sound.orderly some).thread in
      (region, sym member.index ∙ (ap (λ k. member_index W (task_at W k).thread r) is ∙ (ap (λ u. member_index W u r) thread ∙ ap (member_index W t) region)))

  -- its place lies in the team
  pub place-within : current_index W t < length (region_at W (current_region W t)).team.members
  place-within = (current-made W t knows.sound.made some).within.member

  -- and its region was made
  pub region-made : IsRegion W (current_region W t)
  region-made = (current-made W t knows.sound.made some).within.made

-- ---- a region that was forked just now

pub record IsFreshRegion (W after : World) (t r : ℕ) : Type 0 where
  pub size : ℕ
  pub head : (region_at after r).head ≡ fresh_head (current W t) size
  pub team : (region_at after r).team ≡ fresh_team size
  pub member : (i : ℕ) → task_of_member after r i ≡ 0
  pub new : (i : ℕ) → member_at (region_at after r).team i ≡ new_member

-- it has no members, and its team has met nothing
fresh-of : (W after : World) (t r size : ℕ) → (region_at after r).head ≡ fresh_head (current W t) size → (region_at after r).team ≡ fresh_team size →
    IsFreshRegion W after t r
fresh-of W after t r size head team =
    record {
      size = size;
      head = head;
      team = team;
      member = λ i. ap (λ (x : RegionHead). slice_index_or x.members i 0) head ∙ replicated 0 TEAM_LIMIT i;
      new = λ i. ap (λ (x : TeamView). member_at x i) team ∙ replicated new_member size i;
    }

-- the region of the begin of one
pub fresh-region : (run : Run) (W after : World) (I J : Inside) (past : List EventRecord) (t : ℕ) (e : Event) → Goes run W after I J past t e → (r : ℕ) →
    r ≡ length W.regions →
    r < length after.regions → IsFreshRegion W after t r
fresh-region run W after I J past t (ParallelBegin q requested codeptr) goes r is within =
    let same : r ≡ q = is ∙ sym goes.comes.1.region in
    fresh-of W after t r (team_size W t requested) (goes.touches.world.head r ∙ rw (eq-eqb r q same) refl) (goes.touches.world.team r ∙ rw (eq-eqb r q same) refl)
fresh-region run W after I J past t e goes r is within = absurd (omega (arith, is, within, goes.touches.world.regions))

-- how many regions there are
regions-grow : (e : Event) (count : ℕ) → regions_after e count ≤ count + 1
regions-grow (ParallelBegin r requested codeptr) count = omega arith
regions-grow e count = omega arith

pub old-region : (run : Run) (W after : World) (I J : Inside) (past : List EventRecord) (t : ℕ) (e : Event) → Goes run W after I J past t e → (r : ℕ) →
    r < length after.regions →
    r ≢ length W.regions → r < length W.regions
old-region run W after I J past t e goes r made other =
    elim (cases_order r (length W.regions)) [
      | inl is ↦ absurd (other is)
      | inr apart ↦ elim apart [ inl below ↦ below | inr above ↦ absurd (omega (arith, made, above, goes.touches.world.regions, regions-grow e (length W.regions))) ]
    ]

-- ---- a region through a Back

pub record BackHead (head after : RegionHead) : Type 0 where
  pub task : after.task ≡ head.task
  pub size : after.size ≡ head.size
  pub members : after.members ≡ head.members
  pub ended : after.ended ≡ head.ended

-- all but who has left it stays
head-returns : (W : World) (t : ℕ) (e : Event) (q : ℕ) → BackHead (region_at W q).head (head_back W t e q)
head-returns W t (MemberEnd r k) q =
    by-case (BackHead (region_at W q).head) q r _ _ (λ is. record { task = refl; size = refl; members = refl; ended = refl })
    (record { task = refl; size = refl; members = refl; ended = refl })
head-returns W t e q = record { task = refl; size = refl; members = refl; ended = refl }

pub back-head : (W after : World) (t : ℕ) (e : Event) (q : ℕ) → (region_at after q).head ≡ head_back W t e q →
    BackHead (region_at W q).head (region_at after q).head
back-head W after t e q is = subst (BackHead (region_at W q).head) (sym is) (head-returns W t e q)
