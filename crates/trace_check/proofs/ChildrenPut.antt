-- What is known of counts of children after the count of one task was put anew.
use Rattle.std.proofs.Common.{◌≡◌, ℕ, ◌+◌, ◌*◌, ◌<◌, ◌==◌, ◌&&◌, Bool, true, false, cond, not, List, [], ◌∷◌, filter, Option, Some, None, refl, sym, ◌∙◌, ap, subst, arith}
use Rattle.std.specs.List.{list_all}
use Rattle.std.specs.Ordering.{nat_cmp}
use Rattle.std.specs.BTreeMap.{get}
use Rattle.std.proofs.lemmas.Bool.{eqb-true, eq-eqb}
use Rattle.std.proofs.lemmas.Bool.Decides.{nat_tests}
use Rattle.ompt_calls.specs.declared.event.EventRecord.{EventRecord}
use Rattle.trace_check.specs.declared.kept.Kept.{Kept}
use Rattle.trace_check.specs.declared.things.Created.{Created}
use Rattle.trace_check.specs.declared.things.Current.{Current}
use Rattle.trace_check.specs.declared.things.Member.{Member}
use Rattle.trace_check.specs.declared.things.Seat.{Seat}
use Rattle.trace_check.specs.Before.{Creation, Join, creations, has_left, has_started, is_complete, is_created, is_open_region, join_of, joins, joins_of, task_started, waits_of}
use Rattle.trace_check.specs.Checking.{KnownMembers, Unbroken, children_kept, children_of, counts_alone, counts_in_team, created_known, created_of, created_with, creation_in, is_seat, is_unseated, join_at, member_known, member_of, member_with, seat_children, seat_in}
use Rattle.trace_check.proofs.Joined.{AtSeat, Distinct, at_seat, distinct, found_is, is_other, join_in, seat_is, seat_of}
use Rattle.trace_check.proofs.TeamTests.{sound_team}
use Rattle.trace_check.proofs.Starts.{found_any, found_task}
use Rattle.trace_check.proofs.Counted.{created_count, member_count}
use Rattle.trace_check.proofs.Children.{created_joined}
use Rattle.trace_check.proofs.TaskEvents.{OfTask}
use Rattle.trace_check.proofs.Creations.{initial_uncreated, initial_unjoined}
use Rattle.trace_check.proofs.Tests.{apart, left, right}

-- ---- the join at a place

-- a join that is found stands in the list
joined_all : (p : Join → Bool) (k : ℕ) (all : List Join) (join : Join) → join_in k all ≡ Some join → list_all p all ≡ true → p join ≡ true
joined_all p k [] join found holds = absurd (cc)
joined_all p k (other ∷ all) join found holds = by-test (other.task == k) found (left (p other) _ holds) (λ is. joined_all p k all join is (right (p other) _ holds))
  where
    by-test : (b : Bool) → cond b (Some other) (join_in k all) ≡ Some join → p other ≡ true → (join_in k all ≡ Some join → p join ≡ true) → p join ≡ true
    by-test true is here rest = let e : other ≡ join = cc in subst (λ (j : Join). p j ≡ true) e here
    by-test false is here rest = rest is

pub record AtPlace (r index : ℕ) (all : List Join) (join : Join) : Type 0 where
  pub found : join_in join.task all ≡ Some join
  pub region : (join.region == r) ≡ true
  pub place : (join.index == index) ≡ true

-- one that stands at a place is the join of its task
join_there : (r index : ℕ) (all : List Join) (join : Join) → Distinct all → join_at index (filter (λ (other : Join). other.region == r) all) ≡ Some join → AtPlace r index all join
join_there r index [] join sound there = absurd (cc)
join_there r index (other ∷ all) join sound there = by-region (other.region == r) refl there (λ is. further (join_there r index all join sound.1 is))
  where
    flip : (n m : ℕ) → not (n == m) ≡ true → (m == n) ≡ false
    flip n m differs = grind (arith, nat_tests)

    further : AtPlace r index all join → AtPlace r index (other ∷ all) join
    further at = record {
      found = rw (flip join.task other.task (joined_all (is_other other.task) join.task all join at.found sound.0)) at.found;
      region = at.region;
      place = at.place;
    }

    by-index : (b : Bool) → (other.index == index) ≡ b → (other.region == r) ≡ true → cond b (Some other) (join_at index (filter (λ (o : Join). o.region == r) all)) ≡ Some join
        → (join_at index (filter (λ (o : Join). o.region == r) all) ≡ Some join → AtPlace r index (other ∷ all) join) → AtPlace r index (other ∷ all) join
    by-index true same region is rest =
        let e : other ≡ join = cc in
        subst (λ (j : Join). AtPlace r index (other ∷ all) j) e (record { found = rw (eq-eqb other.task other.task refl) refl; region = region; place = same })
    by-index false differs region is rest = rest is

    by-region : (b : Bool) → (other.region == r) ≡ b → join_at index (cond b (other ∷ filter (λ (o : Join). o.region == r) all) (filter (λ (o : Join). o.region == r) all)) ≡ Some join
        → (join_at index (filter (λ (o : Join). o.region == r) all) ≡ Some join → AtPlace r index (other ∷ all) join) → AtPlace r index (other ∷ all) join
    by-region true same is rest = by-index (other.index == index) refl same is rest
    by-region false differs is rest = rest is

-- ---- where the count of a task is kept

abbrev pub task_at : List EventRecord → ℕ → Current
task_at past task = record { task = task; seat = seat_in task (joins past) }

-- with the implicit task at a place exactly where it is this task
team_flag : (c r index : ℕ) (past : List EventRecord) (join : Join) → Unbroken past → join_at index (joins_of r past) ≡ Some join → counts_in_team (task_at past c) r index ≡ (c == join.task)
team_flag c r index past join unbroken there =
    rw (seat_is c (joins past)) (by-same (c == join.task) refl (join_there r index (joins past) join (distinct past unbroken) there))
  where
    initial : (b : Bool) → (c == 1) ≡ b → join_in c (joins past) ≡ Some join → (not b && true) ≡ true
    initial false is found = refl
    initial true is found =
        let e : c ≡ 1 = eqb-true c 1 is in
        let none : None ≡ Some join = sym (initial_unjoined past unbroken) ∙ (ap (λ (n : ℕ). join_in n (joins past)) (sym e) ∙ found) in
        absurd (cc)

    nowhere : (a b : Bool) → (a && (b && false)) ≡ false
    nowhere true true = refl
    nowhere true false = refl
    nowhere false b = refl

    none : (a : Bool) → (a && false) ≡ false
    none true = refl
    none false = refl

    by-tests : (one : Join) → join_in c (joins past) ≡ Some one → (c == join.task) ≡ false → (a b : Bool) → (one.region == r) ≡ a → (one.index == index) ≡ b → (not (c == 1) && (a && b)) ≡ false
    by-tests one found differs true true region place =
        let e : one.region ≡ r = eqb-true one.region r region in
        let f : one.index ≡ index = eqb-true one.index index place in
        let at : AtSeat one (joins_of one.region past) = at_seat c (joins past) one found (sound_team one.region past unbroken) in
        let here : join_at index (joins_of r past) ≡ Some one = ap (λ (n : ℕ). join_at n (joins_of r past)) (sym f) ∙ (ap (λ (n : ℕ). join_at one.index (joins_of n past)) (sym e) ∙ at.there) in
        let same : Some join ≡ Some one = sym there ∙ here in
        let own : join ≡ one = cc in
        let task : join.task ≡ c = ap (λ (j : Join). j.task) own ∙ found_is c (joins past) one found in
        absurd (apart (c == join.task) (eq-eqb c join.task (sym task)) differs)
    by-tests one found differs true false region place = nowhere (not (c == 1)) true
    by-tests one found differs false b region place = none (not (c == 1))

    by-found : (found : Option Join) → join_in c (joins past) ≡ found → (c == join.task) ≡ false → (not (c == 1) && is_seat r index (seat_of found)) ≡ false
    by-found None is differs = none (not (c == 1))
    by-found (Some one) is differs = by-tests one is differs (one.region == r) (one.index == index) refl refl

    by-same : (b : Bool) → (c == join.task) ≡ b → AtPlace r index (joins past) join → (not (c == 1) && is_seat r index (seat_of (join_in c (joins past)))) ≡ b
    by-same true same at =
        let found : join_in c (joins past) ≡ Some join = ap (λ (n : ℕ). join_in n (joins past)) (eqb-true c join.task same) ∙ at.found in
        rw (found, at.region, at.place) (initial (c == 1) refl found)
    by-same false differs at = by-found (join_in c (joins past)) refl differs

-- with a created task exactly where it is this one
alone_flag : (c k : ℕ) (past : List EventRecord) → Unbroken past → is_created k past ≡ true → counts_alone (task_at past c) k ≡ (c == k)
alone_flag c k past unbroken made = by-same (c == k) refl
  where
    nowhere : (a b : Bool) → (a && (b && false)) ≡ false
    nowhere true true = refl
    nowhere true false = refl
    nowhere false b = refl

    initial : (b : Bool) → (c == 1) ≡ b → c ≡ k → (not b && true) ≡ true
    initial false is same = refl
    initial true is same =
        let e : k ≡ 1 = sym same ∙ eqb-true c 1 is in
        absurd (apart (is_created 1 past) (ap (λ (n : ℕ). is_created n past) (sym e) ∙ made) (initial_uncreated past unbroken))

    by-same : (b : Bool) → (c == k) ≡ b → (not (c == 1) && (is_unseated (seat_in c (joins past)) && b)) ≡ b
    by-same false differs = nowhere (not (c == 1)) (is_unseated (seat_in c (joins past)))
    by-same true same =
        let e : c ≡ k = eqb-true c k same in
        let unseated : seat_in c (joins past) ≡ None = seat_is c (joins past) ∙ ap seat_of (ap (λ (n : ℕ). join_in n (joins past)) e ∙ created_joined k past unbroken made) in
        rw unseated (initial (c == 1) refl e)

-- ---- what is kept after an event that changes the count of one task

-- the counts of the others stay
abbrev pub OthersStay : ℕ → List EventRecord → EventRecord → Type 0
OthersStay c past event = (k : ℕ) → (c == k) ≡ false → children_of k (event ∷ past) ≡ children_of k past

-- an implicit task
pub member_after : (c n r index : ℕ) (past : List EventRecord) (event : EventRecord) → Unbroken past → OfTask event.call → OthersStay c past event
    → ((member : Member) → counts_in_team (task_at past c) r index ≡ true → member_known r index past ≡ Some member → n ≡ children_of c (event ∷ past))
    → cond (counts_in_team (task_at past c) r index) (member_with n (member_known r index past)) (member_known r index past) ≡ member_known r index (event ∷ past)
member_after c n r index past event unbroken of_task others value =
    rw (of_task.begun, of_task.ended, of_task.joined) (by-open (is_open_region r past) refl (join_at index (joins_of r past)) refl)
  where
    none : (b : Bool) → cond {A = Option Member} b None None ≡ None
    none true = refl
    none false = refl

    so_many : Join → ℕ → Option Member
    so_many join m = Some (record { task = join.task; left = has_left join.task past; waits = waits_of join.task past; children = m })

    by-same : (join : Join) (b : Bool) → (c == join.task) ≡ b → (b ≡ true → n ≡ children_of c (event ∷ past))
        → cond b (member_with n (member_of past (Some join))) (member_of past (Some join))
        ≡ Some (record { task = join.task; left = has_left join.task past; waits = waits_of join.task past; children = children_of join.task (event ∷ past) })
    by-same join true same put =
        ap (so_many join)
        (put refl ∙ ap (λ (k : ℕ). children_of k (event ∷ past)) (eqb-true c join.task same))
    by-same join false differs put =
        ap (so_many join) (sym (others join.task differs))

    by-open : (o : Bool) → is_open_region r past ≡ o → (found : Option Join) → join_at index (joins_of r past) ≡ found
        → cond (counts_in_team (task_at past c) r index) (member_with n (cond o (member_of past found) None)) (cond o (member_of past found) None) ≡ cond o (member_of (event ∷ past) found) None
    by-open false shut found there = none (counts_in_team (task_at past c) r index)
    by-open true is-open None there = none (counts_in_team (task_at past c) r index)
    by-open true is-open (Some join) there =
        let flag : counts_in_team (task_at past c) r index ≡ (c == join.task) = team_flag c r index past join unbroken there in
        let known : member_known r index past ≡ member_of past (Some join) = rw (is-open, there) refl in
        rw (flag, of_task.gone, of_task.waits) (by-same join (c == join.task) refl (λ same. value _ (flag ∙ same) known))

-- a created task
pub created_after : (c n k : ℕ) (past : List EventRecord) (event : EventRecord) → Unbroken past → join_of event.call ≡ None → task_started event.call ≡ None → OthersStay c past event
    → ((creation : Creation) → c ≡ k → is_complete k past ≡ false → creation_in k (creations past) ≡ Some creation → counts_alone (task_at past c) k ≡ true → n ≡ children_of c (event ∷ past))
    → cond (counts_alone (task_at past c) k) (created_with n (created_known k past)) (created_known k past)
    ≡ cond (is_complete k past) None (created_of (event ∷ past) (creation_in k (creations past)))
created_after c n k past event unbroken joined started others value = by-complete (is_complete k past) refl (creation_in k (creations past)) refl
  where
    none : (b : Bool) → cond {A = Option Created} b None None ≡ None
    none true = refl
    none false = refl

    so_many : Creation → ℕ → Option Created
    so_many creation m = Some (record { creator = record { task = creation.creator; seat = seat_in creation.creator (joins past) }; started = has_started creation.task past; children = m })

    by-same : (creation : Creation) (b : Bool) → (c == k) ≡ b → creation.task ≡ k → (b ≡ true → n ≡ children_of c (event ∷ past))
        → cond b (created_with n (created_of past (Some creation))) (created_of past (Some creation))
        ≡ Some (record { creator = record { task = creation.creator; seat = seat_in creation.creator (joins past) }; started = has_started creation.task past; children = children_of creation.task (event ∷ past) })
    by-same creation true same own put =
        ap (so_many creation)
        (put refl ∙ ap (λ (i : ℕ). children_of i (event ∷ past)) (eqb-true c k same ∙ sym own))
    by-same creation false differs own put =
        ap (so_many creation)
        (sym (others creation.task (ap (λ (i : ℕ). c == i) own ∙ differs)))

    by-complete : (b : Bool) → is_complete k past ≡ b → (found : Option Creation) → creation_in k (creations past) ≡ found
        → cond (counts_alone (task_at past c) k) (created_with n (cond b None (created_of past found))) (cond b None (created_of past found)) ≡ cond b None (created_of (event ∷ past) found)
    by-complete true whole found here = none (counts_alone (task_at past c) k)
    by-complete false whole None here = none (counts_alone (task_at past c) k)
    by-complete false whole (Some creation) here =
        let flag : counts_alone (task_at past c) k ≡ (c == k) = alone_flag c k past unbroken (found_any k (creations past) creation here) in
        rw (flag, joined, started)
        (by-same creation (c == k) refl (found_task k (creations past) creation here) (λ same. value creation (eqb-true c k same) whole here (flag ∙ same)))

-- ---- the count that is kept of a task

pub team_count : (kept : Kept) (past : List EventRecord) (c r index : ℕ) (member : Member) → Unbroken past → KnownMembers kept.members past → index < 4294967296
    → counts_in_team (task_at past c) r index ≡ true → member_known r index past ≡ Some member → children_kept kept (task_at past c) ≡ children_of c past
team_count kept past c r index member unbroken members fits flag known = by-seat (c == 1) (seat_in c (joins past)) refl flag
  where
    by-seat : (b : Bool) (seat : Option Seat) → seat_in c (joins past) ≡ seat → (not b && is_seat r index seat) ≡ true → cond b kept.children (seat_children kept c seat) ≡ children_of c past
    by-seat true seat here is = absurd (cc)
    by-seat false None here is = absurd (cc)
    by-seat false (Some seat) here is =
        let e : seat.region ≡ r = eqb-true seat.region r (left (seat.region == r) _ is) in
        let f : seat.index ≡ index = eqb-true seat.index index (right (seat.region == r) _ is) in
        let key : get nat_cmp kept.members (r * 4294967296 + index) ≡ Some member = members r index fits ∙ known in
        let own : member_known seat.region seat.index past ≡ Some member = rw (e, f) known in
        rw (e, f, key) (member_count c past seat member unbroken (sym (seat_is c (joins past)) ∙ here) own)

pub alone_count : (kept : Kept) (past : List EventRecord) (c : ℕ) (created : Created) → get nat_cmp kept.created c ≡ Some created → created_known c past ≡ Some created
    → counts_alone (task_at past c) c ≡ true → children_kept kept (task_at past c) ≡ children_of c past
alone_count kept past c created here known flag = by-seat (c == 1) (seat_in c (joins past)) flag
  where
    by-seat : (b : Bool) (seat : Option Seat) → (not b && (is_unseated seat && (c == c))) ≡ true → cond b kept.children (seat_children kept c seat) ≡ children_of c past
    by-seat true seat is = absurd (cc)
    by-seat false None is = rw here (created_count c past created known)
    by-seat false (Some seat) is = absurd (cc)

pub initial_count : (kept : Kept) (past : List EventRecord) (c : ℕ) → (c == 1) ≡ true → kept.children ≡ children_of 1 past → children_kept kept (task_at past c) ≡ children_of c past
initial_count kept past c initial known = rw initial (known ∙ ap (λ (k : ℕ). children_of k past) (sym (eqb-true c 1 initial)))
