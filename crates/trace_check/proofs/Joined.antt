-- A task joins once, and what is kept of its place is its own.
use Rattle.std.proofs.Common.{◌≡◌, ℕ, ◌+◌, ◌≤◌, ◌==◌, ◌&&◌, ◌||◌, Bool, true, false, cond, not, max, List, [], ◌∷◌, filter, Option, Some, None, refl, sym, ◌∙◌, ap, subst, arith}
use Rattle.std.specs.Prelude.{nat_le}
use Rattle.std.specs.List.{list_all, list_any}
use Rattle.std.proofs.lemmas.Bool.{eqb-true, eq-eqb}
use Rattle.std.proofs.lemmas.Bool.Decides.{nat_tests}
use Rattle.ompt_calls.specs.declared.call.Call.{Call}
use Rattle.ompt_calls.specs.declared.call.Call.TheVariants.{TaskCreate, ImplicitTask}
use Rattle.ompt_calls.specs.declared.event.EventRecord.{EventRecord}
use Rattle.trace_check.specs.declared.bracket.Bracket.{Bracket}
use Rattle.trace_check.specs.declared.things.Current.{Current}
use Rattle.trace_check.specs.declared.things.Member.{Member}
use Rattle.trace_check.specs.declared.things.Seat.{Seat}
use Rattle.trace_check.specs.Brackets.{current_in}
use Rattle.trace_check.specs.Before.{Join, and_more, greatest_task, is_open_region, join_of, joins, joins_of, task_made, waits_of}
use Rattle.trace_check.specs.Rules.{have_waited, may_join, may_pass}
use Rattle.trace_check.specs.Checking.{Unbroken, current_with, join_at, member_known, member_of, running, seat_in, team_size}
use Rattle.trace_check.proofs.Kept12.{KeepsAll, keeps_all}
use Rattle.trace_check.proofs.TeamTests.{SoundTeam, by_join, is_beside, sound_team}
use Rattle.trace_check.proofs.Tests.{left, right}

abbrev pub is_other : ℕ → Join → Bool
is_other task join = not (join.task == task)

-- each task is in the list once
abbrev pub Distinct : List Join → Type 0
Distinct [] = Unit {0}
Distinct (join ∷ all) = (list_all (is_other join.task) all ≡ true) × Distinct all

-- ---- the tasks of joins are at most the greatest

abbrev pub is_made : ℕ → Join → Bool
is_made greatest join = nat_le join.task greatest

made_more : (g h : ℕ) → g ≤ h → (all : List Join) → list_all (is_made g) all ≡ true → list_all (is_made h) all ≡ true
made_more g h less [] made = refl
made_more g h less (join ∷ all) made = rw (more join.task (left (nat_le join.task g) _ made), made_more g h less all (right (nat_le join.task g) _ made)) refl
  where
    more : (task : ℕ) → nat_le task g ≡ true → nat_le task h ≡ true
    more task below = grind (arith, nat_tests)

pub joins_made : (past : List EventRecord) → list_all (is_made (greatest_task past)) (joins past) ≡ true
joins_made [] = refl
joins_made (event ∷ past) = by-call event.call (joins_made past)
  where
    before : (n : ℕ) → list_all (is_made (greatest_task past)) (joins past) ≡ true → list_all (is_made (max n (greatest_task past))) (joins past) ≡ true
    before n made = made_more (greatest_task past) (max n (greatest_task past)) (omega arith) (joins past) made

    here : (n g : ℕ) → nat_le n (max n g) ≡ true
    here n g = let h : n ≤ max n g = omega arith in grind (arith, nat_tests)

    by-test : (b : Bool) (join : Join) → list_all (is_made (greatest_task past)) (joins past) ≡ true → list_all (is_made (max (cond b join.task 0) (greatest_task past))) (and_more (cond b (Some join) None) (joins past)) ≡ true
    by-test true join made = rw (here join.task (greatest_task past), before join.task made) refl
    by-test false join made = before 0 made

    by-call : (call : Call) → list_all (is_made (greatest_task past)) (joins past) ≡ true → list_all (is_made (max (task_made call) (greatest_task past))) (and_more (join_of call) (joins past)) ≡ true
    by-call (ImplicitTask endpoint region task actual index flags) made = by-test ((endpoint == 1) && not (flags == 1)) (record { region = region.identity; task = task.identity; actual = actual; index = index }) made
    by-call (TaskCreate task frame fresh flags has_dependences codeptr) made = before fresh.identity made
    by-call other made = before 0 made

pub distinct : (past : List EventRecord) → Unbroken past → Distinct (joins past)
distinct [] unbroken = tt
distinct (event ∷ past) unbroken =
    let all : KeepsAll past event = keeps_all past event unbroken.0 in
    by-join (join_of event.call) (right _ (may_join past (join_of event.call)) all.tasks) (distinct past unbroken.1)
  where
    others : (task : ℕ) (all : List Join) → (task == greatest_task past + 1) ≡ true → list_all (is_made (greatest_task past)) all ≡ true → list_all (is_other task) all ≡ true
    others task [] next made = refl
    others task (join ∷ all) next made = rw (apart join.task (left (nat_le join.task (greatest_task past)) _ made), others task all next (right (nat_le join.task (greatest_task past)) _ made)) refl
      where
        apart : (n : ℕ) → nat_le n (greatest_task past) ≡ true → not (n == task) ≡ true
        apart n below = let e : task ≡ greatest_task past + 1 = eqb-true task (greatest_task past + 1) next in grind (arith, nat_tests)

    by-join : (join : Option Join) → may_join past join ≡ true → Distinct (joins past) → Distinct (and_more join (joins past))
    by-join None may rest = rest
    by-join (Some join) may rest = (others join.task (joins past) (left _ _ (right (is_open_region join.region past) _ may)) (joins_made past), rest)

-- ---- the join of a task

abbrev pub join_in : ℕ → List Join → Option Join
join_in task [] = None
join_in task (join ∷ all) = cond (join.task == task) (Some join) (join_in task all)

abbrev pub seat_of : Option Join → Option Seat
seat_of None = None
seat_of (Some join) = Some (record { region = join.region; index = join.index })

pub seat_is : (task : ℕ) (all : List Join) → seat_in task all ≡ seat_of (join_in task all)
seat_is task [] = refl
seat_is task (join ∷ all) = by-test (join.task == task) (seat_is task all)
  where
    by-test : (b : Bool) → seat_in task all ≡ seat_of (join_in task all) → cond b (Some (record { region = join.region; index = join.index })) (seat_in task all) ≡ seat_of (cond b (Some join) (join_in task all))
    by-test true rest = refl
    by-test false rest = rest

none_other : (f : Join → Bool) (task : ℕ) (all : List Join) → list_all (is_other task) all ≡ true → list_any (λ (join : Join). (join.task == task) && f join) all ≡ false
none_other f task [] others = refl
none_other f task (join ∷ all) others = by-test (join.task == task) (left _ _ others) (none_other f task all (right _ _ others))
  where
    by-test : (b : Bool) → not b ≡ true → list_any (λ (join : Join). (join.task == task) && f join) all ≡ false → ((b && f join) || list_any (λ (join : Join). (join.task == task) && f join) all) ≡ false
    by-test true apart rest = absurd (cc)
    by-test false apart rest = rest

-- what holds of a join of the task holds of its join
any_of : (f : Join → Bool) (task : ℕ) (all : List Join) → Distinct all → list_any (λ (join : Join). (join.task == task) && f join) all ≡ by_join f (join_in task all)
any_of f task [] sound = refl
any_of f task (join ∷ all) sound = by-test (join.task == task) refl (f join) refl (any_of f task all sound.1)
  where
    by-test : (b : Bool) → (join.task == task) ≡ b → (v : Bool) → f join ≡ v → list_any (λ (join : Join). (join.task == task) && f join) all ≡ by_join f (join_in task all)
        → ((b && v) || list_any (λ (join : Join). (join.task == task) && f join) all) ≡ by_join f (cond b (Some join) (join_in task all))
    by-test true same true is rest = sym is
    by-test true same false is rest = none_other f task all (subst (λ (n : ℕ). list_all (is_other n) all ≡ true) (eqb-true join.task task same) sound.0) ∙ sym is
    by-test false same v is rest = rest

-- ---- the join at a place is the one that is kept there

pub record AtSeat (join : Join) (team : List Join) : Type 0 where
  pub there : join_at join.index team ≡ Some join
  pub size : team_size team ≡ Some join.actual

-- one beside another
pub not_at : (index actual n : ℕ) (join : Join) (team : List Join) → list_all (is_beside index actual) team ≡ true → join_at n team ≡ Some join → (index == n) ≡ false
not_at index actual n join [] beside there = absurd (cc)
not_at index actual n join (first ∷ team) beside there =
    by-test (first.index == n) refl (left (not (first.index == index)) _ (left (is_beside index actual first) _ beside)) (not_at index actual n join team (right (is_beside index actual first) _ beside)) there
  where
    by-test : (b : Bool) → (first.index == n) ≡ b → not (first.index == index) ≡ true → (join_at n team ≡ Some join → (index == n) ≡ false) → cond b (Some first) (join_at n team) ≡ Some join → (index == n) ≡ false
    by-test true same apart rest is = flip first.index index n (eqb-true first.index n same) apart
      where
        flip : (f i m : ℕ) → f ≡ m → not (f == i) ≡ true → (i == m) ≡ false
        flip f i m is apart = grind (arith, nat_tests)
    by-test false same apart rest is = rest is

same_actual : (join other : Join) (team : List Join) → list_all (is_beside other.index other.actual) team ≡ true → AtSeat join team → other.actual ≡ join.actual
same_actual join other [] beside seat = let e : None ≡ Some join = seat.there in absurd (cc)
same_actual join other (first ∷ team) beside seat =
    let e : Some first.actual ≡ Some join.actual = seat.size in
    let f : first.actual ≡ join.actual = cc in
    let g : first.actual ≡ other.actual = eqb-true first.actual other.actual (right (not (first.index == other.index)) _ (left (is_beside other.index other.actual first) _ beside)) in
    sym g ∙ f

own_seat : (join : Join) (all : List Join) → AtSeat join (filter (λ (other : Join). other.region == join.region) (join ∷ all))
own_seat join all = rw (eq-eqb join.region join.region refl) (record { there = rw (eq-eqb join.index join.index refl) refl; size = refl })

pub at_seat : (task : ℕ) (all : List Join) (join : Join) → join_in task all ≡ Some join → SoundTeam (filter (λ (other : Join). other.region == join.region) all) → AtSeat join (filter (λ (other : Join). other.region == join.region) all)
at_seat task [] join found sound = absurd (cc)
at_seat task (other ∷ all) join found sound = by-test (other.task == task) found (at_seat task all join)
  where
    by-region : (b : Bool) → SoundTeam (cond b (other ∷ filter (λ (o : Join). o.region == join.region) all) (filter (λ (o : Join). o.region == join.region) all))
        → (SoundTeam (filter (λ (o : Join). o.region == join.region) all) → AtSeat join (filter (λ (o : Join). o.region == join.region) all))
        → AtSeat join (cond b (other ∷ filter (λ (o : Join). o.region == join.region) all) (filter (λ (o : Join). o.region == join.region) all))
    by-region true sounds rest =
        let seat : AtSeat join (filter (λ (o : Join). o.region == join.region) all) = rest sounds.2 in
        let apart : (other.index == join.index) ≡ false = not_at other.index other.actual join.index join (filter (λ (o : Join). o.region == join.region) all) sounds.0 seat.there in
        record { there = rw apart seat.there; size = ap (λ (n : ℕ). Some n) (same_actual join other (filter (λ (o : Join). o.region == join.region) all) sounds.0 seat) }
    by-region false sounds rest = rest sounds

    by-test : (b : Bool) → cond b (Some other) (join_in task all) ≡ Some join → (join_in task all ≡ Some join → SoundTeam (filter (λ (o : Join). o.region == join.region) all) → AtSeat join (filter (λ (o : Join). o.region == join.region) all))
        → AtSeat join (filter (λ (o : Join). o.region == join.region) (other ∷ all))
    by-test true is rest = let e : join ≡ other = cc in subst (λ (first : Join). AtSeat join (filter (λ (o : Join). o.region == join.region) (first ∷ all))) e (own_seat join all)
    by-test false is rest = by-region (other.region == join.region) sound (rest is)

pub found_is : (task : ℕ) (all : List Join) (join : Join) → join_in task all ≡ Some join → join.task ≡ task
found_is task [] join found = absurd (cc)
found_is task (other ∷ all) join found = by-test (other.task == task) refl (found_is task all join) found
  where
    by-test : (b : Bool) → (other.task == task) ≡ b → (join_in task all ≡ Some join → join.task ≡ task) → cond b (Some other) (join_in task all) ≡ Some join → join.task ≡ task
    by-test true same rest is = let e : other ≡ join = cc in sym (ap (λ (j : Join). j.task) e) ∙ eqb-true other.task task same
    by-test false same rest is = rest is

-- ---- the task that a thread runs

pub running_task : (all : List Join) (brackets : List Bracket) (current : Current) → running all brackets ≡ Some current → (current_in brackets ≡ Some current.task) × (current.seat ≡ seat_of (join_in current.task all))
running_task all brackets current is = by-task (current_in brackets) refl is
  where
    by-task : (task : Option ℕ) → current_in brackets ≡ task → current_with all task ≡ Some current → (current_in brackets ≡ Some current.task) × (current.seat ≡ seat_of (join_in current.task all))
    by-task None here is = absurd (cc)
    by-task (Some task) here is =
        let made : Current = record { task = task; seat = seat_in task all } in
        let e : made ≡ current = cc in
        (here ∙ ap (λ (c : Current). Some c.task) e, sym (ap (λ (c : Current). c.seat) e) ∙ (seat_is task all ∙ ap (λ (c : Current). seat_of (join_in c.task all)) e))

-- whether it may pass a barrier, by its join
abbrev waits_at : List EventRecord → ℕ → Join → Bool
waits_at past task join = is_open_region join.region past && have_waited past join.region join.actual (waits_of task past)

may_pass_is : (past : List EventRecord) (task : ℕ) → Unbroken past → (task == 1) ≡ false → may_pass past task ≡ by_join (waits_at past task) (join_in task (joins past))
may_pass_is past task unbroken other = rw other (any_of (waits_at past task) task (joins past) (distinct past unbroken))

pub passes_unseated : (past : List EventRecord) (task : ℕ) → Unbroken past → (task == 1) ≡ false → seat_of (join_in task (joins past)) ≡ None → false ≡ may_pass past task
passes_unseated past task unbroken other none = sym (may_pass_is past task unbroken other ∙ by-join (join_in task (joins past)) none)
  where
    by-join : (join : Option Join) → seat_of join ≡ None → by_join (waits_at past task) join ≡ false
    by-join None none = refl
    by-join (Some join) none = absurd (cc)

abbrev waits_in : Option Member → ℕ
waits_in None = 0
waits_in (Some member) = member.waits

-- a join whose place is kept
pub record Passes (past : List EventRecord) (seat : Seat) (task waits : ℕ) : Type 0 where
  pub actual : ℕ
  pub is_open : is_open_region seat.region past ≡ true
  pub size : team_size (joins_of seat.region past) ≡ Some actual
  pub is : have_waited past seat.region actual waits ≡ may_pass past task

pub passes_seated : (past : List EventRecord) (task : ℕ) (seat : Seat) (member : Member) → Unbroken past → (task == 1) ≡ false → seat_of (join_in task (joins past)) ≡ Some seat
    → member_known seat.region seat.index past ≡ Some member → Passes past seat task member.waits
passes_seated past task seat member unbroken other is kept = by-join (join_in task (joins past)) refl is
  where
    of-member : (join : Join) → member_of past (Some join) ≡ Some member → waits_of join.task past ≡ member.waits
    of-member join e = ap waits_in e

    by-open : (join : Join) (b : Bool) → is_open_region join.region past ≡ b → join_in task (joins past) ≡ Some join → cond b (member_of past (join_at join.index (joins_of join.region past))) None ≡ Some member
        → Passes past (record { region = join.region; index = join.index }) task member.waits
    by-open join false is-open found kept = absurd (cc)
    by-open join true is-open found kept =
        let at : AtSeat join (joins_of join.region past) = at_seat task (joins past) join found (sound_team join.region past unbroken) in
        let same : waits_of join.task past ≡ member.waits = of-member join (subst (λ (o : Option Join). member_of past o ≡ Some member) at.there kept) in
        let own : join.task ≡ task = found_is task (joins past) join found in
        let waits : waits_of task past ≡ member.waits = subst (λ (n : ℕ). waits_of n past ≡ member.waits) own same in
        record {
          actual = join.actual;
          is_open = is-open;
          size = at.size;
          is = subst (λ (w : ℕ). have_waited past join.region join.actual w ≡ may_pass past task) waits
              (sym (may_pass_is past task unbroken other ∙ rw (found, is-open) refl));
        }

    by-join : (join : Option Join) → join_in task (joins past) ≡ join → seat_of join ≡ Some seat → Passes past seat task member.waits
    by-join None here is = absurd (cc)
    by-join (Some join) here is =
        let made : Seat = record { region = join.region; index = join.index } in
        let e : made ≡ seat = cc in
        subst (λ (s : Seat). Passes past s task member.waits) e (by-open join (is_open_region join.region past) refl here (subst (λ (s : Seat). member_known s.region s.index past ≡ Some member) (sym e) kept))

-- and one whose place isn't
pub passes_gone : (past : List EventRecord) (task : ℕ) (seat : Seat) → Unbroken past → (task == 1) ≡ false → seat_of (join_in task (joins past)) ≡ Some seat
    → member_known seat.region seat.index past ≡ None → false ≡ may_pass past task
passes_gone past task seat unbroken other is gone = sym (may_pass_is past task unbroken other ∙ by-join (join_in task (joins past)) refl is)
  where
    by-open : (join : Join) (b : Bool) → join_in task (joins past) ≡ Some join → cond b (member_of past (join_at join.index (joins_of join.region past))) None ≡ None
        → (b && have_waited past join.region join.actual (waits_of task past)) ≡ false
    by-open join false found gone = refl
    by-open join true found gone =
        let at : AtSeat join (joins_of join.region past) = at_seat task (joins past) join found (sound_team join.region past unbroken) in
        let none : member_of past (Some join) ≡ None = subst (λ (o : Option Join). member_of past o ≡ None) at.there gone in
        absurd (cc)

    by-join : (join : Option Join) → join_in task (joins past) ≡ join → seat_of join ≡ Some seat → by_join (waits_at past task) join ≡ false
    by-join None here is = refl
    by-join (Some join) here is =
        let made : Seat = record { region = join.region; index = join.index } in
        let e : made ≡ seat = cc in
        by-open join (is_open_region join.region past) here (subst (λ (s : Seat). member_known s.region s.index past ≡ None) (sym e) gone)
