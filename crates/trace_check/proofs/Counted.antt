-- What is kept of the current task counts the tasks that it created and that aren't complete.
use Rattle.std.proofs.Common.{◌≡◌, ℕ, ◌+◌, ◌≤◌, ◌==◌, ◌&&◌, ◌||◌, ◌⊎◌, Bool, true, false, cond, not, List, [], ◌∷◌, count_by, Option, Some, None, refl, sym, ◌∙◌, ap, subst, inl, inr, arith, zero-add}
use Rattle.std.specs.Prelude.{is_some}
use Rattle.std.specs.List.{list_all}
use Rattle.std.proofs.lemmas.Bool.Decides.{nat_tests}
use Rattle.std.proofs.lemmas.List.Sums.{sum_by-cons}
use Rattle.ompt_calls.specs.declared.event.EventRecord.{EventRecord}
use Rattle.trace_check.specs.declared.things.Created.{Created}
use Rattle.trace_check.specs.declared.things.Member.{Member}
use Rattle.trace_check.specs.declared.things.Seat.{Seat}
use Rattle.trace_check.specs.Brackets.{current_in}
use Rattle.trace_check.specs.Before.{Creation, Join, creations, has_left, is_complete, is_created, is_open_region, joins, joins_of, opened}
use Rattle.trace_check.specs.Rules.{has_no_child}
use Rattle.trace_check.specs.Checking.{Unbroken, children_of, created_known, created_of, creation_in, join_at, member_known, member_of}
use Rattle.trace_check.proofs.Once.{marks}
use Rattle.trace_check.proofs.Names.{complete_is, of_explicit, of_implicit, once_explicit, started_is}
use Rattle.trace_check.proofs.Joined.{AtSeat, at_seat, found_is, join_in, seat_of}
use Rattle.trace_check.proofs.Implicit.{joined_is, left_is, once_implicit}
use Rattle.trace_check.proofs.Starts.{found_task, missing_any}
use Rattle.trace_check.proofs.TeamTests.{sound_team}
use Rattle.trace_check.proofs.Children.{all_stand, created_joined, marked_task, one_stands, started_created, there}
use Rattle.trace_check.proofs.Tests.{apart}

-- ---- no child is left exactly where none is counted

abbrev is_left : List EventRecord → ℕ → Creation → Bool
is_left past k creation = (creation.creator == k) && not (is_complete creation.task past)

none_left : (past : List EventRecord) (k : ℕ) (all : List Creation) → (count_by (is_left past k) all == 0) ≡ list_all (λ (creation : Creation). not (creation.creator == k) || is_complete creation.task past) all
none_left past k [] = refl
none_left past k (creation ∷ all) =
    subst (λ (n : ℕ). (n == 0) ≡ ((not (creation.creator == k) || is_complete creation.task past) && list_all (λ (other : Creation). not (other.creator == k) || is_complete other.task past) all))
    (sym (sum_by-cons (λ (x : Creation). cond (is_left past k x) 1 0) creation all))
    (by-tests (creation.creator == k) (is_complete creation.task past) (count_by (is_left past k) all) _ (none_left past k all))
  where
    by-tests : (a d : Bool) (n : ℕ) (rest : Bool) → (n == 0) ≡ rest → (cond (a && not d) 1 0 + n == 0) ≡ ((not a || d) && rest)
    by-tests true false n rest is = one_more n
      where
        one_more : (m : ℕ) → (1 + m == 0) ≡ false
        one_more m = grind (arith, nat_tests)
    by-tests true true n rest is = rw zero-add is
    by-tests false d n rest is = rw zero-add is

pub no_child_is : (past : List EventRecord) (k count : ℕ) → count ≡ children_of k past → (count == 0) ≡ has_no_child past k
no_child_is past k count is = rw is (none_left past k (creations past))

-- ---- the current task

pub one_other : (k : ℕ) → (k ≡ 1 → ⊥) → (1 == k) ≡ false
one_other k other = grind (arith, nat_tests)

-- one that has no place is created, and not complete
pub unseated_stands : (k t : ℕ) (past : List EventRecord) → Unbroken past → (1 == k) ≡ false → current_in (opened t past) ≡ Some k → join_in k (joins past) ≡ None → created_known k past ≡ None → ⊥
unseated_stands k t past unbroken other runs unseated unknown = by-mark (marked_task k (opened t past) runs)
  where
    by-known : (c : Bool) (made : Option Creation) → c ≡ false → cond c None (created_of past made) ≡ None → made ≡ None
    by-known true made is none = absurd (cc)
    by-known false None is none = refl
    by-known false (Some creation) is none = absurd (cc)

    by-mark : (1 ≤ marks (of_implicit k) (opened t past)) ⊎ (1 ≤ marks (of_explicit k) (opened t past)) → ⊥
    by-mark (inl one) =
        let e : is_some (join_in k (joins past)) ≡ true = sym (joined_is k past other unbroken) ∙ (there (of_implicit k) past t (once_implicit k past other unbroken) one).0 in
        let f : is_some (join_in k (joins past)) ≡ false = ap is_some unseated in
        apart (is_some (join_in k (joins past))) e f
    by-mark (inr one) =
        let stands = there (of_explicit k) past t (once_explicit k past unbroken) one in
        let made : is_created k past ≡ true = started_created k past unbroken (sym (started_is k past) ∙ stands.0) in
        let whole : is_complete k past ≡ false = sym (complete_is k past) ∙ stands.1 in
        apart (is_created k past) made (missing_any k (creations past) (by-known (is_complete k past) (creation_in k (creations past)) whole unknown))

-- one that has a place is in an open region
seated_stands : (k t : ℕ) (past : List EventRecord) (join : Join) → Unbroken past → (1 == k) ≡ false → current_in (opened t past) ≡ Some k → join_in k (joins past) ≡ Some join → is_open_region join.region past ≡ true
seated_stands k t past join unbroken other runs found = by-mark (marked_task k (opened t past) runs)
  where
    by-mark : (1 ≤ marks (of_implicit k) (opened t past)) ⊎ (1 ≤ marks (of_explicit k) (opened t past)) → is_open_region join.region past ≡ true
    by-mark (inl one) =
        let stays : has_left k past ≡ false = sym (left_is k past) ∙ (there (of_implicit k) past t (once_implicit k past other unbroken) one).1 in
        one_stands past k (joins past) join found (all_stand past unbroken) (subst (λ (n : ℕ). has_left n past ≡ false) (sym (found_is k (joins past) join found)) stays)
    by-mark (inr one) =
        let made : is_created k past ≡ true = started_created k past unbroken (sym (started_is k past) ∙ (there (of_explicit k) past t (once_explicit k past unbroken) one).0) in
        let none : join_in k (joins past) ≡ None = created_joined k past unbroken made in
        let no-such : None ≡ Some join = sym none ∙ found in
        absurd (cc)

-- ---- what is kept of it

abbrev children_in : Option Member → ℕ
children_in None = 0
children_in (Some member) = member.children

abbrev children_made : Option Created → ℕ
children_made None = 0
children_made (Some created) = created.children

seat_join : (k : ℕ) (past : List EventRecord) (seat : Seat) → seat_of (join_in k (joins past)) ≡ Some seat → (join : Join) × (join_in k (joins past) ≡ Some join) × (seat ≡ record { region = join.region; index = join.index })
seat_join k past seat is = by-join (join_in k (joins past)) refl is
  where
    by-join : (found : Option Join) → join_in k (joins past) ≡ found → seat_of found ≡ Some seat → (join : Join) × (join_in k (joins past) ≡ Some join) × (seat ≡ record { region = join.region; index = join.index })
    by-join None here is = absurd (cc)
    by-join (Some join) here is =
        let made : Seat = record { region = join.region; index = join.index } in
        let e : seat ≡ made = cc in
        (join, here, e)

pub member_count : (k : ℕ) (past : List EventRecord) (seat : Seat) (member : Member) → Unbroken past → seat_of (join_in k (joins past)) ≡ Some seat → member_known seat.region seat.index past ≡ Some member → member.children ≡ children_of k past
member_count k past seat member unbroken is kept =
    let found = seat_join k past seat is in
    by-open found.0 (is_open_region found.0.region past) found.1 (subst (λ (s : Seat). member_known s.region s.index past ≡ Some member) found.2 kept)
  where
    by-open : (join : Join) (b : Bool) → join_in k (joins past) ≡ Some join → cond b (member_of past (join_at join.index (joins_of join.region past))) None ≡ Some member → member.children ≡ children_of k past
    by-open join false found kept = absurd (cc)
    by-open join true found kept =
        let at : AtSeat join (joins_of join.region past) = at_seat k (joins past) join found (sound_team join.region past unbroken) in
        let same : member_of past (Some join) ≡ Some member = subst (λ (o : Option Join). member_of past o ≡ Some member) at.there kept in
        sym (ap children_in same) ∙ ap (λ (n : ℕ). children_of n past) (found_is k (joins past) join found)

pub member_there : (k t : ℕ) (past : List EventRecord) (seat : Seat) → Unbroken past → (1 == k) ≡ false → current_in (opened t past) ≡ Some k → seat_of (join_in k (joins past)) ≡ Some seat → member_known seat.region seat.index past ≡ None → ⊥
member_there k t past seat unbroken other runs is gone =
    let found = seat_join k past seat is in
    by-open found.0 (is_open_region found.0.region past) (seated_stands k t past found.0 unbroken other runs found.1) found.1 (subst (λ (s : Seat). member_known s.region s.index past ≡ None) found.2 gone)
  where
    by-open : (join : Join) (b : Bool) → b ≡ true → join_in k (joins past) ≡ Some join → cond b (member_of past (join_at join.index (joins_of join.region past))) None ≡ None → ⊥
    by-open join false is-open found gone = absurd (cc)
    by-open join true is-open found gone =
        let at : AtSeat join (joins_of join.region past) = at_seat k (joins past) join found (sound_team join.region past unbroken) in
        let none : member_of past (Some join) ≡ None = subst (λ (o : Option Join). member_of past o ≡ None) at.there gone in
        absurd (cc)

pub created_count : (k : ℕ) (past : List EventRecord) (created : Created) → created_known k past ≡ Some created → created.children ≡ children_of k past
created_count k past created is = by-complete (is_complete k past) (creation_in k (creations past)) refl is
  where
    by-complete : (b : Bool) (made : Option Creation) → creation_in k (creations past) ≡ made → cond b None (created_of past made) ≡ Some created → created.children ≡ children_of k past
    by-complete true made here found = absurd (cc)
    by-complete false None here found = absurd (cc)
    by-complete false (Some creation) here found =
        sym (ap children_made found) ∙ ap (λ (n : ℕ). children_of n past) (found_task k (creations past) creation here)

pub no_seat : (found : Option Join) → seat_of found ≡ None → found ≡ None
no_seat None none = refl
no_seat (Some join) none = absurd (cc)
