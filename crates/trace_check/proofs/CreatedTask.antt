-- What is known after a task is created: the count of its creator is one more.
use Rattle.std.proofs.Common.{◌≡◌, ℕ, ◌+◌, ◌≤◌, ◌==◌, ◌&&◌, Bool, true, false, cond, not, max, List, ◌∷◌, Option, Some, None, refl, sym, ◌∙◌, ap, subst, arith, zero-add}
use Rattle.std.specs.Option.{SomeIff}
use Rattle.std.specs.Ordering.{nat_cmp}
use Rattle.std.specs.BTreeMap.{BTreeMap, Updates}
use Rattle.std.proofs.lemmas.Bool.{eqb-true, eq-eqb}
use Rattle.std.proofs.lemmas.Bool.Decides.{nat_tests}
use Rattle.ompt_calls.specs.declared.event.EventRecord.{EventRecord}
use Rattle.trace_check.specs.declared.kept.Kept.{Kept}
use Rattle.trace_check.specs.declared.things.Created.{Created}
use Rattle.trace_check.specs.declared.things.Current.{Current}
use Rattle.trace_check.specs.declared.things.Region.{Region}
use Rattle.trace_check.specs.Brackets.{current_in}
use Rattle.trace_check.specs.Before.{Creation, creation_of, creations, current, greatest_task, has_started, is_complete, is_created, joins, opened}
use Rattle.trace_check.specs.Checking.{KnownHeld, KnownRegions, KnownThings, LearnsOf, PutsChildren, Unbroken, children_of, counts_alone, created_known, created_of, created_with, creation_in, current_with, is_unseated, running, seat_in}
use Rattle.trace_check.specs.Rules.{first_broken}
use Rattle.trace_check.proofs.Kept12.{keeps_all}
use Rattle.trace_check.proofs.Children.{started_created}
use Rattle.trace_check.proofs.TaskEvents.{OfCreation, creation_keeps, of_creation}
use Rattle.trace_check.proofs.Creations.{beyond_childless, beyond_incomplete, beyond_uncreated, current_below, is_current, one_more}
use Rattle.trace_check.proofs.ChildrenPut.{OthersStay, created_after, member_after, task_at}
use Rattle.trace_check.proofs.StartedTask.{get_updated}
use Rattle.trace_check.proofs.Untouched.{held_same, region_same, regions_same}
use Rattle.trace_check.proofs.Tests.{apart}

-- a sum that fits
pub sum_is : (P : Type 0) (value x : ℕ) (found : Option ℕ) → SomeIff found P value → found ≡ Some x → x ≡ value
sum_is P value x found fits is = (subst (λ (o : Option ℕ). SomeIff o P value) is fits).1

-- the thread runs the creator
creator_runs : (past : List EventRecord) (event : EventRecord) (creation : Creation) → creation_of event.call ≡ Some creation → first_broken past event ≡ None
    → current_in (opened event.thread past) ≡ Some creation.creator
creator_runs past event creation is keeps =
    is_current creation.creator (current event.thread past) (creation_keeps past event.thread event.call creation is (keeps_all past event keeps).creations).1

-- so it runs a task
pub creator_there : (past : List EventRecord) (event : EventRecord) (creation : Creation) → creation_of event.call ≡ Some creation → first_broken past event ≡ None
    → None ≡ running (joins past) (opened event.thread past) → ⊥
creator_there past event creation is keeps none =
    let runs : running (joins past) (opened event.thread past) ≡ Some (task_at past creation.creator) = ap (current_with (joins past)) (creator_runs past event creation is keeps) in
    cc

-- what is put of the new task
abbrev new_task : Current → Created
new_task current = record { creator = current; started = false; children = 0 }

pub created_things : (kept new : Kept) (created : BTreeMap ℕ Created) (task n before : ℕ) (current : Current) → Updates nat_cmp kept.created created task (Some (new_task current))
    → PutsChildren (record kept { created = created }) new current n
    → ((past : List EventRecord) (t : ℕ) → KnownThings kept past → Unbroken past → running (joins past) (opened t past) ≡ Some current → n ≡ children_of current.task past + 1)
    → (event : EventRecord) → creation_of event.call ≡ Some (record { creator = before; task = task }) → LearnsOf (Some current) kept (record new { greatest_task = task }) event
created_things kept new created task n before runner updates puts count event is past runs known unbroken keeps =
    record {
      regions = subst (λ (regions : BTreeMap ℕ Region). KnownRegions regions (event ∷ past)) (sym put.regions)
          (regions_same kept.regions past event of.of_task.begun of.of_task.ended of.of_task.joined known.regions);
      members = λ r index fits. put.members r index fits ∙ rw (known.members r index fits)
          (member_after before n r index past event unbroken of.of_task others (λ member flag there. value));
      created = λ k. put.created k ∙ rw (get_updated kept.created created task (Some (new_task (task_at past before))) put_one k, known.created k, is, of.completed) (at k (task == k) refl);
      held = subst (λ (held : BTreeMap ℕ ℕ). KnownHeld held (event ∷ past)) (sym put.held) (held_same kept.held past event of.of_task.held known.held);
      greatest_region = put.greatest_region ∙ region_same kept.greatest_region past event of.of_task.region known.greatest_region;
      greatest_task = rw of.made (greatest task (greatest_task past) next);
      children = put.children ∙ initial (before == 1) refl;
    }
  where
    made : Creation
    made = record { creator = before; task = task }

    of : OfCreation event.call made
    of = of_creation event.call made is

    next : task ≡ greatest_task past + 1
    next = (creation_keeps past event.thread event.call made is (keeps_all past event keeps).creations).0

    greatest : (k g : ℕ) → k ≡ g + 1 → k ≡ max k g
    greatest k g above = omega arith

    same_runner : runner ≡ task_at past before
    same_runner =
        let e : running (joins past) (opened event.thread past) ≡ Some (task_at past before) = ap (current_with (joins past)) (creator_runs past event made is keeps) in
        cc

    put : PutsChildren (record kept { created = created }) new (task_at past before) n
    put = subst (λ (current : Current). PutsChildren (record kept { created = created }) new current n) same_runner puts

    put_one : Updates nat_cmp kept.created created task (Some (new_task (task_at past before)))
    put_one = subst (λ (current : Current). Updates nat_cmp kept.created created task (Some (new_task current))) same_runner updates

    uncreated : is_created task past ≡ false
    uncreated = beyond_uncreated task past next

    whole : is_complete task past ≡ false
    whole = beyond_incomplete task past unbroken uncreated

    unstarted : has_started task past ≡ false
    unstarted = by-test (has_started task past) refl
      where
        by-test : (b : Bool) → has_started task past ≡ b → b ≡ false
        by-test true started = absurd (apart (is_created task past) (started_created task past unbroken started) uncreated)
        by-test false started = refl

    more : (k : ℕ) → children_of k (event ∷ past) ≡ cond {A = ℕ} (before == k) 1 0 + children_of k past
    more k = rw (is, of.completed) (one_more k past made whole)

    others : OthersStay before past event
    others k differs = more k ∙ rw differs (zero-add _)

    value : n ≡ children_of before (event ∷ past)
    value =
        let e : n ≡ children_of runner.task past + 1 = count past event.thread known unbroken (sym runs) in
        let f : children_of runner.task past ≡ children_of before past = ap (λ (current : Current). children_of current.task past) same_runner in
        let g : children_of before (event ∷ past) ≡ cond {A = ℕ} (before == before) 1 0 + children_of before past = more before in
        let h : cond {A = ℕ} (before == before) 1 0 ≡ 1 = rw (eq-eqb before before refl) refl in
        omega (arith, e, f, g, h)

    initial : (b : Bool) → (before == 1) ≡ b → cond b n kept.children ≡ children_of 1 (event ∷ past)
    initial true same = value ∙ ap (λ (k : ℕ). children_of k (event ∷ past)) (eqb-true before 1 same)
    initial false differs = known.children ∙ sym (others 1 differs)

    later : (before == task) ≡ false
    later =
        let e : before ≤ greatest_task past = current_below before event.thread past unbroken (creator_runs past event made is keeps) in
        below before task (greatest_task past) e next
      where
        below : (b k g : ℕ) → b ≤ g → k ≡ g + 1 → (b == k) ≡ false
        below b k g less above = grind (arith, nat_tests)

    nowhere : (a b : Bool) → (a && (b && false)) ≡ false
    nowhere true true = refl
    nowhere true false = refl
    nowhere false b = refl

    fresh : created_of (event ∷ past) (Some made) ≡ Some (new_task (task_at past before))
    fresh = rw (of.of_task.joined, of.started, unstarted, more task, later, beyond_childless task past unbroken next) refl

    at_new : (k : ℕ) → task ≡ k
        → cond (counts_alone (task_at past before) k) (created_with n (Some (new_task (task_at past before)))) (Some (new_task (task_at past before)))
        ≡ cond (is_complete k past) None (created_of (event ∷ past) (Some made))
    at_new k same =
        let flag : counts_alone (task_at past before) k ≡ false = ap (λ (i : ℕ). counts_alone (task_at past before) i) (sym same)
        ∙ rw later (nowhere (not (before == 1)) (is_unseated (seat_in before (joins past)))) in
        let incomplete : is_complete k past ≡ false = ap (λ (i : ℕ). is_complete i past) (sym same) ∙ whole in
        rw (flag, incomplete, fresh) refl

    at : (k : ℕ) (b : Bool) → (task == k) ≡ b
        → cond (counts_alone (task_at past before) k) (created_with n (cond b (Some (new_task (task_at past before))) (created_known k past))) (cond b (Some (new_task (task_at past before))) (created_known k past))
        ≡ cond (is_complete k past) None (created_of (event ∷ past) (cond b (Some made) (creation_in k (creations past))))
    at k true same = at_new k (eqb-true task k same)
    at k false differs = created_after before n k past event unbroken of.of_task.joined of.started others (λ creation same incomplete found flag. value)
