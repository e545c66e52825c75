-- What is known after a thread went to a created task.
use Rattle.std.proofs.Common.{◌≡◌, ℕ, ◌==◌, ◌||◌, Bool, true, false, cond, List, ◌∷◌, Option, Some, None, refl, sym, ◌∙◌, ap}
use Rattle.std.specs.Ordering.{nat_cmp}
use Rattle.std.specs.Cmp.{unsigned_tied}
use Rattle.std.specs.BTreeMap.{BTreeMap, Updates, get}
use Rattle.std.proofs.lemmas.Bool.{eqb-true}
use Rattle.ompt_calls.specs.declared.event.EventRecord.{EventRecord}
use Rattle.trace_check.specs.declared.kept.Kept.{Kept}
use Rattle.trace_check.specs.declared.things.Created.{Created}
use Rattle.trace_check.specs.Before.{Creation, creations, has_started, is_complete, joins, task_started}
use Rattle.trace_check.specs.Checking.{Learns, children_of, created_known, created_of, creation_in, seat_in}
use Rattle.trace_check.proofs.Starts.{found_task}
use Rattle.trace_check.proofs.TaskEvents.{OfStart, of_start}
use Rattle.trace_check.proofs.Untouched.{children_same, held_same, members_same, region_same, regions_same, task_same}

-- the value at a key after one was put there, or taken away
pub get_updated : {X : Type 0} (old new : BTreeMap ℕ X) (key : ℕ) (value : Option X) → Updates nat_cmp old new key value → (k : ℕ) → get nat_cmp new k ≡ cond (key == k) value (get nat_cmp old k)
get_updated old new key value updates k = updates.0 k ∙ ap (λ (b : Bool). cond b value (get nat_cmp old k)) (unsigned_tied key k)

-- what is kept of a task that a thread goes to
abbrev with_start : Option Created → Option Created
with_start None = None
with_start (Some created) = Some (record { creator = created.creator; started = true; children = created.children })

started_known : (task k : ℕ) (past : List EventRecord) (event : EventRecord) → task_started event.call ≡ Some task
    → cond (task == k) (with_start (created_known k past)) (created_known k past) ≡ created_known k (event ∷ past)
started_known task k past event is =
    let start : OfStart event.call = of_start event.call task is in
    rw (start.created, start.completed) (by-complete (is_complete k past) (creation_in k (creations past)) refl)
  where
    none : (b : Bool) → cond {A = Option Created} b None None ≡ None
    none true = refl
    none false = refl

    by-complete : (b : Bool) (found : Option Creation) → creation_in k (creations past) ≡ found
        → cond (task == k) (with_start (cond b None (created_of past found))) (cond b None (created_of past found)) ≡ cond b None (created_of (event ∷ past) found)
    by-complete true found here = none (task == k)
    by-complete false None here = none (task == k)
    by-complete false (Some creation) here =
        let start : OfStart event.call = of_start event.call task is in
        let same : creation.task ≡ k = found_task k (creations past) creation here in
        let flag : (task == k) ≡ (task == creation.task) = ap (λ (n : ℕ). task == n) (sym same) in
        rw (flag, start.of_task.joined, start.created, start.completed, is) (by-test (task == creation.task))
      where
        by-test : (b : Bool) → cond b (with_start (created_of past (Some creation))) (created_of past (Some creation))
            ≡ Some (record { creator = record { task = creation.creator; seat = seat_in creation.creator (joins past) }; started = b || has_started creation.task past; children = children_of creation.task past })
        by-test true = refl
        by-test false = refl

pub started_things : (kept : Kept) (created : BTreeMap ℕ Created) (task : ℕ) (found : Created) → get nat_cmp kept.created task ≡ Some found
    → Updates nat_cmp kept.created created task (Some (record { creator = found.creator; started = true; children = found.children }))
    → (event : EventRecord) → task_started event.call ≡ Some task → Learns kept (record kept { created = created }) event
started_things kept created task found here updates event is past known unbroken keeps =
    let start : OfStart event.call = of_start event.call task is in
    record {
      regions = regions_same kept.regions past event start.of_task.begun start.of_task.ended start.of_task.joined known.regions;
      members = members_same kept.members past event start.of_task.begun start.of_task.ended start.of_task.joined start.of_task.gone start.of_task.waits start.created start.completed known.members;
      created = λ k. get_updated kept.created created task (Some (record { creator = found.creator; started = true; children = found.children })) updates k
          ∙ (at k (task == k) refl ∙ started_known task k past event is);
      held = held_same kept.held past event start.of_task.held known.held;
      greatest_region = region_same kept.greatest_region past event start.of_task.region known.greatest_region;
      greatest_task = task_same kept.greatest_task past event start.made known.greatest_task;
      children = children_same kept.children past event start.created start.completed known.children;
    }
  where
    at : (k : ℕ) (b : Bool) → (task == k) ≡ b → cond b (Some (record { creator = found.creator; started = true; children = found.children })) (get nat_cmp kept.created k)
        ≡ cond b (with_start (created_known k past)) (created_known k past)
    at k true same =
        let e : Some found ≡ created_known k past = sym here ∙ (known.created task ∙ ap (λ (n : ℕ). created_known n past) (eqb-true task k same)) in
        ap with_start e
    at k false same = known.created k

-- a task that isn't kept isn't kept after it
pub unstarted_things : (kept : Kept) (task : ℕ) → get nat_cmp kept.created task ≡ None → (event : EventRecord) → task_started event.call ≡ Some task → Learns kept kept event
unstarted_things kept task here event is past known unbroken keeps =
    let start : OfStart event.call = of_start event.call task is in
    record {
      regions = regions_same kept.regions past event start.of_task.begun start.of_task.ended start.of_task.joined known.regions;
      members = members_same kept.members past event start.of_task.begun start.of_task.ended start.of_task.joined start.of_task.gone start.of_task.waits start.created start.completed known.members;
      created = λ k. at k (task == k) refl ∙ started_known task k past event is;
      held = held_same kept.held past event start.of_task.held known.held;
      greatest_region = region_same kept.greatest_region past event start.of_task.region known.greatest_region;
      greatest_task = task_same kept.greatest_task past event start.made known.greatest_task;
      children = children_same kept.children past event start.created start.completed known.children;
    }
  where
    at : (k : ℕ) (b : Bool) → (task == k) ≡ b → get nat_cmp kept.created k ≡ cond b (with_start (created_known k past)) (created_known k past)
    at k true same =
        let e : None ≡ created_known k past = sym here ∙ (known.created task ∙ ap (λ (n : ℕ). created_known n past) (eqb-true task k same)) in
        known.created k ∙ (sym e ∙ ap with_start e)
    at k false same = known.created k
