-- What is known after a task is complete: the count of its creator is one less.
use Rattle.std.proofs.Common.{◌≡◌, ℕ, ◌+◌, ◌-◌, ◌==◌, ◌||◌, Bool, true, false, cond, List, ◌∷◌, Option, Some, None, refl, sym, ◌∙◌, ap, subst, arith}
use Rattle.std.specs.Ordering.{nat_cmp}
use Rattle.std.specs.BTreeMap.{BTreeMap, Updates, get}
use Rattle.std.proofs.lemmas.Bool.{eqb-true, eq-eqb}
use Rattle.ompt_calls.specs.declared.event.EventRecord.{EventRecord}
use Rattle.trace_check.specs.declared.kept.Kept.{Kept}
use Rattle.trace_check.specs.declared.things.Created.{Created}
use Rattle.trace_check.specs.declared.things.Current.{Current}
use Rattle.trace_check.specs.declared.things.Region.{Region}
use Rattle.trace_check.specs.Before.{Creation, creations, is_complete, is_created, task_completed}
use Rattle.trace_check.specs.Checking.{KnownHeld, KnownRegions, KnownThings, Learns, PutsChildren, Unbroken, children_kept, children_of, counts_alone, created_known, created_of, created_with, creation_in}
use Rattle.trace_check.specs.Rules.{first_broken}
use Rattle.trace_check.proofs.Starts.{missing_any}
use Rattle.trace_check.proofs.TaskEvents.{OfCompletion, completion_keeps, of_completion}
use Rattle.trace_check.proofs.Creations.{one_less, single}
use Rattle.trace_check.proofs.ChildrenPut.{OthersStay, alone_count, created_after, initial_count, member_after, task_at, team_count}
use Rattle.trace_check.proofs.StartedTask.{get_updated}
use Rattle.trace_check.proofs.Untouched.{held_same, region_same, regions_same, task_same}
use Rattle.trace_check.proofs.Tests.{apart}

-- a task that is created and not complete is kept
pub record IsKept (task : ℕ) (past : List EventRecord) (found : Created) : Type 0 where
  pub creation : Creation
  pub here : creation_in task (creations past) ≡ Some creation
  pub creator : found.creator ≡ task_at past creation.creator

abbrev creator_in : Current → Option Created → Current
creator_in default None = default
creator_in default (Some created) = created.creator

is_kept : (task : ℕ) (past : List EventRecord) (found : Created) → created_known task past ≡ Some found → IsKept task past found
is_kept task past found known = by-complete (is_complete task past) (creation_in task (creations past)) refl known
  where
    by-complete : (b : Bool) (made : Option Creation) → creation_in task (creations past) ≡ made → cond b None (created_of past made) ≡ Some found → IsKept task past found
    by-complete true made here is = absurd (cc)
    by-complete false None here is = absurd (cc)
    by-complete false (Some creation) here is = record { creation = creation; here = here; creator = sym (ap (creator_in found.creator) is) }

-- so it is kept before its completion
pub kept_before : (task : ℕ) (past : List EventRecord) (event : EventRecord) → task_completed event.call ≡ Some task → Unbroken past → first_broken past event ≡ None → created_known task past ≡ None → ⊥
kept_before task past event is unbroken keeps unknown =
    by-complete (is_complete task past) (creation_in task (creations past)) refl stands.1 unknown
  where
    stands : (is_created task past ≡ true) × (is_complete task past ≡ false)
    stands = completion_keeps past event task is unbroken keeps

    by-complete : (b : Bool) (made : Option Creation) → creation_in task (creations past) ≡ made → b ≡ false → cond b None (created_of past made) ≡ None → ⊥
    by-complete true made here whole none = cc
    by-complete false None here whole none = apart (is_created task past) stands.0 (missing_any task (creations past) here)
    by-complete false (Some creation) here whole none = cc

-- one task less counts for its creator
counts_less : (task k : ℕ) (past : List EventRecord) (event : EventRecord) (creation : Creation) → task_completed event.call ≡ Some task → Unbroken past → is_complete task past ≡ false
    → creation_in task (creations past) ≡ Some creation → children_of k (event ∷ past) + cond {A = ℕ} (creation.creator == k) 1 0 ≡ children_of k past
counts_less task k past event creation is unbroken whole here =
    rw ((of_completion event.call task is).created, is) (one_less (λ (n : ℕ). is_complete n past) task k (creations past) creation (single past unbroken) here whole)

pub completed_things : (kept new : Kept) (created : BTreeMap ℕ Created) (task n : ℕ) (found : Created) → get nat_cmp kept.created task ≡ Some found → Updates nat_cmp kept.created created task None
    → PutsChildren (record kept { created = created }) new found.creator n → n ≡ children_kept (record kept { created = created }) found.creator - 1
    → (event : EventRecord) → task_completed event.call ≡ Some task → Learns kept new event
completed_things kept new created task n found here updates puts count event is past known unbroken keeps =
    by-kept (is_kept task past found (sym (known.created task) ∙ here))
  where
    of : OfCompletion event.call
    of = of_completion event.call task is

    removed : Kept
    removed = record kept { created = created }

    by-kept : IsKept task past found → KnownThings new (event ∷ past)
    by-kept own =
        record {
          regions = subst (λ (regions : BTreeMap ℕ Region). KnownRegions regions (event ∷ past)) (sym put.regions)
              (regions_same kept.regions past event of.of_task.begun of.of_task.ended of.of_task.joined known.regions);
          members = λ r index fits. put.members r index fits ∙ rw (known.members r index fits)
              (member_after c n r index past event unbroken of.of_task others
              (λ member flag there. value (team_count removed past c r index member unbroken known.members fits flag there)));
          created = λ k. put.created k ∙ rw (get_updated kept.created created task None updates k, known.created k, of.created, is) (at k (task == k) refl);
          held = subst (λ (held : BTreeMap ℕ ℕ). KnownHeld held (event ∷ past)) (sym put.held) (held_same kept.held past event of.of_task.held known.held);
          greatest_region = put.greatest_region ∙ region_same kept.greatest_region past event of.of_task.region known.greatest_region;
          greatest_task = put.greatest_task ∙ task_same kept.greatest_task past event of.made known.greatest_task;
          children = put.children ∙ initial (c == 1) refl;
        }
      where
        c : ℕ
        c = own.creation.creator

        put : PutsChildren removed new (task_at past c) n
        put = subst (λ (current : Current). PutsChildren removed new current n) own.creator puts

        less : (k : ℕ) → children_of k (event ∷ past) + cond {A = ℕ} (c == k) 1 0 ≡ children_of k past
        less k = counts_less task k past event own.creation is unbroken (completion_keeps past event task is unbroken keeps).1 own.here

        others : OthersStay c past event
        others k differs =
            let e : children_of k (event ∷ past) + cond {A = ℕ} (c == k) 1 0 ≡ children_of k past = less k in
            let f : cond {A = ℕ} (c == k) 1 0 ≡ 0 = rw differs refl in
            omega (arith, e, f)

        value : children_kept removed (task_at past c) ≡ children_of c past → n ≡ children_of c (event ∷ past)
        value is-kept =
            let e : children_of c (event ∷ past) + cond {A = ℕ} (c == c) 1 0 ≡ children_of c past = less c in
            let f : cond {A = ℕ} (c == c) 1 0 ≡ 1 = rw (eq-eqb c c refl) refl in
            let g : n ≡ children_kept removed (task_at past c) - 1 = count ∙ ap (λ (current : Current). children_kept removed current - 1) own.creator in
            let h : n ≡ children_of c past - 1 = g ∙ ap (λ (m : ℕ). m - 1) is-kept in
            omega (arith, e, f, h)

        initial : (b : Bool) → (c == 1) ≡ b → cond b n kept.children ≡ children_of 1 (event ∷ past)
        initial true same = value (initial_count removed past c same known.children) ∙ ap (λ (k : ℕ). children_of k (event ∷ past)) (eqb-true c 1 same)
        initial false differs = known.children ∙ sym (others 1 differs)

        none : (b : Bool) → cond {A = Option Created} b None None ≡ None
        none true = refl
        none false = refl

        alone : (k : ℕ) (creation : Creation) → (task == k) ≡ false → c ≡ k → is_complete k past ≡ false → creation_in k (creations past) ≡ Some creation → counts_alone (task_at past c) k ≡ true
            → n ≡ children_of c (event ∷ past)
        alone k creation differs same whole made flag =
            let known-k : created_known k past ≡ created_of past (Some creation) = rw (whole, made) refl in
            let known-c : created_known c past ≡ created_of past (Some creation) = ap (λ (i : ℕ). created_known i past) same ∙ known-k in
            let other : (task == c) ≡ false = ap (λ (i : ℕ). task == i) same ∙ differs in
            let kept-c : get nat_cmp created c ≡ created_of past (Some creation) = get_updated kept.created created task None updates c ∙ rw other (known.created c ∙ known-c) in
            value (alone_count removed past c _ kept-c known-c (ap (λ (i : ℕ). counts_alone (task_at past c) i) same ∙ flag))

        at : (k : ℕ) (b : Bool) → (task == k) ≡ b
            → cond (counts_alone (task_at past c) k) (created_with n (cond b None (created_known k past))) (cond b None (created_known k past))
            ≡ cond (b || is_complete k past) None (created_of (event ∷ past) (creation_in k (creations past)))
        at k true same = none (counts_alone (task_at past c) k)
        at k false differs = created_after c n k past event unbroken of.of_task.joined of.started others (λ creation same whole made flag. alone k creation differs same whole made flag)
