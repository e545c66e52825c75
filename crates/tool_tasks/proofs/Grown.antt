-- The nodes with one task more, and with one event more at a task.
use Rattle.std.proofs.Common.{◌≡◌, ◌≢◌, ℕ, zero, suc, add-zero, ◌+◌, ◌==◌, ◌⊎◌, Bool, true, false, List, [], ◌∷◌, ◌++◌, length, Option, Some, None, refl, sym, ◌∙◌, ap, subst, inl, inr, arith}
use Rattle.std.specs.Option.{unwrap_or}
use Rattle.std.specs.Prelude.{slice_get}
use Rattle.std.proofs.lemmas.Bool.Decides.{eqb_tells, nat_tests}
use Rattle.std.proofs.lemmas.List.{length_push}
use Rattle.ompt_calls.specs.declared.event.EventRecord.{EventRecord}
use Rattle.trace_check.specs.Before.{greatest_task, task_made}
use Rattle.trace_check.specs.Checking.{Unbroken}
use Rattle.trace_check.specs.Rules.{first_broken}
use Rattle.tool_tasks.specs.declared.forest.TaskNode.{TaskNode}
use Rattle.tool_tasks.specs.declared.making.Making.{Making}
use Rattle.tool_tasks.specs.declared.making.Making.TheVariants.{Implicit, Explicit}
use Rattle.tool_tasks.specs.Charge.{charged_task, charges_of, one_if}
use Rattle.tool_tasks.specs.Holding.{CountsOne, HoldsNodes, one_more, unlinked}
use Rattle.tool_tasks.specs.Tree.{Origin, encountering_task, making_by, or_zero, origin_of}
use Rattle.tool_tasks.proofs.Charged.{no_charges}
use Rattle.tool_tasks.proofs.Frames.{get-last, get-other}
use Rattle.tool_tasks.proofs.Makes.{IsNext, made_is, next_of, task_of}

-- a new task, as its node
abbrev pub fresh_node : ℕ → ℕ → ℕ → TaskNode
fresh_node task parent flags = record { identity = task; flags = flags; events = 0; parent = parent; first_child = 0; next_sibling = 0 }

-- what a task's making says of the others
record Makes (event : EventRecord) (past : List EventRecord) (task parent flags : ℕ) : Type 0 where
  next : task ≡ greatest_task past + 1
  greatest : greatest_task (event ∷ past) ≡ greatest_task past + 1
  here : (k : ℕ) → (task == k) ≡ true → origin_of k (event ∷ past) ≡ Some (record { parent = parent; flags = flags })
  others : (k : ℕ) → (task == k) ≡ false → origin_of k (event ∷ past) ≡ origin_of k past

grown : (nodes : List TaskNode) (event : EventRecord) (past : List EventRecord) (task parent flags : ℕ)
    → Makes event past task parent flags → Unbroken past → HoldsNodes nodes past past → HoldsNodes (nodes ++ fresh_node task parent flags ∷ []) (event ∷ past) past
grown nodes event past task parent flags makes unbroken holds = record {
  count = length_push nodes (fresh_node task parent flags) ∙ (let e : length nodes ≡ greatest_task past = holds.count in rw (e, makes.greatest) refl);
  each = λ place. by-test place (eqb_tells task (place + 1));
}
  where
    by-test : (place : ℕ) → (((task == place + 1) ≡ true) × (task ≡ place + 1)) ⊎ (((task == place + 1) ≡ false) × (task ≢ place + 1))
        → slice_get (nodes ++ fresh_node task parent flags ∷ []) place ≡ unlinked (place + 1) (charges_of (place + 1) past) (origin_of (place + 1) (event ∷ past))
    by-test place (inl same) =
        let at : place ≡ length nodes = (let e : length nodes ≡ greatest_task past = holds.count in let f : task ≡ greatest_task past + 1 = makes.next in let g : task ≡ place + 1 = same.1 in omega arith) in
        let none : charges_of (place + 1) past ≡ 0 = (let f : task ≡ greatest_task past + 1 = makes.next in let g : task ≡ place + 1 = same.1 in no_charges (place + 1) past unbroken (omega arith)) in
        rw (makes.here (place + 1) same.0, none, at, get-last nodes (fresh_node task parent flags)) (ap (λ (n : ℕ). Some (fresh_node n parent flags)) (same.1 ∙ ap (λ (n : ℕ). n + 1) at))
    by-test place (inr apart) =
        let beside : place ≢ length nodes = (λ at. (let e : length nodes ≡ greatest_task past = holds.count in let f : task ≡ greatest_task past + 1 = makes.next in apart.1 (omega arith))) in
        rw (makes.others (place + 1) apart.0, get-other nodes (fresh_node task parent flags) place beside) (holds.each place)

pub with_implicit : (nodes : List TaskNode) (event : EventRecord) (past : List EventRecord) (task region flags parent : ℕ)
    → making_by event.call ≡ Implicit task region flags → parent ≡ or_zero (encountering_task region past) → Unbroken past → first_broken past event ≡ None
    → HoldsNodes nodes past past → HoldsNodes (nodes ++ fresh_node task parent flags ∷ []) (event ∷ past) past
with_implicit nodes event past task region flags parent makes encountering unbroken keeps holds =
    grown nodes event past task parent flags made unbroken holds
  where
    next : task ≡ greatest_task past + 1
    next = subst (λ (making : Making). IsNext (greatest_task past) making) makes (next_of past event keeps)

    made : Makes event past task parent flags
    made = record {
      next = next;
      greatest = (let same : task_made event.call ≡ task = made_is event.call ∙ ap task_of makes in let g : task ≡ greatest_task past + 1 = next in omega arith);
      here = λ k same. rw (makes, same, encountering) refl;
      others = λ k apart. rw (makes, apart) refl;
    }

pub with_explicit : (nodes : List TaskNode) (event : EventRecord) (past : List EventRecord) (task creator flags : ℕ)
    → making_by event.call ≡ Explicit task creator flags → Unbroken past → first_broken past event ≡ None
    → HoldsNodes nodes past past → HoldsNodes (nodes ++ fresh_node task creator flags ∷ []) (event ∷ past) past
with_explicit nodes event past task creator flags makes unbroken keeps holds =
    grown nodes event past task creator flags made unbroken holds
  where
    next : task ≡ greatest_task past + 1
    next = subst (λ (making : Making). IsNext (greatest_task past) making) makes (next_of past event keeps)

    made : Makes event past task creator flags
    made = record {
      next = next;
      greatest = (let same : task_made event.call ≡ task = made_is event.call ∙ ap task_of makes in let g : task ≡ greatest_task past + 1 = next in omega arith);
      here = λ k same. rw (makes, same) refl;
      others = λ k apart. rw (makes, apart) refl;
    }

pub or_zero_is : (found : Option ℕ) → unwrap_or found 0 ≡ or_zero found
or_zero_is None = refl
or_zero_is (Some n) = refl

-- the first node is that of the initial task
pub initial : (nodes : List TaskNode) → nodes ≡ fresh_node 1 0 1 ∷ [] → HoldsNodes nodes [] []
initial nodes is = subst (λ (all : List TaskNode). HoldsNodes all [] []) (sym is) (record { count = refl; each = each })
  where
    each : (place : ℕ) → slice_get (fresh_node 1 0 1 ∷ []) place ≡ unlinked (place + 1) (charges_of (place + 1) []) (origin_of (place + 1) [])
    each zero = refl
    each (suc place) = rw (differs place) refl
      where
        differs : (n : ℕ) → (suc n + 1 == 1) ≡ false
        differs n = grind (arith, nat_tests)

-- an event is charged to a task
pub counted : (old new : List TaskNode) (past : List EventRecord) (event : EventRecord) (task : ℕ)
    → charged_task past event ≡ Some task → CountsOne old new task → length new ≡ length old → HoldsNodes old (event ∷ past) past
    → HoldsNodes new (event ∷ past) (event ∷ past)
counted old new past event task charged counts same holds = record {
  count = same ∙ holds.count;
  each = λ place. counts place ∙ (ap (one_more (place + 1 == task)) (holds.each place) ∙ by-origin place (origin_of (place + 1) (event ∷ past)));
}
  where
    flip : (n m : ℕ) → (n == m) ≡ (m == n)
    flip n m = grind (arith, nat_tests)

    by-test : (place : ℕ) (origin : Origin) (b : Bool) → (task == place + 1) ≡ b
        → one_more b (unlinked (place + 1) (charges_of (place + 1) past) (Some origin)) ≡ unlinked (place + 1) (charges_of (place + 1) past + one_if b) (Some origin)
    by-test place origin true is = refl
    by-test place origin false is = rw (add-zero (charges_of (place + 1) past)) refl

    by-origin : (place : ℕ) (origin : Option Origin)
        → one_more (place + 1 == task) (unlinked (place + 1) (charges_of (place + 1) past) origin) ≡ unlinked (place + 1) (charges_of (place + 1) (event ∷ past)) origin
    by-origin place None = none (place + 1 == task)
      where
        none : (b : Bool) → one_more b None ≡ None
        none true = refl
        none false = refl
    by-origin place (Some origin) = rw (charged, flip (place + 1) task) (by-test place origin (task == place + 1) refl)

-- an event is charged to none
pub uncounted : (nodes : List TaskNode) (past : List EventRecord) (event : EventRecord) → charged_task past event ≡ None
    → HoldsNodes nodes (event ∷ past) past → HoldsNodes nodes (event ∷ past) (event ∷ past)
uncounted nodes past event charged holds = record {
  count = holds.count;
  each = λ place. rw (charged, add-zero (charges_of (place + 1) past)) (holds.each place);
}
