-- What an event gives and takes, as the code has it.
use Rattle.std.proofs.Common.{◌≡◌, ℕ, zero, suc, ◌+◌, ◌-◌, ◌<◌, ◌≤◌, ◌==◌, ◌&&◌, Bool, true, false, cond, max, List, [], ◌∷◌, length, get_or, Option, Some, None, refl, sym, ◌∙◌, ap, subst, inl, inr, arith, ◌||◌}
use Rattle.std.specs.Prelude.{is_some, slice_get}
use Rattle.std.specs.BTreeMap.{BTreeMap, get}
use Rattle.std.specs.Ordering.{nat_cmp}
use Rattle.std.proofs.lemmas.Bool.{eqb-true, eq-eqb}
use Rattle.std.proofs.lemmas.Bool.Decides.{leb_tells}
use Rattle.std.proofs.lemmas.Option.{slice_get-get_or}
use Rattle.omp_codes.specs.declared.task_flags.TheConstants.{EXPLICIT_UNDEFERRED}
use Rattle.ompt_calls.specs.declared.event.EventRecord.{EventRecord}
use Rattle.trace_check.specs.Before.{greatest_task, is_just}
use Rattle.trace_check.specs.Checking.{Unbroken}
use Rattle.tool_tasks.specs.declared.forest.TaskNode.{TaskNode}
use Rattle.tool_tasks.specs.declared.key.Key.{Key}
use Rattle.tool_tasks.specs.declared.key.Key.TheVariants.{Child, Next}
use Rattle.tool_tasks.specs.declared.reaches.Reach.{Reach}
use Rattle.tool_tasks.specs.declared.reaches.Reaches.{Reaches}
use Rattle.tool_tasks.specs.Charge.{charged_task, charges_of, one_if}
use Rattle.tool_tasks.specs.Holding.{AreAllShort, AreShort, GivesAll, GivesKey, HoldsBests, HoldsNodes, HoldsReaches, IsShortKey, is_given, is_number, length_at, length_for, node_at, number_of, unlinked}
use Rattle.tool_tasks.specs.Keys.{given_by, gives, has_key, key_of, next_given, next_taken, parent_next, taken_by, takes, with_three, with_two}
use Rattle.tool_tasks.specs.Leads.{parent_of}
use Rattle.tool_tasks.specs.Reaching.{best, is_charged, most, reach, span_of}
use Rattle.tool_tasks.specs.Tree.{Origin, origin_of}
use Rattle.tool_tasks.proofs.Charged.{no_charges, no_zero_charges}
use Rattle.tool_tasks.proofs.Linking.{zero_node}
use Rattle.tool_tasks.proofs.Makes.{no_zero}
use Rattle.tool_tasks.proofs.Numbers.{is_number_is}
use Rattle.tool_tasks.proofs.Walks.{ends_on_past, walk_on_past}

-- ---- a task's node

pub node_is : (nodes : List TaskNode) (past : List EventRecord) (task : ℕ) → HoldsNodes nodes past past → Unbroken past
    → node_at nodes task ≡ unlinked task (charges_of task past) (origin_of task past)
node_is nodes past zero holds unbroken = rw (no_zero past unbroken) refl
node_is nodes past (suc place) holds unbroken = by-test (suc place == 0) refl
  where
    by-test : (b : Bool) → (suc place == 0) ≡ b → cond b None (slice_get nodes (suc place - 1)) ≡ unlinked (suc place) (charges_of (suc place) past) (origin_of (suc place) past)
    by-test true is = let e : suc place ≡ 0 = eqb-true (suc place) 0 is in absurd (omega arith)
    by-test false is =
        let e : suc place - 1 ≡ place = omega arith in
        let f : place + 1 ≡ suc place = omega arith in
        ap (slice_get nodes) e ∙ (holds.each place ∙ ap (λ (k : ℕ). unlinked k (charges_of k past) (origin_of k past)) f)

-- its events are those that are charged to it
pub events_is : (nodes : List TaskNode) (past : List EventRecord) (task : ℕ) (node : TaskNode) → HoldsNodes nodes past past → Unbroken past
    → Some node ≡ node_at nodes task → node.events ≡ charges_of task past
events_is nodes past task node holds unbroken is = by-origin (origin_of task past) (is ∙ node_is nodes past task holds unbroken)
  where
    by-origin : (origin : Option Origin) → Some node ≡ unlinked task (charges_of task past) origin → node.events ≡ charges_of task past
    by-origin None same = absurd (cc)
    by-origin (Some origin) same =
        let e : node ≡ record { identity = task; flags = origin.flags; events = charges_of task past; parent = origin.parent; first_child = 0; next_sibling = 0 } = cc in
        ap (λ (found : TaskNode). found.events) e

-- nothing is charged to a task that there isn't
pub uncharged : (nodes : List TaskNode) (past : List EventRecord) (task : ℕ) → HoldsNodes nodes past past → Unbroken past
    → None ≡ node_at nodes task → 0 ≡ charges_of task past
uncharged nodes past zero holds unbroken none = sym (no_zero_charges past unbroken)
uncharged nodes past (suc place) holds unbroken none = elim (leb_tells (length nodes) place) as (λ _. 0 ≡ charges_of (suc place) past) [
  | inl beyond ↦ (let count : length nodes ≡ greatest_task past = holds.count in let e : length nodes ≤ place = beyond.1 in sym (no_charges (suc place) past unbroken (omega arith)))
  | inr within ↦ absurd (nowhere within.1 (by-test (suc place == 0) refl none))
]
  where
    by-test : (b : Bool) → (suc place == 0) ≡ b → None ≡ cond b None (slice_get nodes (suc place - 1)) → slice_get nodes place ≡ None
    by-test true is none = let e : suc place ≡ 0 = eqb-true (suc place) 0 is in absurd (omega arith)
    by-test false is none = let e : suc place - 1 ≡ place = omega arith in sym (none ∙ ap (slice_get nodes) e)

    nowhere : place < length nodes → slice_get nodes place ≡ None → ⊥
    nowhere within none = let e : slice_get nodes place ≡ Some (get_or nodes place zero_node) = slice_get-get_or nodes place zero_node within in cc

-- ---- the completion of a task

pub record IsGiven (past : List EventRecord) (event : EventRecord) (node : TaskNode) (origin : Option Origin) : Type 0 where
  pub child : Some (Child node.parent) ≡ key_of Child (parent_of origin)
  pub next : cond (node.flags == EXPLICIT_UNDEFERRED) (Some (Next node.parent (charges_of node.parent (event ∷ past)))) None ≡ parent_next past event origin

pub completed : (past : List EventRecord) (event : EventRecord) (task n : ℕ) (node : TaskNode) → Some node ≡ unlinked task n (origin_of task (event ∷ past))
    → origin_of task (event ∷ past) ≡ origin_of task past → IsGiven past event node (origin_of task past)
completed past event task n node is same = by-origin (origin_of task past) (is ∙ ap (unlinked task n) same)
  where
    by-origin : (origin : Option Origin) → Some node ≡ unlinked task n origin → IsGiven past event node origin
    by-origin None is = absurd (cc)
    by-origin (Some origin) is =
        let e : node ≡ record { identity = task; flags = origin.flags; events = n; parent = origin.parent; first_child = 0; next_sibling = 0 } = cc in
        record {
          child = rw e refl;
          next = subst (λ (one : TaskNode). cond (one.flags == EXPLICIT_UNDEFERRED) (Some (Next one.parent (charges_of one.parent (event ∷ past)))) None ≡ parent_next past event (Some origin)) (sym e) refl;
        }

pub completed_none : (past : List EventRecord) (event : EventRecord) (task n : ℕ) → None ≡ unlinked task n (origin_of task (event ∷ past))
    → origin_of task (event ∷ past) ≡ origin_of task past → origin_of task past ≡ None
completed_none past event task n is same = by-origin (origin_of task past) (is ∙ ap (unlinked task n) same)
  where
    by-origin : (origin : Option Origin) → None ≡ unlinked task n origin → origin ≡ None
    by-origin None is = refl
    by-origin (Some origin) is = absurd (cc)

pub three : (a b c x y z : Option Key) → a ≡ x → b ≡ y → c ≡ z → ◌≡◌ {A = Option Key × Option Key × Option Key} (a, b, c) (x, y, z)
three a b c x y z first second third =
    subst (λ (k : Option Key). ◌≡◌ {A = Option Key × Option Key × Option Key} (a, b, c) (k, y, z)) first
    (subst (λ (k : Option Key). ◌≡◌ {A = Option Key × Option Key × Option Key} (a, b, c) (a, k, z)) second
    (subst (λ (k : Option Key). ◌≡◌ {A = Option Key × Option Key × Option Key} (a, b, c) (a, b, k)) third refl))

-- ---- four keys are given

both : (a b : Bool) (x l : ℕ) → cond b (max (cond a (max x l) x) l) (cond a (max x l) x) ≡ cond (a || b) (max x l) x
both true true x l = omega arith
both true false x l = refl
both false true x l = refl
both false false x l = refl

or_assoc : (a b c d : Bool) → (((a || b) || c) || d) ≡ (a || (b || (c || (d || false))))
or_assoc true b c d = refl
or_assoc false true c d = refl
or_assoc false false true d = refl
or_assoc false false false true = refl
or_assoc false false false false = refl

pub gives_all : (m0 m1 m2 m3 m4 : BTreeMap ℕ Reach) (next : Key) (given : Option Key × Option Key × Option Key) (l : ℕ)
    → GivesKey m0 m1 (Some next) l → GivesKey m1 m2 given.0 l → GivesKey m2 m3 given.1 l → GivesKey m3 m4 given.2 l → GivesAll m0 m4 next given l
gives_all m0 m1 m2 m3 m4 next given l first second third fourth = λ number.
    let a : Bool = is_number number (Some next) in
    let b : Bool = is_number number given.0 in
    let d : Bool = is_number number given.1 in
    let e : Bool = is_number number given.2 in
    let x : ℕ = length_at (get nat_cmp m0 number) in
    let one : length_at (get nat_cmp m1 number) ≡ cond a (max x l) x = first number in
    let two : length_at (get nat_cmp m2 number) ≡ cond (a || b) (max x l) x = second number ∙ (ap (λ (n : ℕ). cond b (max n l) n) one ∙ both a b x l) in
    let three : length_at (get nat_cmp m3 number) ≡ cond ((a || b) || d) (max x l) x = third number ∙ (ap (λ (n : ℕ). cond d (max n l) n) two ∙ both (a || b) d x l) in
    fourth number ∙ (ap (λ (n : ℕ). cond e (max n l) n) three ∙ (both ((a || b) || d) e x l ∙ ap (λ (t : Bool). cond t (max x l) x) (or_assoc a b d e)))

-- ---- the longest chains after a charged event

number_at : (Key → ℕ) → Option Key → ℕ
number_at number None = 0
number_at number (Some key) = number key

most_of : (number : Key → ℕ) (a b c : Option Key) → max (max (number_at number a) (number_at number b)) (number_at number c) ≡ most number (a ∷ b ∷ c ∷ [])
unfolding number_at
most_of number None None None = omega arith
most_of number None None (Some c) = omega arith
most_of number None (Some b) None = omega arith
most_of number None (Some b) (Some c) = omega arith
most_of number (Some a) None None = omega arith
most_of number (Some a) None (Some c) = omega arith
most_of number (Some a) (Some b) None = omega arith
most_of number (Some a) (Some b) (Some c) = omega arith

length_is : (bests : BTreeMap ℕ Reach) (past : List EventRecord) (key : Option Key) → HoldsBests bests past → AreShort key
    → length_for bests key ≡ number_at (λ (taken : Key). best taken past) key
unfolding number_at
length_is bests past None holds short = refl
length_is bests past (Some key) holds short = holds key short

-- what is known once an event was charged
pub record IsCharged (old new : Reaches) (past : List EventRecord) (event : EventRecord) (task n l : ℕ) (next : Option Key) (taken : Option Key × Option Key) (given : Option Key × Option Key × Option Key) : Type 0 where
  pub charged : charged_task past event ≡ Some task
  pub count_is : n ≡ charges_of task past + 1
  pub next_is : next ≡ Some (Next task (charges_of task past))
  pub taken_is : taken ≡ taken_by past event.call
  pub given_is : given ≡ given_by past event event.call
  pub length_is : l ≡ max (max (length_for old.bests next) (length_for old.bests taken.0)) (length_for old.bests taken.1) + 1
  pub next_short : AreShort next
  pub first_short : AreShort taken.0
  pub second_short : AreShort taken.1
  pub gives : GivesAll old.bests new.bests (Next task n) given l
  pub short : AreAllShort (Next task n) given
  pub greatest : new.greatest.length ≡ max old.greatest.length l

pub keys_taken : (old new : Reaches) (past : List EventRecord) (event : EventRecord) (task n l : ℕ) (next : Option Key) (taken : Option Key × Option Key) (given : Option Key × Option Key × Option Key)
    → IsCharged old new past event task n l next taken given → ◌≡◌ {A = List (Option Key)} (next ∷ taken.0 ∷ taken.1 ∷ []) (takes past event)
keys_taken old new past event task n l next taken given is =
    ap (λ (key : Option Key). key ∷ taken.0 ∷ taken.1 ∷ []) is.next_is
    ∙ (ap (λ (keys : Option Key × Option Key). with_two (Some (Next task (charges_of task past))) keys) is.taken_is
    ∙ ap (λ (found : Option ℕ). with_two (next_taken past found) (taken_by past event.call)) (sym is.charged))

pub keys_given : (old new : Reaches) (past : List EventRecord) (event : EventRecord) (task n l : ℕ) (next : Option Key) (taken : Option Key × Option Key) (given : Option Key × Option Key × Option Key)
    → IsCharged old new past event task n l next taken given → with_three (Some (Next task n)) given ≡ gives past event
keys_given old new past event task n l next taken given is =
    ap (λ (m : ℕ). with_three (Some (Next task m)) given) is.count_is
    ∙ (ap (λ (keys : Option Key × Option Key × Option Key). with_three (Some (Next task (charges_of task past + 1))) keys) is.given_is
    ∙ ap (λ (found : Option ℕ). with_three (next_given past found) (given_by past event event.call)) (sym is.charged))

reach_is : (old new : Reaches) (past : List EventRecord) (event : EventRecord) (task count length : ℕ) (next : Option Key) (taken : Option Key × Option Key) (given : Option Key × Option Key × Option Key)
    → IsCharged old new past event task count length next taken given → HoldsBests old.bests past → length ≡ reach past event
reach_is old new past event task count length next taken given is holds =
    is.length_is ∙ ap (λ (n : ℕ). n + 1) (
    ap (λ (n : ℕ). max (max n (length_for old.bests taken.0)) (length_for old.bests taken.1)) (length_is old.bests past next holds is.next_short)
    ∙ (ap (λ (n : ℕ). max (max (number_at number next) n) (length_for old.bests taken.1)) (length_is old.bests past taken.0 holds is.first_short)
    ∙ (ap (λ (n : ℕ). max (max (number_at number next) (number_at number taken.0)) n) (length_is old.bests past taken.1 holds is.second_short)
    ∙ (most_of number next taken.0 taken.1 ∙ ap (most number) taken_are)))
    )
  where
    number : Key → ℕ
    number key = best key past

    taken_are : next ∷ taken.0 ∷ taken.1 ∷ [] ≡ takes past event
    taken_are = ap (λ (key : Option Key). key ∷ taken.0 ∷ taken.1 ∷ []) is.next_is
        ∙ (ap (λ (keys : Option Key × Option Key). with_two (Some (Next task (charges_of task past))) keys) is.taken_is
        ∙ ap (λ (found : Option ℕ). with_two (next_taken past found) (taken_by past event.call)) (sym is.charged))

charged_is : (past : List EventRecord) (event : EventRecord) (task : ℕ) → charged_task past event ≡ Some task → is_charged past event ≡ true
charged_is past event task is = ap is_some is

given_key : (key next : Key) (given : Option Key × Option Key × Option Key) → IsShortKey key → AreAllShort next given
    → is_given (number_of key) next given ≡ has_key key (with_three (Some next) given)
given_key key next given short all =
    rw (is_number_is key (Some next) short all.next, is_number_is key given.0 short all.first, is_number_is key given.1 short all.second, is_number_is key given.2 short all.third) refl

pub record HoldsLengths (reaches : Reaches) (past : List EventRecord) : Type 0 where
  pub bests : HoldsBests reaches.bests past
  pub span : reaches.greatest.length ≡ span_of past

pub after_charge : (old new : Reaches) (past : List EventRecord) (event : EventRecord) (task n l : ℕ) (next : Option Key) (taken : Option Key × Option Key) (given : Option Key × Option Key × Option Key)
    → IsCharged old new past event task n l next taken given → HoldsReaches old past → HoldsLengths new (event ∷ past)
after_charge old new past event task n l next taken given is holds = record {
  bests = λ key short. at_key key short;
  span = is.greatest ∙ (ap (λ (m : ℕ). max m l) holds.span ∙ (ap (λ (m : ℕ). max (span_of past) m) far ∙ charged_span));
}
  where
    far : l ≡ reach past event
    far = reach_is old new past event task n l next taken given is holds.bests

    charged_span : max (span_of past) (reach past event) ≡ span_of (event ∷ past)
    charged_span = ap (λ (b : Bool). cond b (max (span_of past) (reach past event)) (span_of past)) (sym (charged_is past event task is.charged))

    keys_are : with_three (Some (Next task n)) given ≡ gives past event
    keys_are =
        ap (λ (m : ℕ). with_three (Some (Next task m)) given) is.count_is
        ∙ (ap (λ (keys : Option Key × Option Key × Option Key). with_three (Some (Next task (charges_of task past + 1))) keys) is.given_is
        ∙ ap (λ (found : Option ℕ). with_three (next_given past found) (given_by past event event.call)) (sym is.charged))

    at_key : (key : Key) → IsShortKey key → length_at (get nat_cmp new.bests (number_of key)) ≡ best key (event ∷ past)
    at_key key short =
        is.gives (number_of key)
        ∙ (ap (λ (b : Bool). cond b (max (length_at (get nat_cmp old.bests (number_of key))) l) (length_at (get nat_cmp old.bests (number_of key))))
        (given_key key (Next task n) given short is.short ∙ ap (has_key key) keys_are)
        ∙ (ap (λ (m : ℕ). cond (has_key key (gives past event)) (max m l) m) (holds.bests key short)
        ∙ (ap (λ (m : ℕ). cond (has_key key (gives past event)) (max (best key past) m) (best key past))
        (reach_is old new past event task n l next taken given is holds.bests)
        ∙ ap (λ (b : Bool). cond (b && has_key key (gives past event)) (max (best key past) (reach past event)) (best key past)) (sym (charged_is past event task is.charged)))))

-- an event that is charged to none changes none of them
pub still : (reaches : Reaches) (past : List EventRecord) (event : EventRecord) → None ≡ charged_task past event → HoldsReaches reaches past → HoldsReaches reaches (event ∷ past)
still reaches past event none holds = record {
  bests = λ key short. holds.bests key short
      ∙ ap (λ (b : Bool). cond (b && has_key key (gives past event)) (max (best key past) (reach past event)) (best key past)) uncharged_is;
  span = holds.span ∙ ap (λ (b : Bool). cond b (max (span_of past) (reach past event)) (span_of past)) uncharged_is;
  ends = λ key short. ends_on_past reaches.links.items past event key (get nat_cmp reaches.bests (number_of key)) (holds.ends key short);
  walk = walk_on_past reaches.links.items past event reaches.greatest holds.walk;
}
  where
    uncharged_is : false ≡ is_charged past event
    uncharged_is = ap is_some none

pub charge_more : (past : List EventRecord) (event : EventRecord) (task : ℕ) → charged_task past event ≡ Some task → charges_of task (event ∷ past) ≡ charges_of task past + 1
charge_more past event task is = ap (λ (found : Option ℕ). charges_of task past + one_if (is_just task found)) is ∙ ap (λ (b : Bool). charges_of task past + one_if b) (eq-eqb task task refl)
