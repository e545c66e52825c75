-- Walks along links: forwards through the ready order, and backwards through that of a region.
use Rattle.std.proofs.Common.{append_assoc, ◌≡◌, ◌≢◌, ℕ, zero, suc, ◌+◌, ◌<◌, ◌≤◌, ◌∙◌, ◌&&◌, cond, if◌then◌else◌, Bool, true, false, List, [], ◌∷◌, ◌++◌, length, filter, Option, Some, None, refl, sym, ap, subst, inl, inr, arith}
use Rattle.std.proofs.lemmas.Bool.{cases_eq, cases_Bool, eq-eqb, ne_eqb}
use Rattle.std.proofs.lemmas.List.{append-nil}
use Rattle.std.proofs.lemmas.List.Sums.{length-filter, count_by-le-length}
use Rattle.task_pool.specs.Allowed.{last_where, later_of, descends_from_all, newest_allowed}
use Rattle.task_pool.specs.Links.{Rings, AreLinked, IsRing, follow, ready_of, times_in, is_of_region, part_of}
use Rattle.task_pool.proofs.Times.{times-none, times-part-le}
use Rattle.task_pool.proofs.Spelling.{ready-nowhere, ready-few}

-- from this task on the links lead along the list, and then to 0
unfoldable pub Leads : (ℕ → ℕ) → ℕ → List ℕ → Type 0
Leads link from [] = from ≡ 0
Leads link from (task ∷ tasks) = (from ≡ task) × (task ≢ 0) × Leads link (link task) tasks

-- one step more that is allowed makes no difference
leads-more : (link : ℕ → ℕ) (n from : ℕ) → Leads link from (follow link n from) → follow link (suc n) from ≡ follow link n from
unfolding follow Leads
leads-more link zero from leads = rw (eq-eqb from 0 leads) refl
leads-more link (suc n) from leads = elim (cases_eq from 0) [
  | inl none ↦ rw (eq-eqb from 0 none) refl
  | inr some ↦
      let rest : Leads link (link from) (follow link n (link from)) = (rw (ne_eqb from 0 some) at leads).2 in
      rw (ne_eqb from 0 some) (ap (λ (others : List ℕ). from ∷ others) (leads-more link n (link from) rest))
]

-- one step along the links
pub record Steps (link : ℕ → ℕ) (n task : ℕ) : Type 0 where
  pub first : follow link n task ≡ task ∷ follow link n (link task)
  pub leads : Leads link (link task) (follow link n (link task))

pub leads-step : (link : ℕ → ℕ) (n task : ℕ) → task ≢ 0 → Leads link task (follow link n task) → Steps link n task
unfolding follow Leads
leads-step link zero task some leads = absurd (some leads)
leads-step link (suc n) task some leads =
    let rest : Leads link (link task) (follow link n (link task)) = (rw (ne_eqb task 0 some) at leads).2 in
    let more : follow link (suc n) (link task) ≡ follow link n (link task) = leads-more link n (link task) rest in
    record {
      first = rw (ne_eqb task 0 some) (ap (λ (others : List ℕ). task ∷ others) (sym more));
      leads = subst (Leads link (link task)) (sym more) rest;
    }

pub follow-end : (link : ℕ → ℕ) (n : ℕ) → follow link n 0 ≡ []
unfolding follow
follow-end link zero = refl
follow-end link (suc n) = refl

leads-follow : (link : ℕ → ℕ) (n from : ℕ) (xs : List ℕ) → length xs ≤ n → Leads link from xs → follow link n from ≡ xs
unfolding follow Leads
leads-follow link zero from [] within leads = refl
leads-follow link (suc n) from [] within leads = rw (eq-eqb from 0 leads) refl
leads-follow link zero from (x ∷ xs) within leads = absurd (omega arith)
leads-follow link (suc n) from (x ∷ xs) within leads =
    rw leads.0 (rw (ne_eqb x 0 leads.1) (ap (λ (others : List ℕ). x ∷ others) (leads-follow link n (link x) xs (omega arith) leads.2)))

ring-leads : (next previous : ℕ → ℕ) (before : ℕ) (xs : List ℕ) → times_in xs 0 ≡ 0 → IsRing next previous before xs → Leads next (next before) xs
unfolding IsRing Leads
ring-leads next previous before [] some ring = ring.0
ring-leads next previous before (x ∷ xs) some ring =
    let rest = times-none x 0 xs some in
    (ring.0, rest.0, ring-leads next previous x xs rest.1 ring.2)

pub order-leads : (R : Rings) → AreLinked R → Leads R.next (R.next 0) (ready_of R)
order-leads R linked = ring-leads R.next R.previous 0 (ready_of R) (ready-nowhere R (ready_of R) linked.order) linked.order.order

-- the list from its end to its beginning, and then the other one
unfoldable back : List ℕ → List ℕ → List ℕ
back [] ys = ys
back (x ∷ xs) ys = back xs (x ∷ ys)

length-back : (xs ys : List ℕ) → length (back xs ys) ≡ length xs + length ys
unfolding back
length-back [] ys = omega arith
length-back (x ∷ xs) ys = omega (arith, length-back xs (x ∷ ys))

leads-here : (link : ℕ → ℕ) (task : ℕ) (others : List ℕ) → task ≢ 0 → Leads link (link task) others → Leads link task (task ∷ others)
unfolding Leads
leads-here link task others some leads = (refl, some, leads)

leads-none : (link : ℕ → ℕ) → Leads link 0 []
unfolding Leads
leads-none link = refl

ring-leads-back : (next previous : ℕ → ℕ) (before : ℕ) (xs ys : List ℕ) → times_in xs 0 ≡ 0 → IsRing next previous before xs → Leads previous before ys → Leads previous (previous 0) (back xs ys)
unfolding IsRing back
ring-leads-back next previous before [] ys some ring leads = subst (λ (from : ℕ). Leads previous from ys) (sym ring.1) leads
ring-leads-back next previous before (x ∷ xs) ys some ring leads =
    let rest = times-none x 0 xs some in
    ring-leads-back next previous x xs (x ∷ ys) rest.1 ring.2 (leads-here previous x ys rest.0 (subst (λ (from : ℕ). Leads previous from ys) (sym ring.1) leads))

-- the first of these that the test picks
unfoldable pub first_where : (ℕ → Bool) → List ℕ → Option ℕ
first_where test [] = None
first_where test (first ∷ others) = if test first then Some first else first_where test others

pub first-here : (test : ℕ → Bool) (task : ℕ) (others : List ℕ) → test task ≡ true → first_where test (task ∷ others) ≡ Some task
unfolding first_where
first-here test task others picks = rw picks refl

pub first-there : (test : ℕ → Bool) (task : ℕ) (others : List ℕ) → test task ≡ false → first_where test (task ∷ others) ≡ first_where test others
unfolding first_where
first-there test task others passes = rw passes refl

pub first-none : (test : ℕ → Bool) → first_where test [] ≡ None
unfolding first_where
first-none test = refl

later-choice : (test : Bool) (x : ℕ) (earlier later : Option ℕ) → later_of (cond test (Some x) earlier) later ≡ later_of earlier (later_of (cond test (Some x) None) later)
later-choice true x earlier None = refl
later-choice true x earlier (Some later) = refl
later-choice false x earlier None = refl
later-choice false x earlier (Some later) = refl

first-back : (test : ℕ → Bool) (xs ys : List ℕ) → first_where test (back xs ys) ≡ later_of (first_where test ys) (last_where test xs)
unfolding back first_where last_where
first-back test [] ys = refl
first-back test (x ∷ xs) ys = first-back test xs (x ∷ ys) ∙ later-choice (test x) x (first_where test ys) (last_where test xs)

later-none : (later : Option ℕ) → later_of None later ≡ later
later-none None = refl
later-none (Some later) = refl

last-part : (p q : ℕ → Bool) (xs : List ℕ) → last_where (λ (task : ℕ). p task && q task) xs ≡ last_where q (filter p xs)
unfolding last_where
last-part p q [] = refl
last-part p q (x ∷ xs) = elim (cases_Bool (p x)) [
  | inl kept ↦ rw kept (ap (later_of (cond (q x) (Some x) None)) (last-part p q xs))
  | inr dropped ↦ rw dropped (later-none (last_where (λ (task : ℕ). p task && q task) xs) ∙ last-part p q xs)
]

-- backwards through the order of a region
pub record GoesBack (R : Rings) (region : ℕ) (held : List ℕ) (task : ℕ) : Type 0 where
  pub leads : Leads (R.previous_in region) task (follow (R.previous_in region) (length R.tasks) task)
  pub newest : newest_allowed R.tasks (ready_of R) region held ≡ first_where (λ (one : ℕ). descends_from_all R.tasks one held) (follow (R.previous_in region) (length R.tasks) task)

pub goes-back : (R : Rings) (region : ℕ) (held : List ℕ) → AreLinked R → GoesBack R region held (R.previous_in region 0)
goes-back R region held linked =
    let ready = ready_of R in
    let part = part_of R.tasks ready region in
    let link = R.previous_in region in
    let nowhere : times_in part 0 ≡ 0 = omega (arith, times-part-le (is_of_region R.tasks region) ready 0, ready-nowhere R ready linked.order) in
    let short : length (back part []) ≤ length R.tasks = omega (arith, length-back part [], length-filter (is_of_region R.tasks region) ready, count_by-le-length (is_of_region R.tasks region) ready, ready-few R ready linked.order) in
    let leads : Leads link (link 0) (back part []) = ring-leads-back (R.next_in region) link 0 part [] nowhere (linked.order.in_region region) (leads-none link) in
    let list : follow link (length R.tasks) (link 0) ≡ back part [] = leads-follow link (length R.tasks) (link 0) (back part []) short leads in
    let test : ℕ → Bool = λ one. descends_from_all R.tasks one held in
    record {
      leads = subst (Leads link (link 0)) (sym list) leads;
      newest = last-part (is_of_region R.tasks region) test ready ∙ (sym (later-none (last_where test part)) ∙ (ap (λ (one : Option ℕ). later_of one (last_where test part)) (sym (first-none test)) ∙ (sym (first-back test part []) ∙ ap (first_where test) (sym list))));
    }

-- one task further back
pub goes-further : (R : Rings) (region : ℕ) (held : List ℕ) (task : ℕ) → GoesBack R region held task → task ≢ 0 → descends_from_all R.tasks task held ≡ false → GoesBack R region held (R.previous_in region task)
goes-further R region held task goes some passes =
    let steps = leads-step (R.previous_in region) (length R.tasks) task some goes.leads in
    let test : ℕ → Bool = λ one. descends_from_all R.tasks one held in
    record {
      leads = steps.leads;
      newest = goes.newest ∙ (ap (first_where test) steps.first ∙ first-there test task (follow (R.previous_in region) (length R.tasks) (R.previous_in region task)) passes);
    }

pub goes-found : (R : Rings) (region : ℕ) (held : List ℕ) (task : ℕ) → GoesBack R region held task → task ≢ 0 → descends_from_all R.tasks task held ≡ true → newest_allowed R.tasks (ready_of R) region held ≡ Some task
goes-found R region held task goes some picks =
    let steps = leads-step (R.previous_in region) (length R.tasks) task some goes.leads in
    let test : ℕ → Bool = λ one. descends_from_all R.tasks one held in
    goes.newest ∙ (ap (first_where test) steps.first ∙ first-here test task (follow (R.previous_in region) (length R.tasks) (R.previous_in region task)) picks)

pub goes-nowhere : (R : Rings) (region : ℕ) (held : List ℕ) (task : ℕ) → GoesBack R region held task → task ≡ 0 → newest_allowed R.tasks (ready_of R) region held ≡ None
goes-nowhere R region held task goes none =
    let test : ℕ → Bool = λ one. descends_from_all R.tasks one held in
    goes.newest ∙ (ap (λ (one : ℕ). first_where test (follow (R.previous_in region) (length R.tasks) one)) none ∙ (ap (first_where test) (follow-end (R.previous_in region) (length R.tasks)) ∙ first-none test))

pub steps-shorter : (link : ℕ → ℕ) (n task : ℕ) → task ≢ 0 → Leads link task (follow link n task) → length (follow link n (link task)) < length (follow link n task)
steps-shorter link n task some leads = omega (arith, ap (λ (list : List ℕ). length list) (leads-step link n task some leads).first)

-- the ready order told as far as this task, which comes next
pub record IsTold (R : Rings) (told : List ℕ) (task : ℕ) : Type 0 where
  pub whole : told ++ follow R.next (length R.tasks) task ≡ ready_of R
  pub leads : Leads R.next task (follow R.next (length R.tasks) task)

pub told-first : (R : Rings) → AreLinked R → IsTold R [] (R.next 0)
told-first R linked = record { whole = refl; leads = order-leads R linked }

pub told-more : (R : Rings) (told : List ℕ) (task : ℕ) → IsTold R told task → task ≢ 0 → IsTold R (told ++ task ∷ []) (R.next task)
told-more R told task is some =
    let steps = leads-step R.next (length R.tasks) task some is.leads in
    let rest : List ℕ = follow R.next (length R.tasks) (R.next task) in
    record {
      whole = append_assoc told (task ∷ []) rest ∙ (ap (λ (list : List ℕ). told ++ list) (sym steps.first) ∙ is.whole);
      leads = steps.leads;
    }

pub told-all : (R : Rings) (told : List ℕ) (task : ℕ) → IsTold R told task → task ≡ 0 → told ≡ ready_of R
told-all R told task is none =
    sym (append-nil told) ∙ (ap (λ (list : List ℕ). told ++ list) (sym (follow-end R.next (length R.tasks))) ∙ (ap (λ (one : ℕ). told ++ follow R.next (length R.tasks) one) (sym none) ∙ is.whole))
