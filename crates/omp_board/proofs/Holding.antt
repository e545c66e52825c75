-- Which task a thread starts next depends on what it holds, and not on the order in which it is held. What isn't allowed with nothing held isn't
-- allowed at all.
use Rattle.std.proofs.Common.{◌≡◌, ℕ, ◌≤◌, ◌==◌, ◌&&◌, not, Bool, true, false, if◌then◌else◌, List, [], ◌∷◌, ◌++◌, length, reverse, take, Option, Some, None, refl, sym, ap, ◌∙◌}
use Rattle.std.specs.List.{filter}
use Rattle.std.specs.Option.{is_some}
use Rattle.std.proofs.lemmas.List.Elements.{filter-append}
use Rattle.std.proofs.lemmas.List.{reverse-append, reverse-reverse, take_all}
use Rattle.task_pool.specs.declared.task.Task.{Task}
use Rattle.task_pool.specs.Allowed.{descends, descends_from_all, is_allowed, last_where, later_of, newest_allowed}
use Rattle.task_pool.specs.Tasks.{task_at as pool_task_at}
use Rattle.task_pool.proofs.Ancestors.{list_all-reverse}
use Rattle.omp_model.specs.State.{World, task_at, thread_at}
use Rattle.omp_model.specs.Gates.{held_tasks, is_in_barrier, next_task}
use Rattle.omp_model.specs.Members.{current_region}

pub reversed : (tasks : List Task) (ready : List ℕ) (region : ℕ) (held : List ℕ) → newest_allowed tasks ready region (reverse held) ≡ newest_allowed tasks ready region held
reversed tasks ready region held =
    λ i. last_where (λ (task : ℕ). (pool_task_at tasks task).region == region && list_all-reverse (descends tasks task) held i) ready

one-picked : (x : ℕ) (picked : Bool) → reverse (if picked then x ∷ [] else []) ≡ (if picked then x ∷ [] else [])
one-picked x true = refl
one-picked x false = refl

filter-reverse : (test : ℕ → Bool) (xs : List ℕ) → filter test (reverse xs) ≡ reverse (filter test xs)
filter-reverse test [] = refl
filter-reverse test (x ∷ xs) =
    ap (filter test) (reverse-append (x ∷ []) xs) ∙ filter-append test (reverse xs) (x ∷ []) ∙ ap (λ (front : List ℕ). front ++ filter test (x ∷ [])) (filter-reverse test xs)
    ∙ ap (λ (last : List ℕ). reverse (filter test xs) ++ last) (sym (one-picked x (test x))) ∙ sym (reverse-append (filter test (x ∷ [])) (filter test xs))
    ∙ ap reverse (sym (filter-append test (x ∷ []) xs))

none-later : (first later : Option ℕ) → later_of first later ≡ None → (first ≡ None) × (later ≡ None)
none-later first None none = (none, refl)
none-later first (Some later) none = cc

none-picked : (weak strong : Bool) (x : ℕ) (later : Option ℕ) → (weak ≡ false → strong ≡ false) → (if weak then Some x else None) ≡ None → later ≡ None → later_of (if strong then Some x else None) later ≡ None
none-picked true strong x later stronger none rest = cc
none-picked false strong x later stronger none rest =
    let not : strong ≡ false = stronger refl in
    rw (not, rest) refl

none-stronger : (weak strong : ℕ → Bool) (xs : List ℕ) → ((x : ℕ) → weak x ≡ false → strong x ≡ false) → last_where weak xs ≡ None → last_where strong xs ≡ None
unfolding last_where
none-stronger weak strong [] stronger none = refl
none-stronger weak strong (x ∷ xs) stronger none =
    let both = none-later (if weak x then Some x else None) (last_where weak xs) none in
    none-picked (weak x) (strong x) x (last_where strong xs) (stronger x) both.0 (none-stronger weak strong xs stronger both.1)

not-both : (here weak strong : Bool) → weak ≡ true → (here && weak) ≡ false → (here && strong) ≡ false
not-both true weak strong all none = cc
not-both false weak strong all none = refl

pub none_held : (tasks : List Task) (ready : List ℕ) (region : ℕ) (held : List ℕ) → newest_allowed tasks ready region [] ≡ None → newest_allowed tasks ready region held ≡ None
none_held tasks ready region held none =
    none-stronger (is_allowed tasks region []) (is_allowed tasks region held) ready
    (λ k not. not-both ((pool_task_at tasks k).region == region) true (descends_from_all tasks k held) refl not) none

-- a task that isn't suspended in a barrier
abbrev pub is_held : World → ℕ → Bool
is_held W k = not (is_in_barrier (task_at W k).code.todo)

-- the held ones among so many of a thread's tasks, the current one last, are written down
pub record HasHeld (W : World) (t : ℕ) (tasks : List ℕ) (looked : ℕ) (held : List ℕ) (count : ℕ) : Type 0 where
  pub stack : reverse tasks ≡ (thread_at W t).stack
  pub room : length tasks ≤ length held
  pub few : count ≤ looked
  pub found : take count held ≡ filter (is_held W) (take looked tasks)

pub all_held : (W : World) (t : ℕ) (tasks : List ℕ) (looked : ℕ) (held : List ℕ) (count : ℕ) → length tasks ≤ looked → HasHeld W t tasks looked held count → take count held ≡ reverse (held_tasks W t)
all_held W t tasks looked held count all has =
    has.found ∙ ap (filter (is_held W)) (take_all looked tasks all) ∙ sym (reverse-reverse (filter (is_held W) tasks)) ∙ ap reverse (sym (filter-reverse (is_held W) tasks)) ∙ ap (λ (stack : List ℕ). reverse (filter (is_held W) stack)) has.stack

module _ (W : World) (t : ℕ) (tasks : List Task) (ready : List ℕ) (region : ℕ) (are : tasks ≡ W.pool.tasks) (in_order : ready ≡ W.pool.ready) (is : region ≡ current_region W t) where
  pub next_is : (held : List ℕ) → held ≡ reverse (held_tasks W t) → newest_allowed tasks ready region held ≡ next_task W t
  next_is held are_held = (λ i. newest_allowed (are i) (in_order i) (is i) (are_held i)) ∙ reversed W.pool.tasks W.pool.ready (current_region W t) (held_tasks W t)

  pub none_is : (found : Option ℕ) → found ≡ newest_allowed tasks ready region [] → is_some found ≡ false → None ≡ next_task W t
  none_is (Some task) is_found none = cc
  none_is None is_found none = sym (none_held W.pool.tasks W.pool.ready (current_region W t) (held_tasks W t) ((λ i. newest_allowed (sym are i) (sym in_order i) (sym is i) []) ∙ sym is_found))
