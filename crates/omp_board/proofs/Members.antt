-- Where a region that was forked stands next, and where none does.
use Rattle.std.proofs.Common.{◌≡◌, ℕ, if◌then◌else◌, Bool, true, false, List, [], ◌∷◌, refl, sym, ap, ◌∙◌}
use Rattle.c_model.specs.declared.upcoming.Upcoming.TheVariants as upcoming
use Rattle.c_model.specs.declared.view.View.{View}
use Rattle.c_model.specs.Begin.{blank_task, member_task}
use Rattle.c_model.specs.Step.{is_event}
use Rattle.c_model.specs.Task.{Item, Task}
use Rattle.c_model.specs.Task.Item.{Forked, Sync, Acquire, TestLock}
use Rattle.c_model.specs.Upcoming.{upcoming_among, upcoming_of}
use Rattle.c_steps.specs.Beginning.{HasForked}
use Rattle.c_steps.proofs.Giving.{same_task}
use Rattle.omp_model.specs.EventEffects.{has_forked, member_code}

by-form : (event : Bool) → upcoming.RegionEnd ≡ (if event then upcoming.Event else upcoming.Step) → ⊥
by-form true is = cc
by-form false is = cc

forked-first : (items : List Item) → upcoming.RegionEnd ≡ upcoming_among items → has_forked items ≡ true
forked-first [] is = absurd cc
forked-first (Forked construct ∷ items) is = refl
forked-first (Sync tree kind stage ∷ items) is = absurd cc
forked-first (Acquire tree kind id ∷ items) is = absurd cc
forked-first (TestLock call id to ∷ items) is = absurd cc
forked-first (other ∷ items) is = absurd (by-form (is_event other) is)

unforked-first : (items : List Item) → (upcoming_among items ≡ upcoming.RegionEnd → ⊥) → has_forked items ≡ false
unforked-first [] not = refl
unforked-first (Forked construct ∷ items) not = absurd (not refl)
unforked-first (other ∷ items) not = refl

-- a member can begin where a region was forked
pub can_begin : (items : List Item) → has_forked items ≡ true → HasForked items
unfolding HasForked
can_begin [] is = absurd cc
can_begin (Forked construct ∷ items) is = tt
can_begin (other ∷ items) is = absurd cc

-- as member 0 sees it, which goes past nothing
module _ (view : View) (first : view.index ≡ 0) (task : Task) where
  at-front : upcoming_of view task ≡ upcoming_among task.todo
  at-front = ap (λ (task : Task). upcoming_among task.todo) (same_task view task first)

  pub forked_stands : upcoming.RegionEnd ≡ upcoming_of view task → has_forked task.todo ≡ true
  forked_stands is = forked-first task.todo (is ∙ at-front)

  pub none_stands : (upcoming_of view task ≡ upcoming.RegionEnd → ⊥) → has_forked task.todo ≡ false
  none_stands not = unforked-first task.todo (λ is. not (at-front ∙ is))

pub member_coded : (task : Task) → has_forked task.todo ≡ true → member_task task ≡ member_code task
member_coded task is = sym (ap (λ forked. if forked then member_task task else blank_task) is)

pub member_blank : (task : Task) → has_forked task.todo ≡ false → blank_task ≡ member_code task
member_blank task is = sym (ap (λ forked. if forked then member_task task else blank_task) is)
