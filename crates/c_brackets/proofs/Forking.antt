-- A forked region is open where its end stands next, and nowhere else.
use Rattle.std.specs.Prelude.{◌≡◌, ◌||◌, not, Bool, true, false, IsTrue, List, [], ◌∷◌, ◌++◌, None, refl}
use Rattle.std.specs.List.{list_any}
use Rattle.c_model.specs.declared.point.SyncKind.{SyncKind}
use Rattle.c_model.specs.declared.point.SyncStage.{SyncStage}
use Rattle.c_model.specs.declared.point.SyncStage.TheVariants as stage
use Rattle.c_model.specs.Task.{Item, OpenCall, Task}
use Rattle.c_model.specs.Task.Item.{Forked, Sync}
use Rattle.c_brackets.specs.Effects.{ForksNext, HasNoFork}
use Rattle.c_brackets.specs.Links.{link_item}
use Rattle.c_brackets.specs.Opened.{Open, is_fork, open_before, open_calls, open_item, open_items, open_task}
use Rattle.c_brackets.specs.Orderly.{AreBehind, AreCallsKept, AreInOrder, IsOrderly}
use Rattle.c_brackets.proofs.OpenLists.{never}

no-fork-first : (is among : Bool) → IsTrue (not (is || among)) → IsTrue (not is)
no-fork-first true among none = never none
no-fork-first false among none = refl

no-fork-rest : (is among : Bool) → IsTrue (not (is || among)) → IsTrue (not among)
no-fork-rest true among none = never none
no-fork-rest false among none = none

no-fork-push : (is among : Bool) → IsTrue (not is) → IsTrue (not among) → IsTrue (not (is || among))
no-fork-push true among first rest = never first
no-fork-push false among first rest = rest

no-fork-both : (some more : List Open) → HasNoFork some → HasNoFork more → HasNoFork (some ++ more)
no-fork-both [] more none also = also
no-fork-both (one ∷ some) more none also =
    no-fork-push (is_fork one) (list_any is_fork (some ++ more)) (no-fork-first (is_fork one) (list_any is_fork some) none)
    (no-fork-both some more (no-fork-rest (is_fork one) (list_any is_fork some) none) also)

no-fork-stage : (kind : SyncKind) (stage : SyncStage) → HasNoFork (open_before kind stage)
no-fork-stage kind stage.RegionBegin = refl
no-fork-stage kind stage.WaitBegin = refl
no-fork-stage kind stage.WaitEnd = refl
no-fork-stage kind stage.RegionEnd = refl

no-fork-item : (item : Item) → link_item item ≡ None → HasNoFork (open_item item)
no-fork-item (Forked construct) none = absurd (cc)
no-fork-item (Sync tree kind stage) none = no-fork-stage kind stage
no-fork-item other none = refl

no-fork-behind : (items : List Item) → AreBehind items → HasNoFork (open_items items)
unfolding AreBehind open_items
no-fork-behind [] are = refl
no-fork-behind (item ∷ items) are = no-fork-both (open_item item) (open_items items) (no-fork-item item are.0) (no-fork-behind items are.2)

no-fork-calls : (calls : List OpenCall) → AreCallsKept calls → HasNoFork (open_calls calls)
unfolding AreCallsKept open_calls
no-fork-calls [] are = refl
no-fork-calls (call ∷ calls) are = no-fork-both (open_items call.todo) (open_calls calls) (no-fork-behind call.todo are.0.behind) (no-fork-calls calls are.1)

forks-next : (items : List Item) (calls : List OpenCall) → AreInOrder items → AreCallsKept calls → ForksNext items (open_items items ++ open_calls calls)
unfolding AreInOrder ForksNext open_items
forks-next [] calls are kept = no-fork-calls calls kept
forks-next (Forked construct ∷ items) calls are kept =
    record { older = open_items items ++ open_calls calls; are = refl; alone = no-fork-both (open_items items) (open_calls calls) (no-fork-behind items are.1) (no-fork-calls calls kept) }
forks-next (Sync tree kind stage ∷ items) calls are kept =
    no-fork-both (open_before kind stage ++ open_items items) (open_calls calls) (no-fork-both (open_before kind stage) (open_items items) (no-fork-stage kind stage) (no-fork-behind items are.1)) (no-fork-calls calls kept)
forks-next (item ∷ items) calls are kept =
    no-fork-both (open_item item ++ open_items items) (open_calls calls) (no-fork-both (open_item item) (open_items items) refl (no-fork-behind items are.1)) (no-fork-calls calls kept)

pub forks_next : (task : Task) → IsOrderly task → ForksNext task.todo (open_task task)
forks_next task is = forks-next task.todo task.calls is.now is.calls
