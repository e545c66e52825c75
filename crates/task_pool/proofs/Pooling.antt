-- What each call on the pool makes of its links: they are linked again, and spell what the call promises.
use Rattle.std.proofs.Common.{◌≡◌, ◌≢◌, ℕ, ◌+◌, ◌-◌, ◌<◌, ◌≤◌, ◌∙◌, true, false, max, List, [], ◌∷◌, ◌++◌, length, filter, Result, Ok, Err, refl, sym, ap, subst, arith, length-append}
use Rattle.std.proofs.lemmas.Bool.{true≢false}
use Rattle.std.specs.Prelude.{OnOk, OnErr}
use Rattle.task_pool.specs.declared.task.Task.{Task}
use Rattle.task_pool.specs.declared.task.TaskKind.{TaskKind}
use Rattle.task_pool.specs.declared.task.Condition.{Condition}
use Rattle.task_pool.specs.declared.task.Condition.TheVariants as condition
use Rattle.task_pool.specs.declared.task.TheConstants.{TASK_LIMIT}
use Rattle.task_pool.specs.Tasks.{task_at, with_condition, is_ready, is_finished, is_explicit, MayBeParent}
use Rattle.task_pool.specs.View.{PoolView, HasRoom, with_room, with_ready, with_started, with_finished, with_added, fresh_task, is_other}
use Rattle.task_pool.specs.Chain.{ChainView, with_regions, node_made, condition_set, counted_up, counted_down}
use Rattle.task_pool.specs.Links.{Rings, SpellsOrder, CountsTasks, AreInOrder, AreLinked, rings_of, ready_of, view_of_rings, pool_view, one_if, with_task_last, with_task_out}
use Rattle.task_pool.proofs.Times.{without-absent}
use Rattle.task_pool.proofs.Setting.{condition_set-rings}
use Rattle.task_pool.proofs.Changing.{made-unfinished, changed-length}
use Rattle.task_pool.proofs.Spelling.{spells-exactly, spells-last, made_last}
use Rattle.task_pool.proofs.Leaving.{spells-out, spells-changed, taken_out}
use Rattle.task_pool.proofs.Counting.{not_finished, counts-changed, counts-uncounted, counts-finished, counts-added, counts-explicit, counted_at, order-changed}
use Rattle.task_pool.proofs.Adding.{spells-added, order-added, parent-made}
use Rattle.task_pool.proofs.Making.{node_made-rings, with_regions-rings, counted_up-rings, counted_down-rings}

-- the links are linked, and seen as this
pub record Shows (C : ChainView) (seen : PoolView) : Type 0 where
  pub linked : AreLinked (rings_of C)
  pub view : pool_view C ≡ seen

abbrev shown : Rings → List ℕ → PoolView
shown R ready = record { tasks = R.tasks; ready = ready; regions = R.regions; room = R.room }

shows : (C : ChainView) (R : Rings) (ready : List ℕ) (seen : PoolView) → rings_of C ≡ R → SpellsOrder R ready → CountsTasks R → AreInOrder R.tasks R.regions → shown R ready ≡ seen → Shows C seen
shows C R ready seen are spells counts sound is =
    let exactly : ready_of R ≡ ready = spells-exactly R ready spells in
    record {
      linked = subst AreLinked (sym are) (record { order = subst (SpellsOrder R) (sym exactly) spells; counts = counts; sound = sound });
      view = ap view_of_rings are ∙ (ap (shown R) exactly ∙ is);
    }

ready-is : (one : Condition) → is_ready one ≡ true → one ≡ condition.Ready
ready-is condition.Made ready = absurd (true≢false (sym ready))
ready-is condition.Ready ready = refl
ready-is condition.Started ready = absurd (true≢false (sym ready))
ready-is condition.Finished ready = absurd (true≢false (sym ready))

not_ready : (one : Condition) → one ≢ condition.Ready → is_ready one ≡ false
not_ready condition.Made apart = refl
not_ready condition.Ready apart = absurd (apart refl)
not_ready condition.Started apart = refl
not_ready condition.Finished apart = refl

made-apart : (one : Condition) → one ≡ condition.Made → one ≢ condition.Finished
made-apart one made finished = cc

pub shows-ready : (C C₁ C₂ : ChainView) (task : ℕ) → AreLinked (rings_of C) → (task_at (pool_view C).tasks task).condition ≡ condition.Made → rings_of C₁ ≡ with_task_last (rings_of C) task → C₂ ≡ condition_set C₁ task condition.Ready → Shows C₂ (with_ready (pool_view C) task)
shows-ready C C₁ C₂ task linked made put_last changed =
    let R : Rings = rings_of C in
    let there = made-unfinished R.tasks task (made-apart (task_at R.tasks task).condition made) in
    let are : rings_of C₂ ≡ made_last R task = ap rings_of changed ∙ condition_set-rings C₁ (with_task_last R task) task condition.Ready put_last there.0 there.1 in
    shows C₂ (made_last R task) (ready_of R ++ task ∷ []) (with_ready (pool_view C) task) are
    (spells-last R (ready_of R) task linked.order there.0 there.1 made)
    (counts-changed R (made_last R task).next (made_last R task).previous (made_last R task).next_in (made_last R task).previous_in task condition.Ready linked.counts there.0 there.1 (sym (ap is_finished made)))
    (order-changed R.tasks R.regions task condition.Ready linked.sound there.0 there.1) refl

pub shows-taken : (C C₁ C₂ : ChainView) (task : ℕ) → AreLinked (rings_of C) → is_ready (task_at (pool_view C).tasks task).condition ≡ true → rings_of C₁ ≡ with_task_out (rings_of C) task → C₂ ≡ condition_set C₁ task condition.Started → Shows C₂ (with_started (pool_view C) task)
shows-taken C C₁ C₂ task linked waits out changed =
    let R : Rings = rings_of C in
    let ready : (task_at R.tasks task).condition ≡ condition.Ready = ready-is (task_at R.tasks task).condition waits in
    let apart : (task_at R.tasks task).condition ≢ condition.Finished = λ finished. cc in
    let there = made-unfinished R.tasks task apart in
    let are : rings_of C₂ ≡ taken_out R task = ap rings_of changed ∙ condition_set-rings C₁ (with_task_out R task) task condition.Started out there.0 there.1 in
    shows C₂ (taken_out R task) (filter (is_other task) (ready_of R)) (with_started (pool_view C) task) are
    (spells-out R (ready_of R) task linked.order ready)
    (counts-changed R (taken_out R task).next (taken_out R task).previous (taken_out R task).next_in (taken_out R task).previous_in task condition.Started linked.counts there.0 there.1 (sym (ap is_finished ready)))
    (order-changed R.tasks R.regions task condition.Started linked.sound there.0 there.1) refl

pub shows-started : (C C₂ : ChainView) (task : ℕ) → AreLinked (rings_of C) → (task_at (pool_view C).tasks task).condition ≢ condition.Finished → is_ready (task_at (pool_view C).tasks task).condition ≡ false → C₂ ≡ condition_set C task condition.Started → Shows C₂ (with_started (pool_view C) task)
shows-started C C₂ task linked unfinished was changed =
    let R : Rings = rings_of C in
    let S : Rings = record R { tasks = with_condition R.tasks task condition.Started } in
    let there = made-unfinished R.tasks task unfinished in
    let are : rings_of C₂ ≡ S = ap rings_of changed ∙ condition_set-rings C R task condition.Started refl there.0 there.1 in
    let absent = linked.order.once task ∙ ap one_if was in
    shows C₂ S (ready_of R) (with_started (pool_view C) task) are
    (spells-changed R (ready_of R) task condition.Started linked.order there.0 there.1 was refl)
    (counts-changed R R.next R.previous R.next_in R.previous_in task condition.Started linked.counts there.0 there.1 (sym (not_finished (task_at R.tasks task).condition unfinished)))
    (order-changed R.tasks R.regions task condition.Started linked.sound there.0 there.1)
    (ap (shown S) (sym (without-absent task (ready_of R) absent)))

-- a task that finishes, and is no explicit one
pub shows-finished : (C C₂ : ChainView) (task : ℕ) → AreLinked (rings_of C) → (task_at (pool_view C).tasks task).condition ≢ condition.Finished → (task_at (pool_view C).tasks task).condition ≢ condition.Ready → is_explicit (task_at (pool_view C).tasks task).kind ≡ false → C₂ ≡ condition_set C task condition.Finished → Shows C₂ (with_finished (pool_view C) task)
shows-finished C C₂ task linked unfinished unready implicit changed =
    let R : Rings = rings_of C in
    let there = made-unfinished R.tasks task unfinished in
    let was : is_ready (task_at R.tasks task).condition ≡ false = not_ready (task_at R.tasks task).condition unready in
    shows C₂ (record R { tasks = with_condition R.tasks task condition.Finished }) (ready_of R) (with_finished (pool_view C) task)
    (ap rings_of changed ∙ condition_set-rings C R task condition.Finished refl there.0 there.1)
    (spells-changed R (ready_of R) task condition.Finished linked.order there.0 there.1 was refl)
    (counts-uncounted R task condition.Finished linked.counts there.0 there.1 implicit)
    (order-changed R.tasks R.regions task condition.Finished linked.sound there.0 there.1) refl

-- an explicit one
pub shows-ended : (C C₁ C₂ : ChainView) (task : ℕ) (was : Task) → AreLinked (rings_of C) → was ≡ task_at (pool_view C).tasks task → (task_at (pool_view C).tasks task).condition ≢ condition.Finished → (task_at (pool_view C).tasks task).condition ≢ condition.Ready → is_explicit was.kind ≡ true → C₁ ≡ condition_set C task condition.Finished → C₂ ≡ counted_down C₁ was.parent was.region → Shows C₂ (with_finished (pool_view C) task)
shows-ended C C₁ C₂ task was linked is unfinished unready explicit changed counted =
    let R : Rings = rings_of C in
    let one : Task = task_at R.tasks task in
    let S : Rings = record R { tasks = with_condition R.tasks task condition.Finished } in
    let there = made-unfinished R.tasks task unfinished in
    let idle : is_ready one.condition ≡ false = not_ready one.condition unready in
    let kind : is_explicit one.kind ≡ true = subst (λ (it : Task). is_explicit it.kind ≡ true) is explicit in
    let down : C₂ ≡ counted_down C₁ one.parent one.region = counted ∙ ap (λ (it : Task). counted_down C₁ it.parent it.region) is in
    let sound : AreInOrder S.tasks S.regions = order-changed R.tasks R.regions task condition.Finished linked.sound there.0 there.1 in
    let parent : one.parent ≤ length S.tasks = omega (arith, linked.sound.parents task there.0, there.1, changed-length R.tasks task condition.Finished) in
    let place : one.region < S.regions = linked.sound.regions task there.0 there.1 in
    let spells = spells-changed R (ready_of R) task condition.Finished linked.order there.0 there.1 idle refl in
    let T : Rings = counted_at S one.parent (S.children one.parent - 1) one.region (S.unfinished one.region - 1) in
    shows C₂ T (ready_of R) (with_finished (pool_view C) task)
    (ap rings_of down ∙ counted_down-rings C₁ S one.parent one.region (ap rings_of changed ∙ condition_set-rings C R task condition.Finished refl there.0 there.1) parent place)
    (record { order = spells.order; in_region = spells.in_region; once = spells.once })
    (counts-finished R task linked.counts there.0 there.1 unfinished kind)
    sound refl

-- one more task
pub shows-added : (C C₁ : ChainView) (parent region : ℕ) (kind : TaskKind) → AreLinked (rings_of C) → length (pool_view C).tasks ≢ TASK_LIMIT → HasRoom (pool_view C) region → MayBeParent (pool_view C).tasks parent → is_explicit kind ≡ false → C₁ ≡ node_made C (fresh_task parent region kind) → Shows C₁ (with_added (pool_view C) parent region kind)
shows-added C C₁ parent region kind linked few room may implicit made =
    let R : Rings = rings_of C in
    let added : Task = fresh_task parent region kind in
    let spells = spells-added R (ready_of R) added (R.room - 1) R.children R.unfinished linked.order refl in
    shows C₁ (record R { tasks = R.tasks ++ added ∷ []; room = R.room - 1 }) (ready_of R) (with_added (pool_view C) parent region kind)
    (ap rings_of made ∙ node_made-rings C added)
    (record { order = spells.order; in_region = spells.in_region; once = spells.once })
    (counts-added R added (R.room - 1) linked.counts implicit)
    (order-added R.tasks R.regions added linked.sound few may room.place) refl

pub shows-explicit : (C C₁ C₂ : ChainView) (parent region : ℕ) (kind : TaskKind) → AreLinked (rings_of C) → length (pool_view C).tasks ≢ TASK_LIMIT → HasRoom (pool_view C) region → MayBeParent (pool_view C).tasks parent → is_explicit kind ≡ true → C₁ ≡ node_made C (fresh_task parent region kind) → C₂ ≡ counted_up C₁ parent region → Shows C₂ (with_added (pool_view C) parent region kind)
shows-explicit C C₁ C₂ parent region kind linked few room may explicit made counted =
    let R : Rings = rings_of C in
    let added : Task = fresh_task parent region kind in
    let S : Rings = record R { tasks = R.tasks ++ added ∷ []; room = R.room - 1 } in
    let are : rings_of C₁ ≡ S = ap rings_of made ∙ node_made-rings C added in
    let above : parent ≤ length S.tasks = omega (arith, parent-made R.tasks parent may, length-append R.tasks (added ∷ [])) in
    let T : Rings = counted_at S parent (S.children parent + 1) region (S.unfinished region + 1) in
    let spells = spells-added R (ready_of R) added (R.room - 1) T.children T.unfinished linked.order refl in
    let apart : added.condition ≢ condition.Finished = λ finished. cc in
    shows C₂ T (ready_of R) (with_added (pool_view C) parent region kind)
    (ap rings_of counted ∙ counted_up-rings C₁ S parent region are above room.place)
    (record { order = spells.order; in_region = spells.in_region; once = spells.once })
    (counts-explicit R added (R.room - 1) linked.counts explicit apart)
    (order-added R.tasks R.regions added linked.sound few may room.place) refl

-- room for one
pub linked-reserved : {E : Type 0} (result : Result (Unit {0}) E) (C C₁ : ChainView) (region : ℕ) → AreLinked (rings_of C) → OnOk result (C₁ ≡ with_regions C region) → OnErr result (C₁ ≡ C) → AreLinked (rings_of C₁)
linked-reserved (Ok done) C C₁ region linked room memory =
    let R : Rings = rings_of C in
    let S : Rings = record R { regions = max (region + 1) R.regions; room = 1 } in
    let spells = linked.order in
    let counts = linked.counts in
    (shows C₁ S (ready_of R) (with_room (pool_view C) region) (ap rings_of room ∙ with_regions-rings C region)
    (record { order = spells.order; in_region = spells.in_region; once = spells.once })
    (record { children = counts.children; in_region = counts.in_region })
    (record {
      parents = linked.sound.parents;
      regions = λ task some made. omega (arith, linked.sound.regions task some made);
      few = linked.sound.few;
    }) refl).linked
linked-reserved (Err fault) C C₁ region linked room memory = subst (λ (one : ChainView). AreLinked (rings_of one)) (sym memory) linked
