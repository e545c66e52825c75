-- The codes of tasks after the Go of an event beside all code.
use Rattle.std.proofs.Common.{◌≡◌, ℕ, ◌<◌, ◌+◌, ◌==◌, ◌&&◌, ◌||◌, Bool, true, false, if◌then◌else◌, List, [], ◌∷◌, slice_set, slice_index_or, length, refl, sym, ap, ◌∙◌, subst, inl, inr, arith}
use Rattle.std.proofs.lemmas.Bool.{cases_eq, true≢false}
use Rattle.std.proofs.lemmas.List.{get_or_append_left, get_or_push, length-set, length_push}
use Rattle.c_model.specs.declared.point.SyncStage.TheVariants as stage
use Rattle.c_model.specs.Begin.{blank_task, member_task}
use Rattle.c_model.specs.Task.{Item, Task as Code}
use Rattle.c_model.specs.Task.Item.{Forked, Sync as SyncItem}
use Rattle.c_brackets.specs.Opened.{open_task}
use Rattle.c_brackets.specs.Orderly.{IsOrderly as IsOrderlyCode}
use Rattle.task_pool.specs.declared.task.Condition.TheVariants as condition
use Rattle.task_pool.specs.declared.task.Task.{Task as PoolTask}
use Rattle.task_pool.specs.declared.task.TaskKind.TheVariants as kind
use Rattle.task_pool.specs.Tasks.{is_explicit, is_finished}
use Rattle.task_pool.specs.View.{fresh_task, with_finished, with_started}
use Rattle.omp_model.specs.declared.limits.TheConstants.{IMPLICIT_REGION, INITIAL_TASK}
use Rattle.omp_model.specs.declared.event.Event.{Event}
use Rattle.omp_model.specs.declared.event.Event.TheVariants as event
use Rattle.omp_model.specs.State.{Region, Task, World, no_task, pooled_at, region_at, task_at, task_with}
use Rattle.omp_model.specs.Members.{current, member_index}
use Rattle.omp_model.specs.Changes.{without_code, member_begun, without_current_task, taken_up, task_made}
use Rattle.omp_model.specs.EventEffects.{effect_of, has_forked, member_code}
use Rattle.omp_model.specs.MadeWorld.{IsMadeWorld, IsTask}
use Rattle.omp_model.specs.Conditions.{AreOrderly}
use Rattle.omp_model.proofs.Touching.{TouchesWorld, is_of_code}
use Rattle.omp_model.proofs.Arriving.{Reached}
use Rattle.omp_model.proofs.Conditions.{pooled-added, pooled-other}
use Rattle.omp_model.proofs.GosBeside.{current-started, current-task, member-starts, task-starts}
use Rattle.omp_model.proofs.Later.{at-set}
use Rattle.omp_model.proofs.MadeEvents.{coming}
use Rattle.omp_model.proofs.MadeWords.{at-push}
use Rattle.omp_model.proofs.Moves.{finished-is, started-is}
use Rattle.omp_model.proofs.Reading.{read-more, read-same}
use Rattle.omp_model.proofs.Rewrites.{read-pool}
use Rattle.nested_runs.proofs.Coming.{Comes, ComesToInitial, ComesToInitialEnd, ComesToMember, ComesToMemberEnd, ComesToTaskEnd}
use Rattle.nested_runs.proofs.Effects.{is_at_region_barrier}
use Rattle.nested_runs.proofs.Shown.{opens_at}
use Rattle.nested_runs.proofs.Standing.{HasCourse, is_behind, stand_among, stand_at}
use Rattle.nested_runs.proofs.Standing.Stand.{Free, AtFork}
use Rattle.nested_runs.proofs.Touching.{AreCodes, BeginsAhead, Touches}
use Rattle.nested_runs.proofs.BackCodes.{blank-course, blank-orderly, kind-if}
use Rattle.nested_runs.proofs.Codes.{member-open, member-orderly}
use Rattle.nested_runs.proofs.Courses.{course-begins, course-member}
use Rattle.nested_runs.proofs.GoCodes.{none-open}
use Rattle.nested_runs.proofs.Stands.{stand-member}

-- the codes, where none goes on
pub record CodesBeside (W after : World) (t : ℕ) (event : Event) : Type 0 where
  off : is_of_code event ≡ false
  apart : is_at_region_barrier event ≡ false
  opens : (k : ℕ) → opens_at after k ≡ opens_at W k
  stands : (k : ℕ) → stand_at after k ≡ stand_at W k
  codes : AreCodes after
  behind : (k : ℕ) → k < length W.tasks → (pooled_at W k).kind ≡ kind.Implicit → is_behind (task_at after k).code ≡ is_behind (task_at W k).code
  begins : BeginsAhead W after event

pub touches-beside : (W after : World) (t : ℕ) (e : Event) → TouchesWorld W after t e → CodesBeside W after t e → Touches W after t e
touches-beside W after t e world codes =
    record {
      world = world;
      opens_own = λ is. absurd (true≢false (sym is ∙ codes.off));
      stand_own = λ is. absurd (true≢false (sym is ∙ codes.off));
      opens = λ k other. codes.opens k;
      stands = λ k other. codes.stands k;
      codes = codes.codes;
      behind = λ k within is. codes.behind k within is ∙ sym (ap (λ b. (b && k == current W t) || is_behind (task_at W k).code) codes.apart);
      begins_ahead = codes.begins;
    }

-- the codes of tasks, none of which has changed
codes-still : (W after : World) (t : ℕ) (e : Event) → is_of_code e ≡ false → is_at_region_barrier e ≡ false → BeginsAhead W after e → AreCodes W →
    length after.tasks ≡ length W.tasks →
    ((k : ℕ) → (task_at after k).code ≡ (task_at W k).code) → ((k : ℕ) → (pooled_at after k).kind ≡ (pooled_at W k).kind) → CodesBeside W after t e
codes-still W after t e off apart begins codes count same kinds =
    record {
      off = off;
      apart = apart;
      opens = λ k. ap open_task (same k);
      stands = λ k. ap (λ (x : Code). stand_among x.todo) (same k);
      codes = record {
        none = ap (λ (x : Code). x.todo) (same 0) ∙ codes.none;
        orderly = λ k. rw (same k) (codes.orderly k);
        course = λ k is within. rw (same k) (codes.course k (sym (kinds k) ∙ is) (omega (arith, within, count)));
      };
      behind = λ k within is. ap is_behind (same k);
      begins = begins;
    }

-- the code of one that has ended is left
codes-emptied : (W after : World) (t k : ℕ) (e : Event) → is_of_code e ≡ false → is_at_region_barrier e ≡ false → BeginsAhead W after e → AreCodes W →
    after.tasks ≡ slice_set W.tasks k (record (task_at W k) { code = blank_task }) →
    opens_at W k ≡ [] → stand_at W k ≡ Free → ((pooled_at W k).kind ≡ kind.Implicit → is_behind (task_at W k).code ≡ true) →
    ((j : ℕ) → (pooled_at after j).kind ≡ (pooled_at W j).kind) → CodesBeside W after t e
codes-emptied W after t k e off apart begins codes tasks closed stand behind kinds =
    let blank : Task = record (task_at W k) { code = blank_task } in
    record {
      off = off;
      apart = apart;
      opens = λ j. ap (λ (xs : List Task). open_task (slice_index_or xs j no_task).code) tasks ∙ read-same
          (λ (x : Task). open_task x.code) no_task W.tasks k j blank (none-open ∙ sym closed);
      stands = λ j. ap (λ (xs : List Task). stand_among (slice_index_or xs j no_task).code.todo) tasks ∙ read-same
          (λ (x : Task). stand_among x.code.todo) no_task W.tasks k j blank (sym stand);
      codes = record {
        none = ap (λ (xs : List Task). (slice_index_or xs 0 no_task).code.todo) tasks ∙ at-set
            (λ (x : Task). x.code.todo ≡ []) no_task W.tasks k 0 blank codes.none (λ is. refl);
        orderly = λ j. subst (λ (xs : List Task). IsOrderlyCode (slice_index_or xs j no_task).code) (sym tasks)
            (at-set (λ (x : Task). IsOrderlyCode x.code) no_task W.tasks k j blank (codes.orderly j) (λ is. blank-orderly));
        course = λ j is within. subst (λ (xs : List Task). HasCourse (slice_index_or xs j no_task).code) (sym tasks)
            (at-set (λ (x : Task). HasCourse x.code) no_task W.tasks k j blank
            (codes.course j (sym (kinds j) ∙ is) (omega (arith, within, ap length tasks, length-set W.tasks k blank))) (λ here. blank-course));
      };
      behind = λ j within is. ap (λ (xs : List Task). is_behind (slice_index_or xs j no_task).code) tasks
          ∙ at-set (λ (x : Task). is_behind x.code ≡ is_behind (task_at W j).code) no_task W.tasks k j blank refl
          (λ here. sym (ap (λ i. is_behind (task_at W i).code) here ∙ behind (subst (λ i. (pooled_at W i).kind ≡ kind.Implicit) here is)));
      begins = begins;
    }

-- A task begins, with these regions.

module _ (W : World) (t k : ℕ) (made : IsMadeWorld W) (codes : AreCodes W) (one : IsTask W k) where
  abbrev taken-task : Task
  taken-task = record (task_at W k) { thread = t }

  abbrev beginning : List Region → World
  beginning regions = record (taken_up W t k) { pool = with_started W.pool k; regions = regions }

  beginning-codes : (e : Event) (regions : List Region) → is_of_code e ≡ false → is_at_region_barrier e ≡ false → BeginsAhead W (beginning regions) e →
      CodesBeside W (beginning regions) t e
  beginning-codes e regions off apart begins =
      codes-still W (beginning regions) t e off apart begins codes (length-set W.tasks k taken-task)
      (λ j. read-same (λ (x : Task). x.code) no_task W.tasks k j taken-task refl)
      (λ j. ap (λ (x : PoolTask). x.kind) (read-pool W k condition.Started j made one) ∙ kind-if (j == k) (pooled_at W j) condition.Started)

initial-codes : (W : World) (t : ℕ) → IsMadeWorld W → AreCodes W → ComesToInitial W t →
    CodesBeside W (effect_of W t event.InitialTaskBegin) t event.InitialTaskBegin
unfolding effect_of
initial-codes W t made codes comes =
    let k = INITIAL_TASK in
    subst (λ X. CodesBeside W (member_begun X IMPLICIT_REGION 0 INITIAL_TASK) t event.InitialTaskBegin)
    (sym (started-is (taken_up W t k) k (ap is_finished comes.made)))
    (beginning-codes W t k made codes made.initial event.InitialTaskBegin _ refl refl tt)

-- A task ends.

initial-end-codes : (W : World) (t : ℕ) → IsMadeWorld W → AreOrderly W → AreCodes W → ComesToInitialEnd W t →
    CodesBeside W (effect_of W t event.InitialTaskEnd) t event.InitialTaskEnd
unfolding effect_of
initial-end-codes W t made all codes comes =
    let e = event.InitialTaskEnd in
    let k = INITIAL_TASK in
    let after : World = record (without_current_task W t) { pool = with_finished W.pool k } in
    subst (λ X. CodesBeside W X t e) (sym (finished-is (without_current_task W t) k (current-started W t k all (sym comes.task) comes.within.some)))
    (codes-still W after t e refl refl tt codes refl (λ j. refl)
    (λ j. ap (λ (x : PoolTask). x.kind) (read-pool W k condition.Finished j made made.initial) ∙ kind-if (j == k) (pooled_at W j) condition.Finished))

member-end-codes : (W : World) (t r k : ℕ) → IsMadeWorld W → AreOrderly W → AreCodes W → ComesToMemberEnd W t r k →
    CodesBeside W (effect_of W t (event.MemberEnd r k)) t (event.MemberEnd r k)
unfolding effect_of
member-end-codes W t r k made all codes comes =
    let e = event.MemberEnd r k in
    let one = current-task W t k made comes.task comes.within.some in
    let after : World = without_code (record (without_current_task W t) { pool = with_finished W.pool k }) k in
    subst (λ X. CodesBeside W (without_code X k) t e) (sym (finished-is (without_current_task W t) k (current-started W t k all comes.task comes.within.some)))
    (codes-emptied W after t k e refl refl tt codes refl comes.closed comes.stand (λ is. comes.behind)
    (λ j. ap (λ (x : PoolTask). x.kind) (read-pool W k condition.Finished j made one) ∙ kind-if (j == k) (pooled_at W j) condition.Finished))

task-end-codes : (W : World) (t k : ℕ) → AreCodes W → ComesToTaskEnd W t k → CodesBeside W (effect_of W t (event.TaskEnd k)) t (event.TaskEnd k)
unfolding effect_of
task-end-codes W t k codes comes =
    codes-emptied W (without_code (without_current_task W t) k) t k (event.TaskEnd k) refl refl tt codes refl comes.closed comes.stand
    (λ is. absurd (true≢false (sym comes.explicit ∙ ap is_explicit is))) (λ j. refl)

-- A member's task is made, and begins.

-- the end of a region stands next in the code
forked-stands : (items : List Item) → stand_among items ≡ AtFork → has_forked items ≡ true
forked-stands [] at = cc
forked-stands (Forked construct ∷ items) at = refl
forked-stands (SyncItem tree which stage.RegionBegin ∷ items) at = cc
forked-stands (SyncItem tree which other ∷ items) at = cc
forked-stands (other ∷ items) at = cc

member-code : (P : Code → Type 0) (code : Code) → (has_forked code.todo ≡ true → P (member_task code)) → P blank_task → P (member_code code)
member-code P code region blank = at-fork (has_forked code.todo) refl
  where
    at-fork : (b : Bool) → has_forked code.todo ≡ b → P (if b then member_task code else blank_task)
    at-fork true is = region is
    at-fork false is = blank

module _ (W : World) (t r : ℕ) (made : IsMadeWorld W) (codes : AreCodes W) where
  abbrev parent : ℕ
  parent = (region_at W r).head.task

  abbrev new-code : Code
  new-code = member_code (task_at W parent).code

  abbrev new-task : Task
  new-task = task_with new-code

  abbrev fresh : World
  fresh = task_made W parent r kind.Implicit new-code

  abbrev k : ℕ
  k = length W.tasks

  abbrev begun-task : Task
  begun-task = record (task_at fresh k) { thread = t }

  abbrev member-after : World
  member-after = member_begun (taken_up (record fresh { pool = with_started fresh.pool k }) t k) r (member_index W t r) k

  -- of the code of each task
  member-codes : {A : Type 0} (f : Code → A) → f new-code ≡ f blank_task → (j : ℕ) → f (task_at member-after j).code ≡ f (task_at W j).code
  member-codes f same j = read-same (λ (x : Task). f x.code) no_task fresh.tasks k j begun-task refl ∙ read-more
      (λ (x : Task). f x.code) no_task W.tasks j new-task same

  before-code : (j : ℕ) → j < k → (task_at member-after j).code ≡ (task_at W j).code
  before-code j within = read-same (λ (x : Task). x.code) no_task fresh.tasks k j begun-task refl ∙ ap (λ (x : Task). x.code)
      (get_or_append_left W.tasks (new-task ∷ []) no_task j within)

  last-code : (task_at member-after k).code ≡ new-code
  last-code = read-same (λ (x : Task). x.code) no_task fresh.tasks k k begun-task refl ∙ ap (λ (x : Task). x.code) (get_or_push W.tasks new-task no_task k refl)

  member-course : (j : ℕ) → (pooled_at member-after j).kind ≡ kind.Implicit → j < length member-after.tasks → HasCourse (task_at member-after j).code
  member-course j is within = elim (cases_eq j k) [
    | inl last ↦ subst (λ i. HasCourse (task_at member-after i).code) (sym last)
        (rw last-code (member-code HasCourse (task_at W parent).code (course-begins (task_at W parent).code (codes.orderly parent)) blank-course))
    | inr other ↦
        let before : j < k = at-before k (length member-after.tasks) (length-set fresh.tasks k begun-task ∙ length_push W.tasks new-task) other within in
        rw (before-code j before) (codes.course j (sym (ap (λ (x : PoolTask). x.kind)
        (pooled-other fresh.pool.tasks k condition.Started j other ∙ pooled-added W.pool.tasks (fresh_task parent r kind.Implicit) j
        (λ is. other (is ∙ sym made.pooled)))) ∙ is) before)
  ]
    where
      at-before : (n m : ℕ) → m ≡ n + 1 → (j ≡ n → ⊥) → j < m → j < n
      at-before n m grows other within = elim (cases_eq j n) [ inl same ↦ absurd (other same) | inr differs ↦ omega arith ]

  member-kept : CodesBeside W member-after t (event.MemberBegin r k)
  member-kept =
      record {
        off = refl;
        apart = refl;
        opens = member-codes open_task (member-code (λ code. open_task code ≡ open_task blank_task) (task_at W parent).code
            (λ is. member-open (task_at W parent).code (codes.orderly parent) ∙ sym none-open) refl);
        stands = member-codes (λ (x : Code). stand_among x.todo)
            (member-code (λ (code : Code). stand_among code.todo ≡ Free) (task_at W parent).code (λ is. stand-member (task_at W parent).code) refl);
        codes = record {
          none = ap (λ (x : Code). x.todo) (before-code 0 (omega (arith, made.initial.below))) ∙ codes.none;
          orderly = λ j. at-set (λ (x : Task). IsOrderlyCode x.code) no_task fresh.tasks k j begun-task (orderly-fresh j) (λ is. orderly-fresh k);
          course = member-course;
        };
        behind = λ j within is. ap is_behind (before-code j within);
        begins = λ at. rw last-code (begins-at (forked-stands (task_at W parent).code.todo at));
      }
    where
      orderly-fresh : (j : ℕ) → IsOrderlyCode (task_at fresh j).code
      orderly-fresh j =
          at-push (λ (x : Task). IsOrderlyCode x.code) no_task W.tasks new-task j (codes.orderly j)
          (member-code IsOrderlyCode (task_at W parent).code (λ is. member-orderly (task_at W parent).code (codes.orderly parent)) blank-orderly)

      begins-at : has_forked (task_at W parent).code.todo ≡ true → is_behind new-code ≡ false
      begins-at is = rw is (course-member (task_at W parent).code (codes.orderly parent) is)

member-begun-codes : (W : World) (t r k : ℕ) → IsMadeWorld W → AreOrderly W → AreCodes W → ComesToMember W t r k →
    CodesBeside W (effect_of W t (event.MemberBegin r k)) t (event.MemberBegin r k)
unfolding effect_of
member-begun-codes W t r k made all codes comes =
    subst (λ j. CodesBeside W (effect_of W t (event.MemberBegin r j)) t (event.MemberBegin r j)) (sym comes.task)
    (subst (λ X. CodesBeside W (member_begun (taken_up X t (length W.tasks)) r (member_index W t r) (length W.tasks)) t (event.MemberBegin r (length W.tasks)))
    (sym (member-starts W r made all)) (member-kept W t r made codes))

-- an event beside all code
pub codes-effect : (W : World) (t : ℕ) (e : Event) → IsMadeWorld W → AreOrderly W → AreCodes W → Reached W t e →
    Comes W t e → CodesBeside W (effect_of W t e) t e
unfolding effect_of
codes-effect W t event.ThreadBegin made all codes at comes =
    codes-still W (effect_of W t event.ThreadBegin) t event.ThreadBegin refl refl tt codes refl (λ k. refl) (λ k. refl)
codes-effect W t event.ThreadEnd made all codes at comes = codes-still W W t event.ThreadEnd refl refl tt codes refl (λ k. refl) (λ k. refl)
codes-effect W t event.InitialTaskBegin made all codes at comes = initial-codes W t made codes comes
codes-effect W t event.InitialTaskEnd made all codes at comes = initial-end-codes W t made all codes comes
codes-effect W t (event.MemberBegin r k) made all codes at comes = member-begun-codes W t r k made all codes comes
codes-effect W t (event.MemberEnd r k) made all codes at comes = member-end-codes W t r k made all codes comes
codes-effect W t (event.TaskBegin prior k) made all codes at comes =
    subst (λ X. CodesBeside W X t (event.TaskBegin prior k)) (sym (task-starts W t prior k all at))
    (beginning-codes W t k made codes (coming W t made (event.TaskBegin prior k) at).task.made (event.TaskBegin prior k) W.regions refl refl tt)
codes-effect W t (event.TaskEnd k) made all codes at comes = task-end-codes W t k codes comes
codes-effect W t (event.Dispatch share) made all codes at comes =
    codes-still W (effect_of W t (event.Dispatch share)) t (event.Dispatch share) refl refl tt codes refl (λ k. refl) (λ k. refl)
codes-effect W t other made all codes at comes = absurd at
