-- What the Go of an event of the code leaves of the codes: the current task's goes past the event, and no other changes.
use Rattle.std.proofs.Common.{◌≡◌, ℕ, ◌<◌, ◌≤◌, ◌==◌, ◌&&◌, ◌||◌, Bool, true, false, List, [], drop, length, refl, sym, ap, ◌∙◌, subst, inl, inr, arith}
use Rattle.std.proofs.lemmas.Bool.{cases_eq, eq-eqb, ne_eqb}
use Rattle.std.proofs.lemmas.List.{get_or-set_other, get_or-set_same, length-set}
use Rattle.c_syntax.specs.language.Tree.{Tree}
use Rattle.c_model.specs.declared.point.Point.{Point}
use Rattle.c_model.specs.declared.question.Answer.TheVariants as answer
use Rattle.c_model.specs.Begin.{blank_task}
use Rattle.c_model.specs.AfterEvents.{after_event}
use Rattle.c_model.specs.Step.{silent}
use Rattle.c_model.specs.Task.{Task as Code}
use Rattle.c_model.specs.Task.Outcome.{Occurs}
use Rattle.c_brackets.specs.Effects.{Effect, LeadsTo}
use Rattle.c_brackets.specs.Effects.Effect.{Opens, Leaves}
use Rattle.c_brackets.specs.Opened.{Open, open_calls, open_items, open_task}
use Rattle.c_brackets.specs.Orderly.{IsOrderly as IsOrderlyCode}
use Rattle.c_brackets.specs.Returns.{HasReturnsOutside}
use Rattle.task_pool.specs.declared.task.TaskKind.TheVariants as kind
use Rattle.task_pool.specs.Tasks.{task_at as pool_task_at}
use Rattle.task_pool.specs.View.{PoolView}
use Rattle.omp_model.specs.declared.event.Event.{Event}
use Rattle.omp_model.specs.State.{Run, Task, World, no_task, pooled_at, task_at}
use Rattle.omp_model.specs.Members.{code_of, current, moment_of, view_of}
use Rattle.omp_model.specs.Changes.{with_code}
use Rattle.omp_model.specs.EventEffects.{event_of_point, executes_point, told}
use Rattle.nested_runs.proofs.Effects.{behind_after, effect_of_event, is_at_region_barrier, opens_after, stand_after}
use Rattle.nested_runs.proofs.Shown.{opens_at}
use Rattle.nested_runs.proofs.Standing.{HasCourse, is_behind, stand_among, stand_at}
use Rattle.nested_runs.proofs.Touching.{AreCodes}
use Rattle.nested_runs.proofs.Codes.{answer-open, answer-orderly, event-open, event-orderly}
use Rattle.nested_runs.proofs.Courses.{KeepsCourse, behind-event, course-event, course-told}
use Rattle.nested_runs.proofs.Stands.{effect-is, stand-event}

-- the codes after the Go of an event of the code
pub record CodesAfter (W after : World) (t : ℕ) (event : Event) : Type 0 where
  pub opens_own : opens_at after (current W t) ≡ opens_after (effect_of_event event) (opens_at W (current W t))
  pub stand_own : stand_at after (current W t) ≡ stand_after event
  pub opens : (k : ℕ) → (k ≡ current W t → ⊥) → opens_at after k ≡ opens_at W k
  pub stands : (k : ℕ) → (k ≡ current W t → ⊥) → stand_at after k ≡ stand_at W k
  pub codes : AreCodes after
  pub behind : (k : ℕ) → k < length W.tasks → (pooled_at W k).kind ≡ kind.Implicit →
      is_behind (task_at after k).code ≡ behind_after W t event k (is_behind (task_at W k).code)

-- a world with the same codes, and perhaps a task more, whose code has just begun
pub record SameCodes (W between : World) : Type 0 where
  pub tasks : length W.tasks ≤ length between.tasks
  pub opens : (k : ℕ) → opens_at between k ≡ opens_at W k
  pub stands : (k : ℕ) → stand_at between k ≡ stand_at W k
  pub behind : (k : ℕ) → k < length W.tasks → is_behind (task_at between k).code ≡ is_behind (task_at W k).code
  pub kinds : (k : ℕ) → k < length W.tasks → (pooled_at between k).kind ≡ (pooled_at W k).kind
  pub codes : AreCodes between

-- the code of the current task behind the event
pub record CodePast (W : World) (t : ℕ) (event : Event) (code : Code) : Type 0 where
  pub opens : open_task code ≡ opens_after (effect_of_event event) (opens_at W (current W t))
  pub stand : stand_among code.todo ≡ stand_after event
  pub orderly : IsOrderlyCode code
  pub course : (pooled_at W (current W t)).kind ≡ kind.Implicit → HasCourse code
  pub behind : (pooled_at W (current W t)).kind ≡ kind.Implicit → is_behind code ≡ (is_at_region_barrier event || is_behind (code_of W t))

-- where there is no code nothing is open
pub none-open : open_task blank_task ≡ []
unfolding open_calls open_items
none-open = refl

-- what an effect leads to
leads-after : (effect : Effect) (before behind : List Open) → LeadsTo effect before behind → behind ≡ opens_after effect before
leads-after (Opens one) before behind leads = leads
leads-after Leaves before behind leads = leads
leads-after other before behind leads = sym (ap (drop 1) leads)

module _ (run : Run) (W : World) (t : ℕ) (what : Point) (tree : Tree) (returns : HasReturnsOutside run.program) (codes : AreCodes W)
    (below : current W t < length W.tasks)
    (occurs : silent run.program (view_of W t) (told W t) ≡ Occurs what tree) where
  pub orderly-told : IsOrderlyCode (told W t).task
  orderly-told = answer-orderly (view_of W t) (answer.Free true) (moment_of W t) (codes.orderly (current W t))

  keeps-told : (pooled_at W (current W t)).kind ≡ kind.Implicit → KeepsCourse (code_of W t) (told W t).task
  keeps-told is = course-told (view_of W t) (moment_of W t) (codes.orderly (current W t)) (codes.course (current W t) is below)

  pub code-past : CodePast W t (event_of_point W t what) (after_event (view_of W t) what (executes_point W t what) (told W t).task)
  code-past =
      let view = view_of W t in
      let now = told W t in
      let executes = executes_point W t what in
      record {
        opens = rw (← effect-is W t what, ← answer-open view (answer.Free true) (moment_of W t) (codes.orderly (current W t)))
            (leads-after _ _ _ (event-open run.program returns view what executes now tree orderly-told occurs));
        stand = stand-event W t run.program view now what executes tree returns orderly-told occurs;
        orderly = event-orderly run.program returns view what executes now tree orderly-told occurs;
        course = λ is. course-event W t run.program view now what executes tree returns orderly-told (keeps-told is).course occurs;
        behind = λ is. behind-event W t run.program view now what executes tree returns orderly-told (keeps-told is).course occurs
            ∙ ap (λ b. is_at_region_barrier (event_of_point W t what) || b) (keeps-told is).behind;
      }

-- the code is written
module _ (W between : World) (t : ℕ) (event : Event) (code : Code) (same : SameCodes W between) (past : CodePast W t event code) (some : 1 ≤ current W t)
    (below : current W t < length W.tasks) where
  abbrev after : World
  after = with_code between (current W t) code

  own-code : (task_at after (current W t)).code ≡ code
  own-code = ap (λ (task : Task). task.code) (get_or-set_same between.tasks (current W t) (record (task_at between (current W t)) { code = code }) no_task
      (omega (arith, below, same.tasks)))

  other-code : (k : ℕ) → (k ≡ current W t → ⊥) → (task_at after k).code ≡ (task_at between k).code
  other-code k other = ap (λ (task : Task). task.code)
      (get_or-set_other between.tasks (current W t) k (record (task_at between (current W t)) { code = code }) no_task other)

  either-code : (P : Code → Type 0) (k : ℕ) → (k ≡ current W t → P code) → ((k ≡ current W t → ⊥) → P (task_at between k).code) → P (task_at after k).code
  either-code P k own others = elim (cases_eq k (current W t)) [
    | inl is ↦ subst (λ j. P (task_at after j).code) (sym is) (subst P (sym own-code) (own is))
    | inr other ↦ subst P (sym (other-code k other)) (others other)
  ]

  behind-at : (k : ℕ) → k < length W.tasks → (pooled_at W k).kind ≡ kind.Implicit →
      is_behind (task_at after k).code ≡ behind_after W t event k (is_behind (task_at W k).code)
  behind-at k within is = elim (cases_eq k (current W t)) [
    | inl here ↦ subst (λ j. is_behind (task_at after j).code ≡ behind_after W t event j (is_behind (task_at W j).code)) (sym here)
        (ap is_behind own-code ∙ past.behind (subst (λ j. (pooled_at W j).kind ≡ kind.Implicit) here is) ∙ at-own (is_at_region_barrier event))
    | inr other ↦ ap is_behind (other-code k other) ∙ same.behind k within ∙ at-other (is_at_region_barrier event) other
  ]
    where
      at-own : (b : Bool) → (b || is_behind (code_of W t)) ≡ ((b && current W t == current W t) || is_behind (code_of W t))
      at-own true = rw (eq-eqb (current W t) (current W t) refl) refl
      at-own false = refl

      at-other : (b : Bool) → (k ≡ current W t → ⊥) → is_behind (task_at W k).code ≡ ((b && k == current W t) || is_behind (task_at W k).code)
      at-other true other = rw (ne_eqb k (current W t) other) refl
      at-other false other = refl

  pub codes-past : CodesAfter W after t event
  codes-past =
      record {
        opens_own = ap open_task own-code ∙ past.opens;
        stand_own = ap (λ (x : Code). stand_among x.todo) own-code ∙ past.stand;
        opens = λ k other. ap open_task (other-code k other) ∙ same.opens k;
        stands = λ k other. ap (λ (x : Code). stand_among x.todo) (other-code k other) ∙ same.stands k;
        codes = record {
          none = ap (λ (x : Code). x.todo) (other-code 0 (λ is. omega (arith, some))) ∙ same.codes.none;
          orderly = λ k. either-code IsOrderlyCode k (λ is. past.orderly) (λ other. same.codes.orderly k);
          course = λ k is within.
              let inside : k < length between.tasks =
              omega (arith, within, length-set between.tasks (current W t) (record (task_at between (current W t)) { code = code })) in
              either-code HasCourse k (λ here. past.course
              (sym (same.kinds (current W t) below) ∙ subst (λ j. (pooled_at between j).kind ≡ kind.Implicit) here is))
              (λ other. same.codes.course k is inside);
        };
        behind = behind-at;
      }

-- the same tasks, as far as their codes go
pub record SameTasks (W between : World) : Type 0 where
  pub tasks : length between.tasks ≡ length W.tasks
  pub code : (k : ℕ) → (task_at between k).code ≡ (task_at W k).code
  pub pool : between.pool ≡ W.pool

pub same-codes : (W between : World) → AreCodes W → SameTasks W between → SameCodes W between
same-codes W between codes same =
    record {
      tasks = omega (arith, same.tasks);
      opens = λ k. ap open_task (same.code k);
      stands = λ k. ap (λ (x : Code). stand_among x.todo) (same.code k);
      behind = λ k within. ap is_behind (same.code k);
      kinds = λ k within. kind-at k;
      codes = record {
        none = ap (λ (x : Code). x.todo) (same.code 0) ∙ codes.none;
        orderly = λ k. rw (same.code k) (codes.orderly k);
        course = λ k is within. rw (same.code k) (codes.course k (sym (kind-at k) ∙ is) (omega (arith, within, same.tasks)));
      };
    }
  where
    kind-at : (k : ℕ) → (pooled_at between k).kind ≡ (pooled_at W k).kind
    kind-at k = ap (λ (pool : PoolView). (pool_task_at pool.tasks k).kind) same.pool
