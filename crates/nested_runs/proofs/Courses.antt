-- The course of a member's code: the barrier of its region is ahead, and from that barrier's first event on it is behind.
use Rattle.std.proofs.Common.{ℕ, ℤ, ◌≡◌, ◌||◌, ◌&&◌, ◌==◌, ◌⊎◌, ◌++◌, not, length, if◌then◌else◌, Bool, true, false, List, [], ◌∷◌, Option, Some, None, refl, ap, sym, ◌∙◌, subst, inl, inr}
use Rattle.std.specs.Prelude.{pos}
use Rattle.c_syntax.specs.declared.node.Directive.TheVariants as directive
use Rattle.c_syntax.specs.declared.node.NodeKind.TheVariants as node
use Rattle.c_syntax.specs.language.Numbered.{TreeView}
use Rattle.c_syntax.specs.language.Tree.{Tree, kind_of}
use Rattle.c_syntax.specs.language.Tree.Tree.{Node}
use Rattle.c_model.specs.declared.point.Point.{Point}
use Rattle.c_model.specs.declared.point.Point.TheVariants as point
use Rattle.c_model.specs.declared.point.SyncKind.{SyncKind}
use Rattle.c_model.specs.declared.point.SyncKind.TheVariants as sync
use Rattle.c_model.specs.declared.point.SyncStage.{SyncStage}
use Rattle.c_model.specs.declared.point.SyncStage.TheVariants as stage
use Rattle.c_model.specs.declared.point.Target.{Target}
use Rattle.c_model.specs.declared.point.Work.{Work}
use Rattle.c_model.specs.declared.point.Work.TheVariants as work
use Rattle.c_model.specs.declared.question.Answer.{Answer}
use Rattle.c_model.specs.declared.question.Answer.TheVariants as answer
use Rattle.c_model.specs.declared.question.Ask.{Ask}
use Rattle.c_model.specs.declared.view.View.{View}
use Rattle.c_model.specs.Begin.{forked_construct, member_statement, member_task}
use Rattle.c_model.specs.Clauses.{construct_statement}
use Rattle.c_model.specs.Copies.{combines, makes_cells}
use Rattle.c_model.specs.AfterEvents.{after_answer, after_event, answered_at, items_after, items_answered, items_of_chunk, items_of_section, items_of_test, next_stage, passed_at}
use Rattle.c_model.specs.Program.{place_of}
use Rattle.c_model.specs.Step.{is_masked, skips_masked, items_from_next, settled_moment, settled_task, silent, step_at}
use Rattle.c_model.specs.Task.{Item, Moment, OpenCall, SharedLoop, Task as Code}
use Rattle.c_model.specs.Task.Item.{Forked, NextChunk, NextSection, Start, Sync, TestLock}
use Rattle.c_model.specs.Task.Outcome.{Asks, Ends, Occurs, StepsTo}
use Rattle.c_brackets.specs.Orderly.{AreInOrder, HasNoReturn, IsFramed, IsOrderly, IsProper, falls_off, has_calls, may_return}
use Rattle.c_brackets.specs.Returns.{HasReturnsOutside}
use Rattle.c_brackets.proofs.OpenLists.{never}
use Rattle.c_brackets.proofs.ReturnTrees.{section_free, statement_free}
use Rattle.c_brackets.proofs.TurningTasks.{here_at, settled_is_orderly}
use Rattle.omp_model.specs.State.{World}
use Rattle.omp_model.specs.EventEffects.{event_of_point, has_forked}
use Rattle.nested_runs.proofs.Effects.{is_at_region_barrier, is_in_region_barrier}
use Rattle.nested_runs.proofs.Standing.{HasCourse, ends_behind, has_begun, is_ahead, is_behind, is_region_barrier}
use Rattle.nested_runs.proofs.CourseItems.{AreAllowed, ahead-behind, ahead-more, ahead-not-behind, allowed-both, combines-allowed, ends-more, first-true, iterations-allowed, makes-allowed, value-allowed}
use Rattle.nested_runs.proofs.CourseSteps.{GoesAhead, LeadsAlong, Walks, is_barrier_point, walked}

-- the code goes on and has come no further on its course
pub record KeepsCourse (before after : Code) : Type 0 where
  pub course : HasCourse after
  pub behind : is_behind after ≡ is_behind before

-- Code is behind, or ahead.
record IsAhead (code : Code) : Type 0 where
  ahead : is_ahead code.todo code.calls ≡ true
  apart : is_behind code ≡ false

known : (is : Bool) → (is ≡ true) ⊎ (is ≡ false)
known true = inl refl
known false = inr refl

which-course : (code : Code) → HasCourse code → (is_behind code ≡ true) ⊎ IsAhead code
which-course code course = elim (known (is_behind code)) [ inl behind ↦ inl behind | inr apart ↦ inr (record { ahead = course apart; apart = apart }) ]

ahead-course : (before after : Code) → is_behind before ≡ false → is_ahead after.todo after.calls ≡ true → KeepsCourse before after
ahead-course before after apart ahead = record { course = λ none. ahead; behind = ahead-not-behind after.todo after.calls ahead ∙ sym apart }

-- a member's code begins ahead, where the task that has forked the region stands at its end
statement-allowed : (construct : Tree) (names : ℕ) → HasNoReturn construct
    → AreAllowed false (makes_cells construct ++ Start (construct_statement construct) ∷ combines construct names)
statement-allowed construct names free =
    allowed-both false (makes_cells construct) (Start (construct_statement construct) ∷ combines construct names) (makes-allowed false construct)
    ((refl, λ has. absurd (statement_free construct free has)), combines-allowed false construct names)

member-allowed : (construct : Tree) (names : ℕ) → HasNoReturn construct → AreAllowed false (member_statement (kind_of construct) construct names)
member-allowed (Node (node.Construct directive.ParallelFor) spot name number text children) names free = ((refl, λ has. never has), tt)
member-allowed (Node (node.Construct directive.ParallelSections) spot name number text children) names free = ((refl, λ has. never has), tt)
member-allowed (Node kind spot name number text children) names free = statement-allowed (Node kind spot name number text children) names free

forked-proper : (items : List Item) → AreInOrder items → has_forked items ≡ true → HasNoReturn (forked_construct items)
unfolding AreInOrder
forked-proper [] are has = absurd (cc)
forked-proper (Forked construct ∷ items) are has = are.0.0
forked-proper (item ∷ items) are has = absurd (cc)

member-ahead : (code : Code) → IsOrderly code → has_forked code.todo ≡ true → is_ahead (member_task code).todo (member_task code).calls ≡ true
member-ahead code orderly at =
    let construct = forked_construct code.todo in
    ends-more false (member_statement (kind_of construct) construct (length code.env)) (Sync construct sync.Parallel stage.RegionBegin ∷ [])
    (member-allowed construct (length code.env) (forked-proper code.todo orderly.now at)) refl refl

pub course-member : (code : Code) → IsOrderly code → has_forked code.todo ≡ true → is_behind (member_task code) ≡ false
course-member code orderly at = ahead-not-behind (member_task code).todo (member_task code).calls (member-ahead code orderly at)

pub course-begins : (code : Code) → IsOrderly code → has_forked code.todo ≡ true → HasCourse (member_task code)
course-begins code orderly at = λ apart. member-ahead code orderly at

-- what a task goes past
settled-chosen : (passed : Bool) (tree : Tree) (items settled : List Item) (calls : List OpenCall)
    → (is_ahead items calls ≡ true → is_ahead settled calls ≡ true)
    → is_ahead (Start tree ∷ items) calls ≡ true → is_ahead (if passed then settled else Start tree ∷ items) calls ≡ true
settled-chosen true tree items settled calls keeps ahead = keeps (ahead-behind (Start tree) items calls refl ahead)
settled-chosen false tree items settled calls keeps ahead = ahead

settled-by : (view : View) (item : Item) (items settled : List Item) (calls : List OpenCall) → (is_ahead items calls ≡ true → is_ahead settled calls ≡ true)
    → is_ahead (item ∷ items) calls ≡ true → is_ahead (if skips_masked item view then settled else item ∷ items) calls ≡ true
settled-by view (Start tree) items settled calls keeps ahead =
    settled-chosen (is_masked (kind_of tree) && not (view.index == 0)) tree items settled calls keeps ahead
settled-by view item items settled calls keeps ahead = ahead

settled-ahead : (view : View) (items : List Item) (calls : List OpenCall) → is_ahead items calls ≡ true → is_ahead (items_from_next view items) calls ≡ true
unfolding items_from_next
settled-ahead view [] calls ahead = ahead
settled-ahead view (item ∷ items) calls ahead = settled-by view item items (items_from_next view items) calls (settled-ahead view items calls) ahead

settled-behind : (view : View) (items : List Item) → ends_behind items ≡ true → items_from_next view items ≡ items
unfolding items_from_next
settled-behind view [] behind = refl
settled-behind view (Sync tree kind at ∷ items) behind = refl
settled-behind view (item ∷ items) behind = absurd (cc)

behind-settled : (view : View) (code : Code) → is_behind code ≡ true → is_behind (settled_task view code) ≡ true
behind-settled view code behind =
    ap (λ (items : List Item). ends_behind items && not (has_calls code.calls))
    (settled-behind view code.todo (first-true (ends_behind code.todo) (not (has_calls code.calls)) behind)) ∙ behind

behind-course : (before after : Code) → is_behind before ≡ true → is_behind after ≡ true → KeepsCourse before after
behind-course before after is also = record { course = λ apart. absurd (cc); behind = also ∙ sym is }

pub course-settled : (view : View) (code : Code) → IsOrderly code → HasCourse code → KeepsCourse code (settled_task view code)
course-settled view code orderly course =
    elim (which-course code course) [
      | inl behind ↦ behind-course code (settled_task view code) behind (behind-settled view code behind)
      | inr ahead ↦ ahead-course code (settled_task view code) ahead.apart (settled-ahead view code.todo code.calls ahead.ahead)
    ]

-- what is behind stands at an event of the barrier, or has ended
step-apart : (program : TreeView) (view : View) (now next : Moment) (items : List Item) → ends_behind items ≡ true
    → step_at items program view now ≡ StepsTo next → ⊥
step-apart program view now next [] behind is = cc
step-apart program view now next (Sync tree kind at ∷ items) behind is = cc
step-apart program view now next (item ∷ items) behind is = cc

asks-apart : (program : TreeView) (view : View) (now : Moment) (what : Ask) (tree : Tree) (items : List Item) → ends_behind items ≡ true
    → step_at items program view now ≡ Asks what tree → ⊥
asks-apart program view now what tree [] behind is = cc
asks-apart program view now what tree (Sync at-tree kind at ∷ items) behind is = cc
asks-apart program view now what tree (item ∷ items) behind is = cc

settled-ends : (view : View) (code : Code) → is_behind code ≡ true → ends_behind (settled_task view code).todo ≡ true
settled-ends view code behind = first-true (ends_behind (settled_task view code).todo) (not (has_calls code.calls)) (behind-settled view code behind)

-- a silent step
step-ahead : (program : TreeView) (view : View) (now next : Moment) (items : List Item) → AreInOrder items → is_ahead items now.task.calls ≡ true
    → step_at items program view now ≡ StepsTo next → is_ahead next.task.todo next.task.calls ≡ true
unfolding Walks
step-ahead program view now next [] are ahead is = absurd (cc)
step-ahead program view now next (item ∷ items) are ahead is =
    let goes : GoesAhead (here_at program view now items) item next = walked program view now item items (StepsTo next) are is in goes.ahead ahead

pub course-step : (program : TreeView) (view : View) (now next : Moment) → HasReturnsOutside program → IsOrderly now.task → HasCourse now.task
    → silent program view now ≡ StepsTo next
    → KeepsCourse now.task next.task
unfolding silent
course-step program view now next returns orderly course is =
    elim (which-course now.task course) [
      | inl behind ↦ absurd (step-apart program view now next (settled_task view now.task).todo (settled-ends view now.task behind) is)
      | inr ahead ↦ ahead-course now.task next.task ahead.apart
          (step-ahead program view now next (settled_task view now.task).todo (settled_is_orderly view now.task orderly).now
          (settled-ahead view now.task.todo now.task.calls ahead.ahead) is)
    ]

-- an answer
chunk-allowed : (loop : SharedLoop) (chunk : Option (ℕ × ℕ)) → AreAllowed false (items_of_chunk loop chunk)
chunk-allowed loop (Some chunk) = (iterations-allowed false loop chunk.0 _, tt)
chunk-allowed loop None = allowed-both false (combines loop.construct loop.names) _ (combines-allowed false loop.construct loop.names)
    ((refl, λ has. never has), tt)

section-allowed : (construct : Tree) (names : ℕ) (section : Option ℕ) → HasNoReturn construct → AreAllowed false (items_of_section construct names section)
section-allowed construct names (Some section) free = ((refl, λ has. absurd (section_free construct free section has)), ((refl, λ has. never has), tt))
section-allowed construct names None free = allowed-both false (combines construct names) _ (combines-allowed false construct names)
    ((refl, λ has. never has), tt)

test-allowed : (tree : Tree) (id : ℕ) (to : Target) (free : Bool) → AreAllowed (may_return (TestLock tree id to)) (items_of_test tree id to free)
test-allowed tree id to true = ((refl, λ has. never has), ((refl, λ has. has), tt))
test-allowed tree id to false = value-allowed (may_return (TestLock tree id to)) to (pos 0) (λ has. has)

answered-ahead : (given : Answer) (item : Item) (items : List Item) (calls : List OpenCall) → IsProper item → is_ahead (item ∷ items) calls ≡ true
    → is_ahead (items_answered given item ++ items) calls ≡ true
answered-ahead (answer.Chunk chunk) (NextChunk loop) items calls proper ahead =
    ahead-more (NextChunk loop) (items_of_chunk loop chunk) items calls refl (chunk-allowed loop chunk) ahead
answered-ahead (answer.Section section) (NextSection construct names) items calls proper ahead =
    ahead-more (NextSection construct names) (items_of_section construct names section) items calls refl (section-allowed construct names section proper) ahead
answered-ahead (answer.Free free) (TestLock tree id to) items calls proper ahead =
    ahead-more (TestLock tree id to) (items_of_test tree id to free) items calls refl (test-allowed tree id to free) ahead
answered-ahead given item items calls proper ahead = ahead

answer-ahead : (given : Answer) (items : List Item) (now : Moment) → AreInOrder items → is_ahead now.task.todo now.task.calls ≡ true
    → is_ahead items now.task.calls ≡ true
    → is_ahead (answered_at items given now).task.todo (answered_at items given now).task.calls ≡ true
unfolding AreInOrder
answer-ahead given [] now are kept ahead = kept
answer-ahead given (item ∷ items) now are kept ahead = answered-ahead given item items now.task.calls are.0.0 ahead

course-ahead : (view : View) (given : Answer) (now : Moment) → IsOrderly now.task → IsAhead now.task → KeepsCourse now.task (after_answer view given now).task
course-ahead view given now orderly ahead =
    let settled = settled-ahead view now.task.todo now.task.calls ahead.ahead in
    ahead-course now.task (after_answer view given now).task ahead.apart
    (answer-ahead given (settled_task view now.task).todo (settled_moment view now) (settled_is_orderly view now.task orderly).now settled settled)

pub course-answer : (program : TreeView) (view : View) (given : Answer) (now : Moment) (what : Ask) (tree : Tree) → IsOrderly now.task → HasCourse now.task
    → silent program view now ≡ Asks what tree
    → KeepsCourse now.task (after_answer view given now).task
unfolding silent
course-answer program view given now what tree orderly course is =
    elim (which-course now.task course) [
      | inl behind ↦ absurd (asks-apart program view now what tree (settled_task view now.task).todo (settled-ends view now.task behind) is)
      | inr ahead ↦ course-ahead view given now orderly ahead
    ]

told-behind : (items : List Item) (now : Moment) → now.task.todo ≡ items → is_behind now.task ≡ true
    → is_behind (answered_at items (answer.Free true) now).task ≡ true
told-behind [] now same behind = behind
told-behind (TestLock tree id to ∷ items) now same behind = absurd (cc)
told-behind (item ∷ items) now same behind = subst (λ (todo : List Item). (ends_behind todo && not (has_calls now.task.calls)) ≡ true) same behind

pub course-told : (view : View) (now : Moment) → IsOrderly now.task → HasCourse now.task → KeepsCourse now.task (after_answer view (answer.Free true) now).task
course-told view now orderly course =
    elim (which-course now.task course) [
      | inl behind ↦ behind-course now.task (after_answer view (answer.Free true) now).task behind
          (told-behind (settled_task view now.task).todo (settled_moment view now) refl (behind-settled view now.task behind))
      | inr ahead ↦ course-ahead view (answer.Free true) now orderly ahead
    ]

-- a member's code is behind at the events of its region's barrier but for the first, and at no others; and behind each of them
work-none : (W : World) (t codeptr : ℕ) (begun : Work) → is_at_region_barrier (event_of_point W t (point.WorkBegin codeptr begun)) ≡ false
work-none W t codeptr (work.Loop start count step schedule) = refl
work-none W t codeptr (work.Sections count) = refl
work-none W t codeptr work.Single = refl

sync-at : (codeptr : ℕ) (which : SyncKind) (at : SyncStage) (W : World) (t : ℕ)
    → is_at_region_barrier (event_of_point W t (point.Sync codeptr which at)) ≡ is_barrier_point (point.Sync codeptr which at)
sync-at codeptr sync.Barrier at W t = refl
sync-at codeptr sync.Taskwait at W t = refl
sync-at codeptr sync.Worksharing at W t = refl
sync-at codeptr sync.Parallel at W t = refl

at-barrier : (W : World) (t : ℕ) (what : Point) → is_at_region_barrier (event_of_point W t what) ≡ is_barrier_point what
at-barrier W t (point.WorkBegin codeptr begun) = work-none W t codeptr begun
at-barrier W t (point.Sync codeptr which at) = sync-at codeptr which at W t
at-barrier W t other = refl

work-in-none : (W : World) (t codeptr : ℕ) (begun : Work) → is_in_region_barrier (event_of_point W t (point.WorkBegin codeptr begun)) ≡ false
work-in-none W t codeptr (work.Loop start count step schedule) = refl
work-in-none W t codeptr (work.Sections count) = refl
work-in-none W t codeptr work.Single = refl

sync-in-none : (codeptr : ℕ) (which : SyncKind) (at : SyncStage) (W : World) (t : ℕ) → is_barrier_point (point.Sync codeptr which at) ≡ false
    → is_in_region_barrier (event_of_point W t (point.Sync codeptr which at)) ≡ false
sync-in-none codeptr sync.Barrier at W t none = refl
sync-in-none codeptr sync.Taskwait at W t none = refl
sync-in-none codeptr sync.Worksharing at W t none = refl
sync-in-none codeptr sync.Parallel at W t none = absurd (cc)

in-none : (W : World) (t : ℕ) (what : Point) → is_barrier_point what ≡ false → is_in_region_barrier (event_of_point W t what) ≡ false
in-none W t (point.WorkBegin codeptr begun) none = work-in-none W t codeptr begun
in-none W t (point.Sync codeptr which at) none = sync-in-none codeptr which at W t none
in-none W t other none = refl

-- Where an event leads of the first of these items, if they are behind or ahead.
abbrev OneOf : List Item → List OpenCall → Type 0
OneOf items calls = ((ends_behind items && not (has_calls calls)) ≡ true) ⊎ (is_ahead items calls ≡ true)

record IsOnCourse (W : World) (t : ℕ) (items : List Item) (calls : List OpenCall) (after : Code) (what : Point) : Type 0 where
  within : (ends_behind items && not (has_calls calls)) ≡ is_in_region_barrier (event_of_point W t what)
  course : HasCourse after
  behind : is_behind after ≡ (is_at_region_barrier (event_of_point W t what) || (ends_behind items && not (has_calls calls)))

-- .. the region's barrier
more-none : (tree : Tree) (at : SyncStage) (other : Item) (items : List Item) (calls : List OpenCall) → OneOf (Sync tree sync.Parallel at ∷ other ∷ items) calls
    → ⊥
more-none tree at other items (call ∷ calls) either = elim either [ inl behind ↦ cc | inr ahead ↦ cc ]
more-none tree stage.RegionBegin other items [] either = elim either [ inl behind ↦ cc | inr ahead ↦ cc ]
more-none tree stage.WaitBegin other items [] either = elim either [ inl behind ↦ cc | inr ahead ↦ cc ]
more-none tree stage.WaitEnd other items [] either = elim either [ inl behind ↦ cc | inr ahead ↦ cc ]
more-none tree stage.RegionEnd other items [] either = elim either [ inl behind ↦ cc | inr ahead ↦ cc ]

called-none : (tree : Tree) (at : SyncStage) (call : OpenCall) (calls : List OpenCall) → OneOf (Sync tree sync.Parallel at ∷ []) (call ∷ calls) → ⊥
called-none tree stage.RegionBegin call calls either = elim either [ inl behind ↦ cc | inr ahead ↦ cc ]
called-none tree stage.WaitBegin call calls either = elim either [ inl behind ↦ cc | inr ahead ↦ cc ]
called-none tree stage.WaitEnd call calls either = elim either [ inl behind ↦ cc | inr ahead ↦ cc ]
called-none tree stage.RegionEnd call calls either = elim either [ inl behind ↦ cc | inr ahead ↦ cc ]

begun-behind : (at : SyncStage) → (has_begun at && true) ≡ has_begun at
begun-behind stage.RegionBegin = refl
begun-behind stage.WaitBegin = refl
begun-behind stage.WaitEnd = refl
begun-behind stage.RegionEnd = refl

next-behind : (tree : Tree) (at : SyncStage) → (ends_behind (next_stage tree sync.Parallel at) && true) ≡ true
next-behind tree stage.RegionBegin = refl
next-behind tree stage.WaitBegin = refl
next-behind tree stage.WaitEnd = refl
next-behind tree stage.RegionEnd = refl

barrier-alone : (W : World) (t codeptr : ℕ) (tree : Tree) (at : SyncStage) (after : Code) → after.todo ≡ next_stage tree sync.Parallel at → after.calls ≡ []
    → IsOnCourse W t (Sync tree sync.Parallel at ∷ []) [] after (point.Sync codeptr sync.Parallel at)
barrier-alone W t codeptr tree at after todo calls =
    let over : is_behind after ≡ true =
    ap (λ (calls : List OpenCall). ends_behind after.todo && not (has_calls calls)) calls
    ∙ ap (λ (items : List Item). ends_behind items && true) todo ∙ next-behind tree at in
    record { within = begun-behind at; course = λ apart. absurd (cc); behind = over }

append-none : (items : List Item) → items ++ [] ≡ items
append-none [] = refl
append-none (item ∷ items) = ap (λ (items : List Item). item ∷ items) (append-none items)

barrier-course : (W : World) (t codeptr : ℕ) (tree : Tree) (at : SyncStage) (items : List Item) (calls : List OpenCall) (after : Code)
    → after.todo ≡ next_stage tree sync.Parallel at ++ items → after.calls ≡ calls → OneOf (Sync tree sync.Parallel at ∷ items) calls
    → IsOnCourse W t (Sync tree sync.Parallel at ∷ items) calls after (point.Sync codeptr sync.Parallel at)
barrier-course W t codeptr tree at [] [] after todo same either =
    barrier-alone W t codeptr tree at after (todo ∙ append-none (next_stage tree sync.Parallel at)) same
barrier-course W t codeptr tree at [] (call ∷ calls) after todo same either = absurd (called-none tree at call calls either)
barrier-course W t codeptr tree at (other ∷ items) calls after todo same either = absurd (more-none tree at other items calls either)

barrier-event : (W : World) (t : ℕ) (program : TreeView) (view : View) (now : Moment) (what : Point) (executes : Bool) (tree at-tree : Tree)
    (kind : SyncKind) (at : SyncStage) (items : List Item) (code : Code) → step_at (Sync at-tree kind at ∷ items) program view now ≡ Occurs what tree
    → is_region_barrier (Sync at-tree kind at) ≡ true
    → OneOf (Sync at-tree kind at ∷ items) code.calls
    → IsOnCourse W t (Sync at-tree kind at ∷ items) code.calls (passed_at (Sync at-tree kind at ∷ items) what executes code) what
barrier-event W t program view now what executes tree at-tree sync.Barrier at items code is barrier either = absurd (cc)
barrier-event W t program view now what executes tree at-tree sync.Taskwait at items code is barrier either = absurd (cc)
barrier-event W t program view now what executes tree at-tree sync.Worksharing at items code is barrier either = absurd (cc)
barrier-event W t program view now what executes tree at-tree sync.Parallel at items code is barrier either =
    let same : point.Sync (place_of at-tree) sync.Parallel at ≡ what = cc in
    let all = Sync at-tree sync.Parallel at ∷ items in
    subst (λ (what : Point). IsOnCourse W t all code.calls (passed_at all what executes code) what) same
    (barrier-course W t (place_of at-tree) at-tree at items code.calls
    (passed_at all (point.Sync (place_of at-tree) sync.Parallel at) executes code) refl refl either)

-- .. another item
behind-barrier : (item : Item) (items : List Item) → ends_behind (item ∷ items) ≡ true → is_region_barrier item ≡ true
behind-barrier (Sync tree kind at) items behind = at-kind kind at items behind
  where
    at-kind : (kind : SyncKind) (at : SyncStage) (items : List Item) → ends_behind (Sync tree kind at ∷ items) ≡ true
        → is_region_barrier (Sync tree kind at) ≡ true
    at-kind sync.Barrier at items behind = absurd (cc)
    at-kind sync.Taskwait at items behind = absurd (cc)
    at-kind sync.Worksharing at items behind = absurd (cc)
    at-kind sync.Parallel at items behind = refl
behind-barrier item items behind = absurd (cc)

plain-ahead : (item : Item) (items : List Item) (calls : List OpenCall) → is_region_barrier item ≡ false → OneOf (item ∷ items) calls
    → is_ahead (item ∷ items) calls ≡ true
plain-ahead item items calls plain either =
    elim either [
      | inl behind ↦ (let barrier = behind-barrier item items (first-true (ends_behind (item ∷ items)) (not (has_calls calls)) behind) in absurd (cc))
      | inr ahead ↦ ahead
    ]

plain-event : (W : World) (t : ℕ) (what : Point) (executes : Bool) (item : Item) (items : List Item) (code : Code) → LeadsAlong item what
    → is_region_barrier item ≡ false
    → is_ahead (item ∷ items) code.calls ≡ true → IsOnCourse W t (item ∷ items) code.calls (passed_at (item ∷ items) what executes code) what
plain-event W t what executes item items code leads plain ahead =
    let apart = ahead-not-behind (item ∷ items) code.calls ahead in
    let next = ahead-more item (items_after what executes (length code.env) item) items code.calls plain
    (leads.allowed executes (length code.env) plain) ahead in
    let none : is_barrier_point what ≡ false = leads.same ∙ plain in
    record {
      within = apart ∙ sym (in-none W t what none);
      course = λ is. next;
      behind = ahead-not-behind (items_after what executes (length code.env) item ++ items) code.calls next
          ∙ sym (ap (λ (at : Bool). at || (ends_behind (item ∷ items) && not (has_calls code.calls))) (at-barrier W t what ∙ none) ∙ apart);
    }

event-by : (W : World) (t : ℕ) (program : TreeView) (view : View) (now : Moment) (what : Point) (executes : Bool) (tree : Tree) (item : Item)
    (items : List Item) (code : Code) → step_at (item ∷ items) program view now ≡ Occurs what tree → LeadsAlong item what → OneOf (item ∷ items) code.calls
    → (is : Bool) → is_region_barrier item ≡ is
    → IsOnCourse W t (item ∷ items) code.calls (passed_at (item ∷ items) what executes code) what
event-by W t program view now what executes tree item items code comes leads either false plain =
    plain-event W t what executes item items code leads plain (plain-ahead item items code.calls plain either)
event-by W t program view now what executes tree (Sync at-tree kind at) items code comes leads either true barrier =
    barrier-event W t program view now what executes tree at-tree kind at items code comes barrier either
event-by W t program view now what executes tree item items code comes leads either true barrier = absurd (cc)

event-on : (W : World) (t : ℕ) (program : TreeView) (view : View) (now : Moment) (what : Point) (executes : Bool) (tree : Tree) (items : List Item)
    (code : Code) → AreInOrder items
    → step_at items program view now ≡ Occurs what tree → OneOf items code.calls → IsOnCourse W t items code.calls (passed_at items what executes code) what
unfolding Walks
event-on W t program view now what executes tree [] code are comes either = absurd (cc)
event-on W t program view now what executes tree (item ∷ items) code are comes either =
    let leads : LeadsAlong item what = walked program view now item items (Occurs what tree) are comes in
    event-by W t program view now what executes tree item items code comes leads either (is_region_barrier item) refl

event-of : (W : World) (t : ℕ) (program : TreeView) (view : View) (now : Moment) (what : Point) (executes : Bool) (tree : Tree) → IsOrderly now.task
    → HasCourse now.task
    → silent program view now ≡ Occurs what tree
    → IsOnCourse W t (settled_task view now.task).todo now.task.calls (after_event view what executes now.task) what
unfolding silent
event-of W t program view now what executes tree orderly course is =
    let either : OneOf (settled_task view now.task).todo now.task.calls = elim (which-course now.task course) [
      | inl behind ↦ inl (behind-settled view now.task behind)
      | inr ahead ↦ inr (settled-ahead view now.task.todo now.task.calls ahead.ahead)
    ] in
    event-on W t program view now what executes tree (settled_task view now.task).todo (settled_task view now.task)
    (settled_is_orderly view now.task orderly).now is either

pub course-occurs : (W : World) (t : ℕ) (program : TreeView) (view : View) (now : Moment) (what : Point) (tree : Tree) → IsOrderly now.task
    → HasCourse now.task
    → silent program view now ≡ Occurs what tree → is_behind now.task ≡ is_in_region_barrier (event_of_point W t what)
course-occurs W t program view now what tree orderly course is =
    sym (course-settled view now.task orderly course).behind ∙ (event-of W t program view now what false tree orderly course is).within

pub course-event : (W : World) (t : ℕ) (program : TreeView) (view : View) (now : Moment) (what : Point) (executes : Bool) (tree : Tree)
    → HasReturnsOutside program → IsOrderly now.task
    → HasCourse now.task → silent program view now ≡ Occurs what tree → HasCourse (after_event view what executes now.task)
course-event W t program view now what executes tree returns orderly course is = (event-of W t program view now what executes tree orderly course is).course

pub behind-event : (W : World) (t : ℕ) (program : TreeView) (view : View) (now : Moment) (what : Point) (executes : Bool) (tree : Tree)
    → HasReturnsOutside program → IsOrderly now.task
    → HasCourse now.task → silent program view now ≡ Occurs what tree
    → is_behind (after_event view what executes now.task) ≡ (is_at_region_barrier (event_of_point W t what) || is_behind now.task)
behind-event W t program view now what executes tree returns orderly course is =
    (event-of W t program view now what executes tree orderly course is).behind
    ∙ ap (λ (behind : Bool). is_at_region_barrier (event_of_point W t what) || behind) (course-settled view now.task orderly course).behind

-- it ends behind
ended-items : (program : TreeView) (view : View) (now : Moment) (number : ℤ) (items : List Item) → AreInOrder items
    → step_at items program view now ≡ Ends number → items ≡ []
unfolding Walks
ended-items program view now number [] are is = refl
ended-items program view now number (item ∷ items) are is = absurd (walked program view now item items (Ends number) are is)

no-calls : (items : List Item) (calls : List OpenCall) → items ≡ [] → IsFramed items calls → (ends_behind items && not (has_calls calls)) ≡ true
unfolding falls_off
no-calls [] [] none framed = refl
no-calls [] (call ∷ calls) none framed = never (framed refl)
no-calls (item ∷ items) calls none framed = absurd (cc)

pub course-ended : (program : TreeView) (view : View) (now : Moment) (number : ℤ) → IsOrderly now.task → HasCourse now.task
    → silent program view now ≡ Ends number → is_behind now.task ≡ true
unfolding silent
course-ended program view now number orderly course is =
    let settled : IsOrderly (settled_task view now.task) = settled_is_orderly view now.task orderly in
    sym (course-settled view now.task orderly course).behind
    ∙ no-calls (settled_task view now.task).todo now.task.calls
    (ended-items program view now number (settled_task view now.task).todo settled.now is) settled.framed
