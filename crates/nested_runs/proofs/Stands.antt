-- Where codes stand: behind silent steps, answers and events, and when what they go past is left out.
use Rattle.std.specs.Prelude.{Option, Some, None}
use Rattle.std.proofs.Common.{ℕ, ◌≡◌, ◌≢◌, ◌⊎◌, ◌++◌, Bool, true, false, List, [], ◌∷◌, refl, ap, sym, ◌∙◌, inl, inr}
use Rattle.c_syntax.specs.language.Numbered.{TreeView}
use Rattle.c_syntax.specs.language.Tree.{Tree}
use Rattle.c_model.specs.declared.point.Point.{Point}
use Rattle.c_model.specs.declared.point.Point.TheVariants as point
use Rattle.c_model.specs.declared.point.SyncKind.{SyncKind}
use Rattle.c_model.specs.declared.point.SyncStage.{SyncStage}
use Rattle.c_model.specs.declared.point.SyncStage.TheVariants as stage
use Rattle.c_model.specs.declared.point.Work.{Work}
use Rattle.c_model.specs.declared.point.Work.TheVariants as work
use Rattle.c_model.specs.declared.point.WorkKind.TheVariants as work_kind
use Rattle.c_model.specs.declared.question.Answer.{Answer}
use Rattle.c_model.specs.declared.question.Answer.TheVariants as answer
use Rattle.c_model.specs.declared.question.Ask.{Ask}
use Rattle.c_model.specs.declared.question.Ask.TheVariants as ask
use Rattle.c_model.specs.declared.view.View.{View}
use Rattle.c_model.specs.Asked.{count_asked, sections_asked}
use Rattle.c_model.specs.Begin.{explicit_task, main_task, member_task}
use Rattle.c_model.specs.AfterEvents.{after_answer, after_event, answered_at}
use Rattle.c_model.specs.Step.{settled_moment, settled_task, silent, step_at}
use Rattle.c_model.specs.Occurring.{IsAskOf, IsAskOfNext}
use Rattle.c_model.specs.Task.{Item, Moment, Task as Code}
use Rattle.c_model.specs.Task.Item.{Forked, NextChunk, NextSection, Sync, TestLock}
use Rattle.c_model.specs.Task.Outcome.{Asks, Occurs, StepsTo}
use Rattle.c_brackets.specs.Effects.{effect_of}
use Rattle.c_brackets.specs.Links.{Link, link_made, link_next, link_of}
use Rattle.c_brackets.specs.Links.Link.{Asking, Forking, Syncing}
use Rattle.c_brackets.specs.Opened.{Open, open_calls, open_items, open_task}
use Rattle.c_brackets.specs.Opened.Open.{Works}
use Rattle.c_brackets.specs.Orderly.{IsOrderly}
use Rattle.c_brackets.specs.Returns.{HasReturnsOutside}
use Rattle.c_brackets.proofs.TurningLinks.{answer_next, event_follows, event_makes, member_next, settled_next, step_next}
use Rattle.c_brackets.proofs.TurningTasks.{settled_same}
use Rattle.c_model.proofs.Asking.{question_is_of_next}
use Rattle.omp_model.specs.State.{World}
use Rattle.omp_model.specs.declared.event.Endpoint.TheVariants.{Begin}
use Rattle.omp_model.specs.declared.event.Event.TheVariants as event
use Rattle.omp_model.specs.EventEffects.{event_of_point, executes_point, single_kind}
use Rattle.nested_runs.proofs.Effects.{effect_of_event, stand_after, stand_before, stand_behind}
use Rattle.nested_runs.proofs.Standing.{Stand, stand_among, stand_within}
use Rattle.nested_runs.proofs.Standing.Stand.{Free, AtFork, AtMutex, AtSync}
use Rattle.nested_runs.proofs.Touching.{ComesFree}

-- Where code stands is told by the event behind which it does.
at-syncing : SyncKind → SyncStage → Stand
at-syncing kind stage.RegionBegin = AtSync kind stage.WaitBegin
at-syncing kind stage.WaitBegin = AtSync kind stage.WaitEnd
at-syncing kind stage.WaitEnd = AtSync kind stage.RegionEnd
at-syncing kind stage.RegionEnd = Free

stand-by : Option Link → Stand
unfolding at-syncing
stand-by None = Free
stand-by (Some Forking) = AtFork
stand-by (Some (Syncing kind at)) = at-syncing kind at
stand-by (Some (Asking kind id)) = AtMutex kind id

stand-sync : (tree : Tree) (kind : SyncKind) (at : SyncStage) (items : List Item)
    → stand_among (Sync tree kind at ∷ items) ≡ stand-by (link_next (Sync tree kind at ∷ items))
unfolding stand-by at-syncing
stand-sync tree kind stage.RegionBegin items = refl
stand-sync tree kind stage.WaitBegin items = refl
stand-sync tree kind stage.WaitEnd items = refl
stand-sync tree kind stage.RegionEnd items = refl

stand-linked : (items : List Item) → stand_among items ≡ stand-by (link_next items)
unfolding stand-by
stand-linked [] = refl
stand-linked (Sync tree kind at ∷ items) = stand-sync tree kind at items
stand-linked (item ∷ items) = refl

stand-unlinked : (items : List Item) → link_next items ≡ None → stand_among items ≡ Free
unfolding stand-by
stand-unlinked items none = stand-linked items ∙ ap stand-by none

stand-same : (some other : List Item) → link_next some ≡ link_next other → stand_among some ≡ stand_among other
stand-same some other same = stand-linked some ∙ ap stand-by same ∙ sym (stand-linked other)

-- what a task goes past is left out
pub stand-settled : (view : View) (code : Code) → IsOrderly code → stand_among (settled_task view code).todo ≡ stand_among code.todo
stand-settled view code orderly = stand-same (settled_task view code).todo code.todo (settled_next view code orderly)

-- A silent step, and what asks, stands at no region's end and in no barrier.
record IsAtNone (before : Stand) : Type 0 where
  forked : before ≢ AtFork
  synced : (which : SyncKind) (at : SyncStage) → before ≢ AtSync which at

step-free : (program : TreeView) (view : View) (now next : Moment) (items : List Item) → step_at items program view now ≡ StepsTo next
    → IsAtNone (stand_among items)
step-free program view now next [] is = absurd (cc)
step-free program view now next (Forked construct ∷ items) is = absurd (cc)
step-free program view now next (Sync tree kind at ∷ items) is = absurd (cc)
step-free program view now next (item ∷ items) is = record { forked = λ same. cc; synced = λ which at same. cc }

asks-free : (program : TreeView) (view : View) (now : Moment) (what : Ask) (tree : Tree) (items : List Item) → step_at items program view now ≡ Asks what tree
    → IsAtNone (stand_among items)
asks-free program view now what tree [] is = absurd (cc)
asks-free program view now what tree (Forked construct ∷ items) is = absurd (cc)
asks-free program view now what tree (Sync at-tree kind at ∷ items) is = absurd (cc)
asks-free program view now what tree (item ∷ items) is = record { forked = λ same. cc; synced = λ which at same. cc }

comes-free : (settled before after : Stand) → settled ≡ before → IsAtNone settled → after ≡ Free → ComesFree before after
comes-free settled before after same none free =
    record { forked = λ is. none.forked (same ∙ is); synced = λ which at is. none.synced which at (same ∙ is); free = free }

-- a silent step stands at nothing, and neither does what it leads to
pub stand-step : (program : TreeView) (view : View) (now next : Moment) → HasReturnsOutside program → IsOrderly now.task
    → silent program view now ≡ StepsTo next
    → ComesFree (stand_among now.task.todo) (stand_among next.task.todo)
unfolding silent
stand-step program view now next returns orderly is =
    comes-free (stand_among (settled_task view now.task).todo) (stand_among now.task.todo) (stand_among next.task.todo) (stand-settled view now.task orderly)
    (step-free program view now next (settled_task view now.task).todo is) (stand-unlinked next.task.todo (step_next program view now next returns orderly is))

-- what is answered stands at nothing then, or at the lock that it asked of
pub stand-answer : (program : TreeView) (view : View) (given : Answer) (now : Moment) (what : Ask) (tree : Tree) → IsOrderly now.task
    → silent program view now ≡ Asks what tree
    → (stand_among (after_answer view given now).task.todo ≡ stand_among now.task.todo)
    ⊎ ComesFree (stand_among now.task.todo) (stand_among (after_answer view given now).task.todo)
unfolding silent
stand-answer program view given now what tree orderly is =
    elim (answer_next view given now orderly) [
      | inl same ↦ inl (stand-same (after_answer view given now).task.todo now.task.todo same)
      | inr none ↦ inr (comes-free (stand_among (settled_task view now.task).todo) (stand_among now.task.todo)
          (stand_among (after_answer view given now).task.todo) (stand-settled view now.task orderly)
          (asks-free program view now what tree (settled_task view now.task).todo is) (stand-unlinked (after_answer view given now).task.todo none))
    ]

told-at : (items : List Item) (now : Moment) → stand_among now.task.todo ≡ stand_among items
    → stand_among (answered_at items (answer.Free true) now).task.todo ≡ stand_among items
told-at [] now same = same
told-at (TestLock tree id to ∷ items) now same = refl
told-at (item ∷ items) now same = refl

pub stand-told : (view : View) (now : Moment) → IsOrderly now.task
    → stand_among (after_answer view (answer.Free true) now).task.todo ≡ stand_among now.task.todo
stand-told view now orderly = told-at (settled_task view now.task).todo (settled_moment view now) refl ∙ stand-settled view now.task orderly

-- an event stands where its kind does, and leads to where its kind leads
sync-before : (which : SyncKind) (at : SyncStage) (codeptr : ℕ) → stand-by (link_of (point.Sync codeptr which at)) ≡ stand_within which at
unfolding stand-by at-syncing
sync-before which stage.RegionBegin codeptr = refl
sync-before which stage.WaitBegin codeptr = refl
sync-before which stage.WaitEnd codeptr = refl
sync-before which stage.RegionEnd codeptr = refl

work-before : (W : World) (t codeptr : ℕ) (begun : Work) → Free ≡ stand_before (event_of_point W t (point.WorkBegin codeptr begun))
work-before W t codeptr (work.Loop start count step schedule) = refl
work-before W t codeptr (work.Sections count) = refl
work-before W t codeptr work.Single = refl

stand-of-event : (W : World) (t : ℕ) (what : Point) → stand-by (link_of what) ≡ stand_before (event_of_point W t what)
unfolding stand-by
stand-of-event W t (point.WorkBegin codeptr begun) = work-before W t codeptr begun
stand-of-event W t (point.Sync codeptr which at) = sync-before which at codeptr
stand-of-event W t other = refl

sync-behind : (which : SyncKind) (at : SyncStage) (codeptr : ℕ) → stand-by (link_made (point.Sync codeptr which at)) ≡ stand_behind which at
unfolding stand-by at-syncing
sync-behind which stage.RegionBegin codeptr = refl
sync-behind which stage.WaitBegin codeptr = refl
sync-behind which stage.WaitEnd codeptr = refl
sync-behind which stage.RegionEnd codeptr = refl

work-behind : (W : World) (t codeptr : ℕ) (begun : Work) → Free ≡ stand_after (event_of_point W t (point.WorkBegin codeptr begun))
work-behind W t codeptr (work.Loop start count step schedule) = refl
work-behind W t codeptr (work.Sections count) = refl
work-behind W t codeptr work.Single = refl

stand-made-by : (W : World) (t : ℕ) (what : Point) → stand-by (link_made what) ≡ stand_after (event_of_point W t what)
unfolding stand-by
stand-made-by W t (point.WorkBegin codeptr begun) = work-behind W t codeptr begun
stand-made-by W t (point.Sync codeptr which at) = sync-behind which at codeptr
stand-made-by W t other = refl

pub stand-occurs : (W : World) (t : ℕ) (program : TreeView) (view : View) (now : Moment) (what : Point) (tree : Tree) → HasReturnsOutside program
    → IsOrderly now.task → silent program view now ≡ Occurs what tree
    → stand_among now.task.todo ≡ stand_before (event_of_point W t what)
stand-occurs W t program view now what tree returns orderly is =
    stand-linked now.task.todo ∙ ap stand-by (event_follows program view what now tree returns orderly is) ∙ stand-of-event W t what

pub stand-event : (W : World) (t : ℕ) (program : TreeView) (view : View) (now : Moment) (what : Point) (executes : Bool) (tree : Tree)
    → HasReturnsOutside program → IsOrderly now.task → silent program view now ≡ Occurs what tree
    → stand_among (after_event view what executes now.task).todo ≡ stand_after (event_of_point W t what)
stand-event W t program view now what executes tree returns orderly is =
    stand-linked (after_event view what executes now.task).todo ∙ ap stand-by (event_makes program view what executes now tree returns orderly is)
    ∙ stand-made-by W t what

-- no code begins at any of these
pub stand-main : (program : TreeView) → stand_among (main_task program).todo ≡ Free
stand-main program = refl

pub stand-member : (code : Code) → stand_among (member_task code).todo ≡ Free
stand-member code = stand-unlinked (member_task code).todo (member_next code)

pub stand-explicit : (program : TreeView) (view : View) (now : Moment) → stand_among (explicit_task program view now).task.todo ≡ Free
stand-explicit program view now = refl

-- the effect of an event of the code is that of its kind
single-effect : (codeptr : ℕ) (executes : Bool)
    → effect_of (point.WorkBegin codeptr work.Single) executes ≡ effect_of_event (event.Work Begin (single_kind executes) 1 codeptr)
single-effect codeptr true = refl
single-effect codeptr false = refl

work-effect : (W : World) (t : ℕ) (codeptr : ℕ) (begun : Work)
    → effect_of (point.WorkBegin codeptr begun) (executes_point W t (point.WorkBegin codeptr begun))
    ≡ effect_of_event (event_of_point W t (point.WorkBegin codeptr begun))
work-effect W t codeptr (work.Loop start count step schedule) = refl
work-effect W t codeptr (work.Sections count) = refl
work-effect W t codeptr work.Single = single-effect codeptr (executes_point W t (point.WorkBegin codeptr work.Single))

pub effect-is : (W : World) (t : ℕ) (what : Point) → effect_of what (executes_point W t what) ≡ effect_of_event (event_of_point W t what)
effect-is W t (point.WorkBegin codeptr begun) = work-effect W t codeptr begun
effect-is W t other = refl

-- what asks for a chunk or a section has its work open, as the newest
chunk-open : (items : List Item) (tree : Tree) → IsAskOfNext ask.Chunk tree items
    → (older : List Open) × (open_items items ≡ Works work_kind.Loop (count_asked items) ∷ older)
unfolding IsAskOfNext IsAskOf open_items
chunk-open [] tree is = absurd is
chunk-open (NextChunk loop ∷ items) tree is = (open_items items, refl)
chunk-open (item ∷ items) tree is = absurd is

section-open : (items : List Item) (tree : Tree) → IsAskOfNext ask.Section tree items
    → (older : List Open) × (open_items items ≡ Works work_kind.Sections (sections_asked items) ∷ older)
unfolding IsAskOfNext IsAskOf open_items
section-open [] tree is = absurd is
section-open (NextSection construct names ∷ items) tree is = (open_items items, refl)
section-open (item ∷ items) tree is = absurd is

pub asks-chunk : (program : TreeView) (view : View) (now : Moment) (tree : Tree) → IsOrderly now.task → silent program view now ≡ Asks ask.Chunk tree
    → (older : List Open) × (open_task now.task ≡ Works work_kind.Loop (count_asked (settled_task view now.task).todo) ∷ older)
asks-chunk program view now tree orderly is =
    let opened = chunk-open (settled_task view now.task).todo tree (question_is_of_next program view now ask.Chunk tree is) in (
      opened.0 ++ open_calls now.task.calls,
      sym (settled_same view now.task orderly)
          ∙ ap (λ (opened : List Open). opened ++ open_calls now.task.calls) opened.1,
    )

pub asks-section : (program : TreeView) (view : View) (now : Moment) (tree : Tree) → IsOrderly now.task → silent program view now ≡ Asks ask.Section tree
    → (older : List Open) × (open_task now.task ≡ Works work_kind.Sections (sections_asked (settled_task view now.task).todo) ∷ older)
asks-section program view now tree orderly is =
    let opened = section-open (settled_task view now.task).todo tree (question_is_of_next program view now ask.Section tree is) in (
      opened.0 ++ open_calls now.task.calls,
      sym (settled_same view now.task orderly)
          ∙ ap (λ (opened : List Open). opened ++ open_calls now.task.calls) opened.1,
    )
