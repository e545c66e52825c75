-- The Go of an event keeps what is so of teams and of their members' codes.
use Rattle.c_model.specs.declared.point.Work.{Work as Working}
use Rattle.c_model.specs.AfterEvents.{tree_at_event}
use Rattle.std.specs.Prelude.{Option}
use Rattle.c_model.specs.declared.point.WorkKind.TheVariants as work_kind
use Rattle.team_parts.specs.declared.meeting.Meeting.TheVariants as meeting
use Rattle.std.proofs.Common.{ℕ, ◌≡◌, ◌≢◌, ◌<◌, ◌≤◌, ◌==◌, ◌++◌, Bool, true, false, if◌then◌else◌, List, [], ◌∷◌, drop, length, refl, sym, ap, ◌∙◌, subst, inl, inr, arith, Some, ap₂}
use Rattle.std.specs.List.{list_any}
use Rattle.std.proofs.lemmas.Bool.{cases_Bool, cases_eq, cases_lt, cond-false, cond-true, eq-eqb, ne_eqb, or_from, or_left, or_parts, true≢false}
use Rattle.std.proofs.lemmas.List.{get_or_past, length-set}
use Rattle.ompt_calls.specs.declared.event.EventRecord.{EventRecord}
use Rattle.c_syntax.specs.language.Tree.{Tree}
use Rattle.c_syntax.specs.language.Numbered.{TreeView}
use Rattle.c_model.specs.declared.point.Point.{Point}
use Rattle.c_model.specs.declared.point.Point.TheVariants as point
use Rattle.c_model.specs.declared.point.SyncStage.TheVariants as stage
use Rattle.c_model.specs.declared.point.Work.TheVariants as work
use Rattle.c_model.specs.declared.point.WorkKind.{WorkKind}
use Rattle.c_model.specs.declared.question.Answer.TheVariants as answer
use Rattle.c_model.specs.declared.view.View.{View}
use Rattle.c_model.specs.Occurring.{IsOfItem, IsOfNext}
use Rattle.c_model.specs.Step.{settled_task, silent, step_at}
use Rattle.c_model.specs.Task.{Item, Moment, OpenCall, Task as Code}
use Rattle.c_model.specs.Task.Item.{EndWork, Forked, Inside as InsideItem, Iterations, NextChunk, NextSection}
use Rattle.c_model.specs.Task.Outcome.{Occurs}
use Rattle.c_model.proofs.Occurring.{event_is_of_next}
use Rattle.c_brackets.specs.Effects.{Effect}
use Rattle.c_brackets.specs.Effects.Effect.{Closes, Leaves, Opens}
use Rattle.c_brackets.specs.Opened.{Open, open_calls, open_item, open_items}
use Rattle.c_brackets.specs.Opened.Open.{Works}
use Rattle.team_parts.specs.declared.meeting.Meeting.{Meeting}
use Rattle.team_parts.specs.declared.meeting.TheConstants.{TEAM_LIMIT}
use Rattle.team_parts.specs.declared.member.Member.{Member}
use Rattle.team_parts.specs.Meetings.{HasChunk, TeamMeeting}
use Rattle.team_parts.specs.Team.{TeamView, after_meeting, member_at, with_passed, last_number}
use Rattle.omp_model.specs.declared.event.Endpoint.TheVariants.{Begin, End}
use Rattle.omp_model.specs.declared.event.Event.{Event}
use Rattle.omp_model.specs.declared.event.Event.TheVariants.{Masked, ParallelBegin, Sync, Work}
use Rattle.omp_model.specs.Conditions.{has_started}
use Rattle.omp_model.specs.Gates.{is_barrier}
use Rattle.omp_model.specs.EventEffects.{barrier_met, event_of_point, executes_point, told}
use Rattle.omp_model.specs.MadeWorld.{IsTask}
use Rattle.omp_model.specs.Members.{code_of, current, current_index, current_region, current_team, is_explicit_task, member_index, moment_of, region_of, view_of}
use Rattle.omp_model.specs.State.{Region, Run, World, fresh_team, no_region, pooled_at, region_at, task_at}
use Rattle.omp_model.proofs.Touching.{AtBarrierElse, Meets, MeetsWork, SameTeam}
use Rattle.omp_model.proofs.MadeEvents.{current-below}
use Rattle.omp_model.proofs.Turning.{GoOf}
use Rattle.nested_runs.proofs.Effects.{effect_of_event, opens_after}
use Rattle.nested_runs.proofs.Knows.{Goes}
use Rattle.nested_runs.proofs.Recorded.{Inside}
use Rattle.nested_runs.proofs.Shown.{opens_at}
use Rattle.nested_runs.proofs.GoMembers.{regions-grow}
use Rattle.nested_runs.proofs.KeptTasks.{none-opens}
use Rattle.nested_runs.proofs.PooledTasks.{current-made, current-under-way, tasks-few}
use Rattle.nested_runs.proofs.RegionHeads.{fresh-region, old-region, place-within, region-made}
use Rattle.guard_laws.proofs.Dealing.{read-met}
use Rattle.guard_laws.proofs.LastMeetings.{is_work, passed-met, FitsOpen, last_met, own-last}
use Rattle.guard_laws.proofs.WorkBegins.{HasPlace, MeetsFree}
use Rattle.guard_laws.proofs.WorkGos.{current-started, one-seat, other-opens, own-made as own-task, own-opens, place-go}
use Rattle.guard_laws.proofs.WorksMet.{WorksMet, index_of}
use Rattle.work_laws.specs.Told.{Telling, nothing_told}
use Rattle.work_laws.proofs.CodesGone.{Occurred, codes-gone, work-occurred}
use Rattle.work_laws.proofs.Items.{AnyTree, AreCalls, AreItems, IsItem}
use Rattle.work_laws.proofs.ItemSteps.{from-next, holds-answer, holds-blank, holds-event, MayNext, MayWork, TellsNext, TellsSo, TellsWork, MayBegin}
use Rattle.work_laws.proofs.Shares.{StandsIn, Tellings, Tells, TellsAt, any-construct, any-rules, single-ends, standing-placed}
use Rattle.work_laws.proofs.Teams.{HasNoEnd, IsFreeCode, IsOverAt, NoEnd, Standing, TellsTeam, other-member, over-met, over-same, own-met, standing-kept, tells-met, tells-same, AsksAt, ends-what, last-met, last_what, what-same}
use Rattle.work_laws.proofs.Teams.Standing.{Behind, Outside, Within}

-- ---- codes in which no work is open

no-end-items : (A : Tree → Type 0) (item : Item) → list_any is_work (open_item item) ≡ false → IsItem AnyTree AnyTree A NoEnd item
no-end-items A (EndWork construct kind count names) free = absurd (true≢false free)
no-end-items A (NextChunk loop) free = absurd (true≢false free)
no-end-items A (Iterations loop at upto) free = absurd (true≢false free)
no-end-items A (NextSection construct names) free = absurd (true≢false free)
no-end-items A (Forked construct) free = any-construct construct
no-end-items A (InsideItem construct) free = any-construct construct
no-end-items A item free = tt

either-free : (first second : List Open) → list_any is_work (first ++ second) ≡ false →
    (list_any is_work first ≡ false) × (list_any is_work second ≡ false)
either-free [] second free = (refl, free)
either-free (one ∷ first) second free =
    let parts = or_parts (is_work one) (list_any is_work (first ++ second)) free in
    let rest = either-free first second parts.1 in
    (or_from (is_work one) (list_any is_work first) parts.0 rest.0, rest.1)

free-items : (A : Tree → Type 0) (items : List Item) → list_any is_work (open_items items) ≡ false → AreItems AnyTree AnyTree A NoEnd items
unfolding open_items
free-items A [] free = tt
free-items A (item ∷ items) free =
    let parts = either-free (open_item item) (open_items items) free in (no-end-items A item parts.0, free-items A items parts.1)

free-calls : (A : Tree → Type 0) (calls : List OpenCall) → list_any is_work (open_calls calls) ≡ false → AreCalls AnyTree AnyTree A NoEnd calls
unfolding open_calls
free-calls A [] free = tt
free-calls A (call ∷ calls) free =
    let parts = either-free (open_items call.todo) (open_calls calls) free in (free-items A call.todo parts.0, free-calls A calls parts.1)

pub free-ends : (met : Meeting) (code : Code) → IsFreeCode code → HasNoEnd met code
free-ends met code free =
    let parts = either-free (open_items code.todo) (open_calls code.calls) free in
    record { now = free-items (AsksAt met) code.todo parts.0; calls = free-calls (AsksAt met) code.calls parts.1 }

-- an event that opens no work
abbrev OpensNone : Effect → Type 0
OpensNone (Opens one) = is_work one ≡ false
OpensNone other = Unit {0}

drop-free : (opened : List Open) → list_any is_work opened ≡ false → list_any is_work (drop 1 opened) ≡ false
drop-free [] free = refl
drop-free (one ∷ opened) free = (or_parts (is_work one) (list_any is_work opened) free).1

effect-free : (effect : Effect) (opened : List Open) → OpensNone effect → list_any is_work opened ≡ false →
    list_any is_work (opens_after effect opened) ≡ false
effect-free (Opens one) opened none free = or_from (is_work one) (list_any is_work opened) none free
effect-free (Closes one) opened none free = drop-free opened free
effect-free Leaves opened none free = free

busy : (one : Open) (older opened : List Open) → opened ≡ one ∷ older → is_work one ≡ true → list_any is_work opened ≡ false → ⊥
busy one older opened opens work free =
    let first : list_any is_work (one ∷ older) ≡ true = or_left (is_work one) (list_any is_work older) work in
    true≢false (sym first ∙ (sym (ap (λ (opened : List Open). list_any is_work opened) opens) ∙ free))

-- ---- where a work ends

-- an end of work is of an item that ends it
end-of-item : (A : Tree → Type 0) (program : TreeView) (view : View) (now : Moment) (codeptr count : ℕ) (kind : WorkKind) (tree : Tree) (item : Item) (items : List Item) →
    IsOfItem (point.WorkEnd codeptr kind count) item → step_at (item ∷ items) program view now ≡ Occurs (point.WorkEnd codeptr kind count) tree →
    IsItem AnyTree AnyTree A NoEnd item → NoEnd kind
unfolding IsOfItem
end-of-item A program view now codeptr count kind tree (EndWork construct ended whole names) items of comes is =
    let same : ended ≡ kind = cc in subst NoEnd same is
end-of-item A program view now codeptr count kind tree item items of comes is = absurd of

end-among : (A : Tree → Type 0) (program : TreeView) (view : View) (now : Moment) (codeptr count : ℕ) (kind : WorkKind) (tree : Tree) (items : List Item) →
    IsOfNext (point.WorkEnd codeptr kind count) items → step_at items program view now ≡ Occurs (point.WorkEnd codeptr kind count) tree →
    AreItems AnyTree AnyTree A NoEnd items → NoEnd kind
unfolding IsOfNext
end-among A program view now codeptr count kind tree [] of comes are = absurd of
end-among A program view now codeptr count kind tree (item ∷ items) of comes are =
    end-of-item A program view now codeptr count kind tree item items of comes are.0

end-occurs : (met : Meeting) (program : TreeView) (view : View) (now : Moment) (codeptr count : ℕ) (kind : WorkKind) (tree : Tree) →
    silent program view now ≡ Occurs (point.WorkEnd codeptr kind count) tree → HasNoEnd met now.task → NoEnd kind
unfolding silent
end-occurs met program view now codeptr count kind tree comes ends =
    end-among (AsksAt met) program view now codeptr count kind tree (settled_task view now.task).todo
    (event_is_of_next program view now (point.WorkEnd codeptr kind count) tree comes) comes
    (from-next AnyTree AnyTree (AsksAt met) NoEnd any-rules single-ends view now.task.todo ends.now)

end-point : (met : Meeting) (program : TreeView) (W : World) (t : ℕ) (view : View) (now : Moment) (count codeptr : ℕ) (kind : WorkKind) (tree : Tree) (what : Point) →
    event_of_point W t what ≡ Work End kind count codeptr → silent program view now ≡ Occurs what tree → HasNoEnd met now.task → NoEnd kind
end-point met program W t view now count codeptr kind tree (point.WorkEnd place which whole) event comes ends =
    let same : which ≡ kind = cc in subst NoEnd same (end-occurs met program view now place whole which tree comes ends)
end-point met program W t view now count codeptr kind tree (point.WorkBegin place (work.Loop start whole step how)) event comes ends = cc
end-point met program W t view now count codeptr kind tree (point.WorkBegin place (work.Sections whole)) event comes ends = cc
end-point met program W t view now count codeptr kind tree (point.WorkBegin place work.Single) event comes ends = cc
end-point met program W t view now count codeptr kind tree what event comes ends = cc

-- ---- teams

-- the same meetings, and each member has had as many
pub record SameMeetings (team after : TeamView) : Type 0 where
  pub count : length after.members ≡ length team.members
  pub meetings : after.meetings ≡ team.meetings
  pub met : (j : ℕ) → (member_at after j).met ≡ (member_at team j).met

pub same-view : (team after : TeamView) → after ≡ team → SameMeetings team after
same-view team after is =
    record {
      count = ap (λ (x : TeamView). length x.members) is;
      meetings = ap (λ (x : TeamView). x.meetings) is;
      met = λ j. ap (λ (x : TeamView). (member_at x j).met) is;
    }

same-passed : (team : TeamView) (i : ℕ) → SameMeetings team (with_passed team i)
same-passed team i =
    record {
      count = length-set team.members i (record (member_at team i) { passed = (member_at team i).barriers });
      meetings = refl;
      met = (passed-met team i).met;
    }

same-passed-if : (barrier here : Bool) (team : TeamView) (i : ℕ) →
    SameMeetings team (if barrier then (if here then with_passed team i else team) else team)
same-passed-if true true team i = same-passed team i
same-passed-if true false team i = same-view team team refl
same-passed-if false here team i = same-view team team refl

-- what an event does to a team: nothing that counts here, or the thread's member meets something
pub data TeamIs (W after : World) (t q : ℕ) : Type 0 where
  Same : SameMeetings (region_at W q).team (region_at after q).team → TeamIs W after t q
  Met : q ≡ current_region W t → 1 ≤ current W t → is_explicit_task W (current W t) ≡ false → (what : Meeting) → HasChunk what →
      (region_at after q).team ≡ after_meeting (current_team W t) (current_index W t) what → TeamIs W after t q

at-barrier : (is : Bool) (P Q : Type 0) → is ≡ true → AtBarrierElse is P Q → P
at-barrier true P Q same holds = holds
at-barrier false P Q same holds = cc

at-none : (is : Bool) (P Q : Type 0) → is ≡ false → AtBarrierElse is P Q → Q
at-none true P Q same holds = cc
at-none false P Q same holds = holds

module _ (run : Run) (W after : World) (I J : Inside) (past : List EventRecord) (t : ℕ) where
  abbrev r : ℕ
  r = current_region W t

  abbrev i : ℕ
  i = current_index W t

  left-if : (q : ℕ) (what : Meeting) → q ≢ r → Meets W after t q what → TeamIs W after t q
  left-if q what other meets =
      Same (same-view (region_at W q).team (region_at after q).team (meets.team ∙ cond-false (q == r) _ _ (ne_eqb q r other)))

  pub team-is : (e : Event) → Goes run W after I J past t e → MeetsFree W after t e → (q : ℕ) → q < length W.regions → TeamIs W after t q
  team-is (ParallelBegin region requested codeptr) goes free q below =
      let other : q ≡ region → ⊥ = λ is. omega (arith, is, below, goes.comes.1.region) in
      Same (same-view (region_at W q).team (region_at after q).team (goes.touches.world.team q ∙ cond-false (q == region) _ _ (ne_eqb q region other)))
  team-is (Work Begin which count codeptr) goes begins q below =
      elim (cases_eq q r) [
        | inl is ↦ Met is goes.comes.0.within.some goes.comes.1 begins.what begins.chunk (ap (λ (q : ℕ). (region_at after q).team) is ∙ begins.team)
        | inr other ↦ let meets : MeetsWork W after t q = goes.touches.world.team q in left-if q meets.what other meets.meets
      ]
  team-is (Sync which stage.RegionBegin codeptr) goes free q below =
      elim (cases_Bool (is_barrier which)) [
        | inl barrier ↦
            let meets : Meets W after t q (barrier_met codeptr which) =
            at-barrier (is_barrier which) (Meets W after t q (barrier_met codeptr which)) (SameTeam W after q) barrier (goes.touches.world.team q) in
            elim (cases_eq q r) [
              | inl is ↦ Met is goes.comes.0.within.some (goes.comes.1 barrier) (barrier_met codeptr which) tt
                  (meets.team ∙ (cond-true (q == r) _ _ (eq-eqb q r is)
                  ∙ ap (λ (q : ℕ). after_meeting (region_at W q).team i (barrier_met codeptr which)) is))
              | inr other ↦ left-if q (barrier_met codeptr which) other meets
            ]
        | inr not ↦ Same (same-view (region_at W q).team (region_at after q).team
            (at-none (is_barrier which) (Meets W after t q (barrier_met codeptr which)) (SameTeam W after q) not (goes.touches.world.team q)))
      ]
  team-is (Sync which stage.WaitEnd codeptr) goes free q below =
      Same (subst (SameMeetings (region_at W q).team) (sym (goes.touches.world.team q))
      (same-passed-if (is_barrier which) (q == r) (region_at W q).team i))
  team-is e goes free q below = Same (same-view (region_at W q).team (region_at after q).team (goes.touches.world.team q))

some-is : {A : Type 0} (one other : A) → Some one ≡ Some other → one ≡ other
some-is one other is = cc

-- ---- the current task

-- where sections begin, the thread's member has met them
abbrev MayGo : Meeting → Event → Type 0
MayGo met (Work Begin work_kind.Sections count codeptr) = met ≡ meeting.Sections codeptr count
MayGo met other = Unit {0}

may-work : (met : Meeting) (W : World) (t codeptr : ℕ) (what : Working) (construct : Tree) → MayGo met (event_of_point W t (point.WorkBegin codeptr what)) →
    TellsWork AnyTree codeptr what construct → MayWork (AsksAt met) what construct
may-work met W t codeptr (work.Loop start count step how) construct is tells = tt
may-work met W t codeptr (work.Sections count) construct is tells = subst (λ (met : Meeting). AsksAt met construct) (sym is) tells.1
may-work met W t codeptr work.Single construct is tells = tt

may-begin : (met : Meeting) (W : World) (t : ℕ) (what : Point) (item : Item) → MayGo met (event_of_point W t what) → TellsSo AnyTree AnyTree what item →
    MayBegin (AsksAt met) what item
may-begin met W t (point.WorkBegin codeptr what) item is tells = may-work met W t codeptr what (tree_at_event item) is tells
may-begin met W t what item is tells = tt

may-next : (met : Meeting) (W : World) (t : ℕ) (e : Event) (what : Point) → event_of_point W t what ≡ e → MayGo met e → (items : List Item) →
    TellsNext AnyTree AnyTree (AsksAt met) NoEnd any-rules single-ends what items → MayNext (AsksAt met) what items
may-next met W t e what event may [] tells = tt
may-next met W t e what event may (item ∷ items) tells = may-begin met W t what item (subst (MayGo met) (sym event) may) tells

-- .. so it is where a work begins
may-begins : (what : Meeting) (which : WorkKind) (count codeptr : ℕ) → FitsOpen (Some what) (Works which count) → HasPlace codeptr what →
    MayGo what (Work Begin which count codeptr)
may-begins (meeting.Sections at whole) work_kind.Sections count codeptr fits place = ap₂ (λ (at count : ℕ). meeting.Sections at count) place fits
may-begins (meeting.Loop at start whole step how) work_kind.Sections count codeptr fits place = absurd fits
may-begins (meeting.Single at) work_kind.Sections count codeptr fits place = absurd fits
may-begins (meeting.Barrier at kind) work_kind.Sections count codeptr fits place = absurd fits
may-begins what work_kind.Loop count codeptr fits place = tt
may-begins what work_kind.SingleExecutor count codeptr fits place = tt
may-begins what work_kind.SingleOther count codeptr fits place = tt

module _ (run : Run) (W after : World) (I J : Inside) (past : List EventRecord) (t : ℕ) (told_so : Tellings) (tells : Tells W told_so)
    (works : WorksMet W) where
  abbrev k : ℕ
  k = current W t

  abbrev team : TeamView
  team = current_team W t

  -- its code ends no work after an event that didn't end one before
  ends-go : (e : Event) → GoOf run W t e after → (j : ℕ) → j < length W.tasks → (met : Meeting) → (j ≡ current W t → MayGo met e) →
      HasNoEnd met (task_at W j).code → HasNoEnd met (task_at after j).code
  ends-go e go j below met may ends =
      elim (codes-gone run W after t e go j below) [
        | inl left ↦ elim left [
          | inl same ↦ subst (HasNoEnd met) (sym same) ends
          | inr blank ↦ subst (HasNoEnd met) (sym blank) (holds-blank AnyTree AnyTree (AsksAt met) NoEnd any-rules single-ends)
        ]
        | inr gone ↦
            let own : HasNoEnd met (code_of W t) = subst (λ (j : ℕ). HasNoEnd met (task_at W j).code) gone.here ends in
            let event = holds-event AnyTree AnyTree (AsksAt met) NoEnd any-rules single-ends run.program (view_of W t) (told W t) gone.what
            (executes_point W t gone.what) gone.tree
            (λ name. tt) (holds-answer AnyTree AnyTree (AsksAt met) NoEnd any-rules single-ends (view_of W t) (answer.Free true)
            (moment_of W t) tt own) gone.occurs in
            subst (HasNoEnd met) (sym gone.code)
            (event.0 (may-next met W t e gone.what gone.event (may gone.here) (settled_task (view_of W t) (told W t).task).todo event.1))
      ]

  module _ (e : Event) (goes : Goes run W after I J past t e) (go : GoOf run W t e after) (some : 1 ≤ current W t) where
    abbrev Own : Type 0
    Own = Standing (task_at after k).code (region_at after (current_region W t)).team (current_index W t)

    own-index : index_of W k ≡ current_index W t
    own-index = ap (λ (u : ℕ). member_index W u (current_region W t)) (current-under-way W t goes.knows.sound.orderly some).thread

    own-stands : is_explicit_task W k ≡ false → Standing (code_of W t) team (current_index W t)
    own-stands plain =
        subst (λ (i : ℕ). Standing (code_of W t) team i) own-index (tells.tasks k (own-task run W after I J past t e goes some) plain)

    free-go : OpensNone (effect_of_event e) → IsFreeCode (code_of W t) → IsFreeCode (task_at after k).code
    free-go none free =
        ap (λ (opened : List Open). list_any is_work opened) (own-opens run W after I J past t e goes)
        ∙ effect-free (effect_of_event e) (opens_at W k) none free

    kept-own : OpensNone (effect_of_event e) → ((met : Meeting) → MayGo met e) → SameMeetings team (region_at after (current_region W t)).team →
        Standing (code_of W t) team (current_index W t) → Own
    kept-own none may same stands =
        let next = (region_at after (current_region W t)).team in
        standing-kept (code_of W t) (task_at after k).code team next (current_index W t) (free-go none)
        (λ some ends. ends-what (last_what team (current_index W t)) (last_what next (current_index W t)) (task_at after k).code
        (what-same team next (current_index W t) same.meetings (same.met (current_index W t)))
        (ends-go e go k (current-below W t goes.knows.sound.made) (last_what team (current_index W t)) (λ here. may (last_what team (current_index W t)))
        ends)) (λ some. omega (arith, some, same.met (current_index W t)))
        (λ some over. over-same team next (current_index W t) same.count same.meetings (same.met (current_index W t)) over) stands

    -- by what the team is then
    same-own : OpensNone (effect_of_event e) → ((met : Meeting) → MayGo met e) → (region_at after (current_region W t)).team ≡ team →
        Standing (code_of W t) team (current_index W t) → Own
    same-own none may same stands = kept-own none may (same-view team (region_at after (current_region W t)).team same) stands

  -- of a work that ends nothing is left
  pub ended : (which : WorkKind) (count codeptr : ℕ) → Goes run W after I J past t (Work End which count codeptr) →
      GoOf run W t (Work End which count codeptr) after →
      (NoEnd which → ⊥) → Standing (code_of W t) team (current_index W t) → (1 ≤ (member_at team (current_index W t)).met) × IsOverAt team
      (current_index W t)
  ended which count codeptr goes go none (Outside free) =
      absurd (busy (Works which count) goes.comes.0.ends.0 (opens_at W k) goes.comes.0.ends.1 refl free)
  ended which count codeptr goes go none (Within some ends) =
      let one : Occurred run W t (Work End which count codeptr) = work-occurred run W after t End which count codeptr go in
      absurd (none (end-point (last_what team (current_index W t)) run.program W t (view_of W t) (told W t) count codeptr which one.tree one.what one.event one.occurs
      (holds-answer AnyTree AnyTree (AsksAt (last_what team (current_index W t))) NoEnd any-rules single-ends (view_of W t) (answer.Free true)
      (moment_of W t) tt ends)))
  ended which count codeptr goes go none (Behind some over) = (some, over)

  ended-own : (which : WorkKind) (count codeptr : ℕ) → Goes run W after I J past t (Work End which count codeptr) →
      GoOf run W t (Work End which count codeptr) after → 1 ≤ current W t → Standing (code_of W t) team (current_index W t) →
      Standing (task_at after k).code (region_at after (current_region W t)).team (current_index W t)
  ended-own which count codeptr goes go some stands =
      same-own (Work End which count codeptr) goes go some tt (λ met. tt) (goes.touches.world.team (current_region W t)) stands

  own-go : (e : Event) → Goes run W after I J past t e → GoOf run W t e after → MeetsFree W after t e → 1 ≤ current W t →
      Standing (code_of W t) team (current_index W t) → Standing (task_at after k).code (region_at after (current_region W t)).team (current_index W t)
  own-go (Work Begin which count codeptr) goes go begins some stands =
      let within = place-within run W I past t goes.knows some in
      Within (subst (λ (x : TeamView). 1 ≤ (member_at x (current_index W t)).met) (sym begins.team) (own-met team
      (current_index W t) begins.what within))
      (ends-what begins.what (last_what (region_at after (current_region W t)).team (current_index W t)) (task_at after k).code last
      (ends-go (Work Begin which count codeptr) go k (current-below W t goes.knows.sound.made) begins.what
      (λ here. may-begins begins.what which count codeptr begins.fits begins.place) (free-ends begins.what (code_of W t) begins.free)))
    where
      last : last_what (region_at after (current_region W t)).team (current_index W t) ≡ begins.what
      last =
          let met : last_met (after_meeting team (current_index W t) begins.what) (current_index W t) ≡ Some begins.what =
          own-last team (current_index W t) begins.what begins.first (place-within run W I past t goes.knows some)
          (works.within (current_region W t) (current_index W t)) begins.answer in
          let after_team = after_meeting team (current_index W t) begins.what in
          let read : Some (last_what after_team (current_index W t)) ≡ Some begins.what =
          read-met (λ (met : Option Meeting). met ≡ Some begins.what) (λ none. cc) after_team.meetings (last_number after_team (current_index W t)) met in
          ap (λ (x : TeamView). last_what x (current_index W t)) begins.team ∙ some-is (last_what after_team (current_index W t)) begins.what read
  own-go (Work End which count codeptr) goes go free some stands = ended-own which count codeptr goes go some stands
  own-go (Sync which stage.RegionBegin codeptr) goes go free some stands =
      let e : Event = Sync which stage.RegionBegin codeptr in
      let q = current_region W t in
      elim (cases_Bool (is_barrier which)) [
        | inl barrier ↦ Outside (free-go e goes go some refl (free barrier))
        | inr not ↦
            same-own e goes go some refl (λ met. tt)
            (at-none (is_barrier which) (Meets W after t q (barrier_met codeptr which)) (SameTeam W after q) not (goes.touches.world.team q)) stands
      ]
  own-go (Sync which stage.WaitBegin codeptr) goes go free some stands =
      same-own (Sync which stage.WaitBegin codeptr) goes go some refl (λ met. tt) (goes.touches.world.team (current_region W t)) stands
  own-go (Sync which stage.WaitEnd codeptr) goes go free some stands =
      let q = current_region W t in
      kept-own (Sync which stage.WaitEnd codeptr) goes go some tt (λ met. tt)
      (subst (SameMeetings team) (sym (goes.touches.world.team q)) (same-passed-if (is_barrier which) (q == q) team (current_index W t))) stands
  own-go (Sync which stage.RegionEnd codeptr) goes go free some stands =
      same-own (Sync which stage.RegionEnd codeptr) goes go some tt (λ met. tt) (goes.touches.world.team (current_region W t)) stands
  own-go (ParallelBegin region requested codeptr) goes go free some stands =
      let e : Event = ParallelBegin region requested codeptr in
      let q = current_region W t in
      let below : q < length W.regions = (region-made run W I past t goes.knows some).below in
      let other : q ≡ region → ⊥ = λ is. omega (arith, is, below, goes.comes.1.region) in
      same-own e goes go some refl (λ met. tt) (goes.touches.world.team q ∙ cond-false (q == region) _ _ (ne_eqb q region other)) stands
  own-go (Masked Begin codeptr) goes go free some stands =
      same-own (Masked Begin codeptr) goes go some refl (λ met. tt) (goes.touches.world.team (current_region W t)) stands
  own-go (Masked End codeptr) goes go free some stands =
      same-own (Masked End codeptr) goes go some tt (λ met. tt) (goes.touches.world.team (current_region W t)) stands
  own-go e goes go free some stands = same-own e goes go some tt (λ met. tt) (goes.touches.world.team (current_region W t)) stands

  -- ---- all tasks and teams

  module _ (e : Event) (goes : Goes run W after I J past t e) (go : GoOf run W t e after) (free : MeetsFree W after t e) where
    abbrev After : ℕ → Type 0
    After j = StandsIn after j (task_at after j).code

    -- what has nothing open
    idle-go : (j : ℕ) → j ≢ current W t → opens_at W j ≡ [] → After j
    idle-go j other none =
        Outside (ap (λ (opened : List Open). list_any is_work opened) (other-opens run W after I J past t e goes j other ∙ none))

    placed-go : (j : ℕ) → IsTask W j → has_started (pooled_at W j).condition ≡ true →
        Standing (task_at after j).code (region_at after (region_of W j)).team (index_of W j) → After j
    placed-go j made started stands = standing-placed W after j (task_at after j).code (place-go run W after I J past t e goes j made started) stands

    other-go : (j : ℕ) → IsTask W j → is_explicit_task W j ≡ false → j ≢ current W t → TeamIs W after t (region_of W j) →
        Standing (task_at after j).code (region_at after (region_of W j)).team (index_of W j)
    other-go j made plain other (Same same) =
        let before = (region_at W (region_of W j)).team in
        let next = (region_at after (region_of W j)).team in
        standing-kept (task_at W j).code (task_at after j).code before next (index_of W j)
        (λ free. ap (λ (opened : List Open). list_any is_work opened) (other-opens run W after I J past t e goes j other) ∙ free)
        (λ some ends. ends-what (last_what before (index_of W j)) (last_what next (index_of W j)) (task_at after j).code
        (what-same before next (index_of W j) same.meetings (same.met (index_of W j)))
        (ends-go e go j made.below (last_what before (index_of W j)) (λ is. absurd (other is)) ends)) (λ some. omega (arith, some, same.met (index_of W j)))
        (λ some over. over-same before next (index_of W j) same.count same.meetings (same.met (index_of W j)) over) (tells.tasks j made plain)
    other-go j made plain other (Met here some own what chunk is) =
        let before : (region_at W (region_of W j)).team ≡ team = ap (λ (q : ℕ). (region_at W q).team) here in
        let apart : index_of W j ≢ current_index W t = λ index. other (one-seat run W after I J past t e goes j made plain some own here index) in
        let stands : Standing (task_at W j).code team (index_of W j) =
        subst (λ (x : TeamView). Standing (task_at W j).code x (index_of W j)) before (tells.tasks j made plain) in
        let next = after_meeting team (current_index W t) what in
        subst (λ (x : TeamView). Standing (task_at after j).code x (index_of W j)) (sym is)
        (standing-kept (task_at W j).code (task_at after j).code team next (index_of W j)
        (λ free. ap (λ (opened : List Open). list_any is_work opened) (other-opens run W after I J past t e goes j other) ∙ free)
        (λ some ends. ends-what (last_what team (index_of W j)) (last_what next (index_of W j)) (task_at after j).code
        (ap (λ (met : TeamMeeting). met.what) (last-met team (current_index W t) (index_of W j) what apart some
        (works.within (current_region W t) (index_of W j))))
        (ends-go e go j made.below (last_what team (index_of W j)) (λ is. absurd (other is)) ends))
        (λ some. omega (arith, some, ap (λ (x : Member). x.met) (other-member team (current_index W t) (index_of W j) what apart)))
        (λ some over. over-met team (current_index W t) (index_of W j) what apart some (works.within (current_region W t) (index_of W j)) over) stands)

    old-go : (j : ℕ) → IsTask W j → is_explicit_task after j ≡ false → After j
    old-go j made plain =
        elim (cases_Bool (has_started (pooled_at W j).condition)) [
          | inl started ↦
              let before : is_explicit_task W j ≡ false = sym (place-go run W after I J past t e goes j made started).explicit ∙ plain in
              elim (cases_eq j (current W t)) [
                | inl is ↦ placed-go j made started
                    (subst (λ (j : ℕ). Standing (task_at after j).code (region_at after (region_of W j)).team (index_of W j)) (sym is)
                    (own-place (subst (λ (j : ℕ). 1 ≤ j) is made.some) (subst (λ (j : ℕ). is_explicit_task W j ≡ false) is before)))
                | inr other ↦ placed-go j made started
                    (other-go j made before other (team-is run W after I J past t e goes free (region_of W j)
                    (goes.knows.sound.made.placed j made).below))
              ]
          | inr not ↦
              idle-go j
              (λ is. true≢false (sym (current-started run W after I J past t e goes (subst (λ (j : ℕ). 1 ≤ j) is made.some))
              ∙ ap (λ (j : ℕ). has_started (pooled_at W j).condition) (sym is) ∙ not))
              (goes.knows.brackets.fresh j not)
        ]
      where
        own-place : 1 ≤ current W t → is_explicit_task W k ≡ false →
            Standing (task_at after k).code (region_at after (region_of W k)).team (index_of W k)
        own-place some plain =
            subst (λ (i : ℕ). Standing (task_at after k).code (region_at after (region_of W k)).team i) (sym (own-index e goes go some))
            (own-go e goes go free some (own-stands e goes go some plain))

    tasks-go : (j : ℕ) → IsTask after j → is_explicit_task after j ≡ false → After j
    tasks-go j made plain =
        elim (cases_eq j (length W.tasks)) [
          | inl is ↦ idle-go j (λ same. omega (arith, is, same, current-below W t goes.knows.sound.made)) (none-opens W j is)
          | inr other ↦
              old-go j (record {
                some = made.some;
                below = omega (
                  arith,
                  other,
                  made.below,
                  goes.touches.world.tasks,
                  tasks-few e
                      (length W.tasks),
                );
              }) plain
        ]

    -- where there is no team nothing was told
    unmade : (q n : ℕ) → length W.regions ≤ q → told_so q n ≡ nothing_told
    unmade q n beyond =
        let none : region_at W q ≡ no_region = get_or_past W.regions q no_region beyond in
        (tells.teams q n).none (omega (arith, ap (λ (x : Region). length x.team.meetings) none))

    few : 1 ≤ current W t → length team.members ≤ TEAM_LIMIT
    few some =
        let region = goes.knows.sound.made.regions (current_region W t) (current-made W t goes.knows.sound.made some).within.made in
        omega (arith, region.team, region.fits, goes.knows.sound.threads, goes.knows.sound.whole.few)

    old-team : (q n : ℕ) → TeamIs W after t q → TellsAt after q n (told_so q n)
    old-team q n (Same same) =
        tells-same (length (region_at W q).team.members) (length (region_at after q).team.members) (region_at W q).team.meetings
        (region_at after q).team.meetings n (told_so q n) same.count same.meetings (tells.teams q n)
    old-team q n (Met here some own what chunk is) =
        subst (λ (x : TeamView). TellsTeam (length x.members) x.meetings n (told_so q n)) (sym is)
        (tells-met team (current_index W t) what n (told_so q n) (place-within run W I past t goes.knows some) (few some) chunk
        (subst (λ (p : ℕ). TellsTeam (length (region_at W p).team.members) (region_at W p).team.meetings n (told_so q n)) here (tells.teams q n)))

    empty-team : (size n : ℕ) (x : Telling) → x ≡ nothing_told → TellsTeam size [] n x
    empty-team size n x none = record { none = λ past. none; some = λ below. absurd (omega (arith, below)) }

    teams-go : (q n : ℕ) → TellsAt after q n (told_so q n)
    teams-go q n =
        elim (cases_lt q (length after.regions)) [
          | inr beyond ↦
              subst (λ (x : Region). TellsTeam (length x.team.members) x.team.meetings n (told_so q n)) (sym
              (get_or_past after.regions q no_region beyond))
              (empty-team 0 n (told_so q n) (unmade q n (omega (arith, beyond, regions-more))))
          | inl made ↦ elim (cases_eq q (length W.regions)) [
            | inl is ↦
                let fresh = fresh-region run W after I J past t e goes q is made in
                subst (λ (x : TeamView). TellsTeam (length x.members) x.meetings n (told_so q n)) (sym fresh.team)
                (empty-team (length (fresh_team fresh.size).members) n (told_so q n) (unmade q n (omega (arith, is))))
            | inr other ↦ old-team q n (team-is run W after I J past t e goes free q (old-region run W after I J past t e goes q made other))
          ]
        ]
      where
        regions-more : length W.regions ≤ length after.regions
        regions-more = omega (arith, goes.touches.world.regions, regions-grow e (length W.regions))

    pub tells-go : Tells after told_so
    tells-go = record { teams = teams-go; tasks = tasks-go }
