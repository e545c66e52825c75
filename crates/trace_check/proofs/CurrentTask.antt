-- The task that a thread runs after the begin of a bracket, and after its end.
use Rattle.std.proofs.Common.{◌≡◌, ℕ, ◌==◌, ◌&&◌, ◌||◌, Bool, true, false, true≢false, cond, not, List, ◌∷◌, Option, Some, None, refl, sym, ◌∙◌, ap, subst}
use Rattle.std.proofs.lemmas.Bool.{eqb-true, eq-eqb}
use Rattle.ompt_calls.specs.declared.call.Call.{Call}
use Rattle.ompt_calls.specs.declared.call.Call.TheVariants.{ParallelBegin, ParallelEnd, TaskSchedule, ImplicitTask, SyncRegionWait, Work, Masked, SyncRegion}
use Rattle.ompt_calls.specs.declared.event.EventRecord.{EventRecord}
use Rattle.trace_check.specs.declared.bracket.Bracket.{Bracket}
use Rattle.trace_check.specs.declared.bracket.Bracket.TheVariants.{Parallel, Implicit, Explicit}
use Rattle.trace_check.specs.declared.change.Change.TheVariants.{Opens, Closes, Stays}
use Rattle.trace_check.specs.declared.things.Current.{Current}
use Rattle.trace_check.specs.declared.things.Seat.{Seat}
use Rattle.trace_check.specs.Brackets.{at_endpoint, at_status, change_of, current_in}
use Rattle.trace_check.specs.Before.{Join, and_more, has_started, is_created, join_of, joins, opened}
use Rattle.trace_check.specs.Rules.{first_broken, keeps_starts, keeps_tasks, may_join}
use Rattle.trace_check.specs.Checking.{Unbroken, current_after, current_with, is_closing, running, seat_in}
use Rattle.trace_check.proofs.Children.{created_joined}
use Rattle.trace_check.proofs.Joined.{join_in, seat_is, seat_of}
use Rattle.trace_check.proofs.Kept12.{KeepsAll, keeps_all}
use Rattle.trace_check.proofs.Creations.{initial_unjoined}
use Rattle.trace_check.proofs.Unmoved.{closes_at, stays_at}
use Rattle.trace_check.proofs.Tests.{left}

-- ---- tasks without a place in a team

-- a task that joins none has no place
no_place : (task : ℕ) (all : List Join) → join_in task all ≡ None → seat_in task all ≡ None
no_place task all none = seat_is task all ∙ ap seat_of none

-- ---- the begin of a bracket

-- the bracket that opens at an endpoint, and at a status
at_opens : (endpoint : ℕ) (one bracket : Bracket) → at_endpoint endpoint one ≡ Opens bracket → (one ≡ bracket) × ((endpoint == 1) ≡ true)
at_opens endpoint one bracket opens = by-test (endpoint == 1) (endpoint == 2) opens
  where
    by-test : (a b : Bool) → cond a (Opens one) (cond b (Closes one) Stays) ≡ Opens bracket → (one ≡ bracket) × (a ≡ true)
    by-test true b is = (let e : one ≡ bracket = cc in e, refl)
    by-test false true is = absurd (cc)
    by-test false false is = absurd (cc)

status_opens : (status prior next : ℕ) (bracket : Bracket) → at_status status prior next ≡ Opens bracket
    → (Explicit prior next ≡ bracket) × ((status == 7) ≡ true)
status_opens status prior next bracket opens = by-test (status == 7) (status == 1) opens
  where
    by-test : (a b : Bool) → cond a (Opens (Explicit prior next)) (cond b (Closes (Explicit next prior)) Stays) ≡ Opens bracket
        → (Explicit prior next ≡ bracket) × (a ≡ true)
    by-test true b is = (let e : Explicit prior next ≡ bracket = cc in e, refl)
    by-test false true is = absurd (cc)
    by-test false false is = absurd (cc)

-- a change opens one bracket, and what closes one or leaves them opens none
same_opened : (one other : Bracket) → Opens one ≡ Opens other → one ≡ other
same_opened one other same = cc

closing_opens : (one other : Bracket) → Closes one ≡ Opens other → ⊥
closing_opens one other same = cc

staying_opens : (bracket : Bracket) → Stays ≡ Opens bracket → ⊥
staying_opens bracket same = cc

-- only the initial task begins as one
initial_one : (first begins initial region task rest : Bool) → begins ≡ true → initial ≡ true
    → cond first (begins && (initial && (region && (task && rest)))) (not (begins && initial)) ≡ true → task ≡ true
initial_one true true true true true rest begins-so initial-so keeps = refl
initial_one true true true true false rest begins-so initial-so keeps = absurd (cc)
initial_one true true true false task rest begins-so initial-so keeps = absurd (cc)
initial_one true true false region task rest begins-so initial-so keeps = absurd (cc)
initial_one true false initial region task rest begins-so initial-so keeps = absurd (cc)
initial_one false true true region task rest begins-so initial-so keeps = absurd (cc)
initial_one false true false region task rest begins-so initial-so keeps = absurd (cc)
initial_one false false initial region task rest begins-so initial-so keeps = absurd (cc)

-- a task with its place
abbrev with_seat : ℕ → Option Seat → Option Current
with_seat task seat = Some (record { task = task; seat = seat })

-- the task that its thread runs then
pub opened_current : (past : List EventRecord) (event : EventRecord) (bracket : Bracket) → Unbroken past → first_broken past event ≡ None
    → change_of event.call ≡ Opens bracket
    → current_after event.call (running (joins past) (opened event.thread past)) ≡ running (joins (event ∷ past)) (bracket ∷ opened event.thread past)
opened_current past event bracket unbroken keeps opens =
    let all : KeepsAll past event = keeps_all past event keeps in
    by-call event.call opens all.tasks all.starts
  where
    plain : (one : Bracket) → one ≡ bracket → current_in (one ∷ opened event.thread past) ≡ current_in (opened event.thread past)
        → running (joins past) (opened event.thread past) ≡ current_with (joins past) (current_in (bracket ∷ opened event.thread past))
    plain one is same =
        subst (λ (b : Bracket). running (joins past) (opened event.thread past) ≡ current_with (joins past) (current_in (b ∷ opened event.thread past))) is
        (ap (current_with (joins past)) (sym same))

    placed : (task : ℕ) (seat other : Option Seat) → seat ≡ other → with_seat task seat ≡ with_seat task other
    placed task seat other same = rw same refl

    created : (switch made started : Bool) → switch ≡ true → (not switch || (made && not started)) ≡ true → made ≡ true
    created true true started is may = refl
    created true false started is may = absurd (true≢false (sym may))
    created false made started is may = absurd (true≢false (sym is))

    by-flags : (region task actual index : ℕ) (first begins initial : Bool) (others rest : Bool) → begins ≡ true
        → cond first (begins && (initial && (others && ((task == 1) && rest)))) (not (begins && initial)) ≡ true
        → cond initial None (Some (record { region = region; index = index }))
        ≡ seat_in task (and_more (cond (begins && not initial) (Some (record { region = region; task = task; actual = actual; index = index })) None)
        (joins past))
    by-flags region task actual index first true true others rest is may =
        let one : task ≡ 1 = eqb-true task 1 (initial_one first true true others (task == 1) rest refl refl may) in
        sym (no_place task (joins past) (rw one (initial_unjoined past unbroken)))
    by-flags region task actual index first true false others rest is may = rw (eq-eqb task task refl) refl
    by-flags region task actual index first false initial others rest is may = absurd (true≢false (sym is))

    by-call : (call : Call) → change_of call ≡ Opens bracket → keeps_tasks past event.thread call ≡ true → keeps_starts past call ≡ true
        → current_after call (running (joins past) (opened event.thread past))
        ≡ current_with (and_more (join_of call) (joins past)) (current_in (bracket ∷ opened event.thread past))
    by-call (ParallelBegin task frame region requested flags codeptr) is tasks starts =
        plain (Parallel region.identity) (same_opened (Parallel region.identity) bracket is) refl
    by-call (Work kind endpoint region task count codeptr) is tasks starts = plain _ (at_opens endpoint _ bracket is).0 refl
    by-call (Masked endpoint region task codeptr) is tasks starts = plain _ (at_opens endpoint _ bracket is).0 refl
    by-call (SyncRegion kind endpoint region task codeptr) is tasks starts = plain _ (at_opens endpoint _ bracket is).0 refl
    by-call (SyncRegionWait kind endpoint region task codeptr) is tasks starts = plain _ (at_opens endpoint _ bracket is).0 refl
    by-call (ImplicitTask endpoint region task actual index flags) is tasks starts =
        let one = at_opens endpoint (Implicit task.identity) bracket is in
        subst (λ (b : Bracket). current_after (ImplicitTask endpoint region task actual index flags) (running (joins past) (opened event.thread past))
        ≡ current_with (and_more (join_of (ImplicitTask endpoint region task actual index flags)) (joins past))
        (current_in (b ∷ opened event.thread past))) one.0
        (placed task.identity _ _ (by-flags region.identity task.identity actual index _ (endpoint == 1) (flags == 1) _ _ one.1
        (left _ (may_join past (join_of (ImplicitTask endpoint region task actual index flags))) tasks)))
    by-call (TaskSchedule prior status next) is tasks starts =
        let one = status_opens status prior.identity next.identity bracket is in
        let made : is_created next.identity past ≡ true =
        created (status == 7) (is_created next.identity past) (has_started next.identity past) one.1 starts in
        subst (λ (b : Bracket). with_seat next.identity None ≡ current_with (joins past) (current_in (b ∷ opened event.thread past))) one.0
        (placed next.identity None (seat_in next.identity (joins past))
        (sym (no_place next.identity (joins past) (created_joined next.identity past unbroken made))))
    by-call (ParallelEnd region task flags codeptr) is tasks starts = absurd (closing_opens (Parallel region.identity) bracket is)
    by-call other is tasks starts = absurd (staying_opens bracket is)

-- ---- events that open none

-- what closes a bracket joins no region, nor does what leaves the brackets
pub closing_joins : (call : Call) → is_closing (change_of call) ≡ true → join_of call ≡ None
closing_joins (ImplicitTask endpoint region task actual index flags) closes =
    let two : endpoint ≡ 2 = closes_at endpoint (Implicit task.identity) closes in rw two refl
closing_joins other closes = refl

pub staying_joins : (call : Call) → change_of call ≡ Stays → join_of call ≡ None
staying_joins (ImplicitTask endpoint region task actual index flags) stays = rw (stays_at endpoint (Implicit task.identity) stays).0 refl
staying_joins other stays = refl
