-- An implicit task begins once, where it joins, and its region stays open until it has its end.
use Rattle.std.proofs.Common.{◌≡◌, ℕ, ◌+◌, ◌==◌, ◌&&◌, ◌||◌, Bool, true, false, cond, not, List, [], ◌∷◌, Option, Some, None, refl, sym, ◌∙◌, ap, subst, arith}
use Rattle.std.specs.Prelude.{is_some, nat_le}
use Rattle.std.specs.List.{list_all}
use Rattle.std.proofs.lemmas.Bool.{eqb-true}
use Rattle.std.proofs.lemmas.Bool.Decides.{nat_tests}
use Rattle.ompt_calls.specs.declared.call.Call.{Call}
use Rattle.ompt_calls.specs.declared.call.Call.TheVariants.{TaskSchedule, ImplicitTask, SyncRegionWait, Work, Masked, SyncRegion}
use Rattle.ompt_calls.specs.declared.event.EventRecord.{EventRecord}
use Rattle.trace_check.specs.declared.bracket.Bracket.TheVariants.{Parallel, Implicit, Explicit, Worksharing, Masking, Syncing, Waiting}
use Rattle.trace_check.specs.declared.change.Change.TheVariants.{Opens, Closes, Stays}
use Rattle.trace_check.specs.Brackets.{change_of}
use Rattle.trace_check.specs.Before.{Join, and_more, events_of, greatest_task, has_left, is_just, is_open_region, join_of, joins, left_task}
use Rattle.trace_check.specs.Rules.{keeps_tasks, may_join}
use Rattle.trace_check.specs.Checking.{Unbroken}
use Rattle.trace_check.proofs.Kept12.{KeepsAll, keeps_all}
use Rattle.trace_check.proofs.Once.{Alike, Fresh, Once, closes_by, has_closed, has_opened, once, opens_by}
use Rattle.trace_check.proofs.Names.{no_close, no_endpoint, no_return, no_status, of_implicit}
use Rattle.trace_check.proofs.Joined.{is_made, join_in, joins_made}
use Rattle.trace_check.proofs.Tests.{left, right}

abbrev has_task : ℕ → Option Join → Bool
has_task k None = false
has_task k (Some join) = join.task == k

-- the begin of another task than the initial one is a join
opens_implicit : (k : ℕ) (past : List EventRecord) (t : ℕ) (call : Call) → (1 == k) ≡ false → keeps_tasks past t call ≡ true → opens_by (of_implicit k) (change_of call) ≡ has_task k (join_of call)
opens_implicit k past t (ImplicitTask endpoint region task actual index flags) other keeps =
    by-tests (endpoint == 1) (flags == 1) (endpoint == 2) (task.identity == 1) refl (left _ _ keeps)
  where
    not-initial : (first e f s r a i : Bool) → e ≡ true → f ≡ true → cond first (e && (f && (r && (s && (a && i))))) (not (e && f)) ≡ true → s ≡ true
    not-initial true true true true r a i one two keep = refl
    not-initial true true true false true a i one two keep = absurd (cc)
    not-initial true true true false false a i one two keep = absurd (cc)
    not-initial false true true s r a i one two keep = absurd (cc)
    not-initial first false f s r a i one two keep = absurd (cc)
    not-initial first true false s r a i one two keep = absurd (cc)

    differs : (task.identity == 1) ≡ true → (task.identity == k) ≡ false
    differs one = subst (λ (n : ℕ). (n == k) ≡ false) (sym (eqb-true task.identity 1 one)) other

    by-tests : (e f d s : Bool) → (task.identity == 1) ≡ s → cond ((t == 0) && (events_of 0 past == 1)) (e && (f && ((region.identity == 1) && (s && ((actual == 1) && (index == 1)))))) (not (e && f)) ≡ true
        → opens_by (of_implicit k) (cond e (Opens (Implicit task.identity)) (cond d (Closes (Implicit task.identity)) Stays))
        ≡ has_task k (cond (e && not f) (Some (record { region = region.identity; task = task.identity; actual = actual; index = index })) None)
    by-tests true false d s same keep = refl
    by-tests true true d s same keep = differs (same ∙ not-initial ((t == 0) && (events_of 0 past == 1)) true true s (region.identity == 1) (actual == 1) (index == 1) refl refl keep)
    by-tests false f true s same keep = refl
    by-tests false f false s same keep = refl
opens_implicit k past t (TaskSchedule prior status next) other keeps = no_status (of_implicit k) status prior.identity next.identity (λ a b. refl)
opens_implicit k past t (SyncRegionWait kind endpoint region task codeptr) other keeps = no_endpoint (of_implicit k) endpoint (Waiting task.identity kind) refl
opens_implicit k past t (Work kind endpoint region task count codeptr) other keeps = no_endpoint (of_implicit k) endpoint (Worksharing region.identity task.identity kind count) refl
opens_implicit k past t (Masked endpoint region task codeptr) other keeps = no_endpoint (of_implicit k) endpoint (Masking task.identity) refl
opens_implicit k past t (SyncRegion kind endpoint region task codeptr) other keeps = no_endpoint (of_implicit k) endpoint (Syncing task.identity kind) refl
opens_implicit k past t call other keeps = refl

closes_implicit : (k : ℕ) (call : Call) → closes_by (of_implicit k) (change_of call) ≡ is_just k (left_task call)
closes_implicit k (ImplicitTask endpoint region task actual index flags) = by-test (endpoint == 1) (endpoint == 2) (one_end endpoint)
  where
    one_end : (s : ℕ) → (s == 1) ≡ true → (s == 2) ≡ false
    one_end s one = grind (arith, nat_tests)

    by-test : (a b : Bool) → (a ≡ true → b ≡ false) → closes_by (of_implicit k) (cond a (Opens (Implicit task.identity)) (cond b (Closes (Implicit task.identity)) Stays)) ≡ is_just k (cond b (Some task.identity) None)
    by-test true true apart = let e : true ≡ false = apart refl in absurd (cc)
    by-test true false apart = refl
    by-test false true apart = refl
    by-test false false apart = refl
closes_implicit k (TaskSchedule prior status next) = no_return (of_implicit k) status prior.identity next.identity (λ a b. refl)
closes_implicit k (SyncRegionWait kind endpoint region task codeptr) = no_close (of_implicit k) endpoint (Waiting task.identity kind) refl
closes_implicit k (Work kind endpoint region task count codeptr) = no_close (of_implicit k) endpoint (Worksharing region.identity task.identity kind count) refl
closes_implicit k (Masked endpoint region task codeptr) = no_close (of_implicit k) endpoint (Masking task.identity) refl
closes_implicit k (SyncRegion kind endpoint region task codeptr) = no_close (of_implicit k) endpoint (Syncing task.identity kind) refl
closes_implicit k call = refl

pub joined_is : (k : ℕ) (past : List EventRecord) → (1 == k) ≡ false → Unbroken past → has_opened (of_implicit k) past ≡ is_some (join_in k (joins past))
joined_is k [] other unbroken = refl
joined_is k (event ∷ past) other unbroken =
    let all : KeepsAll past event = keeps_all past event unbroken.0 in
    rw (opens_implicit k past event.thread event.call other all.tasks, joined_is k past other unbroken.1) (by-join (join_of event.call))
  where
    by-test : (join : Join) (b : Bool) → (b || is_some (join_in k (joins past))) ≡ is_some (cond b (Some join) (join_in k (joins past)))
    by-test join true = refl
    by-test join false = refl

    by-join : (join : Option Join) → (has_task k join || is_some (join_in k (joins past))) ≡ is_some (join_in k (and_more join (joins past)))
    by-join None = refl
    by-join (Some join) = by-test join (join.task == k)

pub left_is : (k : ℕ) (past : List EventRecord) → has_closed (of_implicit k) past ≡ has_left k past
left_is k [] = refl
left_is k (event ∷ past) = rw (closes_implicit k event.call, left_is k past) refl

alike_implicit : (k : ℕ) → Alike (of_implicit k)
alike_implicit k (Implicit task) (Implicit ended) same = ap (λ (n : ℕ). n == k) (eqb-true task ended same)
alike_implicit k (Implicit task) (Parallel ended) same = absurd (cc)
alike_implicit k (Implicit task) (Explicit prior next) same = absurd (cc)
alike_implicit k (Implicit task) (Worksharing others other kind count) same = absurd (cc)
alike_implicit k (Implicit task) (Masking other) same = absurd (cc)
alike_implicit k (Implicit task) (Syncing other kind) same = absurd (cc)
alike_implicit k (Implicit task) (Waiting other kind) same = absurd (cc)
alike_implicit k (Parallel region) (Parallel ended) same = refl
alike_implicit k (Parallel region) ended same = absurd (cc)
alike_implicit k (Explicit prior next) (Explicit others ended) same = refl
alike_implicit k (Explicit prior next) ended same = absurd (cc)
alike_implicit k (Worksharing region task kind count) (Worksharing others other like more) same = refl
alike_implicit k (Worksharing region task kind count) ended same = absurd (cc)
alike_implicit k (Masking task) (Masking ended) same = refl
alike_implicit k (Masking task) ended same = absurd (cc)
alike_implicit k (Syncing task kind) (Syncing other like) same = refl
alike_implicit k (Syncing task kind) ended same = absurd (cc)
alike_implicit k (Waiting task kind) (Waiting other like) same = refl
alike_implicit k (Waiting task kind) ended same = absurd (cc)

-- a task beyond the greatest has not joined
pub not_joined : (k g : ℕ) (all : List Join) → k ≡ g + 1 → list_all (is_made g) all ≡ true → join_in k all ≡ None
not_joined k g [] next made = refl
not_joined k g (join ∷ all) next made = rw (differs join.task (left (nat_le join.task g) _ made)) (not_joined k g all next (right (nat_le join.task g) _ made))
  where
    differs : (task : ℕ) → nat_le task g ≡ true → (task == k) ≡ false
    differs task below = grind (arith, nat_tests)

fresh_implicit : (k : ℕ) → (1 == k) ≡ false → (past : List EventRecord) (event : EventRecord) → Unbroken past → KeepsAll past event → Fresh (of_implicit k) past event
fresh_implicit k other past event unbroken all opens =
    joined_is k past other unbroken ∙ ap is_some (by-join (join_of event.call) (sym (opens_implicit k past event.thread event.call other all.tasks) ∙ opens) (right _ (may_join past (join_of event.call)) all.tasks))
  where
    by-join : (join : Option Join) → has_task k join ≡ true → may_join past join ≡ true → join_in k (joins past) ≡ None
    by-join None is may = absurd (cc)
    by-join (Some join) is may =
        let next : join.task ≡ greatest_task past + 1 = eqb-true join.task (greatest_task past + 1) (left _ _ (right (is_open_region join.region past) _ may)) in
        let same : join.task ≡ k = eqb-true join.task k is in
        not_joined k (greatest_task past) (joins past) (sym same ∙ next) (joins_made past)

pub once_implicit : (k : ℕ) (past : List EventRecord) → (1 == k) ≡ false → Unbroken past → Once (of_implicit k) past
once_implicit k past other unbroken = once (of_implicit k) (alike_implicit k) (fresh_implicit k other) past unbroken
