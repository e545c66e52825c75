-- The slices that are open on a thread are those of its open brackets.
use Rattle.std.proofs.Common.{ℕ, ◌≡◌, ◌==◌, Bool, true, false, cond, List, [], ◌∷◌, ◌++◌, drop, map, not, length, Some, refl, sym, ap, subst, ◌∙◌}
use Rattle.std.specs.Prelude.{All, bytes_eq, codes, slice_get, ◌||◌}
use Rattle.std.specs.List.{AllByRecursion}
use Rattle.std.specs.Fmt.{decimal}
use Rattle.std.proofs.lemmas.Bool.{eqb-true}
use Rattle.std.proofs.lemmas.List.Elements.{All-append, All-from_recursion}
use Rattle.ompt_calls.specs.declared.call.Call.{Call}
use Rattle.ompt_calls.specs.declared.call.Call.TheVariants.{ThreadBegin, ThreadEnd, TaskCreate, TaskSchedule, MutexReleased, LockInit, LockDestroy, MutexAcquire, MutexAcquired, Dispatch}
use Rattle.ompt_calls.specs.declared.event.EventRecord.{EventRecord}
use Rattle.trace_check.specs.declared.bracket.Bracket.{Bracket}
use Rattle.trace_check.specs.declared.bracket.Bracket.TheVariants.{Parallel, Implicit, Explicit, Worksharing, Masking, Syncing, Waiting}
use Rattle.trace_check.specs.declared.change.Change.{Change}
use Rattle.trace_check.specs.declared.change.Change.TheVariants.{Opens, Closes, Stays}
use Rattle.trace_check.specs.Before.{is_end, is_of, opened}
use Rattle.trace_check.specs.Brackets.{change_of, changed, is_innermost, is_match}
use Rattle.trace_check.specs.Rules.{keeps_brackets, may_change}
use Rattle.trace_check.proofs.Tests.{apart, left, right}
use Rattle.trace_view.specs.Chrome.{Mark, flows_to, happens, holds, marks, mutex_name, own_marks, slice_marks, slice_name, waits}
use Rattle.trace_view.specs.Slices.{EndsNewest, open_slices, slices_after}

-- ---- what marks do to the open slices

after_both : (first second : List Mark) (slices : List (List ℕ)) → slices_after (first ++ second) slices ≡ slices_after second (slices_after first slices)
after_both [] second slices = refl
after_both (mark ∷ first) second slices = after_both first second _

-- an end takes away the name of the bracket that it closes
drop_names : (brackets : List Bracket) → drop 1 (map slice_name brackets) ≡ map slice_name (drop 1 brackets)
drop_names [] = refl
drop_names (bracket ∷ rest) = refl

after_change : (change : Change) (brackets : List Bracket) → slices_after (slice_marks change) (map slice_name brackets) ≡ map slice_name (changed change brackets)
after_change (Opens bracket) brackets = refl
after_change (Closes bracket) brackets = drop_names brackets
after_change Stays brackets = refl

-- the marks beside the slices leave them as they are
after_own : (t : ℕ) (call : Call) (slices : List (List ℕ)) → slices_after (own_marks t call) slices ≡ slices
after_own t (TaskSchedule prior status next) slices = by-test (status == 7)
  where
    by-test : (b : Bool) → slices_after (cond b (flows_to next.identity ∷ []) []) slices ≡ slices
    by-test true = refl
    by-test false = refl
after_own t (MutexAcquire kind hint variant wait_id codeptr) slices = by-test (kind == 2)
  where
    by-test : (b : Bool) →
        slices_after (cond b (happens (codes "test_lock " ++ decimal wait_id) ∷ []) (waits (codes "b") t (mutex_name kind wait_id) ∷ [])) slices ≡ slices
    by-test true = refl
    by-test false = refl
after_own t (MutexAcquired kind wait_id codeptr) slices = by-test (kind == 2)
  where
    by-test : (b : Bool) →
        slices_after (cond b [] (waits (codes "e") t (mutex_name kind wait_id) ∷ []) ++ holds (codes "b") wait_id (mutex_name kind wait_id) ∷ []) slices ≡ slices
    by-test true = refl
    by-test false = refl
after_own t other slices = refl

-- so the open slices are those of the open brackets
pub open_are : (t : ℕ) (past : List EventRecord) → open_slices t past ≡ map slice_name (opened t past)
open_are t [] = refl
open_are t (event ∷ past) = by-test (open_are t past) (is_of t event)
  where
    here : open_slices t past ≡ map slice_name (opened t past) → slices_after (marks event) (open_slices t past) ≡ map slice_name (changed (change_of event.call) (opened t past))
    here before =
        ap (slices_after (marks event)) before
        ∙ (after_both (slice_marks (change_of event.call)) (own_marks event.thread event.call) (map slice_name (opened t past))
        ∙ (after_own event.thread event.call (slices_after (slice_marks (change_of event.call)) (map slice_name (opened t past)))
        ∙ after_change (change_of event.call) (opened t past)))

    by-test : open_slices t past ≡ map slice_name (opened t past) → (b : Bool)
        → cond b (slices_after (marks event) (open_slices t past)) (open_slices t past)
        ≡ map slice_name (cond b (changed (change_of event.call) (opened t past)) (opened t past))
    by-test before true = here before
    by-test before false = before

-- ---- an end ends the newest slice

-- a bracket and its end have one name
match_names : (begun ended : Bracket) → is_match begun ended ≡ true → slice_name begun ≡ slice_name ended
match_names (Parallel region) (Parallel other) same = ap (λ (n : ℕ). slice_name (Parallel n)) (eqb-true region other same)
match_names (Implicit task) (Implicit other) same = ap (λ (n : ℕ). slice_name (Implicit n)) (eqb-true task other same)
match_names (Explicit prior next) (Explicit others other) same =
    ap (λ (n : ℕ). slice_name (Explicit prior n)) (eqb-true next other (right (prior == others) (next == other) same))
match_names (Worksharing region task kind count) (Worksharing others other like more) same =
    ap (λ (n : ℕ). slice_name (Worksharing region task n count)) (eqb-true kind like (right (task == other) (kind == like) same))
match_names (Masking task) (Masking other) same = refl
match_names (Syncing task kind) (Syncing other like) same =
    ap (λ (n : ℕ). slice_name (Syncing task n)) (eqb-true kind like (right (task == other) (kind == like) same))
match_names (Waiting task kind) (Waiting other like) same =
    ap (λ (n : ℕ). slice_name (Waiting task n)) (eqb-true kind like (right (task == other) (kind == like) same))
match_names begun ended same = absurd (cc)

newest : (brackets : List Bracket) (ended : Bracket) → is_innermost brackets ended ≡ true → slice_get (map slice_name brackets) 0 ≡ Some (slice_name ended)
newest [] ended same = absurd (cc)
newest (bracket ∷ rest) ended same = ap Some (match_names bracket ended same)

-- a mark of another phase is no end
other : {A : Type 0} (phase : List ℕ) → bytes_eq phase (codes "E") ≡ false → phase ≡ codes "E" → A
other phase differs is = absurd (apart (bytes_eq phase (codes "E")) (ap (λ (p : List ℕ). bytes_eq p (codes "E")) is) differs)

change_ends :
    (past : List EventRecord) (t : ℕ) (change : Change) → may_change past t change ≡ true
    → AllByRecursion (EndsNewest (map slice_name (opened t past))) (slice_marks change)
change_ends past t (Opens bracket) may = (other (codes "B") refl, tt)
change_ends past t (Closes bracket) may = ((λ _. newest (opened t past) bracket may), tt)
change_ends past t Stays may = tt

own_ends : (t : ℕ) (call : Call) (slices : List (List ℕ)) → AllByRecursion (EndsNewest slices) (own_marks t call)
own_ends t (ThreadBegin kind thread) slices = (other (codes "M") refl, tt)
own_ends t (ThreadEnd thread) slices = (other (codes "i") refl, tt)
own_ends t (TaskCreate task frame fresh flags has_dependences codeptr) slices = (other (codes "i") refl, (other (codes "s") refl, tt))
own_ends t (TaskSchedule prior status next) slices = by-test (status == 7)
  where
    by-test : (b : Bool) → AllByRecursion (EndsNewest slices) (cond b (flows_to next.identity ∷ []) [])
    by-test true = (other (codes "f") refl, tt)
    by-test false = tt
own_ends t (MutexReleased kind wait_id codeptr) slices = (other (codes "e") refl, tt)
own_ends t (LockInit kind hint variant wait_id codeptr) slices = (other (codes "i") refl, tt)
own_ends t (LockDestroy kind wait_id codeptr) slices = (other (codes "i") refl, tt)
own_ends t (MutexAcquire kind hint variant wait_id codeptr) slices = by-test (kind == 2)
  where
    by-test : (b : Bool) → AllByRecursion (EndsNewest slices)
        (cond b (happens (codes "test_lock " ++ decimal wait_id) ∷ []) (waits (codes "b") t (mutex_name kind wait_id) ∷ []))
    by-test true = (other (codes "i") refl, tt)
    by-test false = (other (codes "b") refl, tt)
own_ends t (MutexAcquired kind wait_id codeptr) slices = by-test (kind == 2)
  where
    by-test : (b : Bool) → AllByRecursion (EndsNewest slices)
        (cond b [] (waits (codes "e") t (mutex_name kind wait_id) ∷ []) ++ holds (codes "b") wait_id (mutex_name kind wait_id) ∷ [])
    by-test true = (other (codes "b") refl, tt)
    by-test false = (other (codes "e") refl, (other (codes "b") refl, tt))
own_ends t (Dispatch region task kind start iterations) slices = (other (codes "i") refl, tt)
own_ends t call slices = tt

-- by rule 6 each end among the marks of an event has the name of the newest open slice
pub ends_newest :
    (past : List EventRecord) (event : EventRecord) → keeps_brackets past event.thread event.call ≡ true
    → All (EndsNewest (open_slices event.thread past)) (marks event)
ends_newest past event keeps =
    subst (λ (slices : List (List ℕ)). All (EndsNewest slices) (marks event)) (sym (open_are event.thread past))
    (All-append Ends (slice_marks (change_of event.call)) (own_marks event.thread event.call)
    (All-from_recursion Ends (slice_marks (change_of event.call)) (change_ends past event.thread (change_of event.call)
    (left (may_change past event.thread (change_of event.call)) (not (is_end event.call) || (length (opened event.thread past) == 0)) keeps)))
    (All-from_recursion Ends (own_marks event.thread event.call) (own_ends event.thread event.call (map slice_name (opened event.thread past)))))
  where
    Ends : Mark → Type 0
    Ends = EndsNewest (map slice_name (opened event.thread past))
