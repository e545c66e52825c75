-- The eight cases and the keys say the same.
use Rattle.std.proofs.Common.{◌≡◌, ℕ, ◌+◌, ◌==◌, ◌&&◌, ◌||◌, Bool, true, false, cond, not, List, ◌∷◌, Option, Some, None, refl, sym, ◌∙◌, ap}
use Rattle.std.proofs.lemmas.Bool.{eqb-true}
use Rattle.omp_codes.specs.declared.task_flags.TheConstants.{EXPLICIT_UNDEFERRED}
use Rattle.ompt_calls.specs.declared.call.Call.{Call}
use Rattle.ompt_calls.specs.declared.call.Call.TheVariants.{ImplicitTask, ParallelBegin, ParallelEnd, SyncRegionWait, TaskCreate, TaskSchedule, ThreadBegin}
use Rattle.ompt_calls.specs.declared.event.EventRecord.{EventRecord}
use Rattle.trace_check.specs.Before.{is_barrier, region_begun, region_ended, task_started, waits_of}
use Rattle.tool_tasks.specs.declared.key.Key.{Key}
use Rattle.tool_tasks.specs.declared.key.Key.TheVariants.{Next, Begun, Left, Created, Child, Ended, Wait}
use Rattle.tool_tasks.specs.Charge.{charged_task, charges_of}
use Rattle.tool_tasks.specs.Keys.{given_by, given_by_completion, gives, has_key, is_among_keys, is_key, key_of, leads_by_keys, next_given, next_taken, parent_next, same_key, taken_by}
use Rattle.tool_tasks.specs.Leads.{and_then, barrier_ended, ends_of, initial_ended, joined_region, leads, numbered, parent_completed, parent_if_undeferred, parent_of, place_after, place_freed, place_of, region_completed, region_entered, region_left, region_of, same, same_two, task_created, taskwait_ended, wait_begun, wait_ended}
use Rattle.tool_tasks.specs.Tree.{Origin, origin_of}

-- the key of a reading with a number
abbrev key_at : (ℕ → ℕ → Key) → Option (ℕ × ℕ) → Option Key
key_at key None = None
key_at key (Some two) = Some (key two.0 two.1)

or_false : (b : Bool) → (b || false) ≡ b
or_false true = refl
or_false false = refl

-- ---- the keys that an event gives are those of its readings

abbrev any_given : Key → Option Key × Option Key × Option Key → Bool
any_given key keys = is_key key keys.0 || (is_key key keys.1 || (is_key key keys.2 || false))

abbrev reads : Key → List EventRecord → EventRecord → Call → Bool
reads key past event call =
    is_key key (key_of Begun (region_begun call))
    || (is_key key (key_of Left (region_left past call))
    || (is_key key (key_of Created (task_created call))
    || (is_key key (key_of Child (parent_completed past call))
    || (is_key key (key_of Ended (region_completed past call))
    || (is_key key (key_at Next (place_freed past event call))
    || (is_key key (key_at Wait (wait_begun past call)) || false))))))

freed_is : (past : List EventRecord) (event : EventRecord) (origin : Option Origin)
    → parent_next past event origin ≡ key_at Next (numbered (parent_if_undeferred origin) (λ (parent : ℕ). charges_of parent (event ∷ past)))
freed_is past event None = refl
freed_is past event (Some origin) = by-test (origin.flags == EXPLICIT_UNDEFERRED)
  where
    by-test : (b : Bool) → cond b (Some (Next origin.parent (charges_of origin.parent (event ∷ past)))) None
        ≡ key_at Next (numbered (cond b (Some origin.parent) None) (λ (parent : ℕ). charges_of parent (event ∷ past)))
    by-test true = refl
    by-test false = refl

wait_is : (n : ℕ) (region : Option ℕ) → key_of (λ (region : ℕ). Wait region n) region ≡ key_at Wait (numbered region (λ (region : ℕ). n))
wait_is n None = refl
wait_is n (Some region) = refl

given_reads : (key : Key) (past : List EventRecord) (event : EventRecord) (call : Call) → any_given key (given_by past event call) ≡ reads key past event call
given_reads key past event (ParallelBegin task frame region requested flags codeptr) = refl
given_reads key past event (ImplicitTask endpoint region task actual index flags) = by-test (endpoint == 2)
  where
    by-test : (b : Bool) → (is_key key (cond b (key_of Left (joined_region task.identity past)) None) || false)
        ≡ (is_key key (key_of Left (and_then (cond b (Some task.identity) None) (λ (task : ℕ). joined_region task past))) || false)
    by-test true = refl
    by-test false = refl
given_reads key past event (TaskCreate task frame fresh flags has_dependences codeptr) = refl
given_reads key past event (TaskSchedule prior status next) = by-test (status == 1)
  where
    by-test : (b : Bool) → any_given key (cond b (given_by_completion past event prior.identity) (None, None, None))
        ≡ (is_key key (key_of Child (and_then (cond b (Some prior.identity) None) (λ (task : ℕ). parent_of (origin_of task past))))
        || (is_key key (key_of Ended (and_then (cond b (Some prior.identity) None) (λ (task : ℕ). region_of task past)))
        || (is_key key (key_at Next (and_then (cond b (Some prior.identity) None)
        (λ (task : ℕ). numbered (parent_if_undeferred (origin_of task past)) (λ (parent : ℕ). charges_of parent (event ∷ past))))) || false)))
    by-test true =
        ap (λ (freed : Option Key). is_key key (key_of Child (parent_of (origin_of prior.identity past)))
        || (is_key key (key_of Ended (region_of prior.identity past)) || (is_key key freed || false))) (freed_is past event (origin_of prior.identity past))
    by-test false = refl
given_reads key past event (SyncRegionWait kind endpoint region task codeptr) = by-test ((endpoint == 1) && is_barrier kind)
  where
    by-test : (b : Bool) → (is_key key (cond b (key_of (λ (region : ℕ). Wait region (waits_of task.identity past)) (region_of task.identity past)) None) || false)
        ≡ (is_key key (key_at Wait (and_then (cond b (Some task.identity) None) (λ (task : ℕ). numbered (region_of task past) (λ (region : ℕ). waits_of task past)))) || false)
    by-test true = ap (λ (given : Option Key). is_key key given || false) (wait_is (waits_of task.identity past) (region_of task.identity past))
    by-test false = refl
given_reads key past event (ThreadBegin kind thread) = refl
given_reads key past event other = refl

next_is : (past : List EventRecord) (task : Option ℕ) → next_given past task ≡ key_at Next (numbered task (λ (task : ℕ). charges_of task past + 1))
next_is past None = refl
next_is past (Some task) = refl

gives_reads : (key : Key) (past : List EventRecord) (event : EventRecord)
    → has_key key (gives past event) ≡ (is_key key (key_at Next (place_after past event)) || reads key past event event.call)
gives_reads key past event =
    ap (λ (rest : Bool). is_key key (next_given past (charged_task past event)) || rest) (given_reads key past event event.call)
    ∙ ap (λ (next : Option Key). is_key key next || reads key past event event.call) (next_is past (charged_task past event))

-- ---- keys of another family aren't there

skip : (key : Key) (family : ℕ → Key) → ((n : ℕ) → same_key key (family n) ≡ false) → (reading : Option ℕ) (rest : Bool) → (is_key key (key_of family reading) || rest) ≡ rest
skip key family other None rest = refl
skip key family other (Some n) rest = rw (other n) refl

skip_two : (key : Key) (family : ℕ → ℕ → Key) → ((n m : ℕ) → same_key key (family n m) ≡ false) → (reading : Option (ℕ × ℕ)) (rest : Bool)
    → (is_key key (key_at family reading) || rest) ≡ rest
skip_two key family other None rest = refl
skip_two key family other (Some two) rest = rw (other two.0 two.1) refl

one_begun : (n : ℕ) (reading : Option ℕ) → is_key (Begun n) (key_of Begun reading) ≡ same reading (Some n)
one_begun n None = refl
one_begun n (Some m) = refl

has_begun : (past : List EventRecord) (event : EventRecord) (n : ℕ) → has_key (Begun n) (gives past event) ≡ same (region_begun event.call) (Some n)
has_begun past event n =
    gives_reads (Begun n) past event
    ∙ (skip_two (Begun n) Next (λ n m. refl) (place_after past event) _
    ∙ (ap (λ (rest : Bool). is_key (Begun n) (key_of Begun (region_begun event.call)) || rest)
    (skip (Begun n) Left (λ n. refl) (region_left past event.call) _
    ∙ (skip (Begun n) Created (λ n. refl) (task_created event.call) _
    ∙ (skip (Begun n) Child (λ n. refl) (parent_completed past event.call) _
    ∙ (skip (Begun n) Ended (λ n. refl) (region_completed past event.call) _
    ∙ (skip_two (Begun n) Next (λ n m. refl) (place_freed past event event.call) _
    ∙ (skip_two (Begun n) Wait (λ n m. refl) (wait_begun past event.call) _))))))
    ∙ (or_false (is_key (Begun n) (key_of Begun (region_begun event.call)))
    ∙ (one_begun n (region_begun event.call)))))

one_left : (n : ℕ) (reading : Option ℕ) → is_key (Left n) (key_of Left reading) ≡ same reading (Some n)
one_left n None = refl
one_left n (Some m) = refl

has_left : (past : List EventRecord) (event : EventRecord) (n : ℕ) → has_key (Left n) (gives past event) ≡ same (region_left past event.call) (Some n)
has_left past event n =
    gives_reads (Left n) past event
    ∙ (skip_two (Left n) Next (λ n m. refl) (place_after past event) _
    ∙ (skip (Left n) Begun (λ n. refl) (region_begun event.call) _
    ∙ (ap (λ (rest : Bool). is_key (Left n) (key_of Left (region_left past event.call)) || rest)
    (skip (Left n) Created (λ n. refl) (task_created event.call) _
    ∙ (skip (Left n) Child (λ n. refl) (parent_completed past event.call) _
    ∙ (skip (Left n) Ended (λ n. refl) (region_completed past event.call) _
    ∙ (skip_two (Left n) Next (λ n m. refl) (place_freed past event event.call) _
    ∙ (skip_two (Left n) Wait (λ n m. refl) (wait_begun past event.call) _)))))
    ∙ (or_false (is_key (Left n) (key_of Left (region_left past event.call)))
    ∙ (one_left n (region_left past event.call))))))

one_created : (n : ℕ) (reading : Option ℕ) → is_key (Created n) (key_of Created reading) ≡ same reading (Some n)
one_created n None = refl
one_created n (Some m) = refl

has_created : (past : List EventRecord) (event : EventRecord) (n : ℕ) → has_key (Created n) (gives past event) ≡ same (task_created event.call) (Some n)
has_created past event n =
    gives_reads (Created n) past event
    ∙ (skip_two (Created n) Next (λ n m. refl) (place_after past event) _
    ∙ (skip (Created n) Begun (λ n. refl) (region_begun event.call) _
    ∙ (skip (Created n) Left (λ n. refl) (region_left past event.call) _
    ∙ (ap (λ (rest : Bool). is_key (Created n) (key_of Created (task_created event.call)) || rest)
    (skip (Created n) Child (λ n. refl) (parent_completed past event.call) _
    ∙ (skip (Created n) Ended (λ n. refl) (region_completed past event.call) _
    ∙ (skip_two (Created n) Next (λ n m. refl) (place_freed past event event.call) _
    ∙ (skip_two (Created n) Wait (λ n m. refl) (wait_begun past event.call) _))))
    ∙ (or_false (is_key (Created n) (key_of Created (task_created event.call)))
    ∙ (one_created n (task_created event.call)))))))

one_child : (n : ℕ) (reading : Option ℕ) → is_key (Child n) (key_of Child reading) ≡ same reading (Some n)
one_child n None = refl
one_child n (Some m) = refl

has_child : (past : List EventRecord) (event : EventRecord) (n : ℕ) → has_key (Child n) (gives past event) ≡ same (parent_completed past event.call) (Some n)
has_child past event n =
    gives_reads (Child n) past event
    ∙ (skip_two (Child n) Next (λ n m. refl) (place_after past event) _
    ∙ (skip (Child n) Begun (λ n. refl) (region_begun event.call) _
    ∙ (skip (Child n) Left (λ n. refl) (region_left past event.call) _
    ∙ (skip (Child n) Created (λ n. refl) (task_created event.call) _
    ∙ (ap (λ (rest : Bool). is_key (Child n) (key_of Child (parent_completed past event.call)) || rest)
    (skip (Child n) Ended (λ n. refl) (region_completed past event.call) _
    ∙ (skip_two (Child n) Next (λ n m. refl) (place_freed past event event.call) _
    ∙ (skip_two (Child n) Wait (λ n m. refl) (wait_begun past event.call) _)))
    ∙ (or_false (is_key (Child n) (key_of Child (parent_completed past event.call)))
    ∙ (one_child n (parent_completed past event.call))))))))

one_ended : (n : ℕ) (reading : Option ℕ) → is_key (Ended n) (key_of Ended reading) ≡ same reading (Some n)
one_ended n None = refl
one_ended n (Some m) = refl

has_ended : (past : List EventRecord) (event : EventRecord) (n : ℕ) → has_key (Ended n) (gives past event) ≡ same (region_completed past event.call) (Some n)
has_ended past event n =
    gives_reads (Ended n) past event
    ∙ (skip_two (Ended n) Next (λ n m. refl) (place_after past event) _
    ∙ (skip (Ended n) Begun (λ n. refl) (region_begun event.call) _
    ∙ (skip (Ended n) Left (λ n. refl) (region_left past event.call) _
    ∙ (skip (Ended n) Created (λ n. refl) (task_created event.call) _
    ∙ (skip (Ended n) Child (λ n. refl) (parent_completed past event.call) _
    ∙ (ap (λ (rest : Bool). is_key (Ended n) (key_of Ended (region_completed past event.call)) || rest)
    (skip_two (Ended n) Next (λ n m. refl) (place_freed past event event.call) _
    ∙ (skip_two (Ended n) Wait (λ n m. refl) (wait_begun past event.call) _))
    ∙ (or_false (is_key (Ended n) (key_of Ended (region_completed past event.call)))
    ∙ (one_ended n (region_completed past event.call)))))))))

one_wait : (n m : ℕ) (reading : Option (ℕ × ℕ)) → is_key (Wait n m) (key_at Wait reading) ≡ same_two reading (Some (n, m))
one_wait n m None = refl
one_wait n m (Some two) = refl

has_wait : (past : List EventRecord) (event : EventRecord) (n m : ℕ) → has_key (Wait n m) (gives past event) ≡ same_two (wait_begun past event.call) (Some (n, m))
has_wait past event n m =
    gives_reads (Wait n m) past event
    ∙ (skip_two (Wait n m) Next (λ n m. refl) (place_after past event) _
    ∙ (skip (Wait n m) Begun (λ n. refl) (region_begun event.call) _
    ∙ (skip (Wait n m) Left (λ n. refl) (region_left past event.call) _
    ∙ (skip (Wait n m) Created (λ n. refl) (task_created event.call) _
    ∙ (skip (Wait n m) Child (λ n. refl) (parent_completed past event.call) _
    ∙ (skip (Wait n m) Ended (λ n. refl) (region_completed past event.call) _
    ∙ (skip_two (Wait n m) Next (λ n m. refl) (place_freed past event event.call) _
    ∙ (or_false (is_key (Wait n m) (key_at Wait (wait_begun past event.call)))
    ∙ (one_wait n m (wait_begun past event.call))))))))))

one_next : (n m : ℕ) (reading : Option (ℕ × ℕ)) → is_key (Next n m) (key_at Next reading) ≡ same_two reading (Some (n, m))
one_next n m None = refl
one_next n m (Some two) = refl

both : (a b c d : Bool) → a ≡ c → b ≡ d → (a || b) ≡ (c || d)
both a b c d first second = rw (first, second) refl

has_next : (past : List EventRecord) (event : EventRecord) (n m : ℕ)
    → has_key (Next n m) (gives past event) ≡ (same_two (place_after past event) (Some (n, m)) || same_two (place_freed past event event.call) (Some (n, m)))
has_next past event n m =
    gives_reads (Next n m) past event
    ∙ both _ _ _ _ (one_next n m (place_after past event))
    (skip (Next n m) Begun (λ n. refl) (region_begun event.call) _
    ∙ (skip (Next n m) Left (λ n. refl) (region_left past event.call) _
    ∙ (skip (Next n m) Created (λ n. refl) (task_created event.call) _
    ∙ (skip (Next n m) Child (λ n. refl) (parent_completed past event.call) _
    ∙ (skip (Next n m) Ended (λ n. refl) (region_completed past event.call) _
    ∙ (ap (λ (rest : Bool). is_key (Next n m) (key_at Next (place_freed past event event.call)) || rest) (skip_two (Next n m) Wait (λ n m. refl) (wait_begun past event.call) _)
    ∙ (or_false (is_key (Next n m) (key_at Next (place_freed past event event.call)))
    ∙ (one_next n m (place_freed past event event.call)))))))))

-- ---- the keys that an event takes are those of its readings

abbrev among_taken : List (Option Key) → Option Key × Option Key → Bool
among_taken keys taken = is_among_keys keys taken.0 || (is_among_keys keys taken.1 || false)

abbrev reads_taken : List (Option Key) → List EventRecord → Call → Bool
reads_taken keys past call =
    is_among_keys keys (key_of Begun (region_entered call))
    || (is_among_keys keys (key_of Left (region_ended call))
    || (is_among_keys keys (key_of Created (task_started call))
    || (is_among_keys keys (key_of Child (taskwait_ended call))
    || (is_among_keys keys (key_of Ended (barrier_ended past call))
    || (is_among_keys keys (key_at Wait (wait_ended past call))
    || (is_among_keys keys (key_of Ended (initial_ended call)) || false))))))

no_taskwait : (kind : ℕ) → (kind == 5) ≡ true → is_barrier kind ≡ false
no_taskwait kind is = let e : kind ≡ 5 = eqb-true kind 5 is in rw e refl

taken_reads : (keys : List (Option Key)) (past : List EventRecord) (call : Call) → among_taken keys (taken_by past call) ≡ reads_taken keys past call
taken_reads keys past (ImplicitTask endpoint region task actual index flags) = by-test (endpoint == 1) (flags == 1) (endpoint == 2)
  where
    by-test : (a b c : Bool) → among_taken keys (cond (a && not b) (Some (Begun region.identity), None) (cond (c && b) (Some (Ended 1), None) (None, None)))
        ≡ (is_among_keys keys (key_of Begun (cond (a && not b) (Some region.identity) None))
        || (is_among_keys keys (key_of Ended (cond (c && b) (Some 1) None)) || false))
    by-test true false true = refl
    by-test true false false = refl
    by-test true true true = refl
    by-test true true false = refl
    by-test false true true = refl
    by-test false true false = refl
    by-test false false true = refl
    by-test false false false = refl
taken_reads keys past (ParallelEnd region task flags codeptr) = refl
taken_reads keys past (TaskSchedule prior status next) = by-test (status == 7)
  where
    by-test : (b : Bool) → among_taken keys (cond b (Some (Created next.identity), None) (None, None))
        ≡ (is_among_keys keys (key_of Created (cond b (Some next.identity) None)) || false)
    by-test true = refl
    by-test false = refl
taken_reads keys past (SyncRegionWait kind endpoint region task codeptr) = by-test (endpoint == 2) (kind == 5) (is_barrier kind) (no_taskwait kind)
  where
    waits : Option ℕ → Option Key
    waits region = key_of (λ (region : ℕ). Wait region (ends_of task.identity past)) region

    by-test : (e k w : Bool) → (k ≡ true → w ≡ false)
        → among_taken keys (cond e (cond k (Some (Child task.identity), None) (cond w (key_of Ended (joined_region task.identity past), waits (joined_region task.identity past)) (None, None)))
        (None, None))
        ≡ (is_among_keys keys (key_of Child (cond (e && k) (Some task.identity) None))
        || (is_among_keys keys (key_of Ended (and_then (cond (e && w) (Some task.identity) None) (λ (task : ℕ). joined_region task past)))
        || (is_among_keys keys (key_at Wait (and_then (cond (e && w) (Some task.identity) None) (λ (task : ℕ). numbered (joined_region task past) (λ (region : ℕ). ends_of task past)))) || false)))
    by-test true true true one = let wrong : true ≡ false = one refl in absurd (cc)
    by-test true true false one = refl
    by-test true false true one =
        ap (λ (wait : Option Key). is_among_keys keys (key_of Ended (joined_region task.identity past)) || (is_among_keys keys wait || false))
        (wait_is (ends_of task.identity past) (joined_region task.identity past))
    by-test true false false one = refl
    by-test false k w one = refl
taken_reads keys past (ThreadBegin kind thread) = refl
taken_reads keys past other = refl

place_is : (past : List EventRecord) (task : Option ℕ) → next_taken past task ≡ key_at Next (numbered task (λ (task : ℕ). charges_of task past))
place_is past None = refl
place_is past (Some task) = refl

-- ---- a reading is among the keys that are given

same_none : (reading : Option ℕ) → same reading None ≡ false
same_none None = refl
same_none (Some n) = refl

same_two_none : (reading : Option (ℕ × ℕ)) → same_two reading None ≡ false
same_two_none None = refl
same_two_none (Some two) = refl

among : (keys : List (Option Key)) (family : ℕ → Key) (given : Option ℕ) → ((n : ℕ) → has_key (family n) keys ≡ same given (Some n)) → (taken : Option ℕ)
    → is_among_keys keys (key_of family taken) ≡ same given taken
among keys family given each None = sym (same_none given)
among keys family given each (Some n) = each n

among_two : (keys : List (Option Key)) (family : ℕ → ℕ → Key) (given : Option (ℕ × ℕ)) → ((n m : ℕ) → has_key (family n m) keys ≡ same_two given (Some (n, m)))
    → (taken : Option (ℕ × ℕ)) → is_among_keys keys (key_at family taken) ≡ same_two given taken
among_two keys family given each None = sym (same_two_none given)
among_two keys family given each (Some two) = each two.0 two.1

among_next : (before : List EventRecord) (event : EventRecord) (taken : Option (ℕ × ℕ))
    → is_among_keys (gives before event) (key_at Next taken) ≡ (same_two (place_after before event) taken || same_two (place_freed before event event.call) taken)
among_next before event None = rw (same_two_none (place_after before event), same_two_none (place_freed before event event.call)) refl
among_next before event (Some two) = has_next before event two.0 two.1

-- ---- the cases in their order

ordered : (a b c d e f g h i : Bool) → ((a || h) || (b || (c || (d || (e || (f || (g || (i || false)))))))) ≡ (a || (b || (c || (d || ((e || f) || (g || (h || i)))))))
ordered true b c d e f g h i = refl
ordered false true c d e f g true i = refl
ordered false false true d e f g true i = refl
ordered false false false true e f g true i = refl
ordered false false false false true f g true i = refl
ordered false false false false false true g true i = refl
ordered false false false false false false true true i = refl
ordered false false false false false false false true i = refl
ordered false b c d true f g false i = refl
ordered false b c d false f g false true = refl
ordered false b c d false f g false false = refl

pub same_leads : (before past : List EventRecord) (event later : EventRecord) → leads before event past later ≡ leads_by_keys before event past later
same_leads before past event later =
    let keys : List (Option Key) = gives before event in
    sym (
    both _ _ _ _ (ap (is_among_keys keys) (place_is past (charged_task past later)) ∙ among_next before event (place_of past later))
    (taken_reads keys past later.call
    ∙ both _ _ _ _ (among keys Begun (region_begun event.call) (has_begun before event) (region_entered later.call))
    (both _ _ _ _ (among keys Left (region_left before event.call) (has_left before event) (region_ended later.call))
    (both _ _ _ _ (among keys Created (task_created event.call) (has_created before event) (task_started later.call))
    (both _ _ _ _ (among keys Child (parent_completed before event.call) (has_child before event) (taskwait_ended later.call))
    (both _ _ _ _ (among keys Ended (region_completed before event.call) (has_ended before event) (barrier_ended past later.call))
    (both _ _ _ _ (among_two keys Wait (wait_begun before event.call) (has_wait before event) (wait_ended past later.call))
    (both _ _ _ _ (among keys Ended (region_completed before event.call) (has_ended before event) (initial_ended later.call)) refl)))))))
    ∙ ordered (same_two (place_after before event) (place_of past later)) (same (region_begun event.call) (region_entered later.call)) (same (region_left before event.call) (region_ended later.call))
    (same (task_created event.call) (task_started later.call)) (same (parent_completed before event.call) (taskwait_ended later.call))
    (same (region_completed before event.call) (barrier_ended past later.call)) (same_two (wait_begun before event.call) (wait_ended past later.call))
    (same_two (place_freed before event event.call) (place_of past later)) (same (region_completed before event.call) (initial_ended later.call))
    )
