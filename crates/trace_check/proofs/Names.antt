-- The brackets of one region and of one task are opened once.
use Rattle.std.proofs.Common.{◌≡◌, ℕ, ◌+◌, ◌≤◌, ◌==◌, ◌&&◌, ◌||◌, Bool, true, false, cond, not, max, List, [], ◌∷◌, Some, None, refl, sym, ◌∙◌, ap, subst, arith}
use Rattle.std.proofs.lemmas.Bool.{eqb-true, eq-eqb}
use Rattle.std.proofs.lemmas.Bool.Decides.{nat_tests}
use Rattle.ompt_calls.specs.declared.call.Call.{Call}
use Rattle.ompt_calls.specs.declared.call.Call.TheVariants.{ThreadBegin, ParallelBegin, TaskSchedule, ImplicitTask, SyncRegionWait, Work, Masked, SyncRegion}
use Rattle.ompt_calls.specs.declared.event.EventRecord.{EventRecord}
use Rattle.trace_check.specs.declared.bracket.Bracket.{Bracket}
use Rattle.trace_check.specs.declared.bracket.Bracket.TheVariants.{Parallel, Implicit, Explicit, Worksharing, Masking, Syncing, Waiting}
use Rattle.trace_check.specs.declared.change.Change.TheVariants.{Opens, Closes, Stays}
use Rattle.trace_check.specs.Brackets.{at_endpoint, at_status, change_of, is_innermost}
use Rattle.trace_check.specs.Before.{greatest_region, has_begun_region, has_ended_region, has_started, is_complete, is_created, is_just, is_open_region, opened, region_begun, region_ended, region_made, task_completed, task_started}
use Rattle.trace_check.specs.Rules.{keeps_regions, keeps_starts}
use Rattle.trace_check.specs.Checking.{Unbroken}
use Rattle.trace_check.proofs.Kept12.{KeepsAll}
use Rattle.trace_check.proofs.Once.{Alike, Fresh, Once, closes_by, has_closed, has_opened, marks, once, open_on, opens_by, share}

-- the brackets of a region, of an implicit task, and of a created one
abbrev of_region : ℕ → Bracket → Bool
of_region r (Parallel region) = region == r
of_region r other = false

abbrev pub of_implicit : ℕ → Bracket → Bool
of_implicit k (Implicit task) = task == k
of_implicit k other = false

abbrev pub of_explicit : ℕ → Bracket → Bool
of_explicit k (Explicit prior next) = next == k
of_explicit k other = false

-- a change that opens or closes no such bracket
pub no_endpoint : (fits : Bracket → Bool) (endpoint : ℕ) (bracket : Bracket) → fits bracket ≡ false → opens_by fits (at_endpoint endpoint bracket) ≡ false
no_endpoint fits endpoint bracket not-such = by-test (endpoint == 1) (endpoint == 2)
  where
    by-test : (a b : Bool) → opens_by fits (cond a (Opens bracket) (cond b (Closes bracket) Stays)) ≡ false
    by-test true b = not-such
    by-test false true = refl
    by-test false false = refl

pub no_close : (fits : Bracket → Bool) (endpoint : ℕ) (bracket : Bracket) → fits bracket ≡ false → closes_by fits (at_endpoint endpoint bracket) ≡ false
no_close fits endpoint bracket not-such = by-test (endpoint == 1) (endpoint == 2)
  where
    by-test : (a b : Bool) → closes_by fits (cond a (Opens bracket) (cond b (Closes bracket) Stays)) ≡ false
    by-test true b = refl
    by-test false true = not-such
    by-test false false = refl

pub no_status : (fits : Bracket → Bool) (status prior next : ℕ) → ((a b : ℕ) → fits (Explicit a b) ≡ false) → opens_by fits (at_status status prior next) ≡ false
no_status fits status prior next not-such = by-test (status == 7) (status == 1)
  where
    by-test : (a b : Bool) → opens_by fits (cond a (Opens (Explicit prior next)) (cond b (Closes (Explicit next prior)) Stays)) ≡ false
    by-test true b = not-such prior next
    by-test false true = refl
    by-test false false = refl

pub no_return : (fits : Bracket → Bool) (status prior next : ℕ) → ((a b : ℕ) → fits (Explicit a b) ≡ false) → closes_by fits (at_status status prior next) ≡ false
no_return fits status prior next not-such = by-test (status == 7) (status == 1)
  where
    by-test : (a b : Bool) → closes_by fits (cond a (Opens (Explicit prior next)) (cond b (Closes (Explicit next prior)) Stays)) ≡ false
    by-test true b = refl
    by-test false true = not-such next prior
    by-test false false = refl

-- ---- regions

opens_region : (r : ℕ) (call : Call) → opens_by (of_region r) (change_of call) ≡ is_just r (region_begun call)
opens_region r (ThreadBegin kind thread) = refl
opens_region r (TaskSchedule prior status next) = no_status (of_region r) status prior.identity next.identity (λ a b. refl)
opens_region r (ImplicitTask endpoint region task actual index flags) = no_endpoint (of_region r) endpoint (Implicit task.identity) refl
opens_region r (SyncRegionWait kind endpoint region task codeptr) = no_endpoint (of_region r) endpoint (Waiting task.identity kind) refl
opens_region r (Work kind endpoint region task count codeptr) = no_endpoint (of_region r) endpoint (Worksharing region.identity task.identity kind count) refl
opens_region r (Masked endpoint region task codeptr) = no_endpoint (of_region r) endpoint (Masking task.identity) refl
opens_region r (SyncRegion kind endpoint region task codeptr) = no_endpoint (of_region r) endpoint (Syncing task.identity kind) refl
opens_region r other = refl

closes_region : (r : ℕ) (call : Call) → closes_by (of_region r) (change_of call) ≡ is_just r (region_ended call)
closes_region r (ThreadBegin kind thread) = refl
closes_region r (TaskSchedule prior status next) = no_return (of_region r) status prior.identity next.identity (λ a b. refl)
closes_region r (ImplicitTask endpoint region task actual index flags) = no_close (of_region r) endpoint (Implicit task.identity) refl
closes_region r (SyncRegionWait kind endpoint region task codeptr) = no_close (of_region r) endpoint (Waiting task.identity kind) refl
closes_region r (Work kind endpoint region task count codeptr) = no_close (of_region r) endpoint (Worksharing region.identity task.identity kind count) refl
closes_region r (Masked endpoint region task codeptr) = no_close (of_region r) endpoint (Masking task.identity) refl
closes_region r (SyncRegion kind endpoint region task codeptr) = no_close (of_region r) endpoint (Syncing task.identity kind) refl
closes_region r other = refl

pub begun_is : (r : ℕ) (past : List EventRecord) → has_opened (of_region r) past ≡ has_begun_region r past
begun_is r [] = refl
begun_is r (event ∷ past) = rw (opens_region r event.call, begun_is r past) refl

pub ended_is : (r : ℕ) (past : List EventRecord) → has_closed (of_region r) past ≡ has_ended_region r past
ended_is r [] = refl
ended_is r (event ∷ past) = rw (closes_region r event.call, ended_is r past) refl

alike_region : (r : ℕ) → Alike (of_region r)
alike_region r (Parallel region) (Parallel ended) same = ap (λ (n : ℕ). n == r) (eqb-true region ended same)
alike_region r (Parallel region) (Implicit task) same = absurd (cc)
alike_region r (Parallel region) (Explicit prior next) same = absurd (cc)
alike_region r (Parallel region) (Worksharing others task kind count) same = absurd (cc)
alike_region r (Parallel region) (Masking task) same = absurd (cc)
alike_region r (Parallel region) (Syncing task kind) same = absurd (cc)
alike_region r (Parallel region) (Waiting task kind) same = absurd (cc)
alike_region r (Implicit task) (Implicit ended) same = refl
alike_region r (Implicit task) ended same = absurd (cc)
alike_region r (Explicit prior next) (Explicit others ended) same = refl
alike_region r (Explicit prior next) ended same = absurd (cc)
alike_region r (Worksharing region task kind count) (Worksharing others other like more) same = refl
alike_region r (Worksharing region task kind count) ended same = absurd (cc)
alike_region r (Masking task) (Masking ended) same = refl
alike_region r (Masking task) ended same = absurd (cc)
alike_region r (Syncing task kind) (Syncing other like) same = refl
alike_region r (Syncing task kind) ended same = absurd (cc)
alike_region r (Waiting task kind) (Waiting other like) same = refl
alike_region r (Waiting task kind) ended same = absurd (cc)

-- the innermost bracket is marked
marked : (r : ℕ) (brackets : List Bracket) → is_innermost brackets (Parallel r) ≡ true → 1 ≤ marks (of_region r) brackets
marked r [] is = absurd (cc)
marked r (Parallel region ∷ brackets) is = let one : cond {A = ℕ} (region == r) 1 0 ≡ 1 = rw is refl in omega (arith, one)
marked r (Implicit task ∷ brackets) is = absurd (cc)
marked r (Explicit prior next ∷ brackets) is = absurd (cc)
marked r (Worksharing region task kind count ∷ brackets) is = absurd (cc)
marked r (Masking task ∷ brackets) is = absurd (cc)
marked r (Syncing task kind ∷ brackets) is = absurd (cc)
marked r (Waiting task kind ∷ brackets) is = absurd (cc)

-- a region that has begun is at most the greatest
begun_below : (r : ℕ) (past : List EventRecord) → has_begun_region r past ≡ true → r ≤ greatest_region past
begun_below r [] begun = absurd (cc)
begun_below r (event ∷ past) begun = by-call event.call begun (begun_below r past)
  where
    by-test : (region g : ℕ) (same : Bool) → (region == r) ≡ same → (same || has_begun_region r past) ≡ true → (has_begun_region r past ≡ true → r ≤ g) → r ≤ max region g
    by-test region g true is begun rest = let e : region ≡ r = eqb-true region r is in omega arith
    by-test region g false is begun rest = let e : r ≤ g = rest begun in omega arith

    by-call : (call : Call) → (is_just r (region_begun call) || has_begun_region r past) ≡ true → (has_begun_region r past ≡ true → r ≤ greatest_region past) → r ≤ max (region_made call) (greatest_region past)
    by-call (ParallelBegin task frame region requested flags codeptr) begun rest = by-test region.identity (greatest_region past) (region.identity == r) refl begun rest
    by-call other begun rest = let e : r ≤ greatest_region past = rest begun in omega arith

fresh_region : (r : ℕ) (past : List EventRecord) (event : EventRecord) → Unbroken past → KeepsAll past event → Fresh (of_region r) past event
fresh_region r past event unbroken all opens =
    by-call event.call (sym (opens_region r event.call) ∙ opens) all.regions
  where
    none : (region : ℕ) (b : Bool) (begun : Bool) → (region == greatest_region past + 1) ≡ true → (region == r) ≡ true → (begun ≡ true → r ≤ greatest_region past) → begun ≡ false
    none region b true next is below = let h : r ≤ greatest_region past = below refl in let e : region ≡ r = eqb-true region r is in let f : region ≡ greatest_region past + 1 = eqb-true region (greatest_region past + 1) next in absurd (omega arith)
    none region b false next is below = refl

    left : (a b : Bool) → (a && b) ≡ true → a ≡ true
    left true b both = refl
    left false b both = cc

    by-call : (call : Call) → is_just r (region_begun call) ≡ true → keeps_regions past event.thread call ≡ true → has_opened (of_region r) past ≡ false
    by-call (ParallelBegin task frame region requested flags codeptr) is keeps =
        begun_is r past ∙ none region.identity true (has_begun_region r past) (left (region.identity == greatest_region past + 1) _ keeps) is (begun_below r past)
    by-call other is keeps = absurd (cc)

once_region : (r : ℕ) (past : List EventRecord) → Unbroken past → Once (of_region r) past
once_region r past unbroken = once (of_region r) (alike_region r) (fresh_region r) past unbroken

-- a region that begins hasn't begun or ended
pub region_fresh : (r : ℕ) (past : List EventRecord) (event : EventRecord) → Unbroken past → KeepsAll past event → region_begun event.call ≡ Some r
    → (has_begun_region r past ≡ false) × (has_ended_region r past ≡ false)
region_fresh r past event unbroken all begins =
    let opens : opens_by (of_region r) (change_of event.call) ≡ true = opens_region r event.call ∙ (ap (is_just r) begins ∙ eq-eqb r r refl) in
    let unopened : has_opened (of_region r) past ≡ false = fresh_region r past event unbroken all opens in
    (sym (begun_is r past) ∙ unopened, sym (ended_is r past) ∙ (once_region r past unbroken).before_close unopened)

-- the region of a bracket is open
region_is_open : (r t : ℕ) (past : List EventRecord) → Unbroken past → 1 ≤ marks (of_region r) (opened t past) → is_open_region r past ≡ true
region_is_open r t past unbroken some =
    let all : Once (of_region r) past = once_region r past unbroken in
    by-tests (has_begun_region r past) (has_ended_region r past)
    (λ unbegun. all.before_open (begun_is r past ∙ unbegun)) (λ ended. all.closed (ended_is r past ∙ ended)) (all.counts t)
  where
    nowhere : open_on (of_region r) past ≡ None → marks (of_region r) (opened t past) ≡ share t (open_on (of_region r) past) → ⊥
    nowhere none count = let e : share t (open_on (of_region r) past) ≡ 0 = ap (share t) none in absurd (omega (arith, e, count, some))

    by-tests : (b e : Bool) → (b ≡ false → open_on (of_region r) past ≡ None) → (e ≡ true → open_on (of_region r) past ≡ None) → marks (of_region r) (opened t past) ≡ share t (open_on (of_region r) past) → (b && not e) ≡ true
    by-tests true false unbegun ended count = refl
    by-tests true true unbegun ended count = absurd (nowhere (ended refl) count)
    by-tests false e unbegun ended count = absurd (nowhere (unbegun refl) count)

-- so a region is open at its end
pub ends_open : (r t : ℕ) (past : List EventRecord) (e : Bool) → Unbroken past → (is_innermost (opened t past) (Parallel r) && e) ≡ true → is_open_region r past ≡ true
ends_open r t past e unbroken keeps = region_is_open r t past unbroken (marked r (opened t past) (left (is_innermost (opened t past) (Parallel r)) e keeps))
  where
    left : (a b : Bool) → (a && b) ≡ true → a ≡ true
    left true b both = refl
    left false b both = cc

-- ---- created tasks

opens_explicit : (k : ℕ) (call : Call) → opens_by (of_explicit k) (change_of call) ≡ is_just k (task_started call)
opens_explicit k (ThreadBegin kind thread) = refl
opens_explicit k (TaskSchedule prior status next) = by-test (status == 7) (status == 1)
  where
    by-test : (a b : Bool) → opens_by (of_explicit k) (cond a (Opens (Explicit prior.identity next.identity)) (cond b (Closes (Explicit next.identity prior.identity)) Stays)) ≡ is_just k (cond a (Some next.identity) None)
    by-test true b = refl
    by-test false true = refl
    by-test false false = refl
opens_explicit k (ImplicitTask endpoint region task actual index flags) = no_endpoint (of_explicit k) endpoint (Implicit task.identity) refl
opens_explicit k (SyncRegionWait kind endpoint region task codeptr) = no_endpoint (of_explicit k) endpoint (Waiting task.identity kind) refl
opens_explicit k (Work kind endpoint region task count codeptr) = no_endpoint (of_explicit k) endpoint (Worksharing region.identity task.identity kind count) refl
opens_explicit k (Masked endpoint region task codeptr) = no_endpoint (of_explicit k) endpoint (Masking task.identity) refl
opens_explicit k (SyncRegion kind endpoint region task codeptr) = no_endpoint (of_explicit k) endpoint (Syncing task.identity kind) refl
opens_explicit k other = refl

closes_explicit : (k : ℕ) (call : Call) → closes_by (of_explicit k) (change_of call) ≡ is_just k (task_completed call)
closes_explicit k (ThreadBegin kind thread) = refl
closes_explicit k (TaskSchedule prior status next) = by-status status
  where
    by-test : (a b : Bool) → (a ≡ true → b ≡ false) → closes_by (of_explicit k) (cond a (Opens (Explicit prior.identity next.identity)) (cond b (Closes (Explicit next.identity prior.identity)) Stays)) ≡ is_just k (cond b (Some prior.identity) None)
    by-test true true apart = absurd (both (apart refl))
      where
        both : true ≡ false → ⊥
        both e = cc
    by-test true false apart = refl
    by-test false true apart = refl
    by-test false false apart = refl

    apart_status : (s : ℕ) → (s == 7) ≡ true → (s == 1) ≡ false
    apart_status s seven = grind (arith, nat_tests)

    by-status : (s : ℕ) → closes_by (of_explicit k) (at_status s prior.identity next.identity) ≡ is_just k (cond (s == 1) (Some prior.identity) None)
    by-status s = by-test (s == 7) (s == 1) (apart_status s)
closes_explicit k (ImplicitTask endpoint region task actual index flags) = no_close (of_explicit k) endpoint (Implicit task.identity) refl
closes_explicit k (SyncRegionWait kind endpoint region task codeptr) = no_close (of_explicit k) endpoint (Waiting task.identity kind) refl
closes_explicit k (Work kind endpoint region task count codeptr) = no_close (of_explicit k) endpoint (Worksharing region.identity task.identity kind count) refl
closes_explicit k (Masked endpoint region task codeptr) = no_close (of_explicit k) endpoint (Masking task.identity) refl
closes_explicit k (SyncRegion kind endpoint region task codeptr) = no_close (of_explicit k) endpoint (Syncing task.identity kind) refl
closes_explicit k other = refl

pub started_is : (k : ℕ) (past : List EventRecord) → has_opened (of_explicit k) past ≡ has_started k past
started_is k [] = refl
started_is k (event ∷ past) = rw (opens_explicit k event.call, started_is k past) refl

pub complete_is : (k : ℕ) (past : List EventRecord) → has_closed (of_explicit k) past ≡ is_complete k past
complete_is k [] = refl
complete_is k (event ∷ past) = rw (closes_explicit k event.call, complete_is k past) refl

alike_explicit : (k : ℕ) → Alike (of_explicit k)
alike_explicit k (Explicit prior next) (Explicit others ended) same = ap (λ (n : ℕ). n == k) (eqb-true next ended (second (prior == others) (next == ended) same))
  where
    second : (a b : Bool) → (a && b) ≡ true → b ≡ true
    second true b both = both
    second false b both = absurd (cc)
alike_explicit k (Explicit prior next) (Parallel ended) same = absurd (cc)
alike_explicit k (Explicit prior next) (Implicit ended) same = absurd (cc)
alike_explicit k (Explicit prior next) (Worksharing others task kind count) same = absurd (cc)
alike_explicit k (Explicit prior next) (Masking task) same = absurd (cc)
alike_explicit k (Explicit prior next) (Syncing task kind) same = absurd (cc)
alike_explicit k (Explicit prior next) (Waiting task kind) same = absurd (cc)
alike_explicit k (Parallel region) (Parallel ended) same = refl
alike_explicit k (Parallel region) ended same = absurd (cc)
alike_explicit k (Implicit task) (Implicit ended) same = refl
alike_explicit k (Implicit task) ended same = absurd (cc)
alike_explicit k (Worksharing region task kind count) (Worksharing others other like more) same = refl
alike_explicit k (Worksharing region task kind count) ended same = absurd (cc)
alike_explicit k (Masking task) (Masking ended) same = refl
alike_explicit k (Masking task) ended same = absurd (cc)
alike_explicit k (Syncing task kind) (Syncing other like) same = refl
alike_explicit k (Syncing task kind) ended same = absurd (cc)
alike_explicit k (Waiting task kind) (Waiting other like) same = refl
alike_explicit k (Waiting task kind) ended same = absurd (cc)

-- a thread goes to a task that hasn't started
fresh_explicit : (k : ℕ) (past : List EventRecord) (event : EventRecord) → Unbroken past → KeepsAll past event → Fresh (of_explicit k) past event
fresh_explicit k past event unbroken all opens =
    started_is k past ∙ by-call event.call (sym (opens_explicit k event.call) ∙ opens) all.starts
  where
    second : (a b : Bool) → (a && not b) ≡ true → b ≡ false
    second true true both = absurd (cc)
    second true false both = refl
    second false b both = absurd (cc)

    by-test : (b : Bool) (next : ℕ) → is_just k (cond b (Some next) None) ≡ true → (not b || (is_created next past && not (has_started next past))) ≡ true → has_started k past ≡ false
    by-test true next is keeps = subst (λ (n : ℕ). has_started n past ≡ false) (eqb-true next k is) (second (is_created next past) (has_started next past) keeps)
    by-test false next is keeps = absurd (cc)

    by-call : (call : Call) → is_just k (task_started call) ≡ true → keeps_starts past call ≡ true → has_started k past ≡ false
    by-call (TaskSchedule prior status next) is keeps = by-test (status == 7) next.identity is keeps
    by-call (ThreadBegin kind thread) is keeps = absurd (cc)
    by-call other is keeps = absurd (cc)

pub once_explicit : (k : ℕ) (past : List EventRecord) → Unbroken past → Once (of_explicit k) past
once_explicit k past unbroken = once (of_explicit k) (alike_explicit k) (fresh_explicit k) past unbroken

-- a complete task has started
pub complete_started : (k : ℕ) (past : List EventRecord) → Unbroken past → is_complete k past ≡ true → has_started k past ≡ true
complete_started k past unbroken complete = by-test (has_started k past) (λ unstarted. sym (complete_is k past) ∙ (once_explicit k past unbroken).before_close (started_is k past ∙ unstarted))
  where
    by-test : (b : Bool) → (b ≡ false → is_complete k past ≡ false) → b ≡ true
    by-test true rest = refl
    by-test false rest = absurd (both (is_complete k past) complete (rest refl))
      where
        both : (c : Bool) → c ≡ true → c ≡ false → ⊥
        both c holds fails = cc
