-- A trap or a limit leaves a thread that hasn't ended: the one that met it is inside no callback and has no turn any more, so nothing takes it further.
-- How a run has ended: whole exactly at Done or Returned, and with no thread inside a callback. And that the trace of a run of a program that a text spells is nested.
use Rattle.std.proofs.Common.{◌≡◌, ℕ, zero, suc, ◌+◌, ◌&&◌, Bool, true, false, IsTrue, if◌then◌else◌, List, [], ◌∷◌, Option, Some, None, is_none, slice_index_or, refl, sym, ap, subst, ◌∙◌, true≢false, ◌≢◌, ◌<◌, ◌≤◌, ℤ, pos, length, ◌↔◌, arith}
use Rattle.std.{proofs.lemmas.Bool.and_parts, specs.List.list_all}
use Rattle.c_model.specs.declared.point.SyncStage.TheVariants as sync_stage
use Rattle.omp_model.specs.declared.event.Event.TheVariants as event
use Rattle.omp_model.specs.declared.event.Outcome.TheVariants as outcome
use Rattle.omp_model.specs.declared.parts.ThreadStage.TheVariants as stage
use Rattle.omp_model.specs.declared.cause.Cause.TheVariants as causes
use Rattle.ompt_calls.specs.declared.snapshot.Target.{Target}
use Rattle.omp_model.specs.Legal.{AllowsFrom, after_from, back_from, does, entered, may, put_from}
use Rattle.omp_model.specs.State.{Thread, World, first, region_at, thread_at, unmade, with_thread}
use Rattle.omp_model.proofs.Turns.{halts-pending, turn-goes, turn-happens, turn-not_idle, turn-quiet}
use Rattle.omp_model.specs.Cause.{cause_by_halt, cause_of_halt, cause_of_value, cause_of_whole, is_stuck, main_value, whole_value}
use Rattle.omp_model.{specs.declared.history.What.TheVariants.Go, specs.declared.history.What.TheVariants.Put, specs.declared.history.What.TheVariants.Back, specs.Changes.with_invitations, specs.Changes.stage_once_made, specs.Changes.with_members_invited, specs.Changes.with_invitation, specs.Gates.arrival, specs.Gates.arrival_at, specs.Gates.is_out, specs.declared.event.Event.Event}
use Rattle.omp_model.{specs.declared.event.Outcome.Outcome, specs.declared.history.What.What, specs.declared.parts.ThreadStage.ThreadStage, specs.Members.is_outermost, specs.Returning.after_created, specs.Returning.at_back, specs.Turn.enabled, specs.Turn.goes_on, specs.Turn.turn, proofs.AlikeWorlds.alike-stored, proofs.AlikeWorlds.quiet-turn, proofs.Alike.QuietWorld, proofs.Later.at-set, proofs.MadeWords.at-summoned}
use Rattle.omp_model.{proofs.Turning.Turned, specs.declared.event.Halt.TheVariants.Trap, specs.declared.event.Halt.TheVariants.Limit, proofs.MadeRuns.made-after}
use Rattle.c_syntax.specs.language.Words.{words_of}
use Rattle.c_check.proofs.Earliest.{none-broken}
use Rattle.c_model.proofs.GrammarTrees.{spelled_is_formed}
use Rattle.nested_runs.proofs.Nesting.{nested}
use Rattle.team_run.{specs.Serving.RunsParts, specs.Unheard.IsUnheard, specs.Unheard.LeftAt, proofs.Visiting.all_none-at}
use Rattle.ompt_cli.specs.Names.{Callback, Halt, Entry, threads_over, Legal, after, Run, State, pending_at, PROFILE_MASK, Record, Cause, cause_of, main_returned, trace_of}
use Rattle.ompt_cli.specs.{Commands.AreOutside, Commands.IsReturn, Commands.IsWhole, Text.Spells, Traces.IsNested}

-- the thread was made and hasn't ended
abbrev IsIn : Thread → Type 0
IsIn thread = is_out thread.stage ≡ false

-- a thread is left that hasn't ended, and no callback can return on it
record Left (S : State) : Type 0 where
  t : ℕ
  is_in : IsIn (thread_at S.world t)
  outside : pending_at S t ≡ None

-- .. where the run is halted
abbrev LeavesOne : State → Type 0
LeavesOne S = (halt : Halt) → S.halt ≡ Some halt → Left S

-- a thread that has a turn hasn't ended
stage-in : (W : World) (t : ℕ) (now : ThreadStage) → goes_on (arrival_at W t now) ≡ true → is_out now ≡ false
stage-in W t stage.Made goes = refl
stage-in W t stage.Begun goes = refl
stage-in W t now goes = absurd (true≢false (sym goes))

-- an enabled thread hasn't ended
enabled-in : (S : State) (t : ℕ) → enabled S t ≡ true → IsIn (thread_at S.world t)
unfolding enabled arrival
enabled-in S t goes = stage-in S.world t (thread_at S.world t).stage (and_parts (is_none (pending_at S t) && is_none S.halt) (goes_on (arrival S.world t)) goes).1

-- where the run isn't halted nothing is asked
none-left : (S : State) → S.halt ≡ None → LeavesOne S
none-left S none halt is = let wrong : None ≡ Some halt = sym none ∙ is in absurd cc

-- a turn that halts the run leaves its thread
turn-leaves : (run : Run) (S : State) (t : ℕ) (o : Outcome) → enabled S t ≡ true → (turn run S t).outcome ≡ o → Turned run (QuietWorld t S.world) t (turn run S t).state.world o → LeavesOne (turn run S t).state
turn-leaves run S t outcome.Idle goes is quiet = absurd (turn-not_idle run S t goes is)
turn-leaves run S t outcome.Quiet goes is quiet = none-left (turn run S t).state (turn-quiet run S t goes is).halt
turn-leaves run S t (outcome.Happens e) goes is quiet = none-left (turn run S t).state (turn-happens run S t e goes is).halt
turn-leaves run S t (outcome.Halts halt) goes is quiet = λ other halted. record {
  t = t;
  is_in = rw (quiet.alike.thread t).stage (enabled-in S t goes);
  outside = ap (λ (pending : List (Option Callback)). slice_index_or pending t None) (halts-pending run S t halt is) ∙ (turn-goes S t goes).outside;
}

-- a thread inside a callback isn't the one that is left
apart : (S : State) (t : ℕ) (callback : Callback) (left : Left S) → pending_at S t ≡ Some callback → left.t ≡ t → ⊥
apart S t callback left is same = let other : pending_at S t ≡ None = subst (λ u. pending_at S u ≡ None) same left.outside in cc

-- a store keeps each thread's stage, and the other threads' callbacks
put-leaves : (S : State) (t : ℕ) (target : Target) (word : ℕ) (callback : Option Callback) → pending_at S t ≡ callback → LeavesOne S → LeavesOne (put_from S t target word callback)
put-leaves S t target word None is left = left
put-leaves S t target word (Some callback) is left = λ halt halted. let one = left halt halted in record {
  t = one.t;
  is_in = rw ((alike-stored S.world target word).thread one.t).stage one.is_in;
  outside = at-set (λ (pending : Option Callback). pending ≡ None) None S.pending t one.t (Some (record callback { stores = callback.stores + 1 })) one.outside (λ same. absurd (apart S t callback one is same));
}

-- a thread that is summoned and hadn't ended hasn't ended
made-in : (now : ThreadStage) → is_out now ≡ false → is_out (stage_once_made now) ≡ false
made-in stage.Unmade is = refl
made-in now is = is

-- the Back of a thread's event ends no other thread
module _ (W : World) (t u : ℕ) (other : u ≡ t → ⊥) (is : IsIn (thread_at W u)) where
  either-in : (b : Bool) (after : World) → IsIn (thread_at after u) → IsIn (thread_at (if b then after else W) u)
  either-in true after changed = changed
  either-in false after changed = is

  opened-in : (r : ℕ) → IsIn (thread_at (with_members_invited W t r) u)
  opened-in r =
      elim (is_outermost W r) as (λ b. IsIn (thread_at (if b then record W { threads = with_invitations r (region_at W r).head.size W.threads } else with_thread W t (with_invitation r (thread_at W t))) u)) [
        | true ↦ at-summoned IsIn r (region_at W r).head.size W.threads u is (λ within. made-in (thread_at W u).stage is)
        | false ↦ at-set IsIn unmade W.threads t u (with_invitation r (thread_at W t)) is (λ same. absurd (other same))
      ]

  created-in : (task : ℕ) (undeferred : Bool) → IsIn (thread_at (after_created W t task undeferred) u)
  created-in task true = at-set IsIn unmade W.threads t u (record (thread_at W t) { undeferred = task }) is (λ same. absurd (other same))
  created-in task false = either-in _ _ is

  back-in : (e : Event) → IsIn (thread_at (at_back W t e) u)
  unfolding at_back
  back-in event.ThreadEnd = at-set IsIn unmade W.threads t u (record (thread_at W t) { stage = stage.Ended }) is (λ same. absurd (other same))
  back-in (event.ParallelBegin r requested codeptr) = opened-in r
  back-in (event.ParallelEnd r codeptr) = is
  back-in (event.MemberEnd r k) = is
  back-in (event.TaskCreate task undeferred codeptr) = created-in task undeferred
  back-in (event.TaskEnd task) = either-in _ _ is
  back-in (event.Sync kind sync_stage.WaitBegin codeptr) = either-in _ _ is
  back-in rest = is

-- the thread that is left is inside no callback, so no Back is its own
back-leaves : (S : State) (t : ℕ) (callback : Option Callback) → pending_at S t ≡ callback → LeavesOne S → LeavesOne (back_from S t callback)
back-leaves S t None is left = left
back-leaves S t (Some callback) is left = λ halt halted. let one = left halt halted in record {
  t = one.t;
  is_in = back-in S.world t one.t (apart S t callback one is) one.is_in callback.event;
  outside = at-set (λ (pending : Option Callback). pending ≡ None) None S.pending t one.t None one.outside (λ same. refl);
}

-- each entry that may stand
entry-leaves : (run : Run) (S : State) (t : ℕ) (what : What) → IsTrue (may run S t what) → LeavesOne S → LeavesOne (does run S t what)
entry-leaves run S t Go goes left = turn-leaves run S t (turn run S t).outcome goes refl (quiet-turn run t S)
entry-leaves run S t (Put target word) goes left = put-leaves S t target word (pending_at S t) refl left
entry-leaves run S t Back goes left = back-leaves S t (pending_at S t) refl left

-- .. and all entries of a history
entries-leave : (run : Run) (S : State) (history : List Entry) → AllowsFrom run S history → LeavesOne S → LeavesOne (after_from run S history)
entries-leave run S [] legal left = left
entries-leave run S (entry ∷ rest) legal left = entries-leave run (entered run S entry) rest legal.1 (entry-leaves run S entry.thread entry.what legal.0 left)

-- of threads that have all ended, or weren't made, each is so
over-out : (threads : List Thread) (u : ℕ) → list_all (λ (thread : Thread). is_out thread.stage) threads ≡ true → is_out (slice_index_or threads u unmade).stage ≡ true
over-out [] u over = refl
over-out (thread ∷ threads) zero over = (and_parts (is_out thread.stage) (list_all (λ (thread : Thread). is_out thread.stage) threads) over).0
over-out (thread ∷ threads) (suc u) over = over-out threads u (and_parts (is_out thread.stage) (list_all (λ (thread : Thread). is_out thread.stage) threads) over).1

-- where every thread that was made has ended, no trap or limit was met: none is left
pub not_halted : (run : Run) (history : List Entry) → Legal run history → threads_over (after run history).world ≡ true → (after run history).halt ≡ None
not_halted run history legal over = by (after run history).halt refl
  where
    by : (halt : Option Halt) → (after run history).halt ≡ halt → halt ≡ None
    by None is = refl
    by (Some halt) is =
        let left = entries-leave run (first run) history legal (λ halt is. absurd cc) halt is in
        absurd (true≢false (sym (over-out (after run history).world.threads left.t over) ∙ left.is_in))

-- what main returned is told as a return
returns : (value : ℤ) → IsReturn (cause_of_value value)
returns (pos zero) = tt
returns other = tt

no-return : (halt : Halt) → IsReturn (cause_of_halt halt) → ⊥
no-return (Trap number) returned = returned
no-return (Limit number) returned = returned

-- a run that is stuck, or hasn't ended, hasn't returned
not-stuck : (stuck : Bool) (cause : Cause) → (if stuck then Some causes.Deadlock else None) ≡ Some cause → IsReturn cause → ⊥
not-stuck true cause same returned = let deadlock : causes.Deadlock ≡ cause = cc in subst IsReturn (sym deadlock) returned
not-stuck false cause same returned = cc

both : (run : Run) (S : State) (cause : Cause) (over returned : Bool) → cause_of_whole run S (if over && returned then Some (main_value S.world) else None) ≡ Some cause → IsReturn cause → (over ≡ true) × (returned ≡ true)
both run S cause true true same is = (refl, refl)
both run S cause over returned same is = absurd (not-stuck (is_stuck run S) cause same is)

whole-from : (run : Run) (history : List Entry) (cause : Cause) (halt : Option Halt) → cause_by_halt run (after run history) halt ≡ Some cause → IsReturn cause → IsWhole run history
whole-from run history cause (Some halt) same is = let told : cause_of_halt halt ≡ cause = cc in absurd (no-return halt (subst IsReturn (sym told) is))
whole-from run history cause None same is =
    let S = after run history in
    let ends = both run S cause (threads_over S.world) (main_returned S.world) same is in
    record { over = ends.0; returned = ends.1 }

-- where a run is whole, its cause is a return
return-from : (run : Run) (history : List Entry) (cause : Cause) → Legal run history → cause_of run history ≡ Some cause → IsWhole run history → IsReturn cause
return-from run history cause legal same whole =
    let S = after run history in
    let value : whole_value S.world ≡ Some (main_value S.world) = rw (whole.over, whole.returned) refl in
    let told : cause_of run history ≡ Some (cause_of_value (main_value S.world)) = ap (cause_by_halt run S) (not_halted run history legal whole.over) ∙ ap (cause_of_whole run S) value in
    let is : cause_of_value (main_value S.world) ≡ cause = cc in
    subst IsReturn is (returns (main_value S.world))

-- a run is whole exactly where its cause is a return
pub finished : (run : Run) (history : List Entry) (cause : Cause) → Legal run history → cause_of run history ≡ Some cause → IsReturn cause ↔ IsWhole run history
finished run history cause legal same = (whole-from run history cause (after run history).halt same, return-from run history cause legal same)

-- no thread is inside a callback
pub parts-outside : {P : Type 0} (stands_for : P → Record → Type 0) (serial : Bool) (run : Run) (cause : Cause) (history : List Entry) (parts others : List P) → cause ≢ causes.Memory → RunsParts stands_for serial run cause history parts others → AreOutside run history
parts-outside stands_for true run cause history parts others found runs = λ k below. all_none-at (after run history).pending k (subst (IsUnheard run history) (runs.are_unheard.all_heard found) runs.are_unheard.is_unheard)
parts-outside stands_for false run cause history parts others found runs = λ k below. subst (LeftAt run history k) (runs.all_heard found k below) (runs.are_unheard k below)

-- no thread is inside a callback where none of the run is
all-none : (pending : List (Option Callback)) → ((k : ℕ) → k < length pending → slice_index_or pending k None ≡ None) → list_all (λ (callback : Option Callback). is_none callback) pending ≡ true
all-none [] at = refl
all-none (first ∷ rest) at = rw (at 0 (omega arith)) (all-none rest (λ k low. at (suc k) (omega (arith, low))))

pub nested-run : (run : Run) (H : List Entry) (cause : Cause) → 1 ≤ run.threads → run.threads ≤ 16 → run.mask ≡ PROFILE_MASK → (text : List ℕ) → Spells text run.program → Legal run H
    → cause_of run H ≡ Some cause → AreOutside run H → IsNested (trace_of run cause H)
nested-run run H cause some few mask text spells legal caused outside =
    nested run H cause some few mask (none-broken run.program spells.keeps) (spelled_is_formed (words_of text spells.read.has.tree_is.tokens) run.program spells.read.has.tree_is.spelled) legal caused
    (let places = (made-after run H some).places in all-none (after run H).pending (λ k low. outside k (omega (arith, low, places))))
