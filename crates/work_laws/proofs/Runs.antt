-- After each legal history all that was told is what teams have dealt, and nothing that was taken wasn't told.
use Rattle.std.proofs.Common.{ℕ, zero, suc, ◌≡◌, ◌==◌, ◌&&◌, ◌++◌, Bool, true, false, if◌then◌else◌, Some, None, List, [], ◌∷◌, length, refl, sym, ap, ◌∙◌, subst, subst₂, inl, inr, arith}
use Rattle.std.specs.Prelude.{Option, option_map}
use Rattle.std.specs.List.{list_any}
use Rattle.std.proofs.lemmas.Bool.{cases_eq}
use Rattle.std.proofs.lemmas.List.{length-set}
use Rattle.ompt_calls.specs.declared.snapshot.Target.{Target}
use Rattle.ompt_calls.specs.declared.snapshot.Target.TheVariants as target
use Rattle.c_model.specs.declared.point.SyncStage.TheVariants as stage
use Rattle.c_model.specs.Task.{Task as Code}
use Rattle.c_brackets.specs.Opened.{Open, open_task}
use Rattle.team_parts.specs.Team.{TeamView, with_begun}
use Rattle.omp_model.specs.declared.event.Callback.{Callback}
use Rattle.omp_model.specs.declared.event.Event.{Event}
use Rattle.omp_model.specs.declared.event.Event.TheVariants.{ParallelBegin, Sync, TaskCreate, ThreadEnd}
use Rattle.omp_model.specs.declared.event.Outcome.{Outcome}
use Rattle.omp_model.specs.declared.event.Outcome.TheVariants as outcome
use Rattle.omp_model.specs.declared.history.Entry.{Entry}
use Rattle.omp_model.specs.declared.history.What.{What}
use Rattle.omp_model.specs.declared.history.What.TheVariants.{Go, Put, Back}
use Rattle.omp_model.specs.Conditions.{IsOrderly}
use Rattle.omp_model.specs.Gates.{is_barrier}
use Rattle.omp_model.specs.Legal.{AllowsFrom, Legal, after, after_from, does, entered, may, put_from}
use Rattle.omp_model.specs.MadeWorld.{IsMadeState, IsTask}
use Rattle.omp_model.specs.Members.{current_index, current_region, region_of}
use Rattle.omp_model.specs.State.{Region, Run, State, Task, Thread, World, first, first_world, no_region, no_task, pending_at, region_at, task_at, thread_at}
use Rattle.omp_model.proofs.Touching.{Returns, is_summoned, team_back, thread_back}
use Rattle.omp_model.specs.Turn.{enabled, turn}
use Rattle.omp_model.specs.Words.{stored}
use Rattle.omp_model.proofs.AlikeWorlds.{alike-stored, taken-stored}
use Rattle.omp_model.proofs.MadeRuns.{made-after}
use Rattle.omp_model.proofs.OrderlyRuns.{orderly-after}
use Rattle.omp_model.proofs.Reading.{read-same}
use Rattle.omp_model.proofs.Turns.{Leaves, leaves-turn, turn-goes}
use Rattle.nested_runs.proofs.Knows.{IsWholeRun}
use Rattle.nested_runs.proofs.Recorded.{event_in, inside}
use Rattle.nested_runs.proofs.Codes.{main-open}
use Rattle.nested_runs.proofs.FirstWorlds.{first-tasks, first-threads}
use Rattle.nested_runs.proofs.GoCodes.{none-open}
use Rattle.nested_runs.proofs.Turned.{back-leads}
use Rattle.guard_laws.proofs.DealtRuns.{IsMet, works-entry}
use Rattle.guard_laws.proofs.KnownStates.{after-one, known-entry, known-first, some-within}
use Rattle.guard_laws.proofs.LastMeetings.{begun-met, is_work}
use Rattle.guard_laws.proofs.WorksMet.{index_of, place-back, works-first}
use Rattle.work_laws.specs.Told.{nothing_told, with_entries, with_entry, with_outcome}
use Rattle.work_laws.proofs.Events.{happened, nothing-taken, outside-callbacks}
use Rattle.work_laws.proofs.Gos.{SameMeetings, same-view}
use Rattle.work_laws.proofs.Shares.{Tellings, Tells, TellsAt, standing-placed, tasks-alike, with_share}
use Rattle.work_laws.proofs.Teams.{HasNoEnd, Standing, TellsTeam, over-same, standing-kept, tells-same, ends-what, last_what, what-same}
use Rattle.work_laws.proofs.Teams.Standing.{Outside}
use Rattle.work_laws.proofs.Turns.{Ended}
use Rattle.work_laws.proofs.Walks.{IsOver, On, turn-tells}

pub record IsTold (run : Run) (S : State) (told : Tellings) : Type 0 where
  pub met : IsMet run S
  pub idle : (u : ℕ) → (thread_at S.world u).taken ≡ None
  pub tells : Tells S.world told

-- what an entry tells besides
abbrev pub more : Run → State → ℕ → What → Tellings → Tellings
more run S t what told = λ r n. with_entry run S t r n what (told r n)

-- ---- a turn

module _ (run : Run) (S : State) (told : Tellings) (so : IsTold run S told) (t : ℕ) (goes : enabled S t ≡ true)
    (made : IsMadeState run (turn run S t).state) (orderly : IsOrderly (turn run S t).state) where
  abbrev next : State
  next = (turn run S t).state

  record IsAfter (outcome : Outcome) : Type 0 where
    idle : (u : ℕ) → (thread_at next.world u).taken ≡ None
    tells : Tells next.world (λ r n. with_outcome next.world t r n outcome (told r n))

  outside : inside S t ≡ None
  outside = ap (option_map event_in) (turn-goes S t goes).outside

  over-after : IsOver run S so.met t told next.world → ((u : ℕ) → (thread_at next.world u).taken ≡ None) × Tells next.world told
  over-after over = (
    λ u. elim (cases_eq u t) [
      | inl is ↦ ap (λ (u : ℕ). (thread_at next.world u).taken) is ∙ over.none
      | inr other ↦ over.on.reached.taken u other ∙ so.idle u
    ],
    subst (λ share. Tells next.world (with_share next.world t share told)) over.none over.on.tells,
  )

  turn-after : (came : Outcome) → Leaves S t next came → Ended run (On run S so.met t told) (IsOver run S so.met t told) t next.world came →
      IsAfter came
  turn-after (outcome.Happens e) leaves from =
      record {
        idle = nothing-taken run S next so.met t told from.before from.holds made orderly
            (outside-callbacks S t goes) outside e from.go leaves.2 so.idle;
        tells = happened run S next so.met t told from.before from.holds made orderly (outside-callbacks S t goes) outside e from.go leaves.2;
      }
  turn-after outcome.Idle leaves over = let both = over-after over in record { idle = both.0; tells = both.1 }
  turn-after outcome.Quiet leaves over = let both = over-after over in record { idle = both.0; tells = both.1 }
  turn-after (outcome.Halts halt) leaves over = let both = over-after over in record { idle = both.0; tells = both.1 }

  told-turn : IsAfter (turn run S t).outcome
  told-turn = turn-after (turn run S t).outcome (leaves-turn run S t) (turn-tells run S so.met t told (so.idle t) so.tells)

-- ---- a tool stores a word

stored-code : (W : World) (place : Target) (word k : ℕ) → (task_at (stored W place word) k).code ≡ (task_at W k).code
stored-code W (target.Thread t) word k = refl
stored-code W (target.Parallel r) word k = refl
stored-code W (target.Task j) word k = read-same (λ (x : Task). x.code) no_task W.tasks j k _ refl

pub stored-team : (W : World) (place : Target) (word q : ℕ) → (region_at (stored W place word) q).team ≡ (region_at W q).team
stored-team W (target.Thread t) word q = refl
stored-team W (target.Parallel r) word q = read-same (λ (x : Region). x.team) no_region W.regions r q _ refl
stored-team W (target.Task j) word q = refl

tells-stored : (W : World) (place : Target) (word : ℕ) (told : Tellings) → Tells W told → Tells (stored W place word) told
tells-stored W place word told tells =
    let next = stored W place word in
    record {
      teams = λ q n. subst (λ (x : TeamView). TellsTeam (length x.members) x.meetings n (told q n)) (sym (stored-team W place word q))
          (tells.teams q n);
      tasks = tasks-alike W next (alike-stored W place word) (λ k task plain.
          subst₂ (λ (code : Code) (team : TeamView). Standing code team (index_of W k)) (sym (stored-code W place word k))
          (sym (stored-team W place word (region_of W k))) (tells.tasks k task plain));
    }

-- ---- a callback returns

same-either : (b : Bool) (team one : TeamView) → SameMeetings team one → SameMeetings team (if b then one else team)
same-either true team one same = same
same-either false team one same = same-view team team refl

same-begun : (team : TeamView) (i : ℕ) → SameMeetings team (with_begun team i)
same-begun team i = record { count = length-set team.members i _; meetings = refl; met = (begun-met team i).met }

pub same-back : (W : World) (t : ℕ) (e : Event) (q : ℕ) → SameMeetings (region_at W q).team (team_back W t e q)
same-back W t (Sync which stage.WaitBegin codeptr) q =
    let team = (region_at W q).team in
    same-either (is_barrier which && q == current_region W t) team (with_begun team (current_index W t)) (same-begun team (current_index W t))
same-back W t e q = same-view (region_at W q).team (region_at W q).team refl

taken-either : (b : Bool) (one other : Thread) → one.taken ≡ other.taken → (if b then one else other).taken ≡ other.taken
taken-either true one other same = same
taken-either false one other same = refl

taken-back : (W : World) (t : ℕ) (e : Event) (u : ℕ) → (thread_back W t e u).taken ≡ (thread_at W u).taken
taken-back W t ThreadEnd u = taken-either (u == t) _ (thread_at W u) refl
taken-back W t (ParallelBegin r requested codeptr) u = taken-either (is_summoned W t r u) _ (thread_at W u) refl
taken-back W t (TaskCreate task true codeptr) u = taken-either (u == t) _ (thread_at W u) refl
taken-back W t (TaskCreate task false codeptr) u = refl
taken-back W t e u = refl

tells-back : (W next : World) (t : ℕ) (e : Event) (told : Tellings) → Returns W next t e → Tells W told → Tells next told
tells-back W next t e told returns tells =
    record {
      teams = λ q n.
          let same : SameMeetings (region_at W q).team (region_at next q).team =
          subst (SameMeetings (region_at W q).team) (sym (returns.team q)) (same-back W t e q) in
          tells-same (length (region_at W q).team.members) (length (region_at next q).team.members) (region_at W q).team.meetings
          (region_at next q).team.meetings n (told q n) same.count same.meetings (tells.teams q n);
      tasks = λ k task plain.
          let place = place-back W next t e returns k in
          let team = (region_at W (region_of W k)).team in
          let now = (region_at next (region_of W k)).team in
          let same : SameMeetings team now = subst (SameMeetings team) (sym (returns.team (region_of W k))) (same-back W t e (region_of W k)) in
          let code : (task_at next k).code ≡ (task_at W k).code = returns.code k in
          let before : IsTask W k = record { some = task.some; below = omega (arith, task.below, returns.tasks) } in
          standing-placed W next k (task_at next k).code place
          (standing-kept (task_at W k).code (task_at next k).code team now (index_of W k)
          (λ free. ap (λ (code : Code). list_any is_work (open_task code)) code ∙ free)
          (λ some ends. subst (HasNoEnd (last_what now (index_of W k))) (sym code)
          (ends-what (last_what team (index_of W k)) (last_what now (index_of W k)) (task_at W k).code
          (what-same team now (index_of W k) same.meetings (same.met (index_of W k))) ends))
          (λ some. omega (arith, some, same.met (index_of W k)))
          (λ some over. over-same team now (index_of W k) same.count same.meetings (same.met (index_of W k)) over)
          (tells.tasks k before (sym place.explicit ∙ plain)));
    }

-- ---- an entry

module _ (run : Run) (S : State) (told : Tellings) (so : IsTold run S told) where
  entry-world : (t : ℕ) (what : What) → IsMadeState run (does run S t what) → IsOrderly (does run S t what) → may run S t what ≡ true →
      ((u : ℕ) → (thread_at (does run S t what).world u).taken ≡ None) × Tells (does run S t what).world (more run S t what told)
  entry-world t Go made orderly goes = let now = told-turn run S told so t goes made orderly in (now.idle, now.tells)
  entry-world t (Put place word) made orderly goes = put-here (pending_at S t)
    where
      put-here : (callback : Option Callback) →
          ((u : ℕ) → (thread_at (put_from S t place word callback).world u).taken ≡ None) × Tells (put_from S t place word callback).world told
      put-here None = (so.idle, so.tells)
      put-here (Some callback) = (λ u. taken-stored S.world place word u ∙ so.idle u, tells-stored S.world place word told so.tells)
  entry-world t Back made orderly goes =
      let within = some-within run S so.met.known (pending_at S t) goes in
      let returns = (back-leads run S so.met.known.past so.met.known.stands.knows so.met.known.stands.unbroken t within.one made orderly within.is).returns in (
        λ u. ap (λ (x : Thread). x.taken) (returns.thread u) ∙ (taken-back S.world t within.one.event u ∙ so.idle u),
        tells-back S.world (does run S t Back).world t within.one.event told returns so.tells,
      )

  pub told-entry : (t : ℕ) (what : What) → IsMadeState run (does run S t what) → IsOrderly (does run S t what) → may run S t what ≡ true →
      IsTold run (does run S t what) (more run S t what told)
  told-entry t what made orderly goes =
      let now = entry-world t what made orderly goes in
      record {
        met = record {
          known = known-entry run S so.met.known t what made orderly goes;
          works = works-entry run S so.met.known so.met.works t what made orderly goes;
        };
        idle = now.0;
        tells = now.1;
      }

-- ---- a history

told-from : (run : Run) (before : List Entry) (S : State) (rest : List Entry) (told : Tellings) → IsWholeRun run → after run before ≡ S →
    AllowsFrom run S rest → IsTold run S told → IsTold run (after_from run S rest) (λ r n. with_entries run S r n rest (told r n))
told-from run before S [] told whole is allows so = so
told-from run before S (entry ∷ rest) told whole is allows so =
    let next = entered run S entry in
    let same : after run (before ++ entry ∷ []) ≡ next = after-one run (first run) before entry ∙ ap (λ (S : State). entered run S entry) is in
    let made : IsMadeState run next = subst (IsMadeState run) same (made-after run (before ++ entry ∷ []) whole.some) in
    let orderly : IsOrderly next = subst IsOrderly same (orderly-after run (before ++ entry ∷ []) whole.some) in
    told-from run (before ++ entry ∷ []) next rest (more run S entry.thread entry.what told) whole same allows.1
    (told-entry run S told so entry.thread entry.what made orderly allows.0)

-- at the start

no-team : (size n : ℕ) → TellsTeam size [] n nothing_told
no-team size n = record { none = λ past. refl; some = λ below. absurd (omega (arith, below)) }

first-team : (run : Run) (q n : ℕ) → TellsAt (first_world run) q n nothing_told
first-team run zero n = no-team 0 n
first-team run (suc zero) n = no-team 1 n
first-team run (suc (suc q)) n = no-team 0 n

pub first-told : (run : Run) → IsWholeRun run → IsTold run (first run) (λ r n. nothing_told)
first-told run whole =
    record {
      met = record { known = known-first run whole; works = works-first run };
      idle = first-threads run (λ thread. thread.taken ≡ None) refl refl;
      tells = record {
        teams = first-team run;
        tasks = λ k made plain. Outside (ap (λ (opened : List Open). list_any is_work opened)
            (first-tasks run (λ task. open_task task.code ≡ []) none-open (main-open run.program) k));
      };
    }

pub told-after : (run : Run) (history : List Entry) → IsWholeRun run → Legal run history →
    IsTold run (after run history) (λ r n. with_entries run (first run) r n history nothing_told)
told-after run history whole legal = told-from run [] (first run) history (λ r n. nothing_told) whole refl legal (first-told run whole)
