-- Silent steps, what a task goes past and what a tool stores make a world that is alike, in which what was made still is and the tasks are as
-- orderly.
use Rattle.std.proofs.Common.{◌≡◌, ℕ, zero, suc, ◌+◌, ◌⊎◌, nat_le, nat_lt, Bool, true, false, if◌then◌else◌, List, [], ◌∷◌, map, slice_set, slice_index_or, length, refl, sym, ap, ◌∙◌, subst, inl, inr, arith}
use Rattle.std.specs.Prelude.{All, Option, Some, None, is_some, option_map}
use Rattle.std.proofs.lemmas.Bool.{and_parts, ltb-true}
use Rattle.std.proofs.lemmas.List.{get_or-set_other, length-set}
use Rattle.c_syntax.specs.language.Tree.{Tree}
use Rattle.c_model.specs.declared.question.Ask.{Ask}
use Rattle.c_model.specs.declared.question.Ask.TheVariants as ask
use Rattle.c_model.specs.Asked.{count_asked, sections_asked}
use Rattle.c_model.specs.AfterEvents.{after_answer}
use Rattle.c_model.specs.Step.{silent}
use Rattle.c_model.specs.Task.{Moment, Outcome}
use Rattle.c_model.specs.Task.Outcome.{Asks, Ends, Limits, Occurs, StepsTo, Traps}
use Rattle.ompt_calls.specs.declared.snapshot.Target.{Target}
use Rattle.ompt_calls.specs.declared.snapshot.Target.TheVariants as target
use Rattle.task_pool.specs.Tasks.{task_at as pool_task_at}
use Rattle.task_pool.specs.View.{PoolView}
use Rattle.team_parts.specs.Meetings.{TeamMeeting}
use Rattle.team_parts.specs.Team.{TeamView, after_taking, last_meeting, last_number, next_chunk, next_section, no_meeting, with_taken}
use Rattle.omp_model.specs.declared.parts.RegionHead.{RegionHead}
use Rattle.omp_model.specs.State.{Region, Run, State, Task, Thread, World, no_region, no_task, region_at, task_at, thread_at, unmade, with_region, with_task, with_thread}
use Rattle.omp_model.specs.Members.{current, current_index, current_region, current_team, is_member, moment_of, view_of}
use Rattle.omp_model.proofs.Alike.{AlikeHead, AlikeTeam, AlikeThread, AlikeWorld, HasSomeShare, QuietWorld}
use Rattle.omp_model.specs.Changes.{with_masked_skipped, gone_to, with_taken_share}
use Rattle.omp_model.specs.MadeWorld.{IsMadeWorld, IsTask}
use Rattle.omp_model.specs.Silent.{Goes, Silence, Stops, answer_to, answered, chunk_dealt, fits_loop, fitting_chunk, fitting_section, items_asking, section_dealt, share_of_chunk, share_of_section, share_taken, silence_of, silent_step, team_after, team_asked}
use Rattle.omp_model.specs.Turn.{turn, walk}
use Rattle.omp_model.specs.Words.{stored}
use Rattle.omp_model.proofs.Conditions.{Still}
use Rattle.omp_model.proofs.Later.{Later, at-set}
use Rattle.omp_model.proofs.MadeWords.{MadeAfter, after-kept}
use Rattle.omp_model.proofs.Reading.{read-same}
use Rattle.omp_model.proofs.Turning.{AfterSilence, Turned, of-turn, of-walk}

-- Parts that are the same.

pub same-thread : (thread : Thread) → AlikeThread thread thread
same-thread thread = record { stage = refl; stack = refl; invited = refl; undeferred = refl }

pub same-head : (head : RegionHead) → AlikeHead head head
same-head head = record { task = refl; size = refl; members = refl; left = refl; ended = refl }

pub same-team : (team : TeamView) → AlikeTeam team team
same-team team = record { members = refl; met = refl }

pub alike-same : (W : World) → AlikeWorld W W
alike-same W =
    record {
      thread = λ u. same-thread (thread_at W u);
      threads = refl;
      tasks = refl;
      owner = λ k. refl;
      forked = λ k. refl;
      pool = refl;
      regions = refl;
      head = λ q. same-head (region_at W q).head;
      team = λ q. same-team (region_at W q).team;
      locks = refl;
    }

-- one world alike after another
pub alike-then : (W between after : World) → AlikeWorld W between → AlikeWorld between after → AlikeWorld W after
alike-then W between after first next =
    record {
      thread = λ u.
          let a = first.thread u in
          let b = next.thread u in
          record { stage = b.stage ∙ a.stage; stack = b.stack ∙ a.stack; invited = b.invited ∙ a.invited; undeferred = b.undeferred ∙ a.undeferred };
      threads = next.threads ∙ first.threads;
      tasks = next.tasks ∙ first.tasks;
      owner = λ k. next.owner k ∙ first.owner k;
      forked = λ k. next.forked k ∙ first.forked k;
      pool = next.pool ∙ first.pool;
      regions = next.regions ∙ first.regions;
      head = λ q.
          let a = first.head q in
          let b = next.head q in
          record { task = b.task ∙ a.task; size = b.size ∙ a.size; members = b.members ∙ a.members; left = b.left ∙ a.left; ended = b.ended ∙ a.ended };
      team = λ q. record { members = (next.team q).members ∙ (first.team q).members; met = (next.team q).met ∙ (first.team q).met };
      locks = next.locks ∙ first.locks;
    }

-- What is changed: a thread, the code of a task, and a region.

pub alike-thread : (W : World) (t : ℕ) (thread : Thread) → AlikeThread (thread_at W t) thread → AlikeWorld W (with_thread W t thread)
alike-thread W t thread alike =
    let same = alike-same W in
    record {
      thread = λ u. at-set (λ (x : Thread). AlikeThread (thread_at W u) x) unmade W.threads t u thread (same-thread (thread_at W u))
          (λ is. subst (λ v. AlikeThread (thread_at W v) thread) (sym is) alike);
      threads = length-set W.threads t thread;
      tasks = refl;
      owner = same.owner;
      forked = same.forked;
      pool = refl;
      regions = refl;
      head = same.head;
      team = same.team;
      locks = refl;
    }

pub alike-task : (W : World) (k : ℕ) (task : Task) → task.thread ≡ (task_at W k).thread → task.forked ≡ (task_at W k).forked → AlikeWorld W (with_task W k task)
alike-task W k task owner forked =
    let same = alike-same W in
    record {
      thread = same.thread;
      threads = refl;
      tasks = length-set W.tasks k task;
      owner = λ j. read-same (λ (x : Task). x.thread) no_task W.tasks k j task owner;
      forked = λ j. read-same (λ (x : Task). x.forked) no_task W.tasks k j task forked;
      pool = refl;
      regions = refl;
      head = same.head;
      team = same.team;
      locks = refl;
    }

pub alike-region : (W : World) (r : ℕ) (region : Region) → AlikeHead (region_at W r).head region.head → AlikeTeam (region_at W r).team region.team →
    AlikeWorld W (with_region W r region)
alike-region W r region head team =
    let same = alike-same W in
    record {
      thread = same.thread;
      threads = refl;
      tasks = refl;
      owner = same.owner;
      forked = same.forked;
      pool = refl;
      regions = length-set W.regions r region;
      head = λ q. at-set (λ (x : Region). AlikeHead (region_at W q).head x.head) no_region W.regions r q region (same-head (region_at W q).head)
          (λ is. subst (λ p. AlikeHead (region_at W p).head region.head) (sym is) head);
      team = λ q. at-set (λ (x : Region). AlikeTeam (region_at W q).team x.team) no_region W.regions r q region (same-team (region_at W q).team)
          (λ is. subst (λ p. AlikeTeam (region_at W p).team region.team) (sym is) team);
      locks = refl;
    }

pub alike-gone : (W : World) (k : ℕ) (now : Moment) → AlikeWorld W (gone_to W k now)
alike-gone W k now =
    let task : Task = record (task_at W k) { code = now.task } in
    let coded = alike-task W k task refl refl in
    record {
      thread = coded.thread;
      threads = coded.threads;
      tasks = coded.tasks;
      owner = coded.owner;
      forked = coded.forked;
      pool = coded.pool;
      regions = coded.regions;
      head = coded.head;
      team = coded.team;
      locks = coded.locks;
    }

pub alike-past : (W : World) (t : ℕ) → AlikeWorld W (with_masked_skipped W t)
alike-past W t = alike-task W (current W t) _ refl refl

-- What a tool stores.
pub alike-stored : (W : World) (place : Target) (word : ℕ) → AlikeWorld W (stored W place word)
alike-stored W (target.Thread t) word = alike-thread W t _ (record { stage = refl; stack = refl; invited = refl; undeferred = refl })
alike-stored W (target.Parallel r) word =
    alike-region W r _ (record { task = refl; size = refl; members = refl; left = refl; ended = refl }) (same-team (region_at W r).team)
alike-stored W (target.Task k) word = alike-task W k _ refl refl

-- What a team has dealt: it has met the same.

map-set : {A B : Type 0} (f : A → B) (d : A) (xs : List A) (i : ℕ) (x : A) → f x ≡ f (slice_index_or xs i d) → map f (slice_set xs i x) ≡ map f xs
map-set f d [] i x same = refl
map-set f d (y ∷ ys) zero x same = ap (λ z. z ∷ map f ys) same
map-set f d (y ∷ ys) (suc i) x same = ap (λ zs. f y ∷ zs) (map-set f d ys i x same)

team-taking : (team : TeamView) (i : ℕ) → AlikeTeam team (after_taking team i)
team-taking team i = record {
  members = refl;
  met = map-set (λ (met : TeamMeeting). met.what) no_meeting team.meetings (last_number team i)
      (with_taken (last_meeting team i) i) refl;
}

team-either : (team one other : TeamView) (b : Bool) → AlikeTeam team one → AlikeTeam team other → AlikeTeam team (if b then one else other)
team-either team one other true first second = first
team-either team one other false first second = second

team-dealt : (team : TeamView) (i : ℕ) (what : Ask) → AlikeTeam team (team_asked team i what)
team-dealt team i ask.Chunk = team-either team (after_taking team i) team (is_some (next_chunk team i)) (team-taking team i) (same-team team)
team-dealt team i ask.Section = team-either team (after_taking team i) team (is_some (next_section team i)) (team-taking team i) (same-team team)
team-dealt team i (ask.LockFree id) = same-team team

pub team-asks : (W : World) (t : ℕ) (what : Ask) → AlikeTeam (current_team W t) (team_after W t what)
team-asks W t what =
    team-either (current_team W t) (team_asked (current_team W t) (current_index W t) what) (current_team W t) (is_member W t)
    (team-dealt (current_team W t) (current_index W t) what) (same-team (current_team W t))

-- Silent steps.

alike-answered : (W : World) (t : ℕ) (what : Ask) (tree : Tree) → AlikeWorld W (answered W t what tree)
alike-answered W t what tree =
    let given = answer_to W t what in
    let told = gone_to W (current W t) (after_answer (view_of W t) given (moment_of W t)) in
    let next = with_taken_share told t (share_taken tree given) in
    let after = answered W t what tree in
    alike-then W told after (alike-gone W (current W t) _)
    (alike-then told next after (alike-thread told t _ (record { stage = refl; stack = refl; invited = refl; undeferred = refl }))
    (alike-region next (current_region W t) _ (same-head (region_at W (current_region W t)).head) (team-asks W t what)))

-- a chunk that is taken has an iteration
chunk-some : (count : ℕ) (chunk : ℕ × ℕ) (fits : Bool) → fits_loop count chunk ≡ fits →
    HasSomeShare (option_map share_of_chunk (if fits then Some chunk else None))
chunk-some count chunk true is = ltb-true 0 chunk.1 (and_parts (nat_lt 0 chunk.1) (nat_le (chunk.0 + chunk.1) count) is).0
chunk-some count chunk false is = tt

chunk-taken : (count : ℕ) (dealt : Option (ℕ × ℕ)) → HasSomeShare (option_map share_of_chunk (fitting_chunk count dealt))
chunk-taken count None = tt
chunk-taken count (Some chunk) = chunk-some count chunk (fits_loop count chunk) refl

section-some : (tree : Tree) (section : Option ℕ) → HasSomeShare (option_map (share_of_section tree) section)
section-some tree None = tt
section-some tree (Some section) = tt

some-taken : (W : World) (t : ℕ) (what : Ask) (tree : Tree) → HasSomeShare (share_taken tree (answer_to W t what))
some-taken W t ask.Chunk tree = chunk-taken (count_asked (items_asking W t)) (chunk_dealt W t)
some-taken W t ask.Section tree = section-some tree (fitting_section (sections_asked (items_asking W t)) (section_dealt W t))
some-taken W t (ask.LockFree id) tree = tt

pub quiet-same : (t : ℕ) (W : World) → QuietWorld t W W
quiet-same t W = record { alike = alike-same W; task_words = λ k. refl; region_words = λ q. refl; others = λ u other. refl; own = inl refl }

pub quiet-then : (t : ℕ) (W between after : World) → QuietWorld t W between → QuietWorld t between after → QuietWorld t W after
quiet-then t W between after first next =
    record {
      alike = alike-then W between after first.alike next.alike;
      task_words = λ k. next.task_words k ∙ first.task_words k;
      region_words = λ q. next.region_words q ∙ first.region_words q;
      others = λ u other. next.others u other ∙ first.others u other;
      own = elim next.own [
        | inl same ↦ elim first.own [ inl before ↦ inl (same ∙ before) | inr some ↦ inr (rw same some) ]
        | inr some ↦ inr some
      ];
    }

quiet-gone : (t : ℕ) (W : World) (k : ℕ) (now : Moment) → QuietWorld t W (gone_to W k now)
quiet-gone t W k now =
    let task : Task = record (task_at W k) { code = now.task } in
    record {
      alike = alike-gone W k now;
      task_words = λ j. read-same (λ (x : Task). x.word) no_task W.tasks k j task refl;
      region_words = λ q. refl;
      others = λ u other. refl;
      own = inl refl;
    }

pub quiet-past : (t : ℕ) (W : World) → QuietWorld t W (with_masked_skipped W t)
quiet-past t W =
    record {
      alike = alike-past W t;
      task_words = λ j. read-same (λ (x : Task). x.word) no_task W.tasks (current W t) j _ refl;
      region_words = λ q. refl;
      others = λ u other. refl;
      own = inl refl;
    }

quiet-answered : (t : ℕ) (W : World) (what : Ask) (tree : Tree) → QuietWorld t W (answered W t what tree)
quiet-answered t W what tree =
    let given = answer_to W t what in
    let now = after_answer (view_of W t) given (moment_of W t) in
    let thread : Thread = record (thread_at W t) { taken = share_taken tree given } in
    let region : Region = record (region_at W (current_region W t)) { team = team_after W t what } in
    record {
      alike = alike-answered W t what tree;
      task_words = (quiet-gone t W (current W t) now).task_words;
      region_words = λ q. read-same (λ (x : Region). x.head.word) no_region W.regions (current_region W t) q region refl;
      others = λ u other. ap (λ (x : Thread). x.taken) (get_or-set_other W.threads t u thread unmade other);
      own = at-set (λ (x : Thread). (x.taken ≡ (thread_at W t).taken) ⊎ HasSomeShare x.taken) unmade W.threads t t thread (inl refl)
          (λ is. inr (some-taken W t what tree));
    }

quiet-outcome : (t : ℕ) (W : World) (outcome : Outcome) → AfterSilence (QuietWorld t W) (silence_of W t outcome)
quiet-outcome t W (StepsTo next) = quiet-gone t W (current W t) next
quiet-outcome t W (Asks what tree) = quiet-answered t W what tree
quiet-outcome t W (Occurs what tree) = quiet-same t W
quiet-outcome t W (Ends number) = quiet-same t W
quiet-outcome t W (Traps trap) = tt
quiet-outcome t W (Limits limit) = tt

pub quiet-step : (run : Run) (t : ℕ) (W : World) → AfterSilence (QuietWorld t W) (silent_step run W t)
unfolding silent_step
quiet-step run t W = quiet-outcome t W (silent run.program (view_of W t) (moment_of W t))

-- A turn leads to a quiet world, or to the Go of an event from one.

quiet-on : (t : ℕ) (W between : World) (silence : Silence) → QuietWorld t W between →
    AfterSilence (QuietWorld t between) silence → AfterSilence (QuietWorld t W) silence
quiet-on t W between (Goes after) first next = quiet-then t W between after first next
quiet-on t W between (Stops halt) first next = tt

pub quiet-walk : (run : Run) (t left made : ℕ) (S : State) → QuietWorld t S.world (walk run left made S t).state.world
quiet-walk run t left made S =
    of-walk run t (QuietWorld t S.world) (λ W so. quiet-then t S.world W (with_masked_skipped W t) so (quiet-past t W))
    (λ W steps so. quiet-on t S.world W (silent_step run W t) so (quiet-step run t W)) left made S (quiet-same t S.world)

pub quiet-turn : (run : Run) (t : ℕ) (S : State) → Turned run (QuietWorld t S.world) t (turn run S t).state.world (turn run S t).outcome
quiet-turn run t S =
    of-turn run t (QuietWorld t S.world) (λ W so. quiet-then t S.world W (with_masked_skipped W t) so (quiet-past t W))
    (λ W steps so. quiet-on t S.world W (silent_step run W t) so (quiet-step run t W)) S (quiet-same t S.world)

-- What is so of a world is so of one that is alike.

module _ (W after : World) (alike : AlikeWorld W after) where
  pub later-alike : Later W after
  later-alike =
      record {
        threads = alike.threads;
        stages = λ t made. rw (alike.thread t).stage made;
        tasks = omega (arith, alike.tasks);
        regions = omega (arith, alike.regions);
        placed = λ k within. ap (λ (pool : PoolView). (pool_task_at pool.tasks k).region) alike.pool;
        teams = λ r within. record { task = (alike.head r).task; size = (alike.head r).size; members = ap length (alike.team r).members };
      }

  pub still-alike : Still W after
  still-alike =
      record {
        pool = alike.pool;
        tasks = alike.tasks;
        threads = λ t. record { stack = (alike.thread t).stack; undeferred = (alike.thread t).undeferred };
        holders = alike.owner;
      }

  -- what is named was made
  pub made-alike : IsMadeWorld W → MadeAfter W after
  made-alike made =
      after-kept W after made later-alike
      (record { tasks = alike.tasks; pool = ap (λ (pool : PoolView). length pool.tasks) alike.pool; regions = alike.regions })
      (λ t.
      let one = made.threads t in
      let same = alike.thread t in
      record {
        stacked = rw same.stack one.stacked;
        joins = rw same.invited one.joins;
        forks = rw same.invited one.forks;
        starts = rw same.undeferred one.starts;
      })
      (λ k. rw (alike.forked k) (made.forked k)) (subst (λ (pool : PoolView). All (IsTask W) pool.ready) (sym alike.pool) made.ready)

-- No share of work is taken where a tool stores.
pub taken-stored : (W : World) (place : Target) (word : ℕ) (u : ℕ) → (thread_at (stored W place word) u).taken ≡ (thread_at W u).taken
taken-stored W (target.Thread t) word u = read-same (λ (x : Thread). x.taken) unmade W.threads t u _ refl
taken-stored W (target.Parallel r) word u = refl
taken-stored W (target.Task k) word u = refl
