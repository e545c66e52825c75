-- What a step does to the last barrier of a region, and that all that is told of it is kept by that.
use Rattle.std.proofs.Common.{ℕ, ◌≡◌, ◌<◌, ◌≤◌, ◌⊎◌, true, subst, inl, inr}
use Rattle.omp_model.specs.State.{World, region_at, task_at}
use Rattle.nested_runs.proofs.Standing.{is_behind, stand_at}
use Rattle.nested_runs.proofs.Known.{HasNoTasks, HasPassed, TellsLast, has_left_region, has_met_last, is_past_wait, task_of_member}
use Rattle.nested_runs.proofs.TeamsMet.{IsCounted, PassedIn}

-- ---- of the team alone

-- what is told of a region says this of its team
pub counted-of : (W : World) (q : ℕ) → TellsLast W q → IsCounted (region_at W q).team
counted-of W q last = record { met = last.met; barriers = last.barriers; passed = last.passed; last = last.last }

pub passed-in : (W : World) (q i : ℕ) → HasPassed W q i → PassedIn (region_at W q).team i
passed-in W q i passed = record { met = passed.met; passed = passed.passed }

pub has-passed : (W : World) (q i : ℕ) → PassedIn (region_at W q).team i → HasPassed W q i
has-passed W q i passed = record { met = passed.met; passed = passed.passed }

-- ---- a step

-- what a step does to the team of a region: a member that has passed the barrier has done so before, or now all have met it and no task is unfinished
pub record ThroughLast (W : World) (q : ℕ) : Type 0 where
  pub met : (j : ℕ) → j < (region_at W q).head.size → has_met_last W q j ≡ true
  pub tasks : HasNoTasks W q

-- .. and leaves of who has met it and passed it
pub record KeepsTeam (W after : World) (q : ℕ) : Type 0 where
  pub counted : IsCounted (region_at after q).team
  pub kept : (i : ℕ) → HasPassed W q i → HasPassed after q i
  pub fresh : (i : ℕ) → HasPassed after q i → ((j : ℕ) × HasPassed W q j) ⊎ ThroughLast W q
  pub met : (i : ℕ) → has_met_last W q i ≡ true → has_met_last after q i ≡ true

-- .. and to its members and tasks
pub record KeepsMembers (W after : World) (q : ℕ) : Type 0 where
  pub size : (region_at after q).head.size ≡ (region_at W q).head.size
  pub tasks : ThroughLast W q → HasNoTasks after q
  pub behind : (i : ℕ) → 1 ≤ task_of_member after q i → is_behind (task_at after (task_of_member after q i)).code ≡ has_met_last after q i
  pub over : (i : ℕ) → 1 ≤ task_of_member after q i → is_behind (task_at after (task_of_member after q i)).code ≡ true →
      is_past_wait (stand_at after (task_of_member after q i)) ≡ true → HasPassed after q i
  pub gone : (i : ℕ) → has_left_region after q i ≡ true → HasPassed after q i

-- with that all is told of the region after the step
pub kept-last : (W after : World) (q : ℕ) → TellsLast W q → KeepsTeam W after q → KeepsMembers W after q → TellsLast after q
kept-last W after q last team members =
    record {
      met = team.counted.met;
      barriers = team.counted.barriers;
      passed = team.counted.passed;
      last = team.counted.last;
      behind = members.behind;
      over = members.over;
      gone = members.gone;
      all_met = λ i j passed below. team.met j ((through i passed).met j (subst (λ n. j < n) members.size below));
      no_tasks = λ i passed. members.tasks (through i passed);
    }
  where
    through : (i : ℕ) → HasPassed after q i → ThroughLast W q
    through i passed =
        elim (team.fresh i passed) [
          | inl was ↦ record { met = λ j below. last.all_met was.0 j was.1 below; tasks = last.no_tasks was.0 was.1 }
          | inr now ↦ now
        ]
