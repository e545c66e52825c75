-- Each thread with a task is a member of its region's team.
use Rattle.std.proofs.Common.{◌≡◌, ℕ, ◌≤◌, true, List, length, lt-ltb, arith}
use Rattle.omp_model.specs.declared.history.Entry.{Entry}
use Rattle.team_parts.specs.declared.meeting.TheConstants.{TEAM_LIMIT}
use Rattle.omp_model.specs.State.{Run, State, World, region_at}
use Rattle.omp_model.specs.Members.{current, current_index, current_team, is_member}
use Rattle.omp_model.specs.Turn.{walk}
use Rattle.omp_model.specs.Legal.{after}
use Rattle.omp_model.specs.MadeWorld.{IsMadeWorld, IsRegion, IsTeam}
use Rattle.omp_model.proofs.AlikeWorlds.{made-alike, quiet-walk}
use Rattle.omp_model.proofs.MadeEvents.{current-made}
use Rattle.omp_model.proofs.MadeRuns.{made-after}

-- a thread with a task
pub member-made : (W : World) (t : ℕ) → IsMadeWorld W → 1 ≤ current W t → is_member W t ≡ true
member-made W t made some = lt-ltb (current_index W t) (length (current_team W t).members) (current-made W t made some).within.member

-- after silent steps
pub made-walk : (run : Run) (S : State) (t left made : ℕ) → IsMadeWorld S.world → IsMadeWorld (walk run left made S t).state.world
made-walk run S t left made all = (made-alike S.world (walk run left made S t).state.world (quiet-walk run t left made S).alike all).world

module _ (run : Run) (history : List Entry) (there : 1 ≤ run.threads) where
  pub member-after : (t : ℕ) → 1 ≤ current (after run history).world t → is_member (after run history).world t ≡ true
  member-after t some = member-made (after run history).world t (made-after run history there).world some

  pub member-walk : (t left : ℕ) → 1 ≤ current (walk run left 0 (after run history) t).state.world t → is_member (walk run left 0 (after run history) t).state.world t ≡ true
  member-walk t left some = member-made (walk run left 0 (after run history) t).state.world t (made-walk run (after run history) t left 0 (made-after run history there).world) some

  pub team-after : (r : ℕ) → run.threads ≤ TEAM_LIMIT → IsRegion (after run history).world r → IsTeam (region_at (after run history).world r)
  team-after r fits one =
      let all = made-after run history there in
      let region = all.world.regions r one in
      record { members = region.team; some = region.some; fits = omega (arith, region.fits, all.threads) }
