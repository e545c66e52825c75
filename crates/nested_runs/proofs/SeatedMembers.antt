-- The member that a thread's current task is, and which member a task is.
use Rattle.std.proofs.Common.{ℕ, ◌≡◌, ◌<◌, ◌≤◌, true, false, length, refl, sym, ap, ◌∙◌, subst, arith}
use Rattle.task_pool.specs.declared.task.TaskKind.{TaskKind}
use Rattle.task_pool.specs.declared.task.TaskKind.TheVariants as kind
use Rattle.task_pool.specs.Tasks.{is_explicit, is_open}
use Rattle.omp_model.specs.declared.limits.TheConstants.{IMPLICIT_REGION}
use Rattle.omp_model.specs.State.{Run, World, pooled_at, region_at, thread_at}
use Rattle.omp_model.specs.Members.{current, current_index, current_region, current_team, is_explicit_task, member_index, region_of}
use Rattle.omp_model.specs.Conditions.{IsUnderWay}
use Rattle.omp_model.specs.MadeWorld.{IsTaskOf}
use Rattle.omp_model.proofs.MadeEvents.{first-of}
use Rattle.ompt_calls.specs.declared.event.EventRecord.{EventRecord}
use Rattle.std.specs.Prelude.{List}
use Rattle.nested_runs.proofs.Known.{IsMemberTask, task_of_member}
use Rattle.nested_runs.proofs.Knows.{Knows}
use Rattle.nested_runs.proofs.Recorded.{Inside}

-- the current task of a thread is a member of its region with the thread's number
pub record IsHere (W : World) (t : ℕ) : Type 0 where
  pub kind : (pooled_at W (current W t)).kind ≡ kind.Implicit
  pub forked : 2 ≤ current_region W t
  pub made : current_region W t < length W.regions
  pub member : task_of_member W (current_region W t) (current_index W t) ≡ current W t
  pub within : current_index W t < length (current_team W t).members
  pub below : current_index W t < (region_at W (current_region W t)).head.size

-- a member's number is that of a thread
pub record IsOwn (W : World) (t q i : ℕ) : Type 0 where
  pub region : current_region W t ≡ q
  pub index : i ≡ current_index W t

-- a thread that has a task
module _ (run : Run) (W : World) (I : Inside) (past : List EventRecord) (knows : Knows run W I past) (t : ℕ) (some : 1 ≤ current W t) where
  pub current-way : IsUnderWay W t (current W t)
  current-way = first-of (IsUnderWay W t) (thread_at W t).stack (knows.sound.orderly.stacked t) some

  -- it was made, in a region of which the thread is a member
  pub current-of : IsTaskOf W t (current W t)
  current-of = first-of (IsTaskOf W t) (thread_at W t).stack (knows.sound.made.threads t).stacked some

  -- an implicit task is seated
  pub here-implicit : (pooled_at W (current W t)).kind ≡ kind.Implicit → IsHere W t
  here-implicit kind =
      let seat = knows.members.seated (current W t) current-of.made kind in
      let region = knows.sound.made.regions (current_region W t) current-of.within.made in
      record {
        kind = kind;
        forked = seat.region;
        made = current-of.within.made.below;
        member = ap (λ u. task_of_member W (current_region W t) (member_index W u (current_region W t))) (sym current-way.thread) ∙ seat.member;
        within = current-of.within.member;
        below = subst (λ n. current_index W t < n) region.team current-of.within.member;
      }

  -- in a forked region a task that isn't explicit is implicit
  kinds : (found : TaskKind) → (pooled_at W (current W t)).kind ≡ found → is_explicit found ≡ false → 2 ≤ current_region W t → found ≡ kind.Implicit
  kinds kind.Initial is plain forked =
      let initial : region_of W (current W t) ≡ IMPLICIT_REGION = ap (region_of W) (knows.sound.orderly.alone (current W t) is) ∙ knows.seats.initial in
      absurd (omega (arith, forked, initial))
  kinds kind.Implicit is plain forked = refl
  kinds kind.Explicit is plain forked = cc
  kinds kind.Undeferred is plain forked = cc

  -- a task of a forked region that isn't explicit
  pub here-plain : is_explicit_task W (current W t) ≡ false → 2 ≤ current_region W t → IsHere W t
  here-plain plain forked = here-implicit (kinds (pooled_at W (current W t)).kind refl plain forked)

  -- .. and an explicit one hasn't finished
  pub current-open : is_explicit_task W (current W t) ≡ true → is_open (pooled_at W (current W t)) ≡ true
  current-open explicit = rw (explicit, current-way.started) refl

  -- a member that is this task has its number
  pub own-member : (q i : ℕ) → IsMemberTask W q i (current W t) → IsOwn W t q i
  own-member q i member =
      record {
        region = member.region;
        index = sym member.index ∙ ap (λ u. member_index W u q) current-way.thread ∙ ap (member_index W t) (sym member.region);
      }
