-- What is so of every book.
use Rattle.std.specs.Prelude.{ℕ, ◌≡◌, ◌<◌, ◌≤◌, ◌+◌, ◌*◌, None, length}
use Rattle.kept_room.specs.Roomy.{RoomyList}
use Rattle.omp_model.specs.declared.history.Entry.{Entry}
use Rattle.omp_model.specs.declared.limits.TheConstants.{TURN_LIMIT}
use Rattle.omp_model.specs.State.{Run, State}
use Rattle.omp_model.specs.Legal.{Legal, after}
use Rattle.step_book.specs.Owing.{count_pending}

-- The entries are a legal history that leads to this state. There is room for the answers of so many threads, at least as many as are inside a callback,
-- each of three stores and a Back.
pub record IsBook (run : Run) (state : State) (entries : RoomyList Entry) (owing : ℕ) : Type 0 where
  pub some : 1 ≤ run.threads
  pub legal : Legal run entries.list
  pub reached : after run entries.list ≡ state
  pub running : state.halt ≡ None → state.turns < TURN_LIMIT
  pub short : length entries.list + 4 * owing ≤ 5 * state.turns
  pub pending : count_pending state.pending ≤ owing
  pub room : 4 * owing ≤ entries.free
