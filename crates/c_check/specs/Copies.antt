-- The copies by rule as they are kept.
use Rattle.std.specs.Prelude.{◌≡◌, ℕ, List, [], option_map, unwrap_or, vec_items}
use Rattle.std.specs.HashMap.{get}
use Rattle.std.specs.HashSet.{contains}
use Rattle.c_tokens.specs.declared.token.Spot.{Spot}
use Rattle.c_check.specs.declared.constructs.task_copies.TaskCopies.{TaskCopies}
use Rattle.c_check.specs.Once.{is_among}
use Rattle.c_check.specs.Pairs.{same_pair, same_triple}
use Rattle.c_check.specs.Seen.{copies_of_task}
use Rattle.c_check.specs.Shares.{TaskCopy}

-- these copies have come, in this order
pub record AreCopies (copies : List TaskCopy) (kept : TaskCopies) : Type 0 where
  pub slots : (task : Spot) → unwrap_or (option_map vec_items (get same_pair kept.slots (task.line, task.column))) [] ≡ copies_of_task copies task
  pub known : (task : Spot) (slot : ℕ) → contains same_triple kept.known (task.line, task.column, slot) ≡ is_among (copies_of_task copies task) slot
