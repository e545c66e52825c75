-- What stands in a text with a place of its own: names that are declared or used, and constructs. A place is that of one of them at most, so it tells
-- the slot of a name and the copies of a task.
use Rattle.std.specs.Prelude.{ℕ, ◌≤◌, if◌then◌else◌, sum_by}
use Rattle.c_tokens.specs.declared.token.Spot.{Spot}
use Rattle.c_syntax.specs.language.Numbered.{TreeView}
use Rattle.c_check.specs.declared.acts.act.Act.{Act}
use Rattle.c_check.specs.declared.acts.act.Act.TheVariants.{Begin, Declare, Use, Enter}
use Rattle.c_check.specs.Checked.{acts_of}
use Rattle.c_check.specs.Faults.{is_same_spot}

-- 1 where these are one place
abbrev pub one_if_same : Spot → Spot → ℕ
one_if_same place spot = if is_same_spot spot place then 1 else 0

-- how much of an act stands at a place. A name that a clause lists counts where it is used, before the construct begins
abbrev pub placed_at : Spot → Act → ℕ
placed_at place (Begin name spot gives parameters) = one_if_same place spot
placed_at place (Declare name spot what) = one_if_same place spot
placed_at place (Use name spot used) = one_if_same place spot
placed_at place (Enter spot which critical) = one_if_same place spot
placed_at place other = 0

abbrev pub HasOwnPlaces : TreeView → Type 0
HasOwnPlaces program = (place : Spot) → sum_by (placed_at place) (acts_of program) ≤ 1
