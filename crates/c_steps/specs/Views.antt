-- What a thread sees of its team.
use Rattle.std.specs.Prelude.{◌<◌, ◌^◌}
use Rattle.c_model.specs.declared.view.View.{View}

-- the numbers of threads are numbers of expressions
pub record HasNumbers (view : View) : Type 0 where
  pub index : view.index < 2 ^ 31
  pub team : view.team < 2 ^ 31
  pub max : view.max < 2 ^ 31
