-- What a source or a sink that adapts std is seen as.
use Rattle.std.specs.Prelude.{ℕ}

-- a reader or a writer of std, and the count of its calls that failed
pub record Adapted (X : Type 0) : Type 0 where
  pub inner : X
  pub faults : ℕ
