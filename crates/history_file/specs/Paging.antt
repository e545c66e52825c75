-- What a sink and a page hold together, while a file is written.
use Rattle.std.specs.Prelude.{ℕ, ◌≡◌, List, ◌++◌, Option}
use Rattle.std.specs.Io.KnownBytes.{Appends}

-- a sink has taken a front of these bytes, and the rest of them stands on the page
pub record IsPaged (old new : Option (List ℕ)) (page bytes : List ℕ) : Type 0 where
  pub front : List ℕ
  pub appended : Appends old new front
  pub whole : front ++ page ≡ bytes
