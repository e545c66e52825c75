-- The numbers of criticals as they are kept.
use Rattle.std.specs.Prelude.{◌≡◌, ℕ, List, length, nat_eq}
use Rattle.std.specs.HashMap.{get}
use Rattle.c_check.specs.declared.constructs.criticals.Criticals.{Criticals}
use Rattle.c_check.specs.Seen.{number_among}

-- these names have come, in this order
pub record AreCriticals (names : List ℕ) (kept : Criticals) : Type 0 where
  pub numbers : (name : ℕ) → get nat_eq kept.numbers name ≡ number_among names name
  pub count : kept.count ≡ length names
