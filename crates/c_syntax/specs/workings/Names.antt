-- The names of a text, by their numbers.
use Rattle.std.specs.Prelude.{ℕ, ◌≡◌, List, length, bytes_eq}
use Rattle.std.specs.HashMap.{get_by, hash_map_len}
use Rattle.c_syntax.specs.declared.names.Names.{Names}
use Rattle.c_syntax.specs.language.Words.{number_of}

-- these are the names that have appeared, in this order
pub record AreNames (before : List (List ℕ)) (names : Names) : Type 0 where
  pub numbers : (name : List ℕ) → get_by (λ key. bytes_eq name key.now) names.numbers ≡ number_of before name
  pub count : hash_map_len names.numbers ≡ length before
