-- The declarations of a program, and which of them are in scope.
use Rattle.std.specs.Prelude.{ℕ, ◌+◌, ◌-◌, ◌==◌, nat_le, if◌then◌else◌, Bool, false, List, [], ◌∷◌, ◌++◌, length, Option, Some, None}
use Rattle.c_check.specs.declared.acts.act.Thing.{Thing}
use Rattle.c_check.specs.declared.scopes.declared.Declared.{Declared}

pub record Declarations : Type 0 where
  -- those in scope, the newest first
  pub visible : List Declared
  -- all of them, the oldest first: each stands at its slot
  pub all : List Declared
  -- how many scopes are open
  pub level : ℕ

abbrev pub no_names : Declarations
no_names = record { visible = []; all = []; level = 0 }

-- the innermost declaration of a name counts
unfoldable pub find : List Declared → ℕ → Option Declared
find [] name = None
find (first ∷ visible) name = if first.name == name then Some first else find visible name

-- the name is declared in the innermost scope
abbrev pub is_at_level : ℕ → Option Declared → Bool
is_at_level level None = false
is_at_level level (Some found) = found.level == level

-- what is left in scope where a scope with this level ends
unfoldable pub still_in_scope : ℕ → List Declared → List Declared
still_in_scope level [] = []
still_in_scope level (first ∷ visible) = if nat_le level first.level then still_in_scope level visible else first ∷ visible

-- the next declaration
abbrev pub next_of : Declarations → ℕ → Thing → Declared
next_of names name what = record { name = name; thing = what; slot = length names.all; level = names.level }

abbrev pub with_next : Declarations → ℕ → Thing → Declarations
with_next names name what = record names { visible = next_of names name what ∷ names.visible; all = names.all ++ next_of names name what ∷ [] }

abbrev pub scope_begun : Declarations → Declarations
scope_begun names = record names { level = names.level + 1 }

abbrev pub scope_ended : Declarations → Declarations
scope_ended names = record names { level = names.level - 1; visible = still_in_scope names.level names.visible }
