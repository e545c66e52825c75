-- How the declarations in scope are kept.
use Rattle.std.specs.Prelude.{◌≡◌, ℕ, nat_le, Bool, false, List, [], ◌∷◌, map, drop, Option, Some, None, slice_get}
use Rattle.c_check.specs.declared.scopes.declared.Declared.{Declared}
use Rattle.c_check.specs.declared.scopes.declarations.Visible.{Visible}
use Rattle.c_check.specs.Declarations.{Declarations, find}

abbrev pub declared_in : List Visible → List Declared
declared_in visible = map (λ (one : Visible). one.declared) visible

abbrev pub slot_of : Option Declared → Option ℕ
slot_of None = None
slot_of (Some found) = Some found.slot

-- each declaration, the newest first, has the slot of what it hides
unfoldable pub Hide : List Visible → Type 0
Hide [] = Unit {0}
Hide (first ∷ older) = (first.hidden ≡ slot_of (find (declared_in older) first.declared.name)) × Hide older

-- each of some declarations stands at its slot
unfoldable pub Stand : List Declared → List Declared → Type 0
Stand all [] = Unit {0}
Stand all (first ∷ others) = (slice_get all first.slot ≡ Some first) × Stand all others

-- what is kept of the declarations in scope, the newest first, where all of them and the innermost slot of each name are these
pub record AreVisible (all : List Declared) (innermost : ℕ → Option ℕ) (visible : List Visible) : Type 0 where
  pub stand : Stand all (declared_in visible)
  pub hide : Hide visible
  pub found : (name : ℕ) → innermost name ≡ slot_of (find (declared_in visible) name)

-- the newest declaration ends with a scope of this level
abbrev pub ends_first : ℕ → List Declared → Bool
ends_first level [] = false
ends_first level (first ∷ older) = nat_le level first.level

-- the newest declaration is in scope no more
abbrev pub without_first : Declarations → Declarations
without_first names = record names { visible = drop 1 names.visible }
