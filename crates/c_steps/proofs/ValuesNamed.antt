-- The entry of a name from the newest name back.
use Rattle.std.specs.Prelude.{◌≡◌, ℕ, ◌==◌, if◌then◌else◌, List, [], ◌∷◌, ◌++◌, length, refl}
use Rattle.std.proofs.Common.{arith}
use Rattle.c_model.specs.declared.entry.Entry.{Entry}
use Rattle.c_model.specs.Cells.{last_named}

pub named_behind : (name : ℕ) (found : Entry) (older newer : List Entry) →
    last_named name found (older ++ newer) ≡ last_named name (last_named name found older) newer
unfolding last_named
named_behind name found [] newer = refl
named_behind name found (entry ∷ older) newer = named_behind name (if entry.name == name then entry else found) older newer

pub named_last : (name : ℕ) (found : Entry) (older : List Entry) (entry : Entry) →
    last_named name found (older ++ entry ∷ []) ≡ (if entry.name == name then entry else last_named name found older)
unfolding last_named
named_last name found [] entry = refl
named_last name found (first ∷ older) entry = named_last name (if first.name == name then first else found) older entry

pub named_none : (name : ℕ) (found : Entry) (entries : List Entry) → length entries ≡ 0 → last_named name found entries ≡ found
unfolding last_named
named_none name found [] none = refl
named_none name found (entry ∷ entries) none = absurd (omega (arith, none))
