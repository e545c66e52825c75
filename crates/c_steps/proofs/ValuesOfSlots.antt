-- The entry of a slot from the newest slot back.
use Rattle.std.specs.Prelude.{◌≡◌, ℕ, ◌==◌, if◌then◌else◌, List, [], ◌∷◌, ◌++◌, length, refl}
use Rattle.std.proofs.Common.{arith}
use Rattle.c_model.specs.declared.entry.Entry.{Entry}
use Rattle.c_model.specs.Cells.{last_of_slot}

pub slot_behind : (slot : ℕ) (found : Entry) (older newer : List Entry) →
    last_of_slot slot found (older ++ newer) ≡ last_of_slot slot (last_of_slot slot found older) newer
unfolding last_of_slot
slot_behind slot found [] newer = refl
slot_behind slot found (entry ∷ older) newer = slot_behind slot (if entry.slot == slot then entry else found) older newer

pub slot_last : (slot : ℕ) (found : Entry) (older : List Entry) (entry : Entry) →
    last_of_slot slot found (older ++ entry ∷ []) ≡ (if entry.slot == slot then entry else last_of_slot slot found older)
unfolding last_of_slot
slot_last slot found [] entry = refl
slot_last slot found (first ∷ older) entry = slot_last slot (if first.slot == slot then first else found) older entry

pub slot_none : (slot : ℕ) (found : Entry) (entries : List Entry) → length entries ≡ 0 → last_of_slot slot found entries ≡ found
unfolding last_of_slot
slot_none slot found [] none = refl
slot_none slot found (entry ∷ entries) none = absurd (omega (arith, none))
