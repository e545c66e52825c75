-- What a part stands for that was asked for its registrations, where the part that it holds stands for records by a relation that is given.
use Rattle.std.specs.Prelude.{ℕ, suc, ⊤, List, [], ◌∷◌}
use Rattle.tool_api.specs.Record.{Record, Start}

-- by the answer of the mark: with 0 nothing is said of the part, and else it stands for the record with the other starts
abbrev pub MarkedAt : {P : Type 0} → (P → Record → Type 0) → P → Record → ℕ → List Start → Type 0
MarkedAt part_for part h Prim.Native.Nat.zero rest = ⊤
MarkedAt part_for part h (suc answer) rest = part_for part (record h { started = rest })

-- the mark is the first start
abbrev pub MarkedBy : {P : Type 0} → (P → Record → Type 0) → P → Record → List Start → Type 0
MarkedBy part_for part h [] = ⊥
MarkedBy part_for part h (mark ∷ rest) = MarkedAt part_for part h mark.answer rest

abbrev pub AskedFor : {P : Type 0} → (P → Record → Type 0) → P → Record → Type 0
AskedFor part_for part h = MarkedBy part_for part h h.started
