-- What a reader has taken and handed on, for the contracts of private functions and the proofs.
use Rattle.std.specs.Prelude.{ℕ, ◌≡◌, List, [], ◌∷◌, ◌++◌}
use Rattle.trace_format.specs.declared.item.Item.{Item}
use Rattle.trace_format.specs.declared.read_end.ReadEnd.{ReadEnd}
use Rattle.trace_format.specs.declared.read_end.ReadEnd.TheVariants.{Whole, Refused, ReadFault, Stopped}
use Rattle.trace_format.specs.Inputs.{AreItems}
use Rattle.trace_format.specs.Refusing.{Refuses}
use Rattle.trace_format.specs.Taking.{HasTaken, Reading}

-- the bytes were taken, and their items were handed on
abbrev pub HandsOn : Reading → List ℕ → (List Item → Type 0) → Type 0
HandsOn reading bytes Took = (items : List Item) × HasTaken reading bytes items × Took items

-- A piece was taken up to where the reading ended: at a refusal, or at an item where the taker stopped. The bytes are all before it, and the piece.
abbrev pub IsCutShort : {Stop : Type 0} → ReadEnd Stop → List ℕ → (List Item → Type 0) → (List Item → Item → Stop → Type 0) → Type 0
IsCutShort Whole bytes Took StoppedAt = ⊥
IsCutShort (Refused refusal) bytes Took StoppedAt =
    (taken rest : List ℕ) × (items : List Item) × (bytes ≡ taken ++ rest) × Refuses taken refusal × AreItems taken items × Took items
IsCutShort ReadFault bytes Took StoppedAt = ⊥
IsCutShort (Stopped stop) bytes Took StoppedAt =
    (taken rest : List ℕ) × (items : List Item) × (next : Item) × (bytes ≡ taken ++ rest) × AreItems taken (items ++ next ∷ []) × StoppedAt items next stop
