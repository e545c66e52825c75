-- What was read of a source, by how the reading of its items ended.
use Rattle.std.specs.Prelude.{ℕ, ◌≡◌, ◌⊎◌, List, [], ◌∷◌, ◌++◌, Option, IfSome}
use Rattle.std.specs.Io.KnownBytes.{Consumes}
use Rattle.trace_format.specs.declared.item.Item.{Item}
use Rattle.trace_format.specs.declared.read_end.ReadEnd.{ReadEnd}
use Rattle.trace_format.specs.declared.read_end.ReadEnd.TheVariants.{Whole, Refused, ReadFault, Stopped}
use Rattle.trace_format.specs.declared.refusal.Refusal.{Refusal}
use Rattle.trace_format.specs.Items.{AreWhole, IsRead}
use Rattle.trace_format.specs.Refusing.{IsRefused, IsTruncated, Refuses}

-- the bytes are the whole input, where it is told, and they are a front of it
abbrev pub IsInput : Option (List ℕ) → List ℕ → Type 0
IsInput left bytes = IfSome left (λ text. text ≡ bytes)

abbrev pub IsInputFront : Option (List ℕ) → List ℕ → Type 0
IsInputFront left bytes = IfSome left (λ text. (rest : List ℕ) × (text ≡ bytes ++ rest))

-- the items that are whole in the bytes
abbrev pub AreItems : List ℕ → List Item → Type 0
AreItems bytes items = (begun : List ℕ) × AreWhole bytes items begun

-- no front of the bytes is refused
abbrev pub IsUnrefused : List ℕ → Type 0
IsUnrefused bytes = (refusal : Refusal) → IsRefused bytes refusal → ⊥

-- the bytes that were taken are refused with the last of them, or the whole input is cut
abbrev pub IsRefusedInput : Option (List ℕ) → List ℕ → Refusal → Type 0
IsRefusedInput left taken refusal = (IsInputFront left taken × Refuses taken refusal) ⊎ (IsInput left taken × IsTruncated taken refusal)

-- By the end, over what the source has left before and after, and what is known of the taker once it took items, or stopped at one more. It took the items
-- that are whole in what was taken, each once and in their order. The whole input is a trace, and is consumed; or the input is refused; or a read
-- failed behind bytes that aren't; or the taker stopped at the last item of a front of the input.
abbrev pub HasReadItems :
    {Stop : Type 0} → ReadEnd Stop → (left rest : Option (List ℕ)) → (List Item → Type 0) → (List Item → Item → Stop → Type 0) → Type 0
HasReadItems Whole left rest Took StoppedAt =
    (taken : List ℕ) × (items : List Item) × IsInput left taken × Consumes left rest taken × IsRead taken items × Took items
HasReadItems (Refused refusal) left rest Took StoppedAt =
    (taken : List ℕ) × (items : List Item) × IsRefusedInput left taken refusal × AreItems taken items × Took items
HasReadItems ReadFault left rest Took StoppedAt =
    (taken : List ℕ) × (items : List Item) × Consumes left rest taken × IsUnrefused taken × AreItems taken items × Took items
HasReadItems (Stopped stop) left rest Took StoppedAt =
    (taken : List ℕ) × (items : List Item) × (next : Item) × IsInputFront left taken × AreItems taken (items ++ next ∷ []) × StoppedAt items next stop
