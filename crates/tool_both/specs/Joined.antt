-- The records of two tools, and the record of the tool that they are together.
use Rattle.std.specs.Prelude.{ℕ, suc, ◌≡◌, ◌+◌, ◌≤◌, ◌==◌, ◌++◌, bit_or, Bool, true, false, List, [], ◌∷◌, All, length, map, take, ⊤, if◌then◌else◌}
use Rattle.std.specs.List.{filter}
use Rattle.ompt_calls.specs.Item.{Item}
use Rattle.ompt_calls.specs.Number.{number_of, is_registered}
use Rattle.ompt_calls.specs.Snapshot.{Stored}
use Rattle.tool_api.specs.Record.{Record, Start}
use Rattle.tool_both.specs.declared.masks.Masks.{Masks}
use Rattle.tool_both.specs.BothStores.{both_stores}

-- a tool that has registered these hears of this
abbrev pub hears : ℕ → Item → Bool
hears mask item = is_registered mask (number_of item.call)

-- what a tool heard of an item: the item with its own stores, or nothing
abbrev pub own : Bool → Item → List Stored → List Item
own heard item stores = if heard then record item { stores = stores } ∷ [] else []

-- a tool that wasn't called counts with no stores
abbrev pub StoresOf : Bool → List Stored → Type 0
StoresOf true stores = ⊤
StoresOf false stores = stores ≡ []

-- what the first tool and the second one heard of these items, each with stores of its own
abbrev pub IsSplit : ℕ → ℕ → List Item → List Item → List Item → Type 0
IsSplit m n [] first second = (first ≡ []) × (second ≡ [])
IsSplit m n (item ∷ rest) first second =
    (s t : List Stored) × (f g : List Item)
    × (first ≡ own (hears m item) item s ++ f) × (second ≡ own (hears n item) item t ++ g)
    × StoresOf (hears m item) s × StoresOf (hears n item) t
    × (item.stores ≡ both_stores s t) × IsSplit m n rest f g

-- where the record isn't whole, the first tool heard of one item more
abbrev pub IsHeard : Bool → ℕ → ℕ → List Item → List Item → List Item → Type 0
IsHeard true m n calls first second = IsSplit m n calls first second
IsHeard false m n calls first second = (front : List Item) × (more : Item) × (first ≡ front ++ more ∷ []) × IsSplit m n calls front second

-- an item without its stores
abbrev pub bare : Item → Item
bare item = record item { stores = [] }

-- what one tool heard of these items, each with stores of its own
abbrev pub AreOwn : ℕ → List Item → List Item → Type 0
AreOwn mask calls items = map bare calls ≡ map bare (filter (hears mask) items)

-- of how many calls the tool had heard after each of these many of all
abbrev pub counts_at : ℕ → List Item → List ℕ → List ℕ
counts_at mask items ends = map (λ (c : ℕ). length (filter (hears mask) (take c items))) ends

-- a tool is finished with both where it is active: then, after as many calls as it had heard; and else never
abbrev pub FinishedAs : ℕ → ℕ → Bool → Record → List ℕ → Type 0
FinishedAs Prim.Native.Nat.zero mask whole h finished = finished ≡ []
FinishedAs (suc answer) mask whole h finished = (length finished ≡ length h.finished) × (whole ≡ true → finished ≡ counts_at mask h.calls h.finished)

-- what both register together, and what they answer
abbrev pub joint_mask : Masks → ℕ
joint_mask masks = bit_or masks.first masks.second

abbrev pub joint_answer : Masks → ℕ
joint_answer masks = if masks.first_answer == 0 then (if masks.second_answer == 0 then 0 else 1) else 1

-- the start of each that stands for it
abbrev pub starts_of : Masks → List Start
starts_of masks = record { answer = masks.first_answer; mask = masks.first } ∷ record { answer = masks.second_answer; mask = masks.second } ∷ []

-- the record of both, beside the records of the first tool and of the second one
pub record Joins (masks : Masks) (whole : Bool) (first second h : Record) : Type 0 where
  pub heard : IsHeard whole masks.first masks.second h.calls first.calls second.calls
  pub started : All (λ (start : Start). (start.answer ≡ joint_answer masks) × (start.mask ≡ joint_mask masks)) h.started
  pub within : h.within ≡ starts_of masks ∷ first.started ∷ second.started ∷ []
  pub first_finished : FinishedAs masks.first_answer masks.first whole h first.finished
  pub second_finished : FinishedAs masks.second_answer masks.second whole h second.finished
  pub inside : All (λ (c : ℕ). c ≤ length h.calls) h.finished
  pub unheard : first.unheard + second.unheard ≤ h.unheard
  pub broken : whole ≡ false → 1 ≤ h.unheard

-- each tool stands for a record of its own, and these join to this one
pub record BothFor {A B : Type 0} (first_for : A → Record → Type 0) (second_for : B → Record → Type 0) (a : A) (b : B) (masks : Masks) (whole : Bool) (h : Record) : Type 0 where
  pub first : Record
  pub second : Record
  pub is_first : first_for a first
  pub is_second : second_for b second
  pub joins : Joins masks whole first second h
