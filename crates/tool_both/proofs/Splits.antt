-- What two tools heard, with one item more.
use Rattle.std.proofs.Common.{◌≡◌, ℕ, ◌++◌, List, [], ◌∷◌, length, map, inl, inr, refl, sym, ap, ◌∙◌, append_assoc, append-nil}
use Rattle.std.specs.List.{filter}
use Rattle.std.proofs.lemmas.Bool.{cases_Bool}
use Rattle.std.proofs.lemmas.List.{length-map}
use Rattle.ompt_calls.specs.Item.{Item}
use Rattle.ompt_calls.specs.Snapshot.{Stored}
use Rattle.tool_both.specs.BothStores.{both_stores}
use Rattle.tool_both.specs.Joined.{hears, own, StoresOf, IsSplit, bare, AreOwn}

-- each tool hears of one item more, or not
pub split_more : (m n : ℕ) (items first second : List Item) (item : Item) (s t : List Stored) → IsSplit m n items first second
    → StoresOf (hears m item) s → StoresOf (hears n item) t → item.stores ≡ both_stores s t
    → IsSplit m n (items ++ item ∷ []) (first ++ own (hears m item) item s) (second ++ own (hears n item) item t)
split_more m n [] first second item s t split of_first of_second stores = (
  s,
  t,
  [],
  [],
  ap (λ (xs : List Item). xs ++ own (hears m item) item s) split.0 ∙ sym (append-nil (own (hears m item) item s)),
  ap (λ (xs : List Item). xs ++ own (hears n item) item t) split.1 ∙ sym (append-nil (own (hears n item) item t)),
  of_first,
  of_second,
  stores,
  (refl, refl),
)
split_more m n (next ∷ rest) first second item s t split of_first of_second stores =
    let new_first = own (hears m item) item s in
    let new_second = own (hears n item) item t in (
      split.0,
      split.1,
      split.2 ++ new_first,
      split.3 ++ new_second,
      ap (λ (xs : List Item). xs ++ new_first) split.4 ∙ append_assoc (own (hears m next) next split.0) split.2 new_first,
      ap (λ (xs : List Item). xs ++ new_second) split.5 ∙ append_assoc (own (hears n next) next split.1) split.3 new_second,
      split.6,
      split.7,
      split.8,
      split_more m n rest split.2 split.3 item s t split.9 of_first of_second stores,
    )

-- one tool's part of an item
own-bare : (mask : ℕ) (item : Item) (s : List Stored) (rest calls : List Item) → map bare calls ≡ map bare (filter (hears mask) rest)
    → map bare (own (hears mask item) item s ++ calls) ≡ map bare (filter (hears mask) (item ∷ rest))
own-bare mask item s rest calls same =
    elim (cases_Bool (hears mask item)) [
      | inl heard ↦ rw heard (ap (λ (xs : List Item). bare item ∷ xs) same)
      | inr unheard ↦ rw unheard same
    ]

-- each tool heard of its own
pub own_of_split : (m n : ℕ) (items first second : List Item) → IsSplit m n items first second → AreOwn m first items × AreOwn n second items
own_of_split m n [] first second split = (ap (map bare) split.0, ap (map bare) split.1)
own_of_split m n (item ∷ rest) first second split =
    let inner = own_of_split m n rest split.2 split.3 split.9 in
    (ap (map bare) split.4 ∙ own-bare m item split.0 rest split.2 inner.0, ap (map bare) split.5 ∙ own-bare n item split.1 rest split.3 inner.1)

-- as many as it hears of
pub counted : (mask : ℕ) (calls items : List Item) → AreOwn mask calls items → length calls ≡ length (filter (hears mask) items)
counted mask calls items same = simp length-map at (ap length same)
