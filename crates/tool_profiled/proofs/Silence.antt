-- Where neither of two tools stores anything, nothing is stored.
use Rattle.std.proofs.Common.{◌≡◌, ℕ, suc, ◌++◌, Bool, true, false, List, [], ◌∷◌, refl, subst, arith}
use Rattle.std.proofs.lemmas.List.Elements.{All-cons, All-nil}
use Rattle.ompt_calls.specs.Item.{Item}
use Rattle.ompt_calls.specs.Snapshot.{Stored}
use Rattle.tool_api.specs.Record.{StoresNothing}
use Rattle.tool_both.specs.Joined.{IsHeard, IsSplit, StoresOf, hears, own}

-- its calls one by one
abbrev IsSilent : Item → Type 0
IsSilent item = item.stores ≡ []

-- a front of calls that stored nothing
silent-front : (calls more : List Item) → StoresNothing (calls ++ more) → StoresNothing calls
silent-front [] more silent = All-nil IsSilent
silent-front (item ∷ calls) more silent =
    All-cons IsSilent item calls (silent 0 item (omega arith)) (silent-front calls more (λ k d below. silent (suc k) d (omega (arith, below))))

-- a tool that stored nothing in its calls stored nothing in this one, if it was called, nor in the others
record Silent (s : List Stored) (rest : List Item) : Type 0 where
  none : s ≡ []
  others : StoresNothing rest

silent-own : (heard : Bool) (item : Item) (s : List Stored) (rest : List Item) → StoresNothing (own heard item s ++ rest) → StoresOf heard s → Silent s rest
silent-own true item s rest silent of = record { none = silent 0 item (omega arith); others = λ k d below. silent (suc k) d (omega (arith, below)) }
silent-own false item s rest silent of = record { none = of; others = silent }

silent-split : (m n : ℕ) (items first second : List Item) → IsSplit m n items first second → StoresNothing first → StoresNothing second → StoresNothing items
silent-split m n [] first second split silent_first silent_second = All-nil IsSilent
silent-split m n (item ∷ rest) first second split silent_first silent_second =
    let one = silent-own (hears m item) item split.0 split.2 (subst StoresNothing split.4 silent_first) split.6 in
    let other = silent-own (hears n item) item split.1 split.3 (subst StoresNothing split.5 silent_second) split.7 in
    All-cons IsSilent item rest (rw (split.8, one.none, other.none) refl) (silent-split m n rest split.2 split.3 split.9 one.others other.others)

-- whether the first heard of one more or not
pub silent-heard : (whole : Bool) (m n : ℕ) (items first second : List Item) → IsHeard whole m n items first second → StoresNothing first → StoresNothing second → StoresNothing items
silent-heard true m n items first second heard silent_first silent_second = silent-split m n items first second heard silent_first silent_second
silent-heard false m n items first second heard silent_first silent_second =
    silent-split m n items heard.0 second heard.3 (silent-front heard.0 (heard.1 ∷ []) (subst StoresNothing heard.2 silent_first)) silent_second
