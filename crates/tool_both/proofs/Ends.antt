-- The ends of one of two tools.
use Rattle.std.proofs.Common.{◌≡◌, ℕ, ◌≤◌, ◌++◌, suc, Bool, true, false, List, [], ◌∷◌, length, take, All, refl, sym, ◌∙◌, arith, length-append}
use Rattle.std.specs.List.{filter}
use Rattle.std.proofs.lemmas.List.{take-append-le, map-append}
use Rattle.std.proofs.Math.Seq.{take-length}
use Rattle.std.proofs.lemmas.List.Elements.{All-tail}
use Rattle.ompt_calls.specs.Item.{Item}
use Rattle.tool_api.specs.Record.{Record, Start, told, one_unheard, finalized}
use Rattle.tool_both.specs.Joined.{hears, counts_at, FinishedAs}

-- the record after one more end, where the tool is active by its answer
abbrev pub finalized_by : ℕ → Record → Record
finalized_by Prim.Native.Nat.zero h = h
finalized_by (suc answer) h = finalized h

-- a first element
first-of : (P : ℕ → Type 0) (x : ℕ) (xs : List ℕ) → All P (x ∷ xs) → P x
first-of P x xs all = all 0 0 (omega (arith))

-- calls that come later change no count
counts-more : (mask : ℕ) (items more : List Item) (ends : List ℕ) → All (λ (c : ℕ). c ≤ length items) ends → counts_at mask (items ++ more) ends ≡ counts_at mask items ends
counts-more mask items more [] inside = refl
counts-more mask items more (c ∷ ends) inside =
    let front = take-append-le c items more (first-of (λ (c : ℕ). c ≤ length items) c ends inside) in
    let others = counts-more mask items more ends (All-tail (λ (c : ℕ). c ≤ length items) c ends inside) in
    rw (front, others) refl

-- starts and calls without memory change nothing
pub finished-beside : (answer mask : ℕ) (whole : Bool) (h : Record) (finished : List ℕ) (started : List Start) (unheard : ℕ) → FinishedAs answer mask whole h finished
    → FinishedAs answer mask whole (record h { started = started; unheard = unheard }) finished
finished-beside Prim.Native.Nat.zero mask whole h finished started unheard is = is
finished-beside (suc answer) mask whole h finished started unheard is = is

-- where the record isn't whole any more, less is said
pub finished-broken : (answer mask : ℕ) (whole : Bool) (h : Record) (finished : List ℕ) → FinishedAs answer mask whole h finished → FinishedAs answer mask false (one_unheard h) finished
finished-broken Prim.Native.Nat.zero mask whole h finished is = is
finished-broken (suc answer) mask whole h finished is = (is.0, λ (wrong : false ≡ true). absurd (let no : ⊥ = cc in no))

-- one call more
pub finished-told : (answer mask : ℕ) (whole : Bool) (h : Record) (item : Item) (finished : List ℕ) → All (λ (c : ℕ). c ≤ length h.calls) h.finished
    → FinishedAs answer mask whole h finished → FinishedAs answer mask whole (told h item) finished
finished-told Prim.Native.Nat.zero mask whole h item finished inside is = is
finished-told (suc answer) mask whole h item finished inside is =
    (is.0, λ (kept : whole ≡ true). is.1 kept ∙ sym (counts-more mask h.calls (item ∷ []) h.finished inside))

-- one end more
pub finished-ended : (answer mask : ℕ) (whole : Bool) (h tool : Record) → (whole ≡ true → length tool.calls ≡ length (filter (hears mask) h.calls))
    → FinishedAs answer mask whole h tool.finished → FinishedAs answer mask whole (finalized h) (finalized_by answer tool).finished
finished-ended Prim.Native.Nat.zero mask whole h tool counts is = is
finished-ended (suc answer) mask whole h tool counts is = (lengths, λ (kept : whole ≡ true). ends kept)
  where
    lengths : length (tool.finished ++ length tool.calls ∷ []) ≡ length (h.finished ++ length h.calls ∷ [])
    lengths = simp length-append (omega (arith, is.0))

    all : take (length h.calls) h.calls ≡ h.calls
    all = take-length h.calls

    ends : whole ≡ true → tool.finished ++ length tool.calls ∷ [] ≡ counts_at mask h.calls (h.finished ++ length h.calls ∷ [])
    ends kept =
        rw (map-append (λ (c : ℕ). length (filter (hears mask) (take c h.calls))) h.finished (length h.calls ∷ []), all, is.1 kept, counts kept) refl
