-- Bytes that a reader takes one after the other: those of a piece's front, and then some of the rest.
use Rattle.std.proofs.Common.{ℕ, ◌≡◌, ◌<◌, ◌≤◌, ◌+◌, ◌-◌, List, [], ◌++◌, length, take, drop, Result, Ok, Err, ap, sym, ◌∙◌, subst, append_assoc, length-drop, arith}
use Rattle.std.proofs.lemmas.List.{append-nil, take_rest}
use Rattle.std.proofs.Math.Seq.{take-add}
use Rattle.trace_format.specs.declared.item.Item.{Item}
use Rattle.trace_format.specs.declared.item.Item.TheVariants as item
use Rattle.std.specs.Result.{IfErr}
use Rattle.trace_format.specs.declared.refusal.Refusal.{Refusal}
use Rattle.trace_format.specs.Items.{given}
use Rattle.trace_format.specs.Taking.{HasTaken, Reading}

-- what is left of a piece
pub rest_length : (piece : List ℕ) (used : ℕ) → length (take (length piece - used) (drop used piece)) ≡ length piece - used
rest_length piece used = ap (λ (xs : List ℕ). length xs) (take_rest piece used) ∙ length-drop used piece

pub joined : (piece : List ℕ) (used more : ℕ) → take used piece ++ take more (take (length piece - used) (drop used piece)) ≡ take (used + more) piece
joined piece used more = ap (λ (xs : List ℕ). take used piece ++ take more xs) (take_rest piece used) ∙ sym (take-add used more piece)

pub some_left : (piece : List ℕ) (used : ℕ) → used < length piece → 0 < length (take (length piece - used) (drop used piece))
some_left piece used l =
    let e : length (take (length piece - used) (drop used piece)) ≡ length piece - used = rest_length piece used in
    omega (arith, e, l)

pub still_within : (piece : List ℕ) (used more : ℕ) → used ≤ length piece → more ≤ length (take (length piece - used) (drop used piece)) → used + more ≤ length piece
still_within piece used more l m =
    let e : length (take (length piece - used) (drop used piece)) ≡ length piece - used = rest_length piece used in
    omega (arith, e, l, m)

pub all_used : (piece : List ℕ) (used more : ℕ) → used ≤ length piece → more ≡ length (take (length piece - used) (drop used piece)) → used + more ≡ length piece
all_used piece used more l m =
    let e : length (take (length piece - used) (drop used piece)) ≡ length piece - used = rest_length piece used in
    omega (arith, e, l, m)

-- nothing was taken of the piece
pub none_used : (reading : Reading) (bytes piece : List ℕ) (items : List Item) → HasTaken reading bytes items → HasTaken reading (bytes ++ take 0 piece) items
none_used reading bytes piece items has = rw (append-nil bytes) has

-- some of the rest was taken
pub onward :
    (reading : Reading) (bytes piece : List ℕ) (used more : ℕ) (items : List Item) → HasTaken reading ((bytes ++ take used piece) ++ take more (take (length piece - used) (drop used piece))) items → HasTaken reading (bytes ++ take (used + more) piece) items
onward reading bytes piece used more items has =
    let e : (bytes ++ take used piece) ++ take more (take (length piece - used) (drop used piece)) ≡ bytes ++ take (used + more) piece = append_assoc bytes (take used piece) (take more (take (length piece - used) (drop used piece))) ∙ ap (λ (xs : List ℕ). bytes ++ xs) (joined piece used more) in
    subst (λ (xs : List ℕ). HasTaken reading xs items) e has

-- .. and no item ended
pub onward_more :
    (reading : Reading) (bytes piece : List ℕ) (used more : ℕ) (items : List Item) (it : Item) → it ≡ item.More → HasTaken reading ((bytes ++ take used piece) ++ take more (take (length piece - used) (drop used piece))) (items ++ given it)
    → HasTaken reading (bytes ++ take (used + more) piece) items
onward_more reading bytes piece used more items it e has =
    let f : items ++ given it ≡ items = ap (λ (x : Item). items ++ given x) e ∙ append-nil items in
    onward reading bytes piece used more items (subst (λ (xs : List Item). HasTaken reading ((bytes ++ take used piece) ++ take more (take (length piece - used) (drop used piece))) xs) f has)

-- nothing more is given
pub nothing_given : (reading : Reading) (bytes : List ℕ) (items : List Item) → HasTaken reading bytes items → HasTaken reading bytes (items ++ [])
nothing_given reading bytes items has = rw (append-nil items) has

-- a refusal of the rest is one of the piece
abbrev pub RefusedIn : Reading → Reading → List ℕ → Type 0
RefusedIn old new piece = (bytes : List ℕ) (items : List Item) → HasTaken old bytes items → (used : ℕ) × (used ≤ length piece) × HasTaken new (bytes ++ take used piece) items

any_err : {A : Type 0} (r : Result A Refusal) (X : Type 0) → X → IfErr r (λ refusal. X)
any_err (Ok x) X p = tt
any_err (Err e) X p = p

pub refused_in :
    {A : Type 0} (r : Result A Refusal) (old mid new : Reading) (piece : List ℕ) (used : ℕ) → used ≤ length piece → ((bytes : List ℕ) (items : List Item) → HasTaken old bytes items → HasTaken mid (bytes ++ take used piece) items)
    → RefusedIn mid new (take (length piece - used) (drop used piece)) → IfErr r (λ refusal. RefusedIn old new piece)
refused_in r old mid new piece used within took refused =
    any_err r (RefusedIn old new piece) (λ bytes items has.
    let x = refused (bytes ++ take used piece) items (took bytes items has) in
    (used + x.0, still_within piece used x.0 within x.1, onward new bytes piece used x.0 items x.2))
