-- The bytes of a piece after a number was put behind them, and after several.
use Rattle.std.proofs.Common.{ℕ, ◌≡◌, ◌≤◌, ◌+◌, List, [], ◌∷◌, ◌++◌, length, take, sym, ap, ◌∙◌, append_assoc, length-append, arith}
use Rattle.std.proofs.lemmas.List.{append-nil, length-take-le, take_at}
use borrow.Rule.Slice.PartMut.{put_mid, post_of}
use Rattle.trace_format.specs.Reached.{flat}

-- The bytes from this place on were written again, and begin with the number's.
pub put_behind :
    (held behind written later : List ℕ) (place width size : ℕ) → place ≤ length held → length behind ≡ width → written ≡ behind ++ later
    → take (place + width) (put_mid place size held written) ≡ take place held ++ behind
put_behind held behind written later place width size room wide is =
    let after : List ℕ = post_of place size held in
    let front : length (take place held ++ behind) ≡ place + width =
    omega (arith, length-append (take place held) behind, length-take-le place held room) in
    let whole : put_mid place size held written ≡ (take place held ++ behind) ++ (later ++ after) =
    ap (λ (bytes : List ℕ). take place held ++ (bytes ++ after)) is
    ∙ ap (λ (bytes : List ℕ). take place held ++ bytes) (append_assoc behind later after)
    ∙ sym (append_assoc (take place held) behind (later ++ after)) in
    ap (λ (bytes : List ℕ). take (place + width) bytes) whole ∙ take_at (take place held ++ behind) (later ++ after) (place + width) front

-- two calls put their bytes one after the other
pub put_twice : (old between new first second : List ℕ) → between ≡ old ++ first → new ≡ between ++ second → new ≡ old ++ (first ++ second)
put_twice old between new first second one two = two ∙ ap (λ (bytes : List ℕ). bytes ++ second) one ∙ append_assoc old first second

-- calls put these fields one after the other
abbrev pub Puts : List ℕ → List (List ℕ) → List ℕ → Type 0
Puts old [] new = new ≡ old
Puts old (field ∷ rest) new = (between : List ℕ) × (between ≡ old ++ field) × Puts between rest new

pub put_all : (old new : List ℕ) (fields : List (List ℕ)) → Puts old fields new → new ≡ old ++ flat fields
put_all old new [] put = put ∙ sym (append-nil old)
put_all old new (field ∷ rest) (between, one, others) = put_twice old between new field (flat rest) one (put_all between new rest others)
