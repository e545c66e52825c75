-- The arguments of a callback are put one after the other, and fit.
use Rattle.std.proofs.Common.{◌≡◌, ℕ, ◌+◌, ◌<◌, ◌≤◌, List, [], ◌∷◌, ◌++◌, length, map, take, drop, get_or, sym, ap, ◌∙◌, append_assoc, length-append, arith}
use Rattle.std.proofs.lemmas.List.{append-nil, map-append, take-append-drop, take_more}
use Rattle.ompt_calls.specs.declared.argument.Argument.{Argument}
use Rattle.ompt_calls.specs.declared.argument.Argument.TheVariants as argument
use Rattle.trace_format.specs.Fields.{spell}
use Rattle.trace_format.specs.Reached.{flat}
use Rattle.trace_format.proofs.Lists.{flat-append}

-- the bytes of all of them
abbrev pub put : List Argument → List ℕ
put items = flat (map spell items)

put-append : (first second : List Argument) → put (first ++ second) ≡ put first ++ put second
put-append first second = ap (λ (fields : List (List ℕ)). flat fields) (map-append spell first second) ∙ flat-append (map spell first) (map spell second)

-- one more
pub put-more : (items : List Argument) (i : ℕ) (d : Argument) → i < length items → put (take (i + 1) items) ≡ put (take i items) ++ spell (get_or items i d)
put-more items i d below =
    ap put (take_more items i d below) ∙ put-append (take i items) (get_or items i d ∷ [])
    ∙ ap (λ (bytes : List ℕ). put (take i items) ++ bytes) (append-nil (spell (get_or items i d)))

-- each has its place in the whole
pub put-within : (items : List Argument) (i : ℕ) (d : Argument) → i < length items
    → length (put (take i items)) + length (spell (get_or items i d)) ≤ length (put items)
put-within items i d below =
    let parts : put items ≡ put (take (i + 1) items) ++ put (drop (i + 1) items) =
    sym (ap put (take-append-drop (i + 1) items)) ∙ put-append (take (i + 1) items) (drop (i + 1) items) in
    let whole : length (put items) ≡ length (put (take (i + 1) items)) + length (put (drop (i + 1) items)) =
    ap (λ (bytes : List ℕ). length bytes) parts ∙ length-append (put (take (i + 1) items)) (put (drop (i + 1) items)) in
    let front : length (put (take (i + 1) items)) ≡ length (put (take i items)) + length (spell (get_or items i d)) =
    ap (λ (bytes : List ℕ). length bytes) (put-more items i d below) ∙ length-append (put (take i items)) (spell (get_or items i d)) in
    omega (arith, whole, front)

-- a piece after one more argument
pub put-behind : (old now new : List ℕ) (items : List Argument) (i : ℕ) (d : Argument) → i < length items → now ≡ old ++ put (take i items)
    → new ≡ now ++ spell (get_or items i d) → new ≡ old ++ put (take (i + 1) items)
put-behind old now new items i d below before one =
    one ∙ ap (λ (bytes : List ℕ). bytes ++ spell (get_or items i d)) before ∙ append_assoc old (put (take i items)) (spell (get_or items i d))
    ∙ ap (λ (bytes : List ℕ). old ++ bytes) (sym (put-more items i d below))

abbrev pub no_argument : Argument
no_argument = argument.Short 0
