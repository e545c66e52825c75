-- Of passes of all threads one has seen all holds.
use Rattle.std.proofs.Common.{◌≡◌, ℕ, ◌+◌, ◌-◌, ◌<◌, List, [], ◌∷◌, ◌++◌, length, get_or, sym, refl, ap, ◌∙◌, append-nil, length-append, arith}
use Rattle.std.proofs.lemmas.List.{get_or-append-add}
use Rattle.step_book.specs.declared.hold.Hold.{Hold}
use Rattle.step_book.specs.Rule.{AllBelow, NoneBy, IsBeginning}
use Rattle.step_book.specs.Steps.{hold_by}

-- a pass of the last hold's thread has seen all
nothing-beyond : (seen rest all : List Hold) (d : Hold) → all ≡ seen ++ rest → NoneBy (get_or all (length all - 1) d).thread rest → seen ≡ all
nothing-beyond seen [] all d whole others = sym (append-nil seen) ∙ sym whole
nothing-beyond seen (hold ∷ holds) all d whole others =
    let rest = hold ∷ holds in
    let long : length all ≡ length seen + length rest = ap (λ (hs : List Hold). length hs) whole ∙ length-append seen rest in
    let n = length rest - 1 in
    let place : length all - 1 ≡ length seen + n = omega arith in
    let there = ap (λ (i : ℕ). get_or all i d) place ∙ ap (λ (hs : List Hold). get_or hs (length seen + n) d) whole in
    let last : get_or all (length all - 1) d ≡ get_or rest n d = there ∙ get_or-append-add seen rest n d in
    absurd (others n d (omega arith) (ap (λ (h : Hold). h.thread) (sym last)))

no_length : (holds : List Hold) → length holds ≡ 0 → holds ≡ []
no_length [] none = refl
no_length (hold ∷ holds) none = absurd (omega arith)

-- where the passes of all threads begin the list of all holds, and beyond each no hold is of its thread, one has seen all
pub longest : (made : ℕ) (seen : ℕ → List Hold) (all : List Hold) → 0 < made → AllBelow made all → ((k : ℕ) → k < made → IsBeginning k (seen k) all) → (k : ℕ) × (k < made) × (seen k ≡ all)
longest made seen [] some below begins =
    let b = begins 0 some in
    let none : length (seen 0) ≡ 0 = omega (arith, ap (λ (hs : List Hold). length hs) b.whole, length-append (seen 0) b.rest) in
    (0, some, no_length (seen 0) none)
longest made seen (hold ∷ holds) some below begins =
    let all = hold ∷ holds in
    let d = hold_by 0 [] in
    let k = (get_or all (length all - 1) d).thread in
    let less : k < made = below (length all - 1) d (omega arith) in
    let b = begins k less in
    (k, less, nothing-beyond (seen k) b.rest all d b.whole b.others)
