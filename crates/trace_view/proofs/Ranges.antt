-- Texts that are added for the numbers of a range.
use Rattle.std.proofs.Common.{ℕ, zero, suc, ◌≡◌, ◌+◌, ◌-◌, ◌<◌, ◌≤◌, List, [], ◌∷◌, ◌++◌, refl, sym, ap, ap₂, ◌∙◌, append_assoc, arith}
use Rattle.std.specs.List.{flat_map, range_with_len}
use Rattle.std.proofs.lemmas.Grind.{flat_map-append}
use Rattle.std.proofs.lemmas.List.{append-nil, map-id}
use Rattle.std.proofs.lemmas.List.FromFn.{map-range_with_len_more}

-- a range of one number more, and what is written of it
range-more : (a n j : ℕ) → a + n ≡ j → range_with_len a (n + 1) ≡ range_with_len a n ++ j ∷ []
range-more a n j is =
    sym (map-id (range_with_len a (n + 1))) ∙ (map-range_with_len_more (λ (k : ℕ). k) a n j is ∙ ap (λ (list : List ℕ). list ++ j ∷ []) (map-id (range_with_len a n)))

written-more : (f : ℕ → List ℕ) (a n j : ℕ) → a + n ≡ j → flat_map f (range_with_len a (n + 1)) ≡ flat_map f (range_with_len a n) ++ f j
written-more f a n j is =
    ap (flat_map f) (range-more a n j is) ∙ (flat_map-append f (range_with_len a n) (j ∷ [])
    ∙ ap (λ (list : List ℕ). flat_map f (range_with_len a n) ++ list) (append-nil (f j)))

-- the text of the next number was added
pub added : (f : ℕ → List ℕ) (a n j : ℕ) (old text new : List ℕ) → a + n ≡ j → text ≡ old ++ flat_map f (range_with_len a n) → new ≡ text ++ f j
    → new ≡ old ++ flat_map f (range_with_len a (n + 1))
added f a n j old text new is so_far more =
    more ∙ (ap (λ (list : List ℕ). list ++ f j) so_far ∙ (append_assoc old (flat_map f (range_with_len a n)) (f j)
    ∙ ap (λ (list : List ℕ). old ++ list) (sym (written-more f a n j is))))

-- the same where the numbers before it are counted from the first
pub added_from : (f : ℕ → List ℕ) (a j next : ℕ) (old text new : List ℕ) → a ≤ j → next ≡ j + 1 → text ≡ old ++ flat_map f (range_with_len a (j - a)) → new ≡ text ++ f j
    → new ≡ old ++ flat_map f (range_with_len a (next - a))
added_from f a j next old text new from is so_far more =
    let place : a + (j - a) ≡ j = omega arith in
    let count : (j - a) + 1 ≡ next - a = omega arith in
    added f a (j - a) j old text new place so_far more ∙ ap (λ (n : ℕ). old ++ flat_map f (range_with_len a n)) count

-- at first there is none
pub none_added : (f : ℕ → List ℕ) (a n : ℕ) (old text : List ℕ) → n ≡ 0 → text ≡ old → text ≡ old ++ flat_map f (range_with_len a n)
none_added f a n old text none same =
    same ∙ (sym (append-nil old) ∙ ap (λ (k : ℕ). old ++ flat_map f (range_with_len a k)) (sym none))

-- two that write the same for each number write the same
pub same_over : (f g : ℕ → List ℕ) (a n : ℕ) → ((k : ℕ) → k < a + n → f k ≡ g k) → flat_map f (range_with_len a n) ≡ flat_map g (range_with_len a n)
same_over f g a zero same = refl
same_over f g a (suc n) same = rw (same a (omega arith), same_over f g (a + 1) n (λ k below. same k (omega arith))) refl

pub same_for_each : (f g : ℕ → List ℕ) → ((k : ℕ) → f k ≡ g k) → (list : List ℕ) → flat_map f list ≡ flat_map g list
same_for_each f g same [] = refl
same_for_each f g same (k ∷ rest) = ap₂ (λ (a b : List ℕ). a ++ b) (same k) (same_for_each f g same rest)

-- ---- texts that are joined from the right and from the left

pub joined_six : (a b c d e f : List ℕ) → a ++ (b ++ (c ++ (d ++ (e ++ f)))) ≡ ((((a ++ b) ++ c) ++ d) ++ e) ++ f
joined_six a b c d e f = simp append_assoc

pub joined_ten : (a told c d e f g said i j colour name : List ℕ) → told ≡ colour → said ≡ name
    → a ++ (told ++ (c ++ (d ++ (e ++ (f ++ (g ++ (said ++ (i ++ j)))))))) ≡ ((((((((a ++ colour) ++ c) ++ d) ++ e) ++ f) ++ g) ++ name) ++ i) ++ j
joined_ten a told c d e f g said i j colour name of_colour of_name = rw (of_colour, of_name) (simp append_assoc)

pub joined_head : (a w s h q b c d : List ℕ) → ((a ++ (w ++ (s ++ (h ++ q)))) ++ (b ++ d)) ++ (c ++ d) ≡ ((((a ++ w) ++ (s ++ h)) ++ (q ++ b)) ++ (d ++ c)) ++ d
joined_head a w s h q b c d = simp append_assoc
