-- Numbers and the bytes that spell them: each is told by the other.
use Rattle.std.proofs.Common.{ℕ, zero, suc, ◌≡◌, ◌<◌, ◌≤◌, ◌+◌, ◌*◌, ◌^◌, List, [], ◌∷◌, ◌++◌, length, drop, take, refl, sym, ap, ◌∙◌, arith}
use Rattle.std.proofs.Math.Nat.{mod-lt, mul-le-mul_right}
use Rattle.std.proofs.lemmas.List.{append-nil}
use Rattle.std.specs.Int.{byte_at, bytes_high_first}
use Rattle.byteorder.specs.Endian.{big_bytes, big_from, big_number}
use Rattle.byteorder.specs.Numbers.{big_from-append, big_from-cons, big_from-lt, big_number-reads_back, length-bytes_high_first}
use Rattle.trace_format.specs.Reached.{IsBytes}

-- a byte of a number is one
byte_small : (n x : ℕ) → byte_at n x < 256
byte_small zero x = mod-lt x (omega arith)
byte_small (suc n) x = mod-lt _ (omega arith)

pub nil_bytes : IsBytes []
nil_bytes i = omega arith

pub cons_bytes : (b : ℕ) (bs : List ℕ) → b < 256 → IsBytes bs → IsBytes (b ∷ bs)
cons_bytes b bs small rest zero = small
cons_bytes b bs small rest (suc i) = rest i

pub append_bytes : (a b : List ℕ) → IsBytes a → IsBytes b → IsBytes (a ++ b)
append_bytes [] b of_a of_b = of_b
append_bytes (x ∷ a) b of_a of_b = cons_bytes x (a ++ b) (of_a 0) (append_bytes a b (λ i. of_a (suc i)) of_b)

pub spelt_bytes : (n x : ℕ) → IsBytes (big_bytes n x)
spelt_bytes zero x = nil_bytes
spelt_bytes (suc n) x = cons_bytes (byte_at n x) (bytes_high_first n x) (byte_small n x) (spelt_bytes n x)

-- what was spelled is read again
pub reads : (n x : ℕ) → x < 256 ^ n → big_number n (big_bytes n x) ≡ x
reads n x small = ap (big_number n) (sym (append-nil (big_bytes n x))) ∙ big_number-reads_back n x [] small

pub reads_front : (n x : ℕ) (rest : List ℕ) → x < 256 ^ n → big_number n (big_bytes n x ++ rest) ≡ x
reads_front n x rest small = big_number-reads_back n x rest small

-- A greater quotient has the greater number.
lower : (a b r s power : ℕ) → r < power → s < power → a * power + r ≡ b * power + s → a < b → ⊥
lower a b r s power r_small s_small same less =
    let more : (a + 1) * power ≤ b * power = mul-le-mul_right power (omega arith) in
    omega arith

-- a quotient and a remainder are told by the number
apart : (a b r s power : ℕ) → r < power → s < power → a * power + r ≡ b * power + s → a ≡ b
apart a b r s power r_small s_small same =
    let not_less = lower a b r s power r_small s_small same in
    let not_more = lower b a s r power s_small r_small (sym same) in
    omega (arith, not_less, not_more)

-- bytes that read as the same number are the same
pub same_bytes : (n : ℕ) (xs ys : List ℕ) → length xs ≡ n → length ys ≡ n → IsBytes xs → IsBytes ys → big_number n xs ≡ big_number n ys → xs ≡ ys
same_bytes zero [] [] xs_long ys_long of_xs of_ys same = refl
same_bytes zero [] (y ∷ ys) xs_long ys_long of_xs of_ys same = absurd (omega arith)
same_bytes zero (x ∷ xs) ys xs_long ys_long of_xs of_ys same = absurd (omega arith)
same_bytes (suc n) [] ys xs_long ys_long of_xs of_ys same = absurd (omega arith)
same_bytes (suc n) (x ∷ xs) [] xs_long ys_long of_xs of_ys same = absurd (omega arith)
same_bytes (suc n) (x ∷ xs) (y ∷ ys) xs_long ys_long of_xs of_ys same =
    let of_rest_x : IsBytes xs = λ i. of_xs (suc i) in
    let of_rest_y : IsBytes ys = λ i. of_ys (suc i) in
    let ex = big_from-cons 0 n x xs in
    let ey = big_from-cons 0 n y ys in
    let both : x * 256 ^ n + big_from 0 n xs ≡ y * 256 ^ n + big_from 0 n ys =
    ap (λ (r : ℕ). x * 256 ^ n + r) (sym ex) ∙ same ∙ ap (λ (r : ℕ). y * 256 ^ n + r) ey in
    let first : x ≡ y = apart x y (big_from 0 n xs) (big_from 0 n ys) (256 ^ n) (big_from-lt 0 n xs of_rest_x) (big_from-lt 0 n ys of_rest_y) both in
    let times : x * 256 ^ n ≡ y * 256 ^ n = ap (λ (a : ℕ). a * 256 ^ n) first in
    let rest : big_from 0 n xs ≡ big_from 0 n ys = omega arith in
    ap (λ (a : ℕ). a ∷ xs) first ∙ ap (λ (l : List ℕ). y ∷ l) (same_bytes n xs ys (omega arith) (omega arith) of_rest_x of_rest_y rest)

pub number_small : (n : ℕ) (bs : List ℕ) → IsBytes bs → big_number n bs < 256 ^ n
number_small n bs of_bs = big_from-lt 0 n bs of_bs

pub length_spelt : (n x : ℕ) → length (big_bytes n x) ≡ n
length_spelt n x = length-bytes_high_first n x

-- what was read is spelled again
pub spells : (n : ℕ) (bs : List ℕ) → length bs ≡ n → IsBytes bs → big_bytes n (big_number n bs) ≡ bs
spells n bs long of_bs =
    same_bytes n (big_bytes n (big_number n bs)) bs (length_spelt n (big_number n bs)) long (spelt_bytes n (big_number n bs)) of_bs
    (reads n (big_number n bs) (number_small n bs of_bs))

-- only the first bytes are read
pub reads_first : (n : ℕ) (xs ys : List ℕ) → n ≤ length xs → big_number n (xs ++ ys) ≡ big_number n xs
reads_first n xs ys long = big_from-append n xs ys long

-- bytes at a front and behind it
pub take_bytes : (n : ℕ) (bs : List ℕ) → IsBytes bs → IsBytes (take n bs)
take_bytes zero bs of_bs = nil_bytes
take_bytes (suc n) [] of_bs = nil_bytes
take_bytes (suc n) (b ∷ bs) of_bs = cons_bytes b (take n bs) (of_bs 0) (take_bytes n bs (λ i. of_bs (suc i)))

pub drop_bytes : (n : ℕ) (bs : List ℕ) → IsBytes bs → IsBytes (drop n bs)
drop_bytes zero bs of_bs = of_bs
drop_bytes (suc n) [] of_bs = nil_bytes
drop_bytes (suc n) (b ∷ bs) of_bs = drop_bytes n bs (λ i. of_bs (suc i))

-- what stands at a place behind a field
pub drop_field : (n m : ℕ) (a rest : List ℕ) → length a ≡ n → drop (n + m) (a ++ rest) ≡ drop m rest
drop_field zero m [] rest long = ap (λ (k : ℕ). drop k rest) (omega arith)
drop_field zero m (x ∷ a) rest long = absurd (omega arith)
drop_field (suc n) m [] rest long = absurd (omega arith)
drop_field (suc n) m (x ∷ a) rest long =
    let place : suc n + m ≡ suc (n + m) = omega arith in
    ap (λ (k : ℕ). drop k (x ∷ (a ++ rest))) place ∙ drop_field n m a rest (omega arith)
