-- Lists of which one element is changed, and lists that are made of others.
use Rattle.std.proofs.Common.{◌≡◌, ℕ, zero, suc, ◌+◌, ◌<◌, ◌≤◌, ◌&&◌, ◌||◌, Bool, true, false, cond, List, [], ◌∷◌, ◌++◌, length, map, get_or, set, replicate, All, count_by, sum_by, flat_map, refl, sym, ap, ap₂, ◌∙◌, arith}
use Rattle.std.specs.List.{list_all, list_any}
use Rattle.std.proofs.lemmas.Bool.{false≢true}
use Rattle.std.proofs.lemmas.List.{length-append}
use Rattle.std.proofs.lemmas.List.Concat.{length-flat_map}
use Rattle.std.proofs.lemmas.List.Elements.{All-head, All-tail}
use Rattle.std.proofs.lemmas.List.Sums.{get_or-le-sum_by, sum_by-append, sum_by-cons, sum_by-set, sum_by_push}

-- what is so of the new element, and of the one that stood there, is so of the one that stands there
pub read-either : {X : Type 0} (P : X → Type 0) (xs : List X) (i j : ℕ) (a d : X) → P a → P (get_or xs j d) → P (get_or (set xs i a) j d)
read-either P [] i j a d new old = old
read-either P (x ∷ xs) zero zero a d new old = new
read-either P (x ∷ xs) zero (suc j) a d new old = old
read-either P (x ∷ xs) (suc i) zero a d new old = old
read-either P (x ∷ xs) (suc i) (suc j) a d new old = read-either P xs i j a d new old

-- a function that is the same of both
pub read-alike : {X Y : Type 0} (f : X → Y) (xs : List X) (i j : ℕ) (a d : X) → f a ≡ f (get_or xs i d) → f (get_or (set xs i a) j d) ≡ f (get_or xs j d)
read-alike f [] i j a d same = refl
read-alike f (x ∷ xs) zero zero a d same = same
read-alike f (x ∷ xs) zero (suc j) a d same = refl
read-alike f (x ∷ xs) (suc i) zero a d same = refl
read-alike f (x ∷ xs) (suc i) (suc j) a d same = read-alike f xs i j a d same

pub same-map : {X Y : Type 0} (f : X → Y) (xs : List X) (i : ℕ) (a d : X) → f a ≡ f (get_or xs i d) → map f (set xs i a) ≡ map f xs
same-map f [] i a d same = refl
same-map f (x ∷ xs) zero a d same = ap (λ y. y ∷ map f xs) same
same-map f (x ∷ xs) (suc i) a d same = ap (λ ys. f x ∷ ys) (same-map f xs i a d same)

pub same-flat : {X Y : Type 0} (f : X → List Y) (xs : List X) (i : ℕ) (a d : X) → f a ≡ f (get_or xs i d) → flat_map f (set xs i a) ≡ flat_map f xs
same-flat f [] i a d same = refl
same-flat f (x ∷ xs) zero a d same = ap (λ ys. ys ++ flat_map f xs) same
same-flat f (x ∷ xs) (suc i) a d same = ap (λ ys. f x ++ ys) (same-flat f xs i a d same)

-- an element of which there is no less is there where the old one was
pub grows : {X : Type 0} (xss : List (List X)) (i j : ℕ) (a : List X) → length (get_or xss i []) ≤ length a → length (get_or xss j []) ≤ length (get_or (set xss i a) j [])
grows [] i j a more = omega arith
grows (x ∷ xss) zero zero a more = more
grows (x ∷ xss) zero (suc j) a more = omega arith
grows (x ∷ xss) (suc i) zero a more = omega arith
grows (x ∷ xss) (suc i) (suc j) a more = grows xss i j a more

pub read-map : {X Y : Type 0} (f : X → Y) (xs : List X) (i : ℕ) (d : X) → get_or (map f xs) i (f d) ≡ f (get_or xs i d)
read-map f [] i d = refl
read-map f (x ∷ xs) zero d = refl
read-map f (x ∷ xs) (suc i) d = read-map f xs i d

pub any-map : {X Y : Type 0} (p : X → Bool) (f : Y → X) (ys : List Y) → list_any p (map f ys) ≡ list_any (λ y. p (f y)) ys
any-map p f [] = refl
any-map p f (y ∷ ys) = ap (λ rest. p (f y) || rest) (any-map p f ys)

-- two tests that answer the same of each element
pub all-alike : {X : Type 0} (p q : X → Bool) (xs : List X) → All (λ x. p x ≡ q x) xs → list_all p xs ≡ list_all q xs
all-alike p q [] same = refl
all-alike p q (x ∷ xs) same =
    ap₂ (λ (a b : Bool). a && b) (All-head (λ y. p y ≡ q y) x xs same) (all-alike p q xs (All-tail (λ y. p y ≡ q y) x xs same))

pub any-alike : {X : Type 0} (p q : X → Bool) (xs : List X) → All (λ x. p x ≡ q x) xs → list_any p xs ≡ list_any q xs
any-alike p q [] same = refl
any-alike p q (x ∷ xs) same =
    ap₂ (λ (a b : Bool). a || b) (All-head (λ y. p y ≡ q y) x xs same) (any-alike p q xs (All-tail (λ y. p y ≡ q y) x xs same))

-- ---- counts

abbrev pub one : {X : Type 0} → (X → Bool) → X → ℕ
one p x = cond (p x) 1 0

pub same-count : {X : Type 0} (p q : X → Bool) (xs : List X) → All (λ x. p x ≡ q x) xs → count_by p xs ≡ count_by q xs
same-count p q [] same = refl
same-count p q (x ∷ xs) same =
    sum_by-cons (one p) x xs
    ∙ ap₂ (λ (m n : ℕ). m + n) (ap (λ b. cond b 1 0) (All-head (λ y. p y ≡ q y) x xs same)) (same-count p q xs (All-tail (λ y. p y ≡ q y) x xs same))
    ∙ sym (sum_by-cons (one q) x xs)

-- an element is changed that passes as before
pub count-kept : {X : Type 0} (p : X → Bool) (xs : List X) (i : ℕ) (a d : X) → i < length xs → p a ≡ p (get_or xs i d) → count_by p (set xs i a) ≡ count_by p xs
count-kept p xs i a d within same =
    let alike : one p a ≡ one p (get_or xs i d) = ap (λ b. cond b 1 0) same in
    let sums = sum_by-set (one p) xs i a d within in
    omega (arith, sums, alike)

-- some element passes
pub count-some : {X : Type 0} (p : X → Bool) (xs : List X) (i : ℕ) (d : X) → i < length xs → p (get_or xs i d) ≡ true → 1 ≤ count_by p xs
count-some p xs i d within passes =
    let counts : one p (get_or xs i d) ≡ 1 = ap (λ b. cond b 1 0) passes in
    omega (arith, get_or-le-sum_by (one p) xs i d within, counts)

pub one-le : (p q : Bool) → (p ≡ true → q ≡ true) → cond p 1 0 ≤ cond q 1 0
one-le true true so = omega arith
one-le true false so = absurd (false≢true (so refl))
one-le false q so = omega arith

-- ---- sums over lists that are joined

sum-flat : {X A : Type 0} (g : X → ℕ) (f : A → List X) (xs : List A) → sum_by g (flat_map f xs) ≡ sum_by (λ a. sum_by g (f a)) xs
sum-flat g f [] = refl
sum-flat g f (x ∷ xs) =
    sum_by-append g (f x) (flat_map f xs) ∙ ap (λ n. sum_by g (f x) + n) (sum-flat g f xs) ∙ sym (sum_by-cons (λ a. sum_by g (f a)) x xs)

-- one more is there
pub record IsMore (chunks more : List (ℕ × ℕ)) (chunk : ℕ × ℕ) : Type 0 where
  pub long : length more ≡ length chunks + 1
  pub sums : (g : ℕ × ℕ → ℕ) → sum_by g more ≡ sum_by g chunks + g chunk

pub more-flat : {A : Type 0} (f : A → List (ℕ × ℕ)) (xs : List A) (i : ℕ) (a d : A) (chunk : ℕ × ℕ) → i < length xs → f a ≡ f (get_or xs i d) ++ chunk ∷ [] → IsMore (flat_map f xs) (flat_map f (set xs i a)) chunk
more-flat f xs i a d chunk within same =
    record {
      long =
          let one_more : length (f a) ≡ length (f (get_or xs i d)) + 1 = ap (λ (ys : List (ℕ × ℕ)). length ys) same ∙ length-append (f (get_or xs i d)) (chunk ∷ []) in
          let sums = sum_by-set (λ x. length (f x)) xs i a d within in
          omega (arith, one_more, sums, length-flat_map f xs, length-flat_map f (set xs i a));
      sums = λ g.
          let one_more : sum_by g (f a) ≡ sum_by g (f (get_or xs i d)) + g chunk =
          ap (λ (ys : List (ℕ × ℕ)). sum_by g ys) same ∙ sum_by_push g (f (get_or xs i d)) chunk in
          let sums = sum_by-set (λ x. sum_by g (f x)) xs i a d within in
          omega (arith, one_more, sums, sum-flat g f xs, sum-flat g f (set xs i a));
    }

-- nothing is there
pub none-map : {X : Type 0} (f : X → ℕ) (xs : List X) → All (λ x. f x ≡ 0) xs → map f xs ≡ replicate (length xs) 0
none-map f [] none = refl
none-map f (x ∷ xs) none = ap₂ (λ (n : ℕ) (ns : List ℕ). n ∷ ns) (All-head (λ y. f y ≡ 0) x xs none) (none-map f xs (All-tail (λ y. f y ≡ 0) x xs none))

pub none-flat : {X Y : Type 0} (f : X → List Y) (xs : List X) → All (λ x. f x ≡ []) xs → flat_map f xs ≡ []
none-flat f [] none = refl
none-flat f (x ∷ xs) none = ap₂ (λ ys zs. ys ++ zs) (All-head (λ y. f y ≡ []) x xs none) (none-flat f xs (All-tail (λ y. f y ≡ []) x xs none))

-- ---- lists of one element

pub map-replicate : {X Y : Type 0} (f : X → Y) (n : ℕ) (x : X) → replicate n (f x) ≡ map f (replicate n x)
map-replicate f zero x = refl
map-replicate f (suc n) x = ap (λ ys. f x ∷ ys) (map-replicate f n x)

pub at-replicate : {X : Type 0} (P : X → Type 0) (n k : ℕ) (x : X) → P x → P (get_or (replicate n x) k x)
at-replicate P zero k x holds = holds
at-replicate P (suc n) zero x holds = holds
at-replicate P (suc n) (suc k) x holds = at-replicate P n k x holds
