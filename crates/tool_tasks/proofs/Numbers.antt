-- The numbers of keys tell them apart.
use Rattle.std.proofs.Common.{◌≡◌, ℕ, ◌+◌, ◌*◌, ◌<◌, ◌==◌, ◌&&◌, Bool, true, false, Option, Some, None, refl, sym, ◌∙◌, ap, arith}
use Rattle.std.proofs.lemmas.Bool.{eqb-true, eq-eqb}
use Rattle.tool_tasks.specs.declared.key.Key.{Key}
use Rattle.tool_tasks.specs.declared.key.Key.TheVariants.{Next, Begun, Left, Created, Child, Ended, Wait}
use Rattle.tool_tasks.specs.Keys.{is_key, same_key}
use Rattle.tool_tasks.specs.Holding.{AreShort, IsShortKey, is_number, number_in, number_of}

-- the parts of a number
apart-high : (a b x y : ℕ) → x < 4294967296 → y < 4294967296 → a * 4294967296 + x ≡ b * 4294967296 + y → a ≡ b
apart-high a b x y small less same = omega arith

apart-low : (a b x y : ℕ) → x < 4294967296 → y < 4294967296 → a * 4294967296 + x ≡ b * 4294967296 + y → x ≡ y
apart-low a b x y small less same = omega arith

record AreSame (f g a b x y : ℕ) : Type 0 where
  family : f ≡ g
  first : a ≡ b
  second : x ≡ y

same_parts : (f g a b x y : ℕ) → a < 4294967296 → b < 4294967296 → x < 4294967296 → y < 4294967296 → number_in f a x ≡ number_in g b y → AreSame f g a b x y
same_parts f g a b x y a_short b_short x_short y_short same =
    let high : f * 4294967296 + a ≡ g * 4294967296 + b = apart-high (f * 4294967296 + a) (g * 4294967296 + b) x y x_short y_short same in
    record {
      family = apart-high f g a b a_short b_short high;
      first = apart-low f g a b a_short b_short high;
      second = apart-low (f * 4294967296 + a) (g * 4294967296 + b) x y x_short y_short same;
    }

-- of one family
test : (f a b x y : ℕ) → a < 4294967296 → b < 4294967296 → x < 4294967296 → y < 4294967296 → (number_in f b y == number_in f a x) ≡ ((a == b) && (x == y))
test f a b x y a_short b_short x_short y_short = by-tests (number_in f b y == number_in f a x) (a == b) (x == y) refl refl refl
  where
    by-tests : (n p q : Bool) → (number_in f b y == number_in f a x) ≡ n → (a == b) ≡ p → (x == y) ≡ q → n ≡ (p && q)
    by-tests true true true n_is p_is q_is = refl
    by-tests true true false n_is p_is q_is =
        let same : AreSame f f b a y x = same_parts f f b a y x b_short a_short y_short x_short (eqb-true (number_in f b y) (number_in f a x) n_is) in
        let wrong : (x == y) ≡ true = eq-eqb x y (sym same.second) in absurd (cc)
    by-tests true false q n_is p_is q_is =
        let same : AreSame f f b a y x = same_parts f f b a y x b_short a_short y_short x_short (eqb-true (number_in f b y) (number_in f a x) n_is) in
        let wrong : (a == b) ≡ true = eq-eqb a b (sym same.first) in absurd (cc)
    by-tests false true true n_is p_is q_is =
        let e : a ≡ b = eqb-true a b p_is in
        let g : x ≡ y = eqb-true x y q_is in
        let wrong : (number_in f b y == number_in f a x) ≡ true = eq-eqb (number_in f b y) (number_in f a x) (rw (e, g) refl) in absurd (cc)
    by-tests false true false n_is p_is q_is = refl
    by-tests false false q n_is p_is q_is = refl

-- of two
other_family : (f g a b x y : ℕ) → (f == g) ≡ false → a < 4294967296 → b < 4294967296 → x < 4294967296 → y < 4294967296 → (number_in g b y == number_in f a x) ≡ false
other_family f g a b x y differ a_short b_short x_short y_short = by-test (number_in g b y == number_in f a x) refl
  where
    by-test : (n : Bool) → (number_in g b y == number_in f a x) ≡ n → n ≡ false
    by-test true is =
        let same : AreSame g f b a y x = same_parts g f b a y x b_short a_short y_short x_short (eqb-true (number_in g b y) (number_in f a x) is) in
        let wrong : (f == g) ≡ true = eq-eqb f g (sym same.family) in absurd (cc)
    by-test false is = refl

-- the parts of a key
abbrev family_of : Key → ℕ
family_of (Next task count) = 0
family_of (Begun region) = 1
family_of (Left region) = 2
family_of (Created task) = 3
family_of (Child parent) = 4
family_of (Ended region) = 5
family_of (Wait region count) = 6

abbrev first_of : Key → ℕ
first_of (Next task count) = task
first_of (Begun region) = region
first_of (Left region) = region
first_of (Created task) = task
first_of (Child parent) = parent
first_of (Ended region) = region
first_of (Wait region count) = region

abbrev second_of : Key → ℕ
second_of (Next task count) = count
second_of (Wait region count) = count
second_of other = 0

parts : (key : Key) → number_of key ≡ number_in (family_of key) (first_of key) (second_of key)
parts (Next task count) = refl
parts (Begun region) = refl
parts (Left region) = refl
parts (Created task) = refl
parts (Child parent) = refl
parts (Ended region) = refl
parts (Wait region count) = refl

first_short : (key : Key) → IsShortKey key → first_of key < 4294967296
first_short (Next task count) short = short.0
first_short (Begun region) short = short
first_short (Left region) short = short
first_short (Created task) short = short
first_short (Child parent) short = short
first_short (Ended region) short = short
first_short (Wait region count) short = short.0

second_short : (key : Key) → IsShortKey key → second_of key < 4294967296
second_short (Next task count) short = short.1
second_short (Begun region) short = omega arith
second_short (Left region) short = omega arith
second_short (Created task) short = omega arith
second_short (Child parent) short = omega arith
second_short (Ended region) short = omega arith
second_short (Wait region count) short = short.1

abbrev by_parts : Key → Key → Bool
by_parts key other = (family_of key == family_of other) && ((first_of key == first_of other) && (second_of key == second_of other))

and_true : (b : Bool) → (b && true) ≡ b
and_true true = refl
and_true false = refl

same_is : (key other : Key) → same_key key other ≡ by_parts key other
same_is (Next task n) (Next other m) = refl
same_is (Begun region) (Begun other) = sym (and_true (region == other))
same_is (Left region) (Left other) = sym (and_true (region == other))
same_is (Created task) (Created other) = sym (and_true (task == other))
same_is (Child parent) (Child other) = sym (and_true (parent == other))
same_is (Ended region) (Ended other) = sym (and_true (region == other))
same_is (Wait region n) (Wait other m) = refl
same_is key other = refl

pub same_number : (key other : Key) → IsShortKey key → IsShortKey other → (number_of other == number_of key) ≡ same_key key other
same_number key other short less =
    rw (parts key, parts other, same_is key other) (by-family (family_of key == family_of other) refl)
  where
    by-family : (b : Bool) → (family_of key == family_of other) ≡ b
        → (number_in (family_of other) (first_of other) (second_of other) == number_in (family_of key) (first_of key) (second_of key))
        ≡ (b && ((first_of key == first_of other) && (second_of key == second_of other)))
    by-family true is =
        let same : family_of key ≡ family_of other = eqb-true (family_of key) (family_of other) is in
        ap (λ (f : ℕ). number_in f (first_of other) (second_of other) == number_in (family_of key) (first_of key) (second_of key)) (sym same)
        ∙ test (family_of key) (first_of key) (first_of other) (second_of key) (second_of other) (first_short key short) (first_short other less) (second_short key short) (second_short other less)
    by-family false is =
        other_family (family_of key) (family_of other) (first_of key) (first_of other) (second_of key) (second_of other) is
        (first_short key short) (first_short other less) (second_short key short) (second_short other less)

pub is_number_is : (key : Key) (other : Option Key) → IsShortKey key → AreShort other → is_number (number_of key) other ≡ is_key key other
is_number_is key None short less = refl
is_number_is key (Some other) short less = same_number key other short less
