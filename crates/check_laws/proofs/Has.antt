-- Lists of which an element is so.
use Rattle.std.proofs.Common.{zero, suc, ◌≡◌, ◌⊎◌, ◌+◌, List, [], ◌∷◌, ◌++◌, map, refl, sym, subst, inl, inr, arith, add-one}
use Rattle.std.specs.List.{Contains, IsAmong}

abbrev pub Has : {X : Type 0} → (X → Type 0) → List X → Type 0
Has P [] = ⊥
Has P (first ∷ rest) = P first ⊎ Has P rest

pub has-left : {X : Type 0} (P : X → Type 0) (some more : List X) → Has P some → Has P (some ++ more)
has-left P [] more has = absurd has
has-left P (first ∷ some) more (inl here) = inl here
has-left P (first ∷ some) more (inr there) = inr (has-left P some more there)

pub has-right : {X : Type 0} (P : X → Type 0) (some more : List X) → Has P more → Has P (some ++ more)
has-right P [] more has = has
has-right P (first ∷ some) more has = inr (has-right P some more has)

pub has-either : {X : Type 0} (P : X → Type 0) (some more : List X) → Has P (some ++ more) → Has P some ⊎ Has P more
has-either P [] more has = inr has
has-either P (first ∷ some) more (inl here) = inl (inl here)
has-either P (first ∷ some) more (inr there) = elim (has-either P some more there) [ inl left ↦ inl (inr left) | inr right ↦ inr right ]

pub has-weaker : {X : Type 0} (P Q : X → Type 0) → ((x : X) → P x → Q x) → (some : List X) → Has P some → Has Q some
has-weaker P Q each [] has = absurd has
has-weaker P Q each (first ∷ some) (inl here) = inl (each first here)
has-weaker P Q each (first ∷ some) (inr there) = inr (has-weaker P Q each some there)

pub has-none : {X : Type 0} (P : X → Type 0) → ((x : X) → P x → ⊥) → (some : List X) → Has P some → ⊥
has-none P none [] has = has
has-none P none (first ∷ some) (inl here) = none first here
has-none P none (first ∷ some) (inr there) = has-none P none some there

pub has-mapped : {X Y : Type 0} (f : X → Y) (P : Y → Type 0) (some : List X) → Has P (map f some) → Has (λ x. P (f x)) some
has-mapped f P [] has = absurd has
has-mapped f P (first ∷ some) (inl here) = inl here
has-mapped f P (first ∷ some) (inr there) = inr (has-mapped f P some there)

pub has-map : {X Y : Type 0} (f : X → Y) (P : Y → Type 0) (some : List X) → Has (λ x. P (f x)) some → Has P (map f some)
has-map f P [] has = absurd has
has-map f P (first ∷ some) (inl here) = inl here
has-map f P (first ∷ some) (inr there) = inr (has-map f P some there)

-- as one that the list contains
pub record IsOne {X : Type 0} (P : X → Type 0) (some : List X) : Type 0 where
  pub one : X
  pub contains : Contains some one
  pub is : P one

pub has-one : {X : Type 0} (P : X → Type 0) (some : List X) → Has P some → IsOne P some
has-one P [] has = absurd has
has-one P (first ∷ some) (inl here) = record { one = first; contains = (0, omega arith, refl); is = here }
has-one P (first ∷ some) (inr there) =
    let one = has-one P some there in
    record { one = one.one; contains = behind one.one one.contains; is = one.is }
  where
    behind : (one : _) → Contains some one → Contains (first ∷ some) one
    behind one (at, within, same) = (at + 1, omega arith, rw add-one same)

pub one-has : {X : Type 0} (P : X → Type 0) (some : List X) (one : X) → Contains some one → P one → Has P some
one-has P [] one (at, within, same) is = absurd (omega (arith, within))
one-has P (first ∷ some) one (zero, within, same) is = inl (subst P (sym same) is)
one-has P (first ∷ some) one (suc at, within, same) is = inr (one-has P some one (at, omega (arith, within), same) is)

-- whether it is so of one
pub has-or-not : {X : Type 0} (P : X → Type 0) → ((x : X) → P x ⊎ (P x → ⊥)) → (some : List X) → Has P some ⊎ (Has P some → ⊥)
has-or-not P decide [] = inr (λ has. has)
has-or-not P decide (first ∷ some) =
    elim (decide first) [
      | inl here ↦ inl (inl here)
      | inr not_here ↦ elim (has-or-not P decide some) [
        | inl there ↦ inl (inr there)
        | inr not_there ↦ inr (λ has. elim has [ inl here ↦ not_here here | inr there ↦ not_there there ])
      ]
    ]

-- among others
pub among-first : {X : Type 0} (first : X) (rest : List X) → IsAmong (first ∷ rest) first
among-first first rest = (0, (omega arith, refl))

pub among-behind : {X : Type 0} (first : X) (rest : List X) (one : X) → IsAmong rest one → IsAmong (first ∷ rest) one
among-behind first rest one (at, (within, same)) = (at + 1, (omega arith, rw add-one same))

pub among-case : {X : Type 0} (first : X) (rest : List X) (one : X) → IsAmong (first ∷ rest) one → (one ≡ first) ⊎ IsAmong rest one
among-case first rest one (zero, (within, same)) = inl same
among-case first rest one (suc at, (within, same)) = inr (at, (omega arith, same))

-- one of some, put before them
pub front-has : {X : Type 0} (one : X) (some others : List X) (P : X → Type 0) → Has P (some ++ one ∷ others) → Has P (one ∷ (some ++ others))
front-has one some others P has =
    elim (has-either P some (one ∷ others) has) [
      | inl left ↦ inr (has-left P some others left)
      | inr (inl here) ↦ inl here
      | inr (inr right) ↦ inr (has-right P some others right)
    ]

pub has-front : {X : Type 0} (one : X) (some others : List X) (P : X → Type 0) → Has P (one ∷ (some ++ others)) → Has P (some ++ one ∷ others)
has-front one some others P (inl here) = has-right P some (one ∷ others) (inl here)
has-front one some others P (inr there) =
    elim (has-either P some others there) [
      | inl left ↦ has-left P some (one ∷ others) left
      | inr right ↦ has-right P some (one ∷ others) (inr right)
    ]
