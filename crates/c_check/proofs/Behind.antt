-- The children from a place on: the one at the place, and those behind it.
use Rattle.std.proofs.Common.{◌≡◌, ℕ, zero, suc, ◌+◌, List, Option, Some, None, true, false, refl, sym, ap, ◌∙◌, ◌<◌, add-one, arith}
use Rattle.std.specs.Prelude.{Result, Ok, Err, OnErr}
use Rattle.std.specs.Option.{option_map, is_some}
use Rattle.c_syntax.specs.language.Tree.{Tree, Children, at_place, kind_of, nothing}
use Rattle.c_syntax.specs.language.Tree.Children.{Over, Child, Absent}
use Rattle.c_syntax.specs.language.Numbered.{tree_at}
use Rattle.c_check.specs.NameLists.{child_count}
use Rattle.c_check.specs.Statements.{is_head, statement_of}
use Rattle.c_check.specs.Tasks.{from_place}

behind_this : (children : Children) (place : ℕ) (tree : Tree) → Some tree ≡ at_place children place → from_place place children ≡ Child tree (from_place (suc place) children)
unfolding from_place
behind_this Over place tree at = absurd (cc)
behind_this (Absent rest) zero tree at = absurd (cc)
behind_this (Child first rest) zero tree at = ap (λ (one : Tree). Child one rest) (cc)
behind_this (Absent rest) (suc place) tree at = behind_this rest place tree at
behind_this (Child first rest) (suc place) tree at = behind_this rest place tree at

-- a child at a place stands before those from the next place on
pub behind_child : (children : Children) (place next : ℕ) (tree : Tree) → Some tree ≡ at_place children place → next ≡ place + 1 → from_place place children ≡ Child tree (from_place next children)
behind_child children place next tree at after = rw (after, add-one) (behind_this children place tree at)

-- what holds where nothing is left, holds from a place on where no child stands
pub behind_none : {X : Type 0} (f : Children → X) (x : X) → f Over ≡ x → ((rest : Children) → f (Absent rest) ≡ x) → (children : Children) (place : ℕ) → None ≡ at_place children place → f (from_place place children) ≡ x
unfolding from_place
behind_none f x over absent Over zero at = over
behind_none f x over absent Over (suc place) at = over
behind_none f x over absent (Absent rest) zero at = absent rest
behind_none f x over absent (Child tree rest) zero at = absurd (cc)
behind_none f x over absent (Absent rest) (suc place) at = behind_none f x over absent rest place at
behind_none f x over absent (Child tree rest) (suc place) at = behind_none f x over absent rest place at

module _ (trees : List Tree) (children : Children) (place : ℕ) where
  -- a child counts, where one is found
  pub count_child : (next : ℕ) (found : Option ℕ) → option_map (tree_at trees) found ≡ at_place children place → is_some found ≡ true → next ≡ place + 1 → child_count (from_place place children) ≡ child_count (from_place next children) + 1
  unfolding child_count
  count_child next None at some after = absurd (cc)
  count_child next (Some child) at some after = ap child_count (behind_child children place next (tree_at trees child) at after)

  pub count_none : (found : Option ℕ) → option_map (tree_at trees) found ≡ at_place children place → is_some found ≡ false → child_count (from_place place children) ≡ 0
  unfolding child_count
  count_none None at none = behind_none child_count 0 refl (λ rest. refl) children place at
  count_none (Some child) at none = absurd (cc)

  pub count_found : (next child : ℕ) → Some (tree_at trees child) ≡ at_place children place → next ≡ place + 1 → child_count (from_place next children) < child_count (from_place place children)
  unfolding child_count
  count_found next child at after = omega (arith, ap child_count (behind_child children place next (tree_at trees child) at after))

  pub count_here : (next child : ℕ) → Some (tree_at trees child) ≡ at_place children place → next ≡ place + 1 → child_count (from_place place children) ≡ child_count (from_place next children) + 1
  unfolding child_count
  count_here next child at after = ap child_count (behind_child children place next (tree_at trees child) at after)

  -- the statement of a construct is the first child that isn't a head
  pub statement_none : None ≡ at_place children place → statement_of (from_place place children) ≡ nothing
  unfolding statement_of
  statement_none at = behind_none statement_of nothing refl (λ rest. refl) children place at

  pub statement_here : (child : ℕ) → Some (tree_at trees child) ≡ at_place children place → is_head (kind_of (tree_at trees child)) ≡ false → statement_of (from_place place children) ≡ tree_at trees child
  unfolding statement_of
  statement_here child at head = ap statement_of (behind_child children place (place + 1) (tree_at trees child) at refl) ∙ rw head refl

  pub statement_behind : (next child : ℕ) → Some (tree_at trees child) ≡ at_place children place → next ≡ place + 1 → is_head (kind_of (tree_at trees child)) ≡ true → statement_of (from_place next children) ≡ statement_of (from_place place children)
  unfolding statement_of
  statement_behind next child at after head = sym (ap statement_of (behind_child children place next (tree_at trees child) at after) ∙ rw head refl)

-- what holds anyway holds at an error
pub on_err : {T E P : Type 0} (result : Result T E) → P → OnErr result P
on_err (Ok value) holds = tt
on_err (Err error) holds = holds
