-- The declarations in scope, as they are kept.
use Rattle.std.proofs.Common.{◌≡◌, ℕ, zero, suc, ◌+◌, ◌-◌, ◌<◌, Bool, true, false, cond, List, [], ◌∷◌, ◌++◌, length, reverse, take, drop, Option, Some, None, refl, sym, ap, ◌∙◌, slice_get, nat_eq, arith}
use Rattle.std.specs.Map.{update}
use Rattle.std.proofs.lemmas.Bool.{eqb-true}
use Rattle.std.proofs.lemmas.List.{reverse-append, take_all, take_more}
use Rattle.std.proofs.lemmas.Option.{get_or_from_slice_get, same_Some, slice_get_within}
use Rattle.c_check.specs.declared.scopes.declared.Declared.{Declared}
use Rattle.c_check.specs.declared.scopes.declarations.Visible.{Visible}
use Rattle.c_check.specs.Declarations.{Declarations, scope_ended, find, still_in_scope}
use Rattle.c_check.specs.Visible.{AreVisible, Hide, Stand, declared_in, ends_first, slot_of, without_first}

-- at the start
pub none_visible : (innermost : ℕ → Option ℕ) → ((name : ℕ) → innermost name ≡ None) → AreVisible [] innermost []
unfolding Stand Hide find
none_visible innermost none = record { stand = tt; hide = tt; found = none }

-- what is found stands at its slot
stands_found : (all visible : List Declared) (name : ℕ) (found : Declared) → Stand all visible → find visible name ≡ Some found → slice_get all found.slot ≡ Some found
unfolding Stand find
stands_found all [] name found stand is = absurd cc
stands_found all (first ∷ visible) name found stand is =
    (elim (nat_eq first.name name) as (λ same. cond same (Some first) (find visible name) ≡ Some found → slice_get all found.slot ≡ Some found) [
      | true ↦ λ here. rw (same_Some first found here) at stand.0
      | false ↦ stands_found all visible name found stand.1
    ]) is

stands_with_slot : (all visible : List Declared) (name slot : ℕ) (found : Option Declared) → Stand all visible → find visible name ≡ found → Some slot ≡ slot_of found → slice_get all slot ≡ found
stands_with_slot all visible name slot None stand is same = absurd cc
stands_with_slot all visible name slot (Some found) stand is same =
    rw (same_Some slot found.slot same) (stands_found all visible name found stand is)

pub found_by_slot : (all : List Declared) (innermost : ℕ → Option ℕ) (visible : List Visible) → AreVisible all innermost visible
    → (name slot : ℕ) → Some slot ≡ innermost name → slice_get all slot ≡ find (declared_in visible) name
found_by_slot all innermost visible are name slot is =
    stands_with_slot all (declared_in visible) name slot _ are.stand refl (is ∙ are.found name)

none_with_slot : (found : Option Declared) → None ≡ slot_of found → None ≡ found
none_with_slot None is = refl
none_with_slot (Some found) is = absurd cc

pub none_found : (all : List Declared) (innermost : ℕ → Option ℕ) (visible : List Visible) → AreVisible all innermost visible
    → (name : ℕ) → None ≡ innermost name → None ≡ find (declared_in visible) name
none_found all innermost visible are name is = none_with_slot _ (is ∙ are.found name)

-- with one more declaration
stands_longer : (all more : List Declared) (slot : ℕ) (found : Declared) → slice_get all slot ≡ Some found → slice_get (all ++ more) slot ≡ Some found
stands_longer [] more slot found is = absurd cc
stands_longer (first ∷ all) more zero found is = is
stands_longer (first ∷ all) more (suc slot) found is = stands_longer all more slot found is

Stand-longer : (all more visible : List Declared) → Stand all visible → Stand (all ++ more) visible
unfolding Stand
Stand-longer all more [] stand = tt
Stand-longer all more (first ∷ visible) stand = (stands_longer all more first.slot first stand.0, Stand-longer all more visible stand.1)

stands_last : (all : List Declared) (last : Declared) (slot : ℕ) → slot ≡ length all → slice_get (all ++ last ∷ []) slot ≡ Some last
stands_last [] last slot is = rw is refl
stands_last (first ∷ all) last slot is = rw is (stands_last all last (length all) refl)

module _ (all : List Declared) (innermost : ℕ → Option ℕ) (visible : List Visible) (are : AreVisible all innermost visible) where
  pub one_more_visible : (next : Visible) (others : ℕ → Option ℕ) → next.declared.slot ≡ length all → next.hidden ≡ innermost next.declared.name
      → ((name : ℕ) → others name ≡ update nat_eq innermost next.declared.name (Some next.declared.slot) name)
      → AreVisible (all ++ next.declared ∷ []) others (next ∷ visible)
  unfolding Stand Hide find
  one_more_visible next others slot hidden same = record {
    stand = (stands_last all next.declared next.declared.slot slot, Stand-longer all (next.declared ∷ []) (declared_in visible) are.stand);
    hide = (hidden ∙ are.found next.declared.name, are.hide);
    found = λ name. same name ∙ (elim (nat_eq next.declared.name name) as (λ here. cond here (Some next.declared.slot) (innermost name) ≡ slot_of (cond here (Some next.declared) (find (declared_in visible) name))) [
      | true ↦ refl
      | false ↦ are.found name
    ]);
  }

-- with one less
module _ (all : List Declared) (innermost : ℕ → Option ℕ) (newest : Visible) (visible : List Visible) (are : AreVisible all innermost (newest ∷ visible)) where
  found_behind : (name : ℕ) (here : Bool) → nat_eq newest.declared.name name ≡ here → innermost name ≡ slot_of (cond here (Some newest.declared) (find (declared_in visible) name))
      → cond here newest.hidden (innermost name) ≡ slot_of (find (declared_in visible) name)
  unfolding Hide
  found_behind name true is found = are.hide.0 ∙ ap (λ (one : ℕ). slot_of (find (declared_in visible) one)) (eqb-true newest.declared.name name is)
  found_behind name false is found = found

  pub one_less_visible : (others : ℕ → Option ℕ) → ((name : ℕ) → others name ≡ update nat_eq innermost newest.declared.name newest.hidden name) → AreVisible all others visible
  unfolding Stand Hide find
  one_less_visible others same = record {
    stand = are.stand.1;
    hide = are.hide.1;
    found = λ name. same name ∙ found_behind name (nat_eq newest.declared.name name) refl (are.found name);
  }

pub same_visible : (all : List Declared) (innermost others : ℕ → Option ℕ) (visible : List Visible) → ((name : ℕ) → others name ≡ innermost name) → AreVisible all innermost visible → AreVisible all others visible
same_visible all innermost others visible same are = record { stand = are.stand; hide = are.hide; found = λ name. same name ∙ are.found name }

-- a scope ends declaration by declaration
outside-first : (level : ℕ) (visible : List Declared) → ends_first level visible ≡ true → still_in_scope level (drop 1 visible) ≡ still_in_scope level visible
unfolding still_in_scope
outside-first level [] ends = absurd cc
outside-first level (first ∷ visible) ends = rw ends refl

outside-none : (level : ℕ) (visible : List Declared) → ends_first level visible ≡ false → still_in_scope level visible ≡ visible
unfolding still_in_scope
outside-none level [] ends = refl
outside-none level (first ∷ visible) ends = rw ends refl

pub closed-without_first : (names : Declarations) → ends_first names.level names.visible ≡ true → scope_ended (without_first names) ≡ scope_ended names
closed-without_first names ends = ap (λ (visible : List Declared). let it : Declarations = record { visible = visible; all = names.all; level = names.level - 1 } in it) (outside-first names.level names.visible ends)

pub closed-none : (names : Declarations) → ends_first names.level names.visible ≡ false → scope_ended names ≡ record names { level = names.level - 1 }
closed-none names ends = ap (λ (visible : List Declared). let it : Declarations = record { visible = visible; all = names.all; level = names.level - 1 } in it) (outside-none names.level names.visible ends)

pub fewer_visible : (level : ℕ) (visible : List Declared) → ends_first level visible ≡ true → length (drop 1 visible) < length visible
fewer_visible level [] ends = absurd cc
fewer_visible level (first ∷ visible) ends = omega arith

-- the last of a list that is read from its end
pub last_first : {X : Type 0} (xs : List X) (count : ℕ) (last : X) → count ≡ length xs → slice_get xs (count - 1) ≡ Some last → reverse xs ≡ last ∷ reverse (take (count - 1) xs)
last_first {X = X} xs count last counts is =
    let within : count - 1 < length xs = slice_get_within xs (count - 1) last is in
    let all : take (count - 1 + 1) xs ≡ xs = take_all (count - 1 + 1) xs (omega arith) in
    let parts : xs ≡ take (count - 1) xs ++ last ∷ [] =
    sym all ∙ take_more xs (count - 1) last within ∙ ap (λ (one : X). take (count - 1) xs ++ one ∷ []) (get_or_from_slice_get xs (count - 1) last last is) in
    ap reverse parts ∙ reverse-append (take (count - 1) xs) (last ∷ [])
