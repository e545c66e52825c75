-- Which of two faults is told.
use Rattle.std.proofs.Common.{◌≡◌, ◌⊎◌, ℕ, Bool, true, false, ◌==◌, ◌&&◌, ◌||◌, nat_lt, List, [], ◌∷◌, Option, Some, None, refl, sym, subst, inl, inr, arith}
use Rattle.std.specs.Prelude.{All}
use Rattle.std.specs.List.{IsAmong}
use Rattle.std.proofs.lemmas.Bool.{cases_Bool}
use Rattle.std.proofs.lemmas.List.Elements.{All-cons, All-nil}
use Rattle.std.proofs.lemmas.Bool.Decides.{nat_tests}
use Rattle.c_check.specs.declared.fault.CheckFault.{CheckFault}
use Rattle.c_check.specs.Faults.{comes_first, first_of, fault_number, fault_spot}
use Rattle.c_syntax.specs.language.Numbered.{TreeView}
use Rattle.c_check.specs.Checked.{Checked, acts_of, broken_by_all, rule_fault}
use Rattle.c_check.specs.First.{IsFirst}
use Rattle.c_check.specs.Here.{before_all}
use Rattle.c_check.proofs.Breaking.{among-behind, among-breaks, among-first, among-none, breaks-among}

-- lines, columns and numbers in order
abbrev less : ℕ → ℕ → ℕ → ℕ → ℕ → ℕ → Bool
less line column number other_line other_column other_number =
    (nat_lt line other_line || line == other_line && nat_lt column other_column)
    || (line == other_line && column == other_column) && nat_lt number other_number

less-across : (l c n l' c' n' k d m : ℕ) → less l' c' n' l c n ≡ false → less k d m l' c' n' ≡ false → less k d m l c n ≡ false
less-across l c n l' c' n' k d m first second = grind (arith, nat_tests)

less-not : (l c n l' c' n' : ℕ) → less l c n l' c' n' ≡ true → less l' c' n' l c n ≡ false
less-not l c n l' c' n' first = grind (arith, nat_tests)

less-itself : (l c n : ℕ) → less l c n l c n ≡ false
less-itself l c n = grind (arith, nat_tests)

across : (a b c : CheckFault) → comes_first b a ≡ false → comes_first c b ≡ false → comes_first c a ≡ false
across a b c first second =
    less-across (fault_spot a).line (fault_spot a).column (fault_number a) (fault_spot b).line (fault_spot b).column (fault_number b) (fault_spot c).line (fault_spot c).column (fault_number c) first second

not-both : (a b : CheckFault) → comes_first a b ≡ true → comes_first b a ≡ false
not-both a b first = less-not (fault_spot a).line (fault_spot a).column (fault_number a) (fault_spot b).line (fault_spot b).column (fault_number b) first

itself : (a : CheckFault) → comes_first a a ≡ false
itself a = less-itself (fault_spot a).line (fault_spot a).column (fault_number a)

-- it is one of them, and none of them comes before it
record IsEarliest (faults : List CheckFault) (found : CheckFault) : Type 0 where
  among : IsAmong faults found
  none_before : All (λ other. comes_first other found ≡ false) faults

-- what is told after a fault that is known
record Tells (known : CheckFault) (faults : List CheckFault) (found : CheckFault) : Type 0 where
  from : (found ≡ known) ⊎ IsAmong faults found
  not_known : comes_first known found ≡ false
  none_before : All (λ (other : CheckFault). comes_first other found ≡ false) faults

tells : (known : CheckFault) (faults : List CheckFault) (found : CheckFault) → first_of (Some known) faults ≡ Some found → Tells known faults found
unfolding first_of
tells known [] found same = let e : found ≡ known = cc in record { from = inl e; not_known = subst (λ (one : CheckFault). comes_first known one ≡ false) (sym e) (itself known); none_before = All-nil (λ (other : CheckFault). comes_first other found ≡ false) }
tells known (first ∷ rest) found same =
    elim (cases_Bool (comes_first first known)) [
      | inl sooner_is ↦
          let more : Tells first rest found = tells first rest found (rw sooner_is at same) in
          record {
            from = inr (elim more.from [ inl here ↦ subst (λ (one : CheckFault). IsAmong (one ∷ rest) found) here (among-first found rest) | inr there ↦ among-behind first rest found there ]);
            not_known = across found first known more.not_known (not-both first known sooner_is);
            none_before = All-cons (λ (other : CheckFault). comes_first other found ≡ false) first rest more.not_known more.none_before;
          }
      | inr later ↦
          let more : Tells known rest found = tells known rest found (rw later at same) in
          record {
            from = elim more.from [ inl here ↦ inl here | inr there ↦ inr (among-behind first rest found there) ];
            not_known = more.not_known;
            none_before = All-cons (λ (other : CheckFault). comes_first other found ≡ false) first rest (across found known first more.not_known later) more.none_before;
          }
    ]

first-told : (faults : List CheckFault) (found : CheckFault) → first_of None faults ≡ Some found → IsEarliest faults found
unfolding first_of
first-told [] found same = absurd (cc)
first-told (first ∷ rest) found same =
    let more : Tells first rest found = tells first rest found same in
    record {
      among = elim more.from [ inl here ↦ subst (λ (one : CheckFault). IsAmong (one ∷ rest) found) here (among-first found rest) | inr there ↦ among-behind first rest found there ];
      none_before = All-cons (λ (other : CheckFault). comes_first other found ≡ false) first rest more.not_known more.none_before;
    }

-- once a fault is known one is told
still-told : (known : CheckFault) (faults : List CheckFault) → first_of (Some known) faults ≡ None → ⊥
unfolding first_of
still-told known [] same = cc
still-told known (first ∷ rest) same =
    elim (cases_Bool (comes_first first known)) [
      | inl sooner_is ↦ still-told first rest (rw sooner_is at same)
      | inr later ↦ still-told known rest (rw later at same)
    ]

none-told : (faults : List CheckFault) → first_of None faults ≡ None → faults ≡ []
unfolding first_of
none-told [] same = refl
none-told (first ∷ rest) same = absurd (still-told first rest same)

-- one of some faults
all-at : (P : CheckFault → Type 0) (faults : List CheckFault) (one : CheckFault) → All P faults → IsAmong faults one → P one
all-at P faults one all is = subst P (sym is.1.1) (all is.0 one is.1.0)

module _ (program : TreeView) where
  pub first-broken : (found : CheckFault) → rule_fault program ≡ Some found → IsFirst program found
  first-broken found same =
      let faults = broken_by_all (before_all program.main) (acts_of program) in
      let first : IsEarliest faults found = first-told faults found same in
      record {
        is_broken = among-breaks program found first.among;
        none_before = λ other broken. all-at (λ other. comes_first other found ≡ false) faults other first.none_before (breaks-among program other broken);
      }

  pub none-broken : rule_fault program ≡ None → Checked program
  none-broken same = λ other broken.
      let faults = broken_by_all (before_all program.main) (acts_of program) in
      among-none other (rw (none-told faults same) at (breaks-among program other broken))

  pub none-told-checked : Checked program → rule_fault program ≡ None
  none-told-checked checked = no-fault (rule_fault program) refl
    where
      no-fault : (told : Option CheckFault) → rule_fault program ≡ told → rule_fault program ≡ None
      no-fault None is = is
      no-fault (Some found) is = absurd (checked found (first-broken found is).is_broken)
