-- How many numbers a text of `printf` asks for, byte by byte.
use Rattle.std.proofs.Common.{◌≡◌, ℕ, ◌+◌, ◌<◌, ◌≤◌, Bool, true, false, not, ◌&&◌, ◌==◌, if◌then◌else◌, List, ◌∷◌, length, drop, get_or, Option, Some, None, refl, sym, ap, ◌∙◌, add-zero, add-one, arith, drop-cons}
use Rattle.std.specs.Option.{option_map}
use Rattle.std.proofs.lemmas.Bool.{ne_eqb}
use Rattle.std.proofs.lemmas.List.{drop_all}
use Rattle.c_check.specs.Printed.{numbers_behind, numbers_in, one_more}

-- what bytes ask for, behind a percent sign or not, where so many numbers were asked for before
abbrev pub asked : Bool → ℕ → List ℕ → Option ℕ
asked true before bytes = option_map (λ count. before + count) (numbers_behind bytes)
asked false before bytes = option_map (λ count. before + count) (numbers_in bytes)

-- at the end
module _ (bytes : List ℕ) (at : ℕ) (behind : Bool) (before : ℕ) where
  pub asked-none : behind ≡ true → length bytes ≤ at → asked behind before (drop at bytes) ≡ None
  unfolding numbers_in
  asked-none is past = rw (is, drop_all at bytes past) refl

  pub asked-last : behind ≡ false → length bytes ≤ at → asked behind before (drop at bytes) ≡ Some before
  unfolding numbers_in
  asked-last is past = rw (is, drop_all at bytes past) (ap Some (add-zero before))

module _ (bytes : List ℕ) (at : ℕ) (within : at < length bytes) where
  here : (behind : Bool) (before : ℕ) → asked behind before (drop at bytes) ≡ asked behind before (get_or bytes at 0 ∷ drop (at + 1) bytes)
  here behind before = ap (asked behind before) (drop-cons bytes at 0 within ∙ rw add-one refl)

  -- neither a number nor a sign stands behind a percent sign
  pub asked-other : (behind : Bool) (before : ℕ) → behind ≡ true → (get_or bytes at 0 ≡ 100 → ⊥) → (get_or bytes at 0 ≡ 37 → ⊥) → asked behind before (drop at bytes) ≡ None
  unfolding numbers_in
  asked-other true before is letter sign = here true before ∙ rw (ne_eqb (get_or bytes at 0) 100 letter, ne_eqb (get_or bytes at 0) 37 sign) refl
  asked-other false before is letter sign = absurd (cc)

  module _ (behind later : Bool) (before after : ℕ) (next : later ≡ (not behind && get_or bytes at 0 == 37)) where
    pub asked-letter : behind ≡ true → get_or bytes at 0 ≡ 100 → after ≡ before + 1 → asked later after (drop (at + 1) bytes) ≡ asked behind before (drop at bytes)
    unfolding numbers_in
    asked-letter is letter more =
        let off : later ≡ false = next ∙ rw is refl in
        rw (off, more) (sym (rw is (here true before ∙ rw letter (one (numbers_in (drop (at + 1) bytes))))))
      where
        one : (found : Option ℕ) → option_map (λ count. before + count) (one_more found) ≡ option_map (λ count. before + 1 + count) found
        one None = refl
        one (Some count) = ap Some (omega arith)

    pub asked-sign : behind ≡ true → get_or bytes at 0 ≡ 37 → after ≡ before → asked later after (drop (at + 1) bytes) ≡ asked behind before (drop at bytes)
    unfolding numbers_in
    asked-sign is sign same =
        let off : later ≡ false = next ∙ rw is refl in
        rw (off, same) (sym (rw is (here true before ∙ rw sign refl)))

    pub asked-on : behind ≡ false → after ≡ before → asked later after (drop (at + 1) bytes) ≡ asked behind before (drop at bytes)
    unfolding numbers_in
    asked-on is same =
        let test : later ≡ (get_or bytes at 0 == 37) = next ∙ rw is refl in
        rw (test, same) (sym (rw is (here false before ∙ begun (get_or bytes at 0 == 37))))
      where
        begun : (test : Bool) → option_map (λ count. before + count) (if test then numbers_behind (drop (at + 1) bytes) else numbers_in (drop (at + 1) bytes)) ≡ asked test before (drop (at + 1) bytes)
        begun true = refl
        begun false = refl
