-- What only acts that name a variable add: what stands around them adds nothing.
use Rattle.std.specs.Prelude.{◌≡◌, Bool, true, false, List, [], ◌∷◌, ◌++◌, refl}
use Rattle.std.proofs.Common.{sym, subst, inl, inr}
use Rattle.std.specs.List.{IsAmong}
use Rattle.c_check.specs.declared.acts.act.Act.{Act}
use Rattle.c_check.specs.declared.acts.act.Act.TheVariants.{Clause, List as Listing, Loop, Use}
use Rattle.c_check.specs.Checked.{after_all}
use Rattle.c_check.specs.Here.{Here, after}
use Rattle.check_laws.proofs.Broken.{BreaksIn, breaks-either, breaks-left, breaks-right}
use Rattle.check_laws.proofs.Inside.{AreInforming, is_informing}
use Rattle.check_laws.proofs.Means.{not-among}
use Rattle.check_laws.proofs.Parts.{odd_acts}
use Rattle.check_laws.proofs.Sharing.{odd-after}

-- a name is used, or is that of a loop's variable
abbrev pub is_naming : Act → Bool
is_naming (Use name spot usage) = true
is_naming (Loop name) = true
is_naming other = false

abbrev pub AreUnnamed : List Act → Type 0
AreUnnamed [] = Unit {0}
AreUnnamed (act ∷ acts) = (is_naming act ≡ false) × AreUnnamed acts

informing-unnamed : (act : Act) → is_informing act ≡ true → is_naming act ≡ false
informing-unnamed (Clause one) is = refl
informing-unnamed (Listing name spot clause) is = refl
informing-unnamed other is = absurd (let no : false ≡ true = is in cc)

pub all-unnamed : (acts : List Act) → AreInforming acts → AreUnnamed acts
all-unnamed [] are = tt
all-unnamed (act ∷ acts) are = (informing-unnamed act are.0, all-unnamed acts are.1)

abbrev pub Unnaming : {X : Type 0} → (Here → Act → List X) → Type 0
Unnaming rule = (here : Here) (act : Act) → is_naming act ≡ false → rule here act ≡ []

module _ {X : Type 0} (rule : Here → Act → List X) (calm : Unnaming rule) (x : X) where
  pub behind-first : (here : Here) (act : Act) (rest : List Act) → is_naming act ≡ false → BreaksIn rule here (act ∷ rest) x → BreaksIn rule (after here act) rest x
  behind-first here act rest is (inl first) = absurd (not-among x (subst (λ (some : List X). IsAmong some x) (calm here act is) first))
  behind-first here act rest is (inr later) = later

  pub not-one : (here : Here) (act : Act) → is_naming act ≡ false → BreaksIn rule here (act ∷ []) x → ⊥
  not-one here act is breaks = behind-first here act [] is breaks

  pub none-of : (here : Here) (acts : List Act) → AreUnnamed acts → BreaksIn rule here acts x → ⊥
  none-of here [] are breaks = breaks
  none-of here (act ∷ acts) are breaks = none-of (after here act) acts are.1 (behind-first here act acts are.0 breaks)

  -- between an act that begins something and one that ends it
  pub between : (here : Here) (first last : Act) (acts : List Act) → is_naming first ≡ false → is_naming last ≡ false → BreaksIn rule here (first ∷ acts ++ last ∷ []) x → BreaksIn rule (after here first) acts x
  between here first last acts begins ends breaks =
      elim (breaks-either rule x (after here first) acts (last ∷ []) (behind-first here first (acts ++ last ∷ []) begins breaks)) [
        | inl inside ↦ inside
        | inr end ↦ absurd (not-one (after_all (after here first) acts) last ends end)
      ]

  pub put-between : (here : Here) (first last : Act) (acts : List Act) → BreaksIn rule (after here first) acts x → BreaksIn rule here (first ∷ acts ++ last ∷ []) x
  put-between here first last acts inside = inr (breaks-left rule x (after here first) acts (last ∷ []) inside)

  -- .. where the first says more
  pub enclosed : (here : Here) (first last : Act) (more acts : List Act) → is_naming first ≡ false → AreUnnamed more → is_naming last ≡ false → BreaksIn rule here (first ∷ more ++ (acts ++ last ∷ [])) x
      → BreaksIn rule (after_all (after here first) more) acts x
  enclosed here first last more acts begins says ends breaks =
      elim (breaks-either rule x (after here first) more (acts ++ last ∷ []) (behind-first here first (more ++ (acts ++ last ∷ [])) begins breaks)) [
        | inl said ↦ absurd (none-of (after here first) more says said)
        | inr within ↦ elim (breaks-either rule x (after_all (after here first) more) acts (last ∷ []) within) [
          | inl inside ↦ inside
          | inr end ↦ absurd (not-one (after_all (after_all (after here first) more) acts) last ends end)
        ]
      ]

  pub put-enclosed : (here : Here) (first last : Act) (more acts : List Act) → BreaksIn rule (after_all (after here first) more) acts x → BreaksIn rule here (first ∷ more ++ (acts ++ last ∷ [])) x
  put-enclosed here first last more acts inside =
      inr (breaks-right rule x (after here first) more (acts ++ last ∷ []) (breaks-left rule x (after_all (after here first) more) acts (last ∷ []) inside))

  -- that a loop is odd adds nothing
  odd-unnamed : (form : Bool) → AreUnnamed (odd_acts form)
  odd-unnamed true = tt
  odd-unnamed false = (refl, tt)

  pub behind-odd : (here : Here) (form : Bool) (acts : List Act) → BreaksIn rule here (odd_acts form ++ acts) x → BreaksIn rule here acts x
  behind-odd here form acts breaks =
      elim (breaks-either rule x here (odd_acts form) acts breaks) [
        | inl odd ↦ absurd (none-of here (odd_acts form) (odd-unnamed form) odd)
        | inr later ↦ subst (λ (here : Here). BreaksIn rule here acts x) (odd-after here form) later
      ]

  pub put-behind-odd : (here : Here) (form : Bool) (acts : List Act) → BreaksIn rule here acts x → BreaksIn rule here (odd_acts form ++ acts) x
  put-behind-odd here form acts breaks = breaks-right rule x here (odd_acts form) acts (subst (λ (here : Here). BreaksIn rule here acts x) (sym (odd-after here form)) breaks)
