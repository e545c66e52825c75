-- What acts break, one after another.
use Rattle.std.proofs.Common.{◌≡◌, ◌⊎◌, List, [], ◌∷◌, ◌++◌, refl, sym, ap, subst, inl, inr}
use Rattle.std.specs.List.{IsAmong}
use Rattle.c_tokens.specs.declared.token.Spot.{Spot}
use Rattle.c_syntax.specs.language.Numbered.{TreeView}
use Rattle.c_check.specs.declared.acts.act.Act.{Act}
use Rattle.c_check.specs.Checked.{IsBroken, acts_of, after_all}
use Rattle.c_check.specs.Here.{Here, after, before_all}

abbrev pub Rule : Type 0
Rule = Here → Act → List Spot

-- one of some acts breaks a rule at a place
abbrev pub BreaksIn : {X : Type 0} → (Here → Act → List X) → Here → List Act → X → Type 0
BreaksIn rule here [] spot = ⊥
BreaksIn rule here (act ∷ rest) spot = IsAmong (rule here act) spot ⊎ BreaksIn rule (after here act) rest spot

pub after-both : (here : Here) (some more : List Act) → after_all here (some ++ more) ≡ after_all (after_all here some) more
unfolding after_all
after-both here [] more = refl
after-both here (act ∷ some) more = after-both (after here act) some more

module _ {X : Type 0} (rule : Here → Act → List X) (spot : X) where
  pub breaks-left : (here : Here) (some more : List Act) → BreaksIn rule here some spot → BreaksIn rule here (some ++ more) spot
  breaks-left here [] more breaks = absurd breaks
  breaks-left here (act ∷ some) more (inl first) = inl first
  breaks-left here (act ∷ some) more (inr rest) = inr (breaks-left (after here act) some more rest)

  pub breaks-right : (here : Here) (some more : List Act) → BreaksIn rule (after_all here some) more spot → BreaksIn rule here (some ++ more) spot
  unfolding after_all
  breaks-right here [] more breaks = breaks
  breaks-right here (act ∷ some) more breaks = inr (breaks-right (after here act) some more breaks)

  pub breaks-either : (here : Here) (some more : List Act) → BreaksIn rule here (some ++ more) spot → BreaksIn rule here some spot ⊎ BreaksIn rule (after_all here some) more spot
  unfolding after_all
  breaks-either here [] more breaks = inr breaks
  breaks-either here (act ∷ some) more (inl first) = inl (inl first)
  breaks-either here (act ∷ some) more (inr rest) =
      elim (breaks-either (after here act) some more rest) [ inl left ↦ inl (inr left) | inr right ↦ inr right ]

-- an act that breaks a rule, with those before and behind it
record At (rule : Rule) (here : Here) (acts : List Act) (spot : Spot) : Type 0 where
  before : List Act
  act : Act
  behind : List Act
  acts_are : acts ≡ before ++ act ∷ behind
  there : IsAmong (rule (after_all here before) act) spot

at : (rule : Rule) (spot : Spot) (here : Here) (acts : List Act) → BreaksIn rule here acts spot → At rule here acts spot
unfolding after_all
at rule spot here [] breaks = absurd breaks
at rule spot here (act ∷ rest) (inl first) = record { before = []; act = act; behind = rest; acts_are = refl; there = first }
at rule spot here (act ∷ rest) (inr later) =
    let more = at rule spot (after here act) rest later in
    record { before = act ∷ more.before; act = more.act; behind = more.behind; acts_are = ap (λ (acts : List Act). act ∷ acts) more.acts_are; there = more.there }

-- a program breaks a rule where one of its acts does
pub breaks-broken : (rule : Rule) (program : TreeView) (spot : Spot) → BreaksIn rule (before_all program.main) (acts_of program) spot → IsBroken rule program spot
breaks-broken rule program spot breaks =
    let it = at rule spot (before_all program.main) (acts_of program) breaks in
    record { before = it.before; act = it.act; behind = it.behind; acts_are = it.acts_are; there = it.there }

pub broken-breaks : (rule : Rule) (program : TreeView) (spot : Spot) → IsBroken rule program spot → BreaksIn rule (before_all program.main) (acts_of program) spot
broken-breaks rule program spot broken =
    subst (λ (acts : List Act). BreaksIn rule (before_all program.main) acts spot) (sym broken.acts_are)
    (breaks-right rule spot (before_all program.main) broken.before (broken.act ∷ broken.behind) (inl broken.there))
