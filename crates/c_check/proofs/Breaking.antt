-- What a program breaks, rule by rule, and the list of it.
use Rattle.std.proofs.Common.{◌≡◌, ◌⊎◌, ◌+◌, add-one, zero, suc, List, [], ◌∷◌, ◌++◌, map, refl, sym, ap, subst, inl, inr, arith}
use Rattle.std.specs.List.{IsAmong}
use Rattle.c_tokens.specs.declared.token.Spot.{Spot}
use Rattle.c_syntax.specs.language.Numbered.{TreeView}
use Rattle.c_check.specs.declared.acts.act.Act.{Act}
use Rattle.c_check.specs.declared.fault.CheckFault.{CheckFault}
use Rattle.c_check.specs.declared.fault.CheckFault.TheVariants as fault
use Rattle.c_check.specs.Checked.{Breaks, IsBroken, acts_of, after_all, broken_by, broken_by_all, here_after}
use Rattle.c_check.specs.Here.{Here, after, before_all}
use Rattle.c_check.specs.Rules.{bad_loops, bad_nestings, declared_twice, missing_main, unknown_names, unlisted_uses, wrong_uses}

-- members of lists

pub among-first : {X : Type 0} (first : X) (rest : List X) → IsAmong (first ∷ rest) first
among-first first rest = (0, (omega arith, refl))

pub among-behind : {X : Type 0} (first : X) (rest : List X) (one : X) → IsAmong rest one → IsAmong (first ∷ rest) one
among-behind first rest one (at, (within, same)) = (at + 1, (omega arith, rw add-one same))

pub among-case : {X : Type 0} (first : X) (rest : List X) (one : X) → IsAmong (first ∷ rest) one → (one ≡ first) ⊎ IsAmong rest one
among-case first rest one (zero, (within, same)) = inl same
among-case first rest one (suc at, (within, same)) = inr (at, (omega arith, same))

pub among-none : {X : Type 0} (one : X) → IsAmong [] one → ⊥
among-none one (at, (within, same)) = omega (arith, within)

among-left : {X : Type 0} (front more : List X) (one : X) → IsAmong front one → IsAmong (front ++ more) one
among-left [] more one is = absurd (among-none one is)
among-left (first ∷ front) more one is =
    elim (among-case first front one is) [
      | inl here ↦ subst (λ other. IsAmong (first ∷ (front ++ more)) other) (sym here) (among-first first (front ++ more))
      | inr there ↦ among-behind first (front ++ more) one (among-left front more one there)
    ]

among-right : {X : Type 0} (front more : List X) (one : X) → IsAmong more one → IsAmong (front ++ more) one
among-right [] more one is = is
among-right (first ∷ front) more one is = among-behind first (front ++ more) one (among-right front more one is)

among-either : {X : Type 0} (front more : List X) (one : X) → IsAmong (front ++ more) one → IsAmong front one ⊎ IsAmong more one
among-either [] more one is = inr is
among-either (first ∷ front) more one is =
    elim (among-case first (front ++ more) one is) [
      | inl here ↦ inl (subst (λ other. IsAmong (first ∷ front) other) (sym here) (among-first first front))
      | inr there ↦ elim (among-either front more one there) [ inl left ↦ inl (among-behind first front one left) | inr right ↦ inr right ]
    ]

among-map : {X Y : Type 0} (f : X → Y) (xs : List X) (x : X) → IsAmong xs x → IsAmong (map f xs) (f x)
among-map f [] x is = absurd (among-none x is)
among-map f (first ∷ xs) x is =
    elim (among-case first xs x is) [
      | inl here ↦ subst (λ other. IsAmong (f first ∷ map f xs) (f other)) (sym here) (among-first (f first) (map f xs))
      | inr there ↦ among-behind (f first) (map f xs) (f x) (among-map f xs x there)
    ]

among-mapped : {X Y : Type 0} (f : X → Y) (xs : List X) (y : Y) → IsAmong (map f xs) y → (x : X) × (y ≡ f x) × IsAmong xs x
among-mapped f [] y is = absurd (among-none y is)
among-mapped f (first ∷ xs) y is =
    elim (among-case (f first) (map f xs) y is) [
      | inl here ↦ (first, here, among-first first xs)
      | inr there ↦ let more = among-mapped f xs y there in (more.0, more.1, among-behind first xs more.0 more.2)
    ]

-- what acts break, one after another

record At (here : Here) (acts : List Act) (found : CheckFault) : Type 0 where
  before : List Act
  act : Act
  behind : List Act
  acts_are : acts ≡ before ++ act ∷ behind
  there : IsAmong (broken_by (after_all here before) act) found

at : (here : Here) (acts : List Act) (found : CheckFault) → IsAmong (broken_by_all here acts) found → At here acts found
unfolding after_all broken_by_all
at here [] found is = absurd (among-none found is)
at here (first ∷ rest) found is =
    elim (among-either (broken_by here first) (broken_by_all (after here first) rest) found is) [
      | inl now ↦ record { before = []; act = first; behind = rest; acts_are = refl; there = now }
      | inr later ↦
          let more = at (after here first) rest found later in
          record { before = first ∷ more.before; act = more.act; behind = more.behind; acts_are = ap (λ (acts : List Act). first ∷ acts) more.acts_are; there = more.there }
    ]

among-at : (here : Here) (before : List Act) (act : Act) (behind : List Act) (found : CheckFault) → IsAmong (broken_by (after_all here before) act) found → IsAmong (broken_by_all here (before ++ act ∷ behind)) found
unfolding after_all broken_by_all
among-at here [] act behind found is = among-left (broken_by here act) (broken_by_all (after here act) behind) found is
among-at here (first ∷ before) act behind found is =
    among-right (broken_by here first) (broken_by_all (after here first) (before ++ act ∷ behind)) found (among-at (after here first) before act behind found is)

module _ (program : TreeView) where
  broken_at : (rule : Here → Act → List Spot) (sort : Spot → CheckFault) (found : CheckFault) → ((spot : Spot) → IsBroken rule program spot → Breaks program (sort spot))
      → (before : List Act) (act : Act) (behind : List Act) → acts_of program ≡ before ++ act ∷ behind → IsAmong (map sort (rule (here_after program before) act)) found → Breaks program found
  broken_at rule sort found breaks before act behind acts_are is =
      let here = among-mapped sort (rule (here_after program before) act) found is in
      subst (λ other. Breaks program other) (sym here.1) (breaks here.0 (record { before = before; act = act; behind = behind; acts_are = acts_are; there = here.2 }))

  -- what is among the faults of the acts is broken
  pub among-breaks : (found : CheckFault) → IsAmong (broken_by_all (before_all program.main) (acts_of program)) found → Breaks program found
  among-breaks found is =
      let it = at (before_all program.main) (acts_of program) found is in
      let here = here_after program it.before in
      elim (among-either (map fault.UnknownName (unknown_names here it.act)) _ found it.there) [
        | inl this ↦ broken_at unknown_names fault.UnknownName found (λ spot broken. broken) it.before it.act it.behind it.acts_are this
        | inr more1 ↦ elim (among-either (map fault.TwiceDeclared (declared_twice here it.act)) _ found more1) [
          | inl this ↦ broken_at declared_twice fault.TwiceDeclared found (λ spot broken. broken) it.before it.act it.behind it.acts_are this
          | inr more2 ↦ elim (among-either (map fault.WrongUse (wrong_uses here it.act)) _ found more2) [
            | inl this ↦ broken_at wrong_uses fault.WrongUse found (λ spot broken. broken) it.before it.act it.behind it.acts_are this
            | inr more3 ↦ elim (among-either (map fault.BadNesting (bad_nestings here it.act)) _ found more3) [
              | inl this ↦ broken_at bad_nestings fault.BadNesting found (λ spot broken. broken) it.before it.act it.behind it.acts_are this
              | inr more4 ↦ elim (among-either (map fault.BadLoop (bad_loops here it.act)) _ found more4) [
                | inl this ↦ broken_at bad_loops fault.BadLoop found (λ spot broken. broken) it.before it.act it.behind it.acts_are this
                | inr more5 ↦ elim (among-either (map fault.NoMain (missing_main here it.act)) _ found more5) [
                  | inl this ↦ broken_at missing_main fault.NoMain found (λ spot broken. broken) it.before it.act it.behind it.acts_are this
                  | inr more6 ↦ broken_at unlisted_uses fault.NotListed found (λ spot broken. broken) it.before it.act it.behind it.acts_are more6
                ]
              ]
            ]
          ]
        ]
      ]

  among-broken : (rule : Here → Act → List Spot) (sort : Spot → CheckFault) (spot : Spot) → IsBroken rule program spot
      → ((here : Here) (act : Act) → IsAmong (map sort (rule here act)) (sort spot) → IsAmong (broken_by here act) (sort spot))
      → IsAmong (broken_by_all (before_all program.main) (acts_of program)) (sort spot)
  among-broken rule sort spot broken among =
      subst (λ (acts : List Act). IsAmong (broken_by_all (before_all program.main) acts) (sort spot)) (sym broken.acts_are)
      (among-at (before_all program.main) broken.before broken.act broken.behind (sort spot) (among (here_after program broken.before) broken.act (among-map sort (rule (here_after program broken.before) broken.act) spot broken.there)))

  -- what is broken is among the faults of the acts
  pub breaks-among : (found : CheckFault) → Breaks program found → IsAmong (broken_by_all (before_all program.main) (acts_of program)) found
  breaks-among (fault.UnknownName spot) broken = among-broken unknown_names fault.UnknownName spot broken (λ here act is. among-left _ _ _ is)
  breaks-among (fault.TwiceDeclared spot) broken = among-broken declared_twice fault.TwiceDeclared spot broken (λ here act is. among-right (map fault.UnknownName (unknown_names here act)) _ _ (among-left _ _ _ is))
  breaks-among (fault.WrongUse spot) broken =
      among-broken wrong_uses fault.WrongUse spot broken (λ here act is. among-right (map fault.UnknownName (unknown_names here act)) _ _ (among-right (map fault.TwiceDeclared (declared_twice here act)) _ _ (among-left _ _ _ is)))
  breaks-among (fault.BadNesting spot) broken =
      among-broken bad_nestings fault.BadNesting spot broken
      (λ here act is. among-right (map fault.UnknownName (unknown_names here act)) _ _ (among-right (map fault.TwiceDeclared (declared_twice here act)) _ _ (among-right (map fault.WrongUse (wrong_uses here act)) _ _ (among-left _ _ _ is))))
  breaks-among (fault.BadLoop spot) broken =
      among-broken bad_loops fault.BadLoop spot broken
      (λ here act is. among-right (map fault.UnknownName (unknown_names here act)) _ _ (among-right (map fault.TwiceDeclared (declared_twice here act)) _ _ (among-right (map fault.WrongUse (wrong_uses here act)) _ _ (among-right (map fault.BadNesting (bad_nestings here act)) _ _ (among-left _ _ _ is)))))
  breaks-among (fault.NoMain spot) broken =
      among-broken missing_main fault.NoMain spot broken
      (λ here act is. among-right (map fault.UnknownName (unknown_names here act)) _ _ (among-right (map fault.TwiceDeclared (declared_twice here act)) _ _ (among-right (map fault.WrongUse (wrong_uses here act)) _ _ (among-right (map fault.BadNesting (bad_nestings here act)) _ _ (among-right (map fault.BadLoop (bad_loops here act)) _ _ (among-left _ _ _ is))))))
  breaks-among (fault.NotListed spot) broken =
      among-broken unlisted_uses fault.NotListed spot broken
      (λ here act is. among-right (map fault.UnknownName (unknown_names here act)) _ _ (among-right (map fault.TwiceDeclared (declared_twice here act)) _ _ (among-right (map fault.WrongUse (wrong_uses here act)) _ _ (among-right (map fault.BadNesting (bad_nestings here act)) _ _ (among-right (map fault.BadLoop (bad_loops here act)) _ _ (among-right (map fault.NoMain (missing_main here act)) _ _ is))))))
  breaks-among fault.Memory broken = absurd broken
