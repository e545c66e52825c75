-- The counters are those of the team.
use Rattle.std.proofs.Common.{◌≡◌, ℕ, zero, suc, ◌-◌, ◌<◌, ◌≤◌, Bool, true, false, if◌then◌else◌, List, [], ◌∷◌, length, get_or, refl, ap, ◌∙◌, inl, inr, arith}
use Rattle.std.specs.Prelude.{nat_lt}
use Rattle.std.proofs.lemmas.Bool.{cases_lt, cond_both, ltb-false, ltb-true}
use Rattle.std.proofs.lemmas.List.FromFn.{fill_by_all}
use Rattle.team_parts.specs.Team.{TeamView, no_meeting}
use Rattle.team_words.specs.Team.{Met, Team, met_at}
use Rattle.team_words.specs.Counted.{IsCounted, counted_meeting, longer, longest}
use Rattle.team_words.proofs.Keeping.{Keeps, no-more}

-- a member that has had the most
pub record HasLongest (members : List (List Met)) : Type 0 where
  pub member : ℕ
  pub is : get_or members member [] ≡ longest members

either : (mets : List Met) (others : List (List Met)) (test : Bool) → HasLongest others → (i : ℕ) × (get_or (mets ∷ others) i [] ≡ (if test then longest others else mets))
either mets others true has = (suc has.member, has.is)
either mets others false has = (zero, refl)

longest-is : (members : List (List Met)) → HasLongest members
longest-is [] = record { member = 0; is = refl }
longest-is (mets ∷ others) =
    let one = either mets others (nat_lt (length mets) (length (longest others))) (longest-is others) in record { member = one.0; is = one.1 }

longer-first : (one other : List Met) → length one ≤ length (longer one other)
longer-first one other =
    cond_both (nat_lt (length one) (length other)) other one (λ (mets : List Met). length one ≤ length mets) (λ less. let below = ltb-true (length one) (length other) less in omega arith) (λ more. omega arith)

longer-second : (one other : List Met) → length other ≤ length (longer one other)
longer-second one other =
    cond_both (nat_lt (length one) (length other)) other one (λ (mets : List Met). length other ≤ length mets) (λ less. omega arith) (λ more. ltb-false (length one) (length other) more)

longest-most : (members : List (List Met)) (i : ℕ) → length (get_or members i []) ≤ length (longest members)
longest-most [] i = omega arith
longest-most (mets ∷ others) zero = longer-first mets (longest others)
longest-most (mets ∷ others) (suc i) =
    let below = longest-most others i in let most = longer-second mets (longest others) in omega arith

long-is : (members : List (List Met)) (view : TeamView) → Keeps members view → length view.meetings ≡ length (longest members)
long-is members view keeps =
    let has = longest-is members in
    let longs = ap (λ (mets : List Met). length mets) has.is in
    let down = no-more members view has.member keeps in
    elim (cases_lt 0 (length view.meetings)) [
      | inl some ↦
          let one = keeps.some (length view.meetings - 1) (omega arith) in
          let up = longest-most members one.member in
          omega (arith, longs, down, up, one.within)
      | inr none ↦ omega (arith, longs, down)
    ]

meeting-is : (members : List (List Met)) (view : TeamView) (n : ℕ) → Keeps members view → n < length (longest members) → get_or view.meetings n no_meeting ≡ counted_meeting members n
meeting-is members view n keeps within =
    let has = longest-is members in
    let longs = ap (λ (mets : List Met). length mets) has.is in
    let what = (keeps.each has.member n (omega (arith, longs))).same ∙ ap (λ (mets : List Met). (met_at n mets).what) has.is in
    let taken = (keeps.taken n (omega (arith, long-is members view keeps))).counts in
    λ i. record { what = what i; taken = taken i }

pub is-counted : (team : Team) (view : TeamView) → Keeps team.members view → IsCounted team view
is-counted team view keeps =
    record {
      members = keeps.counted;
      meetings = fill_by_all (counted_meeting team.members) view.meetings (length (longest team.members)) no_meeting (long-is team.members view keeps) (λ n within. meeting-is team.members view n keeps within);
    }
