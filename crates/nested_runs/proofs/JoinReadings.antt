-- How what the events so far tell of regions and their joins grows by an event.
use Rattle.std.proofs.Common.{ℕ, ◌≡◌, ◌==◌, ◌||◌, true, List, ◌∷◌, refl, sym, ap, ◌∙◌, inr, ◌⊎◌}
use Rattle.std.specs.Prelude.{filter}
use Rattle.std.proofs.lemmas.Bool.{cases_eq, eq-eqb, ne_eqb, or_right}
use Rattle.ompt_calls.specs.declared.event.EventRecord.{EventRecord}
use Rattle.omp_model.specs.declared.event.Event.{Event}
use Rattle.omp_model.specs.declared.event.Event.TheVariants.{MemberBegin}
use Rattle.omp_model.specs.State.{World, region_at}
use Rattle.omp_model.specs.Members.{member_index}
use Rattle.trace_check.specs.Before.{Join, and_more, has_begun_region, has_ended_region, has_left, is_just, joins, joins_of}
use Rattle.nested_runs.proofs.Readings.{begun_by, ended_by, joined_by, left_by}
use Rattle.nested_runs.proofs.Recorded.{recorded}
use Rattle.nested_runs.proofs.CallReadings.{begun-is, ended-is, join-is, left-is}
use Rattle.nested_runs.proofs.RegionHeads.{Joins}

-- a region is joined by an event, or not
pub joins-either : (e : Event) (q : ℕ) → Joins e q ⊎ (Joins e q → ⊥)
joins-either (MemberBegin r k) q = cases_eq q r
joins-either e q = inr (λ joins. joins)

-- the join of a member that begins
abbrev pub new_join : World → ℕ → ℕ → ℕ → Join
new_join W t q k = record { region = q; task = k; actual = (region_at W q).head.size; index = member_index W t q }

joins-beside : (W : World) (t : ℕ) (e : Event) (past : List EventRecord) (q : ℕ) → (Joins e q → ⊥) →
    filter (λ (join : Join). join.region == q) (and_more (joined_by W t e) (joins past)) ≡ joins_of q past
joins-beside W t (MemberBegin r k) past q apart = rw (ne_eqb r q (λ is. apart (sym is))) refl
joins-beside W t e past q apart = refl

module _ (position t : ℕ) (W : World) (e : Event) (past : List EventRecord) where
  pub begun-more : (r : ℕ) → has_begun_region r (recorded position t W e ∷ past) ≡ (is_just r (begun_by e) || has_begun_region r past)
  begun-more r = ap (λ one. is_just r one || has_begun_region r past) (begun-is W t e)

  pub ended-more : (r : ℕ) → has_ended_region r (recorded position t W e ∷ past) ≡ (is_just r (ended_by e) || has_ended_region r past)
  ended-more r = ap (λ one. is_just r one || has_ended_region r past) (ended-is W t e)

  pub left-more : (k : ℕ) → has_left k (recorded position t W e ∷ past) ≡ (is_just k (left_by e) || has_left k past)
  left-more k = ap (λ one. is_just k one || has_left k past) (left-is W t e)

  pub left-still : (k : ℕ) → has_left k past ≡ true → has_left k (recorded position t W e ∷ past) ≡ true
  left-still k left = left-more k ∙ or_right (is_just k (left_by e)) _ left

  joins-more : (r : ℕ) → joins_of r (recorded position t W e ∷ past) ≡ filter (λ (join : Join). join.region == r) (and_more (joined_by W t e) (joins past))
  joins-more r = ap (λ one. filter (λ (join : Join). join.region == r) (and_more one (joins past))) (join-is W t e)

  pub joins-same : (r : ℕ) → (Joins e r → ⊥) → joins_of r (recorded position t W e ∷ past) ≡ joins_of r past
  joins-same r apart = joins-more r ∙ joins-beside W t e past r apart

pub joins-own : (position t : ℕ) (W : World) (q k : ℕ) (past : List EventRecord) →
    joins_of q (recorded position t W (MemberBegin q k) ∷ past) ≡ new_join W t q k ∷ joins_of q past
joins-own position t W q k past =
    ap (λ one. filter (λ (join : Join). join.region == q) (and_more one (joins past))) (join-is W t (MemberBegin q k)) ∙ rw (eq-eqb q q refl) refl
