-- The place of an identifier in the list: what is known there, and that changes at it are the changes that are meant.
use Rattle.std.proofs.Common.{◌≡◌, ◌≢◌, ℕ, zero, suc, ◌-◌, ◌<◌, ◌≤◌, ◌∙◌, List, [], ◌∷◌, length, slice_get, slice_set, slice_index_or, Some, None, refl, sym, ap, subst, inl, inr, arith, lt-ltb, add-one}
use Rattle.std.specs.List.{insert}
use Rattle.std.proofs.lemmas.Option.{slice_get_within, get_or_from_slice_get}
use Rattle.std.proofs.lemmas.List.{get_or_default}
use Rattle.std.proofs.lemmas.Bool.{cases_lt, eq-eqb, ne_eqb, le-ltb}
use Rattle.sync_objects.specs.declared.entry.Entry.{Entry}
use Rattle.sync_objects.specs.declared.entry.Hold.{Hold}
use Rattle.sync_objects.specs.declared.entry.Hold.TheVariants as hold
use Rattle.sync_objects.specs.Places.{AreAbove, IsRising, rank, hold_of, with_hold, with_place, free_entry, StandsAt, BelongsAt}
use Rattle.sync_objects.proofs.Rising.{above-lower, rising-before}

rank-more : (entry : Entry) (entries : List Entry) (id : ℕ) → entry.id < id → rank (entry ∷ entries) id ≡ suc (rank entries id)
unfolding rank
rank-more entry entries id before = rw (lt-ltb entry.id id before) (add-one (rank entries id))

rank-here : (entry : Entry) (entries : List Entry) (id : ℕ) → id ≤ entry.id → rank (entry ∷ entries) id ≡ 0
unfolding rank
rank-here entry entries id behind = rw (le-ltb entry.id id behind) refl

rank-within : (entries : List Entry) (id : ℕ) → rank entries id ≤ length entries
unfolding rank
rank-within [] id = omega arith
rank-within (entry ∷ entries) id = elim (cases_lt entry.id id) [
  | inl before ↦ omega (arith, rank-more entry entries id before, rank-within entries id)
  | inr behind ↦ omega (arith, rank-here entry entries id behind)
]

-- the place between the lower ones and the others
pub rank-point : (entries : List Entry) (id place : ℕ) → place ≤ length entries → ((k : ℕ) (d : Entry) → k < place → (slice_index_or entries k d).id < id) → ((k : ℕ) (d : Entry) → place ≤ k → k < length entries → id ≤ (slice_index_or entries k d).id) → place ≡ rank entries id
unfolding rank
rank-point [] id place within before behind = omega arith
rank-point (entry ∷ entries) id zero within before behind = sym (rank-here entry entries id (behind 0 entry (omega arith) (omega arith)))
rank-point (entry ∷ entries) id (suc place) within before behind =
    ap (λ (k : ℕ). suc k) (rank-point entries id place (omega arith) (λ k d less. before (suc k) d (omega arith)) (λ k d more less. behind (suc k) d (omega arith) (omega arith)))
    ∙ sym (rank-more entry entries id (before 0 entry (omega arith)))

-- where the last one is lower, all are
pub rank-last : (entries : List Entry) (id : ℕ) (last : Entry) → IsRising entries → 0 < length entries → slice_index_or entries (length entries - 1) last ≡ last → last.id < id → length entries ≡ rank entries id
rank-last entries id last rising some is lower =
    rank-point entries id (length entries) (omega arith)
    (λ k d less. let end : (slice_index_or entries (length entries - 1) d).id < id = subst (λ (entry : Entry). entry.id < id) (sym (get_or_default entries (length entries - 1) d last (omega arith) ∙ is)) lower in
    rising-before entries id (length entries - 1) k d rising (omega arith) (omega arith) end)
    (λ k d more less. absurd (omega arith))

get-within : (entries : List Entry) (place : ℕ) (d : Entry) → place < length entries → slice_get entries place ≡ Some (slice_index_or entries place d)
get-within [] place d within = absurd (omega arith)
get-within (entry ∷ entries) zero d within = refl
get-within (entry ∷ entries) (suc place) d within = get-within entries place d (omega arith)

pub stands-read : (entries : List Entry) (id place : ℕ) (entry : Entry) → place ≡ rank entries id → place < length entries → entry ≡ slice_index_or entries place entry → entry.id ≡ id → StandsAt entries id place
stands-read entries id place entry ranked within is this = record {
  ranked = ranked;
  there = (entry, get-within entries place entry within ∙ ap (λ (one : Entry). Some one) (sym is), this);
}

pub belongs-apart : (entries : List Entry) (id place : ℕ) (entry : Entry) → place ≡ rank entries id → entry ≡ slice_index_or entries place entry → entry.id ≢ id → BelongsAt entries id place
belongs-apart entries id place entry ranked is apart = record {
  ranked = ranked;
  within = omega (arith, ranked, rank-within entries id);
  apart = λ one there this. apart (ap (λ (it : Entry). it.id) (is ∙ get_or_from_slice_get entries place one entry there) ∙ this);
}

pub belongs-past : (entries : List Entry) (id place : ℕ) → place ≡ rank entries id → length entries ≤ place → BelongsAt entries id place
belongs-past entries id place ranked past = record {
  ranked = ranked;
  within = omega (arith, ranked, rank-within entries id);
  apart = λ one there this. absurd (omega (arith, slice_get_within entries place one there));
}

-- what is read at the place of an identifier
pub stands-entry : (entries : List Entry) (id place : ℕ) (entry : Entry) → StandsAt entries id place → entry ≡ slice_index_or entries place entry → (slice_get entries (rank entries id) ≡ Some entry) × (entry.id ≡ id)
stands-entry entries id place entry stands is =
    let same : entry ≡ stands.there.0 = is ∙ get_or_from_slice_get entries place stands.there.0 entry stands.there.1 in (
      subst (λ (k : ℕ). slice_get entries k ≡ Some entry) stands.ranked (stands.there.1 ∙ ap (λ (one : Entry). Some one) (sym same)),
      ap (λ (one : Entry). one.id) same ∙ stands.there.2,
    )

first-is : (first : Entry) (entries : List Entry) (id : ℕ) (entry : Entry) → id ≤ first.id → slice_get (first ∷ entries) (rank (first ∷ entries) id) ≡ Some entry → first ≡ entry
first-is first entries id entry behind there =
    let is : Some first ≡ Some entry = subst (λ (k : ℕ). slice_get (first ∷ entries) k ≡ Some entry) (rank-here first entries id behind) there in
    cc

rest-is : (first : Entry) (entries : List Entry) (id : ℕ) (entry : Entry) → first.id < id → slice_get (first ∷ entries) (rank (first ∷ entries) id) ≡ Some entry → slice_get entries (rank entries id) ≡ Some entry
rest-is first entries id entry before there = subst (λ (k : ℕ). slice_get (first ∷ entries) k ≡ Some entry) (rank-more first entries id before) there

none-there : (entry : Entry) → None ≡ Some entry → ⊥
none-there entry there = cc

pub hold-here : (entries : List Entry) (id : ℕ) (entry : Entry) → slice_get entries (rank entries id) ≡ Some entry → entry.id ≡ id → hold_of entries id ≡ entry.hold
unfolding hold_of
hold-here [] id entry there this = absurd (none-there entry there)
hold-here (first ∷ entries) id entry there this = elim (cases_lt first.id id) [
  | inl before ↦ rw (ne_eqb first.id id (λ same. omega arith)) (hold-here entries id entry (rest-is first entries id entry before there) this)
  | inr behind ↦
      let is = first-is first entries id entry behind there in
      rw (eq-eqb first.id id (ap (λ (one : Entry). one.id) is ∙ this)) (ap (λ (one : Entry). one.hold) is)
]

pub hold-above : (id : ℕ) (entries : List Entry) → AreAbove id entries → hold_of entries id ≡ hold.Absent
unfolding AreAbove hold_of
hold-above id [] above = refl
hold-above id (entry ∷ entries) above = rw (ne_eqb entry.id id (λ same. omega (arith, above.0))) (hold-above id entries above.1)

pub hold-none : (entries : List Entry) (id : ℕ) → IsRising entries → ((entry : Entry) → slice_get entries (rank entries id) ≡ Some entry → entry.id ≡ id → ⊥) → hold_of entries id ≡ hold.Absent
unfolding hold_of IsRising
hold-none [] id rising apart = refl
hold-none (first ∷ entries) id rising apart = elim (cases_lt first.id id) [
  | inl before ↦ rw (ne_eqb first.id id (λ same. omega arith))
      (hold-none entries id rising.1 (λ entry there. apart entry (subst (λ (k : ℕ). slice_get (first ∷ entries) k ≡ Some entry) (sym (rank-more first entries id before)) there)))
  | inr behind ↦
      let other : first.id ≢ id = apart first (subst (λ (k : ℕ). slice_get (first ∷ entries) k ≡ Some first) (sym (rank-here first entries id behind)) refl) in
      rw (ne_eqb first.id id other) (hold-above id entries (above-lower id first.id entries behind rising.0))
]

-- something else is known there
pub set-here : (entries : List Entry) (id : ℕ) (entry : Entry) (known : Hold) → slice_get entries (rank entries id) ≡ Some entry → entry.id ≡ id → slice_set entries (rank entries id) (record entry { hold = known }) ≡ with_hold entries id known
unfolding with_hold
set-here [] id entry known there this = refl
set-here (first ∷ entries) id entry known there this = elim (cases_lt first.id id) [
  | inl before ↦ rw (rank-more first entries id before, ne_eqb first.id id (λ same. omega arith))
      (ap (λ (others : List Entry). first ∷ others) (set-here entries id entry known (rest-is first entries id entry before there) this))
  | inr behind ↦
      let is = first-is first entries id entry behind there in
      rw (rank-here first entries id behind, eq-eqb first.id id (ap (λ (one : Entry). one.id) is ∙ this))
      (ap (λ (it : Entry). let changed : Entry = record it { hold = known } in changed ∷ entries) (sym is))
]

with_hold-above : (id : ℕ) (known : Hold) (entries : List Entry) → AreAbove id entries → with_hold entries id known ≡ entries
unfolding AreAbove with_hold
with_hold-above id known [] above = refl
with_hold-above id known (entry ∷ entries) above = rw (ne_eqb entry.id id (λ same. omega (arith, above.0))) (ap (λ (others : List Entry). entry ∷ others) (with_hold-above id known entries above.1))

pub set-none : (entries : List Entry) (id : ℕ) (known : Hold) → IsRising entries → ((entry : Entry) → slice_get entries (rank entries id) ≡ Some entry → entry.id ≡ id → ⊥) → with_hold entries id known ≡ entries
unfolding with_hold IsRising
set-none [] id known rising apart = refl
set-none (first ∷ entries) id known rising apart = elim (cases_lt first.id id) [
  | inl before ↦ rw (ne_eqb first.id id (λ same. omega arith))
      (ap (λ (others : List Entry). first ∷ others) (set-none entries id known rising.1 (λ entry there. apart entry (subst (λ (k : ℕ). slice_get (first ∷ entries) k ≡ Some entry) (sym (rank-more first entries id before)) there))))
  | inr behind ↦
      let other : first.id ≢ id = apart first (subst (λ (k : ℕ). slice_get (first ∷ entries) k ≡ Some first) (sym (rank-here first entries id behind)) refl) in
      rw (ne_eqb first.id id other) (ap (λ (others : List Entry). first ∷ others) (with_hold-above id known entries (above-lower id first.id entries behind rising.0)))
]

-- its lock is free there
pub free-here : (entries : List Entry) (id : ℕ) (entry : Entry) → slice_get entries (rank entries id) ≡ Some entry → entry.id ≡ id → slice_set entries (rank entries id) (record entry { hold = hold.Free }) ≡ with_place entries id
unfolding with_place
free-here [] id entry there this = absurd (none-there entry there)
free-here (first ∷ entries) id entry there this = elim (cases_lt first.id id) [
  | inl before ↦ rw (rank-more first entries id before, lt-ltb first.id id before)
      (ap (λ (others : List Entry). first ∷ others) (free-here entries id entry (rest-is first entries id entry before there) this))
  | inr behind ↦
      let is = first-is first entries id entry behind there in
      rw (rank-here first entries id behind, le-ltb first.id id behind, eq-eqb first.id id (ap (λ (one : Entry). one.id) is ∙ this))
      (ap (λ (it : ℕ). free_entry it ∷ entries) this)
]

pub free-new : (entries : List Entry) (id : ℕ) → ((entry : Entry) → slice_get entries (rank entries id) ≡ Some entry → entry.id ≡ id → ⊥) → insert entries (rank entries id) (free_entry id) ≡ with_place entries id
unfolding with_place rank
free-new [] id apart = refl
free-new (first ∷ entries) id apart = elim (cases_lt first.id id) [
  | inl before ↦ rw (rank-more first entries id before, lt-ltb first.id id before)
      (ap (λ (others : List Entry). first ∷ others) (free-new entries id (λ entry there. apart entry (subst (λ (k : ℕ). slice_get (first ∷ entries) k ≡ Some entry) (sym (rank-more first entries id before)) there))))
  | inr behind ↦
      let other : first.id ≢ id = apart first (subst (λ (k : ℕ). slice_get (first ∷ entries) k ≡ Some first) (sym (rank-here first entries id behind)) refl) in
      rw (rank-here first entries id behind, le-ltb first.id id behind, ne_eqb first.id id other) refl
]

-- the same at a place that was found, in a list that was read as another one
pub set-at : (entries read : List Entry) (id place : ℕ) (entry : Entry) (known : Hold) → read ≡ entries → StandsAt read id place → entry ≡ slice_index_or entries place entry → slice_set entries place (record entry { hold = known }) ≡ with_hold entries id known
set-at entries read id place entry known same stands is =
    let stands_there : StandsAt entries id place = subst (λ (list : List Entry). StandsAt list id place) same stands in
    let there = stands-entry entries id place entry stands_there is in
    ap (λ (k : ℕ). slice_set entries k (record entry { hold = known })) stands_there.ranked ∙ set-here entries id entry known there.0 there.1

pub free-at : (entries read : List Entry) (id place : ℕ) (entry : Entry) → read ≡ entries → StandsAt read id place → entry ≡ slice_index_or entries place entry → slice_set entries place (record entry { hold = hold.Free }) ≡ with_place entries id
free-at entries read id place entry same stands is =
    let stands_there : StandsAt entries id place = subst (λ (list : List Entry). StandsAt list id place) same stands in
    let there = stands-entry entries id place entry stands_there is in
    ap (λ (k : ℕ). slice_set entries k (record entry { hold = hold.Free })) stands_there.ranked ∙ free-here entries id entry there.0 there.1

apart-at : (entries : List Entry) (id place : ℕ) → BelongsAt entries id place → (entry : Entry) → slice_get entries (rank entries id) ≡ Some entry → entry.id ≡ id → ⊥
apart-at entries id place belongs entry there = belongs.apart entry (subst (λ (k : ℕ). slice_get entries k ≡ Some entry) (sym belongs.ranked) there)

pub none-at : (entries read : List Entry) (id place : ℕ) (known : Hold) → read ≡ entries → IsRising entries → BelongsAt read id place → entries ≡ with_hold entries id known
none-at entries read id place known same rising belongs =
    sym (set-none entries id known rising (apart-at entries id place (subst (λ (list : List Entry). BelongsAt list id place) same belongs)))

pub new-at : (entries read : List Entry) (id place : ℕ) → read ≡ entries → BelongsAt read id place → insert entries place (free_entry id) ≡ with_place entries id
new-at entries read id place same belongs =
    let belongs_there : BelongsAt entries id place = subst (λ (list : List Entry). BelongsAt list id place) same belongs in
    ap (λ (k : ℕ). insert entries k (free_entry id)) belongs_there.ranked ∙ free-new entries id (apart-at entries id place belongs_there)
