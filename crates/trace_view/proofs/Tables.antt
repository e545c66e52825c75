-- The table of what was counted.
use Rattle.std.proofs.Common.{ℕ, ◌≡◌, ◌+◌, ◌-◌, ◌<◌, ◌≤◌, ◌⊎◌, ◌==◌, ◌&&◌, BTreeMap, Bool, true, false, not, cond, Contains, List, codes, decimal, [], ◌∷◌, ◌++◌, length, filter, flat_map, slice_get, zero, suc, Option, Some, None, is_some, option_map, Ordering, Less, Equal, Greater, unwrap_or, is_eq, nat_cmp, refl, sym, ap, ap₂, subst, ◌∙◌, append_assoc, append-nil, arith, inl, inr, ⊎_elim, ne_eqb}
use Rattle.std.specs.BTreeMap.{IsOrdered, get, is_at}
use Rattle.std.specs.Cmp.{IsTotalOrder, eq_by_cmp_equiv, nat_cmp_total, on_total, then_total}
use Rattle.std.specs.List.{AllByRecursion, list_any}
use Rattle.std.specs.List.Sorted.{IsStrictlySortedBy}
use Rattle.std.specs.Map.{keys_of}
use Rattle.std.specs.Ordering.{MatchOrdering, eq_by_cmp, ordering_then}
use Rattle.std.proofs.lemmas.Bool.{cond-false}
use Rattle.std.proofs.lemmas.Bool.Decides.{nat_tests}
use Rattle.std.proofs.lemmas.Cmp.{ranked}
use Rattle.std.proofs.lemmas.List.Elements.{All-contains, All-weaker, filter_passes, recursion_from_All}
use Rattle.std.proofs.lemmas.List.Kept.{IsStrictlySortedBy-filter}
use Rattle.std.proofs.lemmas.Map.Keys.{sorted_head, sorted_tail}
use Rattle.std.proofs.lemmas.Map.Lookups.{CmpEqualImpliesEq}
use Rattle.std.proofs.lemmas.Map.Made.{is_member-filter, is_some-lookup}
use Rattle.std.proofs.lemmas.Map.Views.{All-found, Contains-from_any, tells_apart}
use Rattle.std.proofs.lemmas.Option.{none-some, same_Some}
use Rattle.ompt_calls.specs.declared.event.EventRecord.{EventRecord}
use Rattle.ompt_calls.specs.Line.{place_text, spaced}
use Rattle.trace_check.specs.Nested.{last_seq}
use Rattle.trace_view.specs.declared.wait_ends.WaitKey.{WaitKey}
use Rattle.trace_view.specs.declared.wait_tallies.Tally.{Tally}
use Rattle.trace_view.specs.Waits.{AreInOrder, IsBefore, IsWaitTable, begun_waits, cause_text, wait_line, waits_head}
use Rattle.trace_view.specs.WaitTallies.{HasTallies, key_cmp, line_of, no_waits, open_of, tally_line, tally_of, waited_until}
use Rattle.trace_view.proofs.Counting.{one_key, same_by_order}

-- ---- the last event

last_at : (events : List EventRecord) (place : ℕ) → place + 1 ≡ length events
    → option_map (λ (event : EventRecord). event.seq) (slice_get events place) ≡ Some (last_seq events)
last_at [] place is = absurd (omega arith)
last_at (event ∷ []) zero is = refl
last_at (event ∷ []) (suc place) is = absurd (omega arith)
last_at (event ∷ next ∷ rest) zero is = absurd (omega arith)
last_at (event ∷ next ∷ rest) (suc place) is = last_at (next ∷ rest) place (omega arith)

pub last_is : (events : List EventRecord) (event : EventRecord) → Some event ≡ slice_get events (length events - 1) → event.seq ≡ last_seq events
last_is [] event is = absurd (none-some event (sym is))
last_is (first ∷ rest) event is =
    same_Some event.seq (last_seq (first ∷ rest))
    (ap (option_map (λ (e : EventRecord). e.seq)) is ∙ last_at (first ∷ rest) (length (first ∷ rest) - 1) (omega arith))

pub none_last : (events : List EventRecord) → None ≡ slice_get events (length events - 1) → 0 ≡ last_seq events
none_last [] is = refl
none_last (first ∷ rest) is =
    absurd (none-some (last_seq (first ∷ rest))
    (ap (option_map (λ (e : EventRecord). e.seq)) is ∙ last_at (first ∷ rest) (length (first ∷ rest) - 1) (omega arith)))

-- ---- the order of keys

keys_total : IsTotalOrder key_cmp
keys_total =
    then_total (on_total (λ (key : WaitKey). key.place) nat_cmp_total)
    (then_total (on_total (λ (key : WaitKey). key.cause) nat_cmp_total) (on_total (λ (key : WaitKey). key.thread) nat_cmp_total))

keys_apart : CmpEqualImpliesEq key_cmp
keys_apart key other equal = one_key key other (sym (same_by_order key other) ∙ ap is_eq equal)

ranks : (x y : ℕ) → MatchOrdering (nat_cmp x y) (x < y) (x ≡ y) (y < x)
ranks x y = ranked x y (nat_cmp x y) refl

number_less : (x y : ℕ) → nat_cmp x y ≡ Less → x < y
number_less x y less = subst (λ (r : Ordering). MatchOrdering r (x < y) (x ≡ y) (y < x)) less (ranks x y)

-- by numbers, and where they are the same by what stands behind them
then_less : (x y : ℕ) (first after : Ordering) → MatchOrdering first (x < y) (x ≡ y) (y < x) → ordering_then first after ≡ Less
    → (x < y) ⊎ ((x ≡ y) × (after ≡ Less))
then_less x y Less after says less = inl says
then_less x y Equal after says less = inr (says, less)
then_less x y Greater after says less = absurd (cc)

before : (key other : WaitKey) → key_cmp key other ≡ Less → IsBefore key other
before key other less =
    ⊎_elim (λ place. inl place) (λ same. inr (same.0, behind same.1))
    (then_less key.place other.place (nat_cmp key.place other.place) (ordering_then (nat_cmp key.cause other.cause) (nat_cmp key.thread other.thread))
    (ranks key.place other.place) less)
  where
    behind : ordering_then (nat_cmp key.cause other.cause) (nat_cmp key.thread other.thread) ≡ Less
        → (key.cause < other.cause) ⊎ ((key.cause ≡ other.cause) × (key.thread < other.thread))
    behind after =
        ⊎_elim (λ cause. inl cause) (λ same. inr (same.0, number_less key.thread other.thread same.1))
        (then_less key.cause other.cause (nat_cmp key.cause other.cause) (nat_cmp key.thread other.thread) (ranks key.cause other.cause) after)

in_order : (keys : List WaitKey) → IsStrictlySortedBy key_cmp keys → AreInOrder keys
in_order [] sorted = tt
in_order (key ∷ []) sorted = tt
in_order (key ∷ other ∷ rest) sorted = (
  before key other (sorted_head key_cmp key (other ∷ rest) sorted).0,
  in_order (other ∷ rest) (sorted_tail key_cmp key (other ∷ rest) sorted),
)

-- ---- the keys with a wait

abbrev has_wait : List EventRecord → WaitKey → Bool
has_wait events key = not (begun_waits key events == 0)

some_begun : (count : ℕ) → not (count == 0) ≡ true → 1 ≤ count
some_begun count some = grind (arith, nat_tests)

begun_some : (count : ℕ) → 1 ≤ count → not (count == 0) ≡ true
begun_some count some = grind (arith, nat_tests)

is_kept : (kept : Option Tally) → 1 ≤ (unwrap_or kept no_waits).begins.count → is_some kept ≡ true
is_kept None some = absurd (omega arith)
is_kept (Some tally) some = refl

-- a key with a wait is among them
is_listed : (tallies : BTreeMap WaitKey Tally) (events : List EventRecord) → HasTallies tallies events
    → (key : WaitKey) → 1 ≤ begun_waits key events → Contains (filter (has_wait events) (keys_of tallies.entries)) key
is_listed tallies events has key some =
    Contains-from_any (tells_apart keys_apart) key (filter (has_wait events) (keys_of tallies.entries))
    (is_member-filter (eq_by_cmp_equiv keys_total) (has_wait events) key (λ (x : WaitKey) same. ap (has_wait events) (tells_apart keys_apart key x same))
    (keys_of tallies.entries)
    ∙ ap₂ (λ (a b : Bool). a && b) found (begun_some (begun_waits key events) some))
  where
    found : list_any (eq_by_cmp key_cmp key) (keys_of tallies.entries) ≡ true
    found =
        sym (is_some-lookup (is_at (key_cmp key)) tallies.entries)
        ∙ is_kept (get key_cmp tallies key) (subst (λ (tally : Tally). 1 ≤ tally.begins.count) (sym (has key)) some)

-- ---- the lines

abbrev HasTallyOf : List EventRecord → WaitKey × Tally → Type 0
HasTallyOf events entry = entry.1 ≡ tally_of entry.0 events

joined : (p c t n w o s e : List ℕ)
    → p ++ (s ++ (c ++ (s ++ (t ++ (s ++ (n ++ (s ++ (w ++ (s ++ (o ++ e)))))))))) ≡ (p ++ s ++ (c ++ s ++ (t ++ s ++ (n ++ s ++ (w ++ s ++ o))))) ++ e
joined p c t n w o s e = simp append_assoc

-- the line of a key with a wait, as it is written
pub written_line :
    (last : ℕ) (key : WaitKey) (tally : Tally) (waited opened : ℕ)
    → (tally.begins.count ≡ 0 → ⊥) → waited ≡ waited_until last tally → opened ≡ open_of tally
    → place_text key.place ++ (codes " " ++ (cause_text key.cause ++ (codes " " ++ (decimal key.thread ++ (codes " " ++ (decimal tally.begins.count
    ++ (codes " " ++ (decimal waited ++ (codes " " ++ (decimal opened ++ 10 ∷ [])))))))))) ≡ line_of last (key, tally)
written_line last key tally waited opened some took left =
    joined (place_text key.place) (cause_text key.cause) (decimal key.thread) (decimal tally.begins.count) (decimal waited) (decimal opened) (codes " ") (10 ∷ [])
    ∙ (ap₂ (λ (w o : ℕ). spaced (place_text key.place ∷ cause_text key.cause ∷ decimal key.thread ∷ decimal tally.begins.count ∷ decimal w ∷ decimal o ∷ [])
    ++ 10 ∷ []) took left
    ∙ sym (cond-false (tally.begins.count == 0) [] (tally_line last key tally) (ne_eqb tally.begins.count 0 some)))

-- nothing is written of a key that is left out
left_out : (none : Bool) (events : List EventRecord) (key : WaitKey) (keys : List WaitKey)
    → cond none [] (wait_line events key) ++ flat_map (wait_line events) keys ≡ flat_map (wait_line events) (cond (not none) (key ∷ keys) keys)
left_out true events key keys = refl
left_out false events key keys = refl

lines_are : (events : List EventRecord) (entries : List (WaitKey × Tally)) → AllByRecursion (HasTallyOf events) entries
    → flat_map (line_of (last_seq events)) entries ≡ flat_map (wait_line events) (filter (has_wait events) (keys_of entries))
lines_are events [] each = refl
lines_are events (entry ∷ entries) each =
    ap₂ (λ (line lines : List ℕ). line ++ lines) (ap (λ (tally : Tally). line_of (last_seq events) (entry.0, tally)) each.0)
    (lines_are events entries each.1)
    ∙ left_out (begun_waits entry.0 events == 0) events entry.0 (filter (has_wait events) (keys_of entries))

-- the lines of what is left, behind one that was written
pub line_more :
    {X : Type 0} (line : X → List ℕ) (old new whole : List ℕ) (left rest : List X) (next : X)
    → left ≡ next ∷ rest → new ≡ old ++ line next → old ++ flat_map line left ≡ whole → new ++ flat_map line rest ≡ whole
line_more line old new whole left rest next is added before =
    ap (λ (text : List ℕ). text ++ flat_map line rest) added
    ∙ (append_assoc old (line next) (flat_map line rest) ∙ (sym (ap (λ (list : List _). old ++ flat_map line list) is) ∙ before))

pub line_all : {X : Type 0} (line : X → List ℕ) (text whole : List ℕ) (left : List X) → left ≡ [] → text ++ flat_map line left ≡ whole → text ≡ whole
line_all line text whole left is before = sym (append-nil text) ∙ (sym (ap (λ (list : List _). text ++ flat_map line list) is) ∙ before)

-- ---- the table

pub is_table :
    (tallies : BTreeMap WaitKey Tally) (last : ℕ) (text : List ℕ) → IsOrdered key_cmp tallies
    → text ≡ waits_head ++ flat_map (line_of last) tallies.entries
    → (events : List EventRecord) → HasTallies tallies events → last ≡ last_seq events → IsWaitTable events text
is_table tallies last text ordered written events has last_is = record {
  keys = filter (has_wait events) (keys_of tallies.entries);
  in_order = in_order (filter (has_wait events) (keys_of tallies.entries)) (IsStrictlySortedBy-filter key_cmp (has_wait events) (keys_of tallies.entries) ordered);
  some = λ key among. some_begun (begun_waits key events)
      (All-contains (λ (k : WaitKey). has_wait events k ≡ true) (filter (has_wait events) (keys_of tallies.entries)) key
      (filter_passes (has_wait events) (keys_of tallies.entries)) among);
  all = is_listed tallies events has;
  text_is = written ∙ (ap (λ (n : ℕ). waits_head ++ flat_map (line_of n) tallies.entries) last_is
      ∙ ap (λ (lines : List ℕ). waits_head ++ lines) (lines_are events tallies.entries each));
}
  where
    each : AllByRecursion (HasTallyOf events) tallies.entries
    each =
        recursion_from_All (HasTallyOf events) tallies.entries
        (All-weaker (λ (entry : WaitKey × Tally). get key_cmp tallies entry.0 ≡ Some entry.1) (HasTallyOf events)
        (λ (entry : WaitKey × Tally) found. sym (ap (λ (kept : Option Tally). unwrap_or kept no_waits) found) ∙ has entry.0)
        tallies.entries (All-found keys_total tallies ordered))
