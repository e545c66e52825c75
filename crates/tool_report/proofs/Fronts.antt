-- Of events whose positions rise, those up to a position are the first ones.
use Rattle.std.proofs.Common.{◌≡◌, ℕ, zero, suc, ◌+◌, ◌-◌, ◌*◌, ◌/◌, ◌<◌, ◌≤◌, Bool, true, false, cond, List, [], ◌∷◌, ◌++◌, length, get_or, take, map, refl, sym, ◌∙◌, ap, append_assoc, inl, inr, arith}
use Rattle.std.specs.List.{filter, range_with_len}
use Rattle.std.proofs.Math.Dec.{leb}
use Rattle.std.proofs.Math.Nat.{mul-le-mul_right, div-mul-le_self}
use Rattle.std.proofs.lemmas.Nat.{le-div}
use Rattle.std.proofs.lemmas.Bool.{le-leb, lt-leb}
use Rattle.std.proofs.lemmas.Bool.Decides.{leb_tells}
use Rattle.std.proofs.lemmas.List.{length-map}
use Rattle.std.proofs.lemmas.List.FromFn.{map-range_with_len_more}
use Rattle.ompt_calls.specs.declared.event.EventRecord.{EventRecord}
use Rattle.tool_report.specs.Moments.{moment_of, moments_of}
use Rattle.tool_report.specs.Order.{AreFrom, AreRising}
use Rattle.tool_report.specs.Timeline.{column_end, column_letter, letter_of, letter_of_last}
use Rattle.tool_report.specs.declared.timeline.Moment.{Moment}

-- the events up to this position
abbrev pub up_to : ℕ → List EventRecord → List EventRecord
up_to position events = filter (λ (event : EventRecord). leb event.seq position) events

-- none is up to a position before the least
none-up_to : (least position : ℕ) (events : List EventRecord) → AreFrom least events → position < least → up_to position events ≡ []
none-up_to least position [] from before = refl
none-up_to least position (event ∷ events) from before = rw (lt-leb event.seq position (omega (arith, from.0))) (none-up_to least position events from.1 before)

-- those up to a position are the first ones
pub front_is : (position : ℕ) (events : List EventRecord) → AreRising events → take (length (up_to position events)) events ≡ up_to position events
front_is position [] rising = refl
front_is position (event ∷ events) rising =
    elim (leb_tells event.seq position) as (λ _. take (length (up_to position (event ∷ events))) (event ∷ events) ≡ up_to position (event ∷ events)) [ inl here ↦ rw (here.0) (ap (λ rest. event ∷ rest) (front_is position events rising.1)) | inr past ↦ rw (past.0, none-up_to (event.seq + 1) position events rising.0 (omega (arith, past.1))) refl ]

-- each of these is from the least on
from-at : (least k : ℕ) (m : Moment) (events : List EventRecord) → AreFrom least events → k < length events → least ≤ (get_or (moments_of events) k m).seq
from-at least k m [] from below = absurd (omega arith)
from-at least zero m (event ∷ events) from below = from.0
from-at least (suc k) m (event ∷ events) from below = from-at least k m events from.1 (omega arith)

-- one up to the position is among the first ones
pub reaches : (position k : ℕ) (m : Moment) (events : List EventRecord) → AreRising events → k < length events → (get_or (moments_of events) k m).seq ≤ position → k < length (up_to position events)
reaches position k m [] rising below here = absurd (omega arith)
reaches position zero m (event ∷ events) rising below here = rw (le-leb event.seq position here) (omega arith)
reaches position (suc k) m (event ∷ events) rising below here =
    let least = from-at (event.seq + 1) k m events rising.0 (omega arith) in
    let rest = reaches position k m events rising.1 (omega arith) here in
    rw (le-leb event.seq position (omega arith)) (omega arith)

-- where one is past the position there are no more of the first ones
pub stops : (position k : ℕ) (m : Moment) (events : List EventRecord) → AreRising events → k < length events → position < (get_or (moments_of events) k m).seq → length (up_to position events) ≤ k
stops position k m [] rising below past = absurd (omega arith)
stops position zero m (event ∷ events) rising below past = rw (lt-leb event.seq position past, none-up_to (event.seq + 1) position events rising.0 (omega arith)) (omega arith)
stops position (suc k) m (event ∷ events) rising below past =
    elim (leb_tells event.seq position) as (λ _. length (up_to position (event ∷ events)) ≤ suc k) [ inl here ↦ rw (here.0) (let rest = stops position k m events rising.1 (omega arith) past in omega arith) | inr other ↦ rw (other.0, none-up_to (event.seq + 1) position events rising.0 (omega (arith, other.1))) (omega arith) ]

-- the first ones are no more than all
pub front_within : (position : ℕ) (events : List EventRecord) → length (up_to position events) ≤ length events
front_within position [] = omega arith
front_within position (event ∷ events) =
    let rest = front_within position events in
    elim (leb_tells event.seq position) as (λ _. length (up_to position (event ∷ events)) ≤ length (event ∷ events)) [ inl here ↦ rw (here.0) (omega arith) | inr past ↦ rw (past.0) (omega arith) ]

-- up to a later position there are at least as many
pub front_grows : (position later : ℕ) (events : List EventRecord) → position ≤ later → length (up_to position events) ≤ length (up_to later events)
front_grows position later [] le = omega arith
front_grows position later (event ∷ events) le =
    let rest = front_grows position later events le in
    elim (leb_tells event.seq position) as (λ _. length (up_to position (event ∷ events)) ≤ length (up_to later (event ∷ events))) [ inl here ↦ rw (here.0, le-leb event.seq later (omega (arith, here.1))) (omega arith) | inr past ↦ rw (past.0) (elim (leb_tells event.seq later) as (λ _. length (up_to position events) ≤ length (up_to later (event ∷ events))) [ inl more ↦ rw (more.0) (omega arith) | inr none ↦ rw (none.0) rest ]) ]

-- the letter of the last of the first ones
pub letter_at : (k : ℕ) (m : Moment) (events : List EventRecord) → k < length events → letter_of_last (take (suc k) events) ≡ letter_of (get_or (moments_of events) k m).state
letter_at k m [] below = absurd (omega arith)
letter_at zero m (event ∷ events) below = refl
letter_at (suc k) m (event ∷ []) below = absurd (omega arith)
letter_at (suc k) m (event ∷ next ∷ events) below = letter_at k m (next ∷ events) (omega arith)

-- a quotient grows with what is divided
div_grows : (a b n : ℕ) → 0 < n → a ≤ b → a / n ≤ b / n
div_grows a b n some le = le-div (a / n) b n some (let least = div-mul-le_self a n in omega arith)

-- so a column does not end before the one in front of it
pub column_end_grows : (columns span column : ℕ) → 0 < columns → column_end columns span column ≤ column_end columns span (column + 1)
column_end_grows columns span column some = div_grows ((column + 1) * span - 1) ((column + 1 + 1) * span - 1) columns some (let more : (column + 1) * span ≤ (column + 1 + 1) * span = mul-le-mul_right span (omega arith) in omega arith)

-- where the first ones are counted, their last letter is the column's
pub letter_of_front : (columns span column : ℕ) (events : List EventRecord) → AreRising events → letter_of_last (take (length (up_to (column_end columns span column) events)) events) ≡ column_letter columns span events column
letter_of_front columns span column events rising = ap letter_of_last (front_is (column_end columns span column) events rising)

-- positions that rise still do where some are left out
from-cond : (b : Bool) (least : ℕ) (event : EventRecord) (rest : List EventRecord) → least ≤ event.seq → AreFrom least rest → AreFrom least (cond b (event ∷ rest) rest)
from-cond true least event rest first from = (first, from)
from-cond false least event rest first from = from

rising-cond : (b : Bool) (event : EventRecord) (rest : List EventRecord) → AreFrom (event.seq + 1) rest → AreRising rest → AreRising (cond b (event ∷ rest) rest)
rising-cond true event rest from rising = (from, rising)
rising-cond false event rest from rising = rising

kept-from : (keep : EventRecord → Bool) (least : ℕ) (events : List EventRecord) → AreFrom least events → AreFrom least (filter keep events)
kept-from keep least [] from = tt
kept-from keep least (event ∷ events) from = from-cond (keep event) least event (filter keep events) from.0 (kept-from keep least events from.1)

pub kept_rising : (keep : EventRecord → Bool) (events : List EventRecord) → AreRising events → AreRising (filter keep events)
kept_rising keep [] rising = tt
kept_rising keep (event ∷ events) rising = rising-cond (keep event) event (filter keep events) (kept-from keep (event.seq + 1) events rising.0) (kept_rising keep events rising.1)

-- the same of what is kept of them
pub more_front : (moments : List Moment) (position k : ℕ) (m : Moment) (events : List EventRecord) → AreRising events → moments ≡ moments_of events → k < length moments → (get_or moments k m).seq ≤ position → k + 1 ≤ length (up_to position events)
more_front moments position k m events rising is below here =
    let as_long = ap length is ∙ length-map events moment_of in
    let low = rw is at here in
    let more = reaches position k m events rising (omega arith) low in
    omega arith

-- and where what is kept goes past the position, there are no more
pub front_ends : (moments : List Moment) (position k : ℕ) (m : Moment) (events : List EventRecord) → AreRising events → moments ≡ moments_of events → k < length moments → position < (get_or moments k m).seq → length (up_to position events) ≤ k
front_ends moments position k m events rising is below past =
    let as_long = ap length is ∙ length-map events moment_of in
    let high = rw is at past in
    stops position k m events rising (omega arith) high

-- in any case there are no more than all that is kept
pub front_in : (moments : List Moment) (position : ℕ) (events : List EventRecord) → moments ≡ moments_of events → length (up_to position events) ≤ length moments
front_in moments position events is =
    let as_long = ap length is ∙ length-map events moment_of in
    let within = front_within position events in
    omega arith

-- and the letter of the last of so many of them
pub letter_is : (moments : List Moment) (past : ℕ) (m : Moment) (events : List EventRecord) → moments ≡ moments_of events → past ≤ length moments → (past ≡ 0 → ⊥) → letter_of (get_or moments (past - 1) m).state ≡ letter_of_last (take past events)
letter_is moments zero m events is le some = absurd (some refl)
letter_is moments (suc k) m events is le some =
    let as_long = ap length is ∙ length-map events moment_of in
    let before : suc k - 1 ≡ k = omega arith in
    rw (before, is) (sym (letter_at k m events (omega arith)))

-- a count up to where a column ends
pub counts_on : (columns span column past end : ℕ) (events : List EventRecord) → end ≡ column_end columns span column → past ≤ length (up_to (column_end columns span column) events) → past ≤ length (up_to end events)
counts_on columns span column past end events is le = rw is le

-- how many are up to the end of a column are no more than up to the next's
pub next_front : (columns span column past end : ℕ) (events : List EventRecord) → 0 < columns → end ≡ column_end columns span column → past ≡ length (up_to end events) → past ≤ length (up_to (column_end columns span (column + 1)) events)
next_front columns span column past end events some is counted =
    let here = counted ∙ ap (λ position. length (up_to position events)) is in
    let grows = front_grows (column_end columns span column) (column_end columns span (column + 1)) events (column_end_grows columns span column some) in
    omega (arith, here, grows)

-- its letter
pub column_is : (columns span column past end : ℕ) (events : List EventRecord) → AreRising events → end ≡ column_end columns span column → past ≡ length (up_to end events) → letter_of_last (take past events) ≡ column_letter columns span events column
column_is columns span column past end events rising is counted = ap (λ n. letter_of_last (take n events)) (counted ∙ ap (λ position. length (up_to position events)) is) ∙ letter_of_front columns span column events rising

-- and the letters up to it
pub letters_more : (f : ℕ → ℕ) (column letter : ℕ) (before text longer : List ℕ) → text ≡ before ++ map f (range_with_len 0 column) → longer ≡ text ++ letter ∷ [] → letter ≡ f column → longer ≡ before ++ map f (range_with_len 0 (column + 1))
letters_more f column letter before text longer so_far pushed is =
    pushed ∙ ap (λ all. all ++ letter ∷ []) so_far ∙ append_assoc before (map f (range_with_len 0 column)) (letter ∷ [])
    ∙ ap (λ rest. before ++ rest) (ap (λ last. map f (range_with_len 0 column) ++ last ∷ []) is ∙ sym (map-range_with_len_more f 0 column column (omega arith)))
