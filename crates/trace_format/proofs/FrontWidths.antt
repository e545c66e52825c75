-- How many bytes the fields have that were accepted, and how many the arguments have that come behind them.
use Rattle.std.proofs.Common.{ℕ, ◌≡◌, ◌≤◌, ◌+◌, ◌==◌, ◌&&◌, inl, inr, true, false, List, [], ◌∷◌, ◌++◌, length, drop, Some, None, refl, ap, sym, ◌∙◌, length-append, true≢false, arith}
use Rattle.std.proofs.lemmas.Bool.{and_parts, or_cases}
use Rattle.byteorder.specs.Endian.{big_number}
use Rattle.omp_codes.specs.Answers.{in_profile}
use Rattle.ompt_calls.specs.Number.{is_registered}
use Rattle.trace_format.specs.declared.kind.Kind.{Kind}
use Rattle.trace_format.specs.declared.trace.Header.{Header}
use Rattle.trace_format.specs.Accepting.{Next, argument_next, kinds_of, record_next, width_of}
use Rattle.trace_format.specs.Flat.{total}
use Rattle.trace_format.specs.Reached.{AreAccepted, IsAccepted, flat}
use Rattle.trace_format.specs.Taking.{Stage}
use Rattle.trace_format.proofs.ArgumentLists.{StartArguments, arguments_start, fits, width_in}
use Rattle.trace_format.proofs.ArgumentPlaces.{Row, all_rows, looked_up}
use Rattle.trace_format.proofs.HeaderPlaces.{width_at}
use Rattle.trace_format.proofs.RecordPlaces.{at_event, at_record, number_width}
use Rattle.trace_format.proofs.Widths.{chosen}

abbrev pub IsFew : List Kind → Type 0
IsFew kinds = total kinds ≤ 48

abbrev pub AreFew : List Row → Type 0
AreFew [] = Unit {0}
AreFew (row ∷ rows) = IsFew row.kinds × AreFew rows

few_in : (rows : List Row) (number : ℕ) → AreFew rows → IsFew (looked_up rows number)
few_in [] number all = omega arith
few_in (row ∷ rows) number all = chosen IsFew (row.test number) row.kinds (looked_up rows number) all.0 (few_in rows number all.1)

-- no callback has more than 48 bytes of arguments
pub few_kinds : (number : ℕ) → total (kinds_of number) ≤ 48
few_kinds number =
    few_in all_rows number
    (omega arith, (omega arith, (omega arith, (omega arith, (omega arith, (omega arith, (omega arith, (omega arith, (omega arith, (omega arith, (omega arith, (omega arith, (omega arith, (omega arith, (omega arith, (omega arith, tt))))))))))))))))

-- the first arguments and those that come behind them have the bytes of all
pub start_width : (before : List (List ℕ)) (kinds : List Kind) (args : List (List ℕ)) → StartArguments before kinds args → length (flat args) + total (drop (length args) kinds) ≡ total kinds
start_width before kinds [] start = omega arith
start_width before [] (bytes ∷ rest) start = absurd start
start_width before (which ∷ kinds) (bytes ∷ rest) start =
    let i : length (flat rest) + total (drop (length rest) kinds) ≡ total kinds = start_width (before ++ bytes ∷ []) kinds rest start.1 in
    let w : length bytes ≡ width_of which = start.0.width in
    omega (arith, i, w, length-append bytes (flat rest))

-- the next one is among those that come
pub next_width : (before : List (List ℕ)) (kinds : List Kind) (args : List (List ℕ)) (next : Next) → argument_next before kinds args ≡ Some next → next.width ≤ total (drop (length args) kinds)
next_width before [] args next e = absurd cc
next_width before (kind ∷ kinds) [] next e =
    let w : width_of kind ≡ next.width = ap width_in e in
    omega (arith, w)
next_width before (kind ∷ kinds) (bytes ∷ rest) next e = next_width (before ++ bytes ∷ []) kinds rest next e

-- .. and where none comes there are none
pub none_width : (before : List (List ℕ)) (kinds : List Kind) (args : List (List ℕ)) → argument_next before kinds args ≡ None → total (drop (length args) kinds) ≡ 0
none_width before [] [] e = refl
none_width before [] (bytes ∷ rest) e = refl
none_width before (kind ∷ kinds) [] e = absurd cc
none_width before (kind ∷ kinds) (bytes ∷ rest) e = none_width (before ++ bytes ∷ []) kinds rest e

-- the number of a callback is one of the profile
pub in_profile_of :
    (stage : Stage) (header : Header) (number : List ℕ) → stage.over ≡ false → stage.header ≡ Some header → (big_number 1 number == 0) ≡ false → IsAccepted stage [] number
    → in_profile (big_number 1 number) ≡ true
in_profile_of stage header number goes some e acc =
    let f = fits stage [] number (record_next header stage []) acc (at_record stage header [] goes some) in
    let n = big_number 1 number in
    elim (or_cases (n == 0) (in_profile n && is_registered header.mask n) f.accepted) [
      | inl none ↦ absurd (true≢false (sym none ∙ e))
      | inr both ↦ (and_parts (in_profile n) (is_registered header.mask n) both).0
    ]

-- the arguments of an event that were accepted are the first of its callback's
pub args_start :
    (stage : Stage) (header : Header) (number q t s w : List ℕ) (args : List (List ℕ)) → stage.over ≡ false → stage.header ≡ Some header → (big_number 1 number == 0) ≡ false
    → AreAccepted stage [] (number ∷ q ∷ t ∷ s ∷ w ∷ args) → StartArguments [] (kinds_of (big_number 1 number)) args
args_start stage header number q t s w args goes some e acc =
    arguments_start stage (number ∷ q ∷ t ∷ s ∷ w ∷ []) [] (kinds_of (big_number 1 number)) args (λ more. at_event stage header number (q ∷ t ∷ s ∷ w ∷ more) goes some e) acc.1.1.1.1.1

-- the first fields of an event
pub record EventWidths (number q t s w : List ℕ) : Type 0 where
  pub first : length number ≡ 1
  pub seq : length q ≡ 4
  pub thread : length t ≡ 1
  pub state : length s ≡ 2
  pub wait_id : length w ≡ 4

pub event_widths :
    (stage : Stage) (header : Header) (number q t s w : List ℕ) (args : List (List ℕ)) → stage.over ≡ false → stage.header ≡ Some header → (big_number 1 number == 0) ≡ false
    → AreAccepted stage [] (number ∷ q ∷ t ∷ s ∷ w ∷ args) → EventWidths number q t s w
event_widths stage header number q t s w args goes some e acc =
    record {
      first = number_width stage header number goes some acc.0;
      seq = width_at stage (number ∷ []) q _ acc.1.0 (at_event stage header number [] goes some e);
      thread = width_at stage (number ∷ q ∷ []) t _ acc.1.1.0 (at_event stage header number (q ∷ []) goes some e);
      state = width_at stage (number ∷ q ∷ t ∷ []) s _ acc.1.1.1.0 (at_event stage header number (q ∷ t ∷ []) goes some e);
      wait_id = width_at stage (number ∷ q ∷ t ∷ s ∷ []) w _ acc.1.1.1.1.0 (at_event stage header number (q ∷ t ∷ s ∷ []) goes some e);
    }

-- an event has 12 bytes before its arguments
pub event_width :
    (stage : Stage) (header : Header) (number q t s w : List ℕ) (args : List (List ℕ)) → stage.over ≡ false → stage.header ≡ Some header → (big_number 1 number == 0) ≡ false
    → AreAccepted stage [] (number ∷ q ∷ t ∷ s ∷ w ∷ args) → length (flat (number ∷ q ∷ t ∷ s ∷ w ∷ args)) ≡ 12 + length (flat args)
event_width stage header number q t s w args goes some e acc =
    let k : EventWidths number q t s w = event_widths stage header number q t s w args goes some e acc in
    omega (arith, k.first, k.seq, k.thread, k.state, k.wait_id, length-append number (q ++ (t ++ (s ++ (w ++ flat args)))), length-append q (t ++ (s ++ (w ++ flat args))), length-append t (s ++ (w ++ flat args)), length-append s (w ++ flat args), length-append w (flat args))
