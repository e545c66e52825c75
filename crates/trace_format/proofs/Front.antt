-- The bytes of fields that were accepted: which field comes next by them, how many there are, and what can be read of them.
use Rattle.std.proofs.Common.{ℕ, zero, suc, ◌≡◌, ◌≤◌, ◌+◌, ◌-◌, ◌==◌, Bool, cond, true, false, List, [], ◌∷◌, ◌++◌, length, drop, Option, Some, None, refl, ap, sym, ◌∙◌, subst, length-append, slice_get, ne_eqb, arith}
use Rattle.std.proofs.lemmas.Bool.{eqb-true}
use Rattle.byteorder.specs.Endian.{big_number}
use Rattle.byteorder.specs.Numbers.{big_from-append}
use Rattle.trace_format.specs.declared.trace.Header.{Header}
use Rattle.trace_format.specs.declared.kind.Kind.{Kind}
use Rattle.trace_format.specs.declared.kind.Kind.TheVariants.{Iterations}
use Rattle.trace_format.specs.Accepting.{Next, end_next, event_next, header_next, kinds_of, next_in, next_of, record_next}
use Rattle.trace_format.specs.Flat.{HasNumber, IsFront, SpellsItem, SpellsRecord, arguments_width, reason_width, total}
use Rattle.trace_format.specs.Reached.{AreAccepted, IsAccepted, flat}
use Rattle.trace_format.specs.Taking.{Stage}
use Rattle.trace_format.proofs.ArgumentLists.{StartArguments, width_in}
use Rattle.trace_format.proofs.ArgumentPlaces.{IsDispatch, dispatched, is_dispatch}
use Rattle.trace_format.proofs.FrontWidths.{args_start, event_width, few_kinds, in_profile_of, next_width, none_width, start_width}
use Rattle.trace_format.proofs.HeaderPlaces.{HeaderWidths, at_header, header_widths, read_field, width_at}
use Rattle.trace_format.proofs.RecordPlaces.{at_end, at_event, at_record, number_width}
use Rattle.trace_format.proofs.Widths.{few_from, good_next}

-- there is room in a header
room_header : (stage : Stage) (fields : List (List ℕ)) (next : Next) → stage.over ≡ false → stage.header ≡ None → AreAccepted stage [] fields → header_next fields ≡ Some next → length (flat fields) + next.width ≤ 60
room_header stage [] next goes none acc e =
    let n : 4 ≡ next.width = ap width_in e in
    omega (arith, n)
room_header stage (a ∷ []) next goes none acc e =
    let n : 2 ≡ next.width = ap width_in e in
    let w : length a ≡ 4 = width_at stage [] a _ acc.0 (at_header stage [] goes none) in
    omega (arith, n, w, length-append a [])
room_header stage (a ∷ b ∷ []) next goes none acc e =
    let n : 1 ≡ next.width = ap width_in e in
    let w : length a ≡ 4 = width_at stage [] a _ acc.0 (at_header stage [] goes none) in
    let v : length b ≡ 2 = width_at stage (a ∷ []) b _ acc.1.0 (at_header stage (a ∷ []) goes none) in
    omega (arith, n, w, v, length-append a (b ++ []), length-append b [])
room_header stage (a ∷ b ∷ c ∷ []) next goes none acc e =
    let n : 1 ≡ next.width = ap width_in e in
    let w : HeaderWidths a b c [] = header_widths stage a b c [] goes none acc in
    omega (arith, n, w.magic, w.version, w.threads, length-append a (b ++ (c ++ [])), length-append b (c ++ []), length-append c [])
room_header stage (a ∷ b ∷ c ∷ d ∷ []) next goes none acc e =
    let n : 8 ≡ next.width = ap width_in e in
    let w : HeaderWidths a b c d = header_widths stage a b c d goes none (acc.0, (acc.1.0, (acc.1.1.0, tt))) in
    let o : length d ≡ 1 = width_at stage (a ∷ b ∷ c ∷ []) d _ acc.1.1.1.0 (at_header stage (a ∷ b ∷ c ∷ []) goes none) in
    omega (arith, n, w.magic, w.version, w.threads, o, length-append a (b ++ (c ++ (d ++ []))), length-append b (c ++ (d ++ [])), length-append c (d ++ []), length-append d [])
room_header stage (a ∷ b ∷ c ∷ d ∷ m ∷ more) next goes none acc e = absurd cc

-- .. in an end mark
room_end :
    (stage : Stage) (header : Header) (number : List ℕ) (fields : List (List ℕ)) (next : Next) → stage.over ≡ false → stage.header ≡ Some header → (big_number 1 number == 0) ≡ true
    → AreAccepted stage [] (number ∷ fields) → end_next stage fields ≡ Some next → length (flat (number ∷ fields)) + next.width ≤ 60
room_end stage header number [] next goes some z acc e =
    let n : 1 ≡ next.width = ap width_in e in
    omega (arith, n, number_width stage header number goes some acc.0, length-append number [])
room_end stage header number (s ∷ []) next goes some z acc e =
    let n : 4 ≡ next.width = ap width_in e in
    let v : length s ≡ 1 = width_at stage (number ∷ []) s _ acc.1.0 (at_end stage header number [] goes some z) in
    omega (arith, n, v, number_width stage header number goes some acc.0, length-append number (s ++ []), length-append s [])
room_end stage header number (s ∷ d ∷ []) next goes some z acc e =
    let n : 4 ≡ next.width = ap width_in e in
    let v : length s ≡ 1 = width_at stage (number ∷ []) s _ acc.1.0 (at_end stage header number [] goes some z) in
    let w : length d ≡ 4 = width_at stage (number ∷ s ∷ []) d _ acc.1.1.0 (at_end stage header number (s ∷ []) goes some z) in
    omega (arith, n, v, w, number_width stage header number goes some acc.0, length-append number (s ++ (d ++ [])), length-append s (d ++ []), length-append d [])
room_end stage header number (s ∷ d ∷ c ∷ more) next goes some z acc e = absurd cc

-- .. in an event
room_event :
    (stage : Stage) (header : Header) (number : List ℕ) (fields : List (List ℕ)) (next : Next) → stage.over ≡ false → stage.header ≡ Some header → (big_number 1 number == 0) ≡ false
    → AreAccepted stage [] (number ∷ fields) → event_next header stage (big_number 1 number) fields ≡ Some next → length (flat (number ∷ fields)) + next.width ≤ 60
room_event stage header number [] next goes some z acc e =
    let n : 4 ≡ next.width = ap width_in e in
    omega (arith, n, number_width stage header number goes some acc.0, length-append number [])
room_event stage header number (q ∷ []) next goes some z acc e =
    let n : 1 ≡ next.width = ap width_in e in
    let v : length q ≡ 4 = width_at stage (number ∷ []) q _ acc.1.0 (at_event stage header number [] goes some z) in
    omega (arith, n, v, number_width stage header number goes some acc.0, length-append number (q ++ []), length-append q [])
room_event stage header number (q ∷ t ∷ []) next goes some z acc e =
    let n : 2 ≡ next.width = ap width_in e in
    let v : length q ≡ 4 = width_at stage (number ∷ []) q _ acc.1.0 (at_event stage header number [] goes some z) in
    let w : length t ≡ 1 = width_at stage (number ∷ q ∷ []) t _ acc.1.1.0 (at_event stage header number (q ∷ []) goes some z) in
    omega (arith, n, v, w, number_width stage header number goes some acc.0, length-append number (q ++ (t ++ [])), length-append q (t ++ []), length-append t [])
room_event stage header number (q ∷ t ∷ s ∷ []) next goes some z acc e =
    let n : 4 ≡ next.width = ap width_in e in
    let v : length q ≡ 4 = width_at stage (number ∷ []) q _ acc.1.0 (at_event stage header number [] goes some z) in
    let w : length t ≡ 1 = width_at stage (number ∷ q ∷ []) t _ acc.1.1.0 (at_event stage header number (q ∷ []) goes some z) in
    let x : length s ≡ 2 = width_at stage (number ∷ q ∷ t ∷ []) s _ acc.1.1.1.0 (at_event stage header number (q ∷ t ∷ []) goes some z) in
    omega (arith, n, v, w, x, number_width stage header number goes some acc.0, length-append number (q ++ (t ++ (s ++ []))), length-append q (t ++ (s ++ [])), length-append t (s ++ []), length-append s [])
room_event stage header number (q ∷ t ∷ s ∷ w ∷ args) next goes some z acc e =
    let start = args_start stage header number q t s w args goes some z acc in
    let all = start_width [] (kinds_of (big_number 1 number)) args start in
    let one = next_width [] (kinds_of (big_number 1 number)) args next e in
    omega (arith, all, one, few_kinds (big_number 1 number), event_width stage header number q t s w args goes some z acc)

room_record :
    (stage : Stage) (header : Header) (number : List ℕ) (fields : List (List ℕ)) (next : Next) (ends : Bool) → stage.over ≡ false → stage.header ≡ Some header → (big_number 1 number == 0) ≡ ends
    → AreAccepted stage [] (number ∷ fields) → next_of stage (number ∷ fields) ≡ Some next → length (flat (number ∷ fields)) + next.width ≤ 60
room_record stage header number fields next true goes some z acc e = room_end stage header number fields next goes some z acc (sym (at_end stage header number fields goes some z) ∙ e)
room_record stage header number fields next false goes some z acc e = room_event stage header number fields next goes some z acc (sym (at_event stage header number fields goes some z) ∙ e)

room_by :
    (stage : Stage) (fields : List (List ℕ)) (next : Next) (over : Bool) (header : Option Header) → stage.over ≡ over → stage.header ≡ header
    → AreAccepted stage [] fields → next_of stage fields ≡ Some next → length (flat fields) + next.width ≤ 60
room_by stage fields next true header goes is acc e =
    let f : None ≡ Some next = sym (ap (λ (b : Bool). cond b None (next_in stage stage.header fields)) goes) ∙ e in
    absurd cc
room_by stage fields next false None goes is acc e = room_header stage fields next goes is acc (sym (at_header stage fields goes is) ∙ e)
room_by stage [] next false (Some header) goes is acc e =
    let n : 1 ≡ next.width = ap width_in (sym (at_record stage header [] goes is) ∙ e) in
    omega (arith, n)
room_by stage (number ∷ fields) next false (Some header) goes is acc e = room_record stage header number fields next _ goes is refl acc e

-- no item has more than 60 bytes
pub room : (stage : Stage) (fields : List (List ℕ)) (next : Next) → AreAccepted stage [] fields → next_of stage fields ≡ Some next → length (flat fields) + next.width ≤ 60
room stage fields next accepted e = room_by stage fields next stage.over stage.header refl refl accepted e

-- a field has a byte, and there is room for it
pub record Fits (fields : List (List ℕ)) (next : Next) : Type 0 where
  pub some : 1 ≤ next.width
  pub room : length (flat fields) + next.width ≤ 60
  pub told : reason_width next.field ≤ next.width

pub fits : (stage : Stage) (fields : List (List ℕ)) (next : Next) → AreAccepted stage [] fields → next_of stage fields ≡ Some next → Fits fields next
fits stage fields next accepted e = record { some = (good_next stage fields next e).0; room = room stage fields next accepted e; told = (good_next stage fields next e).1 }

-- there are no more fields than bytes
pub few : (stage : Stage) (fields : List (List ℕ)) → AreAccepted stage [] fields → length fields ≤ length (flat fields)
few stage fields accepted = few_from stage [] fields accepted

-- the number is the first byte
number_front :
    (stage : Stage) (header : Header) (number : List ℕ) (fields : List (List ℕ)) → stage.over ≡ false → stage.header ≡ Some header → IsAccepted stage [] number
    → big_number 1 (flat (number ∷ fields)) ≡ big_number 1 number
number_front stage header number fields goes some acc = big_from-append 1 number (flat fields) (omega (arith, number_width stage header number goes some acc))

-- the bytes of a whole header, of an end mark and of an event
whole_header : (stage : Stage) (fields : List (List ℕ)) → stage.over ≡ false → stage.header ≡ None → AreAccepted stage [] fields → header_next fields ≡ None → 16 ≤ length (flat fields)
whole_header stage [] goes none acc e = absurd cc
whole_header stage (a ∷ []) goes none acc e = absurd cc
whole_header stage (a ∷ b ∷ []) goes none acc e = absurd cc
whole_header stage (a ∷ b ∷ c ∷ []) goes none acc e = absurd cc
whole_header stage (a ∷ b ∷ c ∷ d ∷ []) goes none acc e = absurd cc
whole_header stage (a ∷ b ∷ c ∷ d ∷ m ∷ more) goes none acc e =
    let w : HeaderWidths a b c d = header_widths stage a b c d goes none (acc.0, (acc.1.0, (acc.1.1.0, tt))) in
    let o : length d ≡ 1 = width_at stage (a ∷ b ∷ c ∷ []) d _ acc.1.1.1.0 (at_header stage (a ∷ b ∷ c ∷ []) goes none) in
    let k : length m ≡ 8 = width_at stage (a ∷ b ∷ c ∷ d ∷ []) m _ acc.1.1.1.1.0 (at_header stage (a ∷ b ∷ c ∷ d ∷ []) goes none) in
    omega (arith, w.magic, w.version, w.threads, o, k, length-append a (b ++ (c ++ (d ++ (m ++ flat more)))), length-append b (c ++ (d ++ (m ++ flat more))), length-append c (d ++ (m ++ flat more)), length-append d (m ++ flat more), length-append m (flat more))

whole_end :
    (stage : Stage) (header : Header) (number : List ℕ) (fields : List (List ℕ)) → stage.over ≡ false → stage.header ≡ Some header → (big_number 1 number == 0) ≡ true
    → AreAccepted stage [] (number ∷ fields) → end_next stage fields ≡ None → 10 ≤ length (flat (number ∷ fields))
whole_end stage header number [] goes some z acc e = absurd cc
whole_end stage header number (s ∷ []) goes some z acc e = absurd cc
whole_end stage header number (s ∷ d ∷ []) goes some z acc e = absurd cc
whole_end stage header number (s ∷ d ∷ c ∷ more) goes some z acc e =
    let v : length s ≡ 1 = width_at stage (number ∷ []) s _ acc.1.0 (at_end stage header number [] goes some z) in
    let w : length d ≡ 4 = width_at stage (number ∷ s ∷ []) d _ acc.1.1.0 (at_end stage header number (s ∷ []) goes some z) in
    let x : length c ≡ 4 = width_at stage (number ∷ s ∷ d ∷ []) c _ acc.1.1.1.0 (at_end stage header number (s ∷ d ∷ []) goes some z) in
    omega (arith, v, w, x, number_width stage header number goes some acc.0, length-append number (s ++ (d ++ (c ++ flat more))), length-append s (d ++ (c ++ flat more)), length-append d (c ++ flat more), length-append c (flat more))

whole_event :
    (stage : Stage) (header : Header) (number : List ℕ) (fields : List (List ℕ)) → stage.over ≡ false → stage.header ≡ Some header → (big_number 1 number == 0) ≡ false
    → AreAccepted stage [] (number ∷ fields) → event_next header stage (big_number 1 number) fields ≡ None → 12 + arguments_width (big_number 1 number) ≤ length (flat (number ∷ fields))
whole_event stage header number [] goes some z acc e = absurd cc
whole_event stage header number (q ∷ []) goes some z acc e = absurd cc
whole_event stage header number (q ∷ t ∷ []) goes some z acc e = absurd cc
whole_event stage header number (q ∷ t ∷ s ∷ []) goes some z acc e = absurd cc
whole_event stage header number (q ∷ t ∷ s ∷ w ∷ args) goes some z acc e =
    let n = big_number 1 number in
    let all = start_width [] (kinds_of n) args (args_start stage header number q t s w args goes some z acc) in
    let no_more = none_width [] (kinds_of n) args e in
    omega (arith, all, no_more, event_width stage header number q t s w args goes some z acc)

whole_record :
    (stage : Stage) (header : Header) (number : List ℕ) (fields : List (List ℕ)) (ends : Bool) → stage.over ≡ false → stage.header ≡ Some header → (big_number 1 number == 0) ≡ ends
    → AreAccepted stage [] (number ∷ fields) → next_of stage (number ∷ fields) ≡ None → SpellsRecord (flat (number ∷ fields))
whole_record stage header number fields true goes some z acc e =
    let long : 10 ≤ length (flat (number ∷ fields)) = whole_end stage header number fields goes some z acc (sym (at_end stage header number fields goes some z) ∙ e) in
    record {
      number = omega (arith, long);
      end = λ f. long;
      profile = λ other. absurd (other (number_front stage header number fields goes some acc.0 ∙ eqb-true (big_number 1 number) 0 z));
      event = λ other. absurd (other (number_front stage header number fields goes some acc.0 ∙ eqb-true (big_number 1 number) 0 z));
    }
whole_record stage header number fields false goes some z acc e =
    let front : big_number 1 (flat (number ∷ fields)) ≡ big_number 1 number = number_front stage header number fields goes some acc.0 in
    let long : 12 + arguments_width (big_number 1 number) ≤ length (flat (number ∷ fields)) =
    whole_event stage header number fields goes some z acc (sym (at_event stage header number fields goes some z) ∙ e) in
    record {
      number = omega (arith, long);
      end = λ f. omega (arith, long);
      profile = λ other. rw front (in_profile_of stage header number goes some z acc.0);
      event = λ other. rw front long;
    }

whole_by :
    (stage : Stage) (fields : List (List ℕ)) (header : Option Header) → stage.over ≡ false → stage.header ≡ header → AreAccepted stage [] fields → next_of stage fields ≡ None → SpellsItem header (flat fields)
whole_by stage fields None goes is acc e = whole_header stage fields goes is acc (sym (at_header stage fields goes is) ∙ e)
whole_by stage [] (Some header) goes is acc e =
    let f : None ≡ record_next header stage [] = sym e ∙ at_record stage header [] goes is in
    absurd cc
whole_by stage (number ∷ fields) (Some header) goes is acc e = whole_record stage header number fields _ goes is refl acc e

-- a whole item can be decoded
pub spells : (stage : Stage) (fields : List (List ℕ)) → AreAccepted stage [] fields → stage.over ≡ false → next_of stage fields ≡ None → SpellsItem stage.header (flat fields)
spells stage fields accepted goes none = whole_by stage fields stage.header goes refl accepted none

one_at_least : (n : ℕ) → (n ≡ 0 → ⊥) → 1 ≤ n
one_at_least zero some = absurd (some refl)
one_at_least (suc n) some = omega arith

-- what is read of a header's bytes
pub record HasVersion (place : ℕ) (bytes : List ℕ) : Type 0 where
  pub three : place ≡ 3 → 7 ≤ length bytes
  pub four : place ≡ 4 → 8 ≤ length bytes

version_read : (stage : Stage) (fields : List (List ℕ)) (rest : List ℕ) (place : ℕ) → stage.over ≡ false → stage.header ≡ None → AreAccepted stage [] fields → place ≡ length fields → HasVersion place (flat fields ++ rest)
version_read stage [] rest place goes none acc same = record { three = λ e. absurd (omega arith); four = λ e. absurd (omega arith) }
version_read stage (a ∷ []) rest place goes none acc same = record { three = λ e. absurd (omega arith); four = λ e. absurd (omega arith) }
version_read stage (a ∷ b ∷ []) rest place goes none acc same = record { three = λ e. absurd (omega arith); four = λ e. absurd (omega arith) }
version_read stage (a ∷ b ∷ c ∷ []) rest place goes none acc same =
    let w : HeaderWidths a b c [] = header_widths stage a b c [] goes none acc in
    let l = length-append (flat (a ∷ b ∷ c ∷ [])) rest in
    record {
      three = λ e. omega (arith, w.magic, w.version, w.threads, l, length-append a (b ++ (c ++ [])), length-append b (c ++ []), length-append c []);
      four = λ e. absurd (omega arith);
    }
version_read stage (a ∷ b ∷ c ∷ d ∷ []) rest place goes none acc same =
    let w : HeaderWidths a b c d = header_widths stage a b c d goes none (acc.0, (acc.1.0, (acc.1.1.0, tt))) in
    let o : length d ≡ 1 = width_at stage (a ∷ b ∷ c ∷ []) d _ acc.1.1.1.0 (at_header stage (a ∷ b ∷ c ∷ []) goes none) in
    let l = length-append (flat (a ∷ b ∷ c ∷ d ∷ [])) rest in
    record {
      three = λ e. absurd (omega arith);
      four = λ e. omega (arith, w.magic, w.version, w.threads, o, l, length-append a (b ++ (c ++ (d ++ []))), length-append b (c ++ (d ++ [])), length-append c (d ++ []), length-append d []);
    }
version_read stage (a ∷ b ∷ c ∷ d ∷ e ∷ more) rest place goes none acc same = record { three = λ f. absurd (omega arith); four = λ f. absurd (omega arith) }

pub has_version : (stage : Stage) (place : ℕ) (bytes : List ℕ) → IsFront stage place bytes → stage.over ≡ false → stage.header ≡ None → HasVersion place bytes
has_version stage place bytes front goes none =
    rw front.bytes_are (version_read stage front.fields front.rest place goes none front.accepted front.place_is)

-- what is read of the argument that says what was dispatched
iterations_read :
    (stage : Stage) (header : Header) (fields : List (List ℕ)) (rest : List ℕ) (place : ℕ) → stage.over ≡ false → stage.header ≡ Some header → AreAccepted stage [] fields → place ≡ length fields
    → slice_get (kinds_of (big_number 1 (flat fields ++ rest))) (place - 5) ≡ Some Iterations → 5 ≤ place → 40 ≤ length (flat fields ++ rest)
iterations_read stage header [] rest place goes some acc same is five = absurd (omega arith)
iterations_read stage header (number ∷ []) rest place goes some acc same is five = absurd (omega arith)
iterations_read stage header (number ∷ q ∷ []) rest place goes some acc same is five = absurd (omega arith)
iterations_read stage header (number ∷ q ∷ t ∷ []) rest place goes some acc same is five = absurd (omega arith)
iterations_read stage header (number ∷ q ∷ t ∷ s ∷ []) rest place goes some acc same is five = absurd (omega arith)
iterations_read stage header (number ∷ q ∷ t ∷ s ∷ w ∷ args) rest place goes some acc same is five =
    let fields : List (List ℕ) = number ∷ q ∷ t ∷ s ∷ w ∷ args in
    let r : big_number 1 (flat fields ++ rest) ≡ big_number 1 number = read_field 1 [] number (q ∷ t ∷ s ∷ w ∷ args) rest 0 refl (omega (arith, number_width stage header number goes some acc.0)) in
    let d : IsDispatch (big_number 1 (flat fields ++ rest)) (place - 5) = is_dispatch (big_number 1 (flat fields ++ rest)) (place - 5) is in
    let kinds : kinds_of (big_number 1 number) ≡ dispatched = ap kinds_of (sym r) ∙ d.kinds in
    let e : (big_number 1 number == 0) ≡ false = ne_eqb (big_number 1 number) 0 (λ zero. let f : [] ≡ dispatched = sym (ap kinds_of zero) ∙ kinds in absurd cc) in
    let start = subst (λ (ks : List Kind). StartArguments [] ks args) kinds (args_start stage header number q t s w args goes some e acc) in
    let four : length args ≡ 4 = omega (arith, d.place, same) in
    let all : length (flat args) + total (drop (length args) dispatched) ≡ 44 = start_width [] dispatched args start in
    let last : total (drop (length args) dispatched) ≡ 8 = ap (λ (n : ℕ). total (drop n dispatched)) four in
    omega (arith, all, last, event_width stage header number q t s w args goes some e acc, length-append (flat fields) rest)

number_read : (stage : Stage) (header : Header) (fields : List (List ℕ)) (rest : List ℕ) (place : ℕ) → stage.over ≡ false → stage.header ≡ Some header → AreAccepted stage [] fields → place ≡ length fields → HasNumber place (flat fields ++ rest)
number_read stage header fields rest place goes some acc same =
    let f : length fields ≤ length (flat fields) = few stage fields acc in
    let l : length (flat fields ++ rest) ≡ length (flat fields) + length rest = length-append (flat fields) rest in
    record {
      number = λ n. let m : 1 ≤ place = one_at_least place n in omega (arith, f, l, same, m);
      end = λ n e two. omega (arith, f, l, same, two);
      event = λ n is five. iterations_read stage header fields rest place goes some acc same is five;
    }

pub has_number : (stage : Stage) (place : ℕ) (bytes : List ℕ) (header : Header) → IsFront stage place bytes → stage.over ≡ false → stage.header ≡ Some header → HasNumber place bytes
has_number stage place bytes header front goes some =
    rw front.bytes_are (number_read stage header front.fields front.rest place goes some front.accepted front.place_is)
