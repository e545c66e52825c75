-- The fields of an end mark and the first ones of an event, by the bytes of those that were accepted.
use Rattle.std.proofs.Common.{ℕ, ◌≡◌, ◌≤◌, ◌+◌, ◌==◌, Bool, cond, true, false, List, [], ◌∷◌, ◌++◌, length, Option, Some, None, refl, ap, sym, ◌∙◌, append_assoc, length-append, slice_get, arith}
use Rattle.std.proofs.lemmas.Bool.{ne_eqb}
use Rattle.std.proofs.lemmas.List.{append-nil}
use Rattle.byteorder.specs.Endian.{big_number}
use Rattle.trace_format.specs.declared.field.Field.TheVariants.{Numbered}
use Rattle.trace_format.specs.declared.kind.Kind.{Kind}
use Rattle.trace_format.specs.declared.test.Test.TheVariants as test
use Rattle.trace_format.specs.declared.trace.Header.{Header}
use Rattle.trace_format.specs.Accepting.{Next, accepts_kind, argument_next, end_next, event_next, next_in, next_of, record_next, width_of}
use Rattle.trace_format.specs.Flat.{end_coming, next_in_code, option_in_code}
use Rattle.trace_format.specs.Reached.{AreAccepted, IsAccepted, flat}
use Rattle.trace_format.specs.Taking.{Stage}
use Rattle.trace_format.proofs.HeaderPlaces.{read_field, width_at}

pub at_record : (stage : Stage) (header : Header) (fields : List (List ℕ)) → stage.over ≡ false → stage.header ≡ Some header → next_of stage fields ≡ record_next header stage fields
at_record stage header fields goes some = ap (λ (b : Bool). cond b None (next_in stage stage.header fields)) goes ∙ ap (λ (h : Option Header). next_in stage h fields) some

-- the number is one byte
pub number_width : (stage : Stage) (header : Header) (number : List ℕ) → stage.over ≡ false → stage.header ≡ Some header → IsAccepted stage [] number → length number ≡ 1
number_width stage header number goes some a = width_at stage [] number _ a (at_record stage header [] goes some)

pub at_end : (stage : Stage) (header : Header) (number : List ℕ) (fields : List (List ℕ)) → stage.over ≡ false → stage.header ≡ Some header → (big_number 1 number == 0) ≡ true → next_of stage (number ∷ fields) ≡ end_next stage fields
at_end stage header number fields goes some e = at_record stage header (number ∷ fields) goes some ∙ ap (λ (b : Bool). cond b (end_next stage fields) (event_next header stage (big_number 1 number) fields)) e

pub at_event : (stage : Stage) (header : Header) (number : List ℕ) (fields : List (List ℕ)) → stage.over ≡ false → stage.header ≡ Some header → (big_number 1 number == 0) ≡ false → next_of stage (number ∷ fields) ≡ event_next header stage (big_number 1 number) fields
at_event stage header number fields goes some e = at_record stage header (number ∷ fields) goes some ∙ ap (λ (b : Bool). cond b (end_next stage fields) (event_next header stage (big_number 1 number) fields)) e

end_over : (n count : ℕ) (bytes : List ℕ) → 4 ≤ n → end_coming count n bytes ≡ None
end_over n count bytes h =
    let h1 : n ≡ 1 → ⊥ = λ e. omega arith in
    let h2 : n ≡ 2 → ⊥ = λ e. omega arith in
    let h3 : n ≡ 3 → ⊥ = λ e. omega arith in
    rw (ne_eqb n 1 h1, ne_eqb n 2 h2, ne_eqb n 3 h3) refl

-- behind the number 0
pub end_comes :
    (stage : Stage) (header : Header) (number : List ℕ) (fields : List (List ℕ)) (rest : List ℕ) → stage.over ≡ false → stage.header ≡ Some header → (big_number 1 number == 0) ≡ true → AreAccepted stage [] (number ∷ fields)
    → end_next stage fields ≡ option_in_code (end_coming stage.count (length (number ∷ fields)) (flat (number ∷ fields) ++ rest))
end_comes stage header number [] rest goes some e acc = refl
end_comes stage header number (s ∷ []) rest goes some e acc =
    let w : length number ≡ 1 = number_width stage header number goes some acc.0 in
    let v : length s ≡ 1 = width_at stage (number ∷ []) s _ acc.1.0 (at_end stage header number [] goes some e) in
    let l : 1 ≡ length (flat (number ∷ [])) = omega (arith, length-append number [], w) in
    ap (λ (x : ℕ). Some (next_in_code (record { field = Numbered 2; test = test.Detail x }))) (sym (read_field 1 (number ∷ []) s [] rest 1 l (omega (arith, v))))
end_comes stage header number (s ∷ d ∷ []) rest goes some e acc = refl
end_comes stage header number (s ∷ d ∷ c ∷ more) rest goes some e acc =
    sym (ap option_in_code (end_over (length (number ∷ s ∷ d ∷ c ∷ more)) stage.count (flat (number ∷ s ∷ d ∷ c ∷ more) ++ rest) (omega arith)))

-- the argument that comes next, by its place
abbrev pub argument_at : List (List ℕ) → ℕ → Option Kind → Option Next
argument_at before place None = None
argument_at before place (Some kind) = Some (record { field = Numbered place; width = width_of kind; accepts = λ bytes. accepts_kind kind before bytes })

pub argument_is : (before : List (List ℕ)) (kinds : List Kind) (args : List (List ℕ)) (place : ℕ) → place ≡ 5 + length before + length args → argument_next before kinds args ≡ argument_at (before ++ args) place (slice_get kinds (length args))
argument_is before [] args place e = refl
argument_is before (kind ∷ kinds) [] place e =
    let p : 5 + length before ≡ place = omega arith in
    ap (λ (x : ℕ). Some (record { field = Numbered x; width = width_of kind; accepts = λ bytes. accepts_kind kind before bytes })) p
    ∙ ap (λ (x : List (List ℕ)). Some (record { field = Numbered place; width = width_of kind; accepts = λ bytes. accepts_kind kind x bytes })) (sym (append-nil before))
argument_is before (kind ∷ kinds) (bytes ∷ rest) place e =
    let l : length (before ++ bytes ∷ []) ≡ length before + 1 = length-append before (bytes ∷ []) in
    let i : argument_next (before ++ bytes ∷ []) kinds rest ≡ argument_at ((before ++ bytes ∷ []) ++ rest) place (slice_get kinds (length rest)) = argument_is (before ++ bytes ∷ []) kinds rest place (omega (arith, e, l)) in
    i ∙ ap (λ (x : List (List ℕ)). argument_at x place (slice_get kinds (length rest))) (append_assoc before (bytes ∷ []) rest)
