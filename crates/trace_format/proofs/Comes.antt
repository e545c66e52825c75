-- Which field comes next, by the bytes of those that were accepted.
use Rattle.std.proofs.Common.{ℕ, ◌≡◌, ◌==◌, Bool, cond, true, false, List, [], ◌∷◌, ◌++◌, length, Option, Some, None, refl, ap, sym, ◌∙◌, arith}
use Rattle.std.proofs.lemmas.Bool.{ne_eqb}
use Rattle.byteorder.specs.Endian.{big_number}
use Rattle.trace_format.specs.declared.trace.Header.{Header}
use Rattle.trace_format.specs.Accepting.{next_of}
use Rattle.trace_format.specs.Flat.{coming_at, coming_in, end_coming, event_coming, option_in_code, record_coming}
use Rattle.trace_format.specs.Reached.{AreAccepted, flat}
use Rattle.trace_format.specs.Taking.{Stage}
use Rattle.trace_format.proofs.ArgumentPlaces.{event_comes}
use Rattle.trace_format.proofs.HeaderPlaces.{at_header, header_comes, read_field}
use Rattle.trace_format.proofs.RecordPlaces.{at_end, at_event, at_record, end_comes, number_width}

coming_is : (stage : Stage) (header : Option Header) (n : ℕ) (bytes : List ℕ) → stage.over ≡ false → stage.header ≡ header → coming_at stage n bytes ≡ coming_in header stage n bytes
coming_is stage header n bytes goes e = ap (λ (b : Bool). cond b None (coming_in stage.header stage n bytes)) goes ∙ ap (λ (h : Option Header). coming_in h stage n bytes) e

-- behind the number of a record
numbered : (header : Header) (stage : Stage) (n : ℕ) (bytes : List ℕ) (number : ℕ) → (n ≡ 0 → ⊥) → big_number 1 bytes ≡ number → record_coming header stage n bytes ≡ cond (number == 0) (end_coming stage.count n bytes) (event_coming stage.least header.threads number n bytes)
numbered header stage n bytes number some e = rw (ne_eqb n 0 some, e) refl

record_comes :
    (stage : Stage) (header : Header) (number : List ℕ) (fields : List (List ℕ)) (rest : List ℕ) (ends : Bool) → stage.over ≡ false → stage.header ≡ Some header → AreAccepted stage [] (number ∷ fields) → (big_number 1 number == 0) ≡ ends
    → next_of stage (number ∷ fields) ≡ option_in_code (record_coming header stage (length (number ∷ fields)) (flat (number ∷ fields) ++ rest))
record_comes stage header number fields rest ends goes some acc e =
    let n : length (number ∷ fields) ≡ 0 → ⊥ = λ f. omega arith in
    let r : big_number 1 (flat (number ∷ fields) ++ rest) ≡ big_number 1 number = read_field 1 [] number fields rest 0 refl (omega (arith, number_width stage header number goes some acc.0)) in
    let m : record_coming header stage (length (number ∷ fields)) (flat (number ∷ fields) ++ rest) ≡ cond (big_number 1 number == 0) (end_coming stage.count (length (number ∷ fields)) (flat (number ∷ fields) ++ rest)) (event_coming stage.least header.threads (big_number 1 number) (length (number ∷ fields)) (flat (number ∷ fields) ++ rest)) =
    numbered header stage (length (number ∷ fields)) (flat (number ∷ fields) ++ rest) (big_number 1 number) n r in
    let k = λ (b : Bool). cond b (end_coming stage.count (length (number ∷ fields)) (flat (number ∷ fields) ++ rest)) (event_coming stage.least header.threads (big_number 1 number) (length (number ∷ fields)) (flat (number ∷ fields) ++ rest)) in
    (elim ends as (λ b. (big_number 1 number == 0) ≡ b → next_of stage (number ∷ fields) ≡ option_in_code (k b)) [
      | true ↦ λ f. at_end stage header number fields goes some f ∙ end_comes stage header number fields rest goes some f acc
      | false ↦ λ f. at_event stage header number fields goes some f ∙ event_comes stage header number fields rest goes some f acc
    ]) e ∙ sym (ap option_in_code (m ∙ ap k e))

comes_by :
    (stage : Stage) (over : Bool) (header : Option Header) (fields : List (List ℕ)) (rest : List ℕ) → stage.over ≡ over → stage.header ≡ header → AreAccepted stage [] fields
    → next_of stage fields ≡ option_in_code (coming_at stage (length fields) (flat fields ++ rest))
comes_by stage true header fields rest goes e acc = rw goes refl
comes_by stage false None fields rest goes e acc = at_header stage fields goes e ∙ header_comes stage fields rest goes e acc ∙ sym (ap option_in_code (coming_is stage None (length fields) (flat fields ++ rest) goes e))
comes_by stage false (Some header) [] rest goes e acc = at_record stage header [] goes e ∙ sym (ap option_in_code (coming_is stage (Some header) 0 ([] ++ rest) goes e))
comes_by stage false (Some header) (number ∷ fields) rest goes e acc =
    record_comes stage header number fields rest _ goes e acc refl ∙ sym (ap option_in_code (coming_is stage (Some header) (length (number ∷ fields)) (flat (number ∷ fields) ++ rest) goes e))

pub comes : (stage : Stage) (fields : List (List ℕ)) (rest : List ℕ) → AreAccepted stage [] fields → next_of stage fields ≡ option_in_code (coming_at stage (length fields) (flat fields ++ rest))
comes stage fields rest accepted = comes_by stage stage.over stage.header fields rest refl refl accepted
