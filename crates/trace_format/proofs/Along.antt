-- Bytes that aren't refused are no longer than the longest trace: a field of a byte at least comes next at each place, and is accepted or refused.
use Rattle.std.proofs.Common.{◌≡◌, ℕ, zero, suc, ◌+◌, ◌<◌, ◌≤◌, ◌⊎◌, cond, Bool, true, false, List, [], ◌∷◌, ◌++◌, length, length-append, take, drop, Option, Some, None, inl, inr, ⊎_elim, refl, sym, ap, subst, ◌∙◌, append_assoc, append-nil, true≢false, take-append-drop, length-take-le, ◌==◌, arith}
use Rattle.std.proofs.lemmas.Bool.{cases_lt}
use Rattle.byteorder.specs.Endian.{big_number}
use Rattle.trace_format.specs.declared.item.Item.{Item}
use Rattle.trace_format.specs.declared.kind.Kind.{Kind}
use Rattle.trace_format.specs.declared.kind.Kind.TheVariants.{Long, Word, Frame, Iterations}
use Rattle.trace_format.specs.declared.refusal.Refusal.{Refusal}
use Rattle.trace_format.specs.declared.trace.Header.{Header}
use Rattle.trace_format.specs.Accepting.{Next, argument_next, end_next, event_next, header_next, kinds_of, next_in, next_of, width_of}
use Rattle.trace_format.specs.Fields.{Spelt, spelling}
use Rattle.trace_format.specs.Reached.{IsAccepted, IsBytes, IsReached, bytes_at, flat, stage_of}
use Rattle.trace_format.specs.Refusing.{IsRefused, reason_of}
use Rattle.trace_format.specs.declared.refusal.Reason.TheVariants.{AfterEnd}
use Rattle.trace_format.specs.Items.{items_bytes}
use Rattle.trace_format.proofs.SameBytes.{one_next}
use Rattle.trace_format.specs.Taking.{Stage, first_stage}
use Rattle.trace_format.proofs.Beginning.{fields_at, place_reached}
use Rattle.trace_format.proofs.Bounds.{alone, few_at, next_few}
use Rattle.trace_format.proofs.Lists.{flat-append, spelling_from}
use Rattle.trace_format.proofs.Places.{IsPlace}
use Rattle.trace_format.proofs.Refusals.{refuses_after, refuses_field}
use Rattle.trace_format.proofs.Walking.{IsWalked, reached_more, settle, some_first, start_reached}

-- each field has a byte
width_in : Option Next → ℕ
width_in None = 1
width_in (Some next) = next.width

kind_wide : (kind : Kind) → 1 ≤ width_of kind
kind_wide Long = omega arith
kind_wide Word = omega arith
kind_wide Frame = omega arith
kind_wide Iterations = omega arith
kind_wide other = omega arith

argument_wide : (past : List (List ℕ)) (kinds : List Kind) (fields : List (List ℕ)) → 1 ≤ width_in (argument_next past kinds fields)
unfolding width_in
argument_wide past [] fields = omega arith
argument_wide past (kind ∷ kinds) [] = kind_wide kind
argument_wide past (kind ∷ kinds) (bytes ∷ fields) = argument_wide (past ++ bytes ∷ []) kinds fields

event_wide : (header : Header) (stage : Stage) (number : ℕ) (fields : List (List ℕ)) → 1 ≤ width_in (event_next header stage number fields)
unfolding width_in
event_wide header stage number [] = omega arith
event_wide header stage number (seq ∷ []) = omega arith
event_wide header stage number (seq ∷ thread ∷ []) = omega arith
event_wide header stage number (seq ∷ thread ∷ state ∷ []) = omega arith
event_wide header stage number (seq ∷ thread ∷ state ∷ wait_id ∷ fields) = argument_wide [] (kinds_of number) fields

end_wide : (stage : Stage) (fields : List (List ℕ)) → 1 ≤ width_in (end_next stage fields)
unfolding width_in
end_wide stage [] = omega arith
end_wide stage (status ∷ []) = omega arith
end_wide stage (status ∷ detail ∷ []) = omega arith
end_wide stage (status ∷ detail ∷ count ∷ more) = omega arith

header_wide : (fields : List (List ℕ)) → 1 ≤ width_in (header_next fields)
unfolding width_in
header_wide [] = omega arith
header_wide (first ∷ []) = omega arith
header_wide (first ∷ version ∷ []) = omega arith
header_wide (first ∷ version ∷ threads ∷ []) = omega arith
header_wide (first ∷ version ∷ threads ∷ origin ∷ []) = omega arith
header_wide (first ∷ version ∷ threads ∷ origin ∷ mask ∷ more) = omega arith

either_wide : (b : Bool) (x y : Option Next) → 1 ≤ width_in x → 1 ≤ width_in y → 1 ≤ width_in (cond b x y)
either_wide true x y one other = one
either_wide false x y one other = other

next_wide : (stage : Stage) (o : Option Header) (fields : List (List ℕ)) → 1 ≤ width_in (next_in stage o fields)
unfolding width_in
next_wide stage None fields = header_wide fields
next_wide stage (Some header) [] = omega arith
next_wide stage (Some header) (number ∷ fields) =
    either_wide (big_number 1 number == 0) (end_next stage fields) (event_next header stage (big_number 1 number) fields) (end_wide stage fields) (event_wide header stage (big_number 1 number) fields)

width_some : (stage : Stage) (fields : List (List ℕ)) (next : Next) → next_of stage fields ≡ Some next → 1 ≤ next.width
unfolding width_in
width_some stage fields next comes =
    let wide = either_wide stage.over None (next_in stage stage.header fields) (omega arith) (next_wide stage stage.header fields) in
    let same : width_in (next_of stage fields) ≡ next.width = ap width_in comes in
    omega (arith, wide, same)

-- whether a field is accepted
bytes_or : (bytes : List ℕ) → IsBytes bytes ⊎ (IsBytes bytes → ⊥)
bytes_or [] = inl (λ i. omega arith)
bytes_or (byte ∷ bytes) =
    ⊎_elim
    (λ (low : byte < 256). ⊎_elim (λ (all : IsBytes bytes). inl (bytes_cons byte bytes low all)) (λ (none : IsBytes bytes → ⊥). inr (λ all. none (λ i. all (suc i)))) (bytes_or bytes))
    (λ (high : 256 ≤ byte). inr (λ all. let low = all 0 in absurd (omega (arith, low, high)))) (cases_lt byte 256)
  where
    bytes_cons : (b : ℕ) (bs : List ℕ) → b < 256 → IsBytes bs → IsBytes (b ∷ bs)
    bytes_cons b bs low all zero = low
    bytes_cons b bs low all (suc i) = all i

accepted_or : (stage : Stage) (fields : List (List ℕ)) (next : Next) (bytes : List ℕ) → next_of stage fields ≡ Some next → length bytes ≡ next.width → IsAccepted stage fields bytes ⊎ (IsAccepted stage fields bytes → ⊥)
accepted_or stage fields next bytes comes width = ⊎_elim (λ (all : IsBytes bytes). go all (next.accepts bytes) refl) (λ (none : IsBytes bytes → ⊥). inr (λ accepted. none accepted.is_bytes)) (bytes_or bytes)
  where
    go : IsBytes bytes → (b : Bool) → next.accepts bytes ≡ b → IsAccepted stage fields bytes ⊎ (IsAccepted stage fields bytes → ⊥)
    go all true so = inl (record { next = next; comes = comes; width = width; is_bytes = all; accepted = so })
    go all false refused = inr (λ accepted. let same = one_next accepted.next next (sym accepted.comes ∙ comes) in true≢false (sym accepted.accepted ∙ ap (λ (n : Next). n.accepts bytes) same ∙ refused))

-- on along the bytes
abbrev IsShort : List Item → List (List ℕ) → List ℕ → Type 0
IsShort items fields x = length (bytes_at items fields) + length x ≤ 157286426

abbrev NotRefused : List Item → List (List ℕ) → List ℕ → Type 0
NotRefused items fields x = (r : Refusal) → IsRefused (bytes_at items fields ++ x) r → ⊥

abbrev Rest : List ℕ → Type 0
Rest x = (items : List Item) (fields : List (List ℕ)) (left : List ℕ) → IsReached items fields → IsPlace first_stage items fields → length left < length x → NotRefused items fields left → IsShort items fields left

bytes_more : (items : List Item) (fields : List (List ℕ)) (value : List ℕ) → bytes_at items (fields ++ value ∷ []) ≡ bytes_at items fields ++ value
bytes_more items fields value =
    ap (λ (bs : List ℕ). items_bytes items ++ bs) (flat-append fields (value ∷ []) ∙ ap (λ (bs : List ℕ). flat fields ++ bs) (append-nil value)) ∙ sym (append_assoc (items_bytes items) (flat fields) value)

bytes_walked : (all : List Spelt) (walked : IsWalked all) → spelling all ≡ bytes_at walked.items walked.fields
bytes_walked all walked = ap (λ (ss : List Spelt). spelling ss) (sym walked.fields_are) ∙ spelling_from first_stage walked.items walked.fields

go_on :
    (items : List Item) (fields : List (List ℕ)) (value left x : List ℕ) → IsReached items fields → IsAccepted (stage_of items) fields value → x ≡ value ++ left → 1 ≤ length value → Rest x → NotRefused items fields x → IsShort items fields x
go_on items fields value left x reached accepted same some rest unrefused =
    let there = reached_more items fields value reached accepted in
    let walked = settle items (fields ++ value ∷ []) there in
    let bytes : bytes_at walked.items walked.fields ≡ bytes_at items fields ++ value =
    sym (bytes_walked (fields_at items (fields ++ value ∷ [])) walked) ∙ spelling_from first_stage items (fields ++ value ∷ []) ∙ bytes_more items fields value in
    let whole : bytes_at walked.items walked.fields ++ left ≡ bytes_at items fields ++ x =
    ap (λ (bs : List ℕ). bs ++ left) bytes ∙ append_assoc (bytes_at items fields) value left ∙ ap (λ (bs : List ℕ). bytes_at items fields ++ bs) (sym same) in
    let long : length x ≡ length value + length left = ap (λ (bs : List ℕ). length bs) same ∙ length-append value left in
    let less : length left < length x = omega (arith, long, some) in
    let short = rest walked.items walked.fields left walked.reached walked.place less (λ r refused. unrefused r (subst (λ (bs : List ℕ). IsRefused bs r) whole refused)) in
    let sum : length (bytes_at walked.items walked.fields) ≡ length (bytes_at items fields) + length value = ap (λ (bs : List ℕ). length bs) bytes ∙ length-append (bytes_at items fields) value in
    omega (arith, short, sum, long)

step_field : (items : List Item) (fields : List (List ℕ)) (x : List ℕ) (next : Next) → IsReached items fields → next_of (stage_of items) fields ≡ Some next → Rest x → NotRefused items fields x → IsShort items fields x
step_field items fields x next reached comes rest unrefused =
    ⊎_elim (λ (low : length x < next.width). omega (arith, next_few items fields next reached comes, low)) (λ (high : next.width ≤ length x). enough high) (cases_lt (length x) next.width)
  where
    enough : next.width ≤ length x → IsShort items fields x
    enough high =
        let value = take next.width x in
        let left = drop next.width x in
        let width : length value ≡ next.width = length-take-le next.width x high in
        let same : x ≡ value ++ left = sym (take-append-drop next.width x) in
        ⊎_elim (λ (so : IsAccepted (stage_of items) fields value). go_on items fields value left x reached so same (omega (arith, width, width_some (stage_of items) fields next comes)) rest unrefused)
        (λ (never : IsAccepted (stage_of items) fields value → ⊥).
        absurd
        (unrefused (record { reason = reason_of next.field value; offset = length (bytes_at items fields) })
        (record {
          front = bytes_at items fields ++ value;
          rest = left;
          whole = ap (λ (bs : List ℕ). bytes_at items fields ++ bs) same ∙ sym (append_assoc (bytes_at items fields) value left);
          refuses = inl (refuses_field items fields next value reached comes width never);
        })))
        (accepted_or (stage_of items) fields next value comes width)

step_over : (items : List Item) (x : List ℕ) → IsReached items [] → (stage_of items).over ≡ true → NotRefused items [] x → IsShort items [] x
step_over items [] reached over unrefused = omega (arith, (few_at items [] reached).bytes)
step_over items (byte ∷ x) reached over unrefused =
    absurd
    (unrefused (record { reason = AfterEnd; offset = length (bytes_at items []) })
    (record { front = bytes_at items [] ++ byte ∷ []; rest = x; whole = sym (append_assoc (bytes_at items []) (byte ∷ []) x); refuses = inr (refuses_after items byte reached over) }))

step : (items : List Item) (fields : List (List ℕ)) (x : List ℕ) → IsReached items fields → IsPlace first_stage items fields → Rest x → NotRefused items fields x → IsShort items fields x
step items fields x reached place rest unrefused = go (next_of (stage_of items) fields) refl (stage_of items).over refl
  where
    go : (o : Option Next) → next_of (stage_of items) fields ≡ o → (b : Bool) → (stage_of items).over ≡ b → IsShort items fields x
    go (Some next) comes b over = step_field items fields x next reached comes rest unrefused
    go None none false goes = absurd (place.settled goes none)
    go None none true over =
        let nothing = alone items fields reached over in
        let there = subst (λ (f : List (List ℕ)). IsReached items f) nothing reached in
        subst (λ (f : List (List ℕ)). IsShort items f x) (sym nothing) (step_over items x there over (subst (λ (f : List (List ℕ)). NotRefused items f x) nothing unrefused))

along : (fuel : ℕ) (items : List Item) (fields : List (List ℕ)) (x : List ℕ) → length x ≤ fuel → IsReached items fields → IsPlace first_stage items fields → NotRefused items fields x → IsShort items fields x
along zero items fields x few reached place unrefused = step items fields x reached place (λ its fs left there at less none. absurd (omega arith)) unrefused
along (suc fuel) items fields x few reached place unrefused =
    step items fields x reached place (λ its fs left there at less none. along fuel its fs left (omega (arith, less, few)) there at none) unrefused

pub longest : (bytes : List ℕ) → ((refusal : Refusal) → IsRefused bytes refusal → ⊥) → length bytes ≤ 157286426
longest bytes unrefused =
    let short = along (length bytes) [] [] bytes (omega arith) start_reached (place_reached [] [] start_reached (some_first first_stage)) unrefused in
    omega (arith, short)
