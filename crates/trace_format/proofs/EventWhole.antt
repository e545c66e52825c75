-- Fields that were accepted behind the number of a callback are those of an event, or of the front of one; and an event is read again from its bytes.
use Rattle.std.proofs.Common.{ℕ, ◌≡◌, ◌≢◌, ◌<◌, ◌^◌, ◌==◌, ◌&&◌, true, false, List, [], ◌∷◌, ◌++◌, drop, Some, None, inl, inr, refl, sym, ap, ◌∙◌, arith, ne_eqb}
use Rattle.std.specs.Prelude.{nat_le, nat_lt}
use Rattle.std.proofs.lemmas.Bool.{and_from, and_parts, eqb-true, le-leb, leb-true, lt-ltb, ltb-true, or_cases}
use Rattle.byteorder.specs.Endian.{big_bytes, big_number}
use Rattle.omp_codes.specs.Answers.{in_profile}
use Rattle.omp_codes.specs.States.{states}
use Rattle.ompt_calls.specs.declared.call.Call.{Call}
use Rattle.ompt_calls.specs.declared.event.EventRecord.{EventRecord}
use Rattle.ompt_calls.specs.Number.{is_registered, number_of}
use Rattle.trace_format.specs.declared.field.Field.TheVariants.{Numbered, Seq}
use Rattle.trace_format.specs.declared.item.Item.TheVariants as item
use Rattle.trace_format.specs.declared.trace.Header.{Header}
use Rattle.trace_format.specs.declared.trace.TheConstants.{SEQ_LIMIT}
use Rattle.trace_format.specs.Accepting.{event_next, kinds_of, next_of, record_next}
use Rattle.trace_format.specs.Fields.{Spelt, arguments, event_fields, number, numbered_from}
use Rattle.trace_format.specs.Reached.{AreAccepted, flat}
use Rattle.trace_format.specs.Validity.{IsEvent, IsHeader}
use Rattle.trace_format.proofs.Decoded.{call_in, event_in}
use Rattle.trace_format.proofs.ArgumentLists.{Fits, StartArguments, arguments_all, arguments_follow, arguments_start, fits}
use Rattle.trace_format.proofs.EventFields.{AreFive, arguments_come, event_accepted, event_comes, event_ends, not_zero}
use Rattle.trace_format.proofs.Naming.{CanGoOn, IsWritten, accepted_more, bytes_in, bytes_numbered, number_fits, one_more, opened}
use Rattle.trace_format.proofs.Profile.{call_again, call_from, in_its_profile, profile_small}
use Rattle.trace_format.proofs.Spelling.{number_small, reads, reads_front, spells}
use Rattle.trace_format.proofs.Values.{among_below}

pub same_event : (seq thread state wait_id : ℕ) (call : Call) (event : EventRecord) → seq ≡ event.seq → thread ≡ event.thread → state ≡ event.state → wait_id ≡ event.wait_id → call ≡ event.call → record { seq = seq; thread = thread; state = state; wait_id = wait_id; call = call } ≡ event
same_event seq thread state wait_id call event of_seq of_thread of_state of_wait of_call =
    ap (λ (n : ℕ). made n thread state wait_id call) of_seq
    ∙ ap (λ (n : ℕ). made event.seq n state wait_id call) of_thread
    ∙ ap (λ (n : ℕ). made event.seq event.thread n wait_id call) of_state
    ∙ ap (λ (n : ℕ). made event.seq event.thread event.state n call) of_wait
    ∙ ap (λ (c : Call). made event.seq event.thread event.state event.wait_id c) of_call
  where
    made : ℕ → ℕ → ℕ → ℕ → Call → EventRecord
    made a b c d e = record { seq = a; thread = b; state = c; wait_id = d; call = e }

-- the bytes of an event
abbrev pub bytes_of : EventRecord → List (List ℕ)
bytes_of event =
    big_bytes 1 (number_of event.call) ∷ big_bytes 4 event.seq ∷ big_bytes 1 event.thread ∷ big_bytes 2 event.state ∷ big_bytes 4 event.wait_id ∷ arguments event.call

pub fields_bytes : (event : EventRecord) → bytes_in (event_fields event) ≡ bytes_of event
fields_bytes event =
    ap
    (λ (args : List (List ℕ)).
    big_bytes 1 (number_of event.call) ∷ big_bytes 4 event.seq ∷ big_bytes 1 event.thread ∷ big_bytes 2 event.state ∷ big_bytes 4 event.wait_id ∷ args)
    (bytes_numbered 5 (arguments event.call))

-- the fields behind its number
abbrev pub behind_number_of : EventRecord → List Spelt
behind_number_of event =
    number Seq 4 event.seq ∷ number (Numbered 2) 1 event.thread ∷ number (Numbered 3) 2 event.state ∷ number (Numbered 4) 4 event.wait_id
    ∷ numbered_from 5 (arguments event.call)

number_again : (event : EventRecord) → big_number 1 (flat (bytes_of event)) ≡ number_of event.call
number_again event =
    let small = profile_small (number_of event.call) (in_its_profile event.call) in
    reads_front 1 (number_of event.call) (flat (big_bytes 4 event.seq ∷ big_bytes 1 event.thread ∷ big_bytes 2 event.state ∷ big_bytes 4 event.wait_id ∷ arguments event.call)) (omega (arith, small))

-- its bytes don't begin with the number 0
pub event_begins : (event : EventRecord) → (big_number 1 (flat (bytes_of event)) == 0) ≡ false
event_begins event =
    let e = number_again event in
    let some = not_zero (number_of event.call) (in_its_profile event.call) in
    ap (λ (n : ℕ). n == 0) e ∙ ne_eqb (number_of event.call) 0 some

-- an event is read again from its bytes
pub event_again : (header : Header) (event : EventRecord) → IsHeader header → event.seq < SEQ_LIMIT → IsEvent header event → event_in (flat (bytes_of event)) ≡ event
event_again header event is_header below is =
    let few = is_header.few in
    let on = is.thread in
    let small_seq : event.seq < 256 ^ 4 = omega (arith, below) in
    let small_thread : event.thread < 256 ^ 1 = omega (arith, few, on) in
    let small_state : event.state < 256 ^ 2 = among_below states event.state 65536 refl is.state in
    let bytes = flat (bytes_of event) in
    let rest_args : List ℕ = flat (arguments event.call) in
    let rest_e : List ℕ = big_bytes 4 event.wait_id ++ rest_args in
    let rest_d : List ℕ = big_bytes 2 event.state ++ rest_e in
    let rest_c : List ℕ = big_bytes 1 event.thread ++ rest_d in
    let rest_b : List ℕ = big_bytes 4 event.seq ++ rest_c in
    let at_b : drop 1 bytes ≡ rest_b = refl in
    let at_c : drop 5 bytes ≡ rest_c = refl in
    let at_d : drop 6 bytes ≡ rest_d = refl in
    let at_e : drop 8 bytes ≡ rest_e = refl in
    let at_args : drop 12 bytes ≡ rest_args = refl in
    let seq : big_number 4 (drop 1 bytes) ≡ event.seq = ap (big_number 4) at_b ∙ reads_front 4 event.seq rest_c small_seq in
    let thread : big_number 1 (drop 5 bytes) ≡ event.thread = ap (big_number 1) at_c ∙ reads_front 1 event.thread rest_d small_thread in
    let state : big_number 2 (drop 6 bytes) ≡ event.state = ap (big_number 2) at_d ∙ reads_front 2 event.state rest_e small_state in
    let wait_id : big_number 4 (drop 8 bytes) ≡ event.wait_id = ap (big_number 4) at_e ∙ reads_front 4 event.wait_id rest_args is.wait_id in
    let call : call_in (big_number 1 bytes) (drop 12 bytes) ≡ event.call =
    ap (call_in (big_number 1 bytes)) at_args ∙ ap (λ (n : ℕ). call_in n rest_args) (number_again event) ∙ call_again event.call is.call in
    same_event _ _ _ _ _ event seq thread state wait_id call

six : (a b c d e : List ℕ) (args : List (List ℕ)) {p q r s t : List ℕ} {u : List (List ℕ)} → p ≡ a → q ≡ b → r ≡ c → s ≡ d → t ≡ e → u ≡ args → p ∷ q ∷ r ∷ s ∷ t ∷ u ≡ a ∷ b ∷ c ∷ d ∷ e ∷ args
six a b c d e args of_a of_b of_c of_d of_e of_args = cc

five_of :
    (header : Header) (count least : ℕ) (a b c d e : List ℕ) (args : List (List ℕ)) → big_number 1 a ≢ 0
    → AreAccepted (opened (Some header) count least) [] (a ∷ b ∷ c ∷ d ∷ e ∷ args) → AreFive header count least (big_number 1 a) a b c d e
five_of header count least a b c d e args some accepted =
    let stage = opened (Some header) count least in
    let n = big_number 1 a in
    record {
      of_a = fits stage [] a (record_next header stage []) accepted.0 refl;
      of_b = fits stage (a ∷ []) b (event_next header stage n []) accepted.1.0 (event_comes header count least a n [] refl some);
      of_c = fits stage (a ∷ b ∷ []) c (event_next header stage n (b ∷ [])) accepted.1.1.0 (event_comes header count least a n (b ∷ []) refl some);
      of_d = fits stage (a ∷ b ∷ c ∷ []) d (event_next header stage n (b ∷ c ∷ [])) accepted.1.1.1.0 (event_comes header count least a n (b ∷ c ∷ []) refl some);
      of_e = fits stage (a ∷ b ∷ c ∷ d ∷ []) e (event_next header stage n (b ∷ c ∷ d ∷ [])) accepted.1.1.1.1.0 (event_comes header count least a n (b ∷ c ∷ d ∷ []) refl some);
    }

-- the number is that of a callback that is registered
registered_number : (header : Header) (count least : ℕ) (a : List ℕ) → big_number 1 a ≢ 0 → Fits (record_next header (opened (Some header) count least) []) a → (in_profile (big_number 1 a) ≡ true) × (is_registered header.mask (big_number 1 a) ≡ true)
registered_number header count least a some fitting = elim (or_cases (big_number 1 a == 0) (in_profile (big_number 1 a) && is_registered header.mask (big_number 1 a)) fitting.accepted) [
  | inl none ↦ absurd (some (eqb-true (big_number 1 a) 0 none))
  | inr both ↦ and_parts (in_profile (big_number 1 a)) (is_registered header.mask (big_number 1 a)) both
]

started :
    (header : Header) (count least : ℕ) (a b c d e : List ℕ) (args : List (List ℕ)) → big_number 1 a ≢ 0
    → AreAccepted (opened (Some header) count least) [] (a ∷ b ∷ c ∷ d ∷ e ∷ args) → StartArguments [] (kinds_of (big_number 1 a)) args
started header count least a b c d e args some accepted =
    arguments_start (opened (Some header) count least) (a ∷ b ∷ c ∷ d ∷ e ∷ []) [] (kinds_of (big_number 1 a)) args (arguments_come header count least a (big_number 1 a) b c d e refl some) accepted.1.1.1.1.1

-- fields that were accepted behind the number of a callback, where none comes, are those of an event
pub event_written :
    (header : Header) (count least : ℕ) (a : List ℕ) (rest : List (List ℕ)) → big_number 1 a ≢ 0 → AreAccepted (opened (Some header) count least) [] (a ∷ rest)
    → next_of (opened (Some header) count least) (a ∷ rest) ≡ None → IsWritten (opened (Some header) count least) (a ∷ rest)
event_written header count least a [] some accepted none = let e = event_comes header count least a (big_number 1 a) [] refl some in absurd cc
event_written header count least a (b ∷ []) some accepted none = let e = event_comes header count least a (big_number 1 a) (b ∷ []) refl some in absurd cc
event_written header count least a (b ∷ c ∷ []) some accepted none = let e = event_comes header count least a (big_number 1 a) (b ∷ c ∷ []) refl some in absurd cc
event_written header count least a (b ∷ c ∷ d ∷ []) some accepted none = let e = event_comes header count least a (big_number 1 a) (b ∷ c ∷ d ∷ []) refl some in absurd cc
event_written header count least a (b ∷ c ∷ d ∷ e ∷ args) some accepted none =
    let n = big_number 1 a in
    let five = five_of header count least a b c d e args some accepted in
    let registered = registered_number header count least a some five.of_a in
    let no_more = sym (event_comes header count least a n (b ∷ c ∷ d ∷ e ∷ args) refl some) ∙ none in
    let are = arguments_all [] (kinds_of n) args (started header count least a b c d e args some accepted) no_more in
    let found = call_from n args registered.0 are in
    let event : EventRecord = record { seq = big_number 4 b; thread = big_number 1 c; state = big_number 2 d; wait_id = big_number 4 e; call = found.call } in
    let between = and_parts (nat_le least (big_number 4 b)) (nat_lt (big_number 4 b) SEQ_LIMIT) five.of_b.accepted in
    record {
      it = item.Event event;
      is_item = (
        header,
        refl,
        leb-true least (big_number 4 b) between.0,
        ltb-true (big_number 4 b) SEQ_LIMIT between.1,
        record {
          registered = ap (is_registered header.mask) found.number_is ∙ registered.1;
          thread = ltb-true (big_number 1 c) header.threads five.of_c.accepted;
          state = five.of_d.accepted;
          wait_id = number_small 4 e five.of_e.is_bytes;
          call = found.is_call;
        },
      );
      bytes_are =
          six a b c d e args (ap (big_bytes 1) found.number_is ∙ spells 1 a five.of_a.width five.of_a.is_bytes) (spells 4 b five.of_b.width five.of_b.is_bytes)
          (spells 1 c five.of_c.width five.of_c.is_bytes) (spells 2 d five.of_d.width five.of_d.is_bytes) (spells 4 e five.of_e.width five.of_e.is_bytes)
          (bytes_numbered 5 (arguments found.call) ∙ found.arguments_are);
    }

goes_5 :
    (header : Header) (count least : ℕ) (a b c d e : List ℕ) (args : List (List ℕ)) → big_number 1 a ≢ 0
    → AreAccepted (opened (Some header) count least) [] (a ∷ b ∷ c ∷ d ∷ e ∷ args) → CanGoOn (opened (Some header) count least) (a ∷ b ∷ c ∷ d ∷ e ∷ args)
goes_5 header count least a b c d e args some accepted =
    let n = big_number 1 a in
    let follow = arguments_follow [] (kinds_of n) args (started header count least a b c d e args some accepted) in
    record {
      more = follow.more;
      accepted = event_accepted header count least a n b c d e (args ++ follow.more) refl some (five_of header count least a b c d e args some accepted) follow.are;
      none = event_ends header count least a n b c d e (args ++ follow.more) refl some follow.are;
    }

goes_4 : (header : Header) (count least : ℕ) (a b c d : List ℕ) → big_number 1 a ≢ 0 → AreAccepted (opened (Some header) count least) [] (a ∷ b ∷ c ∷ d ∷ []) → CanGoOn (opened (Some header) count least) (a ∷ b ∷ c ∷ d ∷ [])
goes_4 header count least a b c d some accepted =
    let stage = opened (Some header) count least in
    one_more stage (a ∷ b ∷ c ∷ d ∷ []) (big_bytes 4 0)
    (goes_5 header count least a b c d (big_bytes 4 0) [] some
    (accepted_more stage (a ∷ b ∷ c ∷ d ∷ []) (big_bytes 4 0) _ accepted (event_comes header count least a (big_number 1 a) (b ∷ c ∷ d ∷ []) refl some) (number_fits 4 0 _ refl refl)))

goes_3 : (header : Header) (count least : ℕ) (a b c : List ℕ) → big_number 1 a ≢ 0 → AreAccepted (opened (Some header) count least) [] (a ∷ b ∷ c ∷ []) → CanGoOn (opened (Some header) count least) (a ∷ b ∷ c ∷ [])
goes_3 header count least a b c some accepted =
    let stage = opened (Some header) count least in
    one_more stage (a ∷ b ∷ c ∷ []) (big_bytes 2 0)
    (goes_4 header count least a b c (big_bytes 2 0) some
    (accepted_more stage (a ∷ b ∷ c ∷ []) (big_bytes 2 0) _ accepted (event_comes header count least a (big_number 1 a) (b ∷ c ∷ []) refl some) (number_fits 2 0 _ refl refl)))

goes_2 : (header : Header) (count least : ℕ) (a b : List ℕ) → IsHeader header → big_number 1 a ≢ 0 → AreAccepted (opened (Some header) count least) [] (a ∷ b ∷ []) → CanGoOn (opened (Some header) count least) (a ∷ b ∷ [])
goes_2 header count least a b is_header some accepted =
    let stage = opened (Some header) count least in
    let threads = is_header.some in
    one_more stage (a ∷ b ∷ []) (big_bytes 1 0)
    (goes_3 header count least a b (big_bytes 1 0) some
    (accepted_more stage (a ∷ b ∷ []) (big_bytes 1 0) _ accepted (event_comes header count least a (big_number 1 a) (b ∷ []) refl some)
    (number_fits 1 0 _ refl (lt-ltb 0 header.threads (omega (arith, threads))))))

-- behind its number, where there is a sequence number
pub event_room :
    (header : Header) (count least : ℕ) (a : List ℕ) → IsHeader header → least < SEQ_LIMIT → big_number 1 a ≢ 0 → AreAccepted (opened (Some header) count least) [] (a ∷ [])
    → CanGoOn (opened (Some header) count least) (a ∷ [])
event_room header count least a is_header room some accepted =
    let stage = opened (Some header) count least in
    let small : least < 256 ^ 4 = omega (arith, room) in
    one_more stage (a ∷ []) (big_bytes 4 least)
    (goes_2 header count least a (big_bytes 4 least) is_header some
    (accepted_more stage (a ∷ []) (big_bytes 4 least) _ accepted (event_comes header count least a (big_number 1 a) [] refl some)
    (number_fits 4 least _ refl
    (ap (λ (k : ℕ). nat_le least k && nat_lt k SEQ_LIMIT) (reads 4 least small) ∙ and_from (nat_le least least) (nat_lt least SEQ_LIMIT) (le-leb least least (omega arith)) (lt-ltb least SEQ_LIMIT room)))))

-- behind its sequence number
pub event_goes :
    (header : Header) (count least : ℕ) (a b : List ℕ) (rest : List (List ℕ)) → IsHeader header → big_number 1 a ≢ 0 → AreAccepted (opened (Some header) count least) [] (a ∷ b ∷ rest)
    → CanGoOn (opened (Some header) count least) (a ∷ b ∷ rest)
event_goes header count least a b [] is_header some accepted = goes_2 header count least a b is_header some accepted
event_goes header count least a b (c ∷ []) is_header some accepted = goes_3 header count least a b c some accepted
event_goes header count least a b (c ∷ d ∷ []) is_header some accepted = goes_4 header count least a b c d some accepted
event_goes header count least a b (c ∷ d ∷ e ∷ args) is_header some accepted = goes_5 header count least a b c d e args some accepted
