-- The laws of an event: its fields are accepted, fields that were accepted are those of an event, and a front of them goes on.
use Rattle.std.proofs.Common.{ℕ, ◌≡◌, ◌≢◌, ◌<◌, ◌≤◌, ◌^◌, ◌==◌, ◌&&◌, ◌||◌, true, List, [], ◌∷◌, Option, Some, None, refl, sym, ap, ◌∙◌, arith, ne_eqb}
use Rattle.std.specs.Prelude.{nat_le, nat_lt}
use Rattle.std.proofs.lemmas.Bool.{and_from, le-leb, lt-ltb, or_right}
use Rattle.byteorder.specs.Endian.{big_bytes, big_number}
use Rattle.omp_codes.specs.Answers.{in_profile}
use Rattle.omp_codes.specs.States.{states}
use Rattle.ompt_calls.specs.declared.call.Call.{Call}
use Rattle.ompt_calls.specs.declared.event.EventRecord.{EventRecord}
use Rattle.ompt_calls.specs.Number.{is_registered, number_of}
use Rattle.trace_format.specs.declared.field.Field.TheVariants.{Number, Numbered, Seq}
use Rattle.trace_format.specs.declared.item.Item.TheVariants as item
use Rattle.trace_format.specs.declared.trace.Header.{Header}
use Rattle.trace_format.specs.declared.trace.TheConstants.{SEQ_LIMIT}
use Rattle.trace_format.specs.Accepting.{Next, event_next, kinds_of, next_of, record_next}
use Rattle.trace_format.specs.Fields.{Spelt, arguments, numbered_from}
use Rattle.trace_format.specs.Reached.{AreAccepted}
use Rattle.trace_format.specs.Validity.{IsEvent, IsHeader, is_among}
use Rattle.trace_format.proofs.ArgumentLists.{AreArguments, Comes, Fits, arguments_accepted, arguments_end}
use Rattle.trace_format.proofs.Naming.{ReadsItem, accepts_fit, bytes_numbered, named_from, number_fits, numbered_named, opened, reads_by, spelt_next}
use Rattle.trace_format.proofs.Profile.{call_arguments, in_its_profile, profile_small}
use Rattle.trace_format.proofs.Spelling.{reads}
use Rattle.trace_format.proofs.Values.{among_below}

-- the fields that come behind the number of a callback
pub event_comes :
    (header : Header) (count least : ℕ) (number : List ℕ) (n : ℕ) (more : List (List ℕ)) → big_number 1 number ≡ n → n ≢ 0
    → next_of (opened (Some header) count least) (number ∷ more) ≡ event_next header (opened (Some header) count least) n more
event_comes header count least number n more reads_n some = rw reads_n (rw (ne_eqb n 0 some) refl)

-- the fields of an event, before its arguments
pub record AreFive (header : Header) (count least n : ℕ) (a b c d e : List ℕ) : Type 0 where
  pub of_a : Fits (record_next header (opened (Some header) count least) []) a
  pub of_b : Fits (event_next header (opened (Some header) count least) n []) b
  pub of_c : Fits (event_next header (opened (Some header) count least) n (b ∷ [])) c
  pub of_d : Fits (event_next header (opened (Some header) count least) n (b ∷ c ∷ [])) d
  pub of_e : Fits (event_next header (opened (Some header) count least) n (b ∷ c ∷ d ∷ [])) e

pub arguments_come :
    (header : Header) (count least : ℕ) (a : List ℕ) (n : ℕ) (b c d e : List ℕ) → big_number 1 a ≡ n → n ≢ 0
    → Comes (opened (Some header) count least) (a ∷ b ∷ c ∷ d ∷ e ∷ []) [] (kinds_of n)
arguments_come header count least a n b c d e reads_n some more = event_comes header count least a n (b ∷ c ∷ d ∷ e ∷ more) reads_n some

pub event_accepted :
    (header : Header) (count least : ℕ) (a : List ℕ) (n : ℕ) (b c d e : List ℕ) (args : List (List ℕ)) → big_number 1 a ≡ n → n ≢ 0
    → AreFive header count least n a b c d e → AreArguments [] (kinds_of n) args → AreAccepted (opened (Some header) count least) [] (a ∷ b ∷ c ∷ d ∷ e ∷ args)
event_accepted header count least a n b c d e args reads_n some five are =
    let stage = opened (Some header) count least in (
      accepts_fit stage [] a _ refl five.of_a,
      (
        accepts_fit stage (a ∷ []) b _ (event_comes header count least a n [] reads_n some) five.of_b,
        (
          accepts_fit stage (a ∷ b ∷ []) c _ (event_comes header count least a n (b ∷ []) reads_n some) five.of_c,
          (
            accepts_fit stage (a ∷ b ∷ c ∷ []) d _ (event_comes header count least a n (b ∷ c ∷ []) reads_n some) five.of_d,
            (
              accepts_fit stage (a ∷ b ∷ c ∷ d ∷ []) e _ (event_comes header count least a n (b ∷ c ∷ d ∷ []) reads_n some) five.of_e,
              arguments_accepted stage (a ∷ b ∷ c ∷ d ∷ e ∷ []) [] (kinds_of n) args (arguments_come header count least a n b c d e reads_n some) are,
            ),
          ),
        ),
      ),
    )

pub event_ends :
    (header : Header) (count least : ℕ) (a : List ℕ) (n : ℕ) (b c d e : List ℕ) (args : List (List ℕ)) → big_number 1 a ≡ n → n ≢ 0
    → AreArguments [] (kinds_of n) args → next_of (opened (Some header) count least) (a ∷ b ∷ c ∷ d ∷ e ∷ args) ≡ None
event_ends header count least a n b c d e args reads_n some are =
    event_comes header count least a n (b ∷ c ∷ d ∷ e ∷ args) reads_n some ∙ arguments_end [] (kinds_of n) args are

four_names : {p q r s t u v w : Spelt} {x y : List Spelt} → p ≡ t → q ≡ u → r ≡ v → s ≡ w → x ≡ y → p ∷ q ∷ r ∷ s ∷ x ≡ t ∷ u ∷ v ∷ w ∷ y
four_names of_p of_q of_r of_s of_x = cc

-- the names of an event's fields
event_named :
    (header : Header) (count least : ℕ) (a : List ℕ) (n : ℕ) (b c d e : List ℕ) (args : List (List ℕ)) → big_number 1 a ≡ n → n ≢ 0 → AreArguments [] (kinds_of n) args
    → record { field = Number; bytes = a } ∷ record { field = Seq; bytes = b } ∷ record { field = Numbered 2; bytes = c } ∷ record { field = Numbered 3; bytes = d }
    ∷ record { field = Numbered 4; bytes = e } ∷ numbered_from 5 args ≡ named_from (opened (Some header) count least) [] (a ∷ b ∷ c ∷ d ∷ e ∷ args)
event_named header count least a n b c d e args reads_n some are =
    let stage = opened (Some header) count least in
    let come_b = event_comes header count least a n [] reads_n some in
    let come_c = event_comes header count least a n (b ∷ []) reads_n some in
    let come_d = event_comes header count least a n (b ∷ c ∷ []) reads_n some in
    let come_e = event_comes header count least a n (b ∷ c ∷ d ∷ []) reads_n some in
    let rest = numbered_named stage (a ∷ b ∷ c ∷ d ∷ e ∷ []) [] (kinds_of n) args (arguments_come header count least a n b c d e reads_n some) are in
    ap (λ (l : List Spelt). spelt_next (record_next header stage []) a ∷ l)
    (four_names (sym (ap (λ (o : Option Next). spelt_next o b) come_b)) (sym (ap (λ (o : Option Next). spelt_next o c) come_c)) (sym (ap (λ (o : Option Next). spelt_next o d) come_d))
    (sym (ap (λ (o : Option Next). spelt_next o e) come_e)) rest)

-- the number of a callback in its byte
pub number_reads : (call : Call) → big_number 1 (big_bytes 1 (number_of call)) ≡ number_of call
number_reads call = let small = profile_small (number_of call) (in_its_profile call) in reads 1 (number_of call) (omega (arith, small))

pub not_zero : (n : ℕ) → in_profile n ≡ true → n ≢ 0
not_zero n inside is_zero = let e = ap in_profile is_zero in absurd cc

pub number_fitting : (header : Header) (count least : ℕ) (call : Call) → is_registered header.mask (number_of call) ≡ true → Fits (record_next header (opened (Some header) count least) []) (big_bytes 1 (number_of call))
number_fitting header count least call registered =
    number_fits 1 (number_of call) _ refl
    (ap (λ (k : ℕ). k == 0 || (in_profile k && is_registered header.mask k)) (number_reads call)
    ∙ or_right (number_of call == 0) _ (and_from (in_profile (number_of call)) (is_registered header.mask (number_of call)) (in_its_profile call) registered))

pub event_read :
    (header : Header) (count least : ℕ) (event : EventRecord) → IsHeader header → least ≤ event.seq → event.seq < SEQ_LIMIT → IsEvent header event
    → ReadsItem (opened (Some header) count least) (item.Event event)
event_read header count least event is_header from below is =
    let stage = opened (Some header) count least in
    let n = number_of event.call in
    let few = is_header.few in
    let on = is.thread in
    let small_seq : event.seq < 256 ^ 4 = omega (arith, below) in
    let small_thread : event.thread < 256 ^ 1 = omega (arith, few, on) in
    let small_state : event.state < 256 ^ 2 = among_below states event.state 65536 refl is.state in
    let read_seq = reads 4 event.seq small_seq in
    let read_thread = reads 1 event.thread small_thread in
    let read_state = reads 2 event.state small_state in
    let some = not_zero n (in_its_profile event.call) in
    let are = call_arguments event.call is.call in
    let a = big_bytes 1 n in
    let b = big_bytes 4 event.seq in
    let c = big_bytes 1 event.thread in
    let d = big_bytes 2 event.state in
    let e = big_bytes 4 event.wait_id in
    let args = arguments event.call in
    reads_by stage (item.Event event) (a ∷ b ∷ c ∷ d ∷ e ∷ args)
    (ap (λ (l : List (List ℕ)). a ∷ b ∷ c ∷ d ∷ e ∷ l) (bytes_numbered 5 args))
    (event_accepted header count least a n b c d e args (number_reads event.call) some
    (record {
      of_a = number_fitting header count least event.call is.registered;
      of_b = number_fits 4 event.seq _ refl
          (ap (λ (k : ℕ). nat_le least k && nat_lt k SEQ_LIMIT) read_seq ∙ and_from (nat_le least event.seq) (nat_lt event.seq SEQ_LIMIT) (le-leb least event.seq from) (lt-ltb event.seq SEQ_LIMIT below));
      of_c = number_fits 1 event.thread _ refl (ap (λ (k : ℕ). nat_lt k header.threads) read_thread ∙ lt-ltb event.thread header.threads on);
      of_d = number_fits 2 event.state _ refl (ap (is_among states) read_state ∙ is.state);
      of_e = number_fits 4 event.wait_id _ refl refl;
    }) are)
    (event_named header count least a n b c d e args (number_reads event.call) some are)
    (event_ends header count least a n b c d e args (number_reads event.call) some are)
