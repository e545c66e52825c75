-- The laws of an end mark: its fields are accepted, fields that were accepted are those of an end mark, and a front of them goes on.
use Rattle.std.proofs.Common.{ℕ, ◌≡◌, ◌<◌, ◌^◌, ◌==◌, true, List, [], ◌∷◌, ◌++◌, drop, Some, None, inl, inr, refl, sym, ap, ◌∙◌, arith, eq-eqb, ne_eqb}
use Rattle.std.specs.Prelude.{nat_le}
use Rattle.std.proofs.lemmas.Bool.{and_from, and_parts, cases_eq, eqb-true, le-leb, leb-true}
use Rattle.byteorder.specs.Endian.{big_bytes, big_number}
use Rattle.trace_format.specs.declared.item.Item.TheVariants as item
use Rattle.trace_format.specs.declared.trace.EndMark.{EndMark}
use Rattle.trace_format.specs.declared.trace.Header.{Header}
use Rattle.trace_format.specs.Accepting.{accepts_detail, end_next, next_of, record_next}
use Rattle.trace_format.specs.Decoding.{end_in}
use Rattle.trace_format.specs.Fields.{end_fields}
use Rattle.trace_format.specs.Reached.{AreAccepted, flat}
use Rattle.trace_format.specs.Validity.{IsAmong, IsDetail, IsShort, is_among}
use Rattle.trace_format.proofs.ArgumentLists.{Fits, fits, fits_none}
use Rattle.trace_format.proofs.Naming.{CanGoOn, IsWritten, ReadsItem, accepted_more, accepts_fit, bytes_in, number_fits, one_more, opened, reads_by, whole_now}
use Rattle.trace_format.proofs.Profile.{each_among}
use Rattle.trace_format.proofs.Spelling.{number_small, reads, reads_front, spells}
use Rattle.trace_format.proofs.Values.{among_below, same_test}

abbrev statuses_of_ends : List ℕ
statuses_of_ends = 0 ∷ 1 ∷ 4 ∷ 5 ∷ 6 ∷ []

detail_accepted : (status detail : ℕ) → IsDetail status detail → accepts_detail status detail ≡ true
detail_accepted status detail is =
    each_among (λ s. IsDetail s detail → accepts_detail s detail ≡ true) statuses_of_ends (
      λ of_0. same_test detail 0 (of_0.none refl),
      (
        λ of_1. le-leb 1 detail (of_1.some refl),
        (
          λ of_4. and_from (nat_le 1 detail) (nat_le detail 10) (le-leb 1 detail (of_4.some refl)) (le-leb detail 10 (of_4.trap refl)),
          (
            λ of_5. same_test detail 0 (of_5.none refl),
            (λ of_6. and_from (nat_le 1 detail) (nat_le detail 7) (le-leb 1 detail (of_6.some refl)) (le-leb detail 7 (of_6.limit refl)), tt),
          ),
        ),
      ),
    )
    status is.status_is is

detail_is : (status detail : ℕ) → IsAmong statuses_of_ends status → IsShort detail → accepts_detail status detail ≡ true → IsDetail status detail
detail_is status detail among small test =
    each_among (λ s. accepts_detail s detail ≡ true → IsDetail s detail) statuses_of_ends (
      λ of_0. record { status_is = refl; short = small; none = λ any. eqb-true detail 0 of_0; some = λ other. absurd cc; trap = λ other. absurd (omega arith); limit = λ other. absurd (omega arith) },
      (
        λ of_1. record { status_is = refl; short = small; none = λ other. absurd cc; some = λ any. leb-true 1 detail of_1; trap = λ other. absurd (omega arith); limit = λ other. absurd (omega arith) },
        (
          λ of_4. record {
            status_is = refl;
            short = small;
            none = λ other. absurd cc;
            some = λ any. leb-true 1 detail (and_parts (nat_le 1 detail) (nat_le detail 10) of_4).0;
            trap = λ any. leb-true detail 10 (and_parts (nat_le 1 detail) (nat_le detail 10) of_4).1;
            limit = λ other. absurd (omega arith);
          },
          (
            λ of_5. record { status_is = refl; short = small; none = λ any. eqb-true detail 0 of_5; some = λ other. absurd cc; trap = λ other. absurd (omega arith); limit = λ other. absurd (omega arith) },
            (
              λ of_6. record {
                status_is = refl;
                short = small;
                none = λ other. absurd cc;
                some = λ any. leb-true 1 detail (and_parts (nat_le 1 detail) (nat_le detail 7) of_6).0;
                trap = λ other. absurd (omega arith);
                limit = λ any. leb-true detail 7 (and_parts (nat_le 1 detail) (nat_le detail 7) of_6).1;
              },
              tt,
            ),
          ),
        ),
      ),
    )
    status among test

-- the fields that come behind the number 0
pub end_comes : (header : Header) (count least : ℕ) (number : List ℕ) (more : List (List ℕ)) → big_number 1 number ≡ 0 → next_of (opened (Some header) count least) (number ∷ more) ≡ end_next (opened (Some header) count least) more
end_comes header count least number more zero_number = rw (eq-eqb (big_number 1 number) 0 zero_number) refl

four_accepted :
    (header : Header) (count least : ℕ) (a b c d : List ℕ) → big_number 1 a ≡ 0 → Fits (record_next header (opened (Some header) count least) []) a → Fits (end_next (opened (Some header) count least) []) b
    → Fits (end_next (opened (Some header) count least) (b ∷ [])) c → Fits (end_next (opened (Some header) count least) (b ∷ c ∷ [])) d → AreAccepted (opened (Some header) count least) [] (a ∷ b ∷ c ∷ d ∷ [])
four_accepted header count least a b c d ends of_a of_b of_c of_d = (
  accepts_fit (opened (Some header) count least) [] a _ refl of_a,
  (
    accepts_fit (opened (Some header) count least) (a ∷ []) b _ (end_comes header count least a [] ends) of_b,
    (
      accepts_fit (opened (Some header) count least) (a ∷ b ∷ []) c _ (end_comes header count least a (b ∷ []) ends) of_c,
      (accepts_fit (opened (Some header) count least) (a ∷ b ∷ c ∷ []) d _ (end_comes header count least a (b ∷ c ∷ []) ends) of_d, tt),
    ),
  ),
)

zero_fits : (header : Header) (count least : ℕ) → Fits (record_next header (opened (Some header) count least) []) (big_bytes 1 0)
zero_fits header count least = number_fits 1 0 _ refl refl

pub end_read : (header : Header) (count least : ℕ) (end : EndMark) → IsShort count → IsDetail end.status end.detail → end.count ≡ count → ReadsItem (opened (Some header) count least) (item.End end)
end_read header count least end small is same =
    let stage = opened (Some header) count least in
    let few : end.status < 256 ^ 1 = among_below statuses_of_ends end.status 256 refl is.status_is in
    let counted : end.count < 256 ^ 4 = omega (arith, small, same) in
    let read_status = reads 1 end.status few in
    let read_detail = reads 4 end.detail is.short in
    let read_count = reads 4 end.count counted in
    let a = big_bytes 1 0 in
    let b = big_bytes 1 end.status in
    let c = big_bytes 4 end.detail in
    let d = big_bytes 4 end.count in
    reads_by stage (item.End end) (a ∷ b ∷ c ∷ d ∷ []) refl
    (four_accepted header count least a b c d refl (zero_fits header count least)
    (number_fits 1 end.status _ refl (ap (is_among statuses_of_ends) read_status ∙ is.status_is))
    (number_fits 4 end.detail _ refl
    (ap (λ (n : ℕ). accepts_detail (big_number 1 b) n) read_detail ∙ ap (λ (n : ℕ). accepts_detail n end.detail) read_status ∙ detail_accepted end.status end.detail is))
    (number_fits 4 end.count _ refl (ap (λ (n : ℕ). n == count) read_count ∙ same_test end.count count same)))
    refl refl

same_end : (status detail count : ℕ) (end : EndMark) → status ≡ end.status → detail ≡ end.detail → count ≡ end.count → record { status = status; detail = detail; count = count } ≡ end
same_end status detail count end of_status of_detail of_count =
    ap (λ (n : ℕ). made n detail count) of_status ∙ ap (λ (n : ℕ). made end.status n count) of_detail ∙ ap (λ (n : ℕ). made end.status end.detail n) of_count
  where
    made : ℕ → ℕ → ℕ → EndMark
    made a b c = record { status = a; detail = b; count = c }

-- an end mark is read again from its bytes
pub end_again : (end : EndMark) → IsDetail end.status end.detail → IsShort end.count → end_in (flat (bytes_in (end_fields end))) ≡ end
end_again end is counted =
    let bytes = flat (bytes_in (end_fields end)) in
    let few : end.status < 256 ^ 1 = among_below statuses_of_ends end.status 256 refl is.status_is in
    let rest_d : List ℕ = big_bytes 4 end.count ++ [] in
    let rest_c : List ℕ = big_bytes 4 end.detail ++ rest_d in
    let rest_b : List ℕ = big_bytes 1 end.status ++ rest_c in
    let at_b : drop 1 bytes ≡ rest_b = refl in
    let at_c : drop 2 bytes ≡ rest_c = refl in
    let at_d : drop 6 bytes ≡ rest_d = refl in
    let status : big_number 1 (drop 1 bytes) ≡ end.status = ap (big_number 1) at_b ∙ reads_front 1 end.status rest_c few in
    let detail : big_number 4 (drop 2 bytes) ≡ end.detail = ap (big_number 4) at_c ∙ reads_front 4 end.detail rest_d is.short in
    let count : big_number 4 (drop 6 bytes) ≡ end.count = ap (big_number 4) at_d ∙ reads_front 4 end.count [] counted in
    same_end _ _ _ end status detail count

four : (a b c d : List ℕ) {p q r s : List ℕ} → p ≡ a → q ≡ b → r ≡ c → s ≡ d → p ∷ q ∷ r ∷ s ∷ [] ≡ a ∷ b ∷ c ∷ d ∷ []
four a b c d of_a of_b of_c of_d = cc

-- fields that were accepted behind the number 0, where none comes, are those of an end mark
pub end_written :
    (header : Header) (count least : ℕ) (a : List ℕ) (rest : List (List ℕ)) → big_number 1 a ≡ 0 → AreAccepted (opened (Some header) count least) [] (a ∷ rest)
    → next_of (opened (Some header) count least) (a ∷ rest) ≡ None → IsWritten (opened (Some header) count least) (a ∷ rest)
end_written header count least a [] ends accepted none = let e = end_comes header count least a [] ends in absurd cc
end_written header count least a (b ∷ []) ends accepted none = let e = end_comes header count least a (b ∷ []) ends in absurd cc
end_written header count least a (b ∷ c ∷ []) ends accepted none = let e = end_comes header count least a (b ∷ c ∷ []) ends in absurd cc
end_written header count least a (b ∷ c ∷ d ∷ []) ends accepted none =
    let stage = opened (Some header) count least in
    let of_a = fits stage [] a (record_next header stage []) accepted.0 refl in
    let of_b = fits stage (a ∷ []) b (end_next stage []) accepted.1.0 (end_comes header count least a [] ends) in
    let of_c = fits stage (a ∷ b ∷ []) c (end_next stage (b ∷ [])) accepted.1.1.0 (end_comes header count least a (b ∷ []) ends) in
    let of_d = fits stage (a ∷ b ∷ c ∷ []) d (end_next stage (b ∷ c ∷ [])) accepted.1.1.1.0 (end_comes header count least a (b ∷ c ∷ []) ends) in
    let end : EndMark = record { status = big_number 1 b; detail = big_number 4 c; count = big_number 4 d } in
    let number : big_bytes 1 0 ≡ a = ap (big_bytes 1) (sym ends) ∙ spells 1 a of_a.width of_a.is_bytes in
    record {
      it = item.End end;
      is_item =
          (header, refl, detail_is (big_number 1 b) (big_number 4 c) of_b.accepted (number_small 4 c of_c.is_bytes) of_c.accepted, eqb-true (big_number 4 d) count of_d.accepted);
      bytes_are = four a b c d number (spells 1 b of_b.width of_b.is_bytes) (spells 4 c of_c.width of_c.is_bytes) (spells 4 d of_d.width of_d.is_bytes);
    }
end_written header count least a (b ∷ c ∷ d ∷ e ∷ rest) ends accepted none =
    absurd (fits_none e (fits (opened (Some header) count least) (a ∷ b ∷ c ∷ d ∷ []) e None accepted.1.1.1.1.0 (end_comes header count least a (b ∷ c ∷ d ∷ []) ends)))

-- something that may be told of a status
some_detail : (status : ℕ) → (detail : ℕ) × (IsShort detail) × (accepts_detail status detail ≡ true)
some_detail status = elim (cases_eq status 1) [
  | inl one ↦ (1, omega arith, rw (eq-eqb status 1 one) refl)
  | inr not_one ↦ elim (cases_eq status 4) [
    | inl four ↦ (1, omega arith, rw (ne_eqb status 1 not_one, eq-eqb status 4 four) refl)
    | inr not_four ↦ elim (cases_eq status 6) [
      | inl six ↦ (1, omega arith, rw (ne_eqb status 1 not_one, ne_eqb status 4 not_four, eq-eqb status 6 six) refl)
      | inr not_six ↦ (0, omega arith, rw (ne_eqb status 1 not_one, ne_eqb status 4 not_four, ne_eqb status 6 not_six) refl)
    ]
  ]
]

goes_3 : (header : Header) (count least : ℕ) (a b c : List ℕ) → IsShort count → big_number 1 a ≡ 0 → AreAccepted (opened (Some header) count least) [] (a ∷ b ∷ c ∷ []) → CanGoOn (opened (Some header) count least) (a ∷ b ∷ c ∷ [])
goes_3 header count least a b c small ends accepted =
    let stage = opened (Some header) count least in
    one_more stage (a ∷ b ∷ c ∷ []) (big_bytes 4 count)
    (whole_now stage (a ∷ b ∷ c ∷ big_bytes 4 count ∷ [])
    (accepted_more stage (a ∷ b ∷ c ∷ []) (big_bytes 4 count) _ accepted (end_comes header count least a (b ∷ c ∷ []) ends)
    (number_fits 4 count _ refl (same_test (big_number 4 (big_bytes 4 count)) count (reads 4 count small))))
    (end_comes header count least a (b ∷ c ∷ big_bytes 4 count ∷ []) ends))

goes_2 : (header : Header) (count least : ℕ) (a b : List ℕ) → IsShort count → big_number 1 a ≡ 0 → AreAccepted (opened (Some header) count least) [] (a ∷ b ∷ []) → CanGoOn (opened (Some header) count least) (a ∷ b ∷ [])
goes_2 header count least a b small ends accepted =
    let stage = opened (Some header) count least in
    let detail = some_detail (big_number 1 b) in
    one_more stage (a ∷ b ∷ []) (big_bytes 4 detail.0)
    (goes_3 header count least a b (big_bytes 4 detail.0) small ends
    (accepted_more stage (a ∷ b ∷ []) (big_bytes 4 detail.0) _ accepted (end_comes header count least a (b ∷ []) ends)
    (number_fits 4 detail.0 _ refl (ap (λ (n : ℕ). accepts_detail (big_number 1 b) n) (reads 4 detail.0 detail.1) ∙ detail.2))))

goes_1 : (header : Header) (count least : ℕ) (a : List ℕ) → IsShort count → big_number 1 a ≡ 0 → AreAccepted (opened (Some header) count least) [] (a ∷ []) → CanGoOn (opened (Some header) count least) (a ∷ [])
goes_1 header count least a small ends accepted =
    let stage = opened (Some header) count least in
    one_more stage (a ∷ []) (big_bytes 1 0)
    (goes_2 header count least a (big_bytes 1 0) small ends
    (accepted_more stage (a ∷ []) (big_bytes 1 0) _ accepted (end_comes header count least a [] ends) (number_fits 1 0 _ refl refl)))

-- a front of an end mark's fields goes on
pub end_goes :
    (header : Header) (count least : ℕ) (a : List ℕ) (rest : List (List ℕ)) → IsShort count → big_number 1 a ≡ 0 → AreAccepted (opened (Some header) count least) [] (a ∷ rest)
    → CanGoOn (opened (Some header) count least) (a ∷ rest)
end_goes header count least a [] small ends accepted = goes_1 header count least a small ends accepted
end_goes header count least a (b ∷ []) small ends accepted = goes_2 header count least a b small ends accepted
end_goes header count least a (b ∷ c ∷ []) small ends accepted = goes_3 header count least a b c small ends accepted
end_goes header count least a (b ∷ c ∷ d ∷ []) small ends accepted =
    whole_now (opened (Some header) count least) (a ∷ b ∷ c ∷ d ∷ []) accepted (end_comes header count least a (b ∷ c ∷ d ∷ []) ends)
end_goes header count least a (b ∷ c ∷ d ∷ e ∷ rest) small ends accepted =
    absurd (fits_none e (fits (opened (Some header) count least) (a ∷ b ∷ c ∷ d ∷ []) e None accepted.1.1.1.1.0 (end_comes header count least a (b ∷ c ∷ d ∷ []) ends)))

-- where nothing has come an end mark may
pub end_starts : (header : Header) (count least : ℕ) → IsShort count → CanGoOn (opened (Some header) count least) []
end_starts header count least small =
    let stage = opened (Some header) count least in
    one_more stage [] (big_bytes 1 0)
    (goes_1 header count least (big_bytes 1 0) small refl (accepted_more stage [] (big_bytes 1 0) _ tt refl (zero_fits header count least)))
