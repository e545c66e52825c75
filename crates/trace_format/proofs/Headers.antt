-- The laws of a header: its fields are accepted, fields that were accepted are those of a header, and a front of them goes on.
use Rattle.std.proofs.Common.{ℕ, ◌≡◌, ◌<◌, ◌^◌, ◌&&◌, List, [], ◌∷◌, ◌++◌, drop, None, refl, sym, ap, ◌∙◌, arith}
use Rattle.std.specs.Prelude.{nat_le}
use Rattle.std.proofs.lemmas.Bool.{and_from, and_parts, eqb-true, le-leb, leb-true}
use Rattle.byteorder.specs.Endian.{big_bytes, big_number}
use Rattle.trace_format.specs.declared.item.Item.TheVariants as item
use Rattle.trace_format.specs.declared.trace.Header.{Header}
use Rattle.trace_format.specs.declared.trace.TheConstants.{FIRST_VERSION, MIGRATED, RECORDED, VERSION}
use Rattle.trace_format.specs.Accepting.{accepts_mask, header_next, next_of}
use Rattle.trace_format.specs.Decoding.{header_in}
use Rattle.trace_format.specs.Fields.{header_fields, magic}
use Rattle.trace_format.specs.Reached.{AreAccepted, IsBytes, flat}
use Rattle.trace_format.specs.Validity.{IsHeader, is_among}
use Rattle.trace_format.proofs.ArgumentLists.{Fits, fits, fits_none}
use Rattle.trace_format.proofs.Masks.{accepts_origin, mask_accepted, mask_is, origin_accepted, origin_is}
use Rattle.trace_format.proofs.Naming.{CanGoOn, IsWritten, ReadsItem, accepted_more, accepts_fit, bytes_in, number_fits, one_more, opened, reads_by, whole_now}
use Rattle.trace_format.proofs.Spelling.{cons_bytes, nil_bytes, number_small, reads, reads_front, same_bytes, spells}
use Rattle.trace_format.proofs.Values.{among_below}

magic_bytes : IsBytes magic
magic_bytes = cons_bytes 79 (77 ∷ 80 ∷ 84 ∷ []) (omega arith) (cons_bytes 77 (80 ∷ 84 ∷ []) (omega arith) (cons_bytes 80 (84 ∷ []) (omega arith) (cons_bytes 84 [] (omega arith) nil_bytes)))

magic_fits : Fits (header_next []) magic
magic_fits = record { width = refl; is_bytes = magic_bytes; accepted = refl }

-- the five fields of a header are accepted
five_accepted :
    (count least : ℕ) (a b c d e : List ℕ) → Fits (header_next []) a → Fits (header_next (a ∷ [])) b → Fits (header_next (a ∷ b ∷ [])) c
    → Fits (header_next (a ∷ b ∷ c ∷ [])) d → Fits (header_next (a ∷ b ∷ c ∷ d ∷ [])) e → AreAccepted (opened None count least) [] (a ∷ b ∷ c ∷ d ∷ e ∷ [])
five_accepted count least a b c d e of_a of_b of_c of_d of_e = (
  accepts_fit (opened None count least) [] a _ refl of_a,
  (
    accepts_fit (opened None count least) (a ∷ []) b _ refl of_b,
    (
      accepts_fit (opened None count least) (a ∷ b ∷ []) c _ refl of_c,
      (
        accepts_fit (opened None count least) (a ∷ b ∷ c ∷ []) d _ refl of_d,
        (accepts_fit (opened None count least) (a ∷ b ∷ c ∷ d ∷ []) e _ refl of_e, tt),
      ),
    ),
  ),
)

-- the numbers of a header fit their fields
record AreFitting (header : Header) : Type 0 where
  version : header.version < 256 ^ 2
  threads : header.threads < 256 ^ 1
  origin : header.origin < 256 ^ 1
  mask : header.mask < 256 ^ 8

are_fitting : (header : Header) → IsHeader header → AreFitting header
are_fitting header is =
    record {
      version = among_below (FIRST_VERSION ∷ VERSION ∷ []) header.version 65536 refl is.version;
      threads = let h = is.few in omega (arith, h);
      origin = among_below (RECORDED ∷ MIGRATED ∷ []) header.origin 256 refl is.origin.0;
      mask = is.mask.long;
    }

pub header_read : (count least : ℕ) (header : Header) → IsHeader header → ReadsItem (opened None count least) (item.Header header)
header_read count least header is =
    let small = are_fitting header is in
    let read_version = reads 2 header.version small.version in
    let read_threads = reads 1 header.threads small.threads in
    let read_origin = reads 1 header.origin small.origin in
    let read_mask = reads 8 header.mask small.mask in
    let a = magic in
    let b = big_bytes 2 header.version in
    let c = big_bytes 1 header.threads in
    let d = big_bytes 1 header.origin in
    let e = big_bytes 8 header.mask in
    reads_by (opened None count least) (item.Header header) (a ∷ b ∷ c ∷ d ∷ e ∷ []) refl
    (five_accepted count least a b c d e magic_fits
    (number_fits 2 header.version _ refl (ap (is_among (FIRST_VERSION ∷ VERSION ∷ [])) read_version ∙ is.version))
    (number_fits 1 header.threads _ refl
    (ap (λ (n : ℕ). nat_le 1 n && nat_le n 16) read_threads ∙ and_from (nat_le 1 header.threads) (nat_le header.threads 16) (le-leb 1 header.threads is.some) (le-leb header.threads 16 is.few)))
    (number_fits 1 header.origin _ refl
    (ap (λ (n : ℕ). accepts_origin (big_number 2 b) n) read_origin ∙ ap (λ (n : ℕ). accepts_origin n header.origin) read_version ∙ origin_accepted header.version header.origin is.version is.origin))
    (number_fits 8 header.mask _ refl
    (ap (λ (n : ℕ). accepts_mask n (big_number 1 d) (big_number 8 e)) read_version
    ∙ ap (λ (n : ℕ). accepts_mask header.version n (big_number 8 e)) read_origin
    ∙ ap (λ (n : ℕ). accepts_mask header.version header.origin n) read_mask
    ∙ mask_accepted header is.mask)))
    refl refl

same_header : (version threads origin mask : ℕ) (header : Header) → version ≡ header.version → threads ≡ header.threads → origin ≡ header.origin → mask ≡ header.mask → record { version = version; threads = threads; origin = origin; mask = mask } ≡ header
same_header version threads origin mask header of_version of_threads of_origin of_mask =
    ap (λ (n : ℕ). made n threads origin mask) of_version
    ∙ ap (λ (n : ℕ). made header.version n origin mask) of_threads
    ∙ ap (λ (n : ℕ). made header.version header.threads n mask) of_origin
    ∙ ap (λ (n : ℕ). made header.version header.threads header.origin n) of_mask
  where
    made : ℕ → ℕ → ℕ → ℕ → Header
    made a b c d = record { version = a; threads = b; origin = c; mask = d }

-- a header is read again from its bytes
pub header_again : (header : Header) → IsHeader header → header_in (flat (bytes_in (header_fields header))) ≡ header
header_again header is =
    let small = are_fitting header is in
    let bytes = flat (bytes_in (header_fields header)) in
    let rest_e : List ℕ = big_bytes 8 header.mask ++ [] in
    let rest_d : List ℕ = big_bytes 1 header.origin ++ rest_e in
    let rest_c : List ℕ = big_bytes 1 header.threads ++ rest_d in
    let rest_b : List ℕ = big_bytes 2 header.version ++ rest_c in
    let at_b : drop 4 bytes ≡ rest_b = refl in
    let at_c : drop 6 bytes ≡ rest_c = refl in
    let at_d : drop 7 bytes ≡ rest_d = refl in
    let at_e : drop 8 bytes ≡ rest_e = refl in
    let version : big_number 2 (drop 4 bytes) ≡ header.version = ap (big_number 2) at_b ∙ reads_front 2 header.version rest_c small.version in
    let threads : big_number 1 (drop 6 bytes) ≡ header.threads = ap (big_number 1) at_c ∙ reads_front 1 header.threads rest_d small.threads in
    let origin : big_number 1 (drop 7 bytes) ≡ header.origin = ap (big_number 1) at_d ∙ reads_front 1 header.origin rest_e small.origin in
    let mask : big_number 8 (drop 8 bytes) ≡ header.mask = ap (big_number 8) at_e ∙ reads_front 8 header.mask [] small.mask in
    same_header _ _ _ _ header version threads origin mask

five : (a b c d e : List ℕ) {p q r s t : List ℕ} → p ≡ a → q ≡ b → r ≡ c → s ≡ d → t ≡ e → p ∷ q ∷ r ∷ s ∷ t ∷ [] ≡ a ∷ b ∷ c ∷ d ∷ e ∷ []
five a b c d e of_a of_b of_c of_d of_e = cc

-- fields that were accepted, where none comes, are those of a header
pub header_written : (count least : ℕ) (fields : List (List ℕ)) → AreAccepted (opened None count least) [] fields → next_of (opened None count least) fields ≡ None → IsWritten (opened None count least) fields
header_written count least [] accepted none = absurd cc
header_written count least (a ∷ []) accepted none = absurd cc
header_written count least (a ∷ b ∷ []) accepted none = absurd cc
header_written count least (a ∷ b ∷ c ∷ []) accepted none = absurd cc
header_written count least (a ∷ b ∷ c ∷ d ∷ []) accepted none = absurd cc
header_written count least (a ∷ b ∷ c ∷ d ∷ e ∷ []) accepted none =
    let stage = opened None count least in
    let of_a = fits stage [] a (header_next []) accepted.0 refl in
    let of_b = fits stage (a ∷ []) b (header_next (a ∷ [])) accepted.1.0 refl in
    let of_c = fits stage (a ∷ b ∷ []) c (header_next (a ∷ b ∷ [])) accepted.1.1.0 refl in
    let of_d = fits stage (a ∷ b ∷ c ∷ []) d (header_next (a ∷ b ∷ c ∷ [])) accepted.1.1.1.0 refl in
    let of_e = fits stage (a ∷ b ∷ c ∷ d ∷ []) e (header_next (a ∷ b ∷ c ∷ d ∷ [])) accepted.1.1.1.1.0 refl in
    let header : Header = record { version = big_number 2 b; threads = big_number 1 c; origin = big_number 1 d; mask = big_number 8 e } in
    let threads = and_parts (nat_le 1 (big_number 1 c)) (nat_le (big_number 1 c) 16) of_c.accepted in
    let first : magic ≡ a = same_bytes 4 magic a refl of_a.width magic_bytes of_a.is_bytes (sym (eqb-true (big_number 4 a) (big_number 4 magic) of_a.accepted)) in
    record {
      it = item.Header header;
      is_item = (
        refl,
        record {
          version = of_b.accepted;
          some = leb-true 1 (big_number 1 c) threads.0;
          few = leb-true (big_number 1 c) 16 threads.1;
          origin = origin_is (big_number 2 b) (big_number 1 d) of_d.accepted;
          mask = mask_is header (number_small 8 e of_e.is_bytes) of_e.accepted;
        },
      );
      bytes_are = five a b c d e first (spells 2 b of_b.width of_b.is_bytes) (spells 1 c of_c.width of_c.is_bytes) (spells 1 d of_d.width of_d.is_bytes) (spells 8 e of_e.width of_e.is_bytes);
    }
header_written count least (a ∷ b ∷ c ∷ d ∷ e ∷ f ∷ rest) accepted none =
    absurd (fits_none f (fits (opened None count least) (a ∷ b ∷ c ∷ d ∷ e ∷ []) f None accepted.1.1.1.1.1.0 refl))

-- a front of a header's fields goes on
goes_4 : (count least : ℕ) (a b c d : List ℕ) → AreAccepted (opened None count least) [] (a ∷ b ∷ c ∷ d ∷ []) → CanGoOn (opened None count least) (a ∷ b ∷ c ∷ d ∷ [])
goes_4 count least a b c d accepted =
    let stage = opened None count least in
    one_more stage (a ∷ b ∷ c ∷ d ∷ []) (big_bytes 8 0)
    (whole_now stage (a ∷ b ∷ c ∷ d ∷ big_bytes 8 0 ∷ []) (accepted_more stage (a ∷ b ∷ c ∷ d ∷ []) (big_bytes 8 0) _ accepted refl (number_fits 8 0 _ refl refl)) refl)

goes_3 : (count least : ℕ) (a b c : List ℕ) → AreAccepted (opened None count least) [] (a ∷ b ∷ c ∷ []) → CanGoOn (opened None count least) (a ∷ b ∷ c ∷ [])
goes_3 count least a b c accepted =
    let stage = opened None count least in
    one_more stage (a ∷ b ∷ c ∷ []) (big_bytes 1 0)
    (goes_4 count least a b c (big_bytes 1 0) (accepted_more stage (a ∷ b ∷ c ∷ []) (big_bytes 1 0) _ accepted refl (number_fits 1 0 _ refl refl)))

goes_2 : (count least : ℕ) (a b : List ℕ) → AreAccepted (opened None count least) [] (a ∷ b ∷ []) → CanGoOn (opened None count least) (a ∷ b ∷ [])
goes_2 count least a b accepted =
    let stage = opened None count least in
    one_more stage (a ∷ b ∷ []) (big_bytes 1 1)
    (goes_3 count least a b (big_bytes 1 1) (accepted_more stage (a ∷ b ∷ []) (big_bytes 1 1) _ accepted refl (number_fits 1 1 _ refl refl)))

goes_1 : (count least : ℕ) (a : List ℕ) → AreAccepted (opened None count least) [] (a ∷ []) → CanGoOn (opened None count least) (a ∷ [])
goes_1 count least a accepted =
    let stage = opened None count least in
    one_more stage (a ∷ []) (big_bytes 2 1)
    (goes_2 count least a (big_bytes 2 1) (accepted_more stage (a ∷ []) (big_bytes 2 1) _ accepted refl (number_fits 2 1 _ refl refl)))

pub header_goes : (count least : ℕ) (fields : List (List ℕ)) → AreAccepted (opened None count least) [] fields → CanGoOn (opened None count least) fields
header_goes count least [] accepted =
    let stage = opened None count least in
    one_more stage [] magic (goes_1 count least magic (accepted_more stage [] magic _ accepted refl magic_fits))
header_goes count least (a ∷ []) accepted = goes_1 count least a accepted
header_goes count least (a ∷ b ∷ []) accepted = goes_2 count least a b accepted
header_goes count least (a ∷ b ∷ c ∷ []) accepted = goes_3 count least a b c accepted
header_goes count least (a ∷ b ∷ c ∷ d ∷ []) accepted = goes_4 count least a b c d accepted
header_goes count least (a ∷ b ∷ c ∷ d ∷ e ∷ []) accepted = whole_now (opened None count least) (a ∷ b ∷ c ∷ d ∷ e ∷ []) accepted refl
header_goes count least (a ∷ b ∷ c ∷ d ∷ e ∷ f ∷ rest) accepted =
    absurd (fits_none f (fits (opened None count least) (a ∷ b ∷ c ∷ d ∷ e ∷ []) f None accepted.1.1.1.1.1.0 refl))
