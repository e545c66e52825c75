-- The fields of a header, by the bytes of those that were accepted.
use Rattle.std.proofs.Common.{ℕ, ◌≡◌, ◌≤◌, Bool, cond, false, List, [], ◌∷◌, ◌++◌, length, drop, Option, Some, None, refl, ap, sym, ◌∙◌, append_assoc, length-append, arith}
use Rattle.std.proofs.lemmas.Grind.{flat_map-append}
use Rattle.std.proofs.lemmas.Bool.{ne_eqb}
use Rattle.std.proofs.Math.Seq.{drop-append_seam}
use Rattle.byteorder.specs.Endian.{big_number}
use Rattle.byteorder.specs.Numbers.{big_from-append}
use Rattle.trace_format.specs.declared.field.Field.TheVariants.{Origin, Mask}
use Rattle.trace_format.specs.declared.test.Test.TheVariants as test
use Rattle.trace_format.specs.declared.trace.Header.{Header}
use Rattle.trace_format.specs.Accepting.{Next, header_next, next_in, next_of}
use Rattle.trace_format.specs.Flat.{header_coming, next_in_code, option_in_code}
use Rattle.trace_format.specs.Reached.{AreAccepted, IsAccepted, flat}
use Rattle.trace_format.specs.Taking.{Stage}

-- what is read of a field in the middle of others
pub read_field : (n : ℕ) (before : List (List ℕ)) (b : List ℕ) (after : List (List ℕ)) (rest : List ℕ) (k : ℕ) → k ≡ length (flat before) → n ≤ length b → big_number n (drop k (flat (before ++ b ∷ after) ++ rest)) ≡ big_number n b
read_field n before b after rest k e h =
    let f : flat (before ++ b ∷ after) ++ rest ≡ flat before ++ (b ++ (flat after ++ rest)) =
    ap (λ (xs : List ℕ). xs ++ rest) (flat_map-append (λ (xs : List ℕ). xs) before (b ∷ after)) ∙ append_assoc (flat before) (b ++ flat after) rest ∙ ap (λ (xs : List ℕ). flat before ++ xs) (append_assoc b (flat after) rest) in
    rw (f, e, drop-append_seam (flat before) (b ++ (flat after ++ rest))) (big_from-append n b (flat after ++ rest) h)

pub same_next : {a b : Next} → Some a ≡ Some b → a ≡ b
same_next {a = a} {b = b} e = cc

pub width_at : (stage : Stage) (before : List (List ℕ)) (bytes : List ℕ) (next : Next) → IsAccepted stage before bytes → next_of stage before ≡ Some next → length bytes ≡ next.width
width_at stage before bytes next a e = a.width ∙ ap (λ (n : Next). n.width) (same_next (sym a.comes ∙ e))

pub at_header : (stage : Stage) (fields : List (List ℕ)) → stage.over ≡ false → stage.header ≡ None → next_of stage fields ≡ header_next fields
at_header stage fields goes none = ap (λ (b : Bool). cond b None (next_in stage stage.header fields)) goes ∙ ap (λ (h : Option Header). next_in stage h fields) none

-- the widths of the first fields
pub record HeaderWidths (a b c d : List ℕ) : Type 0 where
  pub magic : length a ≡ 4
  pub version : length b ≡ 2
  pub threads : length c ≡ 1

pub header_widths : (stage : Stage) (a b c d : List ℕ) → stage.over ≡ false → stage.header ≡ None → AreAccepted stage [] (a ∷ b ∷ c ∷ []) → HeaderWidths a b c d
header_widths stage a b c d goes none acc =
    record {
      magic = width_at stage [] a _ acc.0 (at_header stage [] goes none);
      version = width_at stage (a ∷ []) b _ acc.1.0 (at_header stage (a ∷ []) goes none);
      threads = width_at stage (a ∷ b ∷ []) c _ acc.1.1.0 (at_header stage (a ∷ b ∷ []) goes none);
    }

-- none comes behind the mask
header_end : (n : ℕ) (bytes : List ℕ) → 5 ≤ n → header_coming n bytes ≡ None
header_end n bytes h =
    let h0 : n ≡ 0 → ⊥ = λ e. omega arith in
    let h1 : n ≡ 1 → ⊥ = λ e. omega arith in
    let h2 : n ≡ 2 → ⊥ = λ e. omega arith in
    let h3 : n ≡ 3 → ⊥ = λ e. omega arith in
    let h4 : n ≡ 4 → ⊥ = λ e. omega arith in
    rw (ne_eqb n 0 h0, ne_eqb n 1 h1, ne_eqb n 2 h2, ne_eqb n 3 h3, ne_eqb n 4 h4) refl

pub header_comes : (stage : Stage) (fields : List (List ℕ)) (rest : List ℕ) → stage.over ≡ false → stage.header ≡ None → AreAccepted stage [] fields → header_next fields ≡ option_in_code (header_coming (length fields) (flat fields ++ rest))
header_comes stage [] rest goes none acc = refl
header_comes stage (a ∷ []) rest goes none acc = refl
header_comes stage (a ∷ b ∷ []) rest goes none acc = refl
header_comes stage (a ∷ b ∷ c ∷ []) rest goes none acc =
    let w : HeaderWidths a b c [] = header_widths stage a b c [] goes none acc in
    let l : 4 ≡ length (flat (a ∷ [])) = omega (arith, length-append a [], w.magic) in
    ap (λ (v : ℕ). Some (next_in_code (record { field = Origin; test = test.Origin v }))) (sym (read_field 2 (a ∷ []) b (c ∷ []) rest 4 l (omega (arith, w.version))))
header_comes stage (a ∷ b ∷ c ∷ d ∷ []) rest goes none acc =
    let w : HeaderWidths a b c d = header_widths stage a b c d goes none (acc.0, (acc.1.0, (acc.1.1.0, tt))) in
    let l : 4 ≡ length (flat (a ∷ [])) = omega (arith, length-append a [], w.magic) in
    let m : 7 ≡ length (flat (a ∷ b ∷ c ∷ [])) = omega (arith, length-append a (b ++ (c ++ [])), length-append b (c ++ []), length-append c [], w.magic, w.version, w.threads) in
    let o : length d ≡ 1 = width_at stage (a ∷ b ∷ c ∷ []) d _ acc.1.1.1.0 (at_header stage (a ∷ b ∷ c ∷ []) goes none) in
    ap (λ (v : ℕ). Some (next_in_code (record { field = Mask; test = test.Mask v (big_number 1 d) }))) (sym (read_field 2 (a ∷ []) b (c ∷ d ∷ []) rest 4 l (omega (arith, w.version))))
    ∙ ap (λ (v : ℕ). Some (next_in_code (record { field = Mask; test = test.Mask (big_number 2 (drop 4 (flat (a ∷ b ∷ c ∷ d ∷ []) ++ rest))) v }))) (sym (read_field 1 (a ∷ b ∷ c ∷ []) d [] rest 7 m (omega (arith, o))))
header_comes stage (a ∷ b ∷ c ∷ d ∷ e ∷ more) rest goes none acc =
    sym (ap option_in_code (header_end (length (a ∷ b ∷ c ∷ d ∷ e ∷ more)) (flat (a ∷ b ∷ c ∷ d ∷ e ∷ more) ++ rest) (omega arith)))
