-- Bytes are refused in one way at most, and a file's bytes in none.
use Rattle.std.proofs.Common.{◌≡◌, ℕ, ◌⊎◌, List, [], ◌∷◌, ◌++◌, length, inl, inr, sym, ap, ◌∙◌, append-nil, arith}
use Rattle.history_file.specs.declared.file.HistoryFile.{HistoryFile}
use Rattle.history_file.specs.declared.reason.HistoryReason.{HistoryReason}
use Rattle.history_file.specs.Fields.{fields_of, spelling}
use Rattle.history_file.specs.Refusing.{IsAfterEnd, IsCut, IsHistoryRefused, IsRefusedField}
use Rattle.history_file.specs.Validity.{WritesHistory}
use Rattle.history_file.proofs.Lengths.{written_short}
use Rattle.history_file.proofs.Refusals.{file_refused, one_file, same_refused}

abbrev IsSame : HistoryReason → HistoryReason → ℕ → ℕ → Type 0
IsSame r s m n = (r ≡ s) × (m ≡ n)

-- a field that is refused doesn't stand in a whole file
field_end : (bytes : List ℕ) (r s : HistoryReason) (m n : ℕ) → IsRefusedField bytes r m → IsAfterEnd bytes s n → ⊥
field_end bytes r s m n one other =
    file_refused bytes r m one other.file (other.byte ∷ other.rest) other.writes.is_file (other.bytes_are ∙ ap (λ (front : List ℕ). front ++ other.byte ∷ other.rest) other.writes.bytes_are)

same_end : (bytes : List ℕ) (r s : HistoryReason) (m n : ℕ) → IsAfterEnd bytes r m → IsAfterEnd bytes s n → IsSame r s m n
same_end bytes r s m n one other =
    let parts = one_file one.file other.file (one.byte ∷ one.rest) (other.byte ∷ other.rest) one.writes.is_file other.writes.is_file
    (ap (λ (front : List ℕ). front ++ one.byte ∷ one.rest) (sym one.writes.bytes_are) ∙ sym one.bytes_are ∙ other.bytes_are
    ∙ ap (λ (front : List ℕ). front ++ other.byte ∷ other.rest) other.writes.bytes_are) in
    let written : one.written ≡ other.written = one.writes.bytes_are ∙ ap (λ (file : HistoryFile). spelling (fields_of file)) parts.0 ∙ sym other.writes.bytes_are in
    (one.reason_is ∙ sym other.reason_is, one.offset_is ∙ ap (λ (front : List ℕ). length front) written ∙ sym other.offset_is)

same_wrong : (bytes : List ℕ) (r s : HistoryReason) (m n : ℕ) → IsRefusedField bytes r m ⊎ (IsAfterEnd bytes r m ⊎ IsCut bytes r m) → IsRefusedField bytes s n ⊎ (IsAfterEnd bytes s n ⊎ IsCut bytes s n) → IsSame r s m n
same_wrong bytes r s m n (inl one) (inl other) = same_refused bytes r s m n one other
same_wrong bytes r s m n (inl one) (inr (inl other)) = absurd (field_end bytes r s m n one other)
same_wrong bytes r s m n (inl one) (inr (inr other)) = absurd (other.no_field r m one)
same_wrong bytes r s m n (inr (inl one)) (inl other) = absurd (field_end bytes s r n m other one)
same_wrong bytes r s m n (inr (inl one)) (inr (inl other)) = same_end bytes r s m n one other
same_wrong bytes r s m n (inr (inl one)) (inr (inr other)) = absurd (other.no_end r m one)
same_wrong bytes r s m n (inr (inr one)) (inl other) = absurd (one.no_field s n other)
same_wrong bytes r s m n (inr (inr one)) (inr (inl other)) = absurd (one.no_end s n other)
same_wrong bytes r s m n (inr (inr one)) (inr (inr other)) = (one.reason_is ∙ sym other.reason_is, one.offset_is ∙ sym other.offset_is)

pub same_history_refusal : (bytes : List ℕ) (r s : HistoryReason) (m n : ℕ) → IsHistoryRefused bytes r m → IsHistoryRefused bytes s n → (r ≡ s) × (m ≡ n)
same_history_refusal bytes r s m n (inl one) (inl other) = (one.reason_is ∙ sym other.reason_is, one.offset_is ∙ sym other.offset_is)
same_history_refusal bytes r s m n (inl one) (inr other) = let long = one.long in let short = other.short in absurd (omega arith)
same_history_refusal bytes r s m n (inr one) (inl other) = let long = other.long in let short = one.short in absurd (omega arith)
same_history_refusal bytes r s m n (inr one) (inr other) = same_wrong bytes r s m n one.wrong other.wrong

no_bytes : (byte : ℕ) (rest : List ℕ) → [] ≡ byte ∷ rest → ⊥
no_bytes byte rest same = cc

never_wrong : (file : HistoryFile) (bytes : List ℕ) (r : HistoryReason) (m : ℕ) → WritesHistory file bytes → IsRefusedField bytes r m ⊎ (IsAfterEnd bytes r m ⊎ IsCut bytes r m) → ⊥
never_wrong file bytes r m writes (inl one) = file_refused bytes r m one file [] writes.is_file (writes.bytes_are ∙ sym (append-nil (spelling (fields_of file))))
never_wrong file bytes r m writes (inr (inl one)) =
    let parts = one_file file one.file [] (one.byte ∷ one.rest) writes.is_file one.writes.is_file
    (append-nil (spelling (fields_of file)) ∙ sym writes.bytes_are ∙ one.bytes_are ∙ ap (λ (front : List ℕ). front ++ one.byte ∷ one.rest) one.writes.bytes_are) in
    no_bytes one.byte one.rest parts.1
never_wrong file bytes r m writes (inr (inr one)) = one.no_file file writes

pub never_history_refused : (file : HistoryFile) (bytes : List ℕ) (r : HistoryReason) (m : ℕ) → WritesHistory file bytes → IsHistoryRefused bytes r m → ⊥
never_history_refused file bytes r m writes (inl one) = let long = one.long in absurd (omega (arith, written_short file bytes writes))
never_history_refused file bytes r m writes (inr one) = never_wrong file bytes r m writes one.wrong
