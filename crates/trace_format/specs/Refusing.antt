-- Where bytes are refused that begin no trace.
use Rattle.std.specs.Prelude.{ℕ, ◌≡◌, ◌+◌, nat_lt, if◌then◌else◌, ◌⊎◌, List, [], ◌∷◌, ◌++◌, length}
use Rattle.byteorder.specs.Endian.{big_number}
use Rattle.omp_codes.specs.Answers.{in_profile}
use Rattle.trace_format.specs.declared.field.Field.{Field}
use Rattle.trace_format.specs.declared.field.Field.TheVariants.{Magic, Version, Threads, Origin, Mask, Number, Seq, Numbered, Count}
use Rattle.trace_format.specs.declared.refusal.Reason.{Reason}
use Rattle.trace_format.specs.declared.refusal.Reason.TheVariants.{BadMagic, BadVersion, BadHeader, UnknownRecord, BadField, SeqNotRising, NotRegistered, AfterEnd, Truncated, BadCount}
use Rattle.trace_format.specs.declared.refusal.Refusal.{Refusal}
use Rattle.trace_format.specs.declared.trace.Trace.{Trace}
use Rattle.trace_format.specs.declared.trace.TheConstants.{SEQ_LIMIT}
use Rattle.trace_format.specs.Fields.{Spelt, fields_of, spelling}
use Rattle.trace_format.specs.Validity.{IsTraceBelow, Writes}

abbrev pub number_of_reason : Reason → ℕ
number_of_reason BadMagic = 1
number_of_reason BadVersion = 2
number_of_reason BadHeader = 3
number_of_reason UnknownRecord = 4
number_of_reason (BadField field) = 5
number_of_reason SeqNotRising = 6
number_of_reason NotRegistered = 7
number_of_reason AfterEnd = 8
number_of_reason Truncated = 9
number_of_reason BadCount = 10

-- a trace, with sequence numbers below this limit, begins with these fields
pub record Begins (limit : ℕ) (fields : List Spelt) : Type 0 where
  pub trace : Trace
  pub is_trace : IsTraceBelow limit trace
  pub rest : List Spelt
  pub whole : fields_of trace ≡ fields ++ rest

-- Where the last sequence number was used no trace has a further event. The number of such an event is let pass all the same, as if there were one
-- sequence number more, and its sequence number is refused.
abbrev pub limit_at : Field → ℕ
limit_at Number = SEQ_LIMIT + 1
limit_at other = SEQ_LIMIT

-- the field may stand behind these
abbrev pub Stands : List Spelt → Spelt → Type 0
Stands before spelt = Begins (limit_at spelt.field) (before ++ spelt ∷ [])

-- each of these fields may stand behind those before it
abbrev pub AllStand : List Spelt → List Spelt → Type 0
AllStand before [] = Unit {0}
AllStand before (spelt ∷ rest) = Stands before spelt × AllStand (before ++ spelt ∷ []) rest

-- this field comes next behind these, with so many bytes
pub record ComesNext (before : List Spelt) (field : Field) (width : ℕ) : Type 0 where
  pub bytes : List ℕ
  pub begins : Begins (SEQ_LIMIT + 1) (before ++ record { field = field; bytes = bytes } ∷ [])
  pub width_is : length bytes ≡ width

-- what is wrong with a field that may not stand
abbrev pub reason_of : Field → List ℕ → Reason
reason_of Magic bytes = BadMagic
reason_of Version bytes = BadVersion
reason_of Threads bytes = BadHeader
reason_of Origin bytes = BadHeader
reason_of Mask bytes = BadHeader
reason_of Number bytes = if in_profile (big_number 1 bytes) then NotRegistered else UnknownRecord
reason_of Seq bytes = if nat_lt (big_number 4 bytes) SEQ_LIMIT then SeqNotRising else BadField 1
reason_of (Numbered place) bytes = BadField place
reason_of Count bytes = BadCount

-- The bytes end with the first field that may not stand behind those before it. It is refused at its first byte.
pub record EndsRefused (bytes : List ℕ) (refusal : Refusal) : Type 0 where
  pub before : List Spelt
  pub refused : Spelt
  pub bytes_are : bytes ≡ spelling before ++ refused.bytes
  pub stand : AllStand [] before
  pub comes : ComesNext before refused.field (length refused.bytes)
  pub none : Stands before refused → ⊥
  pub reason : refusal.reason ≡ reason_of refused.field refused.bytes
  pub offset : refusal.offset ≡ length (spelling before)

-- the bytes end with a byte behind a whole trace
pub record EndsAfterEnd (bytes : List ℕ) (refusal : Refusal) : Type 0 where
  pub trace : Trace
  pub written : List ℕ
  pub writes : Writes trace written
  pub byte : ℕ
  pub bytes_are : bytes ≡ written ++ byte ∷ []
  pub reason : refusal.reason ≡ AfterEnd
  pub offset : refusal.offset ≡ length written

-- the refusal is known with the last of these bytes
abbrev pub Refuses : List ℕ → Refusal → Type 0
Refuses bytes refusal = EndsRefused bytes refusal ⊎ EndsAfterEnd bytes refusal

-- the bytes are refused so: at some of their fronts
pub record IsRefused (bytes : List ℕ) (refusal : Refusal) : Type 0 where
  pub front : List ℕ
  pub rest : List ℕ
  pub whole : bytes ≡ front ++ rest
  pub refuses : Refuses front refusal

-- bytes that are no trace, and that have no other refusal, end too early
pub record IsTruncated (bytes : List ℕ) (refusal : Refusal) : Type 0 where
  pub not_refused : (other : Refusal) → IsRefused bytes other → ⊥
  pub not_whole : (trace : Trace) → Writes trace bytes → ⊥
  pub reason : refusal.reason ≡ Truncated
  pub offset : refusal.offset ≡ length bytes
