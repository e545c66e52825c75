-- The same as `Accepting` over the bytes of an item's front: which field comes next, by how many are whole, and the test that its bytes must pass.
use Rattle.std.specs.Prelude.{ℕ, ◌≡◌, ◌≤◌, ◌+◌, ◌-◌, ◌++◌, ◌==◌, ◌&&◌, ◌||◌, nat_le, nat_lt, if◌then◌else◌, Bool, true, List, [], ◌∷◌, drop, length, slice_get, Option, Some, None}
use Rattle.byteorder.specs.Endian.{big_number}
use Rattle.omp_codes.specs.Answers.{in_profile}
use Rattle.omp_codes.specs.States.{states}
use Rattle.omp_codes.specs.declared.dispatch_kinds.TheConstants.{SECTION}
use Rattle.ompt_calls.specs.Number.{is_registered}
use Rattle.trace_format.specs.declared.field.Field.{Field}
use Rattle.trace_format.specs.declared.field.Field.TheVariants.{Magic, Version, Threads, Origin, Mask, Number, Seq, Numbered, Count}
use Rattle.trace_format.specs.declared.kept.Kept.{Kept}
use Rattle.trace_format.specs.declared.kind.Kind.{Kind}
use Rattle.trace_format.specs.declared.kind.Kind.TheVariants.{Iterations}
use Rattle.trace_format.specs.declared.next.Coming.{Coming}
use Rattle.trace_format.specs.declared.test.Test.{Test}
use Rattle.trace_format.specs.declared.test.Test.TheVariants as test
use Rattle.trace_format.specs.declared.trace.Header.{Header}
use Rattle.trace_format.specs.declared.trace.TheConstants.{SEQ_LIMIT, FIRST_VERSION, VERSION, RECORDED, MIGRATED}
use Rattle.trace_format.specs.Accepting.{Next, accepts_detail, accepts_kind, accepts_mask, kinds_of, width_of}
use Rattle.trace_format.specs.Fields.{magic}
use Rattle.trace_format.specs.Reached.{AreAccepted, flat}
use Rattle.trace_format.specs.Taking.{Stage}
use Rattle.trace_format.specs.Validity.{is_among}

abbrev pub stage_in : Kept → Stage
stage_in kept = record { header = kept.header; count = kept.count; least = kept.least; over = kept.over }

-- how many bytes a test reads, and whether they pass it
abbrev pub test_width : Test → ℕ
test_width test.Magic = 4
test_width test.Version = 2
test_width test.Threads = 1
test_width (test.Origin version) = 1
test_width (test.Mask version origin) = 8
test_width (test.Number mask) = 1
test_width (test.Seq least) = 4
test_width (test.Thread threads) = 1
test_width test.State = 2
test_width test.Any = 4
test_width (test.Argument kind) = width_of kind
test_width (test.Iterations kind) = 8
test_width test.Status = 1
test_width (test.Detail status) = 4
test_width (test.Count count) = 4

abbrev pub passes : Test → List ℕ → Bool
passes test.Magic bytes = big_number 4 bytes == big_number 4 magic
passes test.Version bytes = is_among (FIRST_VERSION ∷ VERSION ∷ []) (big_number 2 bytes)
passes test.Threads bytes = nat_le 1 (big_number 1 bytes) && nat_le (big_number 1 bytes) 16
passes (test.Origin version) bytes = big_number 1 bytes == RECORDED || (big_number 1 bytes == MIGRATED && version == VERSION)
passes (test.Mask version origin) bytes = accepts_mask version origin (big_number 8 bytes)
passes (test.Number mask) bytes = big_number 1 bytes == 0 || (in_profile (big_number 1 bytes) && is_registered mask (big_number 1 bytes))
passes (test.Seq least) bytes = nat_le least (big_number 4 bytes) && nat_lt (big_number 4 bytes) SEQ_LIMIT
passes (test.Thread threads) bytes = nat_lt (big_number 1 bytes) threads
passes test.State bytes = is_among states (big_number 2 bytes)
passes test.Any bytes = true
passes (test.Argument kind) bytes = accepts_kind kind [] bytes
passes (test.Iterations kind) bytes = if kind == SECTION then big_number 8 bytes == 0 else nat_le 1 (big_number 8 bytes)
passes test.Status bytes = is_among (0 ∷ 1 ∷ 4 ∷ 5 ∷ 6 ∷ []) (big_number 1 bytes)
passes (test.Detail status) bytes = accepts_detail status (big_number 4 bytes)
passes (test.Count count) bytes = big_number 4 bytes == count

-- how many bytes of a field tell why it is refused
abbrev pub reason_width : Field → ℕ
reason_width Number = 1
reason_width Seq = 4
reason_width other = 0

abbrev pub next_in_code : Coming → Next
next_in_code coming = record { field = coming.field; width = test_width coming.test; accepts = λ bytes. passes coming.test bytes }

abbrev pub option_in_code : Option Coming → Option Next
option_in_code None = None
option_in_code (Some coming) = Some (next_in_code coming)

-- which field comes next where so many are whole, and these are the bytes
abbrev pub header_coming : ℕ → List ℕ → Option Coming
header_coming place bytes =
    if place == 0 then Some (record { field = Magic; test = test.Magic })
    else if place == 1 then Some (record { field = Version; test = test.Version })
    else if place == 2 then Some (record { field = Threads; test = test.Threads })
    else if place == 3 then Some (record { field = Origin; test = test.Origin (big_number 2 (drop 4 bytes)) })
    else if place == 4 then Some (record { field = Mask; test = test.Mask (big_number 2 (drop 4 bytes)) (big_number 1 (drop 7 bytes)) })
    else None

abbrev pub end_coming : ℕ → ℕ → List ℕ → Option Coming
end_coming count place bytes =
    if place == 1 then Some (record { field = Numbered 1; test = test.Status })
    else if place == 2 then Some (record { field = Numbered 2; test = test.Detail (big_number 1 (drop 1 bytes)) })
    else if place == 3 then Some (record { field = Count; test = test.Count count })
    else None

abbrev pub test_of : Kind → List ℕ → Test
test_of Iterations bytes = test.Iterations (big_number 4 (drop 36 bytes))
test_of other bytes = test.Argument other

abbrev pub argument_of : ℕ → Option Kind → List ℕ → Option Coming
argument_of place None bytes = None
argument_of place (Some kind) bytes = Some (record { field = Numbered place; test = test_of kind bytes })

abbrev pub event_coming : ℕ → ℕ → ℕ → ℕ → List ℕ → Option Coming
event_coming least threads number place bytes =
    if place == 1 then Some (record { field = Seq; test = test.Seq least })
    else if place == 2 then Some (record { field = Numbered 2; test = test.Thread threads })
    else if place == 3 then Some (record { field = Numbered 3; test = test.State })
    else if place == 4 then Some (record { field = Numbered 4; test = test.Any })
    else argument_of place (slice_get (kinds_of number) (place - 5)) bytes

abbrev pub record_coming : Header → Stage → ℕ → List ℕ → Option Coming
record_coming header stage place bytes =
    if place == 0 then Some (record { field = Number; test = test.Number header.mask })
    else if big_number 1 bytes == 0 then end_coming stage.count place bytes
    else event_coming stage.least header.threads (big_number 1 bytes) place bytes

abbrev pub coming_in : Option Header → Stage → ℕ → List ℕ → Option Coming
coming_in None stage place bytes = header_coming place bytes
coming_in (Some header) stage place bytes = record_coming header stage place bytes

abbrev pub coming_at : Stage → ℕ → List ℕ → Option Coming
coming_at stage place bytes = if stage.over then None else coming_in stage.header stage place bytes

-- fields of an item are whole, and their bytes come first
pub record IsFront (stage : Stage) (place : ℕ) (bytes : List ℕ) : Type 0 where
  pub fields : List (List ℕ)
  pub rest : List ℕ
  pub accepted : AreAccepted stage [] fields
  pub place_is : place ≡ length fields
  pub bytes_are : bytes ≡ flat fields ++ rest

-- the bytes that are read where so many fields of a record are whole
pub record HasNumber (place : ℕ) (bytes : List ℕ) : Type 0 where
  pub number : (place ≡ 0 → ⊥) → 1 ≤ length bytes
  pub end : (place ≡ 0 → ⊥) → big_number 1 bytes ≡ 0 → place ≡ 2 → 2 ≤ length bytes
  pub event : (place ≡ 0 → ⊥) → slice_get (kinds_of (big_number 1 bytes)) (place - 5) ≡ Some Iterations → 5 ≤ place → 40 ≤ length bytes

-- how many bytes arguments of these kinds have
abbrev pub total : List Kind → ℕ
total [] = 0
total (kind ∷ kinds) = width_of kind + total kinds

-- .. and those of a callback
abbrev pub arguments_width : ℕ → ℕ
arguments_width number = total (kinds_of number)

-- the bytes are enough for an item, where the header has come or not
pub record SpellsRecord (bytes : List ℕ) : Type 0 where
  pub number : 1 ≤ length bytes
  pub end : big_number 1 bytes ≡ 0 → 10 ≤ length bytes
  pub profile : (big_number 1 bytes ≡ 0 → ⊥) → in_profile (big_number 1 bytes) ≡ true
  pub event : (big_number 1 bytes ≡ 0 → ⊥) → 12 + arguments_width (big_number 1 bytes) ≤ length bytes

abbrev pub SpellsItem : Option Header → List ℕ → Type 0
SpellsItem None bytes = 16 ≤ length bytes
SpellsItem (Some header) bytes = SpellsRecord bytes
