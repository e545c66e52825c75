-- The item that a reader makes of the bytes of its fields, once they are whole.
use Rattle.std.specs.Prelude.{ℕ, ◌≡◌, ◌≢◌, ◌+◌, List, [], ◌∷◌, drop, Option, Some, None}
use Rattle.byteorder.specs.Endian.{big_number}
use Rattle.ompt_calls.specs.declared.argument.Argument.{Argument}
use Rattle.ompt_calls.specs.declared.argument.Argument.TheVariants as argument
use Rattle.ompt_calls.specs.declared.call.Word.{Word}
use Rattle.ompt_calls.specs.declared.call.Frame.{Frame}
use Rattle.ompt_calls.specs.declared.call.Call.{Call}
use Rattle.ompt_calls.specs.declared.event.EventRecord.{EventRecord}
use Rattle.ompt_calls.specs.Arguments.{arguments_of}
use Rattle.ompt_calls.specs.Number.{number_of}
use Rattle.trace_format.specs.declared.item.Item.{Item}
use Rattle.trace_format.specs.declared.item.Item.TheVariants as item
use Rattle.trace_format.specs.declared.kind.Kind.{Kind}
use Rattle.trace_format.specs.declared.kind.Kind.TheVariants as kind
use Rattle.trace_format.specs.declared.trace.EndMark.{EndMark}
use Rattle.trace_format.specs.declared.trace.Header.{Header}
use Rattle.trace_format.specs.Accepting.{kinds_of, width_of}

-- the number, the word and the frame that begin at this place
abbrev pub short_at : ℕ → List ℕ → ℕ
short_at place bytes = big_number 4 (drop place bytes)

abbrev pub long_at : ℕ → List ℕ → ℕ
long_at place bytes = big_number 8 (drop place bytes)

abbrev pub word_at : ℕ → List ℕ → Word
word_at place bytes = record { identity = short_at place bytes; value = long_at (place + 4) bytes }

abbrev pub frame_at : ℕ → List ℕ → Frame
frame_at place bytes = record { exit = short_at place bytes; enter = short_at (place + 4) bytes }

-- which variant of `Argument` an argument of a kind is
pub data Shape : Type 0 where
  AsShort : Shape
  AsLong : Shape
  AsWord : Shape
  AsFrame : Shape

abbrev pub shape_of : Kind → Shape
shape_of kind.Long = AsLong
shape_of kind.Place = AsLong
shape_of kind.Word = AsWord
shape_of kind.Frame = AsFrame
shape_of kind.Iterations = AsLong
shape_of other = AsShort

-- the argument of this shape that begins at this place
abbrev pub made_at : Shape → ℕ → List ℕ → Argument
made_at AsShort place bytes = argument.Short (short_at place bytes)
made_at AsLong place bytes = argument.Long (long_at place bytes)
made_at AsWord place bytes = argument.Word (word_at place bytes)
made_at AsFrame place bytes = argument.Frame (frame_at place bytes)

-- .. and those of these kinds, one after the other
abbrev pub made_from : ℕ → List Kind → List ℕ → List Argument
made_from place [] bytes = []
made_from place (which ∷ kinds) bytes = made_at (shape_of which) place bytes ∷ made_from (place + width_of which) kinds bytes

-- the callback with this number whose arguments these bytes are
pub record IsCallIn (code : ℕ) (args : List ℕ) (call : Call) : Type 0 where
  pub number : number_of call ≡ code
  pub arguments : arguments_of call ≡ made_from 0 (kinds_of code) args

abbrev pub header_in : List ℕ → Header
header_in bytes =
    record {
      version = big_number 2 (drop 4 bytes);
      threads = big_number 1 (drop 6 bytes);
      origin = big_number 1 (drop 7 bytes);
      mask = long_at 8 bytes;
    }

pub record IsEventIn (bytes : List ℕ) (event : EventRecord) : Type 0 where
  pub seq : event.seq ≡ short_at 1 bytes
  pub thread : event.thread ≡ big_number 1 (drop 5 bytes)
  pub state : event.state ≡ big_number 2 (drop 6 bytes)
  pub wait_id : event.wait_id ≡ short_at 8 bytes
  pub call : IsCallIn (big_number 1 bytes) (drop 12 bytes) event.call

abbrev pub end_in : List ℕ → EndMark
end_in bytes = record { status = big_number 1 (drop 1 bytes); detail = short_at 2 bytes; count = short_at 6 bytes }

-- the item whose bytes these are, where the header has come or not
abbrev pub IsItemIn : Option Header → List ℕ → Item → Type 0
IsItemIn None bytes (item.Header header) = header ≡ header_in bytes
IsItemIn (Some header) bytes (item.Event event) = (big_number 1 bytes ≢ 0) × IsEventIn bytes event
IsItemIn (Some header) bytes (item.End end) = (big_number 1 bytes ≡ 0) × (end ≡ end_in bytes)
IsItemIn header bytes other = ⊥
