-- The fields of a trace in order, and the bytes that spell them. Each number is spelled with its highest byte first.
use Rattle.std.specs.Prelude.{ℕ, ◌+◌, List, [], ◌∷◌, ◌++◌, codes, map}
use Rattle.std.specs.List.{flat_map}
use Rattle.byteorder.specs.Endian.{big_bytes}
use Rattle.ompt_calls.specs.declared.argument.Argument.{Argument}
use Rattle.ompt_calls.specs.declared.argument.Argument.TheVariants as argument
use Rattle.ompt_calls.specs.declared.call.Word.{Word}
use Rattle.ompt_calls.specs.declared.call.Frame.{Frame}
use Rattle.ompt_calls.specs.declared.call.Call.{Call}
use Rattle.ompt_calls.specs.declared.event.EventRecord.{EventRecord}
use Rattle.ompt_calls.specs.Arguments.{arguments_of}
use Rattle.ompt_calls.specs.Number.{number_of}
use Rattle.trace_format.specs.declared.field.Field.{Field}
use Rattle.trace_format.specs.declared.field.Field.TheVariants.{Magic, Version, Threads, Origin, Mask, Number, Seq, Numbered, Count}
use Rattle.trace_format.specs.declared.trace.EndMark.{EndMark}
use Rattle.trace_format.specs.declared.trace.Header.{Header}
use Rattle.trace_format.specs.declared.trace.Trace.{Trace}

-- a field with the bytes that spell it
pub record Spelt : Type 0 where
  pub field : Field
  pub bytes : List ℕ

-- a field that is a number of so many bytes
abbrev pub number : Field → ℕ → ℕ → Spelt
number field width n = record { field = field; bytes = big_bytes width n }

-- the four bytes with which a trace begins
abbrev pub magic : List ℕ
magic = codes "OMPT"

abbrev pub header_fields : Header → List Spelt
header_fields header =
    record { field = Magic; bytes = magic }
    ∷ number Version 2 header.version
    ∷ number Threads 1 header.threads
    ∷ number Origin 1 header.origin
    ∷ number Mask 8 header.mask
    ∷ []

-- a number of 32 bits, and one of 64
abbrev pub short : ℕ → List ℕ
short n = big_bytes 4 n

abbrev pub long : ℕ → List ℕ
long n = big_bytes 8 n

-- a data word is one field, and so is a frame
abbrev pub word : Word → List ℕ
word data_word = short data_word.identity ++ long data_word.value

abbrev pub frame : Frame → List ℕ
frame of_task = short of_task.exit ++ short of_task.enter

abbrev pub spell : Argument → List ℕ
spell (argument.Short n) = short n
spell (argument.Long n) = long n
spell (argument.Word data_word) = word data_word
spell (argument.Frame of_task) = frame of_task

-- the arguments of a callback, each as one field
abbrev pub arguments : Call → List (List ℕ)
arguments call = map spell (arguments_of call)

-- fields by their places, from this one on
abbrev pub numbered_from : ℕ → List (List ℕ) → List Spelt
numbered_from place [] = []
numbered_from place (bytes ∷ rest) = record { field = Numbered place; bytes = bytes } ∷ numbered_from (place + 1) rest

abbrev pub event_fields : EventRecord → List Spelt
event_fields event =
    number Number 1 (number_of event.call)
    ∷ number Seq 4 event.seq
    ∷ number (Numbered 2) 1 event.thread
    ∷ number (Numbered 3) 2 event.state
    ∷ number (Numbered 4) 4 event.wait_id
    ∷ numbered_from 5 (arguments event.call)

abbrev pub end_fields : EndMark → List Spelt
end_fields end = number Number 1 0 ∷ number (Numbered 1) 1 end.status ∷ number (Numbered 2) 4 end.detail ∷ number Count 4 end.count ∷ []

-- the fields of a trace: those of its header, of its events and of its end mark
abbrev pub fields_of : Trace → List Spelt
fields_of trace = header_fields trace.header ++ flat_map event_fields trace.events ++ end_fields trace.end

-- the bytes of fields, one after the other
abbrev pub spelling : List Spelt → List ℕ
spelling fields = flat_map (λ (spelt : Spelt). spelt.bytes) fields
