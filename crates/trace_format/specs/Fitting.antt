-- Numbers that fit the fields in which they are written, as those of the types do.
use Rattle.std.specs.Prelude.{⊤, All}
use Rattle.ompt_calls.specs.declared.argument.Argument.{Argument}
use Rattle.ompt_calls.specs.declared.argument.Argument.TheVariants as argument
use Rattle.ompt_calls.specs.declared.call.Word.{Word}
use Rattle.ompt_calls.specs.declared.call.Call.{Call}
use Rattle.ompt_calls.specs.declared.event.EventRecord.{EventRecord}
use Rattle.ompt_calls.specs.Arguments.{arguments_of}
use Rattle.trace_format.specs.declared.item.Item.{Item}
use Rattle.trace_format.specs.declared.item.Item.TheVariants as item
use Rattle.trace_format.specs.Validity.{IsFrame, IsLong, IsShort}

abbrev pub FitsWord : Word → Type 0
FitsWord word = IsShort word.identity × IsLong word.value

-- an argument of a callback
abbrev pub FitsArgument : Argument → Type 0
FitsArgument (argument.Short n) = IsShort n
FitsArgument (argument.Long n) = IsLong n
FitsArgument (argument.Word word) = FitsWord word
FitsArgument (argument.Frame frame) = IsFrame frame

-- the arguments of a callback
abbrev pub FitsCall : Call → Type 0
FitsCall call = All FitsArgument (arguments_of call)

abbrev pub FitsFields : EventRecord → Type 0
FitsFields event = IsShort event.wait_id × FitsCall event.call

abbrev pub FitsItem : Item → Type 0
FitsItem item.More = ⊤
FitsItem (item.Header header) = ⊤
FitsItem (item.Event event) = FitsFields event
FitsItem (item.End end) = ⊤
