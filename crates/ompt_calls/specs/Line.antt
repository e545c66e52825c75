-- The line of a call: sequence number, thread, name and arguments in order, with a space between.
use Rattle.std.specs.Prelude.{ℕ, ◌/◌, ◌%◌, List, [], ◌∷◌, ◌++◌, codes, map}
use Rattle.std.specs.Fmt.{decimal}
use Rattle.ompt_calls.specs.declared.argument.Argument.{Argument}
use Rattle.ompt_calls.specs.declared.argument.Argument.TheVariants.{Short, Long}
use Rattle.ompt_calls.specs.declared.argument.Argument.TheVariants as argument
use Rattle.ompt_calls.specs.declared.call.Word.{Word}
use Rattle.ompt_calls.specs.declared.call.Frame.{Frame}
use Rattle.ompt_calls.specs.declared.call.Call.{Call}
use Rattle.ompt_calls.specs.Arguments.{arguments_of, name_of}

-- the parts, with one space between
abbrev pub spaced : List (List ℕ) → List ℕ
spaced [] = []
spaced (part ∷ []) = part
spaced (part ∷ next ∷ parts) = part ++ codes " " ++ spaced (next ∷ parts)

-- a data word: identity:value
abbrev pub word_text : Word → List ℕ
word_text word = decimal word.identity ++ codes ":" ++ decimal word.value

-- a frame: exit/enter
abbrev pub frame_text : Frame → List ℕ
frame_text frame = decimal frame.exit ++ codes "/" ++ decimal frame.enter

-- a place in the source is line × 65536 + column, and is written as line:column
abbrev pub line_number_of : ℕ → ℕ
line_number_of place = place / 65536

abbrev pub column_of : ℕ → ℕ
column_of place = place % 65536

abbrev pub place_text : ℕ → List ℕ
place_text place = decimal (line_number_of place) ++ codes ":" ++ decimal (column_of place)

-- an argument
abbrev pub argument_text : Argument → List ℕ
argument_text (Short number) = decimal number
argument_text (Long number) = decimal number
argument_text (argument.Word word) = word_text word
argument_text (argument.Frame frame) = frame_text frame

-- the name of the callback and its arguments
abbrev pub parts_of : Call → List (List ℕ)
parts_of call = name_of call ∷ map argument_text (arguments_of call)

-- the text of a call
abbrev pub call_text : Call → List ℕ
call_text call = spaced (parts_of call)

-- the line of a call, with a newline at its end
abbrev pub line_text : ℕ → ℕ → Call → List ℕ
line_text seq thread call = spaced (decimal seq ∷ decimal thread ∷ call_text call ∷ []) ++ 10 ∷ []
