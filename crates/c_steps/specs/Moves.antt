-- The moves of a control, of which its steps are made.
use Rattle.std.specs.Prelude.{ℕ, ◌+◌, ◌-◌, ℤ, List, [], ◌∷◌, ◌++◌, drop, length, min, take, Option, Some, None}
use Rattle.c_model.specs.declared.entry.Entry.{Entry}
use Rattle.c_model.specs.Calls.{value_cells}
use Rattle.c_steps.specs.declared.frame.Frame.{Frame}
use Rattle.c_steps.specs.declared.frame.Frame.TheVariants as frame
use Rattle.c_model.specs.declared.point.Target.{Target}
use Rattle.c_model.specs.declared.point.Target.TheVariants as target
use Rattle.c_model.specs.declared.point.MutexKind.{MutexKind}
use Rattle.c_model.specs.declared.point.MutexKind.TheVariants as mutex
use Rattle.c_model.specs.declared.point.WorkKind.{WorkKind}
use Rattle.c_steps.specs.declared.listed.ListedPlace.{ListedPlace}
use Rattle.c_steps.specs.declared.item.Item.{Item}
use Rattle.c_steps.specs.declared.item.Item.TheVariants as item
use Rattle.c_steps.specs.declared.control.begin.TheConstants.{STEPS}
use Rattle.c_steps.specs.ControlView.{ControlView}
use Rattle.c_steps.specs.Items.{begun}

-- a silent step begins: the item that stands next has begun, and there is room for what the step adds
abbrev pub stepping : ControlView → ControlView
stepping held = record held { frames = begun held.frames; spare = held.spare - 1; frames_now = 3; names_now = held.step_names }

-- an event is passed: the item that stands next has begun, and there is room for what stands in its place
abbrev pub passing : ControlView → ControlView
passing held = record held { frames = begun held.frames; passes = held.passes - 1; frames_now = 3; names_now = 1 }

-- a frame more, on top of the others
abbrev pub pushed : Frame → ControlView → ControlView
pushed it held = record held { frames = it ∷ held.frames; frames_now = held.frames_now - 1 }

-- an item more stands next
abbrev pub then_item : Item → ControlView → ControlView
then_item it held = pushed (frame.One it) held

-- a name more is in scope
abbrev pub bound : Entry → ControlView → ControlView
bound entry held = record held { names = held.names ++ entry ∷ []; names_now = held.names_now - 1 }

-- a call is opened: its value goes there, and the names of the function that is called begin behind those in scope
abbrev pub opened : Target → ControlView → ControlView
opened to held = record (pushed (frame.Caller held.base to) held) { base = length held.names }

-- the frames of the function that was called last go, and what its caller has kept stands there again
unfoldable pub below_call : List Frame → List Frame
below_call [] = []
below_call (frame.One it ∷ frames) = below_call frames
below_call (frame.Parts block place at names ∷ frames) = below_call frames
below_call (frame.Combining construct from names ∷ frames) = below_call frames
below_call (frame.Combines operator name construct from names ∷ frames) = below_call frames
below_call (frame.Caller base to ∷ frames) = frames

unfoldable pub last_call : List Frame → Option (ℕ × Target)
last_call [] = None
last_call (frame.One it ∷ frames) = last_call frames
last_call (frame.Parts block place at names ∷ frames) = last_call frames
last_call (frame.Combining construct from names ∷ frames) = last_call frames
last_call (frame.Combines operator name construct from names ∷ frames) = last_call frames
last_call (frame.Caller base to ∷ frames) = Some (base, to)

-- the frame on top goes, which is a call, and the names of the function that called begin there
abbrev pub ended : ℕ → ControlView → ControlView
ended base held =
    record held { frames = drop 1 held.frames; names = take held.base held.names; base = min base (length (take held.base held.names)) }

abbrev pub closed_to : Option (ℕ × Target) → ControlView → ControlView
closed_to None held = record held { frames = [] }
closed_to (Some call) held =
    record held { frames = below_call held.frames; names = take held.base held.names; base = min call.0 (length (take held.base held.names)) }

abbrev pub closed : ControlView → ControlView
closed held = closed_to (last_call held.frames) held

-- the value of a call goes to its target
abbrev pub delivered : Target → ℤ → ControlView → ControlView
delivered target.Nowhere number held = held
delivered (target.Cell cell) number held = held
delivered target.Return number held = then_item (item.Return number) held

-- the value of the call that was opened last goes to its target, if one is open
abbrev pub given_back : Option (ℕ × Target) → ℤ → ControlView → ControlView
given_back None number held = held
given_back (Some call) number held = delivered call.1 number held

abbrev pub cells_given : Option (ℕ × Target) → ℤ → List ℤ → List ℤ
cells_given None number cells = cells
cells_given (Some call) number cells = value_cells call.1 number cells

-- so many names of the function stay in scope
abbrev pub cut : ℕ → ControlView → ControlView
cut count held = record held { names = take (held.base + count) held.names }

-- an item more stands next, if there is one
abbrev pub frames_if : Option Item → List Frame → List Frame
frames_if None frames = frames
frames_if (Some it) frames = frame.One it ∷ frames

abbrev pub count_if : Option Item → ℕ → ℕ
count_if None count = count
count_if (Some it) count = count - 1

abbrev pub then_if : Option Item → ControlView → ControlView
then_if it held = record held { frames = frames_if it held.frames; frames_now = count_if it held.frames_now }

-- the names in scope with one that is declared, if one is
abbrev pub env_with : Option Entry → List Entry → List Entry
env_with None env = env
env_with (Some entry) env = env ++ entry ∷ []

-- a name more is in scope, if there is one
abbrev pub entries_if : Option Entry → List Entry
entries_if None = []
entries_if (Some entry) = entry ∷ []

abbrev pub bound_if : Option Entry → ControlView → ControlView
bound_if declared held = record held { names = held.names ++ entries_if declared; names_now = held.names_now - length (entries_if declared) }

-- the reductions of a construct and the end of its work stand next
abbrev pub ending : ListedPlace → ℕ → WorkKind → ℕ → ℕ → ControlView → ControlView
ending from node kind count names held = pushed (frame.Combining node from names) (then_item (item.EndWork node kind count names) held)

-- a lock or critical is asked for, and this part of the program stands next behind it, where it is a critical
abbrev pub asking : MutexKind → ℕ → Option ℕ → ℕ → Target → ControlView → ControlView
asking mutex.Lock node part id to held = then_item (item.Acquire node mutex.Lock id) held
asking mutex.TestLock node part id to held = then_item (item.TestLock node id to) held
asking mutex.Critical node part id to held =
    then_item (item.Acquire node mutex.Critical id) (then_item (item.Start part) (then_item (item.Release node id) held))

-- no code is left
abbrev pub cleared : ControlView → ControlView
cleared held =
    record held { frames = []; names = []; base = 0; returned = None; spare = 0; passes = 0; frames_now = 4; names_now = 0 }

-- room is made for the 64 silent steps of a turn, one that only asks, a look at what stands next, and an event
abbrev pub roomy : ControlView → ControlView
roomy held = record held { spare = STEPS; passes = 1; frames_now = 0; names_now = 0 }

-- no code is left, these names are in scope, and the rest of the room is for more
abbrev pub beginning : List Entry → ControlView → ControlView
beginning entries held = record (cleared held) { names = entries; names_now = held.room - length entries }
