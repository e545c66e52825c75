-- The order in which a task's code stands: where it returns nothing is open that it would leave behind, what only stands next stands next, and each
-- function that was called ends with its return.
use Rattle.std.specs.Prelude.{◌≡◌, ◌||◌, Bool, true, false, IsTrue, List, [], ◌∷◌, None}
use Rattle.c_syntax.specs.language.Tree.{Tree, children_of}
use Rattle.c_check.specs.Loops.{child_at}
use Rattle.c_model.specs.declared.point.Target.{Target}
use Rattle.c_model.specs.declared.point.Target.TheVariants as target
use Rattle.c_model.specs.Task.{Item, OpenCall, Task}
use Rattle.c_model.specs.Task.Item.{Start, Test, Third, Return, FallOff, Forked, Inside, NextChunk, Iterations, NextSection, TestLock, Tested}
use Rattle.c_brackets.specs.Links.{link_item}
use Rattle.c_brackets.specs.Opened.{open_items}
use Rattle.c_brackets.specs.Returns.{ReturnsOutside, has_return, has_return_among}

abbrev pub is_return : Target → Bool
is_return target.Return = true
is_return other = false

-- What an item leads to may end the function. A statement of a construct doesn't.
abbrev pub may_return : Item → Bool
may_return (Start tree) = has_return tree
may_return (Test tree names) = has_return (child_at tree 3)
may_return (Third tree names) = has_return (child_at tree 3)
may_return (Return number) = true
may_return FallOff = true
may_return (TestLock tree id to) = is_return to
may_return (Tested to) = is_return to
may_return other = false

abbrev pub HasNoReturn : Tree → Type 0
HasNoReturn construct = IsTrue (has_return_among (children_of construct)) → ⊥

abbrev pub IsProper : Item → Type 0
IsProper (Start tree) = ReturnsOutside tree
IsProper (Test tree names) = ReturnsOutside (child_at tree 3)
IsProper (Third tree names) = ReturnsOutside (child_at tree 3)
IsProper (Forked construct) = HasNoReturn construct
IsProper (Inside construct) = HasNoReturn construct
IsProper (NextChunk loop) = HasNoReturn loop.construct
IsProper (Iterations loop at upto) = HasNoReturn loop.construct
IsProper (NextSection construct names) = HasNoReturn construct
IsProper other = Unit {0}

-- where an item may end the function, nothing is open behind it
abbrev pub IsKept : Item → List Item → Type 0
IsKept item items = IsProper item × (IsTrue (may_return item) → open_items items ≡ [])

-- what stands behind what stands next, and all of it
unfoldable pub AreBehind : List Item → Type 0
AreBehind [] = Unit {0}
AreBehind (item ∷ items) = (link_item item ≡ None) × IsKept item items × AreBehind items

unfoldable pub AreInOrder : List Item → Type 0
AreInOrder [] = Unit {0}
AreInOrder (item ∷ items) = IsKept item items × AreBehind items

-- a function that was called ends with its return: this stands where a call is open
abbrev pub is_fall_off : Item → Bool
is_fall_off FallOff = true
is_fall_off other = false

unfoldable pub falls_off : List Item → Bool
falls_off [] = false
falls_off (item ∷ items) = is_fall_off item || falls_off items

abbrev pub has_calls : List OpenCall → Bool
has_calls [] = false
has_calls (call ∷ calls) = true

abbrev pub IsFramed : List Item → List OpenCall → Type 0
IsFramed items calls = IsTrue (has_calls calls) → IsTrue (falls_off items)

-- a function that goes on behind a call, and these behind which it was called
pub record IsCallKept (call : OpenCall) (calls : List OpenCall) : Type 0 where
  pub behind : AreBehind call.todo
  pub returned : IsTrue (is_return call.to) → open_items call.todo ≡ []
  pub framed : IsFramed call.todo calls

unfoldable pub AreCallsKept : List OpenCall → Type 0
AreCallsKept [] = Unit {0}
AreCallsKept (call ∷ calls) = IsCallKept call calls × AreCallsKept calls

pub record IsOrderly (task : Task) : Type 0 where
  pub now : AreInOrder task.todo
  pub framed : IsFramed task.todo task.calls
  pub calls : AreCallsKept task.calls
