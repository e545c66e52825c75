-- What the items of a trace tell a checker. It serves the contracts of private functions and the proofs.
use Rattle.std.specs.Prelude.{◌≡◌, List, [], ◌∷◌, Option, Some, None}
use Rattle.ompt_calls.specs.declared.event.EventRecord.{EventRecord}
use Rattle.trace_format.specs.declared.item.Item.{Item}
use Rattle.trace_format.specs.declared.item.Item.TheVariants as item
use Rattle.trace_format.specs.declared.trace.EndMark.{EndMark}
use Rattle.trace_format.specs.declared.trace.Header.{Header}
use Rattle.trace_check.specs.declared.checker.Checker.{Checker}
use Rattle.trace_check.specs.declared.told.Told.{Told}
use Rattle.trace_check.specs.Checking.{Checks}

-- the header, the events and the end mark among these items
abbrev pub header_in : List Item → Option Header
header_in [] = None
header_in (item.Header header ∷ rest) = Some header
header_in (other ∷ rest) = header_in rest

abbrev pub events_in : List Item → List EventRecord
events_in [] = []
events_in (item.Event event ∷ rest) = event ∷ events_in rest
events_in (other ∷ rest) = events_in rest

abbrev pub end_in : List Item → Option EndMark
end_in [] = None
end_in (item.End end ∷ rest) = Some end
end_in (other ∷ rest) = end_in rest

-- a checker is there once the header has come, and checks the events
abbrev pub KnowsEvents : Option Checker → Option Header → List EventRecord → Type 0
KnowsEvents None None events = Unit {0}
KnowsEvents None (Some header) events = ⊥
KnowsEvents (Some checker) None events = ⊥
KnowsEvents (Some checker) (Some header) events = Checks checker header events

pub record KnowsItems (told : Told) (items : List Item) : Type 0 where
  pub events : KnowsEvents told.checker (header_in items) (events_in items)
  pub end : told.end ≡ end_in items
