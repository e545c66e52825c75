-- The slices that are open on a thread, as a viewer finds them by the marks of its events alone.
use Rattle.std.specs.Prelude.{ℕ, ◌≡◌, List, [], ◌∷◌, ◌++◌, All, Some, bytes_eq, codes, drop, reverse, slice_get, if◌then◌else◌}
use Rattle.ompt_calls.specs.declared.event.EventRecord.{EventRecord}
use Rattle.trace_check.specs.Before.{is_of}
use Rattle.trace_view.specs.Chrome.{Mark, marks}

-- what a mark does to the names of the open slices, the newest first: a begin puts its name in front, and an end takes the first away
abbrev pub slices_by : Mark → List (List ℕ) → List (List ℕ)
slices_by mark slices =
    if bytes_eq mark.phase (codes "B") then mark.name ∷ slices else if bytes_eq mark.phase (codes "E") then drop 1 slices else slices

abbrev pub slices_after : List Mark → List (List ℕ) → List (List ℕ)
slices_after [] slices = slices
slices_after (mark ∷ rest) slices = slices_after rest (slices_by mark slices)

-- those of a thread after these events, the newest event first
abbrev pub open_slices : ℕ → List EventRecord → List (List ℕ)
open_slices t [] = []
open_slices t (event ∷ past) = if is_of t event then slices_after (marks event) (open_slices t past) else open_slices t past

-- a mark that is an end has the name of the newest of these slices
abbrev pub EndsNewest : List (List ℕ) → Mark → Type 0
EndsNewest slices mark = mark.phase ≡ codes "E" → slice_get slices 0 ≡ Some mark.name

-- each end among the marks of the events has the name of the newest slice that is open on its thread
abbrev pub SlicesNest : List EventRecord → Type 0
SlicesNest events =
    (before : List EventRecord) (event : EventRecord) (behind : List EventRecord) → events ≡ before ++ event ∷ behind
    → All (EndsNewest (open_slices event.thread (reverse before))) (marks event)

-- no slice is open on any thread after the events
abbrev pub NoneOpen : List EventRecord → Type 0
NoneOpen events = (t : ℕ) → open_slices t (reverse events) ≡ []
