-- How much a trace has open after some events, the newest first.
use Rattle.std.specs.Prelude.{ℕ, ◌+◌, Bool, true, false, not, List, [], ◌∷◌, length, count_by, Option, Some, None, if◌then◌else◌}
use Rattle.std.specs.List.{sum_by}
use Rattle.ompt_calls.specs.declared.call.Call.{Call}
use Rattle.ompt_calls.specs.declared.call.Call.TheVariants.{MutexAcquired}
use Rattle.ompt_calls.specs.declared.event.EventRecord.{EventRecord}
use Rattle.trace_format.specs.Validity.{is_among}
use Rattle.trace_check.specs.Before.{Creation, Join, creations, holder, is_begin, is_complete, is_open_region, joins, opened, region_begun}

-- the threads that began, and the brackets that are open on them
abbrev pub begun_threads : List EventRecord → ℕ
begun_threads past = count_by (λ (event : EventRecord). is_begin event.call) past

abbrev pub open_brackets : List EventRecord → ℕ
open_brackets past = sum_by (λ (event : EventRecord). if is_begin event.call then length (opened event.thread past) else 0) past

-- the regions that began and have no end yet, and the implicit tasks that these have had
abbrev pub is_begin_of_open : List EventRecord → EventRecord → Bool
is_begin_of_open past event = is_open (region_begun event.call)
  where
    is_open : Option ℕ → Bool
    is_open None = false
    is_open (Some region) = is_open_region region past

abbrev pub open_regions : List EventRecord → ℕ
open_regions past = count_by (is_begin_of_open past) past

abbrev pub open_members : List EventRecord → ℕ
open_members past = count_by (λ (join : Join). is_open_region join.region past) (joins past)

-- the created tasks that aren't complete
abbrev pub open_tasks : List EventRecord → ℕ
open_tasks past = count_by (λ (creation : Creation). not (is_complete creation.task past)) (creations past)

-- the wait identifiers that are held: those whose newest acquisition has no release behind it
abbrev pub acquired : Call → Option ℕ
acquired (MutexAcquired kind wait_id codeptr) = Some wait_id
acquired other = None

abbrev pub and_id : Option ℕ → List ℕ → List ℕ
and_id None ids = ids
and_id (Some id) ids = if is_among ids id then ids else id ∷ ids

-- each wait identifier that was acquired, once
abbrev pub acquired_ids : List EventRecord → List ℕ
acquired_ids [] = []
acquired_ids (event ∷ past) = and_id (acquired event.call) (acquired_ids past)

abbrev pub is_held : Option ℕ → Bool
is_held None = false
is_held (Some thread) = true

abbrev pub held_ids : List EventRecord → ℕ
held_ids past = count_by (λ (id : ℕ). is_held (holder id past)) (acquired_ids past)

-- all that is open
abbrev pub open_of : List EventRecord → ℕ
open_of past = begun_threads past + open_brackets past + open_regions past + open_members past + open_tasks past + held_ids past
