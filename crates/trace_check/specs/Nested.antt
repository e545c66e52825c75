-- Which traces are nested, and the first rule that another one breaks.
use Rattle.std.specs.Prelude.{ℕ, ◌≡◌, ◌<◌, ◌≤◌, ◌==◌, ◌&&◌, ◌||◌, ◌⊎◌, Bool, true, false, not, List, [], ◌∷◌, ◌++◌, reverse, Option, Some, None, if◌then◌else◌}
use Rattle.std.specs.List.{list_all, list_any}
use Rattle.omp_codes.specs.declared.callbacks.TheConstants.{PROFILE_MASK}
use Rattle.ompt_calls.specs.declared.event.EventRecord.{EventRecord}
use Rattle.trace_format.specs.declared.trace.EndMark.{EndMark}
use Rattle.trace_format.specs.declared.trace.Header.{Header}
use Rattle.trace_format.specs.declared.trace.TheConstants.{VERSION, RECORDED}
use Rattle.trace_check.specs.declared.breach.Breach.{Breach}
use Rattle.trace_check.specs.Before.{Creation, creations, has_ended, has_ended_region, is_begin, is_complete, is_of, region_begun}
use Rattle.trace_check.specs.Rules.{keeps}

-- the whole mask of the first version has no dispatch
abbrev pub first_mask : ℕ
first_mask = 0x0FB300FE

-- rule 1: the mask is the whole one
abbrev pub is_whole_mask : Header → Bool
is_whole_mask header =
    header.mask == (if (header.version == VERSION) && (header.origin == RECORDED) then PROFILE_MASK else first_mask)

-- the last position, and 0 where there is no event
abbrev pub last_seq : List EventRecord → ℕ
last_seq [] = 0
last_seq (event ∷ []) = event.seq
last_seq (event ∷ next ∷ rest) = last_seq (next ∷ rest)

-- a region that has begun has ended
abbrev pub is_region_over : List EventRecord → EventRecord → Bool
is_region_over events event = over (region_begun event.call)
  where
    over : Option ℕ → Bool
    over None = true
    over (Some region) = has_ended_region region events

-- rule 13, over the events with the newest first: where main returned, thread 0 has begun, each thread that began has ended, each region has its end, and each created task is complete
abbrev pub has_begun : List EventRecord → Bool
has_begun past = list_any (λ (event : EventRecord). is_of 0 event && is_begin event.call) past

abbrev pub have_ended : List EventRecord → Bool
have_ended past = list_all (λ (event : EventRecord). not (is_begin event.call) || has_ended event.thread past) past

abbrev pub are_regions_over : List EventRecord → Bool
are_regions_over past = list_all (is_region_over past) past

abbrev pub are_tasks_complete : List EventRecord → Bool
are_tasks_complete past = list_all (λ (creation : Creation). is_complete creation.task past) (creations past)

abbrev pub is_closed : List EventRecord → Bool
is_closed past = has_begun past && (have_ended past && (are_regions_over past && are_tasks_complete past))

abbrev pub has_returned : EndMark → Bool
has_returned end = (end.status == 0) || (end.status == 1)

-- an event, with those before it and those behind it, breaks this rule
pub record BrokenAt (events : List EventRecord) (rule seq : ℕ) : Type 0 where
  pub before : List EventRecord
  pub event : EventRecord
  pub behind : List EventRecord
  pub events_are : events ≡ before ++ event ∷ behind
  pub breaks : keeps rule (reverse before) event ≡ false
  pub seq_is : seq ≡ event.seq

-- the mask breaks rule 1 at the beginning, and the events rule 13 at their end
pub record BrokenMask (header : Header) (rule seq : ℕ) : Type 0 where
  pub rule_is : rule ≡ 1
  pub partial : is_whole_mask header ≡ false
  pub seq_is : seq ≡ 0

pub record BrokenEnd (events : List EventRecord) (end : EndMark) (rule seq : ℕ) : Type 0 where
  pub rule_is : rule ≡ 13
  pub returned : has_returned end ≡ true
  pub open_still : is_closed (reverse events) ≡ false
  pub seq_is : seq ≡ last_seq events

-- a trace with these parts breaks this rule at this position
abbrev pub Broken : Header → List EventRecord → EndMark → ℕ → ℕ → Type 0
Broken header events end rule seq = BrokenMask header rule seq ⊎ (BrokenAt events rule seq ⊎ BrokenEnd events end rule seq)

-- it breaks none
abbrev pub Nested : Header → List EventRecord → EndMark → Type 0
Nested header events end = (rule seq : ℕ) → Broken header events end rule seq → ⊥

-- the first breach is the least by position, and then by rule
pub record IsFirstBreach (header : Header) (events : List EventRecord) (end : EndMark) (breach : Breach) : Type 0 where
  pub broken : Broken header events end breach.rule breach.seq
  pub least : (rule seq : ℕ) → Broken header events end rule seq → (breach.seq < seq) ⊎ ((breach.seq ≡ seq) × (breach.rule ≤ rule))
