-- The events of a nested trace break no rule.
use Rattle.std.proofs.Common.{◌≡◌, ℕ, ◌+◌, ◌<◌, List, [], ◌∷◌, ◌++◌, length, get_or, take, drop, reverse, Option, Some, None, refl, sym, ◌∙◌, ap, subst, inl, inr, ◌≤◌}
use Rattle.std.proofs.lemmas.List.{take_all, drop_more, reverse-append, take-append-drop, take_more}
use Rattle.ompt_calls.specs.declared.call.Call.TheVariants.{ThreadBegin}
use Rattle.ompt_calls.specs.declared.event.EventRecord.{EventRecord}
use Rattle.trace_format.specs.declared.trace.EndMark.{EndMark}
use Rattle.trace_format.specs.declared.trace.Header.{Header}
use Rattle.trace_format.specs.Validity.{AreEvents}
use Rattle.tool_tasks.specs.Span.{AreRising}
use Rattle.trace_check.specs.Nested.{Nested}
use Rattle.trace_check.specs.Rules.{first_broken}
use Rattle.trace_check.proofs.Firsts.{first_breaks}

-- an event of a nested trace breaks no rule
pub keeps_at : (header : Header) (events : List EventRecord) (end : EndMark) (before behind : List EventRecord) (event : EventRecord)
    → Nested header events end → events ≡ before ++ event ∷ behind → first_broken (reverse before) event ≡ None
keeps_at header events end before behind event nested is = by-found (first_broken (reverse before) event) refl
  where
    by-found : (found : Option ℕ) → first_broken (reverse before) event ≡ found → found ≡ None
    by-found None found = refl
    by-found (Some rule) found = absurd (nested rule event.seq (inr (inl (record {
      before = before;
      event = event;
      behind = behind;
      events_are = is;
      breaks = first_breaks (reverse before) event rule found;
      seq_is = refl;
    }))))

-- the next event of one keeps to the rules, and is the newest behind it
pub record IsNewest (events : List EventRecord) (place : ℕ) (event : EventRecord) : Type 0 where
  pub keeps : first_broken (reverse (take place events)) event ≡ None
  pub taken : reverse (take (place + 1) events) ≡ event ∷ reverse (take place events)

pub is_newest : (header : Header) (events read : List EventRecord) (end : EndMark) (place : ℕ) (none : EventRecord)
    → Nested header events end → read ≡ events → place < length read → IsNewest events place (get_or read place none)
is_newest header events read end place none nested same within =
    subst (λ (all : List EventRecord). IsNewest events place (get_or all place none)) (sym same) (of_events (subst (λ (all : List EventRecord). place < length all) same within))
  where
    of_events : place < length events → IsNewest events place (get_or events place none)
    of_events there = record {
      keeps = keeps_at header events end (take place events) (drop (place + 1) events) (get_or events place none) nested
          (sym (take-append-drop place events) ∙ ap (λ (rest : List EventRecord). take place events ++ rest) (drop_more events place none there));
      taken = ap reverse (take_more events place none there) ∙ reverse-append (take place events) (get_or events place none ∷ []);
    }

-- the positions of a trace rise
pub rising : (limit : ℕ) (header : Header) (least : ℕ) (events : List EventRecord) → AreEvents limit header least events → AreRising least events
rising limit header least [] are = tt
rising limit header least (event ∷ rest) are = (are.0, rising limit header (event.seq + 1) rest are.3)

-- what stands for the event that there isn't
abbrev pub no_event : EventRecord
no_event = record { seq = 0; thread = 0; state = 0; wait_id = 0; call = ThreadBegin 0 (record { identity = 0; value = 0 }) }

-- all of them are taken
pub all_taken : (events read : List EventRecord) (place : ℕ) → read ≡ events → length read ≤ place → take place events ≡ events
all_taken events read place same past = take_all place events (subst (λ (all : List EventRecord). length all ≤ place) same past)
