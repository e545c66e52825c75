-- An event that keeps each rule breaks none.
use Rattle.std.proofs.Common.{◌≡◌, ◌==◌, ◌&&◌, not, true, if◌then◌else◌, List, refl}
use Rattle.std.specs.Prelude.{None}
use Rattle.ompt_calls.specs.declared.event.EventRecord.{EventRecord}
use Rattle.trace_check.specs.Before.{events_of, join_of}
use Rattle.trace_check.specs.Rules.{begins_initial, first_broken, is_initial, keeps_asking, keeps_brackets, keeps_creations, keeps_dispatches, keeps_holders, keeps_kind, keeps_regions, keeps_starts, keeps_teams, keeps_threads, keeps_waits, may_join}

pub record KeepsEach (past : List EventRecord) (event : EventRecord) : Type 0 where
  pub threads : keeps_threads past event ≡ true
  pub kind : keeps_kind past event.thread event.call ≡ true
  pub regions : keeps_regions past event.thread event.call ≡ true
  pub initial : (if (event.thread == 0) && (events_of 0 past == 1) then is_initial event.call else not (begins_initial event.call)) ≡ true
  pub joins : may_join past (join_of event.call) ≡ true
  pub brackets : keeps_brackets past event.thread event.call ≡ true
  pub teams : keeps_teams past event.call ≡ true
  pub asking : keeps_asking past event.thread event.call ≡ true
  pub holders : keeps_holders past event.thread event.call ≡ true
  pub creations : keeps_creations past event.thread event.call ≡ true
  pub starts : keeps_starts past event.call ≡ true
  pub waits : keeps_waits past event.call ≡ true
  pub dispatches : keeps_dispatches past event.thread event.call ≡ true

pub accepted : (past : List EventRecord) (event : EventRecord) → KeepsEach past event → first_broken past event ≡ None
accepted past event keeps =
    rw (keeps.threads, keeps.kind, keeps.regions, keeps.initial, keeps.joins, keeps.brackets, keeps.teams, keeps.asking, keeps.holders, keeps.creations, keeps.starts, keeps.waits, keeps.dispatches) refl
