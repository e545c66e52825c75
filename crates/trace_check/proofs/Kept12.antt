-- An event that breaks no rule keeps each.
use Rattle.std.proofs.Common.{◌≡◌, ℕ, Bool, true, false, cond, not, List, Option, Some, None, refl}
use Rattle.ompt_calls.specs.declared.event.EventRecord.{EventRecord}
use Rattle.trace_check.specs.Rules.{first_broken, keeps_asking, keeps_brackets, keeps_creations, keeps_dispatches, keeps_holders, keeps_kind, keeps_regions, keeps_starts, keeps_tasks, keeps_teams, keeps_threads, keeps_waits}

pub record KeepsAll (past : List EventRecord) (event : EventRecord) : Type 0 where
  pub threads : keeps_threads past event ≡ true
  pub kind : keeps_kind past event.thread event.call ≡ true
  pub regions : keeps_regions past event.thread event.call ≡ true
  pub tasks : keeps_tasks past event.thread event.call ≡ true
  pub brackets : keeps_brackets past event.thread event.call ≡ true
  pub teams : keeps_teams past event.call ≡ true
  pub asking : keeps_asking past event.thread event.call ≡ true
  pub holders : keeps_holders past event.thread event.call ≡ true
  pub creations : keeps_creations past event.thread event.call ≡ true
  pub starts : keeps_starts past event.call ≡ true
  pub waits : keeps_waits past event.call ≡ true
  pub dispatches : keeps_dispatches past event.thread event.call ≡ true

peel : (b : Bool) (rule : ℕ) (rest : Option ℕ) → cond (not b) (Some rule) rest ≡ None → (b ≡ true) × (rest ≡ None)
peel true rule rest none = (refl, none)
peel false rule rest none = cc

pub keeps_all : (past : List EventRecord) (event : EventRecord) → first_broken past event ≡ None → KeepsAll past event
keeps_all past event none =
    let p2 = peel (keeps_threads past event) 2 _ none in
    let p3 = peel (keeps_kind past event.thread event.call) 3 _ p2.1 in
    let p4 = peel (keeps_regions past event.thread event.call) 4 _ p3.1 in
    let p5 = peel (keeps_tasks past event.thread event.call) 5 _ p4.1 in
    let p6 = peel (keeps_brackets past event.thread event.call) 6 _ p5.1 in
    let p7 = peel (keeps_teams past event.call) 7 _ p6.1 in
    let p8 = peel (keeps_asking past event.thread event.call) 8 _ p7.1 in
    let p9 = peel (keeps_holders past event.thread event.call) 9 _ p8.1 in
    let p10 = peel (keeps_creations past event.thread event.call) 10 _ p9.1 in
    let p11 = peel (keeps_starts past event.call) 11 _ p10.1 in
    let p12 = peel (keeps_waits past event.call) 12 _ p11.1 in
    let p14 = peel (keeps_dispatches past event.thread event.call) 14 _ p12.1 in
    record { threads = p2.0; kind = p3.0; regions = p4.0; tasks = p5.0; brackets = p6.0; teams = p7.0; asking = p8.0; holders = p9.0; creations = p10.0; starts = p11.0; waits = p12.0; dispatches = p14.0 }

-- and one that keeps each breaks none
pub none_broken : (past : List EventRecord) (event : EventRecord) → KeepsAll past event → None ≡ first_broken past event
none_broken past event all = rw (all.threads, all.kind, all.regions, all.tasks, all.brackets, all.teams, all.asking, all.holders, all.creations, all.starts, all.waits, all.dispatches) refl

pub kind_broken : (past : List EventRecord) (event : EventRecord) → keeps_threads past event ≡ true → keeps_kind past event.thread event.call ≡ false → Some 3 ≡ first_broken past event
kind_broken past event threads kind = rw (threads, kind) refl
