-- What the parts of this crate stand for.
use Rattle.std.specs.Prelude.{ℕ, ◌≡◌, List, [], map}
use Rattle.omp_codes.specs.declared.callbacks.TheConstants.{PROFILE_MASK}
use Rattle.ompt_calls.specs.declared.event.EventRecord.{EventRecord}
use Rattle.omp_model.specs.Records.{record_of}
use Rattle.tool_api.specs.Record.{Record, StartedWith, StoresNothing}
use Rattle.tool_report.specs.declared.timeline.Moment.{Moment}
use Rattle.tool_report.specs.Counts.{counts_of}
use Rattle.tool_report.specs.Moments.{moments_of}

-- a part that keeps this of what it is told stands for the calls of which it keeps it. It answered 1 and registered the callbacks of the profile,
-- and stored nothing
pub record KeeperFor {A : Type 0} (keep : List EventRecord → A) (kept : A) (h : Record) : Type 0 where
  pub started : StartedWith 1 PROFILE_MASK h.started
  pub silent : StoresNothing h.calls
  pub events : kept ≡ keep (map record_of h.calls)
  pub alone : h.within ≡ []

-- a recorder keeps all, a profile the counts, and a timeline the positions and states
abbrev pub RecorderFor : List EventRecord → Record → Type 0
RecorderFor = KeeperFor (λ events. events)

abbrev pub ProfileFor : List ℕ → Record → Type 0
ProfileFor = KeeperFor counts_of

abbrev pub TimelineFor : List Moment → Record → Type 0
TimelineFor = KeeperFor moments_of
