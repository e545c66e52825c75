-- Where tasks stand on stacks, and what threads are to do (rule 14).
use Rattle.std.proofs.Common.{ℕ, ◌≡◌, true, List, ◌∙◌}
use Rattle.ompt_calls.specs.declared.event.EventRecord.{EventRecord}
use Rattle.omp_model.specs.declared.event.Event.{Event}
use Rattle.omp_model.specs.State.{Run, World, first, first_world}
use Rattle.omp_model.specs.declared.limits.TheConstants.{INITIAL_TASK}
use Rattle.nested_runs.proofs.Recorded.{Inside, inside, recorded}
use Rattle.nested_runs.proofs.Knows.{ComesBack, Goes, IsWholeRun, Stays}
use Rattle.trace_check.specs.Rules.{keeps_dispatches}
use Rattle.nested_runs.proofs.Known.{AreSeated}
use Rattle.nested_runs.proofs.BackSeats.{busy-back, chain-back, detained-back, grown-back, idle-back, invited-back, same-forks-back, shares-back}
use Rattle.nested_runs.proofs.Dispatches.{dispatched}
use Rattle.nested_runs.proofs.FirstSeats.{first-seats}
use Rattle.nested_runs.proofs.GoChains.{chain-go}
use Rattle.nested_runs.proofs.GoErrands.{busy-go, detained-go, idle-go, invited-go, shares-go}
use Rattle.nested_runs.proofs.GoFrames.{grown-go}
use Rattle.nested_runs.proofs.GoRegions.{forks-go, holds-go, outer-go}
use Rattle.nested_runs.proofs.OpenRegions.{forks-same, holds-same, outer-same}
use Rattle.nested_runs.proofs.StaySeats.{busy-stays, chain-stays, detained-stays, grown-stays, idle-stays, invited-stays, same-forks-stays, shares-stays}

-- at the start
pub seats-first : (run : Run) → IsWholeRun run → AreSeated (first_world run) (inside (first run))
seats-first run whole = first-seats run

-- after what is no event
pub seats-stays : (run : Run) (W after : World) (I J : Inside) (past : List EventRecord) → Stays run W after I J past → AreSeated after J
seats-stays run W after I J past stays =
    let seats = stays.knows.seats in
    let grown = grown-stays run W after I J past stays in
    let same = same-forks-stays run W after I J past stays in
    record {
      initial = grown.region INITIAL_TASK stays.knows.sound.made.initial.below ∙ seats.initial;
      idle = idle-stays run W after I J past stays;
      chain = chain-stays run W after I J past stays;
      holds = holds-same W after same seats.holds;
      forks = forks-same W after same seats.forks;
      outer = outer-same W after same stays.knows.sound.made grown seats.outer;
      invited = invited-stays run W after I J past stays;
      detained = detained-stays run W after I J past stays;
      shares = shares-stays run W after I J past stays;
      busy = busy-stays run W after I J past stays;
    }

-- after the Go of an event
pub seats-go : (run : Run) (W after : World) (I J : Inside) (past : List EventRecord) (t position : ℕ) (e : Event) → Goes run W after I J past t e →
    AreSeated after J
seats-go run W after I J past t position e goes =
    let sound = goes.knows.sound in
    let seats = goes.knows.seats in
    let codes = goes.knows.codes in
    record {
      initial = (grown-go W after t e goes.comes goes.touches).region INITIAL_TASK sound.made.initial.below ∙ seats.initial;
      idle = idle-go run W after I J past t e goes;
      chain = chain-go run W after I J past t e goes;
      holds = holds-go W after t sound.made sound.orderly codes seats.holds seats.forks e goes.comes goes.touches;
      forks = forks-go W after t sound.made sound.orderly codes seats.holds seats.forks e goes.comes goes.touches;
      outer = outer-go W after t sound.made sound.orderly codes seats.holds seats.forks seats.chain seats.outer e goes.comes goes.touches;
      invited = invited-go run W after I J past t e goes;
      detained = detained-go run W after I J past t e goes;
      shares = shares-go run W after I J past t e goes;
      busy = busy-go run W after I J past t e goes;
    }

-- after its Back
pub seats-back : (run : Run) (W after : World) (I J : Inside) (past : List EventRecord) (t : ℕ) (e : Event) → ComesBack run W after I J past t e →
    AreSeated after J
seats-back run W after I J past t e back =
    let sound = back.knows.sound in
    let seats = back.knows.seats in
    let grown = grown-back W after t e back.returns in
    let same = same-forks-back run W after I J past t e back in
    record {
      initial = grown.region INITIAL_TASK sound.made.initial.below ∙ seats.initial;
      idle = idle-back run W after I J past t e back;
      chain = chain-back run W after I J past t e back;
      holds = holds-same W after same seats.holds;
      forks = forks-same W after same seats.forks;
      outer = outer-same W after same sound.made grown seats.outer;
      invited = invited-back run W after I J past t e back;
      detained = detained-back run W after I J past t e back;
      shares = shares-back run W after I J past t e back;
      busy = busy-back run W after I J past t e back;
    }

-- rule 14
pub keeps-dispatches : (run : Run) (W after : World) (I J : Inside) (past : List EventRecord) (t position : ℕ) (e : Event) → Goes run W after I J past t e →
    keeps_dispatches past t (recorded position t after e).call ≡ true
keeps-dispatches run W after I J past t position e goes = dispatched run W after I J past t e goes
