-- All that the events so far tell is kept, from the start on, and each event keeps the rules.
use Rattle.std.proofs.Common.{ℕ, ◌≡◌, List, [], ◌∷◌}
use Rattle.std.specs.Prelude.{None}
use Rattle.ompt_calls.specs.declared.event.EventRecord.{EventRecord}
use Rattle.omp_model.specs.declared.event.Event.{Event}
use Rattle.omp_model.specs.State.{Run, World, first, first_world}
use Rattle.trace_check.specs.Rules.{first_broken}
use Rattle.nested_runs.proofs.Recorded.{Inside, inside, recorded}
use Rattle.nested_runs.proofs.Knows.{ComesBack, Goes, IsWholeRun, Knows, Stays}
use Rattle.nested_runs.proofs.Accepting.{KeepsEach, accepted}
use Rattle.nested_runs.proofs.BackCodes.{codes-back, codes-first, sound-first}
use Rattle.nested_runs.proofs.TellBarriers.{barriers-back, barriers-first, barriers-go, barriers-stays, keeps-waits}
use Rattle.nested_runs.proofs.TellBrackets.{brackets-back, brackets-first, brackets-go, brackets-stays, keeps-brackets}
use Rattle.nested_runs.proofs.TellFirst.{first-events-back, first-events-first, first-events-go, first-events-stays, keeps-initial}
use Rattle.nested_runs.proofs.TellLasts.{lasts-back, lasts-first, lasts-go, lasts-stays}
use Rattle.nested_runs.proofs.TellLocks.{keeps-asking, keeps-holders, locks-back, locks-first, locks-go, locks-stays}
use Rattle.nested_runs.proofs.TellMembers.{keeps-joins, keeps-teams, members-back, members-first, members-go, members-stays}
use Rattle.nested_runs.proofs.TellNumbers.{keeps-creations, keeps-regions, numbers-back, numbers-first, numbers-go, numbers-stays}
use Rattle.nested_runs.proofs.TellSeats.{keeps-dispatches, seats-back, seats-first, seats-go, seats-stays}
use Rattle.nested_runs.proofs.TellTasks.{keeps-starts, tasks-back, tasks-first, tasks-go, tasks-stays}
use Rattle.nested_runs.proofs.TellThreads.{keeps-kind, keeps-threads, threads-back, threads-first, threads-go, threads-stays}

pub knows-first : (run : Run) → IsWholeRun run → Knows run (first_world run) (inside (first run)) []
knows-first run whole =
    record {
      sound = sound-first run whole;
      codes = codes-first run whole;
      threads = threads-first run whole;
      brackets = brackets-first run whole;
      numbers = numbers-first run whole;
      seats = seats-first run whole;
      members = members-first run whole;
      first = first-events-first run whole;
      locks = locks-first run whole;
      tasks = tasks-first run whole;
      barriers = barriers-first run whole;
      lasts = lasts-first run whole;
    }

module _ (run : Run) (W after : World) (I J : Inside) (past : List EventRecord) where
  pub knows-stays : Stays run W after I J past → Knows run after J past
  knows-stays stays =
      record {
        sound = stays.sound;
        codes = stays.alike.codes;
        threads = threads-stays run W after I J past stays;
        brackets = brackets-stays run W after I J past stays;
        numbers = numbers-stays run W after I J past stays;
        seats = seats-stays run W after I J past stays;
        members = members-stays run W after I J past stays;
        first = first-events-stays run W after I J past stays;
        locks = locks-stays run W after I J past stays;
        tasks = tasks-stays run W after I J past stays;
        barriers = barriers-stays run W after I J past stays;
        lasts = lasts-stays run W after I J past stays;
      }

  pub knows-go : (t position : ℕ) (e : Event) → Goes run W after I J past t e → Knows run after J (recorded position t after e ∷ past)
  knows-go t position e goes =
      record {
        sound = goes.sound;
        codes = goes.touches.codes;
        threads = threads-go run W after I J past t position e goes;
        brackets = brackets-go run W after I J past t position e goes;
        numbers = numbers-go run W after I J past t position e goes;
        seats = seats-go run W after I J past t position e goes;
        members = members-go run W after I J past t position e goes;
        first = first-events-go run W after I J past t position e goes;
        locks = locks-go run W after I J past t position e goes;
        tasks = tasks-go run W after I J past t position e goes;
        barriers = barriers-go run W after I J past t position e goes;
        lasts = lasts-go run W after I J past t position e goes;
      }

  pub keeps-go : (t position : ℕ) (e : Event) → Goes run W after I J past t e → first_broken past (recorded position t after e) ≡ None
  keeps-go t position e goes =
      let keeps : KeepsEach past (recorded position t after e) = record {
        threads = keeps-threads run W after I J past t position e goes;
        kind = keeps-kind run W after I J past t position e goes;
        regions = keeps-regions run W after I J past t position e goes;
        initial = keeps-initial run W after I J past t position e goes;
        joins = keeps-joins run W after I J past t position e goes;
        brackets = keeps-brackets run W after I J past t position e goes;
        teams = keeps-teams run W after I J past t position e goes;
        asking = keeps-asking run W after I J past t position e goes;
        holders = keeps-holders run W after I J past t position e goes;
        creations = keeps-creations run W after I J past t position e goes;
        starts = keeps-starts run W after I J past t position e goes;
        waits = keeps-waits run W after I J past t position e goes;
        dispatches = keeps-dispatches run W after I J past t position e goes;
      } in
      accepted past (recorded position t after e) keeps

  pub knows-back : (t : ℕ) (e : Event) → ComesBack run W after I J past t e → Knows run after J past
  knows-back t e back =
      record {
        sound = back.sound;
        codes = codes-back W after t e back.returns back.knows.codes;
        threads = threads-back run W after I J past t e back;
        brackets = brackets-back run W after I J past t e back;
        numbers = numbers-back run W after I J past t e back;
        seats = seats-back run W after I J past t e back;
        members = members-back run W after I J past t e back;
        first = first-events-back run W after I J past t e back;
        locks = locks-back run W after I J past t e back;
        tasks = tasks-back run W after I J past t e back;
        barriers = barriers-back run W after I J past t e back;
        lasts = lasts-back run W after I J past t e back;
      }
