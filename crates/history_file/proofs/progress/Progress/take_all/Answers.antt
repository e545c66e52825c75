use Rattle.std.proofs.Common.{◌<◌, take, slice_index_or, sym, subst, ◌∙◌, arith}
use Rattle.std.proofs.lemmas.List.{length-take}
use Rattle.omp_model.specs.declared.history.Entry.{Entry}
use Rattle.omp_model.specs.declared.history.What.TheVariants.{Go}
use Rattle.omp_model.specs.State.{Run}
use Rattle.history_file.specs.Progressing.{Steps}
use Rattle.history_file.proofs.Progressing.{goes_next, goes_through, stops_at}
use Rattle.history_file.proofs.progress.Progress.take_all.Goals as goal

pub step-requires-clause-at : goal.step-requires-clause-at
step-requires-clause-at c = (take c.loop-entry.entry-index c.args.entries.now, c.loop-entry.invariant.at)

pub step-requires-clause-thread : goal.step-requires-clause-thread
step-requires-clause-thread c =
    let d : Entry = record { thread = 0; what = Go } in
    let within = (c.requires.threads c.loop-entry.entry-index d c.loop-entry-test.true).0 in
    let same = c.loop-entry.invariant.run_is in
    subst (λ (run : Run). (slice_index_or c.args.entries.now c.loop-entry.entry-index d).thread < run.threads) (sym same) within

pub step-requires-clause-few : goal.step-requires-clause-few
step-requires-clause-few c =
    let so_far = c.loop-entry.invariant.at.seq_is in
    let few = c.requires.few in
    omega (arith, so_far, length-take c.loop-entry.entry-index c.args.entries.now)

pub loop-entry-preserved : goal.loop-entry-preserved
loop-entry-preserved c =
    let d : Entry = record { thread = 0; what = Go } in
    let took = subst (Steps c.loop-entry.self _ c.step.new.self) c.if-not-branch.false c.in_ok-step.ensures in
    record {
      run_is = took.run_is ∙ c.loop-entry.invariant.run_is;
      at = goes_next c.args.entries.now c.loop-entry.entry-index d c.loop-entry.self c.step.new.self c.loop-entry-test.true c.loop-entry.invariant.at took;
    }

pub returns-then-not-branch-clause-goes : goal.returns-then-not-branch-clause-goes
returns-then-not-branch-clause-goes c =
    let d : Entry = record { thread = 0; what = Go } in
    let step = subst (Steps c.loop-entry.self _ c.step.new.self) c.if-not-branch.true c.in_ok-step.ensures in
    stops_at c.args.entries.now c.loop-entry.entry-index d c.loop-entry.self c.step.new.self c.loop-entry-test.true c.loop-entry.invariant.at step

pub returns-clause-goes : goal.returns-clause-goes
returns-clause-goes c = goes_through c.args.entries.now c.loop-entry.entry-index c.loop-entry.self (omega arith) c.loop-entry.invariant.at
