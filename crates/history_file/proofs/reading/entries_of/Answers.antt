use Rattle.std.proofs.lemmas.Result.{err_from_is_err_and}
use Rattle.history_file.specs.declared.file.TheConstants.{ENTRY_LIMIT}
use Rattle.history_file.specs.Reading.{entries_shape, run}
use Rattle.history_file.proofs.Loops.{entry_fails, goes_on, is_done, kind_fails}
use Rattle.history_file.proofs.reading.entries_of.Goals as goal

pub returns-in_err-kind : goal.returns-in_err-kind
returns-in_err-kind c =
    let p = err_from_is_err_and c.from_residual-in_err-kind.result c.from_residual-in_err-kind.ensures.1 in
    rw (p.1, p.2)
    (kind_fails c.args.threads c.loop-entries.more c.args.total c.in_err-kind.field-0.0 c.loop-entries.entries.items c.loop-entries.rest.now
    (run (entries_shape c.args.threads ENTRY_LIMIT) c.args.total c.args.bytes.now) c.in_err-kind.ensures c.loop-entries.invariant)

pub returns-then-kind-eq-END : goal.returns-then-kind-eq-END
returns-then-kind-eq-END c =
    is_done c.args.threads c.loop-entries.more c.args.total c.in_ok-kind.kind c.loop-entries.entries.items c.loop-entries.rest.now c.in_ok-kind.after.now
    (run (entries_shape c.args.threads ENTRY_LIMIT) c.args.total c.args.bytes.now) c.if-kind-eq-END.true c.in_ok-kind.ensures c.loop-entries.invariant

pub returns-in_err-entry : goal.returns-in_err-entry
returns-in_err-entry c =
    let p = err_from_is_err_and c.from_residual-in_err-entry.result c.from_residual-in_err-entry.ensures.1 in
    rw (p.1, p.2)
    (entry_fails c.args.threads c.loop-entries.more c.args.total c.in_ok-kind.kind c.in_err-entry.field-0.0 c.loop-entries.entries.items c.loop-entries.rest.now c.in_ok-kind.after.now
    (run (entries_shape c.args.threads ENTRY_LIMIT) c.args.total c.args.bytes.now) c.if-kind-eq-END.false c.in_ok-kind.ensures c.in_err-entry.ensures c.loop-entries.invariant)

pub loop-entries-preserved : goal.loop-entries-preserved
loop-entries-preserved c =
    rw c.in_ok-push.ensures.items
    (goes_on c.args.threads c.loop-entries.more c.args.total c.in_ok-kind.kind c.loop-entries.entries.items c.loop-entries.rest.now c.in_ok-kind.after.now c.in_ok-entry.after.now
    c.in_ok-entry.entry (run (entries_shape c.args.threads ENTRY_LIMIT) c.args.total c.args.bytes.now) c.if-kind-eq-END.false c.in_ok-kind.ensures c.in_ok-entry.ensures c.loop-entries.invariant)
