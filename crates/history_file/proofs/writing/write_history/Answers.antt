use Rattle.std.proofs.Common.{◌++◌, List, ℕ, subst}
use Rattle.std.proofs.lemmas.Result.{on_err_weaker, on_ok_weaker}
use Rattle.std.specs.List.{flat_map}
use Rattle.run_edges.specs.Edges.{AppendsFront}
use Rattle.history_file.specs.Fields.{entry_fields, spelling}
use Rattle.history_file.specs.Paging.{IsPaged}
use Rattle.history_file.proofs.Paged.{on_err, part_end, part_entries, part_header, whole_end}
use Rattle.history_file.proofs.writing.write_history.Goals as goal

pub returns-in_err-write_header-clause-part : goal.returns-in_err-write_header-clause-part
returns-in_err-write_header-clause-part g c = on_err c.from_residual.result (part_header _ _ c.args.file.now c.in_err-write_header.ensures.part)

pub returns-in_err-write_entries-clause-part : goal.returns-in_err-write_entries-clause-part
returns-in_err-write_entries-clause-part g c =
    let part = subst
    (λ (page : List ℕ). AppendsFront (g.O.Sink.held c.write_header.new.sink) (g.O.Sink.held c.write_entries.new.sink) (page ++ spelling (flat_map entry_fields c.as_slice.result.now)))
    c.in_ok-write_header.ensures.empty c.in_err-write_entries.ensures.part in
    on_err c.from_residual-in_err-write_entries.result
    (part_entries _ _ _ c.args.file.now c.as_slice.result.now c.as_slice.ensures c.in_ok-write_header.ensures.whole part)

pub returns-clause-whole : goal.returns-clause-whole
returns-clause-whole g c =
    let paged = subst
    (λ (page : List ℕ). IsPaged (g.O.Sink.held c.write_header.new.sink) (g.O.Sink.held c.write_entries.new.sink) c.write_entries.new.page (page ++ spelling (flat_map entry_fields c.as_slice.result.now)))
    c.in_ok-write_header.ensures.empty c.in_ok-write_entries.ensures.paged in
    on_ok_weaker c.write_end.result
    (whole_end _ _ _ _ c.args.file.now c.as_slice.result.now _ c.as_slice.ensures c.in_ok-write_header.ensures.whole paged)
    c.write_end.ensures.whole

pub returns-clause-part : goal.returns-clause-part
returns-clause-part g c =
    let paged = subst
    (λ (page : List ℕ). IsPaged (g.O.Sink.held c.write_header.new.sink) (g.O.Sink.held c.write_entries.new.sink) c.write_entries.new.page (page ++ spelling (flat_map entry_fields c.as_slice.result.now)))
    c.in_ok-write_header.ensures.empty c.in_ok-write_entries.ensures.paged in
    on_err_weaker c.write_end.result
    (part_end _ _ _ _ c.args.file.now c.as_slice.result.now _ c.as_slice.ensures c.in_ok-write_header.ensures.whole paged)
    c.write_end.ensures.part
