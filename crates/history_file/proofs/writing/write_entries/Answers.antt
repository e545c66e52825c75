use Rattle.std.proofs.Common.{rules, ◌++◌, List, ℕ, take, drop, get_or, subst}
use Rattle.std.proofs.lemmas.List.Elements.{All-more}
use Rattle.std.specs.List.{flat_map}
use Rattle.omp_model.specs.declared.history.Entry.{Entry}
use Rattle.omp_model.specs.declared.history.What.TheVariants.{Go}
use Rattle.run_edges.specs.Edges.{AppendsFront}
use Rattle.history_file.specs.Fields.{entry_fields, spelling}
use Rattle.history_file.specs.Fitting.{FitsEntry}
use Rattle.history_file.specs.Paging.{IsPaged}
use Rattle.history_file.proofs.Paged.{on_err, paged_more, paged_then, part_more, part_then, spelt_next, spelt_split}
use Rattle.history_file.proofs.writing.write_entries.Goals as goal

-- an entry for places where there is none
abbrev no_entry : Entry
no_entry = record { thread = 0; what = Go }

pub returns-in_err-make_room-clause-part : goal.returns-in_err-make_room-clause-part
returns-in_err-make_room-clause-part g c =
    let entries = c.args.entries.now in
    let i = c.loop-entry.entry-index in
    on_err c.from_residual.result
    (subst (λ (bytes : List ℕ). AppendsFront (g.O.Sink.held c.args.sink.now) (g.O.Sink.held c.make_room.new.sink) bytes)
    (spelt_split c.args.page.now entries i)
    (part_more _ _ (c.args.page.now ++ spelling (flat_map entry_fields (take i entries))) (spelling (flat_map entry_fields (drop i entries)))
    (part_then _ _ _ _ _ c.loop-entry.invariant.paged c.in_err-make_room.ensures.part)))

pub loop-entry-preserved : goal.loop-entry-preserved
loop-entry-preserved g c =
    let entries = c.args.entries.now in
    let i = c.loop-entry.entry-index in
    let entry = get_or entries i no_entry in
    let held_now = g.O.Sink.held c.make_room.new.sink in
    let roomy = paged_then _ _ _ _ _ _ c.loop-entry.invariant.paged c.in_ok-make_room.ensures.paged in
    let put = paged_more _ _ _ _ (spelling (entry_fields entry)) roomy in
    let named : IsPaged (g.O.Sink.held c.args.sink.now) held_now c.put_entry.new.page ((c.args.page.now ++ spelling (flat_map entry_fields (take i entries))) ++ spelling (entry_fields entry)) =
    rw c.put_entry.ensures.bytes put in
    record {
      paged = subst (λ (bytes : List ℕ). IsPaged (g.O.Sink.held c.args.sink.now) held_now c.put_entry.new.page bytes) (spelt_next c.args.page.now entries i no_entry c.loop-entry-test.true) named;
      fits = All-more FitsEntry entries i no_entry c.loop-entry-test.true c.loop-entry.invariant.fits c.put_entry.ensures.fits;
      steady = search rules;
    }
