use Rattle.std.proofs.Common.{◌≡◌, ◌++◌, All, take}
use Rattle.std.specs.List.{flat_map}
use Rattle.history_file.specs.Fields.{entry_fields, spelling}
use Rattle.history_file.specs.Fitting.{FitsEntry}
use Rattle.history_file.specs.Paging.{IsPaged}
use Rattle.history_file.proofs.writing.write_entries.Given as goal

abbrev pub invariant-loop-entry : goal.invariant-loop-entry
invariant-loop-entry g l = record {
  paged : IsPaged (g.O.Sink.held l.initial.sink) (g.O.Sink.held l.sink) l.page (l.initial.page ++ spelling (flat_map entry_fields (take l.entry-index l.entries)));
  fits : All FitsEntry (take l.entry-index l.entries);
  steady : g.O.Sink.faults l.sink ≡ g.O.Sink.faults l.initial.sink;
}
