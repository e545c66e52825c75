use Rattle.std.proofs.Common.{◌≡◌, ◌++◌, take}
use Rattle.std.specs.Io.KnownBytes.{Appends}
use Rattle.std.specs.List.{All, flat_map}
use Rattle.trace_format.specs.Fitting.{FitsFields}
use Rattle.trace_format.specs.Fields.{event_fields, header_fields, spelling}
use Rattle.trace_format.proofs.writing.write_trace.Given as goal

-- the header was written, and the events so far
abbrev pub invariant-loop-event : goal.invariant-loop-event
invariant-loop-event g l = record {
  appended :
      Appends (g.O.Sink.held l.fn.sink) (g.O.Sink.held l.sink)
      (spelling (header_fields l.trace.header ++ flat_map event_fields (take l.event-index l.event-items)));
  fits : All FitsFields (take l.event-index l.event-items);
  steady : g.O.Sink.faults l.sink ≡ g.O.Sink.faults l.fn.sink;
}
