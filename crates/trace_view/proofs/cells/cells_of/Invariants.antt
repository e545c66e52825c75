use Rattle.std.proofs.Common.{◌≡◌, ◌*◌, length}
use Rattle.trace_view.specs.Cells.{IsGrid, events_before}
use Rattle.trace_view.specs.Svg.{span_of}
use Rattle.trace_view.proofs.Columns.{HasShades}
use Rattle.trace_view.proofs.cells.cells_of.Given as goal

abbrev pub invariant-loop-column : goal.invariant-loop-column
invariant-loop-column l = record {
  long : length l.cells ≡ 16;
  past : l.past ≡ length (events_before l.columns (l.column * span_of l.events) l.events);
  shades : HasShades l.cells l.events l.past;
  grid : IsGrid l.columns l.events l.column l.all.items;
}
