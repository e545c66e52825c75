use Rattle.std.proofs.Common.{ℕ, ◌≡◌, ◌+◌, ◌*◌, length, refl, sym, ap, ◌∙◌}
use Rattle.trace_view.specs.Cells.{events_before}
use Rattle.trace_view.specs.Svg.{span_of}
use Rattle.trace_view.proofs.Columns.{cell_is, first_front, first_shades, grid_more, next_front, no_grid, shades_after}
use Rattle.trace_view.proofs.cells.cells_of.Goals as goal

pub loop-column-init : goal.loop-column-init
loop-column-init c = record {
  long = refl;
  past = sym (first_front c.args.columns (span_of c.args.events.now) c.args.events.now);
  shades = first_shades c.args.events.now;
  grid = no_grid c.args.columns c.args.events.now c.new-all.result.items c.new-all.ensures.items;
}

pub take_until-past-requires-clause-front : goal.take_until-past-requires-clause-front
take_until-past-requires-clause-front c =
    next_front c.args.columns (span_of c.args.events.now) c.loop-column.column c.loop-column.past c.column_end-end.result c.args.events.now
    c.loop-column.invariant.past (c.column_end-end.ensures ∙ ap (λ (span : ℕ). (c.loop-column.column + 1) * span) c.span_of-span.ensures.span)

pub loop-column-preserved : goal.loop-column-preserved
loop-column-preserved c =
    let columns = c.args.columns in
    let column = c.loop-column.column in
    let events = c.args.events.now in
    let cells = c.take_until-past.new.cells in
    let past = c.take_until-past.result in
    let long : length cells ≡ 16 = c.take_until-past.auto.cells ∙ (c.enter_column.auto.cells ∙ c.loop-column.invariant.long) in
    let counted : past ≡ length (events_before columns ((column + 1) * span_of events) events) =
    c.take_until-past.ensures.taken ∙ ap (λ (end : ℕ). length (events_before columns end events))
    (c.column_end-end.ensures ∙ ap (λ (span : ℕ). (column + 1) * span) c.span_of-span.ensures.span) in
    record {
      long = long;
      past = counted;
      shades = shades_after cells events c.loop-column.past past c.take_until-past.ensures.cells;
      grid = grid_more columns column events c.loop-column.all.items cells c.extend_from_slice.new.self.items c.loop-column.invariant.grid long
          (λ thread few. c.take_until-past.ensures.cells thread few
          ∙ cell_is columns column c.loop-column.past past events c.requires.rising c.loop-column.invariant.past counted thread)
          c.in_ok-extend_from_slice.ensures.items;
    }
