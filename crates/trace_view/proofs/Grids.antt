-- What is drawn of the cells of a run is the picture of its events.
use Rattle.std.proofs.Common.{ℕ, ◌≡◌, ◌≤◌, List, ◌++◌, ap, ap₂, ◌∙◌, arith}
use Rattle.std.specs.List.{flat_map, range_with_len}
use Rattle.ompt_calls.specs.declared.event.EventRecord.{EventRecord}
use Rattle.trace_view.specs.declared.cells.Cell.{Cell}
use Rattle.trace_view.specs.declared.paths.Mark.{Mark}
use Rattle.trace_view.specs.declared.paths.Mark.TheVariants.{Stroke, Tick}
use Rattle.trace_view.specs.Cells.{IsGrid, cell_of, drawing_of, mark_at, mark_text, path_of, row_text, rows_text}
use Rattle.trace_view.specs.Svg.{legend_line, over_cells, path_end, shade_head, shade_path, svg_end, svg_head, svg_of, thread_label, threads_of, tick_head, tick_legend}
use Rattle.trace_view.proofs.Ranges.{same_for_each, same_over}

-- what is drawn of the rows is what is drawn of the cells of the events
rows-are : (columns : ℕ) (events : List EventRecord) (cells : List Cell) → IsGrid columns events columns cells → threads_of events ≤ 16 → (mark : Mark)
    → rows_text mark columns (threads_of events) cells
    ≡ over_cells columns events (λ (thread column : ℕ). mark_text mark (cell_of columns events thread column) thread column)
rows-are columns events cells grid few mark =
    same_over (row_text mark columns cells) (λ (thread : ℕ). flat_map (λ (column : ℕ). mark_text mark (cell_of columns events thread column) thread column) (range_with_len 0 columns))
    0 (threads_of events)
    (λ thread below. same_over (mark_at mark cells thread)
    (λ (column : ℕ). mark_text mark (cell_of columns events thread column) thread column) 0 columns
    (λ column inside. ap (λ (cell : Cell). mark_text mark cell thread column) (grid.each thread column (omega arith) (omega arith))))

-- so the picture of the cells is that of the events
pub drawing_is : (columns : ℕ) (events : List EventRecord) (cells : List Cell) → IsGrid columns events columns cells → threads_of events ≤ 16
    → drawing_of columns (threads_of events) cells ≡ svg_of columns events
drawing_is columns events cells grid few =
    ap₂ (λ (shades ticks : List ℕ). svg_head columns (threads_of events) ++ flat_map thread_label (range_with_len 0 (threads_of events)) ++ shades ++ ticks
    ++ flat_map (legend_line (threads_of events)) (range_with_len 1 9) ++ tick_legend (threads_of events) ++ svg_end)
    (same_for_each (path_of columns (threads_of events) cells) (shade_path columns events)
    (λ shade. ap (λ (rows : List ℕ). shade_head shade ++ rows ++ path_end) (rows-are columns events cells grid few (Stroke shade))) (range_with_len 1 9))
    (ap (λ (rows : List ℕ). tick_head ++ rows ++ path_end) (rows-are columns events cells grid few Tick))

-- the same of events that were read, and of cells that were shown
pub drawn : (columns threads : ℕ) (events read : List EventRecord) (cells shown : List Cell) → read ≡ events → threads ≡ threads_of read → threads ≤ 16
    → IsGrid columns read columns cells → shown ≡ cells → drawing_of columns threads shown ≡ svg_of columns events
drawn columns threads events read cells shown same counted few grid whole =
    ap₂ (λ (n : ℕ) (all : List Cell). drawing_of columns n all) counted whole
    ∙ (drawing_is columns read cells grid (omega (arith, counted, few)) ∙ ap (λ (all : List EventRecord). svg_of columns all) same)
