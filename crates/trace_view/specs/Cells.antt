-- What is held of cells, of which the picture of states is drawn. This serves the contracts of private functions and the proofs.
use Rattle.std.specs.Prelude.{ℕ, ◌≡◌, ◌+◌, ◌*◌, ◌<◌, ◌==◌, ◌&&◌, ◌||◌, Bool, false, nat_lt, List, ◌++◌, filter, get_or, length, take, drop}
use Rattle.std.specs.List.{flat_map, list_any, range_with_len}
use Rattle.ompt_calls.specs.declared.event.EventRecord.{EventRecord}
use Rattle.trace_view.specs.declared.cells.Cell.{Cell}
use Rattle.trace_view.specs.declared.paths.Mark.{Mark}
use Rattle.trace_view.specs.declared.paths.Mark.TheVariants.{Stroke, Tick}
use Rattle.trace_view.specs.Svg.{cell_shade, has_switch, is_switch, legend_line, path_end, shade_head, shade_of, shade_of_last, stroke_of, svg_end, svg_head, thread_label, tick_head, tick_legend, tick_of}

-- the cell before the first event of a thread
abbrev pub no_cell : Cell
no_cell = record { shade = 0; has_switch = false }

-- the cell that is drawn of a thread at a column
abbrev pub cell_of : ℕ → List EventRecord → ℕ → ℕ → Cell
cell_of columns events thread column = record {
  shade = cell_shade columns events thread column;
  has_switch = has_switch columns events thread column;
}

-- the cell of a thread after these events, of which those lie in the column
abbrev pub cell_after : (past own : List EventRecord) → ℕ → Cell
cell_after past own thread = record {
  shade = shade_of_last (filter (λ (event : EventRecord). event.thread == thread) past);
  has_switch = list_any (λ (event : EventRecord). (event.thread == thread) && is_switch event.call) own;
}

-- the cell after one more event of its thread, and the cell in the next column where no event has come to pass in that
abbrev pub next_cell : Cell → EventRecord → Cell
next_cell cell event = record { shade = shade_of event.state; has_switch = cell.has_switch || is_switch event.call }

abbrev pub cell_later : Cell → Cell
cell_later cell = record { shade = cell.shade; has_switch = false }

-- whether an event lies before this end, and the events that do, where so many columns share the positions
abbrev pub is_before : ℕ → ℕ → EventRecord → Bool
is_before columns end event = nat_lt (event.seq * columns) end

abbrev pub events_before : ℕ → ℕ → List EventRecord → List EventRecord
events_before columns end events = filter (is_before columns end) events

-- the cells of all threads after the first so many events, of which those from a place on lie in the column
abbrev pub AreAfter : List Cell → List EventRecord → (from past : ℕ) → Type 0
AreAfter cells events from past =
    (thread : ℕ) → thread < 16 → get_or cells thread no_cell ≡ cell_after (take past events) (drop from (take past events)) thread

-- the cells of the first so many columns, one column after the other
pub record IsGrid (columns : ℕ) (events : List EventRecord) (done : ℕ) (cells : List Cell) : Type 0 where
  pub count : length cells ≡ done * 16
  pub each : (thread column : ℕ) → thread < 16 → column < done
      → get_or cells (column * 16 + thread) no_cell ≡ cell_of columns events thread column

-- what is drawn of a cell, of a row, and of all rows
abbrev pub mark_text : Mark → Cell → ℕ → ℕ → List ℕ
mark_text (Stroke shade) cell thread column = stroke_of shade cell.shade thread column
mark_text Tick cell thread column = tick_of cell.has_switch thread column

abbrev pub mark_at : Mark → List Cell → ℕ → ℕ → List ℕ
mark_at mark cells thread column = mark_text mark (get_or cells (column * 16 + thread) no_cell) thread column

abbrev pub row_text : Mark → ℕ → List Cell → ℕ → List ℕ
row_text mark columns cells thread = flat_map (mark_at mark cells thread) (range_with_len 0 columns)

abbrev pub rows_text : Mark → ℕ → ℕ → List Cell → List ℕ
rows_text mark columns threads cells = flat_map (row_text mark columns cells) (range_with_len 0 threads)

-- how a path begins
abbrev pub path_head : Mark → List ℕ
path_head (Stroke shade) = shade_head shade
path_head Tick = tick_head

abbrev pub path_text : Mark → ℕ → ℕ → List Cell → List ℕ
path_text mark columns threads cells = path_head mark ++ rows_text mark columns threads cells ++ path_end

-- the paths of all shades, and the picture of so many columns and threads
abbrev pub path_of : ℕ → ℕ → List Cell → ℕ → List ℕ
path_of columns threads cells shade = path_text (Stroke shade) columns threads cells

abbrev pub shade_paths : ℕ → ℕ → List Cell → List ℕ
shade_paths columns threads cells = flat_map (path_of columns threads cells) (range_with_len 1 9)

abbrev pub drawing_of : ℕ → ℕ → List Cell → List ℕ
drawing_of columns threads cells =
    svg_head columns threads ++ flat_map thread_label (range_with_len 0 threads) ++ shade_paths columns threads cells
    ++ path_text Tick columns threads cells ++ flat_map (legend_line threads) (range_with_len 1 9) ++ tick_legend threads ++ svg_end
