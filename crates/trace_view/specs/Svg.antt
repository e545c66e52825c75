-- The states of threads over a run as a picture, in the language SVG.
use Rattle.std.specs.Prelude.{ℕ, ◌+◌, ◌*◌, ◌==◌, ◌&&◌, Bool, true, false, nat_le, nat_lt, max, List, [], ◌∷◌, ◌++◌, filter, codes, if◌then◌else◌}
use Rattle.std.specs.List.{flat_map, list_any, range_with_len}
use Rattle.std.specs.Fmt.{decimal}
use Rattle.omp_codes.specs.declared.states.TheConstants.{WORK_SERIAL, WORK_PARALLEL, WAIT_BARRIER_IMPLICIT_PARALLEL, WAIT_BARRIER_IMPLICIT_WORKSHARE, WAIT_BARRIER_EXPLICIT, WAIT_TASKWAIT, WAIT_LOCK, WAIT_CRITICAL, IDLE, OVERHEAD}
use Rattle.ompt_calls.specs.declared.call.Call.{Call}
use Rattle.ompt_calls.specs.declared.call.Call.TheVariants.{TaskSchedule}
use Rattle.ompt_calls.specs.declared.event.EventRecord.{EventRecord}

-- the shade of a state: serial work, parallel work, waits at a barrier, at a taskwait, for a lock and for a critical, idle, overhead, and
-- any other
abbrev pub shade_of : ℕ → ℕ
shade_of state =
    if state == WORK_SERIAL then 1 else if state == WORK_PARALLEL then 2
    else if state == WAIT_BARRIER_IMPLICIT_PARALLEL then 3 else if state == WAIT_BARRIER_IMPLICIT_WORKSHARE then 3
    else if state == WAIT_BARRIER_EXPLICIT then 3
    else if state == WAIT_TASKWAIT then 4 else if state == WAIT_LOCK then 5 else if state == WAIT_CRITICAL then 6
    else if state == IDLE then 7 else if state == OVERHEAD then 8 else 9

-- the colours of the shades: those of Okabe and Ito, which colour-blind readers tell apart, and greys for what is idle and for any other
abbrev pub colour_of : ℕ → List ℕ
colour_of shade =
    if shade == 1 then codes "#009E73" else if shade == 2 then codes "#0072B2" else if shade == 3 then codes "#E69F00"
    else if shade == 4 then codes "#F0E442" else if shade == 5 then codes "#D55E00" else if shade == 6 then codes "#CC79A7"
    else if shade == 7 then codes "#DDDDDD" else if shade == 8 then codes "#56B4E9" else codes "#999999"

abbrev pub shade_text : ℕ → List ℕ
shade_text shade =
    if shade == 1 then codes "work, serial" else if shade == 2 then codes "work, parallel" else if shade == 3 then codes "wait at a barrier"
    else if shade == 4 then codes "wait at a taskwait" else if shade == 5 then codes "wait for a lock"
    else if shade == 6 then codes "wait for a critical"
    else if shade == 7 then codes "idle" else if shade == 8 then codes "overhead" else codes "other"

-- the shade of the last of these events: 0 where there is none
abbrev pub shade_of_last : List EventRecord → ℕ
shade_of_last [] = 0
shade_of_last (event ∷ []) = shade_of event.state
shade_of_last (event ∷ next ∷ rest) = shade_of_last (next ∷ rest)

-- one more than the greatest position, and than the greatest thread
abbrev pub span_of : List EventRecord → ℕ
span_of [] = 0
span_of (event ∷ rest) = max (event.seq + 1) (span_of rest)

abbrev pub threads_of : List EventRecord → ℕ
threads_of [] = 0
threads_of (event ∷ rest) = max (event.thread + 1) (threads_of rest)

-- An event lies in the column c where c × span ≤ seq × columns < (c + 1) × span: so many columns share the positions, as in the report of
-- `ompt timeline`.
abbrev pub is_by : ℕ → ℕ → ℕ → ℕ → Bool
is_by columns span column seq = nat_lt (seq * columns) ((column + 1) * span)

abbrev pub is_from : ℕ → ℕ → ℕ → ℕ → Bool
is_from columns span column seq = nat_le (column * span) (seq * columns)

-- a thread's shade at a column: that of its last event in it or before it
abbrev pub cell_shade : ℕ → List EventRecord → ℕ → ℕ → ℕ
cell_shade columns events thread column =
    shade_of_last (filter (λ (event : EventRecord). (event.thread == thread) && is_by columns (span_of events) column event.seq) events)

-- whether the thread goes from a task to another one within the column
abbrev pub is_switch : Call → Bool
is_switch (TaskSchedule prior status next) = true
is_switch other = false

abbrev pub has_switch : ℕ → List EventRecord → ℕ → ℕ → Bool
has_switch columns events thread column =
    list_any (λ (event : EventRecord). (event.thread == thread) && (is_switch event.call
    && (is_from columns (span_of events) column event.seq && is_by columns (span_of events) column event.seq))) events

-- the left end of a column, and the middle of the row of a thread
abbrev pub left_of : ℕ → ℕ
left_of column = 30 + column * 6

abbrev pub middle_of : ℕ → ℕ
middle_of thread = 10 + thread * 20

-- what is drawn of a cell begins at its left end
abbrev pub move_to : ℕ → ℕ → List ℕ
move_to thread column = codes "M" ++ decimal (left_of column) ++ 32 ∷ decimal (middle_of thread)

-- what is drawn of a cell in this shade: a stroke as wide as a column
abbrev pub stroke_of : ℕ → ℕ → ℕ → ℕ → List ℕ
stroke_of shade cell thread column = if cell == shade then move_to thread column ++ codes "h6" else []

-- a tick where there is a switch
abbrev pub tick_of : Bool → ℕ → ℕ → List ℕ
tick_of true thread column = move_to thread column ++ codes "v9"
tick_of false thread column = []

-- a text for each cell, by thread and column
abbrev pub over_cells : ℕ → List EventRecord → (ℕ → ℕ → List ℕ) → List ℕ
over_cells columns events cell =
    flat_map (λ (thread : ℕ). flat_map (cell thread) (range_with_len 0 columns)) (range_with_len 0 (threads_of events))

-- all cells of a shade are one path, and the ticks are one
abbrev pub shade_head : ℕ → List ℕ
shade_head shade = codes "<path stroke=\"" ++ colour_of shade ++ codes "\" stroke-width=\"14\" d=\""

abbrev pub tick_head : List ℕ
tick_head = codes "<path stroke=\"#000000\" d=\""

abbrev pub path_end : List ℕ
path_end = codes "\"/>" ++ 10 ∷ []

abbrev pub shade_path : ℕ → List EventRecord → ℕ → List ℕ
shade_path columns events shade =
    shade_head shade
    ++ over_cells columns events (λ (thread column : ℕ). stroke_of shade (cell_shade columns events thread column) thread column)
    ++ path_end

abbrev pub tick_path : ℕ → List EventRecord → List ℕ
tick_path columns events =
    tick_head
    ++ over_cells columns events (λ (thread column : ℕ). tick_of (has_switch columns events thread column) thread column) ++ path_end

-- the number of a thread, at the left of its row
abbrev pub thread_label : ℕ → List ℕ
thread_label thread =
    codes "<text x=\"6\" y=\"" ++ decimal (middle_of thread + 4) ++ codes "\">" ++ decimal thread ++ codes "</text>" ++ 10 ∷ []

-- a line of the legend, below the rows
abbrev pub legend_line : ℕ → ℕ → List ℕ
legend_line threads shade =
    codes "<path stroke=\"" ++ colour_of shade ++ codes "\" stroke-width=\"10\" d=\"M30 " ++ decimal (threads * 20 + shade * 16)
    ++ codes "h12\"/><text x=\"48\" y=\"" ++ decimal (threads * 20 + shade * 16 + 4) ++ codes "\">" ++ shade_text shade
    ++ codes "</text>" ++ 10 ∷ []

-- how it begins: as wide as the columns or the legend, as high as the rows and the legend, on white
abbrev pub svg_head : ℕ → ℕ → List ℕ
svg_head columns threads =
    codes "<svg xmlns=\"http://www.w3.org/2000/svg\" viewBox=\"0 0 " ++ decimal (max (columns * 6 + 40) 200)
    ++ 32 ∷ decimal (threads * 20 + 172) ++ codes "\" font-family=\"sans-serif\" font-size=\"12\">"
    ++ 10 ∷ codes "<rect width=\"100%\" height=\"100%\" fill=\"#FFFFFF\"/>" ++ 10 ∷ []

-- the line of the legend on the ticks
abbrev pub tick_legend : ℕ → List ℕ
tick_legend threads =
    codes "<path stroke=\"#000000\" d=\"M36 " ++ decimal (threads * 20 + 155) ++ codes "v9\"/><text x=\"48\" y=\""
    ++ decimal (threads * 20 + 164) ++ codes "\">task switch</text>" ++ 10 ∷ []

abbrev pub svg_end : List ℕ
svg_end = codes "</svg>" ++ 10 ∷ []

-- the picture of these events in so many columns
abbrev pub svg_of : ℕ → List EventRecord → List ℕ
svg_of columns events =
    svg_head columns (threads_of events) ++ flat_map thread_label (range_with_len 0 (threads_of events))
    ++ flat_map (shade_path columns events) (range_with_len 1 9) ++ tick_path columns events
    ++ flat_map (legend_line (threads_of events)) (range_with_len 1 9) ++ tick_legend (threads_of events) ++ svg_end
