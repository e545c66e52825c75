-- The events before the end of a column are the first ones, and what they leave of a cell.
use Rattle.std.proofs.Common.{ℕ, zero, suc, ◌≡◌, ◌+◌, ◌-◌, ◌*◌, ◌<◌, ◌≤◌, ◌==◌, ◌&&◌, ◌||◌, Bool, true, false, cond, ltb, leb, List, [], ◌∷◌, ◌++◌, length, get_or, take, drop, map, max, set, replicate, refl, sym, ap, ap₂, ◌∙◌, arith, inl, inr}
use Rattle.std.specs.List.{All, filter, list_any}
use Rattle.std.proofs.Math.Nat.{mul-le-mul_right}
use Rattle.std.proofs.lemmas.Bool.{cases_Bool, cases_eq, cases_lt, eq-eqb, le-leb, le-ltb, lt-leb, lt-ltb, ltb-false, ltb-true, ne_eqb}
use Rattle.std.proofs.lemmas.List.{append-nil, drop-append-le, drop_all, get_or-map, get_or-replicate, get_or-set_other, get_or-set_same, get_or_append_left, get_or-append_right, length-append, length-take, length-take-le, take_more}
use Rattle.std.proofs.lemmas.List.Elements.{All-cons, All-nil, filter-append}
use Rattle.std.proofs.lemmas.List.Folds.{list_any-append}
use Rattle.std.proofs.lemmas.List.Recursion.{max_push}
use Rattle.std.proofs.lemmas.List.Sums.{count_by-le-length, length-filter}
use Rattle.ompt_calls.specs.declared.event.EventRecord.{EventRecord}
use Rattle.tool_tasks.specs.Span.{AreRising}
use Rattle.trace_format.specs.declared.trace.Header.{Header}
use Rattle.trace_format.specs.Validity.{AreEvents, IsHeader}
use Rattle.trace_view.specs.declared.cells.Cell.{Cell}
use Rattle.trace_view.specs.Cells.{AreAfter, IsGrid, cell_after, cell_later, cell_of, events_before, is_before, next_cell, no_cell}
use Rattle.trace_view.specs.Svg.{is_switch, shade_of, shade_of_last, span_of, threads_of}

-- ---- which events lie before an end

-- none does where the least position is past it
none-before : (columns end least : ℕ) (events : List EventRecord) → AreRising least events → end ≤ least * columns → events_before columns end events ≡ []
none-before columns end least [] rising far = refl
none-before columns end least (event ∷ events) rising far =
    let here : least * columns ≤ event.seq * columns = mul-le-mul_right columns rising.0 in
    let next : event.seq * columns ≤ (event.seq + 1) * columns = mul-le-mul_right columns (omega arith) in
    rw (le-ltb (event.seq * columns) end (omega arith)) (none-before columns end (event.seq + 1) events rising.1 (omega arith))

-- those that do are the first ones
pub front_is : (columns end least : ℕ) (events : List EventRecord) → AreRising least events
    → take (length (events_before columns end events)) events ≡ events_before columns end events
front_is columns end least [] rising = refl
front_is columns end least (event ∷ events) rising =
    elim (cases_lt (event.seq * columns) end)
    as (λ _. take (length (events_before columns end (event ∷ events))) (event ∷ events) ≡ events_before columns end (event ∷ events)) [
      | inl here ↦ rw (lt-ltb (event.seq * columns) end here) (ap (λ (rest : List EventRecord). event ∷ rest) (front_is columns end (event.seq + 1) events rising.1))
      | inr past ↦
          let next : event.seq * columns ≤ (event.seq + 1) * columns = mul-le-mul_right columns (omega arith) in
          rw (le-ltb (event.seq * columns) end past, none-before columns end (event.seq + 1) events rising.1 (omega arith)) refl
    ]

-- each of them is from the least on
from-at : (least k : ℕ) (d : EventRecord) (events : List EventRecord) → AreRising least events → k < length events → least ≤ (get_or events k d).seq
from-at least k d [] rising below = absurd (omega arith)
from-at least zero d (event ∷ events) rising below = rising.0
from-at least (suc k) d (event ∷ events) rising below =
    let later : event.seq + 1 ≤ (get_or events k d).seq = from-at (event.seq + 1) k d events rising.1 (omega arith) in
    let first : least ≤ event.seq = rising.0 in
    omega arith

-- one that does is among the first ones
pub reaches : (columns end least k : ℕ) (d : EventRecord) (events : List EventRecord) → AreRising least events → k < length events
    → is_before columns end (get_or events k d) ≡ true → k + 1 ≤ length (events_before columns end events)
reaches columns end least k d [] rising below here = absurd (omega arith)
reaches columns end least zero d (event ∷ events) rising below here = rw here (omega arith)
reaches columns end least (suc k) d (event ∷ events) rising below here =
    let later : event.seq + 1 ≤ (get_or events k d).seq = from-at (event.seq + 1) k d events rising.1 (omega arith) in
    let grows : event.seq * columns ≤ (get_or events k d).seq * columns = mul-le-mul_right columns (omega arith) in
    let there : (get_or events k d).seq * columns < end = ltb-true ((get_or events k d).seq * columns) end here in
    let rest = reaches columns end (event.seq + 1) k d events rising.1 (omega arith) here in
    rw (lt-ltb (event.seq * columns) end (omega arith)) (omega arith)

-- where one doesn't there are no more of them
pub stops : (columns end least k : ℕ) (d : EventRecord) (events : List EventRecord) → AreRising least events → k < length events
    → is_before columns end (get_or events k d) ≡ false → length (events_before columns end events) ≤ k
stops columns end least k d [] rising below past = absurd (omega arith)
stops columns end least zero d (event ∷ events) rising below past =
    let here : end ≤ event.seq * columns = ltb-false (event.seq * columns) end past in
    let next : event.seq * columns ≤ (event.seq + 1) * columns = mul-le-mul_right columns (omega arith) in
    rw (past, none-before columns end (event.seq + 1) events rising.1 (omega arith)) (omega arith)
stops columns end least (suc k) d (event ∷ events) rising below past =
    elim (cases_lt (event.seq * columns) end) as (λ _. length (events_before columns end (event ∷ events)) ≤ suc k) [
      | inl here ↦
          let rest = stops columns end (event.seq + 1) k d events rising.1 (omega arith) past in
          rw (lt-ltb (event.seq * columns) end here) (omega arith)
      | inr far ↦
          let next : event.seq * columns ≤ (event.seq + 1) * columns = mul-le-mul_right columns (omega arith) in
          rw (le-ltb (event.seq * columns) end far, none-before columns end (event.seq + 1) events rising.1 (omega arith)) (omega arith)
    ]

-- they are no more than all
pub front_within : (columns end : ℕ) (events : List EventRecord) → length (events_before columns end events) ≤ length events
front_within columns end events = omega (arith, length-filter (is_before columns end) events, count_by-le-length (is_before columns end) events)

-- before a later end lie at least as many
pub front_grows : (columns end later : ℕ) (events : List EventRecord) → end ≤ later
    → length (events_before columns end events) ≤ length (events_before columns later events)
front_grows columns end later [] le = omega arith
front_grows columns end later (event ∷ events) le =
    let rest = front_grows columns end later events le in
    elim (cases_lt (event.seq * columns) end) as (λ _. length (events_before columns end (event ∷ events)) ≤ length (events_before columns later (event ∷ events))) [
      | inl here ↦ rw (lt-ltb (event.seq * columns) end here, lt-ltb (event.seq * columns) later (omega arith)) (omega arith)
      | inr past ↦
          rw (le-ltb (event.seq * columns) end past)
          (elim (cases_lt (event.seq * columns) later) as (λ _. length (events_before columns end events) ≤ length (events_before columns later (event ∷ events))) [
            | inl more ↦ rw (lt-ltb (event.seq * columns) later more) (omega arith)
            | inr none ↦ rw (le-ltb (event.seq * columns) later none) rest
          ])
    ]

-- so before the end of the next column there are at least as many
pub next_front : (columns span column past end : ℕ) (events : List EventRecord) → past ≡ length (events_before columns (column * span) events)
    → end ≡ (column + 1) * span → past ≤ length (events_before columns end events)
next_front columns span column past end events counted is =
    let more : column * span ≤ (column + 1) * span = mul-le-mul_right span (omega arith) in
    let grows = front_grows columns (column * span) ((column + 1) * span) events more in
    let here = ap (λ (e : ℕ). length (events_before columns e events)) is in
    omega arith

-- none lies before the first column
pub first_front : (columns span : ℕ) (events : List EventRecord) → length (events_before columns (0 * span) events) ≡ 0
first_front columns span events = let none : 0 * span ≡ 0 = omega arith in rw none (none-at-all events)
  where
    none-at-all : (events : List EventRecord) → length (events_before columns 0 events) ≡ 0
    none-at-all [] = refl
    none-at-all (event ∷ events) = rw (le-ltb (event.seq * columns) 0 (omega arith)) (none-at-all events)

-- ---- the cell after these events

shade-push : (events : List EventRecord) (event : EventRecord) → shade_of_last (events ++ event ∷ []) ≡ shade_of event.state
shade-push [] event = refl
shade-push (first ∷ []) event = refl
shade-push (first ∷ next ∷ rest) event = shade-push (next ∷ rest) event

or-false : (b : Bool) → (b || false) ≡ b
or-false true = refl
or-false false = refl

-- a cell of these
abbrev made : ℕ → Bool → Cell
made shade has_switch = record { shade = shade; has_switch = has_switch }

-- one event more is taken in by the cell of its thread, and changes no other
cell-push : (past own : List EventRecord) (event : EventRecord) (thread : ℕ)
    → cell_after (past ++ event ∷ []) (own ++ event ∷ []) thread ≡ cond (event.thread == thread) (next_cell (cell_after past own thread) event) (cell_after past own thread)
cell-push past own event thread =
    ap₂ made (ap shade_of_last (filter-append (λ (e : EventRecord). e.thread == thread) past (event ∷ [])))
    (list_any-append (λ (e : EventRecord). (e.thread == thread) && is_switch e.call) own (event ∷ []))
    ∙ by-thread (event.thread == thread)
  where
    by-thread : (b : Bool)
        → made (shade_of_last (filter (λ (e : EventRecord). e.thread == thread) past ++ cond b (event ∷ []) []))
        (list_any (λ (e : EventRecord). (e.thread == thread) && is_switch e.call) own || ((b && is_switch event.call) || false))
        ≡ cond b (next_cell (cell_after past own thread) event) (cell_after past own thread)
    by-thread true =
        ap₂ made (shade-push (filter (λ (e : EventRecord). e.thread == thread) past) event)
        (ap (λ (b : Bool). list_any (λ (e : EventRecord). (e.thread == thread) && is_switch e.call) own || b) (or-false (is_switch event.call)))
    by-thread false =
        ap₂ made (ap shade_of_last (append-nil (filter (λ (e : EventRecord). e.thread == thread) past)))
        (or-false (list_any (λ (e : EventRecord). (e.thread == thread) && is_switch e.call) own))

-- so the cells are those after one event more
pub after_more : (events : List EventRecord) (cells new : List Cell) (from past : ℕ) (event d : EventRecord) → past < length events → from ≤ past
    → event ≡ get_or events past d → length cells ≡ 16 → AreAfter cells events from past
    → new ≡ set cells event.thread (next_cell (get_or cells event.thread no_cell) event) → AreAfter new events from (past + 1)
after_more events cells new from past event d below le is long after written = λ thread few.
    let taken : take (past + 1) events ≡ take past events ++ event ∷ [] =
    take_more events past d below ∙ ap (λ (e : EventRecord). take past events ++ e ∷ []) (sym is) in
    let count : length (take past events) ≡ past = length-take-le past events (omega arith) in
    let own : drop from (take (past + 1) events) ≡ drop from (take past events) ++ event ∷ [] =
    ap (drop from) taken ∙ drop-append-le from (take past events) (event ∷ []) (omega arith) in
    ap (λ (all : List Cell). get_or all thread no_cell) written ∙ (by-thread thread few
    ∙ sym (ap₂ (λ (a b : List EventRecord). cell_after a b thread) taken own ∙ cell-push (take past events) (drop from (take past events)) event thread))
  where
    by-thread : (thread : ℕ) → thread < 16
        → get_or (set cells event.thread (next_cell (get_or cells event.thread no_cell) event)) thread no_cell
        ≡ cond (event.thread == thread) (next_cell (cell_after (take past events) (drop from (take past events)) thread) event)
        (cell_after (take past events) (drop from (take past events)) thread)
    by-thread thread few = elim (cases_eq event.thread thread)
        as (λ _. get_or (set cells event.thread (next_cell (get_or cells event.thread no_cell) event)) thread no_cell
        ≡ cond (event.thread == thread) (next_cell (cell_after (take past events) (drop from (take past events)) thread) event)
        (cell_after (take past events) (drop from (take past events)) thread)) [
          | inl same ↦
              rw (eq-eqb event.thread thread same)
              (ap (λ (k : ℕ). get_or (set cells k (next_cell (get_or cells k no_cell) event)) thread no_cell) same
              ∙ (get_or-set_same cells thread (next_cell (get_or cells thread no_cell) event) no_cell (omega arith)
              ∙ ap (λ (cell : Cell). next_cell cell event) (after thread few)))
          | inr other ↦
              rw (ne_eqb event.thread thread other)
              (get_or-set_other cells event.thread thread (next_cell (get_or cells event.thread no_cell) event) no_cell (λ e. other (sym e)) ∙ after thread few)
        ]

-- the shades after the first so many events
abbrev pub HasShades : List Cell → List EventRecord → ℕ → Type 0
HasShades cells events past =
    (thread : ℕ) → thread < 16 → (get_or cells thread no_cell).shade ≡ shade_of_last (filter (λ (event : EventRecord). event.thread == thread) (take past events))

pub shades_after : (cells : List Cell) (events : List EventRecord) (from past : ℕ) → AreAfter cells events from past → HasShades cells events past
shades_after cells events from past after = λ thread few. ap (λ (cell : Cell). cell.shade) (after thread few)

pub first_shades : (events : List EventRecord) → HasShades (replicate 16 no_cell) events 0
first_shades events = λ thread few. ap (λ (cell : Cell). cell.shade) (get_or-replicate 16 thread no_cell no_cell few)

-- in the next column no event has come to pass yet
pub entered : (events : List EventRecord) (cells new : List Cell) (past : ℕ) → length cells ≡ 16 → HasShades cells events past → new ≡ map cell_later cells
    → AreAfter new events past past
entered events cells new past long shades written = λ thread few.
    let none : drop past (take past events) ≡ [] = drop_all past (take past events) (omega (arith, length-take past events)) in
    ap (λ (all : List Cell). get_or all thread no_cell) written
    ∙ (get_or-map cell_later cells thread no_cell no_cell (omega arith)
    ∙ (ap (λ (shade : ℕ). made shade false) (shades thread few)
    ∙ sym (ap (λ (own : List EventRecord). cell_after (take past events) own thread) none)))

-- ---- the cells of a column

and-false : (b : Bool) → (b && false) ≡ false
and-false true = refl
and-false false = refl

filter-both : (p q : EventRecord → Bool) (events : List EventRecord) → filter p (filter q events) ≡ filter (λ (e : EventRecord). p e && q e) events
filter-both p q [] = refl
filter-both p q (event ∷ events) =
    let rest = filter-both p q events in
    elim (cases_Bool (q event)) as (λ _. filter p (filter q (event ∷ events)) ≡ filter (λ (e : EventRecord). p e && q e) (event ∷ events)) [
      | inl holds ↦
          rw holds
          (elim (cases_Bool (p event))
          as (λ _. filter p (event ∷ filter q events)
          ≡ cond (p event && true) (event ∷ filter (λ (e : EventRecord). p e && q e) events) (filter (λ (e : EventRecord). p e && q e) events)) [
            | inl also ↦ rw also (ap (λ (list : List EventRecord). event ∷ list) rest)
            | inr alone ↦ rw alone rest
          ])
      | inr fails ↦ rw (fails, and-false (p event)) rest
    ]

-- an event that is of both kinds, within a column
abbrev both : (p q : EventRecord → Bool) → EventRecord → Bool
both p q event = p event && q event

abbrev within : (columns begin end : ℕ) (p q : EventRecord → Bool) → EventRecord → Bool
within columns begin end p q event = p event && (q event && (leb begin (event.seq * columns) && ltb (event.seq * columns) end))

left-out : (a b c d : Bool) → c ≡ d → ((a && (b && false)) || c) ≡ d
left-out true true c d same = same
left-out true false c d same = same
left-out false b c d same = same

taken-in : (a b c d : Bool) → c ≡ d → ((a && (b && true)) || c) ≡ ((a && b) || d)
taken-in a true c d same = ap (λ (e : Bool). (a && true) || e) same
taken-in a false c d same = ap (λ (e : Bool). (a && false) || e) same

-- one lies within the column where one does among those before its end without those before its begin
any-within : (columns begin end least : ℕ) (p q : EventRecord → Bool) (events : List EventRecord) → AreRising least events → begin ≤ end
    → list_any (within columns begin end p q) events
    ≡ list_any (both p q) (drop (length (events_before columns begin events)) (take (length (events_before columns end events)) events))
any-within columns begin end least p q [] rising le = refl
any-within columns begin end least p q (event ∷ events) rising le =
    let rest = any-within columns begin end (event.seq + 1) p q events rising.1 le in
    let next : event.seq * columns ≤ (event.seq + 1) * columns = mul-le-mul_right columns (omega arith) in
    elim (cases_lt (event.seq * columns) begin)
    as (λ _. list_any (within columns begin end p q) (event ∷ events)
    ≡ list_any (both p q) (drop (length (events_before columns begin (event ∷ events))) (take (length (events_before columns end (event ∷ events))) (event ∷ events)))) [
      | inl early ↦
          rw (lt-ltb (event.seq * columns) begin early, lt-leb begin (event.seq * columns) early, lt-ltb (event.seq * columns) end (omega arith))
          (left-out (p event) (q event) _ _ rest)
      | inr late ↦
          let none = none-before columns begin (event.seq + 1) events rising.1 (omega arith) in
          elim (cases_lt (event.seq * columns) end)
          as (λ _. list_any (within columns begin end p q) (event ∷ events)
          ≡ list_any (both p q) (drop (length (events_before columns begin (event ∷ events))) (take (length (events_before columns end (event ∷ events))) (event ∷ events)))) [
            | inl here ↦
                rw (le-ltb (event.seq * columns) begin late, le-leb begin (event.seq * columns) late, lt-ltb (event.seq * columns) end here, none)
                (taken-in (p event) (q event) _ _ (rw none at rest))
            | inr past ↦
                let no-more = none-before columns end (event.seq + 1) events rising.1 (omega arith) in
                rw (le-ltb (event.seq * columns) begin late, le-leb begin (event.seq * columns) late, le-ltb (event.seq * columns) end past, none, no-more)
                (left-out (p event) (q event) _ _ (rw (none, no-more) at rest))
          ]
    ]

-- the cell of a thread at the end of a column is the one that is drawn
pub cell_is : (columns column from past : ℕ) (events : List EventRecord) → AreRising 0 events
    → from ≡ length (events_before columns (column * span_of events) events) → past ≡ length (events_before columns ((column + 1) * span_of events) events)
    → (thread : ℕ) → cell_after (take past events) (drop from (take past events)) thread ≡ cell_of columns events thread column
cell_is columns column from past events rising from-is past-is thread =
    let le : column * span_of events ≤ (column + 1) * span_of events = mul-le-mul_right (span_of events) (omega arith) in
    let of-thread : EventRecord → Bool = λ (event : EventRecord). event.thread == thread in
    let switches : EventRecord → Bool = λ (event : EventRecord). is_switch event.call in
    ap₂ made
    (ap (λ (n : ℕ). shade_of_last (filter of-thread (take n events))) past-is
    ∙ (ap (λ (front : List EventRecord). shade_of_last (filter of-thread front)) (front_is columns ((column + 1) * span_of events) 0 events rising)
    ∙ ap shade_of_last (filter-both of-thread (is_before columns ((column + 1) * span_of events)) events)))
    (ap₂ (λ (m n : ℕ). list_any (both of-thread switches) (drop m (take n events))) from-is past-is
    ∙ sym (any-within columns (column * span_of events) ((column + 1) * span_of events) 0 of-thread switches events rising le))

-- at first there is no column
pub no_grid : (columns : ℕ) (events : List EventRecord) (cells : List Cell) → cells ≡ [] → IsGrid columns events 0 cells
no_grid columns events cells none = record { count = ap length none; each = λ thread column few below. absurd (omega arith) }

-- the cells of one column more
pub grid_more : (columns column : ℕ) (events : List EventRecord) (all cells new : List Cell) → IsGrid columns events column all → length cells ≡ 16
    → ((thread : ℕ) → thread < 16 → get_or cells thread no_cell ≡ cell_of columns events thread column) → new ≡ all ++ cells → IsGrid columns events (column + 1) new
grid_more columns column events all cells new grid long are is = record {
  count = omega (arith, ap length is, length-append all cells, grid.count);
  each = λ thread k few below. ap (λ (list : List Cell). get_or list (k * 16 + thread) no_cell) is ∙ by-column thread k few below;
}
  where
    by-column : (thread k : ℕ) → thread < 16 → k < column + 1 → get_or (all ++ cells) (k * 16 + thread) no_cell ≡ cell_of columns events thread k
    by-column thread k few below =
        let count : length all ≡ column * 16 = grid.count in
        elim (cases_lt k column) as (λ _. get_or (all ++ cells) (k * 16 + thread) no_cell ≡ cell_of columns events thread k) [
          | inl old ↦ get_or_append_left all cells no_cell (k * 16 + thread) (omega arith) ∙ grid.each thread k few old
          | inr new ↦
              let same : column ≡ k = omega arith in
              let place : k * 16 + thread - column * 16 ≡ thread = omega arith in
              get_or-append_right all cells (column * 16) (k * 16 + thread) no_cell count (omega arith)
              ∙ (ap (λ (n : ℕ). get_or cells n no_cell) place ∙ (are thread few ∙ ap (λ (c : ℕ). cell_of columns events thread c) same))
        ]

-- ---- the positions and the threads of events

pub span_more : (events : List EventRecord) (place : ℕ) (d : EventRecord) → place < length events
    → span_of (take (place + 1) events) ≡ max (span_of (take place events)) ((get_or events place d).seq + 1)
span_more events place d below =
    ap span_of (take_more events place d below) ∙ max_push span_of (λ (event : EventRecord). event.seq + 1) refl (λ _ _. refl) (take place events) (get_or events place d)

pub threads_more : (events : List EventRecord) (place : ℕ) (d : EventRecord) → place < length events
    → threads_of (take (place + 1) events) ≡ max (threads_of (take place events)) ((get_or events place d).thread + 1)
threads_more events place d below =
    ap threads_of (take_more events place d below)
    ∙ max_push threads_of (λ (event : EventRecord). event.thread + 1) refl (λ _ _. refl) (take place events) (get_or events place d)

-- the threads of a trace are few
pub are_few : (limit : ℕ) (header : Header) (least : ℕ) (events : List EventRecord) → IsHeader header → AreEvents limit header least events
    → All (λ (event : EventRecord). event.thread < 16) events
are_few limit header least [] valid are = All-nil (λ (event : EventRecord). event.thread < 16)
are_few limit header least (event ∷ events) valid are =
    let here : event.thread < header.threads = are.2.thread in
    let few : header.threads ≤ 16 = valid.few in
    All-cons (λ (other : EventRecord). other.thread < 16) event events (omega arith) (are_few limit header (event.seq + 1) events valid are.3)
