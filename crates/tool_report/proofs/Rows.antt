-- The lines of the first so many threads.
use Rattle.std.proofs.Common.{◌≡◌, ℕ, zero, suc, ◌+◌, ◌<◌, ◌≤◌, ◌==◌, List, [], ◌∷◌, ◌++◌, length, get_or, refl, sym, ◌∙◌, ap, append_assoc, arith}
use Rattle.std.specs.List.{filter, flat_map, range_with_len}
use Rattle.std.proofs.lemmas.List.{append-nil, length-map, get_or-map, nil_from_length}
use Rattle.ompt_calls.specs.declared.event.EventRecord.{EventRecord}
use Rattle.tool_report.specs.Layout.{by_thread, where_some}
use Rattle.tool_report.specs.Moments.{moment_of, moments_of}
use Rattle.tool_report.specs.Order.{AreKept}
use Rattle.tool_report.specs.Timeline.{span_of, state_line}
use Rattle.tool_report.specs.declared.timeline.Moment.{Moment}
use Rattle.tool_report.proofs.Threads.{by_thread-over, threads-shared}

-- a thread's line, and those of the first so many threads
abbrev pub line_at : (ℕ → List EventRecord → List ℕ) → List EventRecord → ℕ → List ℕ
line_at line events k = where_some (line k) (filter (λ (event : EventRecord). event.thread == k) events)

abbrev pub lines_to : (ℕ → List EventRecord → List ℕ) → List EventRecord → ℕ → List ℕ
lines_to line events n = flat_map (line_at line events) (range_with_len 0 n)

-- one number more
range-more : (f : ℕ → List ℕ) (a n j : ℕ) → j ≡ a + n → flat_map f (range_with_len a (suc n)) ≡ flat_map f (range_with_len a n) ++ f j
range-more f a zero j is = let same : j ≡ a = omega arith in rw same (append-nil (f a))
range-more f a (suc n) j is = ap (λ rest. f a ++ rest) (range-more f (a + 1) n j (omega arith)) ∙ sym (append_assoc (f a) (flat_map f (range_with_len (a + 1) n)) (f j))

pub lines_more : (line : ℕ → List EventRecord → List ℕ) (events : List EventRecord) (n : ℕ) → lines_to line events (n + 1) ≡ lines_to line events n ++ line_at line events n
lines_more line events n = let next : n + 1 ≡ suc n = omega arith in ap (lines_to line events) next ∙ range-more (line_at line events) 0 n n (omega arith)

-- those of as many threads as there are parts are all
pub lines_of_parts : (line : ℕ → List EventRecord → List ℕ) (events : List EventRecord) (parts : List (List Moment)) (n : ℕ) → AreKept moments_of events parts → n ≡ length parts → lines_to line events n ≡ by_thread line events
lines_of_parts line events parts n kept all =
    let few = threads-shared events kept.shares kept.shared in
    let same : n ≡ length kept.shares = all ∙ ap length kept.kept ∙ length-map kept.shares moments_of in
    sym (by_thread-over line events n (omega arith))

-- a part has the moments of its thread's events
pub part_is : (events : List EventRecord) (parts : List (List Moment)) (thread : ℕ) (d : List Moment) → AreKept moments_of events parts → thread < length parts → get_or parts thread d ≡ moments_of (filter (λ (event : EventRecord). event.thread == thread) events)
part_is events parts thread d kept below =
    let as_many = ap length kept.kept ∙ length-map kept.shares moments_of in
    ap (λ all. get_or all thread d) kept.kept ∙ get_or-map moments_of kept.shares thread [] d (omega arith) ∙ ap moments_of (kept.shared.each thread [] (omega arith))

-- a thread with moments has a line, and one with none has nothing
with-some : (line : List EventRecord → List ℕ) (events : List EventRecord) → 1 ≤ length events → where_some line events ≡ line events
with-some line [] some = absurd (omega arith)
with-some line (event ∷ events) some = refl

abbrev pub of_thread : ℕ → List EventRecord → List EventRecord
of_thread k events = filter (λ (event : EventRecord). event.thread == k) events

pub row_more : (columns span thread : ℕ) (events : List EventRecord) (moments : List Moment) (text longer : List ℕ) → span ≡ span_of events → moments ≡ moments_of (of_thread thread events) → 1 ≤ length moments → text ≡ lines_to (state_line columns (span_of events)) events thread → longer ≡ text ++ state_line columns span thread (of_thread thread events) → longer ≡ lines_to (state_line columns (span_of events)) events (thread + 1)
row_more columns span thread events moments text longer whole is some so_far added =
    let as_long = ap length is ∙ length-map (of_thread thread events) moment_of in
    let line = ap (λ n. state_line columns n thread (of_thread thread events)) whole ∙ sym (with-some (state_line columns (span_of events) thread) (of_thread thread events) (omega arith)) in
    added ∙ ap (λ all. all ++ state_line columns span thread (of_thread thread events)) so_far ∙ ap (λ row. lines_to (state_line columns (span_of events)) events thread ++ row) line ∙ sym (lines_more (state_line columns (span_of events)) events thread)

pub row_none : (columns thread : ℕ) (events : List EventRecord) (moments : List Moment) (text longer : List ℕ) → moments ≡ moments_of (of_thread thread events) → length moments ≡ 0 → text ≡ lines_to (state_line columns (span_of events)) events thread → longer ≡ text → longer ≡ lines_to (state_line columns (span_of events)) events (thread + 1)
row_none columns thread events moments text longer is none so_far same =
    let as_long = ap length is ∙ length-map (of_thread thread events) moment_of in
    let empty = ap (where_some (state_line columns (span_of events) thread)) (nil_from_length (of_thread thread events) (omega arith)) in
    same ∙ so_far ∙ sym (lines_more (state_line columns (span_of events)) events thread ∙ ap (λ row. lines_to (state_line columns (span_of events)) events thread ++ row) empty ∙ append-nil (lines_to (state_line columns (span_of events)) events thread))
