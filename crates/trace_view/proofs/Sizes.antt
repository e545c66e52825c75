-- A picture of states with at most 16 threads and 200 columns is short.
use Rattle.std.proofs.Common.{ℕ, zero, suc, ◌≡◌, ◌+◌, ◌*◌, ◌<◌, ◌≤◌, ◌==◌, Bool, true, false, cond, List, [], ◌∷◌, ◌++◌, length, max, refl, ap, arith, inl, inr}
use Rattle.std.specs.Prelude.{codes}
use Rattle.std.specs.Fmt.{decimal}
use Rattle.std.specs.List.{flat_map, range_with_len}
use Rattle.std.proofs.Math.Nat.{mul-le-mul_right}
use Rattle.std.proofs.lemmas.Bool.{cases_eq, eq-eqb, ne_eqb}
use Rattle.std.proofs.lemmas.Fmt.{length-decimal-le}
use Rattle.std.proofs.lemmas.List.{length-append}
use Rattle.ompt_calls.specs.declared.event.EventRecord.{EventRecord}
use Rattle.trace_view.specs.Svg.{cell_shade, colour_of, has_switch, legend_line, move_to, over_cells, path_end, shade_head, shade_path, shade_text, stroke_of, svg_end, svg_head, svg_of, thread_label, threads_of, tick_head, tick_legend, tick_of, tick_path}

-- what is written for each number of a range, where each text is short
each-short : (f : ℕ → List ℕ) (bound a n : ℕ) → ((k : ℕ) → k < a + n → length (f k) ≤ bound) → length (flat_map f (range_with_len a n)) ≤ n * bound
each-short f bound a zero short = omega arith
each-short f bound a (suc n) short =
    let first = short a (omega arith) in
    let rest = each-short f bound (a + 1) n (λ k below. short k (omega arith)) in
    omega (arith, length-append (f a) (flat_map f (range_with_len (a + 1) n)))

-- two texts for each number
both-long : (f g : ℕ → List ℕ) (xs : List ℕ) → length (flat_map (λ (k : ℕ). f k ++ g k) xs) ≡ length (flat_map f xs) + length (flat_map g xs)
both-long f g [] = refl
both-long f g (x ∷ xs) =
    let rest = both-long f g xs in
    omega (
      arith,
      length-append (f x ++ g x) (flat_map (λ (k : ℕ). f k ++ g k) xs),
      length-append (f x) (g x),
      length-append (f x) (flat_map f xs),
      length-append (g x) (flat_map g xs),
    )

abbrev nothing : ℕ → List ℕ
nothing k = []

all-empty : (xs : List ℕ) → length (flat_map nothing xs) ≡ 0
all-empty [] = refl
all-empty (x ∷ xs) = all-empty xs

-- several texts over the numbers of a range, of which those for a number are short together
together-short : (f : ℕ → ℕ → List ℕ) (xs : List ℕ) (bound a n : ℕ) → ((k : ℕ) → k < a + n → length (flat_map (λ (x : ℕ). f x k) xs) ≤ bound)
    → length (flat_map (λ (x : ℕ). flat_map (f x) (range_with_len a n)) xs) ≤ n * bound
together-short f xs bound a zero short = omega (arith, all-empty xs)
together-short f xs bound a (suc n) short =
    let first = short a (omega arith) in
    let rest = together-short f xs bound (a + 1) n (λ k below. short k (omega arith)) in
    omega (arith, both-long (λ (x : ℕ). f x a) (λ (x : ℕ). flat_map (f x) (range_with_len (a + 1) n)) xs)

-- ---- what is drawn of a cell

move-short : (thread column : ℕ) → thread < 16 → column < 200 → length (move_to thread column) ≤ 9
move-short thread column few within =
    let left = length-decimal-le 4 (30 + column * 6) (omega arith) (omega arith) (omega arith) in
    let middle = length-decimal-le 3 (10 + thread * 20) (omega arith) (omega arith) (omega arith) in
    omega (arith, length-append (decimal (30 + column * 6)) (32 ∷ decimal (10 + thread * 20)))

tick-short : (b : Bool) (thread column : ℕ) → thread < 16 → column < 200 → length (tick_of b thread column) ≤ 11
tick-short true thread column few within =
    let move = move-short thread column few within in
    omega (arith, length-append (move_to thread column) (codes "v9"))
tick-short false thread column few within = omega arith

stroke-short : (cell thread column : ℕ) → thread < 16 → column < 200 → length (move_to thread column ++ codes "h6") ≤ 11
stroke-short cell thread column few within =
    let move = move-short thread column few within in
    omega (arith, length-append (move_to thread column) (codes "h6"))

-- a cell has one shade
no-shade : (cell thread column a n : ℕ) → cell < a → length (flat_map (λ (shade : ℕ). stroke_of shade cell thread column) (range_with_len a n)) ≡ 0
no-shade cell thread column a zero below = refl
no-shade cell thread column a (suc n) below =
    rw (ne_eqb cell a (λ same. omega (arith, same))) (no-shade cell thread column (a + 1) n (omega arith))

one-shade : (cell thread column a n : ℕ) → thread < 16 → column < 200
    → length (flat_map (λ (shade : ℕ). stroke_of shade cell thread column) (range_with_len a n)) ≤ 11
one-shade cell thread column a zero few within = omega arith
one-shade cell thread column a (suc n) few within =
    elim (cases_eq cell a) as (λ _. length (flat_map (λ (shade : ℕ). stroke_of shade cell thread column) (range_with_len a (suc n))) ≤ 11) [
      | inl same ↦
          let here = stroke-short cell thread column few within in
          let none = no-shade cell thread column (a + 1) n (omega arith) in
          rw (eq-eqb cell a same)
          (omega (
            arith,
            length-append (move_to thread column ++ codes "h6")
                (flat_map (λ (shade : ℕ). stroke_of shade cell thread column) (range_with_len (a + 1) n)),
          ))
      | inr other ↦ rw (ne_eqb cell a other) (one-shade cell thread column (a + 1) n few within)
    ]

-- so the strokes of all shades are short together
strokes-short : (columns : ℕ) (events : List EventRecord) → columns ≤ 200 → threads_of events ≤ 16
    → length (flat_map (λ (shade : ℕ). over_cells columns events (λ (thread column : ℕ). stroke_of shade (cell_shade columns events thread column) thread column)) (range_with_len 1 9))
    ≤ threads_of events * (columns * 11)
strokes-short columns events short few =
    together-short (λ (shade thread : ℕ). flat_map (λ (column : ℕ). stroke_of shade (cell_shade columns events thread column) thread column) (range_with_len 0 columns))
    (range_with_len 1 9) (columns * 11) 0 (threads_of events)
    (λ thread below. together-short (λ (shade column : ℕ). stroke_of shade (cell_shade columns events thread column) thread column)
    (range_with_len 1 9) 11 0 columns
    (λ column within. one-shade (cell_shade columns events thread column) thread column 1 9 (omega arith) (omega arith)))

ticks-short : (columns : ℕ) (events : List EventRecord) → columns ≤ 200 → threads_of events ≤ 16
    → length (over_cells columns events (λ (thread column : ℕ). tick_of (has_switch columns events thread column) thread column)) ≤ threads_of events * (columns * 11)
ticks-short columns events short few =
    each-short (λ (thread : ℕ). flat_map (λ (column : ℕ). tick_of (has_switch columns events thread column) thread column) (range_with_len 0 columns))
    (columns * 11) 0 (threads_of events)
    (λ thread below. each-short (λ (column : ℕ). tick_of (has_switch columns events thread column) thread column) 11 0 columns
    (λ column within. tick-short (has_switch columns events thread column) thread column (omega arith) (omega arith)))

-- ---- the other texts

chosen-short : (b : Bool) (x y : List ℕ) (n : ℕ) → length x ≤ n → length y ≤ n → length (cond b x y) ≤ n
chosen-short true x y n first second = first
chosen-short false x y n first second = second

colour-short : (shade : ℕ) → length (colour_of shade) ≤ 7
colour-short shade =
    chosen-short (shade == 1) _ _ 7 (omega arith) (chosen-short (shade == 2) _ _ 7 (omega arith) (chosen-short (shade == 3) _ _ 7 (omega arith)
    (chosen-short (shade == 4) _ _ 7 (omega arith) (chosen-short (shade == 5) _ _ 7 (omega arith) (chosen-short (shade == 6) _ _ 7 (omega arith)
    (chosen-short (shade == 7) _ _ 7 (omega arith) (chosen-short (shade == 8) _ _ 7 (omega arith) (omega arith))))))))

name-short : (shade : ℕ) → length (shade_text shade) ≤ 19
name-short shade =
    chosen-short (shade == 1) _ _ 19 (omega arith) (chosen-short (shade == 2) _ _ 19 (omega arith) (chosen-short (shade == 3) _ _ 19 (omega arith)
    (chosen-short (shade == 4) _ _ 19 (omega arith) (chosen-short (shade == 5) _ _ 19 (omega arith) (chosen-short (shade == 6) _ _ 19 (omega arith)
    (chosen-short (shade == 7) _ _ 19 (omega arith) (chosen-short (shade == 8) _ _ 19 (omega arith) (omega arith))))))))

long-five : (a b c d e : List ℕ) → length ((((a ++ b) ++ c) ++ d) ++ e) ≡ length a + length b + length c + length d + length e
long-five a b c d e =
    omega (arith, length-append (((a ++ b) ++ c) ++ d) e, length-append ((a ++ b) ++ c) d, length-append (a ++ b) c, length-append a b)

long-six : (a b c d e f : List ℕ) → length (((((a ++ b) ++ c) ++ d) ++ e) ++ f) ≡ length a + length b + length c + length d + length e + length f
long-six a b c d e f = omega (arith, long-five a b c d e, length-append ((((a ++ b) ++ c) ++ d) ++ e) f)

label-short : (thread : ℕ) → thread < 16 → length (thread_label thread) ≤ 40
label-short thread few =
    let base = length-decimal-le 3 (10 + thread * 20 + 4) (omega arith) (omega arith) (omega arith) in
    let number = length-decimal-le 2 thread (omega arith) (omega arith) (omega arith) in
    omega (arith, long-six (codes "<text x=\"6\" y=\"") (decimal (10 + thread * 20 + 4)) (codes "\">") (decimal thread) (codes "</text>") (10 ∷ []))

legend-short : (threads shade : ℕ) → threads ≤ 16 → shade < 10 → length (legend_line threads shade) ≤ 120
legend-short threads shade few within =
    let middle = length-decimal-le 3 (threads * 20 + shade * 16) (omega arith) (omega arith) (omega arith) in
    let base = length-decimal-le 3 (threads * 20 + shade * 16 + 4) (omega arith) (omega arith) (omega arith) in
    omega (
      arith,
      colour-short shade,
      name-short shade,
      long-five (codes "<path stroke=\"") (colour_of shade) (codes "\" stroke-width=\"10\" d=\"M30 ") (decimal (threads * 20 + shade * 16)) (codes "h12\"/><text x=\"48\" y=\""),
      long-six (codes "<path stroke=\"" ++ colour_of shade ++ codes "\" stroke-width=\"10\" d=\"M30 " ++ decimal (threads * 20 + shade * 16) ++ codes "h12\"/><text x=\"48\" y=\"")
          (decimal (threads * 20 + shade * 16 + 4)) (codes "\">") (shade_text shade) (codes "</text>") (10 ∷ []),
    )

tick-legend-short : (threads : ℕ) → threads ≤ 16 → length (tick_legend threads) ≤ 100
tick-legend-short threads few =
    let top = length-decimal-le 3 (threads * 20 + 155) (omega arith) (omega arith) (omega arith) in
    let base = length-decimal-le 3 (threads * 20 + 164) (omega arith) (omega arith) (omega arith) in
    omega (
      arith,
      long-six (codes "<path stroke=\"#000000\" d=\"M36 ") (decimal (threads * 20 + 155)) (codes "v9\"/><text x=\"48\" y=\"") (decimal (threads * 20 + 164))
          (codes "\">task switch</text>") (10 ∷ []),
    )

head-short : (columns threads : ℕ) → columns ≤ 200 → threads ≤ 16 → length (svg_head columns threads) ≤ 190
head-short columns threads short few =
    let width = length-decimal-le 4 (max (columns * 6 + 40) 200) (omega arith) (omega arith) (omega arith) in
    let height = length-decimal-le 3 (threads * 20 + 172) (omega arith) (omega arith) (omega arith) in
    omega (
      arith,
      long-six (codes "<svg xmlns=\"http://www.w3.org/2000/svg\" viewBox=\"0 0 ") (decimal (max (columns * 6 + 40) 200)) (32 ∷ decimal (threads * 20 + 172))
          (codes "\" font-family=\"sans-serif\" font-size=\"12\">") (10 ∷ codes "<rect width=\"100%\" height=\"100%\" fill=\"#FFFFFF\"/>") (10 ∷ []),
    )

shade-head-short : (shade : ℕ) → length (shade_head shade) ≤ 50
shade-head-short shade =
    omega (arith, colour-short shade, length-append (codes "<path stroke=\"" ++ colour_of shade) (codes "\" stroke-width=\"14\" d=\""), length-append (codes "<path stroke=\"") (colour_of shade))

-- ---- the whole

paths-long : (columns : ℕ) (events : List EventRecord) (xs : List ℕ)
    → length (flat_map (shade_path columns events) xs)
    ≡ length (flat_map shade_head xs)
    + length (flat_map (λ (shade : ℕ). over_cells columns events (λ (thread column : ℕ). stroke_of shade (cell_shade columns events thread column) thread column)) xs)
    + length (flat_map (λ (shade : ℕ). path_end) xs)
paths-long columns events xs =
    omega (
      arith,
      both-long (λ (shade : ℕ). shade_head shade ++ over_cells columns events (λ (thread column : ℕ). stroke_of shade (cell_shade columns events thread column) thread column))
          (λ (shade : ℕ). path_end) xs,
      both-long shade_head (λ (shade : ℕ). over_cells columns events (λ (thread column : ℕ). stroke_of shade (cell_shade columns events thread column) thread column)) xs,
    )

paths-short : (columns : ℕ) (events : List EventRecord) → columns ≤ 200 → threads_of events ≤ 16 → length (flat_map (shade_path columns events) (range_with_len 1 9)) ≤ 35700
paths-short columns events short few =
    let heads = each-short shade_head 50 1 9 (λ shade below. shade-head-short shade) in
    let strokes = strokes-short columns events short few in
    let most : threads_of events * (columns * 11) ≤ 16 * (columns * 11) = mul-le-mul_right (columns * 11) few in
    let ends = each-short (λ (shade : ℕ). path_end) 4 1 9 (λ shade below. omega arith) in
    omega (arith, paths-long columns events (range_with_len 1 9), heads, strokes, most, ends)

tick-path-short : (columns : ℕ) (events : List EventRecord) → columns ≤ 200 → threads_of events ≤ 16 → length (tick_path columns events) ≤ 35300
tick-path-short columns events short few =
    let ticks = ticks-short columns events short few in
    let most : threads_of events * (columns * 11) ≤ 16 * (columns * 11) = mul-le-mul_right (columns * 11) few in
    let cells = over_cells columns events (λ (thread column : ℕ). tick_of (has_switch columns events thread column) thread column) in
    omega (arith, ticks, most, length-append (tick_head ++ cells) path_end, length-append tick_head cells)

long-seven : (a b c d e f g : List ℕ) → length ((((((a ++ b) ++ c) ++ d) ++ e) ++ f) ++ g) ≡ length a + length b + length c + length d + length e + length f + length g
long-seven a b c d e f g =
    omega (arith, long-five a b c d e, length-append ((((a ++ b) ++ c) ++ d) ++ e) f, length-append (((((a ++ b) ++ c) ++ d) ++ e) ++ f) g)

pub svg_short : (columns : ℕ) (events : List EventRecord) → columns ≤ 200 → threads_of events ≤ 16 → length (svg_of columns events) ≤ 80000
svg_short columns events short few =
    let threads = threads_of events in
    let head = head-short columns threads short few in
    let labels = each-short thread_label 40 0 threads (λ thread below. label-short thread (omega arith)) in
    let paths = paths-short columns events short few in
    let ticks = tick-path-short columns events short few in
    let legend = each-short (legend_line threads) 120 1 9 (λ shade below. legend-short threads shade few (omega arith)) in
    let last = tick-legend-short threads few in
    omega (
      arith,
      head,
      labels,
      paths,
      ticks,
      legend,
      last,
      long-seven (svg_head columns threads) (flat_map thread_label (range_with_len 0 threads)) (flat_map (shade_path columns events) (range_with_len 1 9)) (tick_path columns events)
          (flat_map (legend_line threads) (range_with_len 1 9)) (tick_legend threads) svg_end,
    )

-- the same of a text that is such a picture
pub text_short : (columns threads : ℕ) (events : List EventRecord) (text : List ℕ) → columns ≤ 200 → threads ≡ threads_of events → threads ≤ 16
    → text ≡ svg_of columns events → length text ≤ 80000
text_short columns threads events text short counted few is =
    let within : threads_of events ≤ 16 = omega (arith, counted, few) in
    let long : length text ≡ length (svg_of columns events) = ap length is in
    let most = svg_short columns events short within in
    omega (arith, long, most)
