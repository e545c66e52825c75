-- The loop that a construct shares out: which way it goes, and that each iteration has a value that a cell can hold.
use Rattle.std.proofs.Common.{◌≡◌, ℕ, suc, ◌+◌, ◌-◌, ◌*◌, ◌/◌, ◌%◌, ◌<◌, ◌≤◌, ◌^◌, min, Bool, true, false, ◌&&◌, ◌||◌, IfSome, if◌then◌else◌, Option, Some, None, ℤ, pos, negsuc, ◌+ℤ◌, ◌-ℤ◌, ◌*ℤ◌, ◌≤ℤ◌, ◌<ℤ◌, neg_ℤ, nat_abs, FitsSigned, w32, w64, refl, sym, subst, arith, rules}
use Rattle.std.proofs.lemmas.Int.{ints}
use Rattle.std.proofs.Math.Nat.{div-mul-le_self, le-mul_of_pos_right, lt_of_not-le, mul-le-mul_right, suc-mul}
use Rattle.std.proofs.Math.IntN.{pos-*ℤ-negsuc, pos-*ℤ-pos}
use Rattle.c_syntax.specs.declared.node.BinaryOp.{BinaryOp}
use Rattle.c_syntax.specs.declared.node.BinaryOp.TheVariants as binary
use Rattle.c_syntax.specs.declared.node.Bump.TheVariants as bump
use Rattle.c_syntax.specs.declared.node.Setting.TheVariants as setting
use Rattle.c_syntax.specs.declared.node.NodeKind.{NodeKind}
use Rattle.c_syntax.specs.declared.node.NodeKind.TheVariants as node
use Rattle.c_syntax.specs.language.Tree.{Tree, child_of, children_of, kind_of}
use Rattle.c_check.specs.Loops.{adds, child_at, goes_down, goes_up, has_head, is_start, is_step_down, is_step_up, is_variable_named, loop_name, takes}
use Rattle.c_check.specs.LoopParts.{LoopParts, comparison_of, loop_parts, parts_by_kind, parts_if, parts_in, parts_with, statement_parts, step_by, step_of}
use Rattle.c_check.specs.Statements.{shares_loop, statement_of}
use Rattle.c_model.specs.Cells.{fits_cell}
use Rattle.c_model.specs.Loops.{count_by, distance, positive_part, steps_in}
use Rattle.c_steps.specs.LoopNodes.{GoesOn}
use Rattle.c_steps.specs.Ready.{AreLoopNumbers}

pub rounded_up : (distance size : ℕ) → 0 < size → distance / size + min 1 (distance % size) ≡ steps_in distance size
rounded_up distance size some = grind arith

-- Which way a loop goes.

step_up : (kind : NodeKind) (stride : Tree) → adds kind stride ≡ true → IfSome (step_by kind stride) (λ step. pos 1 ≤ℤ step)
step_up (node.Bump bump.Increment side) stride up = omega (arith, ints)
step_up (node.Assign setting.Add) stride up = grind (arith, up)
step_up other stride up = grind (arith, up)

step_down : (kind : NodeKind) (stride : Tree) → takes kind stride ≡ true → IfSome (step_by kind stride) (λ step. step ≤ℤ neg_ℤ (pos 1))
step_down (node.Bump bump.Decrement side) stride down = omega (arith, ints)
step_down (node.Assign setting.Subtract) stride down = grind (arith, down)
step_down other stride down = grind (arith, down)

abbrev PartsGoOn : Option LoopParts → Type 0
PartsGoOn parts = IfSome parts (λ parts. GoesOn parts.comparison parts.step)

with_comparison : (variable start end body : Option Tree) (comparison : BinaryOp) (step : Option ℤ) → IfSome step (GoesOn comparison) → PartsGoOn (parts_with variable start end body (Some comparison) step)
with_comparison (Some variable) (Some start) (Some end) (Some body) comparison (Some step) goes = goes
with_comparison variable start end body comparison step goes = search rules

of_left : (left : Bool) → (left || false) ≡ true → left ≡ true
of_left true holds = refl
of_left false holds = absurd (search (holds, rules))

with_kind : (variable start end body : Option Tree) (kind : NodeKind) (third : Tree) →
    (goes_up kind && is_step_up third || goes_down kind && is_step_down third) ≡ true →
    PartsGoOn (parts_with variable start end body (comparison_of kind) (step_of third))
with_kind variable start end body (node.Binary binary.Less) third goes = with_comparison variable start end body binary.Less (step_of third) (step_up (kind_of third) (child_at third 1) (of_left (is_step_up third) goes))
with_kind variable start end body (node.Binary binary.LessEqual) third goes = with_comparison variable start end body binary.LessEqual (step_of third) (step_up (kind_of third) (child_at third 1) (of_left (is_step_up third) goes))
with_kind variable start end body (node.Binary binary.Greater) third goes = with_comparison variable start end body binary.Greater (step_of third) (step_down (kind_of third) (child_at third 1) goes)
with_kind variable start end body (node.Binary binary.GreaterEqual) third goes = with_comparison variable start end body binary.GreaterEqual (step_of third) (step_down (kind_of third) (child_at third 1) goes)
with_kind variable start end body other third goes = absurd (search (goes, rules))

last_of_head : (start variable moved goes : Bool) → (start && (variable && moved && goes)) ≡ true → goes ≡ true
last_of_head true true true goes holds = holds
last_of_head start variable moved goes holds = absurd (search (holds, rules))

if_holds : (test : Bool) (parts : Option LoopParts) → (test ≡ true → PartsGoOn parts) → PartsGoOn (if test then parts else None)
if_holds true parts goes = goes refl
if_holds false parts goes = search rules

of_head : (name : ℕ) (statement : Tree) → has_head name statement ≡ true → PartsGoOn (parts_in statement)
of_head name statement holds =
    let second = child_at statement 1 in
    let third = child_at statement 2 in
    with_kind (child_of (child_at statement 0) 0) (child_of (child_at statement 0) 1) (child_of second 1) (child_of statement 3) (kind_of second) third
    (last_of_head
    (is_start (kind_of (child_at statement 0))) (is_variable_named name (child_at second 0)) (is_variable_named name (child_at third 0))
    (goes_up (kind_of second) && is_step_up third || goes_down (kind_of second) && is_step_down third)
    holds)

of_name : (name : Option ℕ) (statement : Tree) → PartsGoOn (parts_if name statement)
of_name None statement = search rules
of_name (Some name) statement = if_holds (has_head name statement) (parts_in statement) (of_head name statement)

of_kind : (kind : NodeKind) (construct : Tree) → PartsGoOn (parts_by_kind kind construct)
of_kind (node.Construct which) construct =
    let statement = statement_of (children_of construct) in
    if_holds (shares_loop which) (statement_parts statement) (λ shares. of_name (loop_name statement) statement)
of_kind other construct = search rules

pub loop_goes_on : (construct : Tree) (parts : LoopParts) → loop_parts construct ≡ Some parts → GoesOn parts.comparison parts.step
loop_goes_on construct parts are = subst PartsGoOn are (of_kind (kind_of construct) construct)

-- What the numbers of a loop are.

cell_bounds : (number : ℤ) → fits_cell number ≡ true → (neg_ℤ (pos (2 ^ 31)) ≤ℤ number) × (number <ℤ pos (2 ^ 31))
cell_bounds (pos n) fits = grind (arith, fits)
cell_bounds (negsuc n) fits = grind (arith, fits)

fits_between : (number : ℤ) → neg_ℤ (pos (2 ^ 31)) ≤ℤ number → number <ℤ pos (2 ^ 31) → fits_cell number ≡ true
fits_between (pos n) low high = grind (arith, low, high)
fits_between (negsuc n) low high = grind (arith, low, high)

below_part : (part : ℕ) (number : ℤ) → part < positive_part number → pos part <ℤ number
below_part part (pos n) below = grind (arith, below)
below_part part (negsuc n) below = absurd (omega (arith, ints, below))

before_end : (iteration distance size : ℕ) → 1 ≤ size → iteration < steps_in distance size → iteration * size < distance
before_end iteration distance size some before =
    let whole : suc iteration * size ≤ steps_in distance size * size = mul-le-mul_right size before in
    omega (arith, some, whole, suc-mul iteration size, div-mul-le_self (distance + (size - 1)) size)

steps_few : (distance size : ℕ) → 1 ≤ size → steps_in distance size ≤ distance
steps_few distance size some =
    let under : steps_in distance size < distance + 1 =
    lt_of_not-le (λ more. omega (arith, before_end distance distance size some (omega (arith, more)), le-mul_of_pos_right distance some)) in
    omega (arith, under)

part_few : (number : ℤ) → number ≤ℤ pos (2 ^ 32) → positive_part number ≤ 2 ^ 32
part_few (pos n) few = omega (arith, ints, few)
part_few (negsuc n) few = omega (arith, ints)

distance_few : (from to : ℤ) → neg_ℤ (pos (2 ^ 31)) ≤ℤ from → to ≤ℤ pos (2 ^ 31) → distance from to ≤ 2 ^ 32
distance_few from to low high = part_few (to -ℤ from) (omega (arith, ints, low, high))

distance_few_down : (from to : ℤ) → (neg_ℤ (pos (2 ^ 31)) -ℤ pos 1) ≤ℤ from → to <ℤ pos (2 ^ 31) → distance from to ≤ 2 ^ 32
distance_few_down from to low high = part_few (to -ℤ from) (omega (arith, ints, low, high))

fits_up : (start end : ℤ) (part : ℕ) → fits_cell start ≡ true → end ≤ℤ pos (2 ^ 31) → part < distance start end → fits_cell (start +ℤ pos part) ≡ true
fits_up start end part fits high below =
    let bounds = cell_bounds start fits in
    let under = below_part part (end -ℤ start) below in
    fits_between (start +ℤ pos part) (omega (arith, ints, bounds.0)) (omega (arith, ints, under, high))

fits_down : (start end : ℤ) (part : ℕ) → fits_cell start ≡ true → (neg_ℤ (pos (2 ^ 31)) -ℤ pos 1) ≤ℤ end → part < distance end start → fits_cell (start +ℤ neg_ℤ (pos part)) ≡ true
fits_down start end part fits low below =
    let bounds = cell_bounds start fits in
    let under = below_part part (start -ℤ end) below in
    fits_between (start +ℤ neg_ℤ (pos part)) (omega (arith, ints, under, low)) (omega (arith, ints, bounds.1))

numbers_up : (start end step : ℤ) → fits_cell start ≡ true → end ≤ℤ pos (2 ^ 31) → pos 1 ≤ℤ step → AreLoopNumbers start (steps_in (distance start end) (nat_abs step)) step
numbers_up start end (pos size) fits high up =
    let some : 1 ≤ size = omega (arith, ints, up) in
    record {
      first = fits;
      few = omega (arith, ints, steps_few (distance start end) size some, distance_few start end (cell_bounds start fits).0 high);
      values = λ iteration before.
          subst (λ far. fits_cell (start +ℤ far) ≡ true) (sym (pos-*ℤ-pos iteration size))
          (fits_up start end (iteration * size) fits high (before_end iteration (distance start end) size some before));
    }
numbers_up start end (negsuc size) fits high up = absurd (omega (arith, ints, up))

numbers_down : (start end step : ℤ) → fits_cell start ≡ true → (neg_ℤ (pos (2 ^ 31)) -ℤ pos 1) ≤ℤ end → step ≤ℤ neg_ℤ (pos 1) → AreLoopNumbers start (steps_in (distance end start) (nat_abs step)) step
numbers_down start end (pos size) fits low down = absurd (omega (arith, ints, down))
numbers_down start end (negsuc size) fits low down =
    record {
      first = fits;
      few = omega (arith, ints, steps_few (distance end start) (suc size) (omega (arith, ints)), distance_few_down end start low (cell_bounds start fits).1);
      values = λ iteration before.
          subst (λ far. fits_cell (start +ℤ far) ≡ true) (sym (pos-*ℤ-negsuc iteration size))
          (fits_down start end (iteration * suc size) fits low (before_end iteration (distance end start) (suc size) (omega (arith, ints)) before));
    }

-- the numbers of a loop whose start and end fit cells
pub are_loop_numbers : (comparison : BinaryOp) (start end step : ℤ) → fits_cell start ≡ true → fits_cell end ≡ true → GoesOn comparison step → AreLoopNumbers start (count_by comparison start end (nat_abs step)) step
are_loop_numbers binary.Less start end step first last goes = numbers_up start end step first (omega (arith, ints, (cell_bounds end last).1)) goes
are_loop_numbers binary.LessEqual start end step first last goes = numbers_up start (end +ℤ pos 1) step first (omega (arith, ints, (cell_bounds end last).1)) goes
are_loop_numbers binary.Greater start end step first last goes = numbers_down start end step first (omega (arith, ints, (cell_bounds end last).0)) goes
are_loop_numbers binary.GreaterEqual start end step first last goes = numbers_down start (end -ℤ pos 1) step first (omega (arith, ints, (cell_bounds end last).0)) goes
are_loop_numbers other start end step first last goes = absurd goes

pub cell_of_i32 : (number : ℤ) → FitsSigned w32 number → fits_cell number ≡ true
cell_of_i32 (pos n) fits = grind (arith, fits)
cell_of_i32 (negsuc n) fits = grind (arith, fits)

-- The value of an iteration, computed in 64 bits.

pub cell_fits_32 : (number : ℤ) → fits_cell number ≡ true → FitsSigned w32 number
cell_fits_32 (pos n) fits = grind (arith, fits)
cell_fits_32 (negsuc n) fits = grind (arith, fits)

pub cell_fits_64 : (number : ℤ) → fits_cell number ≡ true → FitsSigned w64 number
cell_fits_64 (pos n) fits = grind (arith, fits)
cell_fits_64 (negsuc n) fits = grind (arith, fits)

fits_64 : (number : ℤ) → neg_ℤ (pos (2 ^ 32)) ≤ℤ number → number ≤ℤ pos (2 ^ 32) → FitsSigned w64 number
fits_64 (pos n) low high = grind (arith, low, high)
fits_64 (negsuc n) low high = grind (arith, low, high)

moved_between : (start moved : ℤ) → fits_cell start ≡ true → fits_cell (start +ℤ moved) ≡ true → FitsSigned w64 moved
moved_between start moved first value =
    let from = cell_bounds start first in
    let to = cell_bounds (start +ℤ moved) value in
    fits_64 moved (omega (arith, ints, from.1, to.0)) (omega (arith, ints, from.0, to.1))

module _ (start step : ℤ) (count at : ℕ) (numbers : AreLoopNumbers start count step) (before : at < count) where
  pub at_below : at < 2 ^ 63
  at_below = omega (arith, before, numbers.few)

  pub at_fits : FitsSigned w64 (pos at)
  at_fits = grind (arith, before, numbers.few)

  pub moved_fits : FitsSigned w64 (pos at *ℤ step)
  moved_fits = moved_between start (pos at *ℤ step) numbers.first (numbers.values at before)

  pub sum_fits : FitsSigned w64 (start +ℤ (pos at *ℤ step))
  sum_fits = cell_fits_64 (start +ℤ (pos at *ℤ step)) (numbers.values at before)

  pub value_fits : FitsSigned w32 (start +ℤ (pos at *ℤ step))
  value_fits = cell_fits_32 (start +ℤ (pos at *ℤ step)) (numbers.values at before)
