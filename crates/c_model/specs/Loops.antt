-- The loop of a `for` directive (OpenMP 5.2, 4.4.1 and 11.5): `for (i = a; i R b; s)`. How many iterations it has, and the value of its variable
-- in each, are computed without overflow.
use Rattle.std.specs.Prelude.{ℕ, ◌+◌, ◌-◌, ◌/◌, Bool, true, false, ℤ, pos, negsuc, ◌+ℤ◌, ◌-ℤ◌, ◌*ℤ◌, nat_abs, unwrap_or}
use Rattle.c_syntax.specs.declared.node.BinaryOp.{BinaryOp}
use Rattle.c_syntax.specs.declared.node.BinaryOp.TheVariants as binary
use Rattle.c_syntax.specs.declared.node.NodeKind.{NodeKind}
use Rattle.c_syntax.specs.declared.node.NodeKind.TheVariants as node
use Rattle.c_syntax.specs.language.Tree.{Tree, kind_of, nothing}
use Rattle.c_check.specs.LoopParts.{LoopParts, loop_parts}

-- where a construct shares out no loop all parts are missing: it would go from 0 up to 0, without an iteration
abbrev pub no_loop : LoopParts
no_loop = record { variable = nothing; start = nothing; end = nothing; body = nothing; comparison = binary.Less; step = pos 1 }

-- the parts of the loop that a construct shares out
abbrev pub loop_of : Tree → LoopParts
loop_of construct = unwrap_or (loop_parts construct) no_loop

-- a loop that declares its variable has its name there, and one that assigns it the place
abbrev pub is_declared : NodeKind → Bool
is_declared node.Name = true
is_declared other = false

abbrev pub declares_variable : Tree → Bool
declares_variable construct = is_declared (kind_of (loop_of construct).variable)

-- how far a number is above another one; 0 where it isn't above
abbrev pub positive_part : ℤ → ℕ
positive_part (pos n) = n
positive_part (negsuc n) = 0

abbrev pub distance : ℤ → ℤ → ℕ
distance from to = positive_part (to -ℤ from)

-- how often a step of this size goes into a distance, where a part counts as a whole
abbrev pub steps_in : ℕ → ℕ → ℕ
steps_in distance size = (distance + (size - 1)) / size

abbrev pub count_by : BinaryOp → ℤ → ℤ → ℕ → ℕ
count_by binary.Less start end size = steps_in (distance start end) size
count_by binary.LessEqual start end size = steps_in (distance start (end +ℤ pos 1)) size
count_by binary.Greater start end size = steps_in (distance end start) size
count_by binary.GreaterEqual start end size = steps_in (distance (end -ℤ pos 1) start) size
count_by other start end size = 0

-- how many iterations there are, where the variable starts with one number and the test has the other one
abbrev pub iteration_count : Tree → ℤ → ℤ → ℕ
iteration_count construct start end = count_by (loop_of construct).comparison start end (nat_abs (loop_of construct).step)

-- the value of the variable in an iteration, counted from 0
abbrev pub iteration_value : ℤ → ℤ → ℕ → ℤ
iteration_value start step iteration = start +ℤ (pos iteration *ℤ step)
