-- Values and traps at the edges, and the numbers of iterations of loops.
use Rattle.std.specs.Prelude.{ℕ, ◌-◌, ◌^◌, ◌≡◌, List, [], ◌∷◌, Result, Ok, Err, ℤ, pos, negsuc, refl}
use Rattle.c_syntax.specs.declared.node.BinaryOp.{BinaryOp}
use Rattle.c_syntax.specs.declared.node.BinaryOp.TheVariants as binary
use Rattle.c_syntax.specs.declared.node.Bump.TheVariants as bump
use Rattle.c_syntax.specs.declared.node.Side.TheVariants as side
use Rattle.c_syntax.specs.declared.node.Setting.{Setting}
use Rattle.c_syntax.specs.declared.node.Setting.TheVariants as setting
use Rattle.c_syntax.specs.declared.node.Directive.TheVariants as directive
use Rattle.c_syntax.specs.declared.node.UnaryOp.TheVariants as unary
use Rattle.c_syntax.specs.declared.node.NodeKind.TheVariants as node
use Rattle.c_syntax.specs.language.Tree.{Tree}
use Rattle.std.specs.Fmt.{digits}
use Rattle.c_model.specs.Cells.{last_named}
use Rattle.c_model.specs.Text.{printed_text, text_behind_backslash, text_behind_percent}
use Rattle.c_model.specs.Value.{Scope, value, values}
use Rattle.c_check.specs.Statements.{statement_of}
use Rattle.c_model.specs.Loops.{iteration_count, iteration_value, loop_of}
use Rattle.c_model.proofs.Watching.{alone, binary_of, children, literal, plain, tree, variable}

-- the least and the greatest number, and -1
abbrev least : ℤ
least = negsuc (2 ^ 31 - 1)

abbrev greatest : ℤ
greatest = pos (2 ^ 31 - 1)

-- an array of two, with two numbers on either side
abbrev scope : Scope
scope = record {
  env = record { name = 1; first = 0; size = 1; slot = 0 } ∷ record { name = 2; first = 1; size = 1; slot = 1 } ∷ record { name = 3; first = 2; size = 2; slot = 2 } ∷ [];
  cells = least ∷ negsuc 0 ∷ pos 7 ∷ negsuc 6 ∷ [];
  view = alone;
}

abbrev minus : Tree → Tree
minus operand = plain (node.Unary unary.Negate) (operand ∷ [])

abbrev at_index : ℕ → Tree → Tree
at_index name index = tree node.Place name 0 (index ∷ [])

abbrev all_of : List Tree → List (Result ℤ ℕ)
all_of [] = []
all_of (expression ∷ expressions) = value scope expression ∷ all_of expressions

-- -7 / 2, -7 % 2; the least number by -1, and its remainder, and negated; by 0
divisions :
    all_of (
    binary_of binary.Divide (minus (literal 7)) (literal 2)
    ∷ binary_of binary.Remainder (minus (literal 7)) (literal 2)
    ∷ binary_of binary.Remainder (literal 7) (minus (literal 2))
    ∷ binary_of binary.Divide (variable 1) (variable 2)
    ∷ binary_of binary.Remainder (variable 1) (variable 2)
    ∷ minus (variable 1)
    ∷ binary_of binary.Divide (variable 1) (literal 0)
    ∷ binary_of binary.Remainder (literal 0) (literal 0)
    ∷ [])
    ≡ Ok (negsuc 2) ∷ Ok (negsuc 0) ∷ Ok (pos 1) ∷ Err 1 ∷ Err 1 ∷ Err 1 ∷ Err 2 ∷ Err 2 ∷ []
unfolding value values last_named children
divisions = refl

-- the ends of the range
ranges :
    all_of (
    binary_of binary.Add (literal (2 ^ 31 - 1)) (literal 1)
    ∷ binary_of binary.Subtract (variable 1) (literal 1)
    ∷ binary_of binary.Multiply (variable 1) (variable 2)
    ∷ binary_of binary.Multiply (literal (2 ^ 16)) (minus (literal (2 ^ 15)))
    ∷ [])
    ≡ Err 1 ∷ Err 1 ∷ Err 1 ∷ Ok least ∷ []
unfolding value values last_named children
ranges = refl

-- an index at both ends; the trap of the index, and of the left operand, comes first
indices :
    all_of (
    at_index 3 (literal 0)
    ∷ at_index 3 (literal 1)
    ∷ at_index 3 (literal 2)
    ∷ at_index 3 (variable 2)
    ∷ at_index 3 (binary_of binary.Divide (literal 1) (literal 0))
    ∷ binary_of binary.Add (at_index 3 (literal 9)) (binary_of binary.Divide (literal 1) (literal 0))
    ∷ [])
    ≡ Ok (pos 7) ∷ Ok (negsuc 6) ∷ Err 3 ∷ Err 3 ∷ Err 2 ∷ Err 3 ∷ []
unfolding value values last_named children
indices = refl

-- a left operand that decides, and ones that don't
decisions :
    all_of (
    binary_of binary.And (literal 0) (binary_of binary.Divide (literal 1) (literal 0))
    ∷ binary_of binary.Or (literal 5) (binary_of binary.Divide (literal 1) (literal 0))
    ∷ binary_of binary.And (literal 5) (literal 6)
    ∷ binary_of binary.Or (literal 0) (literal 6)
    ∷ binary_of binary.And (literal 5) (binary_of binary.Divide (literal 1) (literal 0))
    ∷ [])
    ≡ Ok (pos 0) ∷ Ok (pos 1) ∷ Ok (pos 1) ∷ Ok (pos 1) ∷ Err 2 ∷ []
unfolding value values last_named children
decisions = refl

-- for (i = ..; i R ..; third)
abbrev loop_with : BinaryOp → Tree → Tree
loop_with test third =
    plain (node.Construct directive.For) (
    plain node.For (
    plain (node.Assign setting.Plain) (variable 1 ∷ literal 0 ∷ []) ∷ binary_of test (variable 1) (literal 0) ∷ third ∷ plain node.Empty [] ∷ []) ∷ [])

abbrev by : Setting → ℕ → Tree
by which size = plain (node.Assign which) (variable 1 ∷ literal size ∷ [])

-- 0, 3, 6 below 7; 4, 2, 0, -2 down to above -3, and with -4 down to it; none; all numbers
iterations :
    iteration_count (loop_with binary.Less (by setting.Add 3)) (pos 0) (pos 7)
    ∷ iteration_count (loop_with binary.Greater (by setting.Subtract 2)) (pos 4) (negsuc 2)
    ∷ iteration_count (loop_with binary.GreaterEqual (by setting.Subtract 2)) (pos 4) (negsuc 3)
    ∷ iteration_count (loop_with binary.LessEqual (by setting.Add 1)) (pos 4) (pos 3)
    ∷ iteration_count (loop_with binary.LessEqual (plain (node.Bump bump.Increment side.Before) (variable 1 ∷ []))) least greatest
    ∷ []
    ≡ 3 ∷ 4 ∷ 5 ∷ 0 ∷ 2 ^ 32 ∷ []
unfolding statement_of children
iterations = refl

-- the last of the five
last-iteration : iteration_value (pos 4) (loop_of (loop_with binary.GreaterEqual (by setting.Subtract 2))).step 4 ≡ negsuc 3
unfolding statement_of children
last-iteration = refl

-- printf("a%%b %d\t\\\"%d\n", -50, least)
printing :
    printed_text
    (97 ∷ 37 ∷ 37 ∷ 98 ∷ 32 ∷ 37 ∷ 100 ∷ 92 ∷ 116 ∷ 92 ∷ 92 ∷ 92 ∷ 34 ∷ 37 ∷ 100 ∷ 92 ∷ 110 ∷ [])
    (negsuc 49 ∷ least ∷ [])
    ≡ 97 ∷ 37 ∷ 98 ∷ 32 ∷ 45 ∷ 53 ∷ 48 ∷ 9 ∷ 92 ∷ 34 ∷ 45 ∷ 50 ∷ 49 ∷ 52 ∷ 55 ∷ 52 ∷ 56 ∷ 51 ∷ 54 ∷ 52 ∷ 56 ∷ 10 ∷ []
unfolding printed_text text_behind_percent text_behind_backslash digits
printing = refl
