-- What an expression traps with is one of three numbers.
use Rattle.std.specs.Prelude.{ℕ, zero, suc, if◌then◌else◌, Bool, true, false, List, [], ◌∷◌, Option, Some, None, Result, Ok, Err, ℤ, pos, negsuc}
use Rattle.std.proofs.Common.{arith}
use Rattle.c_syntax.specs.declared.node.BinaryOp.{BinaryOp}
use Rattle.c_syntax.specs.declared.node.BinaryOp.TheVariants as binary
use Rattle.c_syntax.specs.declared.node.UnaryOp.{UnaryOp}
use Rattle.c_syntax.specs.declared.node.UnaryOp.TheVariants as unary
use Rattle.c_syntax.specs.declared.node.NodeKind.{NodeKind}
use Rattle.c_syntax.specs.declared.node.NodeKind.TheVariants as node
use Rattle.c_syntax.specs.language.Tree.{Tree, Children, name_of}
use Rattle.c_syntax.specs.language.Tree.Tree.{Node}
use Rattle.c_syntax.specs.language.Tree.Children.{Over, Child, Absent}
use Rattle.c_check.specs.Loops.{child_at}
use Rattle.c_model.specs.Parts.{has_child}
use Rattle.c_model.specs.declared.entry.Entry.{Entry}
use Rattle.c_model.specs.Cells.{entry_of}
use Rattle.c_model.specs.Value.{Scope, all_values, binary_result, binary_value, cell_of, deciding_value, element, index_of, node_value, operand_value, place_cell, unary_value, value, value_at, value_before, value_of_cell, value_unless, values, with_right}
use Rattle.c_model.specs.TrapsAndLimits.{IsTrap}

unfoldable pub IsKnownResult : {A : Type 0} → Result A ℕ → Type 0
IsKnownResult (Ok result) = Unit {0}
IsKnownResult (Err trap) = IsTrap trap

pub known-ok : {A : Type 0} (result : A) → IsKnownResult {A = A} (Ok result)
unfolding IsKnownResult
known-ok result = tt

pub known-err : (A : Type 0) (trap : ℕ) → IsTrap trap → IsKnownResult {A = A} (Err trap)
unfolding IsKnownResult
known-err A trap is = is

pub known-choice : {A : Type 0} (choice : Bool) (one other : Result A ℕ) → IsKnownResult one → IsKnownResult other → IsKnownResult (if choice then one else other)
known-choice true one other first second = first
known-choice false one other first second = second

-- a trap is one of what gave it
recast : (A B : Type 0) (trap : ℕ) → IsKnownResult {A = A} (Err trap) → IsKnownResult {A = B} (Err trap)
unfolding IsKnownResult
recast A B trap is = is

pub overflow : IsTrap 1
overflow = (omega arith, omega arith)

zero-divide : IsTrap 2
zero-divide = (omega arith, omega arith)

index : IsTrap 3
index = (omega arith, omega arith)

ruleset known = (known-ok, known-err, known-choice, overflow, zero-divide, index)

known-binary : (operator : BinaryOp) (a b : ℤ) → IsKnownResult (binary_result operator a b)
known-binary binary.Or a b = known-ok _
known-binary binary.And a b = known-ok _
known-binary binary.Equal a b = known-ok _
known-binary binary.NotEqual a b = known-ok _
known-binary binary.Less a b = known-ok _
known-binary binary.LessEqual a b = known-ok _
known-binary binary.Greater a b = known-ok _
known-binary binary.GreaterEqual a b = known-ok _
known-binary binary.Add a b = search known
known-binary binary.Subtract a b = search known
known-binary binary.Multiply a b = search known
known-binary binary.Divide a b = search known
known-binary binary.Remainder a b = search known

known-right : (operator : BinaryOp) (a : ℤ) (right : Result ℤ ℕ) → IsKnownResult right → IsKnownResult (with_right operator a right)
known-right operator a (Ok b) is = known-binary operator a b
known-right operator a (Err trap) is = is

known-unless : (decided : Option ℤ) (operator : BinaryOp) (a : ℤ) (right : Result ℤ ℕ) → IsKnownResult right → IsKnownResult (value_unless decided operator a right)
known-unless None operator a right is = known-right operator a right is
known-unless (Some z) operator a right is = known-ok z

pub known-both : (operator : BinaryOp) (left right : Result ℤ ℕ) → IsKnownResult left → IsKnownResult right → IsKnownResult (binary_value operator left right)
known-both operator (Ok a) right is also = known-unless (deciding_value operator a) operator a right also
known-both operator (Err trap) right is also = is

known-unary : (operator : UnaryOp) (operand : Result ℤ ℕ) → IsKnownResult operand → IsKnownResult (unary_value operator operand)
known-unary unary.Negate (Ok a) is = search known
known-unary unary.Not (Ok a) is = known-ok _
known-unary operator (Err trap) is = is

-- of what may be missing
abbrev IsKnownIfAny : Option (Result ℤ ℕ) → Type 0
IsKnownIfAny None = Unit {0}
IsKnownIfAny (Some result) = IsKnownResult result

known-element : (entry : Entry) (number : ℤ) → IsKnownResult (element entry number)
known-element entry (pos number) = search known
known-element entry (negsuc number) = search known

known-place : (entry : Entry) (number : Option (Result ℤ ℕ)) → IsKnownIfAny number → IsKnownResult (place_cell entry number)
known-place entry None is = known-ok _
known-place entry (Some (Ok number)) is = known-element entry number
known-place entry (Some (Err trap)) is = recast ℤ ℕ trap is

known-cell : (cells : List ℤ) (cell : Result ℕ ℕ) → IsKnownResult cell → IsKnownResult (value_of_cell cells cell)
known-cell cells (Ok cell) is = known-ok _
known-cell cells (Err trap) is = recast ℕ ℤ trap is

known-operand : (operand : Option (Result ℤ ℕ)) → IsKnownIfAny operand → IsKnownResult (operand_value operand)
known-operand None is = known-ok _
known-operand (Some result) is = is

known-node : (scope : Scope) (kind : NodeKind) (name number : ℕ) (first second : Option (Result ℤ ℕ)) → IsKnownIfAny first → IsKnownIfAny second → IsKnownResult (node_value scope kind name number first second)
known-node scope node.Number name number first second is also = known-ok _
known-node scope node.Place name number first second is also = known-cell scope.cells (place_cell (entry_of scope.env name) first) (known-place (entry_of scope.env name) first is)
known-node scope node.Paren name number first second is also = known-operand first is
known-node scope (node.Getter which) name number first second is also = known-ok _
known-node scope (node.Unary operator) name number first second is also = known-unary operator (operand_value first) (known-operand first is)
known-node scope (node.Binary operator) name number first second is also = known-both operator (operand_value first) (operand_value second) (known-operand first is) (known-operand second also)
known-node scope other name number first second is also = known-ok _

abbrev AreKnown : List (Option (Result ℤ ℕ)) → Type 0
AreKnown [] = Unit {0}
AreKnown (first ∷ rest) = IsKnownIfAny first × AreKnown rest

known-at : (results : List (Option (Result ℤ ℕ))) (place : ℕ) → AreKnown results → IsKnownIfAny (value_at results place)
known-at [] place are = tt
known-at (first ∷ rest) zero are = are.0
known-at (first ∷ rest) (suc place) are = known-at rest place are.1

mutual
  unfolding value values

  pub known-value : (scope : Scope) (tree : Tree) → IsKnownResult (value scope tree)
  known-value scope (Node kind spot name number text children) =
      known-node scope kind name number (value_at (values scope children) 0) (value_at (values scope children) 1)
      (known-at (values scope children) 0 (known-values scope children)) (known-at (values scope children) 1 (known-values scope children))

  pub known-values : (scope : Scope) (children : Children) → AreKnown (values scope children)
  known-values scope Over = tt
  known-values scope (Absent rest) = (tt, known-values scope rest)
  known-values scope (Child tree rest) = (known-value scope tree, known-values scope rest)

known-before : (first : Result ℤ ℕ) (rest : Result (List ℤ) ℕ) → IsKnownResult first → IsKnownResult rest → IsKnownResult (value_before first rest)
known-before (Err trap) rest is also = recast ℤ (List ℤ) trap is
known-before (Ok first) (Err trap) is also = also
known-before (Ok first) (Ok rest) is also = known-ok _

pub known-all : (scope : Scope) (trees : List Tree) → IsKnownResult (all_values scope trees)
unfolding all_values
known-all scope [] = known-ok _
known-all scope (tree ∷ trees) = known-before (value scope tree) (all_values scope trees) (known-value scope tree) (known-all scope trees)

known-index : (scope : Scope) (place : Tree) (has : Bool) → IsKnownIfAny (if has then Some (value scope (child_at place 0)) else None)
known-index scope place true = known-value scope (child_at place 0)
known-index scope place false = tt

pub known-cell-of : (scope : Scope) (place : Tree) → IsKnownResult (cell_of scope place)
known-cell-of scope place = known-place (entry_of scope.env (name_of place)) (index_of scope place) (known-index scope place (has_child place 0))
