-- The number of an expression, or its trap (C11 6.5). Operands are evaluated from left to right, and the first trap counts. An expression
-- changes nothing, so its meaning is put together from those of its parts.
use Rattle.std.specs.Prelude.{ℕ, zero, suc, ◌+◌, nat_lt, if◌then◌else◌, Bool, true, false, not, List, [], ◌∷◌, Option, Some, None, Result, Ok, Err, ℤ, pos, negsuc, ◌+ℤ◌, ◌-ℤ◌, ◌*ℤ◌, neg_ℤ, int_lt, int_le, int_div, int_rem}
use Rattle.c_syntax.specs.declared.node.BinaryOp.{BinaryOp}
use Rattle.c_syntax.specs.declared.node.BinaryOp.TheVariants as binary
use Rattle.c_syntax.specs.declared.node.UnaryOp.{UnaryOp}
use Rattle.c_syntax.specs.declared.node.UnaryOp.TheVariants as unary
use Rattle.c_syntax.specs.declared.node.Getter.{Getter}
use Rattle.c_syntax.specs.declared.node.Getter.TheVariants as getter
use Rattle.c_syntax.specs.declared.node.NodeKind.{NodeKind}
use Rattle.c_syntax.specs.declared.node.NodeKind.TheVariants as node
use Rattle.c_syntax.specs.language.Tree.{Tree, Children, name_of}
use Rattle.c_syntax.specs.language.Tree.Tree.{Node}
use Rattle.c_syntax.specs.language.Tree.Children.{Over, Child, Absent}
use Rattle.c_model.specs.declared.traps.TheConstants.{OVERFLOW, ZERO_DIVIDE, INDEX}
use Rattle.c_model.specs.declared.view.View.{View}
use Rattle.c_check.specs.Loops.{child_at}
use Rattle.c_model.specs.Parts.{has_child}
use Rattle.c_model.specs.declared.entry.Entry.{Entry}
use Rattle.c_model.specs.Cells.{entry_of, cell_at, fits_cell}

-- what an expression is evaluated in
pub record Scope : Type 0 where
  pub env : List Entry
  pub cells : List ℤ
  pub view : View

abbrev pub in_range : ℤ → Result ℤ ℕ
in_range z = if fits_cell z then Ok z else Err OVERFLOW

abbrev pub truth : Bool → ℤ
truth true = pos 1
truth false = pos 0

abbrev pub int_eq : ℤ → ℤ → Bool
int_eq a b = if int_le a b then int_le b a else false

abbrev pub is_zero : ℤ → Bool
is_zero z = int_eq z (pos 0)

-- a division goes toward 0, and the remainder has the sign of the dividend (C11 6.5.5). Where the quotient isn't in range the remainder
-- has no value either
abbrev pub quotient : ℤ → ℤ → Result ℤ ℕ
quotient a b = if is_zero b then Err ZERO_DIVIDE else in_range (int_div a b)

abbrev pub remainder : ℤ → ℤ → Result ℤ ℕ
remainder a b = if is_zero b then Err ZERO_DIVIDE else if fits_cell (int_div a b) then Ok (int_rem a b) else Err OVERFLOW

abbrev pub binary_result : BinaryOp → ℤ → ℤ → Result ℤ ℕ
binary_result binary.Equal a b = Ok (truth (int_eq a b))
binary_result binary.NotEqual a b = Ok (truth (not (int_eq a b)))
binary_result binary.Less a b = Ok (truth (int_lt a b))
binary_result binary.LessEqual a b = Ok (truth (int_le a b))
binary_result binary.Greater a b = Ok (truth (int_lt b a))
binary_result binary.GreaterEqual a b = Ok (truth (int_le b a))
binary_result binary.Add a b = in_range (a +ℤ b)
binary_result binary.Subtract a b = in_range (a -ℤ b)
binary_result binary.Multiply a b = in_range (a *ℤ b)
binary_result binary.Divide a b = quotient a b
binary_result binary.Remainder a b = remainder a b
binary_result binary.Or a b = Ok (truth (not (is_zero b)))
binary_result binary.And a b = Ok (truth (not (is_zero b)))

-- the left operand of `||` and of `&&` may decide, and then the right one isn't looked at
abbrev pub deciding_value : BinaryOp → ℤ → Option ℤ
deciding_value binary.Or a = if is_zero a then None else Some (pos 1)
deciding_value binary.And a = if is_zero a then Some (pos 0) else None
deciding_value other a = None

abbrev pub with_right : BinaryOp → ℤ → Result ℤ ℕ → Result ℤ ℕ
with_right operator a (Err trap) = Err trap
with_right operator a (Ok b) = binary_result operator a b

abbrev pub value_unless : Option ℤ → BinaryOp → ℤ → Result ℤ ℕ → Result ℤ ℕ
value_unless (Some z) operator a right = Ok z
value_unless None operator a right = with_right operator a right

abbrev pub binary_value : BinaryOp → Result ℤ ℕ → Result ℤ ℕ → Result ℤ ℕ
binary_value operator (Err trap) right = Err trap
binary_value operator (Ok a) right = value_unless (deciding_value operator a) operator a right

abbrev pub unary_result : UnaryOp → ℤ → Result ℤ ℕ
unary_result unary.Negate a = in_range (neg_ℤ a)
unary_result unary.Not a = Ok (truth (is_zero a))

abbrev pub unary_value : UnaryOp → Result ℤ ℕ → Result ℤ ℕ
unary_value operator (Err trap) = Err trap
unary_value operator (Ok a) = unary_result operator a

-- the cell of an element
abbrev pub element : Entry → ℤ → Result ℕ ℕ
element entry (pos index) = if nat_lt index entry.size then Ok (entry.first + index) else Err INDEX
element entry (negsuc index) = Err INDEX

-- the cell of a place, by the number of its index, if it has one
abbrev pub place_cell : Entry → Option (Result ℤ ℕ) → Result ℕ ℕ
place_cell entry None = Ok entry.first
place_cell entry (Some (Err trap)) = Err trap
place_cell entry (Some (Ok index)) = element entry index

abbrev pub value_of_cell : List ℤ → Result ℕ ℕ → Result ℤ ℕ
value_of_cell cells (Err trap) = Err trap
value_of_cell cells (Ok cell) = Ok (cell_at cells cell)

-- the routines of threads (OpenMP 5.2, 18.2)
abbrev pub getter_number : Getter → View → ℕ
getter_number getter.ThreadNum view = view.index
getter_number getter.NumThreads view = view.team
getter_number getter.MaxThreads view = view.max

-- an operand that is missing is 0
abbrev pub operand_value : Option (Result ℤ ℕ) → Result ℤ ℕ
operand_value None = Ok (pos 0)
operand_value (Some given) = given

-- the value of a node by those of its first two children
abbrev pub node_value : Scope → NodeKind → ℕ → ℕ → Option (Result ℤ ℕ) → Option (Result ℤ ℕ) → Result ℤ ℕ
node_value scope node.Number name number first second = Ok (pos number)
node_value scope node.Place name number first second = value_of_cell scope.cells (place_cell (entry_of scope.env name) first)
node_value scope node.Paren name number first second = operand_value first
node_value scope (node.Getter which) name number first second = Ok (pos (getter_number which scope.view))
node_value scope (node.Unary operator) name number first second = unary_value operator (operand_value first)
node_value scope (node.Binary operator) name number first second = binary_value operator (operand_value first) (operand_value second)
node_value scope other name number first second = Ok (pos 0)

abbrev pub value_at : List (Option (Result ℤ ℕ)) → ℕ → Option (Result ℤ ℕ)
value_at [] place = None
value_at (first ∷ rest) zero = first
value_at (first ∷ rest) (suc place) = value_at rest place

unfoldable mutual
  pub value : Scope → Tree → Result ℤ ℕ
  value scope (Node kind spot name number text children) =
      node_value scope kind name number (value_at (values scope children) 0) (value_at (values scope children) 1)

  pub values : Scope → Children → List (Option (Result ℤ ℕ))
  values scope Over = []
  values scope (Absent rest) = None ∷ values scope rest
  values scope (Child tree rest) = Some (value scope tree) ∷ values scope rest

-- the values of several expressions from left to right, or the first trap
abbrev pub value_before : Result ℤ ℕ → Result (List ℤ) ℕ → Result (List ℤ) ℕ
value_before (Err trap) rest = Err trap
value_before (Ok first) (Err trap) = Err trap
value_before (Ok first) (Ok rest) = Ok (first ∷ rest)

unfoldable pub all_values : Scope → List Tree → Result (List ℤ) ℕ
all_values scope [] = Ok []
all_values scope (tree ∷ trees) = value_before (value scope tree) (all_values scope trees)

-- the cell of a place that is assigned
abbrev pub index_of : Scope → Tree → Option (Result ℤ ℕ)
index_of scope place = if has_child place 0 then Some (value scope (child_at place 0)) else None

abbrev pub cell_of : Scope → Tree → Result ℕ ℕ
cell_of scope place = place_cell (entry_of scope.env (name_of place)) (index_of scope place)
