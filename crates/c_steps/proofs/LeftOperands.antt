-- Chains of operators from their ends: one more below, and a chain in two parts.
use Rattle.std.proofs.Common.{ℕ, zero, suc, ◌≡◌, ◌<◌, ◌≤◌, ◌+◌, ◌-◌, Option, Some, Result, ℤ, unwrap_or, refl, ap, sym, ◌∙◌, add-one, arith}
use Rattle.std.specs.Option.{option_map}
use Rattle.c_syntax.specs.declared.node.NodeKind.TheVariants as node
use Rattle.c_syntax.specs.declared.node.BinaryOp.{BinaryOp}
use Rattle.c_syntax.specs.language.Tree.{Tree, child_of, kind_of, nothing}
use Rattle.c_check.specs.Loops.{child_at}
use Rattle.c_model.specs.Value.{Scope, binary_value, operand_value, value}
use Rattle.c_steps.specs.Chains.{IsChain, IsLeftOf, left_below}
use Rattle.c_steps.proofs.Values.{value_is}

left_at : (tree left : Tree) → IsLeftOf tree left → child_at tree 0 ≡ left
left_at tree left is = ap (λ (found : Option Tree). unwrap_or found nothing) is.left_is

more : (levels : ℕ) (tree left : Tree) → IsChain levels tree → IsLeftOf (left_below levels tree) left → IsChain (suc levels) tree
more zero tree left chain is = (rw (left_at tree left is) is, tt)
more (suc levels) tree left chain is = (chain.0, more levels (child_at tree 0) left chain.1 is)

below : (levels : ℕ) (tree left : Tree) → IsLeftOf (left_below levels tree) left → left ≡ left_below (suc levels) tree
below zero tree left is = sym (left_at tree left is)
below (suc levels) tree left is = below levels (child_at tree 0) left is

-- a chain with its lowest operand's left operand is one longer
pub chain_more : (levels : ℕ) (tree lowest left : Tree) → IsChain levels tree → lowest ≡ left_below levels tree → IsLeftOf lowest left → IsChain (levels + 1) tree
chain_more levels tree lowest left chain is left_is = rw add-one (more levels tree left chain (rw (sym is) left_is))

pub below_more : (levels : ℕ) (tree lowest left : Tree) → lowest ≡ left_below levels tree → IsLeftOf lowest left → left ≡ left_below (levels + 1) tree
below_more levels tree lowest left is left_is = rw add-one (below levels tree left (rw (sym is) left_is))

at_level : (levels level : ℕ) (tree : Tree) → IsChain levels tree → level < levels → IsLeftOf (left_below level tree) (left_below (suc level) tree)
at_level zero level tree chain less = absurd (omega (arith, less))
at_level (suc levels) zero tree chain less = chain.0
at_level (suc levels) (suc level) tree chain less = at_level levels level (child_at tree 0) chain.1 (omega (arith, less))

-- an operand above the lowest has a left operand: the next one
pub next_below : (levels level : ℕ) (tree at : Tree) → IsChain levels tree → level < levels → at ≡ left_below level tree →
    child_of at 0 ≡ Some (left_below (level + 1) tree)
next_below levels level tree at chain less is = rw (add-one, is) (at_level levels level tree chain less).left_is

-- the number of an operator by that of its left operand
pub joined_is : (scope : Scope) (tree left : Tree) (operator : BinaryOp) → kind_of tree ≡ node.Binary operator → child_of tree 0 ≡ Some left →
    value scope tree ≡ binary_value operator (value scope left) (operand_value (option_map (value scope) (child_of tree 1)))
joined_is scope tree left operator kind_is left_is =
    value_is scope tree ∙ rw (kind_is, left_is) refl

-- an operator above a chain
pub chain_left : (levels : ℕ) (tree left : Tree) (operator : BinaryOp) → kind_of tree ≡ node.Binary operator → Some left ≡ child_of tree 0 → IsChain levels left →
    IsChain (levels + 1) tree
chain_left levels tree left operator kind_is left_is chain =
    let is : IsLeftOf tree left = record { operator = operator; kind_is = kind_is; left_is = sym left_is } in
    rw (add-one, left_at tree left is) (is, chain)

pub below_left : (levels : ℕ) (tree left : Tree) → Some left ≡ child_of tree 0 → left_below (levels + 1) tree ≡ left_below levels left
below_left levels tree left left_is =
    rw add-one (ap (λ (found : Option Tree). left_below levels (unwrap_or found nothing)) (sym left_is))

-- a chain in two parts
pub upper_half : (levels upper : ℕ) (tree : Tree) → upper ≤ levels → IsChain levels tree → IsChain upper tree
upper_half levels zero tree less chain = tt
upper_half zero (suc upper) tree less chain = absurd (omega (arith, less))
upper_half (suc levels) (suc upper) tree less chain = (chain.0, upper_half levels upper (child_at tree 0) (omega (arith, less)) chain.1)

pub lower_half : (levels upper : ℕ) (tree : Tree) → upper ≤ levels → IsChain levels tree → IsChain (levels - upper) (left_below upper tree)
lower_half levels zero tree less chain = let whole : levels - 0 ≡ levels = omega arith in rw whole chain
lower_half zero (suc upper) tree less chain = absurd (omega (arith, less))
lower_half (suc levels) (suc upper) tree less chain =
    let one : suc levels - suc upper ≡ levels - upper = omega arith in
    rw one (lower_half levels upper (child_at tree 0) (omega (arith, less)) chain.1)

pub lower_below : (levels upper : ℕ) (tree : Tree) → upper ≤ levels → left_below (levels - upper) (left_below upper tree) ≡ left_below levels tree
lower_below levels zero tree less = let whole : levels - 0 ≡ levels = omega arith in rw whole refl
lower_below zero (suc upper) tree less = absurd (omega (arith, less))
lower_below (suc levels) (suc upper) tree less =
    let one : suc levels - suc upper ≡ levels - upper = omega arith in
    rw one (lower_below levels upper (child_at tree 0) (omega (arith, less)))

-- a chain of one operator
pub one_joined : (scope : Scope) (tree : Tree) (operator : BinaryOp) (left result : Result ℤ ℕ) → IsChain 1 tree → kind_of tree ≡ node.Binary operator →
    left ≡ value scope (left_below 1 tree) → result ≡ binary_value operator left (operand_value (option_map (value scope) (child_of tree 1))) →
    result ≡ value scope tree
one_joined scope tree operator left result chain kind_is left_is is =
    is ∙ rw left_is (sym (joined_is scope tree (child_at tree 0) operator kind_is chain.0.left_is))

-- a chain begins with an operator
pub one_operator : (tree : Tree) → IsChain 1 tree → (operator : BinaryOp) × (kind_of tree ≡ node.Binary operator)
one_operator tree chain = (chain.0.operator, chain.0.kind_is)

pub ruleset left_values_cases = (chain_left, below_left)

pub ruleset halves_cases = (lower_half, upper_half, lower_below, one_joined)
