use Rattle.std.proofs.Common.{◌+◌, ◌*◌}
use Rattle.c_steps.proofs.scope.Scope.+values.Given as goal

-- a child has a smaller number, and a chain is no longer than its node's number
abbrev pub decreases-node_value : goal.decreases-node_value
decreases-node_value l = 8589934592 * l.node + 8589934591

abbrev pub decreases-binary : goal.decreases-binary
decreases-binary l = 8589934592 * l.node + 8589934590

abbrev pub decreases-chain_value : goal.decreases-chain_value
decreases-chain_value l = 8589934592 * l.node + l.levels + 1

abbrev pub decreases-node_cell : goal.decreases-node_cell
decreases-node_cell l = 8589934592 * l.node + 2

abbrev pub decreases-joined : goal.decreases-joined
decreases-joined l = 8589934592 * l.node + 1

abbrev pub decreases-operand : goal.decreases-operand
decreases-operand l = 8589934592 * l.node
