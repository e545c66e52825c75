-- The most names from here on: never fewer than now, and with more names now never fewer.
use Rattle.std.specs.Prelude.{ℕ, ◌+◌, ◌≤◌, max, min, List, [], ◌∷◌}
use Rattle.std.proofs.Common.{arith}
use Rattle.c_syntax.specs.language.Numbered.{TreeView}
use Rattle.c_syntax.specs.language.Tree.{kind_of}
use Rattle.c_model.specs.Task.{Item}
use Rattle.c_model.specs.Task.Item.{Start, Declare, Leave, Test, Third, Initialise, Return, FallOff, Forked, Inside, MakeCells, NextChunk, Iterations, NextSection, Combine, EndWork, EndMasked, Sync, Acquire, Release, TestLock, Tested}
use Rattle.c_model.specs.Width.{most_behind, most_names, own_names}

least-behind : (program : TreeView) (names : ℕ) (item : Item) (next : ℕ → ℕ) → ((some : ℕ) → some ≤ next some) → names ≤ most_behind program names item next
least-behind program names (Start tree) next each = omega arith
least-behind program names (Declare tree) next each = omega (arith, each (names + 1))
least-behind program names (Leave stay) next each = omega arith
least-behind program names (Test tree stay) next each = omega arith
least-behind program names (Third tree stay) next each = omega arith
least-behind program names (Initialise tree entry) next each = omega (arith, each (names + 1))
least-behind program names (Return number) next each = each names
least-behind program names FallOff next each = each names
least-behind program names (Forked construct) next each = omega arith
least-behind program names (Inside construct) next each = omega arith
least-behind program names (MakeCells construct) next each = omega (arith, each (names + own_names program (kind_of construct) construct))
least-behind program names (NextChunk loop) next each = omega arith
least-behind program names (Iterations loop at upto) next each = omega arith
least-behind program names (NextSection construct stay) next each = omega arith
least-behind program names (Combine operator name around) next each = each names
least-behind program names (EndWork construct kind count stay) next each = omega arith
least-behind program names (EndMasked construct) next each = each names
least-behind program names (Sync tree kind stage) next each = each names
least-behind program names (Acquire tree kind id) next each = each names
least-behind program names (Release tree id) next each = each names
least-behind program names (TestLock tree id to) next each = each names
least-behind program names (Tested to) next each = each names

pub least : (program : TreeView) (items : List Item) (names : ℕ) → names ≤ most_names program items names
unfolding most_names
least program [] names = omega arith
least program (item ∷ items) names = least-behind program names item (most_names program items) (least program items)

-- what is between an end with some names and one with more of them, whatever comes behind
grows-max : (some more inner stay : ℕ) (next : ℕ → ℕ) → some ≤ more → ((one other : ℕ) → one ≤ other → next one ≤ next other) → max (some + inner) (next (min stay some)) ≤ max (more + inner) (next (min stay more))
grows-max some more inner stay next fewer each = omega (arith, each (min stay some) (min stay more) (omega arith))

grows-behind : (program : TreeView) (some more : ℕ) (item : Item) (next : ℕ → ℕ) → some ≤ more → ((one other : ℕ) → one ≤ other → next one ≤ next other) → most_behind program some item next ≤ most_behind program more item next
grows-behind program some more (Start tree) next fewer each = omega (arith, each some more fewer)
grows-behind program some more (Declare tree) next fewer each = each (some + 1) (more + 1) (omega arith)
grows-behind program some more (Leave stay) next fewer each = omega (arith, each (min stay some) (min stay more) (omega arith))
grows-behind program some more (Test tree stay) next fewer each = grows-max some more _ stay next fewer each
grows-behind program some more (Third tree stay) next fewer each = grows-max some more _ stay next fewer each
grows-behind program some more (Initialise tree entry) next fewer each = each (some + 1) (more + 1) (omega arith)
grows-behind program some more (Return number) next fewer each = each some more fewer
grows-behind program some more FallOff next fewer each = each some more fewer
grows-behind program some more (Forked construct) next fewer each = omega (arith, each some more fewer)
grows-behind program some more (Inside construct) next fewer each = omega (arith, each some more fewer)
grows-behind program some more (MakeCells construct) next fewer each =
    each (some + own_names program (kind_of construct) construct) (more + own_names program (kind_of construct) construct) (omega arith)
grows-behind program some more (NextChunk loop) next fewer each = grows-max some more _ loop.names next fewer each
grows-behind program some more (Iterations loop at upto) next fewer each = grows-max some more _ loop.names next fewer each
grows-behind program some more (NextSection construct stay) next fewer each = grows-max some more _ stay next fewer each
grows-behind program some more (Combine operator name around) next fewer each = each some more fewer
grows-behind program some more (EndWork construct kind count stay) next fewer each =
    omega (arith, each (min stay some) (min stay more) (omega arith))
grows-behind program some more (EndMasked construct) next fewer each = each some more fewer
grows-behind program some more (Sync tree kind stage) next fewer each = each some more fewer
grows-behind program some more (Acquire tree kind id) next fewer each = each some more fewer
grows-behind program some more (Release tree id) next fewer each = each some more fewer
grows-behind program some more (TestLock tree id to) next fewer each = each some more fewer
grows-behind program some more (Tested to) next fewer each = each some more fewer

pub grows : (program : TreeView) (items : List Item) (some more : ℕ) → some ≤ more → most_names program items some ≤ most_names program items more
unfolding most_names
grows program [] some more fewer = fewer
grows program (item ∷ items) some more fewer = grows-behind program some more item (most_names program items) fewer (grows program items)
