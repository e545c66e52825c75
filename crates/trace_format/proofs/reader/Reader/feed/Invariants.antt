use Rattle.std.proofs.Common.{◌≡◌, ◌≤◌, ◌++◌, ◌-◌, List, ℕ, length, take, None}
use Rattle.trace_format.specs.declared.item.Item.{Item}
use Rattle.trace_format.specs.Taking.{HasTaken}
use Rattle.trace_format.proofs.reader.Reader.feed.Given as goal

abbrev pub invariant-loop-used : goal.invariant-loop-used
invariant-loop-used l =
    record {
      within : l.used ≤ length l.piece;
      open_still : l.self.refusal ≡ None;
      took : (bytes : List ℕ) (items : List Item) → HasTaken l.fn.self bytes items → HasTaken l.self (bytes ++ take l.used l.piece) items;
    }

abbrev pub decreases-loop-used : goal.decreases-loop-used
decreases-loop-used l = length l.piece - l.used
