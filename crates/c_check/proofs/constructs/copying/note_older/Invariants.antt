use Rattle.std.proofs.Common.{◌≡◌, ◌++◌, List, reverse, take}
use Rattle.c_check.specs.Around.{numbered}
use Rattle.c_check.specs.Copies.{AreCopies}
use Rattle.c_check.specs.Rules.{is_some_copy}
use Rattle.c_check.specs.Shares.{TaskCopy, copies_around, shared_by_rule}
use Rattle.c_check.proofs.constructs.copying.note_older.Given as goal

-- what is found of the outer constructs, as far as they were looked at
abbrev pub invariant-loop-number : goal.invariant-loop-number
invariant-loop-number l = record {
  by_rule : l.found.by_rule ≡ shared_by_rule (numbered l.older (reverse (take l.number-index l.numbers))) l.of_file l.slot;
  copied : l.found.copied ≡ is_some_copy (copies_around (numbered l.older (reverse (take l.number-index l.numbers))) l.of_file l.slot);
  noted : (before : List TaskCopy) → AreCopies before l.fn.copies → AreCopies (before ++ copies_around (numbered l.older (reverse (take l.number-index l.numbers))) l.of_file l.slot) l.copies;
}
