use Rattle.std.proofs.Common.{pos, refl, sym, ◌∙◌, arith}
use Rattle.std.proofs.lemmas.List.{length-replicate}
use Rattle.c_steps.proofs.Counting.{numbers_before}
use Rattle.c_steps.proofs.copies.fill_copy.Goals as goal

pub push_copies-requires : goal.push_copies-requires
push_copies-requires c =
    let room = rw c.in-Private.is at c.requires.room in
    omega (arith, room, length-replicate c.args.entry.size (pos 0))

pub push_range-requires : goal.push_range-requires
push_range-requires c =
    let room = rw c.in-First.is at c.requires.room in
    rw (c.cells_made-size.ensures, numbers_before c.args.entry.first c.args.entry.size c.args.count c.args.cells.now.cells) room

pub returns-in-Private-clause-size : goal.returns-in-Private-clause-size
returns-in-Private-clause-size c = rw c.in-Private.is (sym (length-replicate c.args.entry.size (pos 0)))

pub returns-in-First-clause-cells : goal.returns-in-First-clause-cells
returns-in-First-clause-cells c =
    c.push_range.ensures
    ∙ rw (c.in-First.is, c.cells_made-size.ensures, numbers_before c.args.entry.first c.args.entry.size c.args.count c.args.cells.now.cells) refl
