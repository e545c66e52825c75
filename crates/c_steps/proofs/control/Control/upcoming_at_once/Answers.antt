use Rattle.std.proofs.Common.{◌≡◌, Some, slice_get, rules}
use Rattle.c_steps.specs.declared.frame.Frame.TheVariants.{One}
use Rattle.c_steps.proofs.AtOnce.{told_if}
use Rattle.c_steps.proofs.control.Control.upcoming_at_once.Goals as goal

pub returns-in-Some-One : goal.returns-in-Some-One
returns-in-Some-One c program view =
    let top : Some (One c.in-Some-One.item) ≡ slice_get c.args.self.now.frames 0 = search rules in
    told_if program view c.in-Some-One.item c.item_tells.result c.args.self.now.frames top (c.item_tells.ensures program)
