use Rattle.ompt_cli.specs.declared.end.Refusal.TheVariants.{Rule, Syntax, Tokens}
use Rattle.ompt_cli.proofs.Reading.{broken-by, ends-refused, read-as, spells-by}
use Rattle.ompt_cli.proofs.text.program_of.Goals as goal

pub returns-in_default-clause-ended : goal.returns-in_default-clause-ended
returns-in_default-clause-ended c = ends-refused c.args.text.now (Tokens c.in-Err.fault) (c.requires, c.in-Err.ensures.ended c.in_default.not-Memory)

pub returns-in_default-fault-clause-ended : goal.returns-in_default-fault-clause-ended
returns-in_default-fault-clause-ended c = ends-refused c.args.text.now (Syntax c.in-Err-read_program.fault) (c.requires, c.in-Err-read_program.ensures.fault c.in_default-fault.not-Memory)

pub returns-in-Ok-check-clause-program : goal.returns-in-Ok-check-clause-program
returns-in-Ok-check-clause-program c =
    let read = rw c.deref.ensures.value at c.in-Ok-read_program.ensures in
    let is = read-as c.args.text.now c.in-Ok.tokens.items c.in-Ok-read_program.tree c.in-Ok.ensures.read c.in-Ok.ensures.tokens read.tree read.end read.main in
    spells-by c.args.text.now c.in-Ok-read_program.tree is c.requires _ c.in-Ok-check.ensures.tree c.in-Ok-check.ensures.unbroken

pub returns-clause-ended : goal.returns-clause-ended
returns-clause-ended c =
    let read = rw c.deref.ensures.value at c.in-Ok-read_program.ensures in
    let is = read-as c.args.text.now c.in-Ok.tokens.items c.in-Ok-read_program.tree c.in-Ok.ensures.read c.in-Ok.ensures.tokens read.tree read.end read.main in
    ends-refused c.args.text.now (Rule c.in-Err-check.fault) (broken-by c.args.text.now c.in-Ok-read_program.tree is c.requires c.in-Err-check.fault (c.in-Err-check.ensures.fault c.in_default-fault-2.not-Memory))
