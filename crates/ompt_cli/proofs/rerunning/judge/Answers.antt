use Rattle.std.proofs.Common.{subst}
use Rattle.ompt_cli.{specs.Text.Spells, proofs.Written.certificate-of}
use Rattle.ompt_cli.proofs.rerunning.judge.Goals as goal

pub returns-in-Ok-clause-certified : goal.returns-in-Ok-clause-certified
returns-in-Ok-clause-certified g c = λ certifies.
    let spelled = subst (λ text. Spells text c.in-Ok.program) c.as_slice.ensures c.in-Ok.ensures.program in
    c.judge_program.ensures.certified (certificate-of c.args.file.now certifies.0 c.in-Ok.program certifies.1 spelled certifies.2)
