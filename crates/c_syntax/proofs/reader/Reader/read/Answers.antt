use Rattle.std.proofs.Common.{refl}
use Rattle.c_syntax.specs.workings.WordViews.{word_view}
use Rattle.c_syntax.proofs.Facing.{faces-next, refuses-none}
use Rattle.c_syntax.proofs.ReaderSteps.{refused}
use Rattle.c_syntax.proofs.reader.Reader.read.Goals as goal

pub loop-step-init : goal.loop-step-init
loop-step-init c = record { faces = λ before reaches. faces-next reaches (word_view c.args.source.now c.args.word); at = refl }

pub returns-clause-fault : goal.returns-clause-fault
returns-clause-fault c = λ before after reaches.
    refused _ _ _ (c.of.ensures.fault (word_view c.args.source.now c.args.word) refl refl) (refuses-none (c.loop-step.invariant.faces before reaches) c.in_default.ensures.0 after)
