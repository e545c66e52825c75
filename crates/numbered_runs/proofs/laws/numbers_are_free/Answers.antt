use Rattle.numbered_runs.proofs.Histories.{same_cause, same_legal}
use Rattle.numbered_runs.proofs.laws.numbers_are_free.Goals as goal

pub returns : goal.returns
returns c = λ run other history alike legal. (same_legal run other alike history legal, same_cause run other alike history)
