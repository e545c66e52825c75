use Rattle.work_laws.proofs.Sizes.{dealt-as-written}
use Rattle.work_laws.proofs.laws.chunks_have_a_size.Goals as goal

pub returns : goal.returns
returns c = λ run history t steps codeptr count start step how construct checked formed is.
    dealt-as-written run history t steps codeptr count start step how construct checked formed is
