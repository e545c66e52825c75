use Rattle.std.proofs.Common.{◌≡◌, ◌^◌, ◌∙◌, bit_or, sym}
use Rattle.omp_codes.specs.Answers.{answer_of}
use Rattle.tool_api.proofs.Bits.{registered}
use Rattle.tool_api.proofs.Registering.{always-set}
use Rattle.tool_api.proofs.registrar.Registrar.set.Goals as goal

pub returns-then-answer-eq-ALWAYS-clause-registers : goal.returns-then-answer-eq-ALWAYS-clause-registers
returns-then-answer-eq-ALWAYS-clause-registers c = λ other.
    rw (c.bit.ensures, ← c.self.view_is) (registered c.self.inside.mask c.args.number other (sym c.set_answer-answer.ensures ∙ c.if-answer-eq-ALWAYS.true))

pub invariant_of-self : goal.invariant_of-self
invariant_of-self c =
    let mask = c.self.inside.mask in
    let number = c.args.number in
    let always : answer_of number ≡ 5 = sym c.set_answer-answer.ensures ∙ c.if-answer-eq-ALWAYS.true in
    rw c.bit.ensures (always-set mask (bit_or mask (2 ^ number)) number always (λ other. registered mask number other always) c.self.invariant)
