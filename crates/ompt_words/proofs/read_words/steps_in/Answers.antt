use Rattle.std.proofs.Common.{◌≡◌, ◌∙◌, ap, arith, refl, sym}
use Rattle.std.specs.Str.Parse.{ExplainsUnsignedError, HasUnsignedDigitsIfOk, ParsesUnsigned}
use Rattle.std.proofs.lemmas.Bool.{le-leb}
use Rattle.ompt_words.specs.Form.{default_steps}
use Rattle.ompt_words.proofs.Numbers.{kept_number, number_read}
use Rattle.ompt_words.proofs.read_words.steps_in.Goals as goal

pub returns-in-Some-clause-value : goal.returns-in-Some-clause-value
returns-in-Some-clause-value c =
    let read = number_read (λ text read. ParsesUnsigned 32 10 text read × ExplainsUnsignedError 10 text read × HasUnsignedDigitsIfOk text read) 32 1 30000000 default_steps (λ text read gives. gives.0) (omega arith) (omega arith) _ c.get_one.result c.get_one.ensures.none c.get_one.ensures.value in
    let kept : kept_number 1 30000000 default_steps c.get_one.result ≡ c.in-Some.steps = rw (c.in-Some.is, le-leb 1 c.in-Some.steps c.if-steps-ge1.true, le-leb c.in-Some.steps 30000000 c.if-steps-le30000000.true) refl in
    sym kept ∙ read

pub returns-in_default-3-clause-value : goal.returns-in_default-3-clause-value
returns-in_default-3-clause-value c =
    let read = number_read (λ text read. ParsesUnsigned 32 10 text read × ExplainsUnsignedError 10 text read × HasUnsignedDigitsIfOk text read) 32 1 30000000 default_steps (λ text read gives. gives.0) (omega arith) (omega arith) _ c.get_one.result c.get_one.ensures.none c.get_one.ensures.value in
    ap (kept_number 1 30000000 default_steps) (sym c.in_default.is) ∙ read
