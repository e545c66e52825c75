use Rattle.std.proofs.Common.{◌≡◌, ◌∙◌, ap, arith, refl, sym}
use Rattle.std.specs.Str.Parse.{ExplainsUnsignedError, HasUnsignedDigitsIfOk, ParsesUnsigned}
use Rattle.std.proofs.lemmas.Bool.{le-leb}
use Rattle.ompt_words.proofs.Numbers.{kept_number, number_read}
use Rattle.ompt_words.proofs.read_words.blocks_in.Goals as goal

pub returns-in-Some : goal.returns-in-Some
returns-in-Some c =
    let read = number_read (λ text read. ParsesUnsigned 16 10 text read × ExplainsUnsignedError 10 text read × HasUnsignedDigitsIfOk text read) 16 1 400 1 (λ text read gives. gives.0) (omega arith) (omega arith) _ c.get_one.result c.get_one.ensures.none c.get_one.ensures.value in
    let kept : kept_number 1 400 1 c.get_one.result ≡ c.in-Some.blocks = rw (c.in-Some.is, le-leb 1 c.in-Some.blocks c.if-blocks-ge1.true, le-leb c.in-Some.blocks 400 c.if-blocks-le400.true) refl in
    sym kept ∙ read

pub returns-in_default-3 : goal.returns-in_default-3
returns-in_default-3 c =
    let read = number_read (λ text read. ParsesUnsigned 16 10 text read × ExplainsUnsignedError 10 text read × HasUnsignedDigitsIfOk text read) 16 1 400 1 (λ text read gives. gives.0) (omega arith) (omega arith) _ c.get_one.result c.get_one.ensures.none c.get_one.ensures.value in
    ap (kept_number 1 400 1) (sym c.in_default.is) ∙ read
