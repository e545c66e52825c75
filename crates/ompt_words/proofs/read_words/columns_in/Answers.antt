use Rattle.std.proofs.Common.{◌≡◌, ◌∙◌, ap, arith, refl, sym}
use Rattle.std.specs.Str.Parse.{ExplainsUnsignedError, HasUnsignedDigitsIfOk, ParsesUnsigned}
use Rattle.std.proofs.lemmas.Bool.{le-leb}
use Rattle.ompt_words.specs.Form.{default_columns}
use Rattle.ompt_words.proofs.Numbers.{kept_number, number_read}
use Rattle.ompt_words.proofs.read_words.columns_in.Goals as goal

pub returns-in-Some : goal.returns-in-Some
returns-in-Some c =
    let read = number_read (λ text read. ParsesUnsigned 8 10 text read × ExplainsUnsignedError 10 text read × HasUnsignedDigitsIfOk text read) 8 10 200 default_columns (λ text read gives. gives.0) (omega arith) (omega arith) _ c.get_one.result c.get_one.ensures.none c.get_one.ensures.value in
    let kept : kept_number 10 200 default_columns c.get_one.result ≡ c.in-Some.columns = rw (c.in-Some.is, le-leb 10 c.in-Some.columns c.if-columns-ge10.true, le-leb c.in-Some.columns 200 c.if-columns-le200.true) refl in
    sym kept ∙ read

pub returns-in_default-3 : goal.returns-in_default-3
returns-in_default-3 c =
    let read = number_read (λ text read. ParsesUnsigned 8 10 text read × ExplainsUnsignedError 10 text read × HasUnsignedDigitsIfOk text read) 8 10 200 default_columns (λ text read gives. gives.0) (omega arith) (omega arith) _ c.get_one.result c.get_one.ensures.none c.get_one.ensures.value in
    ap (kept_number 10 200 default_columns) (sym c.in_default.is) ∙ read
