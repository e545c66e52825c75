-- The arguments are of the kinds that the callback's number has.
use Rattle.std.proofs.Common.{ℕ, List, length, sym, ap, ◌∙◌, true≢false}
use Rattle.ompt_calls.specs.declared.argument.Argument.{Argument}
use Rattle.trace_format.specs.Accepting.{kinds_of}
use Rattle.trace_format.proofs.OfKinds.{call-of, of-call, same-length}
use Rattle.trace_format.proofs.arguments.is_call.Goals as goal

pub are_of-requires : goal.are_of-requires
are_of-requires c =
    ap (λ (l : List _). length l) c.kinds_of.ensures
    ∙ ap (λ (number : ℕ). length (kinds_of number)) c.number.ensures
    ∙ same-length c.args.call
    ∙ sym (ap (λ (l : List Argument). length l) (c.as_slice.ensures ∙ c.arguments-arguments.ensures))

pub returns-then-are_of : goal.returns-then-are_of
returns-then-are_of c =
    let are = rw (c.kinds_of.ensures, c.number.ensures, c.as_slice.ensures, c.arguments-arguments.ensures) at c.are_of.ensures in
    let has = c.has_its_iterations.ensures in
    (λ holds. of-call c.args.call (are.0 c.if-are_of.true, has.0 holds), λ is. has.1 (call-of c.args.call is).1)

pub returns-else-are_of : goal.returns-else-are_of
returns-else-are_of c =
    let are = rw (c.kinds_of.ensures, c.number.ensures, c.as_slice.ensures, c.arguments-arguments.ensures) at c.are_of.ensures in
    (λ holds. absurd (true≢false (sym holds ∙ c.if-are_of.false)), λ is. are.1 (call-of c.args.call is).0)
