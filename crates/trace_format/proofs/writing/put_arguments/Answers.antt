-- The arguments of a callback stand one after the other behind the other bytes.
use Rattle.std.proofs.Common.{◌≡◌, ◌+◌, ◌≤◌, List, ℕ, ◌++◌, length, take, sym, ap, ◌∙◌, subst, take_all, length-append, arith}
use Rattle.std.proofs.lemmas.List.Elements.{All-more}
use Rattle.std.specs.List.{All}
use Rattle.ompt_calls.specs.declared.argument.Argument.{Argument}
use Rattle.ompt_calls.specs.Arguments.{arguments_of}
use Rattle.trace_format.specs.Fitting.{FitsArgument}
use Rattle.trace_format.proofs.Lengths.{arguments_short}
use Rattle.trace_format.proofs.Putting.{no_argument, put, put-behind, put-within}
use Rattle.trace_format.proofs.writing.put_arguments.Goals as goal

pub argument-requires : goal.argument-requires
argument-requires c =
    let items = c.as_slice-argument-items.result.now in
    let are : items ≡ arguments_of c.args.call.now = c.as_slice-argument-items.ensures ∙ c.arguments-arguments.ensures in
    let within = put-within items c.loop-argument.argument-index no_argument c.loop-argument-test.true in
    let whole : length (put items) ≤ 48 = subst (λ (all : List Argument). length (put all) ≤ 48) (sym are) (arguments_short c.args.call.now) in
    let so_far : length c.loop-argument.piece ≡ length c.args.piece.now + length (put (take c.loop-argument.argument-index items)) =
    ap (λ (bytes : List ℕ). length bytes) c.loop-argument.invariant.bytes ∙ length-append c.args.piece.now (put (take c.loop-argument.argument-index items)) in
    omega (arith, within, whole, so_far, c.requires)

pub loop-argument-preserved : goal.loop-argument-preserved
loop-argument-preserved c = record {
  bytes =
      put-behind _ _ _ c.as_slice-argument-items.result.now c.loop-argument.argument-index no_argument c.loop-argument-test.true
      c.loop-argument.invariant.bytes c.argument.ensures.bytes;
  fits = All-more FitsArgument _ _ no_argument c.loop-argument-test.true c.loop-argument.invariant.fits c.argument.ensures.fits;
}

pub returns-clause-bytes : goal.returns-clause-bytes
returns-clause-bytes c =
    let items = c.as_slice-argument-items.result.now in
    let are : items ≡ arguments_of c.args.call.now = c.as_slice-argument-items.ensures ∙ c.arguments-arguments.ensures in
    c.loop-argument.invariant.bytes
    ∙ ap (λ (all : List Argument). c.args.piece.now ++ put all) (take_all c.loop-argument.argument-index items c.loop-argument-test.false ∙ are)

pub returns-clause-fits : goal.returns-clause-fits
returns-clause-fits c =
    let items = c.as_slice-argument-items.result.now in
    let are : items ≡ arguments_of c.args.call.now = c.as_slice-argument-items.ensures ∙ c.arguments-arguments.ensures in
    subst (All FitsArgument) (take_all c.loop-argument.argument-index items c.loop-argument-test.false ∙ are) c.loop-argument.invariant.fits
