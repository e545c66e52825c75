use Rattle.std.proofs.Common.{◌≡◌, ℕ, [], ap, ap₂, map, rules, ◌∷◌, ◌++◌, ◌∙◌}
use Rattle.std.proofs.lemmas.List.{flat_map_more}
use Rattle.std.proofs.Output.{has_written_append, has_written_of_eq}
use Rattle.std.specs.List.{flat_map}
use Rattle.std.specs.Iterator.Adapters.{zip_first, zip_second}
use Rattle.std.specs.Slice.Iter.{iter_rest}
use Rattle.ompt_calls.specs.Arguments.{arguments_of}
use Rattle.ompt_calls.specs.Line.{spaced}
use Rattle.trace_format.specs.Validity.{kinds_of}
use Rattle.trace_view.specs.NamedLines.{named_arguments}
use Rattle.trace_view.specs.declared.named_call.Naming.{Naming}
use Rattle.trace_view.specs.Naming.{each_named, named_argument}
use Rattle.trace_view.proofs.Naming.{all_gone, by_kinds, pair_text, spaced_is, spaced_pair}
use Rattle.trace_view.proofs.named_call.NamedCallDisplay.fmt.Goals as goal

pub returns-clause-writes : goal.returns-clause-writes
returns-clause-writes g c = λ plain ok.
    let one = c.in_ok-write.ensures.writes plain (search rules) in
    let from = c.into_iter-kind-iterator.ensures.into_iter_gives in
    let first = ap (λ at. iter_rest (zip_first at)) from ∙ (ap iter_rest c.zip-kind-items.ensures.first ∙ (c.iter-kinds.ensures.rest ∙ c.kinds_of.ensures)) in
    let second = ap (λ at. iter_rest (zip_second at)) from ∙ (c.zip-kind-items.ensures.second.0 ∙ (c.as_slice.ensures ∙ c.arguments.ensures)) in
    let all : map pair_text c.loop-kind.yielded ≡ named_arguments c.args.self.now.call =
    all_gone _ _ c.loop-kind.yielded _ c.loop-kind.kind-iterator c.next.new.self c.next.result first second
    c.loop-kind.yielded_by c.in-None.is c.next.ensures.steps
    ∙ (ap (λ (number : ℕ). each_named (kinds_of number) (arguments_of c.args.self.now.call)) c.number.ensures ∙ by_kinds c.args.self.now.call) in
    has_written_of_eq _ _ _ _ _
    (spaced_is c.name.result.now c.loop-kind.yielded ∙ ap₂ (λ name parts. spaced (name ∷ parts)) c.name.ensures all)
    (has_written_append _ _ _ _ _ _ one (c.loop-kind.invariant one.plain))

pub loop-kind-preserved : goal.loop-kind-preserved
loop-kind-preserved g c = λ plain.
    let so_far = c.loop-kind.invariant plain in
    has_written_of_eq _ _ _ _ _
    (ap (λ (naming : Naming). flat_map spaced_pair c.loop-kind.yielded ++ (32 ∷ named_argument naming c.in-Some.argument.now)) c.naming_of-naming.ensures
    ∙ flat_map_more spaced_pair [] c.loop-kind.yielded _)
    (has_written_append _ _ _ _ _ _ so_far (c.in_ok-write-2.ensures.writes so_far.plain (search rules)))
