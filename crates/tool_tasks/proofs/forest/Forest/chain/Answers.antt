use Rattle.std.proofs.Common.{◌≡◌, ℕ, ◌++◌, List, length, reverse, sym, ◌∙◌, ap, subst}
use Rattle.std.proofs.lemmas.List.{length-reverse, reverse-reverse}
use Rattle.ompt_calls.specs.declared.event.EventRecord.{EventRecord}
use Rattle.tool_tasks.specs.declared.reaches.Link.{Link}
use Rattle.tool_tasks.specs.Holding.{IsBack, walked}
use Rattle.tool_tasks.specs.Span.{IsChain, IsSpan}
use Rattle.tool_tasks.proofs.forest.Forest.chain.Goals as goal
use Rattle.tool_tasks.proofs.Longest.{is_span}
use Rattle.tool_tasks.proofs.Walks.{turned}

pub returns-clause-chain : goal.returns-clause-chain
returns-clause-chain c = λ events forest.
    let links : List Link = c.args.self.now.chains.links.items in
    let n : ℕ = c.args.self.now.chains.longest.length in
    let last : ℕ = c.args.self.now.chains.longest.link in
    let walked_is : c.reverse.new.self.items ≡ reverse (walked links n last) =
    c.reverse.ensures.items ∙ ap reverse (c.in_ok-walk_back.ensures ∙ (ap (λ (front : List ℕ). front ++ walked c.as_slice.result.now n last) c.new-chain.ensures.items
    ∙ ap (λ (all : List Link). walked all n last) c.as_slice.ensures.value)) in
    subst (IsChain events) (sym walked_is) (turned events (walked links n last)
    (subst (λ (all : List EventRecord). IsBack all (walked links n last)) (reverse-reverse events) forest.holds.walk.is_back))

pub returns-clause-longest : goal.returns-clause-longest
returns-clause-longest c = λ events forest.
    let links : List Link = c.args.self.now.chains.links.items in
    let n : ℕ = c.args.self.now.chains.longest.length in
    let last : ℕ = c.args.self.now.chains.longest.link in
    let walked_is : c.reverse.new.self.items ≡ reverse (walked links n last) =
    c.reverse.ensures.items ∙ ap reverse (c.in_ok-walk_back.ensures ∙ (ap (λ (front : List ℕ). front ++ walked c.as_slice.result.now n last) c.new-chain.ensures.items
    ∙ ap (λ (all : List Link). walked all n last) c.as_slice.ensures.value)) in
    subst (IsSpan events)
    (sym (ap (length {A = ℕ}) walked_is ∙ (length-reverse (walked links n last) ∙ (forest.holds.walk.length_is ∙ forest.holds.span))))
    (is_span events forest.rising)
