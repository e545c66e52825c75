use Rattle.std.proofs.Common.{ℕ, ◌≡◌, ◌≤◌, ◌-◌, List, ◌++◌, length, take, drop, sym, ap, ◌∙◌, arith, length-append, length-drop, take_all, drop-drop, take-append-drop}
use Rattle.std.proofs.lemmas.List.{length-take-le, take-append-le}
use Rattle.run_edges.proofs.pure_source.PureSourceSource.read.Goals as goal

-- a buffer that begins with the first n bytes that were left
Front-given : (left copied after : List ℕ) (n : ℕ) → n ≤ length left → copied ≡ take n left
    → (n ≤ length (copied ++ after)) × (left ≡ take n (copied ++ after) ++ drop n left)
Front-given left copied after n within same =
    let len : length copied ≡ n = ap length same ∙ length-take-le n left within in
    let front : take n (copied ++ after) ≡ take n left =
    take-append-le n copied after (omega arith) ∙ take_all n copied (omega arith) ∙ same in
    (omega (arith, length-append copied after), sym (ap (λ l. l ++ drop n left) front ∙ take-append-drop n left))

pub returns-clause-gives : goal.returns-clause-gives
returns-clause-gives c =
    let given = c.self.inside.given in
    let items = c.self.inside.bytes.items in
    let count = c.min-count.result in
    let whole : take (length c.deref.result.now - given) (drop given c.deref.result.now) ≡ drop given items =
    take_all _ _ (omega (arith, length-drop given c.deref.result.now)) ∙ ap (drop given) c.deref.ensures.value in
    let within : count ≤ length (drop given items) = omega (arith, rw whole at c.min-count.ensures) in
    let front = Front-given (drop given items) _ (drop count c.args.buf.now) count within (rw whole at c.copy_from_slice.ensures.after) in
    (omega arith, front.0, rw (← c.self.view_is, ← drop-drop count given items) front.1)
