use Rattle.std.proofs.Common.{◌≡◌, ℕ, List, [], ◌∷◌, ◌++◌, ◌∙◌, append_assoc}
use Rattle.std.specs.Prelude.{string_bytes}
use Rattle.std.specs.Fmt.{decimal}
use Rattle.std.proofs.lemmas.Result.{IfOk-weaker}
use Rattle.ompt_calls.specs.Line.{spaced}
use Rattle.tool_tasks.proofs.text.task_line.Goals as goal

joined : (a k kind p e : List ℕ) → k ≡ kind → a ++ (32 ∷ (k ++ (32 ∷ (p ++ (32 ∷ (e ++ 10 ∷ [])))))) ≡ spaced (a ∷ kind ∷ p ∷ e ∷ []) ++ 10 ∷ []
joined a k kind p e same = rw same (simp append_assoc)

pub returns : goal.returns
returns c = IfOk-weaker c.format.result _ _ (λ line is.
    let told : string_bytes line ≡ decimal c.args.node.now.identity ++ (32 ∷ (c.kind_text-kind.result.now ++ (32 ∷ (decimal c.args.node.now.parent ++ (32 ∷ (decimal c.args.node.now.events ++ 10 ∷ [])))))) = is in
    told ∙ joined _ _ _ _ _ c.kind_text-kind.ensures) c.format.ensures.ok
