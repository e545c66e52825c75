use Rattle.std.proofs.Common.{List, ℕ, subst, sym}
use Rattle.std.specs.List.{prefix_len}
use Rattle.c_tokens.specs.language.Bytes.{is_gap}
use Rattle.c_tokens.specs.workings.Tails.{IsEndOf}
use Rattle.c_tokens.proofs.Ends.{IfSome-end, IsEndOf-drop}
use Rattle.c_tokens.proofs.hash_line.next_word.Goals as goal

pub returns-clause-end : goal.returns-clause-end
returns-clause-end c =
    let P : List ℕ → Type 0 = λ middle. IsEndOf c.args.bytes.now middle in
    let behind = subst P (sym c.past.ensures) (IsEndOf-drop (prefix_len is_gap c.args.bytes.now) c.args.bytes.now) in
    IfSome-end c.args.bytes.now c.past.result.now c.after.result behind c.after.ensures.end
