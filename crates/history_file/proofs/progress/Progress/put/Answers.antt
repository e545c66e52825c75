use Rattle.std.proofs.Common.{◌≡◌, ℕ, ◌+◌, List, Option, None, Some, slice_index_or, slice_set, refl, sym, ap, ◌∙◌}
use Rattle.history_file.specs.declared.waiting.Waiting.{Waiting}
use Rattle.history_file.proofs.Progressing.{store_allowed, takes_put}
use Rattle.history_file.proofs.progress.Progress.put.Goals as goal

-- what is known of the thread that was looked up
slot : (waiting : List (Option Waiting)) (t found : ℕ) (inside : Waiting) → found ≡ t → slice_index_or waiting found None ≡ Some inside → slice_index_or waiting t None ≡ Some inside
slot waiting t found inside same is = ap (λ (k : ℕ). slice_index_or waiting k None) (sym same) ∙ is

pub put-requires : goal.put-requires
put-requires c =
    let own = c.args.self.now in
    store_allowed own c.requires.at.0 c.requires.at.1 c.args.thread c.args.target c.args.word c.in-Some.inside
    (slot own.waiting c.args.thread c.from.result c.in-Some.inside c.from.ensures c.in-Some.is)
    (sym c.may_store.ensures ∙ c.if-not-may_store.false) (sym c.made.ensures ∙ c.if-not-made.false)

pub returns : goal.returns
returns c =
    let own = c.args.self.now in
    let is = slot own.waiting c.args.thread c.from.result c.in-Some.inside c.from.ensures c.in-Some.is in
    let later : Waiting = record { stores = c.in-Some.inside.stores + 1; told = c.in-Some.inside.told } in
    takes_put own _ c.args.thread c.args.target c.args.word c.in-Some.inside c.requires.thread is
    (store_allowed own c.requires.at.0 c.requires.at.1 c.args.thread c.args.target c.args.word c.in-Some.inside is
    (sym c.may_store.ensures ∙ c.if-not-may_store.false) (sym c.made.ensures ∙ c.if-not-made.false))
    c.put.ensures (ap (λ (k : ℕ). slice_set own.waiting k (Some later)) c.from-2.ensures) refl refl
