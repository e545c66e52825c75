use Rattle.std.proofs.Common.{◌≡◌, ◌∙◌, ◌&&◌, true, ℕ, Bool, Bor, [], ◌∷◌, sym, ap}
use Rattle.std.specs.List.{list_all}
use Rattle.std.proofs.lemmas.List.Folds.{list_all-append, list_all-map}
use Rattle.std.proofs.lemmas.Iterator.Adapters.{YieldsList-from_rev_slice}
use Rattle.std.proofs.lemmas.Iterator.Consumers.{YieldsList-end}
use Rattle.task_pool.specs.Allowed.{descends, parent_of}
use Rattle.task_pool.specs.Links.{tasks_of}
use Rattle.task_pool.specs.Walking.{reaches}
use Rattle.task_pool.proofs.Ancestors.{descends-by, reaches-through, list_all-reverse}
use Rattle.task_pool.proofs.pool.descends_from_all.Goals as goal
use Rattle.task_pool.proofs.pool.descends_from_all.Goals.{else-ancestor-from-via-then-ancestor-from+else-not-descends, else-ancestor-from-via-else-ancestor-from}

pub loop-from-preserved : goal.loop-from-preserved
loop-from-preserved c =
    let on : reaches (tasks_of c.args.chain.now) (parent_of (tasks_of c.args.chain.now) c.args.task) c.ancestor_within-ancestor.result ≡ true =
    reaches-through (tasks_of c.args.chain.now) (parent_of (tasks_of c.args.chain.now) c.args.task) c.loop-from.ancestor c.ancestor_within-ancestor.result c.requires.order.parents c.loop-from.invariant.on_the_way c.ancestor_within-ancestor.ensures.on_the_way in
    let met : descends (tasks_of c.args.chain.now) c.args.task c.in-Some.from.now ≡ true = elim c.else-ancestor-from.branch [
      | else-ancestor-from-via-then-ancestor-from+else-not-descends w ↦ sym w.descends.ensures ∙ w.if-not-descends.false
      | else-ancestor-from-via-else-ancestor-from w ↦ descends-by (tasks_of c.args.chain.now) c.args.task c.ancestor_within-ancestor.result c.in-Some.from.now c.requires.order.parents c.requires.made on w.if-ancestor-from.false
    ] in
    record {
      on_the_way = on;
      met = list_all-append (λ (from : Bor ℕ). descends (tasks_of c.args.chain.now) c.args.task from.now) c.loop-from.yielded (c.in-Some.from ∷ []) ∙
          (ap (λ (before : Bool). before && (descends (tasks_of c.args.chain.now) c.args.task c.in-Some.from.now && true)) c.loop-from.invariant.met ∙ ap (λ (here : Bool). here && true) met);
    }

pub returns : goal.returns
returns c =
    let all = YieldsList-end (YieldsList-from_rev_slice c.args.held.now (cc)) c.loop-from.yielded _ c.loop-from.yielded_by _ _ c.in-None.is c.next.ensures.steps in
    let test : ℕ → Bool = descends (tasks_of c.args.chain.now) c.args.task in
    sym c.loop-from.invariant.met ∙ (sym (list_all-map test (λ (from : Bor ℕ). from.now) c.loop-from.yielded) ∙ (ap (list_all test) all.0 ∙ list_all-reverse test c.args.held.now))
