use Rattle.std.proofs.Common.{◌≡◌, ◌+◌, ◌∷◌, ◌∙◌, ℕ, Option, ap, is_some, subst, sym}
use Rattle.std.specs.BTreeMap.{BTreeMap}
use Rattle.tool_tasks.specs.declared.stacks.Stacks.{Stacks}
use Rattle.tool_tasks.specs.Charge.{charged_task, one_if}
use Rattle.tool_tasks.specs.Holding.{HoldsRegions, HoldsStacks}
use Rattle.tool_tasks.proofs.forest_builder.ForestBuilder.learn.Goals as goal

pub returns-clause-charged : goal.returns-clause-charged
returns-clause-charged c = λ past builds.
    c.in_ok-charged.ensures.charged past
    (subst (λ (stacks : Stacks). HoldsStacks stacks past) (sym c.in_ok-make.ensures.stacks) builds.stacks)

pub returns-clause-learned : goal.returns-clause-learned
returns-clause-learned c = λ past builds unbroken keeps.
    let event = c.args.event.now in
    let stacks = subst (λ (stacks : Stacks). HoldsStacks stacks past) (sym c.in_ok-make.ensures.stacks) builds.stacks in
    let charged : c.in_ok-charged.charged ≡ charged_task past event = c.in_ok-charged.ensures.charged past stacks in
    record {
      stacks =
          subst (λ (stacks : Stacks). HoldsStacks stacks (event ∷ past)) (sym c.in_ok-count.ensures.stacks)
          (c.in_ok-charged.ensures.taken past stacks);
      regions =
          subst (λ (regions : BTreeMap ℕ ℕ). HoldsRegions regions (event ∷ past)) (sym c.in_ok-count.ensures.regions)
          (c.in_ok-make.ensures.regions past builds.regions);
      nodes =
          c.in_ok-count.ensures.nodes past event charged
          (c.in_ok-make.ensures.nodes past builds.regions builds.nodes unbroken keeps);
      work =
          c.in_ok-count.ensures.work
          ∙ ap (λ (task : Option ℕ). c.make.new.self.work + one_if (is_some task)) charged
          ∙ ap (λ (work : ℕ). work + one_if (is_some (charged_task past event))) (c.in_ok-make.ensures.work ∙ builds.work);
    }
