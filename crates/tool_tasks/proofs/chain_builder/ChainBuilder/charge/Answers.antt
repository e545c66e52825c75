use Rattle.std.proofs.Common.{refl, ◌≡◌, ◌∷◌, ◌+◌, ℕ, BTreeMap, Some, sym, ◌∙◌, ap, subst}
use Rattle.tool_tasks.specs.declared.key.Key.TheVariants.{Next}
use Rattle.tool_tasks.specs.declared.reaches.Reach.{Reach}
use Rattle.tool_tasks.specs.Charge.{charged_task, charges_of}
use Rattle.tool_tasks.specs.Holding.{GivesAll}
use Rattle.tool_tasks.proofs.chain_builder.ChainBuilder.charge.Goals as goal
use Rattle.tool_tasks.proofs.Giving.{charge_more, still}
use Rattle.tool_tasks.proofs.Charging.{after_links}

pub returns-in_default-clause-reaches : goal.returns-in_default-clause-reaches
returns-in_default-clause-reaches c = λ past chains charged nodes unbroken keeps. still c.args.self.now.reaches past c.args.event.now (sym c.in_default.is ∙ charged) chains.reaches

pub returns-clause-reaches : goal.returns-clause-reaches
returns-clause-reaches c = λ past chains charged nodes unbroken keeps.
    let is : charged_task past c.args.event.now ≡ Some c.in-Some.task = sym charged ∙ c.in-Some.is in
    let count_is : c.events_of-count.result ≡ charges_of c.in-Some.task past + 1 =
    c.events_of-count.ensures (c.args.event.now ∷ past) nodes (keeps, unbroken) ∙ charge_more past c.args.event.now c.in-Some.task is in
    after_links c.args.self.now.reaches c.add.new.self c.give_all.new.self past c.args.event.now c.in-Some.task c.events_of-count.result
    c.next_taken-next.result c.taken_keys-taken.result c.given_keys-given.result c.in_ok-reach.reach
    (record {
      charged = is;
      count_is = count_is;
      next_is = c.next_taken-next.ensures (charges_of c.in-Some.task past) count_is;
      taken_is = c.taken_keys-taken.ensures past chains.tasks;
      given_is = c.given_keys-given.ensures past chains.tasks nodes unbroken keeps;
      length_is = c.in_ok-reach.ensures.length;
      next_short = c.in_ok-reach.ensures.next_short;
      first_short = c.in_ok-reach.ensures.first_short;
      second_short = c.in_ok-reach.ensures.second_short;
      gives = subst (λ (bests : BTreeMap ℕ Reach). GivesAll bests c.give_all.new.self.bests (Next c.in-Some.task c.events_of-count.result) c.given_keys-given.result c.in_ok-reach.reach.length)
          c.in_ok-reach.ensures.bests c.in_ok-give_all.ensures.gives;
      short = c.in_ok-give_all.ensures.short;
      greatest = ap (λ (reach : Reach). reach.length) c.in_ok-give_all.ensures.greatest ∙ c.in_ok-reach.ensures.greatest;
    })
    (record {
      adds = c.in_ok-reach.ensures.adds;
      bests = c.in_ok-reach.ensures.bests;
      links = rw c.in_ok-give_all.ensures.links refl;
      greatest = c.in_ok-give_all.ensures.greatest;
      ends = c.in_ok-give_all.ensures.ends;
    })
    chains.reaches
