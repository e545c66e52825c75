use Rattle.std.proofs.Common.{◌∷◌, ℕ, BTreeMap, subst, sym}
use Rattle.tool_tasks.specs.Holding.{HoldsBegun, HoldsEnded, HoldsJoined, HoldsRegionsOf}
use Rattle.tool_tasks.proofs.chain_tasks.ChainTasks.learn.Goals as goal

pub returns : goal.returns
returns c = λ past holds. record {
  regions = subst (λ (map : BTreeMap ℕ ℕ). HoldsRegionsOf map (c.args.event.now ∷ past)) (sym c.wait.ensures.regions) (c.in_ok-make.ensures.regions past holds.regions);
  joined = subst (λ (map : BTreeMap ℕ ℕ). HoldsJoined map (c.args.event.now ∷ past)) (sym c.wait.ensures.joined) (c.in_ok-make.ensures.joined past holds.joined);
  begun = c.in_ok-wait.ensures.begun past (subst (λ (map : BTreeMap ℕ ℕ). HoldsBegun map past) (sym c.make.ensures.begun) holds.begun);
  ended = c.in_ok-wait.ensures.ended past (subst (λ (map : BTreeMap ℕ ℕ). HoldsEnded map past) (sym c.make.ensures.ended) holds.ended);
}
