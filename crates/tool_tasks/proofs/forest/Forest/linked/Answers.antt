use Rattle.std.proofs.Common.{◌≡◌, List, length, sym, ◌∙◌, ap, subst}
use Rattle.std.specs.Prelude.{slice_get}
use Rattle.std.specs.Vec.{with_items}
use Rattle.std.proofs.lemmas.List.{with_items_is}
use Rattle.tool_tasks.specs.declared.forest.TaskNode.{TaskNode}
use Rattle.tool_tasks.specs.Holding.{HoldsLinks, HoldsNodes}
use Rattle.tool_tasks.specs.Tree.{node_from}
use Rattle.tool_tasks.proofs.forest.Forest.linked.Goals as goal
use Rattle.tool_tasks.proofs.Linking.{linked}
use Rattle.tool_tasks.proofs.Makes.{no_zero}

pub returns : goal.returns
returns c = λ past unbroken holds work span walk.
    let links : HoldsLinks c.link_all.new.nodes past 0 =
    c.link_all.ensures past unbroken (subst (λ (all : List TaskNode). HoldsNodes all past past) (sym c.deref_mut.ensures.value) holds) in
    let items : (with_items c.args.nodes c.link_all.new.nodes).items ≡ c.link_all.new.nodes = with_items_is c.args.nodes c.link_all.new.nodes (c.link_all.auto.nodes ∙ c.deref_mut.ensures.len) in
    record {
      nodes = λ place. ap (λ (all : List TaskNode). slice_get all place) items ∙ linked c.link_all.new.nodes past links place;
      count = ap (length {A = TaskNode}) items ∙ links.count;
      none = ap (node_from 0 past) (no_zero past unbroken);
      work = work;
      span = span;
      walk = walk;
    }
