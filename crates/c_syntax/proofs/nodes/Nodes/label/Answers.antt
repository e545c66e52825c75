use Rattle.std.proofs.Common.{◌≡◌, length, sym, ap, arith}
use Rattle.c_syntax.specs.language.Tree.{kind_of, spot_of, name_of, number_of}
use Rattle.c_syntax.proofs.Table.{length-trees, stands_at}
use Rattle.c_syntax.proofs.nodes.Nodes.label.Goals as goal

pub index-requires : goal.index-requires
index-requires c =
    let count : length c.args.self.now ≡ length c.self.inside.nodes.items = length-trees _ _ _ _ c.self.view_is in
    omega arith

pub returns : goal.returns
returns c =
    let at = stands_at _ _ _ _ _ _ c.self.view_is c.self.invariant c.requires c.index.ensures in
    record {
      kind = sym (ap kind_of at.tree);
      spot = sym (ap spot_of at.tree);
      name = sym (ap name_of at.tree);
      number = sym (ap number_of at.tree);
      few = at.is.value;
    }
