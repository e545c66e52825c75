use Rattle.std.proofs.Common.{◌≡◌, length, arith}
use Rattle.c_syntax.proofs.Table.{length-trees}
use Rattle.c_syntax.proofs.nodes.Nodes.len.Goals as goal

pub returns : goal.returns
returns c =
    let count : length c.args.self.now ≡ length c.self.inside.nodes.items = length-trees _ _ _ _ c.self.view_is in
    omega arith
