use Rattle.std.proofs.Common.{◌≡◌, length, sym, ap, arith}
use Rattle.c_syntax.specs.language.Tree.{text_of}
use Rattle.c_syntax.proofs.Table.{length-trees, stands_at}
use Rattle.c_syntax.proofs.nodes.Nodes.text.Goals as goal

pub index-requires : goal.index-requires
index-requires c =
    let count : length c.args.self.now ≡ length c.self.inside.nodes.items = length-trees _ _ _ _ c.self.view_is in
    omega arith

pub slice_bounds-result-count : goal.slice_bounds-result-count
slice_bounds-result-count c =
    let at = stands_at _ _ _ _ _ _ c.self.view_is c.self.invariant c.requires c.index.ensures in
    at.is.text_start

pub slice_bounds-result-start : goal.slice_bounds-result-start
slice_bounds-result-start c =
    let at = stands_at _ _ _ _ _ _ c.self.view_is c.self.invariant c.requires c.index.ensures in
    at.is.text_start

pub slice_bounds-result-end : goal.slice_bounds-result-end
slice_bounds-result-end c =
    let at = stands_at _ _ _ _ _ _ c.self.view_is c.self.invariant c.requires c.index.ensures in
    rw c.deref.ensures.value at.is.text_end

pub returns : goal.returns
returns c =
    let at = stands_at _ _ _ _ _ _ c.self.view_is c.self.invariant c.requires c.index.ensures in
    rw c.deref.ensures.value (sym (ap text_of at.tree))
