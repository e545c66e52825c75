use Rattle.std.proofs.Common.{◌≡◌, ◌≤◌, length, ap, arith}
use Rattle.c_syntax.specs.language.Tree.{children_of}
use Rattle.c_syntax.proofs.Table.{length-trees, stands_at}
use Rattle.c_syntax.proofs.nodes.Nodes.children.Goals as goal

pub index-requires : goal.index-requires
index-requires c =
    let count : length c.args.self.now ≡ length c.self.inside.nodes.items = length-trees _ _ _ _ c.self.view_is in
    omega arith

pub offset_bounds-deref-span : goal.offset_bounds-deref-span
offset_bounds-deref-span c =
    let at = stands_at _ _ _ _ _ _ c.self.view_is c.self.invariant c.requires c.index.ensures in
    let start : c.index.result.now.children.start ≤ c.index.result.now.children.end = at.is.children_start in
    let end : c.index.result.now.children.end ≤ length c.deref.result.now = rw c.deref.ensures.value at.is.children_end in
    omega (arith, c.deref.type_inv.1)

pub slice_bounds-result-count : goal.slice_bounds-result-count
slice_bounds-result-count c =
    let at = stands_at _ _ _ _ _ _ c.self.view_is c.self.invariant c.requires c.index.ensures in
    at.is.children_start

pub slice_bounds-result-start : goal.slice_bounds-result-start
slice_bounds-result-start c =
    let at = stands_at _ _ _ _ _ _ c.self.view_is c.self.invariant c.requires c.index.ensures in
    at.is.children_start

pub slice_bounds-result-end : goal.slice_bounds-result-end
slice_bounds-result-end c =
    let at = stands_at _ _ _ _ _ _ c.self.view_is c.self.invariant c.requires c.index.ensures in
    rw c.deref.ensures.value at.is.children_end

pub returns : goal.returns
returns c =
    let at = stands_at _ _ _ _ _ _ c.self.view_is c.self.invariant c.requires c.index.ensures in
    record {
      children = rw c.deref.ensures.value (ap children_of at.tree);
      before = rw c.deref.ensures.value at.is.below;
    }
