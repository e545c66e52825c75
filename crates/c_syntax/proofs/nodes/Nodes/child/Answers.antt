use Rattle.std.proofs.Common.{◌≡◌, ◌≤◌, length, None, arith}
use Rattle.c_syntax.proofs.Table.{length-trees, stands_at, child-at, child-before, child-fits}
use Rattle.c_syntax.proofs.nodes.Nodes.child.Goals as goal

pub index-requires : goal.index-requires
index-requires c =
    let count : length c.args.self.now ≡ length c.self.inside.nodes.items = length-trees _ _ _ _ c.self.view_is in
    omega arith

pub offset_bounds-deref-span : goal.offset_bounds-deref-span
offset_bounds-deref-span c =
    let at = stands_at _ _ _ _ _ _ c.self.view_is c.self.invariant c.requires c.index.ensures in
    let start : c.index.result.now.children.start ≤ c.index.result.now.children.end = at.is.children_start in
    let end : c.index.result.now.children.end ≤ length c.deref.result.now = rw c.deref.ensures.value at.is.children_end in
    omega (arith, c.deref.type_inv.1)

pub slice_bounds-children-count : goal.slice_bounds-children-count
slice_bounds-children-count c =
    let at = stands_at _ _ _ _ _ _ c.self.view_is c.self.invariant c.requires c.index.ensures in
    at.is.children_start

pub slice_bounds-children-start : goal.slice_bounds-children-start
slice_bounds-children-start c =
    let at = stands_at _ _ _ _ _ _ c.self.view_is c.self.invariant c.requires c.index.ensures in
    at.is.children_start

pub slice_bounds-children-end : goal.slice_bounds-children-end
slice_bounds-children-end c =
    let at = stands_at _ _ _ _ _ _ c.self.view_is c.self.invariant c.requires c.index.ensures in
    rw c.deref.ensures.value at.is.children_end

pub returns-in-Some : goal.returns-in-Some
returns-in-Some c =
    let at = stands_at _ _ _ _ _ _ c.self.view_is c.self.invariant c.requires c.index.ensures in
    let found = rw c.deref.ensures.value at c.in-Some.ensures.lookup.3 in
    record {
      child = child-at _ _ _ _ _ _ _ at (found.1 None);
      before = child-before _ _ _ _ _ _ _ at found.0 (found.1 None);
      fits = child-fits _ _ _ _ _ _ _ at found.0;
    }

pub returns-in-None-clause-child : goal.returns-in-None-clause-child
returns-in-None-clause-child c =
    let at = stands_at _ _ _ _ _ _ c.self.view_is c.self.invariant c.requires c.index.ensures in
    let found = rw c.deref.ensures.value at c.in-None.ensures.lookup.4 in
    child-at _ _ _ _ _ _ None at (found (omega arith) None)
