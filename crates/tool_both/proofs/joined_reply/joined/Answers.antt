use Rattle.std.proofs.Common.{◌≡◌, [], refl}
use Rattle.std.proofs.Common.{append-nil}
use Rattle.ompt_calls.specs.Snapshot.{stores_of}
use Rattle.tool_both.specs.BothStores.{counting_stores}
use Rattle.tool_both.proofs.joined_reply.joined.Goals as goal

pub returns : goal.returns
returns c =
    let snapshot = c.args.snapshot.now in
    let later : stores_of c.with_all_before-later.result snapshot ≡ counting_stores (stores_of c.args.second snapshot) = rw append-nil at (c.with_all_before-later.ensures.counts [] refl) in
    c.with_all_before.ensures.counts (stores_of c.args.second snapshot) later
