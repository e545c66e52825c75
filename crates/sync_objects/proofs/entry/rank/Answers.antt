use Rattle.std.proofs.Common.{◌≡◌, ◌<◌, ℕ, ◌-◌, length, List, nat_lt, slice_index_or, arith, sym, rules, tests}
use Rattle.std.specs.List.Sorted.{IsPartitionedBy}
use Rattle.std.proofs.Common.{lt-ltb}
use Rattle.std.proofs.lemmas.Bool.{ltb-true, ltb-false}
use Rattle.std.proofs.lemmas.Option.{slice_get_within, get_or_from_slice_get}
use Rattle.std.proofs.lemmas.List.Sorted.{IsPartitionPoint-from_clause}
use Rattle.sync_objects.specs.declared.entry.Entry.{Entry}
use Rattle.sync_objects.specs.Places.{IsRising}
use Rattle.sync_objects.proofs.Places.{rank-point, rank-last}
use Rattle.sync_objects.proofs.Rising.{rising-before}
use Rattle.sync_objects.proofs.entry.rank.Goals as goal

pub returns-in-Some-clause-rank : goal.returns-in-Some-clause-rank
returns-in-Some-clause-rank c =
    let there = sym c.in-Some.ensures.value in
    let within = slice_get_within c.args.entries.now (length c.args.entries.now - 1) c.in-Some.last.now there in
    let some : 0 < length c.args.entries.now = omega (arith, within) in
    let is : slice_index_or c.args.entries.now (length c.args.entries.now - 1) c.in-Some.last.now ≡ c.in-Some.last.now = get_or_from_slice_get c.args.entries.now (length c.args.entries.now - 1) c.in-Some.last.now c.in-Some.last.now there in
    rank-last c.args.entries.now c.args.id c.in-Some.last.now c.requires some is c.if-last-id.true

-- lower ones come first
parted : (entries : List Entry) (id : ℕ) → IsRising entries → IsPartitionedBy (λ (entry : Entry). nat_lt entry.id id) entries
parted entries id rising = λ i j d less within lower. lt-ltb (slice_index_or entries i d).id id (rising-before entries id j i d rising less within (ltb-true (slice_index_or entries j d).id id lower))

pub returns-in_default-clause-rank : goal.returns-in_default-clause-rank
returns-in_default-clause-rank c =
    let point = IsPartitionPoint-from_clause (λ (entry : Entry). nat_lt entry.id c.args.id) c.args.entries.now c.partition_point.result c.partition_point.ensures.partitioned (parted c.args.entries.now c.args.id c.requires) (λ a r f' called. search (rules, tests)) in
    rank-point c.args.entries.now c.args.id c.partition_point.result c.partition_point.ensures.bound
    (λ k d less. ltb-true (slice_index_or c.args.entries.now k d).id c.args.id (point.0 k d (omega arith) less))
    (λ k d more less. ltb-false (slice_index_or c.args.entries.now k d).id c.args.id (point.1 k d more less))
