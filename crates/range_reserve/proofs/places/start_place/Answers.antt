use Rattle.std.proofs.Common.{nat_lt, rules}
use Rattle.std.proofs.lemmas.List.Sorted.{IsPartitionPoint-from_clause, IsPartitionedBy-ltb}
use Rattle.range_reserve.specs.Sorted.{held_key, start_key}
use Rattle.range_reserve.specs.declared.held.HeldRange.{HeldRange}
use Rattle.range_reserve.proofs.Orders.{place_from_point, rising_far}
use Rattle.range_reserve.proofs.places.start_place.Goals as goal

pub returns-clause-place : goal.returns-clause-place
returns-clause-place c =
    let key = start_key c.args.start c.args.ticket in
    let parted = IsPartitionedBy-ltb held_key c.args.held.now key
    (rising_far held_key c.args.held.now c.requires.rising) in
    let point = IsPartitionPoint-from_clause (λ (h : HeldRange). nat_lt (held_key h) key) _ _
    c.partition_point.ensures.partitioned parted (λ a r q k. search rules) in
    place_from_point held_key key c.args.held.now c.partition_point.result c.partition_point.ensures.bound point
