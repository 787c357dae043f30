use Rattle.std.proofs.Common.{nat_lt, rules}
use Rattle.std.proofs.lemmas.List.Sorted.{IsPartitionPoint-from_clause, IsPartitionedBy-ltb}
use Rattle.range_reserve.specs.declared.held.HeldRange.{HeldRange}
use Rattle.range_reserve.proofs.Orders.{place_from_point, rising_far}
use Rattle.range_reserve.proofs.places.ticket_place.Goals as goal

pub returns-clause-place : goal.returns-clause-place
returns-clause-place c =
    let parted = IsPartitionedBy-ltb (λ (h : HeldRange). h.ticket) c.args.held.now c.args.ticket
    (rising_far (λ (h : HeldRange). h.ticket) c.args.held.now c.requires.rising) in
    let point = IsPartitionPoint-from_clause (λ (h : HeldRange). nat_lt h.ticket c.args.ticket) _ _
    c.partition_point.ensures.partitioned parted (λ a r q k. search rules) in
    place_from_point (λ (h : HeldRange). h.ticket) c.args.ticket c.args.held.now c.partition_point.result
    c.partition_point.ensures.bound point
