use Rattle.std.proofs.Common.{nat_lt, rules}
use Rattle.std.proofs.lemmas.List.Sorted.{IsPartitionPoint-from_clause, IsPartitionedBy-ltb}
use Rattle.history_check.specs.declared.fields.CheckedInFlight.{CheckedInFlight}
use Rattle.history_check.proofs.Flights.{IsPoint, halves_none, halves_past, halves_some}
use Rattle.history_check.proofs.places.ticket_place.Goals as goal
use Rattle.history_check.proofs.places.ticket_place.Goals.{After-partition_point-place}
use Rattle.history_check.proofs.places.ticket_place.Goals.{else-place-flights-via-else-place-flights}
use Rattle.history_check.proofs.places.ticket_place.Goals.{else-place-flights-via-then-place-flights+else-flights-place}

point : (c : After-partition_point-place) → IsPoint c.args.ticket c.args.flights.now c.partition_point-place.result
point c =
    let parted = IsPartitionedBy-ltb
    (λ (e : CheckedInFlight). e.ticket) c.args.flights.now c.args.ticket c.requires.rising in
    IsPartitionPoint-from_clause (λ (e : CheckedInFlight). nat_lt e.ticket c.args.ticket) _ _
    c.partition_point-place.ensures.partitioned parted (λ a r q k. search rules)

pub returns-then-flights-place : goal.returns-then-flights-place
returns-then-flights-place c = record {
  value = halves_some c.args.ticket c.args.flights.now c.partition_point-place.result c.index-flights-place.result
      (point (goal.at.returns-then-flights-place c).After-partition_point-place)
      c.if-place-flights.true c.if-flights-place.true;
}

pub returns : goal.returns
returns c = record {
  value = elim c.else-place-flights.branch [
    | else-place-flights-via-then-place-flights+else-flights-place w ↦
        halves_none c.args.ticket c.args.flights.now c.partition_point-place.result w.index-flights-place.result
        (point (goal.at.returns c).After-partition_point-place) c.requires.rising
        w.if-place-flights.true w.if-flights-place.false
    | else-place-flights-via-else-place-flights w ↦
        halves_past c.args.ticket c.args.flights.now c.partition_point-place.result
        (point (goal.at.returns c).After-partition_point-place) w.if-place-flights.false
  ];
}
