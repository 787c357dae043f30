use Rattle.std.proofs.Common.{Some, arith, set, ◌%◌, ◌+◌}
use Rattle.rings.specs.Slots.{pushed}
use Rattle.rings.proofs.Queues.{Shows, shows_pushed}
use Rattle.rings.proofs.slots.RingSlots.push.Goals as goal

-- the slots afterwards
after : (g : _) (c : goal.After-self-2-1 g)
    → let s = c.self.inside in
    let slots = set s.slots.items c.from-place.result (Some c.args.item) in
    Shows slots s.head ((s.tail + 1) % c.len.result) (pushed c.args.self.now c.args.item)
after g c =
    let s = c.self.inside in
    shows_pushed s.slots.items s.head s.tail c.self.invariant c.args.self.now c.self.view_is
    c.from-place.result c.len.result c.args.item c.from-place.ensures (omega arith) c.requires.room

pub invariant_of-self : goal.invariant_of-self
invariant_of-self g c = rw c.next_slot-self-inside.ensures.value ((after g c).queue)

pub returns : goal.returns
returns g c = record { pushed = rw c.next_slot-self-inside.ensures.value ((after g c).value) }
