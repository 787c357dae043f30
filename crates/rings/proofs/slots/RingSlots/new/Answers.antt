use Rattle.std.proofs.Common.{None, [], arith, ap, replicate, ◌∙◌, ◌≡◌}
use Rattle.rings.proofs.Queues.{Shows, shows_free}
use Rattle.rings.proofs.slots.RingSlots.new.Goals as goal

free : (g : _) (c : goal.After-loop g)
    → Shows c.loop.slots.items 0 0 (record { size = c.args.size; head = 0; tail = 0; items = [] })
free g c =
    let all : c.loop.counter ≡ c.args.size = omega arith in
    shows_free c.loop.slots.items c.args.size (c.loop.invariant.0 ∙ ap (λ n. replicate n None) all) c.requires.size

pub invariant_of-result : goal.invariant_of-result
invariant_of-result g c = (free g c).queue

pub returns : goal.returns
returns g c = record { empty = (free g c).value }
