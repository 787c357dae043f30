use Rattle.std.proofs.Common.{IsSome, arith, set, slice_get, subst, sym, ◌%◌, ◌+◌, ◌∙◌, ◌≡◌}
use Rattle.rings.specs.Slots.{popped}
use Rattle.rings.proofs.Queues.{Shows, get_or-head, is_some-first, shows_popped}
use Rattle.rings.proofs.slots.RingSlots.pop.Goals as goal

pub unwrap-requires : goal.unwrap-requires
unwrap-requires g c =
    let s = c.self.inside in
    let read : c.take-item.result ≡ slice_get c.args.self.now.items 0 =
    c.take-item.ensures.value
    ∙ get_or-head s.slots.items s.head s.tail c.self.invariant c.args.self.now c.self.view_is
    c.from-place.result c.index_mut.result.now c.from-place.ensures c.index_mut.ensures.value c.requires.some in
    subst IsSome (sym read) (is_some-first c.args.self.now.items c.requires.some)

-- the slots afterwards
after : (g : _) (c : goal.After-unwrap g)
    → let s = c.self.inside in
    Shows (set s.slots.items c.from-place.result c.take-item.new.self) ((s.head + 1) % c.len.result) s.tail
    (popped c.args.self.now)
after g c =
    let s = c.self.inside in
    shows_popped s.slots.items s.head s.tail c.self.invariant c.args.self.now c.self.view_is
    c.from-place.result c.len.result c.take-item.new.self c.from-place.ensures (omega arith) c.take-item.ensures.after
    c.requires.some

pub invariant_of-self : goal.invariant_of-self
invariant_of-self g c = rw c.next_slot-self-inside.ensures.value ((after g c).queue)

pub returns-clause-rest : goal.returns-clause-rest
returns-clause-rest g c = rw c.next_slot-self-inside.ensures.value ((after g c).value)
