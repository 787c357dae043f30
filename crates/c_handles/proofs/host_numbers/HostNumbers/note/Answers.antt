use Rattle.c_handles.proofs.HostNumbers.{apart_noted}
use Rattle.c_handles.proofs.host_numbers.HostNumbers.note.Goals as goal

pub invariant_of-self : goal.invariant_of-self
invariant_of-self c =
    apart_noted c.self.inside.numbers.items c.args.self.now c.args.queue c.from.result c.args.number c.self.view_is
    c.from.ensures c.requires.there.0 c.requires.there.1 c.self.invariant c.requires.number
