use Rattle.std.proofs.Common.{ap, refl, sym, ◌∙◌}
use Rattle.std.specs.Prelude.{option_copied, slice_get}
use Rattle.remote_host.specs.Queues.{to_carry}
use Rattle.remote_host.specs.declared.port.RemotePort.{RemotePort}
use Rattle.vandrexu_c.proofs.RemoteLooked.{given_none, untouched_here}
use Rattle.vandrexu_c.proofs.remote_slots.RemoteSlotHost.next_entry.Goals as goal

pub returns-in_default : goal.returns-in_default
returns-in_default c =
    let d = c.self.inside.host.driver in
    rw (sym c.self.view_is) (record {
      aside = record { untouched = untouched_here d; rest = refl };
      next = given_none d.port (option_copied c.peek.result) c.args.entry.now c.args.out.now
          (c.peek.ensures ∙ ap (λ (p : RemotePort). slice_get (to_carry p) 0) c.port.ensures)
          (ap option_copied c.in_default.is);
    })
