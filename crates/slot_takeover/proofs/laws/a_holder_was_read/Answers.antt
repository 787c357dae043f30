use Rattle.std.proofs.Common.{List, ap, subst, sym}
use Rattle.std.specs.declared.snapshot.Snapshot.{Snapshot}
use Rattle.nvme_model.specs.Passes.{entries}
use Rattle.nvme_model.specs.Value.{value}
use Rattle.nvme_model.specs.declared.array.Range.{Range}
use Rattle.driver_calls.specs.Views.{IsAlone, log_of}
use Rattle.driver_calls.specs.declared.event.PortEvent.{PortEvent}
use Rattle.driver_cas.specs.Drivers.{area_of, before, number_of}
use Rattle.driver_cas.specs.Ports.{view_of}
use Rattle.driver_cas.specs.declared.shared_port.SharedPort.{SharedPort}
use Rattle.slot_alloc.specs.Areas.{block_of}
use Rattle.slot_takeover.specs.Holders.{WasHeldSo, asked_at, slot_read}
use Rattle.slot_takeover.proofs.Moments.{free_told, held_so, name_told, read_moment}
use Rattle.slot_takeover.proofs.laws.a_holder_was_read.Goals as goal

pub returns : goal.returns
returns c =
    let at = c.args.at.now.value in
    let d = c.args.driver.now in
    let k = c.args.reading.now.value in
    record {
      moment = λ alone same later h polled.
          let start = entries (view_of (asked_at k)).seen in
          let l = block_of (area_of at) (slot_read k) in
          let was = read_moment (before at) (view_of (asked_at k)) (view_of at.port) (view_of d.port) k.call.queue
          (number_of at k.call) l k.call.op polled.bytes polled.since.view later.view at.port.legal
          (at.own k.call.queue polled.known) at.tidy polled.reads polled.answered.1
          (subst (λ (log : List PortEvent). IsAlone log (view_of d.port))
          (ap (λ (b : Snapshot SharedPort). log_of (view_of b.value)) same.began) alone) in
          subst (λ (r : Range). WasHeldSo start (entries (view_of d.port).seen) (block_of r (slot_read k)) h)
          (sym same.slots) (held_so start (entries (view_of d.port).seen) l polled.bytes h was polled.is);
      name = λ past l n h. name_told (value past l) n h;
      free = λ past l h. free_told (value past l) h;
    }
