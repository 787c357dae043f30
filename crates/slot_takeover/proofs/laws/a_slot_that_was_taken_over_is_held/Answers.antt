use Rattle.std.proofs.Common.{false, true, ◌≡◌}
use Rattle.nvme_model.specs.Passes.{entries}
use Rattle.host_laws.proofs.Discipline.{area_has}
use Rattle.driver_calls.specs.Views.{IsAlone}
use Rattle.driver_cas.specs.Drivers.{area_of, before, made}
use Rattle.driver_cas.specs.Ports.{view_of}
use Rattle.slot_alloc.proofs.Asking.{inside_of}
use Rattle.slot_alloc.specs.Areas.{block_of}
use Rattle.slot_alloc.specs.SlotRules.{own_name}
use Rattle.slot_log_laws.specs.Swaps.{log_released}
use Rattle.host_laws.specs.Rules.{is_cut_off, takeover_disciplined}
use Rattle.host_laws.proofs.TakeoverBeliefs.{believed_holds}
use Rattle.slot_takeover.specs.Takeovers.{HoldsTaken, held_serial, slot_held}
use Rattle.slot_takeover.proofs.Holding.{Took, view_believed}
use Rattle.slot_takeover.proofs.laws.a_slot_that_was_taken_over_is_held.Goals as goal

pub returns : goal.returns
returns c =
    let d = c.args.driver.now in
    let h = c.args.held.now in
    let v = view_of d.port in
    let l = block_of (area_of d) (slot_held h) in
    let n = own_name d (held_serial h) in
    let believed = λ (x : HoldsTaken d h) (alone : IsAlone (before d) v)
    (kept : takeover_disciplined v.config (area_of d) (entries v.seen) ≡ true)
    (uncut : is_cut_off v.config (area_of d) (entries v.seen) v.queue ≡ false)
    (free : log_released (made d) l n ≡ false).
    let took : Took (made d) l n =
    record {
      queue = x.queue;
      first = x.first;
      second = x.second;
      number = x.number;
      dead = x.dead;
      batch = x.batch;
      name = x.name;
      dead_name = x.dead_name;
      apart = x.apart;
      is = x.is;
      sent_as = x.sent_as;
      success = x.success;
    } in
    view_believed (before d) (area_of d) v l n d.port.legal alone d.tidy kept
    (inside_of (area_of d) (slot_held h) x.inside) uncut free took in
    record {
      believed = believed;
      holder = λ x alone kept uncut free.
          believed_holds v.config (area_of d) (entries v.seen) l n d.port.legal kept
          (area_has (area_of d) l (inside_of (area_of d) (slot_held h) x.inside)) (believed x alone kept uncut free);
    }
