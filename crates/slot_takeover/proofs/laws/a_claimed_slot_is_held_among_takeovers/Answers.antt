use Rattle.std.proofs.Common.{false, true, ◌≡◌}
use Rattle.nvme_model.specs.Passes.{entries}
use Rattle.host_laws.proofs.Discipline.{area_has}
use Rattle.host_laws.proofs.TakeoverBeliefs.{believed_holds}
use Rattle.host_laws.specs.Rules.{is_cut_off, takeover_disciplined}
use Rattle.driver_calls.specs.Views.{IsAlone}
use Rattle.driver_cas.specs.Drivers.{area_of, before}
use Rattle.driver_cas.specs.Ports.{view_of}
use Rattle.slot_alloc.proofs.Asking.{inside_of}
use Rattle.slot_alloc.specs.Areas.{block_of, claim_serial, slot_of}
use Rattle.slot_alloc.specs.Claims.{IsHeldBy}
use Rattle.slot_alloc.specs.SlotRules.{own_name}
use Rattle.slot_takeover.proofs.Claimed.{view_claim_believed}
use Rattle.slot_takeover.proofs.laws.a_claimed_slot_is_held_among_takeovers.Goals as goal

pub returns : goal.returns
returns c =
    let d = c.args.driver.now in
    let k = c.args.claim.now in
    let v = view_of d.port in
    let l = block_of (area_of d) (slot_of k) in
    let n = own_name d (claim_serial k) in
    let believed = λ (x : IsHeldBy d k) (alone : IsAlone (before d) v)
    (kept : takeover_disciplined v.config (area_of d) (entries v.seen) ≡ true)
    (uncut : is_cut_off v.config (area_of d) (entries v.seen) v.queue ≡ false).
    view_claim_believed (before d) (area_of d) v l n d.port.legal alone d.tidy kept
    (inside_of (area_of d) (slot_of k) x.inside) uncut x.believed in
    record {
      believed = believed;
      holder = λ x alone kept uncut.
          believed_holds v.config (area_of d) (entries v.seen) l n d.port.legal kept
          (area_has (area_of d) l (inside_of (area_of d) (slot_of k) x.inside)) (believed x alone kept uncut);
    }
