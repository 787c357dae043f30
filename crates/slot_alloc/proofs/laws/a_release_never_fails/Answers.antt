use Rattle.std.proofs.Common.{Ok, Some, subst, ◌≡◌}
use Rattle.std.specs.Prelude.{Result}
use Rattle.nvme_model.specs.declared.operation.Op.{Op}
use Rattle.nvme_model.specs.declared.status.Status.{Status}
use Rattle.driver_calls.specs.Says.{call_outcome}
use Rattle.driver_calls.specs.declared.reply.Reply.{Reply}
use Rattle.driver_cas.specs.Drivers.{answer_to, area_of, before, host_of, made, number_of, serial_of as last_of}
use Rattle.driver_cas.specs.Ports.{view_of}
use Rattle.slot_log_laws.proofs.Releasing.{release_answer}
use Rattle.slot_alloc.specs.Areas.{block_of}
use Rattle.slot_alloc.specs.SlotRules.{KeepsSlotRules, own_name}
use Rattle.slot_alloc.proofs.Asking.{inside_of}
use Rattle.slot_alloc.proofs.GivingBack.{inside_there, never_failed, release_there}
use Rattle.slot_alloc.specs.Claims.{IsReleasingOf}
use Rattle.slot_alloc.specs.Progresses.{IsQuiet}
use Rattle.slot_log_laws.specs.Hosts.{IsSlotHost}
use Rattle.slot_alloc.proofs.laws.a_release_never_fails.Goals as goal

pub returns : goal.returns
returns c =
    let old = c.args.old.now.value in
    let d = c.args.driver.now in
    let k = c.args.releasing.now.value in
    let only : IsReleasingOf old k → IsQuiet old d → KeepsSlotRules d
    → IsSlotHost (before d) (area_of d) (host_of d) (view_of d.port) → (r : Result Reply Status)
    → answer_to d k.call ≡ Some r → r ≡ Ok Reply.Swapped = λ of quiet slot_rules host r answer.
    release_answer (before d) (area_of d) (host_of d) (last_of d) (view_of d.port) k.call.queue k.call.first
    k.call.second (number_of d k.call) (block_of (area_of d) k.slot) (own_name d k.serial) r
    (record { legal = d.port.legal; premises = host; tidy = d.tidy; slot_rules = slot_rules })
    (release_there _ old d k of quiet) (inside_of (area_of d) k.slot (inside_there _ old d k of quiet))
    (subst (λ (o : Op). call_outcome (made d) k.call.queue o k.call.first k.call.second ≡ Some r) of.does answer) in
    record {
      answer = only;
      never =
          λ of quiet slot_rules host fault h. never_failed _ d k fault (only of quiet slot_rules host) h;
    }
