-- A host when it is made.
use Rattle.std.proofs.Common.{List, [], ap, refl, subst, sym, true, ℕ, ◌≡◌}
use Rattle.nvme_model.specs.declared.array.Range.{Range}
use Rattle.driver_calls.specs.Views.{log_of, since}
use Rattle.driver_calls.specs.declared.event.PortEvent.{PortEvent}
use Rattle.driver_cas.specs.Ports.{view_of}
use Rattle.driver_cas.specs.declared.shared_port.SharedPort.{SharedPort}
use Rattle.meet_lock.specs.Passes.{seen}
use Rattle.slot_log_laws.specs.SlotRules.{keeps_slot_rules}

-- a port that had seen nothing has done nothing
pub none_done : (p : SharedPort) → seen p.pass ≡ [] → log_of (view_of p) ≡ []
none_done p e = ap (λ s.
    log_of (record { config = (view_of p).config; queue = (view_of p).queue; pass = (view_of p).pass; seen = s })) e

pub slot_rules_first : (slots : Range) (host last : ℕ) (log : List PortEvent) → log ≡ []
    → keeps_slot_rules slots host last (since log log) ≡ true
slot_rules_first slots host last log e =
    subst (λ (l : List PortEvent). keeps_slot_rules slots host last (since l l) ≡ true) (sym e) refl
