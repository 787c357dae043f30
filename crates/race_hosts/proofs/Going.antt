-- A host goes on from what it was.
use Rattle.std.proofs.Common.{◌≡◌, ◌≤◌, ℕ, List, Option, [], arith, false, length, ◌-◌, ◌∙◌, refl, sym, subst, ap}
use Rattle.std.proofs.Common.{take, true}
use Rattle.std.specs.declared.snapshot.Snapshot.{Snapshot}
use Rattle.nvme_model.specs.declared.array.Range.{Range}
use Rattle.nvme_model.specs.declared.config.ConfigNumbers.{ConfigNumbers}
use Rattle.meet_lock.specs.Passes.{seen}
use Rattle.work_queue.specs.declared.notice.Notice.{Notice}
use Rattle.work_queue.specs.declared.queue.QueuePass.{QueuePass}
use Rattle.shared_system.specs.Callers.{IsPlaceAt}
use Rattle.shared_system.specs.declared.system.System.{System}
use Rattle.driver_calls.specs.Views.{since}
use Rattle.driver_calls.specs.declared.event.PortEvent.{PortEvent}
use Rattle.driver_cas.specs.Drivers.{HasSettings, area_of, made, port_of}
use Rattle.driver_cas.specs.declared.driver.Driver.{Driver}
use Rattle.driver_cas.specs.declared.port.Port.{Ghosts}
use Rattle.driver_cas.specs.declared.shared_port.SharedPort.{SharedPort}
use Rattle.driver_cas.proofs.Listening.{follows_later, follows_same}
use Rattle.slot_alloc.specs.Areas.{area, block_of}
use Rattle.slot_alloc.specs.Claims.{IsClaimingOf, IsHeldBy, IsReleasingOf, IsUnreleased}
use Rattle.slot_alloc.specs.declared.claim.Claim.{Claim}
use Rattle.slot_alloc.specs.declared.claiming.Claiming.{Claiming}
use Rattle.slot_alloc.specs.declared.release.Releasing.{Releasing}
use Rattle.slot_log_laws.specs.Counts.{log_claims}
use Rattle.slot_alloc.specs.SlotRules as slot_rules
use Rattle.slot_alloc.specs.SlotRules.{KeepsSlotRules, ReleasedName}
use Rattle.many_host_laws.specs.Hosts.{IsHost}
use Rattle.slot_alloc.specs.Counts.{claims_made}
use Rattle.race_hosts.specs.Hosts.{HostContinues, IsHosting}
use Rattle.race_hosts.specs.declared.owned.Host.{Host}
use Rattle.race_hosts.specs.Stages.{IsStageOf, are_over}
use Rattle.race_hosts.specs.declared.stage.RoundStage.{RoundStage}
use Rattle.race_hosts.specs.declared.stage.RoundStage.TheVariants as stage

module _ {P : Type 0} {g : Ghosts P} where
  settings_on : (d e f : Driver P g) → HasSettings d e → HasSettings e f → HasSettings d f
  settings_on d e f x y =
      record {
        began = y.began ∙ x.began;
        host = y.host ∙ x.host;
        acwu = y.acwu ∙ x.acwu;
        slots = y.slots ∙ x.slots;
        queues = y.queues ∙ x.queues;
      }

module _ {G : Type 0} where
  pub goes_same : (system : System G) (h : Host) → IsHosting system h → HostContinues system h h
  goes_same system h of =
      record {
        of = of;
        settings = record { began = refl; host = refl; acwu = refl; slots = refl; queues = refl };
        slots = refl;
        queue = refl;
        later = follows_same (port_of h.driver);
      }

  pub goes_far : (system : System G) (h k m : Host) → HostContinues system h k → HostContinues system k m
      → HostContinues system h m
  goes_far system h k m a b =
      record {
        of = b.of;
        settings = settings_on h.driver k.driver m.driver a.settings b.settings;
        slots = b.slots ∙ a.slots;
        queue = b.queue ∙ a.queue;
        later = follows_later (port_of h.driver) (port_of k.driver) (port_of m.driver) a.later b.later;
      }

  -- whoever is a host stays one
  pub host_on : (system : System G) (h k : Host) → HostContinues system h k
      → (c : ConfigNumbers) (slots : Range) (pass queue n : ℕ)
      → IsHost c slots pass queue n h.driver → IsHost c slots pass queue n k.driver
  host_on system h k a c slots pass queue n x =
      record {
        first = ap (λ (b : Snapshot SharedPort). seen b.value.pass) a.settings.began ∙ x.first;
        slot_rules = a.of.slot_rules;
        config = a.later.view.same_config ∙ x.config;
        area = a.settings.slots ∙ x.area;
        pass_is = a.later.view.same_pass ∙ x.pass_is;
        queue_is = a.later.view.same_queue ∙ x.queue_is;
        host_is = a.settings.host ∙ x.host_is;
      }

  -- by a call of its driver
  pub goes_called : (system : System G) (h k m : Host) (released : Option ReleasedName) → HostContinues system h k
      → m.slots ≡ k.slots
      → m.queue ≡ k.queue → m.notices ≡ k.notices → (KeepsSlotRules k.driver → KeepsSlotRules m.driver)
      → slot_rules.DriverContinues k.driver m.driver released → HostContinues system h m
  goes_called system h k m released a slots queue notices kept x =
      goes_far system h k m a
      (record {
        of =
            record {
              of = x.later.same_lock ∙ a.of.of;
              slots = x.settings.slots ∙ a.of.slots ∙ ap area (sym slots);
              slot_rules = kept a.of.slot_rules;
              queue = subst (λ (n : ℕ). (1 ≤ n) × (n ≤ length system.notices.items)) (sym queue) a.of.queue;
              place = subst (λ (z : ℕ × QueuePass Notice). IsPlaceAt system (z.0 - 1) z.1)
                  (λ i. (sym queue i, sym notices i)) a.of.place;
            };
        settings = x.settings;
        slots = slots;
        queue = queue;
        later = x.later;
      })

-- a driver that was made just now has published nothing
module _ {P : Type 0} {g : Ghosts P} where
  pub none_begun : (d : Driver P g) → d.port ≡ d.began.value → claims_made d 0 ≡ 0
  none_begun d same =
      let log = g.log d.began.value in
      let all : made d ≡ since log log = ap (λ (p : P). since log (g.log p)) same in
      let zero : length log - length log ≡ 0 = omega arith in
      let none : since log log ≡ [] = ap (λ (n : ℕ). take n log) zero in
      ap (λ (xs : List PortEvent). log_claims xs (block_of (area_of d) 0)) (all ∙ none)

-- of rounds that are over none is left
pub none_left : (left : ℕ) (s : RoundStage) → are_over left s ≡ true → left ≡ 0
none_left left stage.Ready e = grind (arith, e)
none_left left (stage.Claiming k) e = absurd (let f : false ≡ true = e in cc)
none_left left (stage.Holding k) e = absurd (let f : false ≡ true = e in cc)
none_left left (stage.Releasing k) e = absurd (let f : false ≡ true = e in cc)

-- what a host has begun stays so where its claims and its release do
pub stays : (h k : Host) → ((c : Claim) → IsHeldBy h.driver c → IsHeldBy k.driver c)
    → ((c : Claiming SharedPort _) → IsClaimingOf h.driver c → IsClaimingOf k.driver c)
    → ((c : Claiming SharedPort _) → IsClaimingOf h.driver c → IsUnreleased h.driver c → IsUnreleased k.driver c)
    → ((r : Releasing SharedPort) → IsReleasingOf h.driver r → IsReleasingOf k.driver r)
    → (s : RoundStage) → IsStageOf h s → IsStageOf k s
stays h k held claiming unreleased releasing stage.Ready is = is
stays h k held claiming unreleased releasing (stage.Claiming c) is = (claiming c is.0, unreleased c is.0 is.1, is.2)
stays h k held claiming unreleased releasing (stage.Holding c) is = held c.claim is
stays h k held claiming unreleased releasing (stage.Releasing r) is = releasing r is
