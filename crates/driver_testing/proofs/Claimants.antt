-- A host that claims slots, at a later moment.
use Rattle.std.proofs.Common.{◌≡◌, ◌≤◌, ℕ, true, List, [], ◌∷◌, All, ap, eq-eqb, le-leb, subst, sym, ◌∙◌}
use Rattle.std.proofs.lemmas.List.Elements.{All-cons, All-nil, All-same}
use Rattle.plain_lemmas.proofs.Bools.{three}
use Rattle.nvme_model.specs.Config.{completion_queue}
use Rattle.nvme_model.specs.declared.config.ConfigNumbers.{ConfigNumbers}
use Rattle.nvme_model.proofs.Numbers.{own_queue}
use Rattle.driver_cas.specs.Drivers.{IsSameDriver, port_of}
use Rattle.driver_cas.specs.Ports.{PortFollows}
use Rattle.driver_cas.specs.declared.shared_port.SharedPort.{SharedPort}
use Rattle.work_queue.specs.QueuePasses.{IsPassOfQueue, lock_of_pass}
use Rattle.work_queue.specs.declared.notice.Notice.{Notice}
use Rattle.work_queue.specs.declared.queue.QueuePass.{QueuePass}
use Rattle.driver_testing.specs.Hosts.{IsTestHost, uses}
use Rattle.shared_system.specs.declared.plain.PlainSystem.{PlainSystem}
use Rattle.driver_testing.specs.declared.host.TestHost.{TestHost}
use Rattle.slot_alloc.specs.SlotRules.{KeepsSlotRules}
use Rattle.slot_alloc.specs.Claims.{IsClaimingOf, IsHeldBy, IsReleasingOf, IsUnreleased}
use Rattle.slot_alloc.specs.declared.claiming.Claiming.{Claiming}
use Rattle.slot_alloc.specs.declared.claim.Claim.{Claim}
use Rattle.slot_alloc.specs.declared.release.Releasing.{Releasing}
use Rattle.slot_alloc.specs.declared.slots.Slots.{Slots}
use Rattle.driver_testing.specs.Claimants.{IsClaimantBegun, IsClaimantReady}
use Rattle.driver_testing.specs.declared.claimant.ClaimantStage.{ClaimantStage}

-- ---- the submission queue of a host

-- with as many completion queues as submission queues, queue h uses h
pub uses_own : (c : ConfigNumbers) (h : ℕ) (qs : List ℕ) → 1 ≤ h → h ≤ c.pairs → c.cqs ≡ c.pairs → qs ≡ h ∷ []
    → All (λ q. uses c h q ≡ true) qs
uses_own c h qs l m e is =
    All-same (λ q. uses c h q ≡ true) qs (h ∷ []) is
    (All-cons (λ q. uses c h q ≡ true) h []
    (three _ _ _ (le-leb 1 h l) (le-leb h c.pairs m) (eq-eqb (completion_queue c h) h (own_queue c h e l m)))
    (All-nil (λ q. uses c h q ≡ true)))

-- ---- after a Read was begun

pub read_ready : (b : PlainSystem) (s : Slots) (h i : TestHost) → IsClaimantReady b s h → IsSameDriver h.driver i.driver
    → PortFollows (port_of h.driver) (port_of i.driver) → i.place ≡ h.place
    → (KeepsSlotRules h.driver → KeepsSlotRules i.driver)
    → IsClaimantReady b s i
read_ready b s h i ready same later place kept =
    record {
      host = moved b h i later place ready.host;
      area_is = same.slots ∙ ready.area_is;
      slot_rules = kept ready.slot_rules;
    }
  where
    moved : (b : PlainSystem) (h i : TestHost) → PortFollows (port_of h.driver) (port_of i.driver) → i.place ≡ h.place
        → IsTestHost b h
        → IsTestHost b i
    moved b h i later place of = (
      (
        subst (λ (p : QueuePass Notice). IsPassOfQueue b.notices p) (sym place) of.0.0,
        ap lock_of_pass place
            ∙ (of.0.1 ∙ sym later.same_lock),
      ),
      later.same_lock ∙ of.1,
    )

-- ---- what was begun

-- by what its driver keeps of what it began
pub begun_on : (h i : TestHost) (stage : ClaimantStage) → ((c : Claim) → IsHeldBy h.driver c → IsHeldBy i.driver c)
    → ((k : Claiming SharedPort _) → IsClaimingOf h.driver k → IsClaimingOf i.driver k)
    → ((k : Claiming SharedPort _) → IsClaimingOf h.driver k → IsUnreleased h.driver k → IsUnreleased i.driver k)
    → ((k : Releasing SharedPort) → IsReleasingOf h.driver k → IsReleasingOf i.driver k) → IsClaimantBegun h stage
    → IsClaimantBegun i stage
begun_on h i ClaimantStage.Idle held claiming unreleased releasing of = tt
begun_on h i (ClaimantStage.Claiming k) held claiming unreleased releasing of =
    (claiming k of.0, unreleased k of.0 of.1)
begun_on h i (ClaimantStage.Holding k) held claiming unreleased releasing of = held k.claim of
begun_on h i (ClaimantStage.Releasing k) held claiming unreleased releasing of = releasing k of
