-- A claim and a release that were begun, at a later moment.
use Rattle.std.proofs.Common.{Bool, List, None, Option, Some, arith, false, refl, subst, sym, true, ℕ, ◌++◌, ◌<◌, ◌∙◌}
use Rattle.std.proofs.Common.{◌≡◌}
use Rattle.nvme_model.specs.Array.{has_block}
use Rattle.nvme_model.specs.declared.array.Range.{Range}
use Rattle.nvme_model.specs.declared.operation.Op.{Op}
use Rattle.driver_calls.specs.Says.{IsCallIn}
use Rattle.driver_calls.specs.declared.event.PortEvent.{PortEvent}
use Rattle.driver_cas.specs.Drivers.{IsCallOf, area_of, made, number_of}
use Rattle.driver_cas.specs.declared.call.Call.{Call}
use Rattle.driver_cas.specs.declared.driver.Driver.{Driver}
use Rattle.driver_cas.specs.declared.port.Port.{Ghosts}
use Rattle.slot_log_laws.proofs.Winning.{claim_in_later, release_in_later}
use Rattle.slot_log_laws.specs.Calls.{IsClaimIn, IsReleaseIn}
use Rattle.slot_log_laws.specs.Swaps.{log_released}
use Rattle.slot_alloc.specs.Areas.{block_of}
use Rattle.slot_alloc.specs.SlotRules.{DriverContinues, ReleasedName, own_name}
use Rattle.slot_alloc.specs.Claims.{IsAsking, IsAtSlot, IsCallKept, IsClaimingOf, IsReleasingOf, IsStageUnreleased}
use Rattle.slot_alloc.specs.Claims.{IsUnreleased, is_other_claim, is_other_stage, lower_of}
use Rattle.slot_alloc.specs.declared.claiming.Claiming.{Claiming}
use Rattle.slot_alloc.specs.declared.claiming.Reach.{Reach}
use Rattle.slot_alloc.specs.declared.claiming.ClaimStage.{ClaimStage}
use Rattle.slot_alloc.specs.declared.release.Releasing.{Releasing}
use Rattle.slot_alloc.proofs.Asking.{inside_of, taken_on}
use Rattle.slot_alloc.proofs.Starting.{number_same}

module _ {P : Type 0} (g : Ghosts P) where
  -- a pair's call stands in the later log
  later_call : (d e : Driver P g) (released : Option ReleasedName) (x : DriverContinues d e released) (k : Call P)
      → k.op ≡ Op.Pair → IsCallOf e k → IsCallIn (x.log.log ++ made d) k.queue Op.Pair k.first k.second (number_of d k)
  later_call d e released x k does of =
      subst (λ (z : List PortEvent × ℕ × Op). IsCallIn z.0 k.queue z.2 k.first k.second z.1)
      (λ i. (x.log.more i, number_same g d e k x.settings i, does i)) of.published

  asking_on : (d e : Driver P g) (l : ℕ) (k : Call P) (serial : ℕ) (released : Option ReleasedName)
      (x : DriverContinues d e released) → IsCallOf e k → IsAsking d l k serial → IsAsking e l k serial
  asking_on d e l k serial released x of a =
      record {
        of = of;
        does = a.does;
        drawn = omega (arith, a.drawn, x.drawn);
        claim = subst (λ (z : List PortEvent × ℕ × ℕ).
            IsClaimIn z.0 k.queue k.first k.second z.1 l (record { host = z.2; serial = serial }))
            (λ i. (sym x.log.more i, sym (number_same g d e k x.settings) i, sym x.settings.host i))
            (claim_in_later x.log.log (made d) k.queue k.first k.second (number_of d k) l (own_name d serial) a.claim
            (later_call d e released x k a.does of));
      }

  at_on : (d e began : Driver P g) (slot : ℕ) (reach : Reach) (stage : ClaimStage P) (released : Option ReleasedName)
      → DriverContinues d e released → IsCallKept e stage
      → IsAtSlot d began (block_of (area_of d) slot) reach stage
      → IsAtSlot e began (block_of (area_of e) slot) reach stage
  at_on d e began slot reach (ClaimStage.Asked call serial) released x kept at = (
    subst (λ (r : Range). IsAsking e (block_of r slot) call serial) (sym x.settings.slots)
        (asking_on d e (block_of (area_of d) slot) call serial released x kept at.0),
    at.1,
  )
  at_on d e began slot reach ClaimStage.Due released x kept at = at

  pub claiming_on : ((a b c : P) → g.follows a b → g.follows b c → g.follows a c)
      → (d e : Driver P g) (k : Claiming P g) (released : Option ReleasedName) → DriverContinues d e released
      → IsCallKept e k.stage → IsClaimingOf d k → IsClaimingOf e k
  claiming_on on d e k released x kept of =
      record {
        area_is = x.settings.slots ∙ of.area_is;
        inside = of.inside;
        since = on k.began.value.port d.port e.port of.since x.later;
        at = at_on d e k.began.value k.slot k.reach k.stage released x kept of.at;
        lower = λ any. taken_on g on d e k.began.value k.slot (lower_of k) released x (of.lower any);
      }

  -- a name that wasn't released isn't, where another was
  pub unreleased_on : (d e : Driver P g) (k : Claiming P g) (released : Option ReleasedName)
      → DriverContinues d e released
      → is_other_claim released d k ≡ true → IsClaimingOf d k → IsUnreleased d k → IsUnreleased e k
  unreleased_on d e k released x other of h =
      go k.stage released x (same released other) h
    where
      other_stage : Option ReleasedName → ClaimStage P → Bool
      other_stage None stage = true
      other_stage (Some r) stage = is_other_stage r d (block_of (area_of d) k.slot) stage

      same : (r : Option ReleasedName) → is_other_claim r d k ≡ true → other_stage r k.stage ≡ true
      same None o = o
      same (Some r) o = o

      inside : has_block (area_of d) (block_of (area_of d) k.slot) ≡ true
      inside = inside_of (area_of d) k.slot (subst (λ (r : Range). k.slot < r.blocks) (sym of.area_is) of.inside)

      moved : (serial : ℕ) → log_released (made e) (block_of (area_of d) k.slot) (own_name d serial) ≡ false
          → log_released (made e) (block_of (area_of e) k.slot) (own_name e serial) ≡ false
      moved serial a =
          let p : log_released (made e) (block_of (area_of e) k.slot) (own_name e serial)
          ≡ log_released (made e) (block_of (area_of d) k.slot) (own_name d serial) =
          λ i. log_released (made e) (block_of (x.settings.slots i) k.slot)
          (record { host = x.settings.host i; serial = serial }) in
          p ∙ a

      go : (stage : ClaimStage P) (r : Option ReleasedName) → DriverContinues d e r → other_stage r stage ≡ true
          → IsStageUnreleased d (block_of (area_of d) k.slot) stage
          → IsStageUnreleased e (block_of (area_of e) k.slot) stage
      go (ClaimStage.Asked call serial) None y o a =
          moved serial (y.log.unreleased (block_of (area_of d) k.slot) (own_name d serial) inside refl a)
      go (ClaimStage.Asked call serial) (Some r) y o a =
          moved serial (y.log.unreleased (block_of (area_of d) k.slot) (own_name d serial) inside o a)
      go ClaimStage.Due r y o a = tt

  pub releasing_on : (d e : Driver P g) (k : Releasing P) (released : Option ReleasedName)
      → DriverContinues d e released
      → IsCallOf e k.call → IsReleasingOf d k → IsReleasingOf e k
  releasing_on d e k released x call_of of =
      record {
        of = call_of;
        does = of.does;
        inside = subst (λ (r : Range). k.slot < r.blocks) (sym x.settings.slots) of.inside;
        release = subst (λ (z : List PortEvent × ℕ × ℕ × Range).
            IsReleaseIn z.0 k.call.queue k.call.first k.call.second z.1 (block_of z.3 k.slot)
            (record { host = z.2; serial = k.serial }))
            (λ i. (
              sym x.log.more i,
              sym (number_same g d e k.call x.settings) i,
              sym x.settings.host i,
              sym x.settings.slots i,
            ))
            (release_in_later x.log.log (made d) k.call.queue k.call.first k.call.second (number_of d k.call)
            (block_of (area_of d) k.slot) (own_name d k.serial) of.release
            (later_call d e released x k.call of.does call_of));
      }
