-- What was begun and what is held, where the driver did nothing.
use Rattle.std.proofs.Common.{None, ap, arith, inl, refl, subst, sym, ℕ, ◌<◌, ◌∙◌, ◌≡◌}
use Rattle.nvme_model.specs.declared.array.Range.{Range}
use Rattle.driver_cas.specs.Cids.{QueueCids, held}
use Rattle.driver_cas.proofs.Drivers.{reaped_calls}
use Rattle.driver_cas.specs.Drivers.{IsCallOf, area_of, made}
use Rattle.driver_cas.specs.Starts.{IsUntouched}
use Rattle.driver_cas.specs.Tables.{is_free}
use Rattle.driver_cas.specs.declared.call.Call.{Call}
use Rattle.driver_cas.specs.declared.driver.Driver.{Driver}
use Rattle.driver_cas.specs.declared.port.Port.{Ghosts}
use Rattle.slot_log_laws.specs.Calls.{IsName}
use Rattle.slot_log_laws.specs.Swaps.{log_believed}
use Rattle.slot_alloc.specs.Areas.{block_of, claim_serial, slot_of}
use Rattle.slot_alloc.specs.SlotRules.{DriverContinues, KeepsSlotRules, own_name}
use Rattle.slot_alloc.specs.Claims.{IsAtSlot, IsCallKept, IsClaimingOf, IsHeldBy, IsReleasingOf, IsUnreleased}
use Rattle.slot_alloc.specs.declared.claim.Claim.{Claim}
use Rattle.slot_alloc.specs.declared.claiming.Claiming.{Claiming}
use Rattle.slot_alloc.specs.declared.claiming.ClaimStage.{ClaimStage}
use Rattle.slot_alloc.specs.declared.release.Releasing.{Releasing}
use Rattle.slot_alloc.proofs.Asking.{inside_of}
use Rattle.slot_alloc.proofs.Starting.{slot_rules_same, goes_on_same, settings_of}
use Rattle.slot_alloc.proofs.Staying.{claiming_on, releasing_on, unreleased_on}

module _ {P : Type 0} (g : Ghosts P) where
  pub slot_rules_kept : (d e : Driver P g) → IsUntouched d e → KeepsSlotRules d → KeepsSlotRules e
  slot_rules_kept d e u slot_rules =
      slot_rules_same g d e (settings_of g d e u.same) u.same.serial u.as_before.0 slot_rules

  pub goes_on_kept : (d e : Driver P g) → IsUntouched d e → DriverContinues d e None
  goes_on_kept d e u = goes_on_same g d e (settings_of g d e u.same) u.same.serial u.later u.as_before.0

  call_kept : ((a b c : P) → g.follows a b → g.follows b c → g.follows a c) → (d e : Driver P g) → IsUntouched d e
      → (k : Call P) → IsCallOf d k → IsCallOf e k
  call_kept on d e u k of =
      reaped_calls g on d e k u.same u.later (inl u.as_before.0)
      (λ q i. ap (λ (c : QueueCids). is_free (held c q i)) u.as_before.1) of

  pub held_kept : (d e : Driver P g) (c : Claim) → IsUntouched d e → IsHeldBy d c → IsHeldBy e c
  held_kept d e c u of =
      let x = goes_on_kept d e u in
      let l = block_of (area_of d) (slot_of c) in
      let n = own_name d (claim_serial c) in
      record {
        inside = subst (λ (r : Range). slot_of c < r.blocks) (sym u.same.slots) of.inside;
        name = subst (λ (n : ℕ). IsName (record { host = n; serial = claim_serial c })) (sym u.same.host) of.name;
        drawn = omega (arith, of.drawn, u.same.serial);
        believed =
            let p : log_believed (made e) (block_of (area_of e) (slot_of c)) (own_name e (claim_serial c))
            ≡ log_believed (made e) l n =
            λ i. log_believed (made e) (block_of (u.same.slots i) (slot_of c))
            (record { host = u.same.host i; serial = claim_serial c }) in
            p ∙ x.log.believed l n (inside_of (area_of d) (slot_of c) of.inside) refl of.believed;
      }

  pub claiming_kept : ((a b c : P) → g.follows a b → g.follows b c → g.follows a c)
      → (d e : Driver P g) (k : Claiming P g) → IsUntouched d e → IsClaimingOf d k → IsClaimingOf e k
  claiming_kept on d e k u of = claiming_on g on d e k None (goes_on_kept d e u) (kept k.stage of.at) of
    where
      kept : (s : ClaimStage P) → IsAtSlot d k.began.value (block_of (area_of d) k.slot) k.reach s → IsCallKept e s
      kept (ClaimStage.Asked call serial) at = call_kept on d e u call at.0.of
      kept ClaimStage.Due at = tt

  pub unreleased_kept : (d e : Driver P g) (k : Claiming P g) → IsUntouched d e → IsClaimingOf d k → IsUnreleased d k
      → IsUnreleased e k
  unreleased_kept d e k u of free = unreleased_on g d e k None (goes_on_kept d e u) refl of free

  pub releasing_kept : ((a b c : P) → g.follows a b → g.follows b c → g.follows a c)
      → (d e : Driver P g) (k : Releasing P) → IsUntouched d e → IsReleasingOf d k → IsReleasingOf e k
  releasing_kept on d e k u of = releasing_on g d e k None (goes_on_kept d e u) (call_kept on d e u k.call of.of) of
