-- What becomes of a host's calls.
use Rattle.std.proofs.Common.{◌≡◌, ℕ, ◌∙◌, Err, None, Ok, Option, Result, inl, inr}
use Rattle.std.proofs.Common.{subst, sym}
use Rattle.std.specs.Prelude.{IfOk, IfSome}
use Rattle.nvme_model.specs.declared.operation.Op.{Op}
use Rattle.driver_calls.specs.declared.request.CallData.{CallData}
use Rattle.driver_calls.specs.declared.request.Request.{Request}
use Rattle.driver_cas.specs.Driving.{call_given_back}
use Rattle.driver_cas.specs.Drivers.{SharesNoCid, IsBack, IsCallBack, IsCallOf, IsSameDriver, area_of}
use Rattle.driver_cas.specs.Requests.{IsStart, pair_request_of, request_of}
use Rattle.driver_cas.specs.declared.call.Call.{Call}
use Rattle.driver_cas.specs.declared.call.Poll.{Poll}
use Rattle.driver_cas.specs.declared.driver.Driver.{Driver}
use Rattle.driver_cas.specs.declared.fault.Fault.{Fault}
use Rattle.driver_cas.specs.declared.port.Port.{Ghosts}
use Rattle.driver_cas.specs.declared.shared_port.SharedPort.{SharedPort}
use Rattle.driver_testing.specs.Calls.{IsCallAsked, IsNewCall, Polls}
use Rattle.driver_testing.specs.declared.host.TestHost.{TestHost}
use Rattle.slot_alloc.specs.SlotRules.{DriverContinues, KeepsSlotRules}

-- ---- calls

pub polls_on : (h i m : TestHost) (k n : Call SharedPort) → n ≡ k → Polls h i k → Polls i m n → Polls h m k
polls_on h i m k n e x y =
    record {
      same = (y.same.0 ∙ x.same.0, y.same.1 ∙ x.same.1);
      others = λ j of apart. y.others j (x.others j of apart)
          (subst (λ (c : Call SharedPort). SharesNoCid c j) (sym e) apart);
    }

-- ---- calls of any port

module _ {P : Type 0} {g : Ghosts P} where
  -- what follows of each start call follows where one was made
  pub asked_case : {X : Type 0} → (d e : Driver P g) (r : Result (Call P) Fault) → IsCallAsked d e r
      → ((q : Result Request Fault) (c : CallData) → IsStart d e q c r → X) → X
  asked_case d e r (inl h) f = f (request_of h.0 (area_of d) h.3 h.1 h.2) h.4 h.5
  asked_case d e r (inr h) f = f (pair_request_of h.0 (area_of d) h.1 h.2 h.3) h.4 h.5

  -- so of what a start call keeps, and of a driver that keeps the rules of slots, by what is known of the driver as it
  -- was kept before
  pub asked_keeps : (b d e : Driver P g) (r : Result (Call P) Fault) → b ≡ d → IsSameDriver d e
      → g.follows d.port e.port
      → IsCallAsked d e r
      → (IsSameDriver b e → g.follows b.port e.port
      → (q : Result Request Fault) (c : CallData) (r : Result (Call P) Fault)
      → IsStart b e q c r → IfOk r (IsCallOf e)
      × ((k : Call P) → IsCallOf b k → IsCallOf e k × IfOk r (λ begun. SharesNoCid begun k)))
      → IfOk r (IsCallOf e) × ((k : Call P) → IsCallOf d k → IsCallOf e k × IfOk r (λ begun. SharesNoCid begun k))
  asked_keeps b d e r at same later asked law =
      let moved = subst (λ (x : Driver P g). IsSameDriver x e → g.follows x.port e.port
      → (q : Result Request Fault) (c : CallData) (r : Result (Call P) Fault) → IsStart x e q c r
      → IfOk r (IsCallOf e) × ((k : Call P) → IsCallOf x k → IsCallOf e k × IfOk r (λ begun. SharesNoCid begun k))) at
      law in
      asked_case d e r asked (λ q c s. moved same later q c r s)

  pub asked_slot_rules : (b d e : Driver P g) (r : Result (Call P) Fault) → b ≡ d → IsSameDriver d e
      → g.follows d.port e.port
      → IsCallAsked d e r
      → (IsSameDriver b e → g.follows b.port e.port
      → (acwu slba bytes : ℕ) (o : Op) (c : CallData) (r : Result (Call P) Fault)
      → IsStart b e (request_of acwu (area_of b) o slba bytes) c r
      → (KeepsSlotRules b → KeepsSlotRules e) × DriverContinues b e None)
      → (IsSameDriver b e → g.follows b.port e.port
      → (acwu slba bytes others : ℕ) (c : CallData) (r : Result (Call P) Fault)
      → IsStart b e (pair_request_of acwu (area_of b) slba bytes others) c r
      → (KeepsSlotRules b → KeepsSlotRules e) × DriverContinues b e None)
      → KeepsSlotRules d → KeepsSlotRules e
  asked_slot_rules b d e r at same later asked start pair slot_rules =
      go (subst (λ (x : Driver P g). IsCallAsked x e r) (sym at) asked)
    where
      same_b : IsSameDriver b e
      same_b = subst (λ (x : Driver P g). IsSameDriver x e) (sym at) same

      later_b : g.follows b.port e.port
      later_b = subst (λ (x : Driver P g). g.follows x.port e.port) (sym at) later

      slot_rules_b : KeepsSlotRules b
      slot_rules_b = subst (λ (x : Driver P g). KeepsSlotRules x) (sym at) slot_rules

      go : IsCallAsked b e r → KeepsSlotRules e
      go (inl h) = (start same_b later_b h.0 h.1 h.2 h.3 h.4 r h.5).0 slot_rules_b
      go (inr h) = (pair same_b later_b h.0 h.1 h.2 h.3 h.4 r h.5).0 slot_rules_b

  -- what a start call begins is new
  pub new_call : (d e : Driver P g) (r : Result (Call P) Fault)
      → IfOk r (IsCallOf e) × ((k : Call P) → IsCallOf d k → IsCallOf e k × IfOk r (λ begun. SharesNoCid begun k))
      → IfOk r (IsNewCall d e)
  new_call d e (Ok k) h = (h.0, λ j of. (h.1 j of).1)
  new_call d e (Err f) h = tt

  pub back_of : (e : Driver P g) (k : Call P) (r : Poll P) (o : Option (Call P)) → o ≡ call_given_back r → IsBack k r
      → IsCallBack e r → IfSome o (λ j. (j ≡ k) × IsCallOf e j)
  back_of e k r o is back of =
      subst (λ (x : Option (Call P)). IfSome x (λ j. (j ≡ k) × IsCallOf e j)) (sym is) (go r back of)
    where
      go : (r : Poll P) → IsBack k r → IsCallBack e r → IfSome (call_given_back r) (λ j. (j ≡ k) × IsCallOf e j)
      go (Poll.Pending j) back of = (back, of)
      go (Poll.Later f j) back of = (back.0, of)
      go (Poll.Done r) back of = tt
      go (Poll.Failed f) back of = tt
