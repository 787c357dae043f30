-- A claim after a poll of its call.
use Rattle.std.proofs.Common.{Bool, List, None, Option, Some, [], arith, cond, false, inl, inr, refl, subst}
use Rattle.std.proofs.Common.{sym, true, ℕ, ◌<◌, ◌∙◌, ◌∷◌, ◌≡◌, ◌≢◌, ap}
use Rattle.std.specs.Prelude.{Err, Ok, Result}
use Rattle.nvme_model.specs.Statuses.{compare_failure, is_success, same_status}
use Rattle.nvme_model.specs.Slots.{Name}
use Rattle.nvme_model.specs.declared.array.Range.{Range}
use Rattle.nvme_model.specs.declared.operation.Op.{Op}
use Rattle.nvme_model.specs.declared.status.Status.{Status}
use Rattle.host_laws.specs.Calls.{cqe_status}
use Rattle.driver_calls.specs.Says.{call_outcome}
use Rattle.driver_calls.specs.declared.event.PortEvent.{PortEvent}
use Rattle.driver_calls.specs.declared.reply.Reply.{Reply}
use Rattle.driver_cas.specs.Drivers.{AsksPort, IsBack, IsCallOf, IsOneMore, IsSameDriver, SaysOfPort, answer_to}
use Rattle.driver_cas.specs.Drivers.{area_of, made}
use Rattle.driver_cas.specs.Drivers.{number_of, poll_answer as told_by}
use Rattle.driver_cas.specs.declared.call.Call.{Call}
use Rattle.driver_cas.specs.declared.call.Poll.{Poll}
use Rattle.driver_cas.specs.declared.driver.Driver.{Driver}
use Rattle.driver_cas.specs.declared.fault.Fault.{Fault}
use Rattle.driver_cas.specs.declared.port.Port.{Ghosts}
use Rattle.slot_log_laws.proofs.Winning.{claim_in_later, pair_answered, won_by_log}
use Rattle.slot_log_laws.specs.Calls.{IsClaimIn}
use Rattle.slot_log_laws.specs.SlotRules.{keeps_slot_rules}
use Rattle.slot_log_laws.specs.Swaps.{log_released}
use Rattle.slot_alloc.specs.Areas.{block_of}
use Rattle.slot_alloc.specs.SlotRules.{DriverContinues, KeepsSlotRules, own_name}
use Rattle.slot_alloc.specs.Claims.{ClaimSays, IsAsking, IsClaimingOf, IsAtSlot, IsHeldBy, IsStageUnreleased}
use Rattle.slot_alloc.specs.Claims.{IsUnreleased, IsWonBy, lower_of}
use Rattle.slot_alloc.specs.Progresses.{IsEnded, IsLost, IsPolled}
use Rattle.slot_alloc.specs.Progresses.{IsProgress, IsQuiet, IsClaimWaiting}
use Rattle.slot_alloc.specs.declared.claiming.Claiming.{Claiming}
use Rattle.slot_alloc.specs.declared.claiming.ClaimStage.{ClaimStage}
use Rattle.slot_alloc.specs.declared.progress.Progress.{Progress}
use Rattle.slot_alloc.proofs.Asking.{inside_of, taken_on}
use Rattle.slot_alloc.proofs.Logs.{on_on, on_same, one_more_on}
use Rattle.slot_alloc.proofs.Starting.{number_same, settings_of}

one_reply : (r : Result Reply Status) (x y : Reply) → r ≡ Ok x → r ≡ Ok y → y ≡ x
one_reply r x y h e = cc

not_both : (r : Result Reply Status) (s : Status) (x : Reply) → r ≡ Err s → r ≡ Ok x → ⊥
not_both r s x h e = cc

-- a fused pair that was served is answered in one of two ways
pub pair_reply : (log : List PortEvent) (q first second : ℕ) (reply : Reply)
    → call_outcome log q Op.Pair first second ≡ Some (Ok reply) → reply ≢ Reply.Swapped → reply ≡ Reply.Differs
pair_reply log q first second reply h other =
    let a = pair_answered log q first second (Ok reply) h in
    go (is_success (cqe_status a.first.cqe)) (is_success (cqe_status a.second.cqe))
    (same_status (cqe_status a.first.cqe) compare_failure) (cqe_status a.second.cqe) (cqe_status a.first.cqe) a.by
  where
    go : (b c d : Bool) (r s : Status)
        → cond b (cond c (Ok Reply.Swapped) (Err r)) (cond d (Ok Reply.Differs) (Err s)) ≡ Ok reply
        → reply ≡ Reply.Differs
    go true true d r s e = absurd (other (one_reply (Ok Reply.Swapped) Reply.Swapped reply refl e))
    go true false d r s e = absurd (not_both (Err r) r reply refl e)
    go false c true r s e = one_reply (Ok Reply.Differs) Reply.Differs reply refl e
    go false c false r s e = absurd (not_both (Err s) s reply refl e)

-- after a completion a log keeps the rules as before
slot_rules_more : (slots : Range) (host last : ℕ) (log more : List PortEvent) → IsOneMore log more
    → keeps_slot_rules slots host last more ≡ keeps_slot_rules slots host last log
slot_rules_more slots host last log more (inl e) = ap (keeps_slot_rules slots host last) e
slot_rules_more slots host last log more (inr e) = ap (keeps_slot_rules slots host last) e.2

module _ {P : Type 0} (g : Ghosts P) where
  -- what came of a call by a poll
  pub record Polls (d e : Driver P g) : Type 0 where
    pub same : IsSameDriver d e
    pub later : g.follows d.port e.port
    pub one : IsOneMore (made d) (made e)

  pub slot_rules_polled : (d e : Driver P g) → Polls d e → KeepsSlotRules d → KeepsSlotRules e
  slot_rules_polled d e x h =
      let s = x.same in
      let p : keeps_slot_rules (area_of e) e.host e.serial (made e)
      ≡ keeps_slot_rules (area_of d) d.host d.serial (made e) =
      λ i. keeps_slot_rules (s.slots i) (s.host i) (s.serial i) (made e) in
      p ∙ (slot_rules_more (area_of d) d.host d.serial (made d) (made e) x.one ∙ h)

  pub goes_on_polled : (d e : Driver P g) → Polls d e → DriverContinues d e None
  goes_on_polled d e x =
      let drawn = x.same.serial in
      record {
        settings = settings_of g d e x.same;
        drawn = omega (arith, drawn);
        later = x.later;
        log = one_more_on (area_of d) (made d) (made e) x.one;
      }

  -- a claim stands in the log also after a completion
  claim_more : (log more : List PortEvent) (q first second j l : ℕ) (n : Name) → IsOneMore log more
      → IsClaimIn log q first second j l n → IsClaimIn more q first second j l n
  claim_more log more q first second j l n (inl e) c =
      subst (λ (xs : List PortEvent). IsClaimIn xs q first second j l n) (sym e) c
  claim_more log more q first second j l n (inr e) c =
      subst (λ (xs : List PortEvent). IsClaimIn xs q first second j l n) (sym e.2)
      (claim_in_later (PortEvent.Got e.0 e.1 ∷ []) log q first second j l n c c.call)

  pub claim_polled : (d e : Driver P g) (l : ℕ) (k : Call P) (serial : ℕ) → Polls d e → IsAsking d l k serial
      → IsClaimIn (made e) k.queue k.first k.second (number_of e k) l (own_name e serial)
  claim_polled d e l k serial x a =
      subst (λ (z : ℕ × ℕ). IsClaimIn (made e) k.queue k.first k.second z.0 l (record { host = z.1; serial = serial }))
      (λ i. (sym (number_same g d e k (settings_of g d e x.same)) i, sym x.same.host i))
      (claim_more (made d) (made e) k.queue k.first k.second (number_of d k) l (own_name d serial) x.one a.claim)

  pub unreleased_polled : (d e : Driver P g) (slot : ℕ) (k : Call P) (serial : ℕ) → Polls d e
      → slot < (area_of d).blocks → log_released (made d) (block_of (area_of d) slot) (own_name d serial) ≡ false
      → log_released (made e) (block_of (area_of e) slot) (own_name e serial) ≡ false
  unreleased_polled d e slot k serial x less a =
      let p : log_released (made e) (block_of (area_of e) slot) (own_name e serial)
      ≡ log_released (made e) (block_of (area_of d) slot) (own_name d serial) =
      λ i. log_released (made e) (block_of (x.same.slots i) slot) (record { host = x.same.host i; serial = serial }) in
      p ∙ (goes_on_polled d e x).log.unreleased (block_of (area_of d) slot) (own_name d serial)
      (inside_of (area_of d) slot less) refl a

  -- ---- what came of the claim

  asked : (d : Driver P g) (k : Claiming P g) (call : Call P) (serial : ℕ) → IsClaimingOf d k
      → k.stage ≡ ClaimStage.Asked call serial
      → IsAsking d (block_of (area_of d) k.slot) call serial × g.follows k.began.value.port call.start.value
  asked d k call serial of is =
      subst (λ (s : ClaimStage P). IsAtSlot d k.began.value (block_of (area_of d) k.slot) k.reach s) is of.at

  within : (d : Driver P g) (k : Claiming P g) → IsClaimingOf d k → k.slot < (area_of d).blocks
  within d k of = subst (λ (r : Range). k.slot < r.blocks) (sym of.area_is) of.inside

  pub claiming_polled : ((a b c : P) → g.follows a b → g.follows b c → g.follows a c)
      → (d e : Driver P g) (k : Claiming P g) (call : Call P) (serial : ℕ) → IsClaimingOf d k
      → k.stage ≡ ClaimStage.Asked call serial → Polls d e → IsCallOf e call
      → IsClaimingOf e (record {
        slots = k.slots;
        reach = k.reach;
        slot = k.slot;
        stage = ClaimStage.Asked call serial;
        began = k.began;
        lower = k.lower;
      })
  claiming_polled on d e k call serial of is x call_of =
      let a = asked d k call serial of is in
      let gone = goes_on_polled d e x in
      record {
        area_is = x.same.slots ∙ of.area_is;
        inside = of.inside;
        since = on k.began.value.port d.port e.port of.since x.later;
        at = (
          subst (λ (r : Range). IsAsking e (block_of r k.slot) call serial) (sym x.same.slots) (record {
            of = call_of;
            does = a.0.does;
            drawn = omega (arith, a.0.drawn, x.same.serial);
            claim = claim_polled d e (block_of (area_of d) k.slot) call serial x a.0;
          }),
          a.1,
        );
        lower = λ any. taken_on g on d e k.began.value k.slot (lower_of k) None gone (of.lower any);
      }

  -- the claim of the slot at hand is one of the name that the driver has for this serial
  claim_there : (d e : Driver P g) (k : Claiming P g) (call : Call P) (serial : ℕ) → IsClaimingOf d k
      → k.stage ≡ ClaimStage.Asked call serial → Polls d e
      → IsClaimIn (made e) call.queue call.first call.second (number_of e call) (block_of (area_of e) k.slot)
      (own_name e serial)
  claim_there d e k call serial of is x =
      subst (λ (r : Range). IsClaimIn (made e) call.queue call.first call.second (number_of e call) (block_of r k.slot)
      (own_name e serial)) (sym x.same.slots)
      (claim_polled d e (block_of (area_of d) k.slot) call serial x (asked d k call serial of is).0)

  -- the name of a claim that goes on isn't released
  pub still_polled : (d e : Driver P g) (k : Claiming P g) (call : Call P) (serial : ℕ) → IsClaimingOf d k
      → k.stage ≡ ClaimStage.Asked call serial → Polls d e → IsUnreleased d k
      → IsStageUnreleased e (block_of (area_of e) k.slot) (ClaimStage.Asked call serial)
  still_polled d e k call serial of is x h =
      unreleased_polled d e k.slot call serial x (within d k of)
      (subst (λ (s : ClaimStage P). IsStageUnreleased d (block_of (area_of d) k.slot) s) is h)

  pub says_polled : ((a : P) → g.follows a a)
      → (d e : Driver P g) (k : Claiming P g) (call : Call P) (serial : ℕ) (r : Result Reply Status) → IsClaimingOf d k
      → k.stage ≡ ClaimStage.Asked call serial → Polls d e → answer_to e call ≡ Some r → SaysOfPort e call (Some r)
      → ClaimSays e k.began.value (block_of (area_of e) k.slot) call serial r
  says_polled stays d e k call serial r of is x answer says =
      let a = asked d k call serial of is in
      record {
        at = e;
        same = record { began = refl; host = refl; acwu = refl; slots = refl; queues = refl };
        begun = a.1;
        later = stays e.port;
        does = a.0.does;
        claim = subst (λ (z : Range).
            IsClaimIn (made e) call.queue call.first call.second (number_of e call) (block_of z k.slot)
            (own_name e serial)) (sym x.same.slots) (claim_polled d e (block_of (area_of d) k.slot) call serial x a.0);
        answer = answer;
        says = says;
      }

  pub quiet_polled : (d e : Driver P g) → Polls d e → IsQuiet d e
  quiet_polled d e x = record { same = x.same; one = x.one }

  pub ended_polled : ((a : P) → g.follows a a)
      → (d e : Driver P g) (k : Claiming P g) (call : Call P) (serial : ℕ) (r : Result Reply Status) → IsClaimingOf d k
      → k.stage ≡ ClaimStage.Asked call serial → Polls d e → AsksPort d e call None → answer_to e call ≡ Some r
      → SaysOfPort e call (Some r)
      → IsEnded d e k call serial r
  ended_polled stays d e k call serial r of is x asks answer says =
      record {
        quiet = quiet_polled d e x;
        asks = asks;
        answer = answer;
        says = says_polled stays d e k call serial r of is x answer says;
      }

  -- it goes on as it is
  pub waiting_polled : (d e : Driver P g) (k : Claiming P g) (call back : Call P) (serial : ℕ) (later : Option Fault)
      → k.stage ≡ ClaimStage.Asked call serial → back ≡ call → Polls d e → AsksPort d e call later
      → None ≡ answer_to e call
      → IsClaimWaiting d e k call later
      (record {
        slots = k.slots;
        reach = k.reach;
        slot = k.slot;
        stage = ClaimStage.Asked back serial;
        began = k.began;
        lower = k.lower;
      })
  waiting_polled d e k call back serial later is same x asks waits =
      let stage : ClaimStage.Asked back serial ≡ k.stage = ap (λ (c : Call P). ClaimStage.Asked c serial) same
      ∙ sym is in
      record {
        quiet = quiet_polled d e x;
        asks = asks;
        waits = sym waits;
        same = ap (λ (s : ClaimStage P). record {
          slots = k.slots;
          reach = k.reach;
          slot = k.slot;
          stage = s;
          began = k.began;
          lower = k.lower;
        }) stage;
      }

  pub won_polled : (d e : Driver P g) (k : Claiming P g) (call : Call P) (serial : ℕ) → IsClaimingOf d k
      → k.stage ≡ ClaimStage.Asked call serial → Polls d e → answer_to e call ≡ Some (Ok Reply.Swapped)
      → IsWonBy e (record { slot = k.slot; serial = serial })
  won_polled d e k call serial of is x answer =
      let there = claim_there d e k call serial of is x in
      record {
        inside = subst (λ (r : Range). k.slot < r.blocks) (sym x.same.slots) (within d k of);
        name = there.name;
        drawn = omega (arith, (asked d k call serial of is).0.drawn, x.same.serial);
        believed = won_by_log (made e) call.queue call.first call.second (number_of e call)
            (block_of (area_of e) k.slot) (own_name e serial) there
            (subst (λ (o : Op). call_outcome (made e) call.queue o call.first call.second ≡ Some (Ok Reply.Swapped))
            (asked d k call serial of is).0.does answer);
      }

  pub held_polled : (d e : Driver P g) (k : Claiming P g) (call : Call P) (serial : ℕ) → IsClaimingOf d k
      → k.stage ≡ ClaimStage.Asked call serial → Polls d e
      → IsWonBy e (record { slot = k.slot; serial = serial }) → IsUnreleased d k
      → IsHeldBy e (record { slot = k.slot; serial = serial })
  held_polled d e k call serial of is x won h =
      record {
        inside = won.inside;
        name = won.name;
        drawn = won.drawn;
        believed = won.believed (unreleased_polled d e k.slot call serial x (within d k of)
            (subst (λ (s : ClaimStage P). IsStageUnreleased d (block_of (area_of d) k.slot) s) is h));
      }

  pub failed_polled : ((a : P) → g.follows a a)
      → (d e : Driver P g) (k : Claiming P g) (call : Call P) (serial : ℕ) (f : Fault) → IsClaimingOf d k
      → k.stage ≡ ClaimStage.Asked call serial → Polls d e
      → AsksPort d e call None → IsBack call (Poll.Failed f) → told_by {P = P} (Poll.Failed f) ≡ answer_to e call
      → SaysOfPort e call (told_by {P = P} (Poll.Failed f)) → IsPolled d e k call serial (Progress.Failed f)
  failed_polled stays d e k call serial (Fault.Status s) of is x asks back answer says =
      ended_polled stays d e k call serial (Err s) of is x asks (sym answer) says
  failed_polled stays d e k call serial Fault.Length of is x asks back answer says = absurd back
  failed_polled stays d e k call serial Fault.TooLong of is x asks back answer says = absurd back
  failed_polled stays d e k call serial Fault.RingFull of is x asks back answer says = absurd back
  failed_polled stays d e k call serial Fault.Busy of is x asks back answer says = absurd back
  failed_polled stays d e k call serial Fault.NoMemory of is x asks back answer says = absurd back
  failed_polled stays d e k call serial Fault.SlotArea of is x asks back answer says = absurd back
  failed_polled stays d e k call serial Fault.NoSerial of is x asks back answer says = absurd back

  -- somebody else has the slot
  pub differs_ended : ((a : P) → g.follows a a)
      → (d e : Driver P g) (k : Claiming P g) (call : Call P) (serial : ℕ) (reply : Reply) → IsClaimingOf d k
      → k.stage ≡ ClaimStage.Asked call serial
      → Polls d e → AsksPort d e call None → reply ≢ Reply.Swapped → answer_to e call ≡ Some (Ok reply)
      → SaysOfPort e call (Some (Ok reply)) → IsEnded d e k call serial (Ok Reply.Differs)
  differs_ended stays d e k call serial reply of is x asks other answer says =
      let a = asked d k call serial of is in
      let differs = pair_reply (made e) call.queue call.first call.second reply
      (subst (λ (o : Op). call_outcome (made e) call.queue o call.first call.second ≡ Some (Ok reply)) a.0.does answer)
      other in
      subst (λ (y : Reply). IsEnded d e k call serial (Ok y)) differs
      (ended_polled stays d e k call serial (Ok reply) of is x asks answer says)

  pub lost_polled : ((a b c : P) → g.follows a b → g.follows b c → g.follows a c)
      → (d e : Driver P g) (k : Claiming P g) (call : Call P) (serial : ℕ) → IsClaimingOf d k → Polls d e
      → IsEnded d e k call serial (Ok Reply.Differs)
      → IsLost e (record {
        slots = k.slots;
        reach = k.reach;
        slot = k.slot;
        stage = ClaimStage.Due;
        began = k.began;
        lower = k.lower;
      }) call serial
  lost_polled on d e k call serial of x ended =
      record {
        area_is = x.same.slots ∙ of.area_is;
        inside = of.inside;
        since = on k.began.value.port d.port e.port of.since x.later;
        taken = ended.says;
        lower = λ any. taken_on g on d e k.began.value k.slot (lower_of k) None (goes_on_polled d e x) (of.lower any);
      }

  -- one moment after the other
  pub goes_on_on : ((a b c : P) → g.follows a b → g.follows b c → g.follows a c) → (d e f : Driver P g)
      → DriverContinues d e None → DriverContinues e f None → DriverContinues d f None
  goes_on_on on d e f x y =
      let s = x.settings in
      let t = y.settings in
      let a = x.drawn in
      let b = y.drawn in
      record {
        settings = record {
          began = t.began ∙ s.began;
          host = t.host ∙ s.host;
          acwu = t.acwu ∙ s.acwu;
          slots = t.slots ∙ s.slots;
          queues = t.queues ∙ s.queues;
        };
        drawn = omega (arith, a, b);
        later = on d.port e.port f.port x.later y.later;
        log = on_on (area_of d) (made d) (made e) (made f) x.log
            (on_same (area_of e) (area_of d) (made e) (made f) None (sym s.slots) y.log);
      }

  -- by the claim's stage
  pub by_stage : (d e : Driver P g) (k : Claiming P g) (call : Call P) (serial : ℕ) (r : Progress P g)
      → k.stage ≡ ClaimStage.Asked call serial → IsPolled d e k call serial r → IsProgress d e k k.stage r
  by_stage d e k call serial r is h = subst (λ (s : ClaimStage P). IsProgress d e k s r) (sym is) h
