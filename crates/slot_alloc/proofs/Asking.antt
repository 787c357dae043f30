-- A claim at a later moment of its driver.
use Rattle.std.proofs.Common.{List, None, Option, Some, [], arith, ap, false, inl, le-leb, lt-ltb, refl, subst, sym}
use Rattle.std.proofs.Common.{true, ℕ, ◌+◌, ◌<◌, ◌∙◌, ◌≡◌, ◌≢◌, ◌≤◌}
use Rattle.std.specs.Prelude.{Err, IfOk, Ok, Result}
use Rattle.std.specs.declared.snapshot.Snapshot.{Snapshot}
use Rattle.std.proofs.lemmas.Bool.{and_from}
use Rattle.nvme_model.specs.Array.{has_block}
use Rattle.nvme_model.specs.declared.array.Range.{Range}
use Rattle.nvme_model.specs.declared.status.Status.{Status}
use Rattle.driver_calls.specs.declared.reply.Reply.{Reply}
use Rattle.driver_cas.specs.Cids.{QueueCids, held}
use Rattle.driver_cas.proofs.Drivers.{reaped_calls}
use Rattle.driver_cas.specs.Drivers.{HasSettings, IsCallOf, area_of, host_of, made, serial_of}
use Rattle.driver_cas.specs.SlotStarts.{IsClaimStart}
use Rattle.driver_cas.specs.Starts.{IsAsBefore}
use Rattle.driver_cas.specs.Tables.{is_free}
use Rattle.driver_cas.specs.declared.call.Call.{Call}
use Rattle.driver_cas.specs.declared.driver.Driver.{Driver}
use Rattle.driver_cas.specs.declared.fault.Fault.{Fault}
use Rattle.driver_cas.specs.declared.port.Port.{Ghosts}
use Rattle.slot_log_laws.specs.Swaps.{log_released}
use Rattle.slot_alloc.specs.Areas.{area, block_of}
use Rattle.slot_alloc.specs.SlotRules.{DriverContinues, KeepsSlotRules, ReleasedName, ReleasesDrawn, own_name}
use Rattle.slot_alloc.specs.Claims.{AreTaken, ClaimSays, IsAsking, IsClaimingOf, IsStageUnreleased, claims_in}
use Rattle.slot_alloc.specs.Progresses.{told_of}
use Rattle.slot_alloc.specs.declared.claiming.Claiming.{Claiming}
use Rattle.slot_alloc.specs.declared.claiming.Lower.{Lower}
use Rattle.slot_alloc.specs.declared.claiming.Reach.{Reach}
use Rattle.slot_alloc.specs.declared.claiming.ClaimStage.{ClaimStage}
use Rattle.slot_alloc.specs.declared.progress.Progress.{Progress}
use Rattle.slot_alloc.specs.declared.slots.Slots.{Slots}
use Rattle.slot_alloc.proofs.Starting.{Claims, asking_claimed, slot_rules_claimed, slot_rules_same, goes_on_claimed}
use Rattle.slot_alloc.proofs.Starting.{goes_on_same, unreleased_claimed}

-- the block of a slot lies in the area
pub inside_of : (r : Range) (i : ℕ) → i < r.blocks → has_block r (block_of r i) ≡ true
inside_of r i h = and_from _ _ (le-leb r.slba (r.slba + i) (omega arith))
    (lt-ltb (r.slba + i) (r.slba + r.blocks) (omega (arith, h)))

module _ {P : Type 0} (g : Ghosts P) where
  -- two later drivers have the same settings
  settings_from : (d e f : Driver P g) → HasSettings d e → HasSettings d f → HasSettings e f
  settings_from d e f x y =
      record {
        began = y.began ∙ sym x.began;
        host = y.host ∙ sym x.host;
        acwu = y.acwu ∙ sym x.acwu;
        slots = y.slots ∙ sym x.slots;
        queues = y.queues ∙ sym x.queues;
      }

  -- what a claim's answer said it goes on to say
  pub says_on : ((a b c : P) → g.follows a b → g.follows b c → g.follows a c)
      → (d e began : Driver P g) (l : ℕ) (k : Call P) (serial : ℕ) (r : Result Reply Status)
      (released : Option ReleasedName) → DriverContinues d e released → ClaimSays d began l k serial r
      → ClaimSays e began l k serial r
  says_on on d e began l k serial r released x s =
      record {
        at = s.at;
        same = settings_from d e s.at x.settings s.same;
        begun = s.begun;
        later = on s.at.port d.port e.port s.later x.later;
        does = s.does;
        claim = s.claim;
        answer = s.answer;
        says = s.says;
      }

  -- no slot lies below the first
  pub none_taken : (d began : Driver P g) → AreTaken d began 0 []
  none_taken d began = record { count = refl; says = λ i c there. absurd (let e : None ≡ Some c = there in cc) }

  pub taken_on : ((a b c : P) → g.follows a b → g.follows b c → g.follows a c)
      → (d e began : Driver P g) (n : ℕ) (claims : List (Call P × ℕ)) (released : Option ReleasedName)
      → DriverContinues d e released → AreTaken d began n claims
      → AreTaken e began n claims
  taken_on on d e began n claims released x h =
      record {
        count = h.count;
        says = λ i c there.
            subst (λ (r : Range). ClaimSays e began (block_of r i) c.0 c.1 (Ok Reply.Differs)) (sym x.settings.slots)
            (says_on on d e began (block_of (area_of d) i) c.0 c.1 (Ok Reply.Differs) released x (h.says i c there));
      }

  -- what is known of a claim that was begun
  pub claims_of : (d e : Driver P g) (slots : Slots) (slot l : ℕ) (k : Call P) (serial : ℕ)
      → l ≡ block_of (area slots) slot → HasSettings d e → g.follows d.port e.port → IsClaimStart d e l (Ok (k, serial))
      → 1 ≤ host_of d → host_of d < 4294967296 → serial < 18446744073709551616 → area_of d ≡ area slots
      → slot < slots.count → Claims g d e (block_of (area_of d) slot) k serial
  claims_of d e slots slot l k serial at settings later start named narrow fits is less =
      record {
        settings = settings;
        later = later;
        start = subst (λ (b : ℕ). IsClaimStart d e b (Ok (k, serial)))
            (at ∙ ap (λ (r : Range). block_of r slot) (sym is)) start;
        named = named;
        narrow = narrow;
        fits = fits;
        inside = subst (λ (r : Range). has_block r (block_of r slot) ≡ true) (sym is)
            (inside_of (area slots) slot less);
      }

  -- the claim of the slot at hand was begun
  pub claiming_now : ((a b c : P) → g.follows a b → g.follows b c → g.follows a c)
      → (d e : Driver P g) (began : Snapshot (Driver P g)) (slots : Slots) (reach : Reach) (slot : ℕ) (k : Call P)
      (serial : ℕ)
      (claims : Snapshot (Lower P)) → Claims g d e (block_of (area_of d) slot) k serial → area_of d ≡ area slots
      → slot < slots.count → g.follows began.value.port d.port
      → (reach ≡ Reach.Any → AreTaken d began.value slot (claims_in claims.value))
      → IsClaimingOf e (record {
        slots = slots;
        reach = reach;
        slot = slot;
        stage = ClaimStage.Asked k serial;
        began = began;
        lower = claims;
      })
  claiming_now on d e began slots reach slot k serial claims c area_is inside since lower =
      let x = goes_on_claimed g d e (block_of (area_of d) slot) k serial c in
      record {
        area_is = x.settings.slots ∙ area_is;
        inside = inside;
        since = on began.value.port d.port e.port since x.later;
        at = (
          subst (λ (r : Range). IsAsking e (block_of r slot) k serial) (sym x.settings.slots)
              (asking_claimed g d e (block_of (area_of d) slot) k serial c),
          on began.value.port d.port k.start.value since c.start.2.since,
        );
        lower = λ any. taken_on on d e began.value slot (claims_in claims.value) None x (lower any);
      }

  -- the start of the claim of the slot at hand
  pub start_of : (d e : Driver P g) (slots : Slots) (slot l : ℕ) (r : Result (Call P × ℕ) Fault)
      → l ≡ block_of (area slots) slot → area_of d ≡ area slots → IsClaimStart d e l r
      → IsClaimStart d e (block_of (area_of d) slot) r
  start_of d e slots slot l r at is start =
      subst (λ (b : ℕ). IsClaimStart d e b r) (at ∙ ap (λ (x : Range). block_of x slot) (sym is)) start

  -- no release of its name was published
  pub unreleased_now : (d e : Driver P g) (slot : ℕ) (k : Call P) (serial : ℕ)
      → Claims g d e (block_of (area_of d) slot) k serial → ReleasesDrawn d
      → IsStageUnreleased e (block_of (area_of e) slot) (ClaimStage.Asked k serial)
  unreleased_now d e slot k serial c drawn =
      subst (λ (r : Range). log_released (made e) (block_of r slot) (own_name e serial) ≡ false) (sym c.settings.slots)
      (unreleased_claimed g d e (block_of (area_of d) slot) k serial c drawn)

  -- it is due
  pub claiming_due : ((a b c : P) → g.follows a b → g.follows b c → g.follows a c)
      → (d e : Driver P g) (k : Claiming P g) → IsClaimingOf d k → k.reach ≡ Reach.Any → DriverContinues d e None
      → IsClaimingOf e (record {
        slots = k.slots;
        reach = k.reach;
        slot = k.slot;
        stage = ClaimStage.Due;
        began = k.began;
        lower = k.lower;
      })
  claiming_due on d e k of any x =
      record {
        area_is = x.settings.slots ∙ of.area_is;
        inside = of.inside;
        since = on k.began.value.port d.port e.port of.since x.later;
        at = any;
        lower = λ y. taken_on on d e k.began.value k.slot (claims_in k.lower.value) None x (of.lower y);
      }

  -- a call after a fault
  pub call_kept : ((a b c : P) → g.follows a b → g.follows b c → g.follows a c) → (d e : Driver P g) (k : Call P)
      → HasSettings d e → serial_of e ≡ serial_of d → g.follows d.port e.port → IsAsBefore d e → IsCallOf d k
      → IsCallOf e k
  call_kept on d e k s drawn later x of =
      reaped_calls g on d e k (record {
        began = s.began;
        host = s.host;
        acwu = s.acwu;
        slots = s.slots;
        serial = drawn;
        queues = s.queues;
      }) later (inl x.0) (λ q i. ap (λ (c : QueueCids). is_free (held c q i)) x.1) of

  -- what is told of a start that was refused for another cause than want of serials or of room
  pub told_later : (k : Claiming P g) (f : Fault) → f ≢ Fault.NoSerial → f ≢ Fault.RingFull
      → Progress.Later f (record k { stage = ClaimStage.Due }) ≡ told_of k (Err f)
  told_later k Fault.RingFull n m = absurd (m refl)
  told_later k Fault.NoSerial n m = absurd (n refl)
  told_later k Fault.Busy n m = refl
  told_later k Fault.NoMemory n m = refl
  told_later k Fault.Length n m = refl
  told_later k Fault.TooLong n m = refl
  told_later k (Fault.Status s) n m = refl
  told_later k Fault.SlotArea n m = refl

  -- for want of room
  pub told_full : (k : Claiming P g) (f : Fault) → f ≡ Fault.RingFull
      → Progress.Pending (record k { stage = ClaimStage.Due }) ≡ told_of k (Err f)
  told_full k f full = ap (λ (x : Fault). told_of k (Err x)) (sym full)

  -- what the start of a claim by itself leaves
  pub claim_kept : (d e : Driver P g) (l : ℕ) (r : Result (Call P × ℕ) Fault) → HasSettings d e
      → g.follows d.port e.port → IsClaimStart d e l r → 1 ≤ host_of d → host_of d < 4294967296
      → IfOk r (λ c. c.1 < 18446744073709551616)
      → has_block (area_of d) l ≡ true → (KeepsSlotRules d → KeepsSlotRules e) × DriverContinues d e None
  claim_kept d e l (Ok c) settings later start named narrow fits inside =
      let k : Claims g d e l c.0 c.1 =
      record {
        settings = settings;
        later = later;
        start = start;
        named = named;
        narrow = narrow;
        fits = fits;
        inside = inside;
      } in
      (slot_rules_claimed g d e l c.0 c.1 k, goes_on_claimed g d e l c.0 c.1 k)
  claim_kept d e l (Err f) settings later start named narrow fits inside =
      (slot_rules_same g d e settings start.0 start.1.0, goes_on_same g d e settings start.0 later start.1.0)
