-- A driver after its other calls, and what it goes on to believe.
use Rattle.std.proofs.Common.{Bool, List, None, Some, arith, ap, cond, eqb-true, false, nat_lt, not, refl, subst, sym}
use Rattle.std.proofs.Common.{true, ℕ, ◌%◌, ◌&&◌, ◌+◌, ◌/◌, ◌∙◌, ◌∷◌, ◌==◌, ◌||◌, ◌≡◌, ◌≢◌, ◌≤◌}
use Rattle.std.specs.Prelude.{Err, Ok, Result}
use Rattle.std.specs.List.{list_any}
use Rattle.std.proofs.lemmas.Bool.Decides.{nat_tests}
use Rattle.std.proofs.lemmas.Bool.{or_parts}
use Rattle.nvme_model.specs.Array.{overlap}
use Rattle.nvme_model.specs.Operations.{has_write, is_pair}
use Rattle.nvme_model.specs.Slots.{touches}
use Rattle.nvme_model.specs.declared.array.Range.{Range}
use Rattle.nvme_model.specs.declared.operation.Op.{Op}
use Rattle.driver_calls.specs.declared.event.PortEvent.{PortEvent}
use Rattle.driver_calls.proofs.Calls.{call_touches}
use Rattle.driver_calls.specs.declared.request.CallData.{CallData}
use Rattle.driver_calls.specs.declared.request.Request.{Request}
use Rattle.driver_cas.specs.Drivers.{IsSameDriver, area_of, host_of, made, serial_of as last_of}
use Rattle.driver_cas.specs.Requests.{IsStart, pair_request_of, request_of}
use Rattle.driver_cas.specs.Starts.{IsStarted}
use Rattle.driver_cas.specs.declared.call.Call.{Call}
use Rattle.driver_cas.specs.declared.driver.Driver.{Driver}
use Rattle.driver_cas.specs.declared.fault.Fault.{Fault}
use Rattle.driver_cas.specs.declared.port.Port.{Ghosts}
use Rattle.slot_log_laws.proofs.SlotRules.{slot_rules_outside}
use Rattle.slot_log_laws.specs.SlotRules.{keeps_slot_rules}
use Rattle.slot_alloc.specs.SlotRules.{DriverContinues, KeepsSlotRules, LogContinues}
use Rattle.slot_alloc.proofs.Logs.{outside_on}
use Rattle.slot_alloc.proofs.Starting.{slot_rules_same, goes_on_same, settings_of}

-- what a request that is no fault asks for: some blocks, of which none is a slot that it would write
pub record IsSound (slots : Range) (q : Request) : Type 0 where
  pub some : 1 ≤ q.blocks
  pub most : q.blocks ≤ 65536
  pub outside : (has_write (Some q.op) && overlap (record { slba = q.slba; blocks = q.blocks }) slots) ≡ false

-- a request is such, or a fault
abbrev pub Sound : Range → Result Request Fault → Type 0
Sound slots (Ok q) = IsSound slots q
Sound slots (Err f) = Unit {0}

some_blocks : (bytes : ℕ) → ((bytes == 0) || not (bytes % 512 == 0)) ≡ false → 1 ≤ bytes / 512
some_blocks bytes h =
    let a = or_parts (bytes == 0) (not (bytes % 512 == 0)) h in
    let some : (bytes == 0) ≡ false = a.0 in
    let whole : bytes % 512 ≡ 0 = eqb-true (bytes % 512) 0 (twice (bytes % 512 == 0) a.1) in
    whole_blocks bytes (λ none. none_some bytes none some) whole
  where
    twice : (b : Bool) → not b ≡ false → b ≡ true
    twice true k = refl
    twice false k = absurd (let e : true ≡ false = k in cc)

    none_some : (n : ℕ) → n ≡ 0 → (n == 0) ≡ false → ⊥
    none_some n e k = let f : true ≡ false = ap (λ (m : ℕ). m == 0) (sym e) ∙ k in cc

    whole_blocks : (n : ℕ) → n ≢ 0 → n % 512 ≡ 0 → 1 ≤ n / 512
    whole_blocks n some whole = omega (arith, some, whole)

few_blocks : (n : ℕ) (b : Bool) → (nat_lt 256 n || b) ≡ false → n ≤ 65536
few_blocks n b h =
    let a = or_parts (nat_lt 256 n) b h in
    let few : nat_lt 256 n ≡ false = a.0 in
    grind (arith, nat_tests)

pub request_sound : (acwu : ℕ) (slots : Range) (o : Op) (slba bytes : ℕ)
    → Sound slots (request_of acwu slots o slba bytes)
request_sound acwu slots o slba bytes =
    go ((bytes == 0) || not (bytes % 512 == 0)) refl
    (nat_lt 256 (bytes / 512) || (is_pair (Some o) && nat_lt (acwu + 1) (bytes / 512))) refl
    (has_write (Some o) && overlap (record { slba = slba; blocks = bytes / 512 }) slots) refl
  where
    go : (a : Bool) → ((bytes == 0) || not (bytes % 512 == 0)) ≡ a → (b : Bool)
        → (nat_lt 256 (bytes / 512) || (is_pair (Some o) && nat_lt (acwu + 1) (bytes / 512))) ≡ b
        → (c : Bool) → (has_write (Some o) && overlap (record { slba = slba; blocks = bytes / 512 }) slots) ≡ c
        → Sound slots (cond a (Err Fault.Length)
        (cond b (Err Fault.TooLong)
        (cond c (Err Fault.SlotArea) (Ok (record { op = o; slba = slba; blocks = bytes / 512 })))))
    go true x b y c z = tt
    go false x true y c z = tt
    go false x false y true z = tt
    go false x false y false z =
        record {
          some = some_blocks bytes x;
          most = few_blocks (bytes / 512) (is_pair (Some o) && nat_lt (acwu + 1) (bytes / 512)) y;
          outside = z;
        }

pub pair_sound : (acwu : ℕ) (slots : Range) (slba bytes others : ℕ)
    → Sound slots (pair_request_of acwu slots slba bytes others)
pair_sound acwu slots slba bytes others = go (bytes == others)
  where
    go : (b : Bool) → Sound slots (cond b (request_of acwu slots Op.Pair slba bytes) (Err Fault.Length))
    go true = request_sound acwu slots Op.Pair slba bytes
    go false = tt

module _ {P : Type 0} (g : Ghosts P) where
  started_outside : (d e : Driver P g) (q : Request) (contents : CallData) (k : Call P) → IsSound (area_of d) q
      → (s : IsStarted d e k q.op q.slba q.blocks contents) → list_any (touches (area_of d)) s.batch ≡ false
  started_outside d e q contents k sound s =
      call_touches (area_of d) q.op q.slba q.blocks k.first k.second contents s.batch sound.some sound.most s.is
      ∙ sound.outside

  pub start_kept : (d e : Driver P g) (rq : Result Request Fault) (contents : CallData) (r : Result (Call P) Fault)
      → IsSameDriver d e → g.follows d.port e.port → Sound (area_of d) rq → IsStart d e rq contents r
      → (KeepsSlotRules d → KeepsSlotRules e) × DriverContinues d e None
  start_kept d e (Err f) contents r same later sound s =
      let settings = settings_of g d e same in
      (slot_rules_same g d e settings same.serial s.2.0, goes_on_same g d e settings same.serial later s.2.0)
  start_kept d e (Ok q) contents (Err f) same later sound s =
      let settings = settings_of g d e same in
      (slot_rules_same g d e settings same.serial s.0.0, goes_on_same g d e settings same.serial later s.0.0)
  start_kept d e (Ok q) contents (Ok k) same later sound s =
      let t = started_outside d e q contents k sound s in
      let drawn = same.serial in
      let p : keeps_slot_rules (area_of e) (host_of e) (last_of e) (made e)
      ≡ keeps_slot_rules (area_of d) (host_of d) (last_of d) (PortEvent.Sent k.queue s.batch ∷ made d) =
      λ i. keeps_slot_rules (same.slots i) (same.host i) (same.serial i) (s.published i) in (
        λ slot_rules. p ∙ slot_rules_outside (area_of d) (host_of d) (last_of d) (made d) k.queue s.batch t slot_rules,
        record {
          settings = settings_of g d e same;
          drawn = omega (arith, drawn);
          later = later;
          log = subst (λ (log : List PortEvent). LogContinues (area_of d) (made d) log None) (sym s.published)
              (outside_on (area_of d) (made d) k.queue s.batch t);
        },
      )
