-- A claim after its start, under the serial that it draws.
use Rattle.std.proofs.Common.{List, ℕ, suc, length, ◌+◌, ◌∙◌, ◌≡◌, ◌≢◌, add-one, ap, ap₂, inr, subst, sym}
use Rattle.std.specs.Prelude.{Contains, Err, Result}
use Rattle.std.specs.declared.snapshot.Snapshot.{Snapshot}
use Rattle.nvme_model.specs.Array.{zeros}
use Rattle.nvme_model.specs.Slots.{slot_block}
use Rattle.nvme_model.specs.declared.operation.Op.{Op}
use Rattle.driver_cas.specs.Cids.{QueueCids, queues_of}
use Rattle.driver_calls.specs.Log.{sent}
use Rattle.driver_calls.specs.Says.{IsCallIn}
use Rattle.driver_calls.specs.Views.{since}
use Rattle.driver_calls.specs.Entries.{IsBatch}
use Rattle.driver_calls.specs.declared.request.CallData.{CallData}
use Rattle.driver_calls.specs.declared.request.Request.{Request}
use Rattle.driver_cas.specs.Drivers.{IsCallOf, IsSameDriver}
use Rattle.driver_cas.specs.SlotStarts.{IsClaimStart, claim_data, last_serial, swap_request}
use Rattle.driver_cas.specs.Starts.{IsStarted, IsTaken}
use Rattle.driver_cas.specs.Tables.{IsHeld}
use Rattle.driver_cas.specs.Tries.{IsTryBegun}
use Rattle.driver_cas.specs.Turns.{IsTurn}
use Rattle.driver_cas.specs.declared.call.Call.{Call}
use Rattle.driver_cas.specs.declared.driver.Driver.{Driver}
use Rattle.driver_cas.specs.declared.fault.Fault.{Fault}
use Rattle.driver_cas.specs.declared.port.Port.{Ghosts}

-- the block of the next name
pub next_block : (host serial : ℕ) (block : List ℕ) → block ≡ slot_block (record { host = host; serial = serial + 1 })
    → block ≡ slot_block (record { host = host; serial = suc serial })
next_block host serial block h = h ∙ ap (λ (n : ℕ). slot_block (record { host = host; serial = n })) (add-one serial)

module _ {P : Type 0} (g : Ghosts P) where
  -- a pair from zeros to a name's block is its claim
  pub as_claim : (d e : Driver P g) (r : Request) (lba serial : ℕ) (block : List ℕ) (result : Result (Call P) Fault)
      → r ≡ swap_request lba → block ≡ slot_block (record { host = d.host; serial = serial })
      → IsTryBegun d e r (CallData.Two zeros block) result
      → IsTryBegun d e (swap_request lba) (claim_data d.host serial) result
  as_claim d e r lba serial block result swap is h =
      subst (λ (z : Request × List ℕ). IsTryBegun d e z.0 (CallData.Two zeros z.1) result) (λ i. (swap i, is i)) h

  -- a claim that isn't begun
  pub not_claimed : (d e : Driver P g) (lba : ℕ) (f : Fault) → IsSameDriver d e → d.serial ≢ last_serial
      → IsTryBegun d e (swap_request lba) (claim_data d.host (suc d.serial)) (Err f) → IsClaimStart d e lba (Err f)
  not_claimed d e lba f same more h = (same.serial, h.0, inr (more, h.1))

  -- ---- the same driver under another serial

  pub call_of_same : (d e : Driver P g) (k : Call P) → e.began ≡ d.began → e.port ≡ d.port → e.cids ≡ d.cids
      → IsCallOf d k → IsCallOf e k
  call_of_same d e k b p c of =
      record {
        later = subst (λ (q : P). g.follows k.start.value q) (sym p) of.later;
        known = subst (λ (t : QueueCids). Contains (queues_of t) k.queue) (sym c) of.known;
        published = subst (λ (z : Snapshot P × P).
            IsCallIn (since (g.log z.0.value) (g.log z.1)) k.queue k.op k.first k.second
            (length (sent (since (g.log z.0.value) (g.log k.start.value)) k.queue))) (λ i. (sym b i, sym p i))
            of.published;
        in_use = subst (λ (t : QueueCids). IsHeld t k.op k.queue k.first k.second) (sym c) of.in_use;
      }

  pub claimed : (d e f : Driver P g) (k : Call P) (lba serial : ℕ) → f.began ≡ e.began → f.port ≡ e.port
      → f.cids ≡ e.cids → serial ≡ suc d.serial → IsStarted d e k Op.Pair lba 1 (claim_data d.host (suc d.serial))
      → IsStarted d f k Op.Pair lba 1 (claim_data d.host serial)
  claimed d e f k lba serial b p c next s =
      record {
        batch = s.batch;
        is = subst (λ (n : ℕ). IsBatch Op.Pair lba 1 k.first k.second (claim_data d.host n) s.batch) (sym next) s.is;
        does = s.does;
        turn = subst (λ (n : ℕ). IsTurn d k.start.value (swap_request lba) (claim_data d.host n) k.queue) (sym next)
            s.turn;
        free = s.free;
        since = s.since;
        accepted = subst (λ (q : P). g.accepts k.start.value q k.queue s.batch) (sym p) s.accepted;
        published = ap₂ (λ (x : Snapshot P) (q : P). since (g.log x.value) (g.log q)) b p ∙ s.published;
        taken = subst (λ (t : QueueCids). IsTaken d.cids t Op.Pair k.queue k.first k.second) (sym c) s.taken;
        of = call_of_same e f k b p c s.of;
        others = λ other of. let x = s.others other of in (call_of_same e f other b p c x.0, x.1);
      }
