-- A takeover after its start, under the serial that it draws.
use Rattle.std.proofs.Common.{List, ap₂, inr, subst, suc, sym, ℕ, ◌∙◌, ◌≡◌, ◌≢◌}
use Rattle.std.specs.Prelude.{Err, Result}
use Rattle.std.specs.declared.snapshot.Snapshot.{Snapshot}
use Rattle.nvme_model.specs.Slots.{slot_block}
use Rattle.nvme_model.specs.declared.operation.Op.{Op}
use Rattle.driver_cas.specs.Cids.{QueueCids}
use Rattle.driver_calls.specs.Entries.{IsBatch}
use Rattle.driver_calls.specs.Views.{since}
use Rattle.driver_calls.specs.declared.request.CallData.{CallData}
use Rattle.driver_calls.specs.declared.request.Request.{Request}
use Rattle.driver_cas.specs.Drivers.{IsSameDriver}
use Rattle.driver_cas.specs.SlotStarts.{last_serial, swap_request}
use Rattle.driver_cas.specs.Starts.{IsStarted, IsTaken}
use Rattle.driver_cas.specs.TakeoverStarts.{IsTakeoverStart, takeover_data}
use Rattle.driver_cas.specs.Tries.{IsTryBegun}
use Rattle.driver_cas.specs.Turns.{IsTurn}
use Rattle.driver_cas.specs.declared.call.Call.{Call}
use Rattle.driver_cas.specs.declared.driver.Driver.{Driver}
use Rattle.driver_cas.specs.declared.fault.Fault.{Fault}
use Rattle.driver_cas.specs.declared.port.Port.{Ghosts}
use Rattle.driver_cas.proofs.Drawing.{call_of_same}

module _ {P : Type 0} (g : Ghosts P) where
  -- a pair from a dead name's block to a name's block is its takeover
  pub as_takeover : (d e : Driver P g) (r : Request) (lba host dead serial : ℕ) (old block : List ℕ)
      (result : Result (Call P) Fault) → r ≡ swap_request lba
      → old ≡ slot_block (record { host = host; serial = dead })
      → block ≡ slot_block (record { host = d.host; serial = serial })
      → IsTryBegun d e r (CallData.Two old block) result
      → IsTryBegun d e (swap_request lba) (takeover_data host dead d.host serial) result
  as_takeover d e r lba host dead serial old block result swap was is h =
      subst (λ (z : Request × List ℕ × List ℕ). IsTryBegun d e z.0 (CallData.Two z.1 z.2) result)
      (λ i. (swap i, was i, is i)) h

  -- a takeover that isn't begun
  pub not_taking : (d e : Driver P g) (lba host dead : ℕ) (f : Fault) → IsSameDriver d e → d.serial ≢ last_serial
      → IsTryBegun d e (swap_request lba) (takeover_data host dead d.host (suc d.serial)) (Err f)
      → IsTakeoverStart d e lba host dead (Err f)
  not_taking d e lba host dead f same more h = (same.serial, h.0, inr (more, h.1))

  -- and one that is, under the serial that is drawn
  pub taking : (d e f : Driver P g) (k : Call P) (lba host dead serial : ℕ) → f.began ≡ e.began → f.port ≡ e.port
      → f.cids ≡ e.cids → serial ≡ suc d.serial
      → IsStarted d e k Op.Pair lba 1 (takeover_data host dead d.host (suc d.serial))
      → IsStarted d f k Op.Pair lba 1 (takeover_data host dead d.host serial)
  taking d e f k lba host dead serial b p c next s =
      record {
        batch = s.batch;
        is = subst (λ (n : ℕ). IsBatch Op.Pair lba 1 k.first k.second (takeover_data host dead d.host n) s.batch)
            (sym next) s.is;
        does = s.does;
        turn = subst (λ (n : ℕ).
            IsTurn d k.start.value (swap_request lba) (takeover_data host dead d.host n) k.queue) (sym next) s.turn;
        free = s.free;
        since = s.since;
        accepted = subst (λ (q : P). g.accepts k.start.value q k.queue s.batch) (sym p) s.accepted;
        published = ap₂ (λ (x : Snapshot P) (q : P). since (g.log x.value) (g.log q)) b p ∙ s.published;
        taken = subst (λ (t : QueueCids). IsTaken d.cids t Op.Pair k.queue k.first k.second) (sym c) s.taken;
        of = call_of_same g e f k b p c s.of;
        others = λ other of. let x = s.others other of in (call_of_same g e f other b p c x.0, x.1);
      }
