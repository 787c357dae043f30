-- The two entries of a call that claims a slot, or that releases it.
use Rattle.std.proofs.Common.{List, Some, [], ap, arith, refl, true, ℕ, ◌%◌, ◌*◌, ◌+◌, ◌/◌, ◌^◌, ◌∙◌, ◌∷◌, ◌≡◌}
use Rattle.nvme_model.specs.EntryBytes.{slba}
use Rattle.nvme_model.specs.Slots.{Name, is_pair_on_one, name_of, slot_block, swaps_in}
use Rattle.nvme_model.specs.declared.operation.Op.{Op}
use Rattle.nvme_model.specs.declared.submission.Submission.{Submission}
use Rattle.host_laws.specs.Calls.{is_proper}
use Rattle.host_laws.specs.Claims.{lba_of}
use Rattle.host_laws.proofs.Publishing.{claim_at, claim_swaps, release_at, release_swaps}
use Rattle.host_laws.proofs.Spelling.{name_spelled}
use Rattle.driver_calls.specs.Entries.{IsBatch}
use Rattle.driver_calls.specs.declared.request.CallData.{CallData}
use Rattle.driver_calls.proofs.Calls.{call_on_one}
use Rattle.driver_calls.proofs.Commands.{command_proper, halves}
use Rattle.slot_log_laws.specs.Calls.{IsClaimBatch, IsName, IsReleaseBatch}

-- what the entries of a fused pair of one block have
pub record PairOf (l : ℕ) (expected desired : List ℕ) (batch : List Submission) : Type 0 where
  pub first : Submission
  pub second : Submission
  pub are : batch ≡ first ∷ second ∷ []
  pub on_one : is_pair_on_one first second ≡ true
  pub lba : lba_of first ≡ l
  pub old : first.payload ≡ expected
  pub new : second.payload ≡ desired
  pub first_proper : is_proper first ≡ true
  pub second_proper : is_proper second ≡ true

pub pair_of : (l first second : ℕ) (expected desired : List ℕ) (batch : List Submission)
    → IsBatch Op.Pair l 1 first second (CallData.Two expected desired) batch → PairOf l expected desired batch
pair_of l first second expected desired [] h = absurd h
pair_of l first second expected desired (s ∷ []) h = absurd h
pair_of l first second expected desired (s ∷ t ∷ []) h =
    record {
      first = s;
      second = t;
      are = refl;
      on_one = call_on_one l first second (CallData.Two expected desired) s t h;
      lba = ap slba h.0.entry.1 ∙ halves l;
      old = h.0.beside;
      new = h.1.beside;
      first_proper = command_proper s 5 1 first l 1 expected (omega arith) (omega arith) (omega arith) h.0;
      second_proper = command_proper t 1 2 second l 1 desired (omega arith) (omega arith) (omega arith) h.1;
    }
pair_of l first second expected desired (s ∷ t ∷ u ∷ batch) h = absurd h

pub spelled : (n : Name) → IsName n → name_of (slot_block n) ≡ Some n
spelled n h = name_spelled n h.host h.host_fits h.serial h.serial_fits

-- a claim's batch has one claim
pub claim_batch : (q j l first second : ℕ) (n : Name) (batch : List Submission) → IsName n
    → IsClaimBatch l first second n batch → swaps_in q j batch ≡ claim_at q j l n ∷ []
claim_batch q j l first second n batch h k =
    let p = pair_of l first second _ (slot_block n) batch k in
    ap (swaps_in q j) p.are
    ∙ (claim_swaps q j p.first p.second n p.on_one p.old (ap name_of p.new ∙ spelled n h)
    ∙ ap (λ (i : ℕ). claim_at q j i n ∷ []) p.lba)

-- and a release's one release
pub release_batch : (q j l first second : ℕ) (n : Name) (batch : List Submission) → IsName n
    → IsReleaseBatch l first second n batch → swaps_in q j batch ≡ release_at q j l n ∷ []
release_batch q j l first second n batch h k =
    let p = pair_of l first second (slot_block n) _ batch k in
    ap (swaps_in q j) p.are
    ∙ (release_swaps q j p.first p.second n p.on_one (ap name_of p.old ∙ spelled n h) p.new
    ∙ ap (λ (i : ℕ). release_at q j i n ∷ []) p.lba)
