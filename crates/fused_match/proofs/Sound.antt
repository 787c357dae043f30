-- What is judged of a ticket is sound.
use Rattle.std.proofs.Common.{ap, ap₂, arith, is_some, sym, true, ℕ, ◌+◌, ◌∙◌, ◌≡◌, ◌≤◌}
use Rattle.nvme_model.specs.Array.{IsRange}
use Rattle.nvme_model.specs.Cells.{pair_fits}
use Rattle.nvme_model.specs.EntryBytes.{slba}
use Rattle.nvme_model.specs.Operations.{is_pair, op, op_by}
use Rattle.nvme_model.specs.Tickets.{Ticket, first_fields}
use Rattle.nvme_model.specs.declared.array.Range.{Range}
use Rattle.nvme_model.specs.declared.config.AtomicParameters.{AtomicParameters}
use Rattle.nvme_model.specs.declared.config.ConfigNumbers.{ConfigNumbers}
use Rattle.nvme_model.specs.declared.status.Verdict.{Verdict}
use Rattle.nvme_model.proofs.Checked.{TicketChecked}
use Rattle.nvme_model.proofs.NextPost.{not_pair}
use Rattle.fused_match.specs.Judged.{IsSound, IsSoundFor, NamesBlocks, operation_in, verdict_by}
use Rattle.fused_match.specs.declared.judged.Judged.{Judged}
use Rattle.fused_match.specs.declared.judged.Judged.TheVariants as judged

-- a range within a volume
range_fits : (r : Range) (s n m : ℕ) → r.slba ≡ s → r.blocks ≡ n + 1 → s + (n + 1) ≤ m → m ≤ 65536 → IsRange r
range_fits r s n m a b l most = (omega (arith, b), omega (arith, a, b, l, most))

-- one that passed its checks has blocks of the volume, and a pair of them fits
pub sound_for : (c : ConfigNumbers) (j : Judged) (k : Ticket) → verdict_by j ≡ k.verdict → operation_in j ≡ op k
    → NamesBlocks j (first_fields k) → (is_some (op k) ≡ true → TicketChecked c k) → c.blocks ≤ 65536
    → IsSoundFor c.atomic j
sound_for c judged.Flush k v o n check most = tt
sound_for c (judged.Single x r) k v o n check most = (
  ap is_pair o ∙ ap (λ (w : Verdict). is_pair (op_by w (first_fields k))) (sym v) ∙ not_pair (first_fields k),
  range_fits r (slba (first_fields k)) _ c.blocks n.0 n.1 (check (sym (ap is_some o))).first.inside most,
)
sound_for c (judged.Pair r) k v o n check most =
    let checked = check (sym (ap is_some o)) in (
      range_fits r (slba (first_fields k)) _ c.blocks n.0 n.1 checked.first.inside most,
      ap₂ (λ (s b : ℕ). pair_fits c.atomic s b) n.0 n.1 ∙ (checked.pair (sym (ap is_pair o))).fits,
    )
sound_for c (judged.SingleFailed s) k v o n check most = tt
sound_for c (judged.PairFailed s r) k v o n check most = tt

-- what is sound for a controller is sound
pub sound_of : (u : AtomicParameters) (j : Judged) → IsSoundFor u j → IsSound j
sound_of u judged.Flush h = h
sound_of u (judged.Single x r) h = h
sound_of u (judged.Pair r) h = h.0
sound_of u (judged.SingleFailed s) h = h
sound_of u (judged.PairFailed s r) h = h
