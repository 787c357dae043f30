-- The blocks that a ticket writes which is fetched, in the data beside its entries.
use Rattle.std.proofs.Common.{◌≡◌, ℕ, ◌≤◌, ◌<◌, true, List, [], get_or, length, take, is_some, refl, sym, ap, ap₂, ◌∙◌}
use Rattle.std.proofs.Common.{arith}
use Rattle.std.proofs.lemmas.List.{get_or-take}
use Rattle.nvme_model.specs.Operations.{op}
use Rattle.nvme_model.specs.Verdict.{taken_entries}
use Rattle.nvme_model.specs.declared.config.ConfigNumbers.{ConfigNumbers}
use Rattle.nvme_model.specs.declared.operation.Op.{Op}
use Rattle.nvme_model.specs.declared.submission.Submission.{Submission}
use Rattle.nvme_model.proofs.Checked.{TicketChecked}
use Rattle.ticket_laws.proofs.Lengths.{has_data_if}
use Rattle.block_exec.specs.Bytes.{first_blocks}
use Rattle.fused_match.specs.Judged.{operation_in, verdict_by}
use Rattle.fused_match.specs.declared.judged.Judged.{Judged}
use Rattle.fused_match.specs.declared.judged.Judged.TheVariants as judged
use Rattle.job_table.specs.Beginning.{HasBlocks, payload_at, write_first}
use Rattle.job_table.specs.Tickets.{write_blocks, write_blocks_by}
use Rattle.step_core.proofs.FetchedJob.{Names, no_pair, ticket_by}

-- the data beside the i-th of the entries that are taken
data_beside : (ws : List Submission) (n i : ℕ) → i < n
    → (get_or (take n ws) i (record { entry = []; payload = [] })).payload ≡ payload_at ws i
data_beside ws n i l = ap (λ (s : Submission). s.payload) (get_or-take n ws i (record { entry = []; payload = [] }) l)

-- the data has the blocks that the ticket writes
pub has_blocks : (c : ConfigNumbers) (q : ℕ) (j : Judged) (ws : List Submission)
    → Names j (ticket_by q j (take (taken_entries (verdict_by j)) ws)) → taken_entries (verdict_by j) ≤ length ws
    → (is_some (op (ticket_by q j (take (taken_entries (verdict_by j)) ws))) ≡ true
    → TicketChecked c (ticket_by q j (take (taken_entries (verdict_by j)) ws))) → HasBlocks j ws
has_blocks c q judged.Flush ws h l check = tt
has_blocks c q (judged.Single Op.Read r) ws h l check = tt
has_blocks c q (judged.Single Op.Compare r) ws h l check = tt
has_blocks c q (judged.Single Op.WriteZeroes r) ws h l check = tt
has_blocks c q (judged.Single Op.Pair r) ws h l check = tt
has_blocks c q (judged.Single Op.Write r) ws h l check =
    let has = has_data_if c (ticket_by q (judged.Single Op.Write r) (take 1 ws))
    (check (sym (ap is_some h.operation))) in (
      omega (arith, l),
      omega
          (arith, has.write (sym h.operation), h.range.1, ap length (data_beside ws 1 0 (omega arith))),
    )
has_blocks c q (judged.Pair r) ws h l check =
    let has = has_data_if c (ticket_by q (judged.Pair r) (take 2 ws)) (check (sym (ap is_some h.operation))) in (
      omega (arith, l),
      omega
          (arith, has.pair (sym h.operation), h.range.1, ap length (data_beside ws 2 1 (omega arith))),
    )
has_blocks c q (judged.SingleFailed s) ws h l check = tt
has_blocks c q (judged.PairFailed s r) ws h l check = tt

-- and they are those
pub blocks_are : (q : ℕ) (j : Judged) (ws : List Submission)
    → Names j (ticket_by q j (take (taken_entries (verdict_by j)) ws))
    → write_first j ws ≡ write_blocks (ticket_by q j (take (taken_entries (verdict_by j)) ws))
blocks_are q j ws h = by j h
    ∙ ap (λ o. write_blocks_by o (ticket_by q j (take (taken_entries (verdict_by j)) ws))) h.operation
  where
    by : (j : Judged) → Names j (ticket_by q j (take (taken_entries (verdict_by j)) ws))
        → write_first j ws ≡ write_blocks_by (operation_in j) (ticket_by q j (take (taken_entries (verdict_by j)) ws))
    by judged.Flush h = refl
    by (judged.Single Op.Read r) h = refl
    by (judged.Single Op.Compare r) h = refl
    by (judged.Single Op.WriteZeroes r) h = refl
    by (judged.Single Op.Write r) h = ap₂ first_blocks h.range.1 (sym (data_beside ws 1 0 (omega arith)))
    by (judged.Single Op.Pair r) h = absurd (no_pair q r (take 1 ws) h)
    by (judged.Pair r) h = ap₂ first_blocks h.range.1 (sym (data_beside ws 2 1 (omega arith)))
    by (judged.SingleFailed s) h = refl
    by (judged.PairFailed s r) h = refl
