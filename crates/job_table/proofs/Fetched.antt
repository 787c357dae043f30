-- The stage of a ticket that was just fetched.
use Rattle.std.proofs.Common.{◌≡◌, ◌+◌, ◌≤◌, ◌==◌, ◌∙◌, ◌∷◌, Bool, List, None, Option, Some, [], ap, arith, cond, false}
use Rattle.std.proofs.Common.{ne_eqb, refl, sym, ℕ}
use Rattle.std.proofs.lemmas.List.Sums.{sum_by-cons}
use Rattle.nvme_model.specs.declared.array.Range.{Range}
use Rattle.nvme_model.specs.declared.config.AtomicParameters.{AtomicParameters}
use Rattle.nvme_model.specs.declared.config.ConfigNumbers.{ConfigNumbers}
use Rattle.nvme_model.specs.declared.operation.Op.{Op}
use Rattle.nvme_model.specs.declared.status.Status.{Status}
use Rattle.nvme_model.specs.declared.status.Verdict.{Verdict}
use Rattle.nvme_model.specs.EntryBytes.{block_count, slba}
use Rattle.nvme_model.specs.Operations.{op, units_by}
use Rattle.nvme_model.specs.Statuses.{success}
use Rattle.nvme_model.specs.Tickets.{Ticket, first_fields}
use Rattle.nvme_model.proofs.StepCounts.{cut_sum}
use Rattle.ticket_laws.specs.Standing.{fresh_standing, blocks_left, owed_by_standing, owed_running, remaining}
use Rattle.ticket_laws.specs.Standing.{still_owed}
use Rattle.ticket_laws.proofs.Left.{blocks_of_all}
use Rattle.fused_match.specs.Judged.{NamesBlocks, operation_in, verdict_by}
use Rattle.fused_match.specs.declared.judged.Judged.{Judged}
use Rattle.fused_match.specs.declared.judged.Judged.TheVariants as judged
use Rattle.job_table.specs.Shown.{stage_by, standing_stage}
use Rattle.job_table.specs.Stages.{first_ticket_stage}
use Rattle.job_table.specs.declared.progress.TicketStage.TheVariants.{Owing, Waiting}

units_all : (u : AtomicParameters) (o : Op) (s n : ℕ) → blocks_of_all (units_by u (Some o) s n) ≡ n
units_all u Op.Pair s n = let r : Range = record { slba = s; blocks = n } in
    omega (arith, sum_by-cons (λ (x : Range). x.blocks) r [])
units_all u Op.Read s n = cut_sum u s n
units_all u Op.Compare s n = cut_sum u s n
units_all u Op.Write s n = cut_sum u s n
units_all u Op.WriteZeroes s n = cut_sum u s n

module _ (c : ConfigNumbers) (k : Ticket) where
  does_nothing : (j : Judged) (ss : List Status) → operation_in j ≡ op k → operation_in j ≡ None
      → owed_by_standing c (fresh_standing k) k.verdict ≡ ss → standing_stage c (fresh_standing k) ≡ Owing ss
  does_nothing j ss e n o = ap (λ (x : Option Op). stage_by c (fresh_standing k) x None) (sym e ∙ n) ∙ ap Owing o

  works : (o : Op) (r : Range) → Some o ≡ op k → r.slba ≡ slba (first_fields k)
      → r.blocks ≡ block_count (first_fields k)
      → standing_stage c (fresh_standing k) ≡ Waiting o 0 r
  works o r e s n =
      let all : remaining c (fresh_standing k) ≡ block_count (first_fields k) =
      ap (λ (x : Option Op).
      blocks_of_all (units_by c.atomic x (slba (first_fields k)) (block_count (first_fields k))))
      (sym e) ∙ units_all c.atomic o (slba (first_fields k)) (block_count (first_fields k)) in
      let one : 1 ≤ block_count (first_fields k) = omega arith in
      let some : ((blocks_left c (fresh_standing k)).blocks == 0) ≡ false =
      ne_eqb (remaining c (fresh_standing k)) 0 (λ (q : remaining c (fresh_standing k) ≡ 0).
      omega (arith, q, all, one)) in
      let starts : slba (first_fields k) + 0 ≡ r.slba = omega (arith, s) in
      ap (λ (x : Option Op). stage_by c (fresh_standing k) x None) (sym e)
      ∙ ap (λ (b : Bool). cond b (Owing (still_owed c (fresh_standing k)))
      (Waiting o 0 (blocks_left c (fresh_standing k)))) some
      ∙ (λ z. Waiting o 0 (record { slba = starts z; blocks = (all ∙ sym n) z }))

  -- it is the first stage of the verdict
  pub fetched : (j : Judged) → verdict_by j ≡ k.verdict → operation_in j ≡ op k → NamesBlocks j (first_fields k)
      → standing_stage c (fresh_standing k) ≡ first_ticket_stage j
  fetched judged.Flush v e n =
      does_nothing judged.Flush (success ∷ []) e refl
      (ap (λ (x : Verdict). owed_by_standing c (fresh_standing k) x) (sym v)
      ∙ ap (λ (x : Option Op). owed_running c (fresh_standing k) x) (sym e))
  fetched (judged.Single o r) v e n = works o r e n.0 n.1
  fetched (judged.Pair r) v e n = works Op.Pair r e n.0 n.1
  fetched (judged.SingleFailed s) v e n =
      does_nothing (judged.SingleFailed s) (s ∷ []) e refl
      (ap (λ (x : Verdict). owed_by_standing c (fresh_standing k) x) (sym v))
  fetched (judged.PairFailed s r) v e n =
      does_nothing (judged.PairFailed s r) (s ∷ r ∷ []) e refl
      (ap (λ (x : Verdict). owed_by_standing c (fresh_standing k) x) (sym v))
