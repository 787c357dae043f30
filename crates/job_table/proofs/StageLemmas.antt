-- What is kept of where a ticket stands.
use Rattle.std.proofs.Common.{List, Some, arith, false, length, refl, sym, ℕ, ◌∙◌, ◌≡◌}
use Rattle.nvme_model.specs.Operations.{command_count, is_pair}
use Rattle.nvme_model.specs.Verdict.{taken_entries}
use Rattle.nvme_model.specs.declared.operation.Op.{Op}
use Rattle.fused_match.specs.Judged.{IsSound, verdict_by}
use Rattle.fused_match.specs.declared.judged.Judged.{Judged}
use Rattle.fused_match.specs.declared.judged.Judged.TheVariants as judged
use Rattle.job_table.specs.Stages.{IsTicketProgress, first_ticket_stage}

-- what is no pair has one command
one_command : (o : Op) → is_pair (Some o) ≡ false → command_count o ≡ 1
one_command Op.Read e = refl
one_command Op.Compare e = refl
one_command Op.Write e = refl
one_command Op.WriteZeroes e = refl
one_command Op.Pair e = absurd cc

-- it is so of a ticket that was just fetched
pub first_is : (j : Judged) (cids : List ℕ) → length cids ≡ taken_entries (verdict_by j) → IsSound j
    → IsTicketProgress (first_ticket_stage j) cids
first_is judged.Flush cids e s = sym e
first_is (judged.Single o r) cids e s =
    record { range = s.1; few = omega (arith, s.1.1); each = e ∙ sym (one_command o s.0) }
first_is (judged.Pair r) cids e s = record { range = s; few = omega (arith, s.1); each = e }
first_is (judged.SingleFailed f) cids e s = sym e
first_is (judged.PairFailed f g) cids e s = sym e
