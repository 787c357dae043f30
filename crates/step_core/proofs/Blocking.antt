-- A Block: why it is refused.
use Rattle.std.proofs.Common.{◌≡◌, ◌≢◌, ◌==◌, ◌↔◌, ℕ, Bool, true, false, not, cond, refl, sym, ap, ◌∙◌, Option, Some}
use Rattle.std.proofs.Common.{None, option_map, is_some}
use Rattle.std.specs.Prelude.{IsTrue}
use Rattle.nvme_model.specs.declared.config.ConfigNumbers.{ConfigNumbers}
use Rattle.nvme_model.specs.declared.entry.GrantLine.{GrantLine}
use Rattle.nvme_model.specs.declared.operation.Op.{Op}
use Rattle.nvme_model.specs.declared.refusal.Why.{Why}
use Rattle.nvme_model.specs.declared.step.Step.{Step}
use Rattle.nvme_model.specs.History.{Past}
use Rattle.nvme_model.specs.Open.{open_units}
use Rattle.nvme_model.specs.Operations.{op}
use Rattle.nvme_model.specs.Refusals.{has_open, refusal}
use Rattle.nvme_model.specs.Tickets.{ticket}
use Rattle.ticket_laws.specs.Standing.{Standing, blocks_left, standing, still_owed, unit_of}
use Rattle.block_exec.specs.Progress.{UnitProgress}
use Rattle.job_table.specs.Shown.{stage_by}
use Rattle.job_table.specs.Stages.{is_open}
use Rattle.job_table.specs.declared.progress.TicketStage.{TicketStage}
use Rattle.job_table.specs.declared.progress.TicketStage.TheVariants.{Owing, Waiting}
use Rattle.job_table.proofs.Granted.{none_found}
use Rattle.job_table.specs.Keeping.{Keeping}
use Rattle.job_table.specs.Tickets.{job_at}
use Rattle.step_core.specs.Found.{IsJob}
use Rattle.step_core.proofs.BlockData.{stage_is, unit_there}
use Rattle.step_core.proofs.Granting.{job_stage}

abbrev block_tests : Bool → Bool → Option Why
block_tests flies works = cond (not flies) (Some Why.NoTicket) (cond (not works) (Some Why.WrongState) None)

-- no stage is open without a unit
none_open : (c : ConfigNumbers) (s : Standing) (o : Option Op) → is_open (stage_by c s o None) ≡ false
none_open c s None = refl
none_open c s (Some o) = go ((blocks_left c s).blocks == 0)
  where
    go : (b : Bool) → is_open (cond b (Owing (still_owed c s)) (Waiting o s.opened (blocks_left c s))) ≡ false
    go true = refl
    go false = refl

-- a run is told where a unit is open
pub told : (s : TicketStage) (o : Option UnitProgress) → IsTrue (is_open s) ↔ (o ≢ None) → is_some o ≡ is_open s
told s o e = go (is_open s) o e
  where
    go : (b : Bool) (o : Option UnitProgress) → IsTrue b ↔ (o ≢ None) → is_some o ≡ b
    go true None e = absurd (e.0 refl refl)
    go true (Some p) e = refl
    go false None e = refl
    go false (Some p) e = absurd (let both : false ≡ true = e.1 (λ (n : Some p ≡ None). absurd cc) in cc)

module _ (c : ConfigNumbers) (past : Past) (t : ℕ) (x : Keeping) (i : IsJob c past t x) where
  opens : is_open x.progress.stage ≡ has_open past t
  opens = ap (λ (y : Keeping). is_open y.progress.stage) i.is ∙ go (has_open past t) refl
    where
      go : (b : Bool) → has_open past t ≡ b → is_open (job_at c past t).progress.stage ≡ b
      go true e = let u = unit_there c past t i.legal e in ap is_open (stage_is c past t i.legal u.0 u.1 u.2)
      go false e =
          ap is_open (job_stage c (standing past t))
          ∙ ap (λ (g : Option GrantLine).
          is_open (stage_by c (standing past t) (op (ticket past t)) (option_map (unit_of past) g)))
          (none_found (λ (g : GrantLine). g.ticket == t) (open_units past) e)
          ∙ none_open c (standing past t) (op (ticket past t))

  -- by whether a unit is open
  pub block_tested : (b : Bool) → b ≡ is_open x.progress.stage
      → refusal c past (Step.Block t) ≡ cond b None (Some Why.WrongState)
  block_tested b e = (λ z. block_tests (i.flies z) (sym opens z)) ∙ ap (block_tests true) (sym e) ∙ by b
    where
      by : (b : Bool) → block_tests true b ≡ cond b None (Some Why.WrongState)
      by true = refl
      by false = refl
