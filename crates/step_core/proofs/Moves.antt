-- What each step leaves as it is.
use Rattle.std.proofs.Common.{◌≡◌, ◌≢◌, ℕ, true, false, cond, ◌∷◌, sym, ap, ◌∙◌, subst, eq-eqb, Option, Some, None}
use Rattle.nvme_model.specs.declared.config.ConfigNumbers.{ConfigNumbers}
use Rattle.nvme_model.specs.declared.entry.Entry.{Entry}
use Rattle.nvme_model.specs.declared.refusal.Why.{Why}
use Rattle.nvme_model.specs.declared.step.Step.{Step}
use Rattle.nvme_model.specs.History.{Past}
use Rattle.nvme_model.specs.Tickets.{in_flight}
use Rattle.nvme_model.specs.Refusals.{refusal}
use Rattle.nvme_model.specs.Steps.{next_entry, after_by}
use Rattle.ticket_laws.specs.Standing.{flying, standing}
use Rattle.nvme_model.specs.Legal.{IsLegal}
use Rattle.nvme_model.proofs.EveryRun.{after_kept}
use Rattle.nvme_model.specs.Kept.{ControllerInvariant}
use Rattle.ticket_laws.proofs.Flying.{has_flying}
use Rattle.job_table.specs.Jobs.{jobs_by, job_of, replaced}
use Rattle.job_table.proofs.Tables.{replaced-jobs_by_agree, job_of-jobs_by}
use Rattle.job_table.specs.Tickets.{job_by, job_at}

-- an accepted step keeps the history legal and its marks right
pub stepped : (c : ConfigNumbers) (past : Past) (step : Step) → ControllerInvariant c past → refusal c past step ≡ None
    → ControllerInvariant c (next_entry c past step ∷ past)
stepped c past step k none =
    subst (λ (o : Option Why). ControllerInvariant c (after_by c past step o)) none (after_kept c past step k)

-- the same by the entry
pub legal_after : (c : ConfigNumbers) (past : Past) (step : Step) (e : Entry) → ControllerInvariant c past
    → refusal c past step ≡ None
    → e ≡ next_entry c past step → IsLegal c (e ∷ past)
legal_after c past step e k none same =
    subst (λ (x : Entry). IsLegal c (x ∷ past)) (sym same) (stepped c past step k none).legal

-- where the ticket flies its job is found
pub job_found : (c : ConfigNumbers) (past : Past) (t : ℕ) → IsLegal c past
    → job_of (jobs_by (job_at c past) (flying past)) t ≡ cond (in_flight past t) (Some (job_at c past t)) None
job_found c past t h = job_of-jobs_by (job_at c past) (flying past) t
    ∙ ap (λ b. cond b (Some (job_at c past t)) None) (has_flying c past t h)

-- where a step moves one ticket alone, the table has another job for it
pub jobs_moved : (c : ConfigNumbers) (past : Past) (e : Entry) (t : ℕ)
    → ((s : ℕ) → s ≢ t → standing (e ∷ past) s ≡ standing past s)
    → replaced (jobs_by (job_at c past) (flying past)) t (job_at c (e ∷ past) t)
    ≡ jobs_by (job_at c (e ∷ past)) (flying past)
jobs_moved c past e t move =
    replaced-jobs_by_agree (job_at c past) (job_at c (e ∷ past)) (flying past) t
    (record {
      at = λ u k n. ap (job_by c)
          (sym (move u (λ q. absurd (let x : true ≡ false = sym (eq-eqb u t q) ∙ n in cc))));
    })
