use Rattle.nvme_model.proofs.StepCounts.{grants_within, blocks_within, idle_counts}
use Rattle.nvme_model.proofs.laws.a_ticket_has_few_steps.Goals as goal

pub returns : goal.returns
returns c = record { grants = grants_within; blocks = blocks_within; idle = idle_counts }
