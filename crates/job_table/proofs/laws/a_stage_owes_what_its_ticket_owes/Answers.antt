use Rattle.job_table.proofs.Owes.{owes}
use Rattle.job_table.proofs.laws.a_stage_owes_what_its_ticket_owes.Goals as goal

pub returns : goal.returns
returns c = record { owes = owes }
