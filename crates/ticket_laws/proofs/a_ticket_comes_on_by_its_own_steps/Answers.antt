use Rattle.ticket_laws.proofs.Stages.{block_stage, grant_stage, post_stage, run_over}
use Rattle.ticket_laws.proofs.a_ticket_comes_on_by_its_own_steps.Goals as goal

pub returns-clause-granted : goal.returns-clause-granted
returns-clause-granted c = grant_stage

pub returns-clause-made : goal.returns-clause-made
returns-clause-made c = block_stage

pub returns-clause-posted : goal.returns-clause-posted
returns-clause-posted c = post_stage

pub returns-clause-over : goal.returns-clause-over
returns-clause-over c = run_over
