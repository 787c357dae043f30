use Rattle.std.proofs.Common.{ap, is_some, ◌∙◌}
use Rattle.job_table.proofs.TicketLookups.{is_some-job_of}
use Rattle.step_core.proofs.controller.post.take_due.Goals as goal

pub unwrap-requires : goal.unwrap-requires
unwrap-requires c = ap is_some c.remove.ensures.value ∙ is_some-job_of c.args.jobs.now.jobs c.args.due.ticket
    ∙ c.requires.flies
