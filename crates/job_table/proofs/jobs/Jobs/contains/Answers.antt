use Rattle.std.proofs.Common.{ap, is_some, sym, ◌∙◌}
use Rattle.job_table.proofs.Rising.{is_some-key_of}
use Rattle.job_table.proofs.Slots.{has_in, rises_in}
use Rattle.job_table.proofs.jobs.Jobs.contains.Goals as goal

pub returns-clause-value : goal.returns-clause-value
returns-clause-value c =
    rw (← c.self.view_is)
    (c.is_some.ensures ∙ ap is_some c.find.ensures.key ∙ is_some-key_of c.self.inside.index.keyed c.args.ticket
    ∙ sym (has_in _ _ c.args.ticket c.self.invariant.each))

pub returns-clause-law : goal.returns-clause-law
returns-clause-law c = rw (← c.self.view_is) (rises_in _ _ c.self.invariant.each c.self.invariant.rising)
