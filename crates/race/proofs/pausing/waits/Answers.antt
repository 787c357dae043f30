use Rattle.race.proofs.Waiting.{stays}
use Rattle.race.proofs.pausing.waits.Goals as goal

pub returns-clause-stage : goal.returns-clause-stage
returns-clause-stage g c =
    stays c.args._fates.now c.args.host.now c.pause.new.host c.pause.ensures.queue c.pause.ensures.reading
    c.pause.ensures.taking c.pause.ensures.held c.pause.ensures.giving c.args.stage c.requires.stage
