use Rattle.race_hosts.proofs.Going.{stays}
use Rattle.race_hosts.proofs.pausing.busy_turn.Goals as goal

pub returns-clause-stage : goal.returns-clause-stage
returns-clause-stage g c =
    stays c.args.host.now c.pause.new.host c.pause.ensures.held c.pause.ensures.claiming c.pause.ensures.unreleased
    c.pause.ensures.releasing c.args.stage c.requires.stage
