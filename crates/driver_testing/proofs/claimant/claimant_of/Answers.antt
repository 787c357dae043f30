use Rattle.driver_testing.proofs.Claimants.{uses_own}
use Rattle.driver_testing.proofs.claimant.claimant_of.Goals as goal

pub host_of-requires-clause-uses : goal.host_of-requires-clause-uses
host_of-requires-clause-uses c =
    uses_own c.args.system.now.config c.args.h _ c.requires.number.0 c.requires.number.1 c.requires.own c.in-Ok.ensures
