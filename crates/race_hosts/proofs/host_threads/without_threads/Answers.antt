use Rattle.race_hosts.proofs.Playing.{callers_same}
use Rattle.race_hosts.proofs.host_threads.without_threads.Goals as goal

pub returns-clause-back : goal.returns-clause-back
returns-clause-back g c = callers_same c.args.system.now c.args._play.now.config c.args.callers.items c.requires.callers
