use Rattle.thread_tests.proofs.Listening.{hosts_listen}
use Rattle.thread_tests.proofs.played.listening.Goals as goal

pub returns : goal.returns
returns g c = hosts_listen c.args._system.now c.args._config.now c.args.hosts.items c.requires
