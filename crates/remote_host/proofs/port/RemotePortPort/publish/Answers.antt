use Rattle.std.proofs.Common.{rules}
use Rattle.driver_calls.specs.declared.event.PortEvent.{PortEvent}
use Rattle.remote_host.proofs.Laters.{later_by_one}
use Rattle.remote_host.proofs.port.RemotePortPort.publish.Goals as goal

pub returns-clause-later : goal.returns-clause-later
returns-clause-later c = later_by_one _ _ (PortEvent.Sent c.args.queue c.args.batch) (search rules)
