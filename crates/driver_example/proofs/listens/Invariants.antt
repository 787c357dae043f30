use Rattle.driver_cas.specs.Drivers.{IsCallOf}
use Rattle.driver_cas.specs.declared.call.Call.{Call}
use Rattle.driver_cas.specs.declared.shared_port.SharedPort.{SharedPort}
use Rattle.driver_example.specs.Hosts.{IsQueueHost}
use Rattle.driver_example.proofs.listens.Given as goal

abbrev pub invariant-loop : goal.invariant-loop
invariant-loop g l = IsQueueHost l.system l.host
    × ((k : Call SharedPort) → IsCallOf l.fn.host.driver k → IsCallOf l.host.driver k)
