-- What contracts say of the host of this program.
use Rattle.std.specs.Prelude.{length, ◌≤◌}
use Rattle.work_queue.specs.Engines as engine
use Rattle.shared_system.specs.Callers.{IsPlaceAt}
use Rattle.shared_system.specs.declared.system.System.{System}
use Rattle.driver_cas.specs.Drivers.{port_of}
use Rattle.driver_cas.specs.Ports.{pass_of}
use Rattle.driver_example.specs.declared.QueueHost.{QueueHost}

module _ {G : Type 0} where
  -- Its driver is of the system's engine, and its pass of the queue of notices of completion queue 1.
  pub record IsQueueHost (system : System G) (h : QueueHost) : Type 0 where
    pub of : engine.IsPassOfEngine system.engine (pass_of (port_of h.driver))
    pub some : 1 ≤ length system.notices.items
    pub place : IsPlaceAt system 0 h.notices
