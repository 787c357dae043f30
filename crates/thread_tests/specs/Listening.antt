-- What contracts say of a host that will have seen something.
use Rattle.std.specs.Prelude.{◌-◌}
use Rattle.work_queue.specs.Engines as engine
use Rattle.shared_system.specs.Callers.{IsPlaceAt}
use Rattle.shared_system.specs.declared.system.System.{System}
use Rattle.shared_system.specs.declared.system.HostPasses.{HostPasses}

module _ {G : Type 0} where
  -- its passes are of what the system shares, whatever the host has seen
  abbrev pub IsListening : System G → HostPasses → Type 0
  IsListening system h = engine.IsPassOfEngine system.engine h.pass × IsPlaceAt system (h.queue - 1) h.notices
