-- What contracts say of a host and a server.
use Rattle.std.specs.Prelude.{Bool, nat_le, ℕ, ◌&&◌, ◌==◌}
use Rattle.nvme_model.specs.Config.{completion_queue}
use Rattle.nvme_model.specs.declared.config.ConfigNumbers.{ConfigNumbers}
use Rattle.meet_lock.specs.Passes.{IsSame}
use Rattle.work_queue.specs.Engines.{IsPassOfEngine}
use Rattle.driver_cas.specs.Drivers.{port_of}
use Rattle.driver_cas.specs.Listening.{IsPlaceFor}
use Rattle.driver_cas.specs.Ports.{pass_of}
use Rattle.driver_testing.specs.declared.host.TestHost.{TestHost}
use Rattle.shared_system.specs.Servers.{IsServing}
use Rattle.shared_system.specs.declared.plain.PlainCaller.{PlainCaller}
use Rattle.shared_system.specs.declared.plain.PlainSystem.{PlainSystem}

-- submission queue q is there, and uses completion queue n
abbrev pub uses : ConfigNumbers → ℕ → ℕ → Bool
uses c n q = nat_le 1 q && nat_le q c.pairs && (completion_queue c q == n)

-- with the same pass, which goes on to serve
abbrev pub ServesOn : PlainCaller → PlainCaller → Type 0
ServesOn s t = IsSame s.pass t.pass × (IsServing s.pass → IsServing t.pass)

-- the host is one of this system
abbrev pub IsTestHost : PlainSystem → TestHost → Type 0
IsTestHost b h =
    IsPlaceFor (port_of h.driver) b.notices h.place × IsPassOfEngine b.engine (pass_of (port_of h.driver))
