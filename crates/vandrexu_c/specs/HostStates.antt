-- What the handles of hosts own.
use Rattle.std.specs.Prelude.{List, ℕ}
use Rattle.driver_cas.specs.contracts.shared_port.SharedPortPort.TheImpl.{ghosts}
use Rattle.driver_cas.specs.declared.port.Port.{Ghosts}
use Rattle.driver_cas.specs.declared.shared_port.SharedPort.{SharedPort}
use Rattle.remote_host.specs.HostStates.{HostState as Host}

-- a host with many calls, and what was read last
pub record Driven (P : Type 0) (g : Ghosts P) : Type 0 where
  pub host : Host P g
  pub payload : List ℕ

-- one of a disk
abbrev pub HostState : Type 0
HostState = Driven SharedPort ghosts
