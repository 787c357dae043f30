-- What the handles of slot hosts own.
use Rattle.driver_cas.specs.contracts.shared_port.SharedPortPort.TheImpl.{ghosts}
use Rattle.driver_cas.specs.declared.shared_port.SharedPort.{SharedPort}
use Rattle.remote_host.specs.contracts.port.RemotePortPort.TheImpl.{ghosts as remote_ghosts}
use Rattle.remote_host.specs.declared.port.RemotePort.{RemotePort}
use Rattle.slot_host.specs.SlotStates.{SlotState}

-- a slot host of a disk
abbrev pub DiskSlots : Type 0
DiskSlots = SlotState SharedPort ghosts

-- one whose controller is somewhere else
abbrev pub RemoteSlots : Type 0
RemoteSlots = SlotState RemotePort remote_ghosts
