-- A slot host, of a disk and one whose controller is somewhere else, may go to another thread.
use denote.Param.Send.{IsSend, enum_send, recorded_send, struct_send, sendable, view_send}
use denote.Enum.Declared.{shape as enum_shape}
use denote.Signature.{static_lft}
use denote.Struct.Declared.{shape}
use Rattle.std.proofs.Crossing.{Vec-send, crosses}
use Rattle.driver_cas.specs.contracts.shared_port.SharedPort as port
use Rattle.driver_cas.specs.contracts.shared_port.SharedPortPort.TheImpl.{ghosts}
use Rattle.c_handles.proofs.Sent.{driver_send}
use Rattle.remote_host.specs.contracts.port.RemotePort as remote
use Rattle.remote_host.specs.contracts.port.RemotePortPort.TheImpl.{ghosts as remote_ghosts}
use Rattle.slot_alloc.specs.contracts.claiming.Claiming as claiming
use Rattle.slot_alloc.specs.contracts.release.Releasing as releasing
use Rattle.slot_alloc.specs.contracts.slots.Slots as slots
use Rattle.slot_host.specs.contracts.hold.Hold as hold
use Rattle.slot_host.specs.contracts.slot_host.SlotHost as host
use Rattle.slot_host.specs.contracts.under_way.UnderWay as calls
use Rattle.slot_takeover.specs.contracts.holder.ReadingHolder as reading
use Rattle.slot_takeover.specs.contracts.taking.TakingOver as taking
use Rattle.vandrexu_c.specs.contracts.remote_slots.RemoteSlotHost as remote_host
use Rattle.vandrexu_c.specs.contracts.remote_slots.RemoteSlotHost.TheInside as remote_inside
use Rattle.vandrexu_c.specs.contracts.disk_slots.DiskSlotHost as disk_host
use Rattle.vandrexu_c.specs.contracts.disk_slots.DiskSlotHost.TheInside as disk_inside
use Rattle.vandrexu_c.proofs.RemoteSent.{remote_driver_send}

slots_send : IsSend (slots.the_field).row
slots_send = search (crosses, sendable) depth 20

hold_send : IsSend hold.the_row
hold_send = search (crosses, sendable) depth 20

-- ---- of a disk

claiming_send : IsSend (claiming.the_field (port.the_row static_lft) ghosts).row
claiming_send = search (crosses, sendable) depth 20

releasing_send : IsSend (releasing.the_field (port.the_row static_lft)).row
releasing_send = search (crosses, sendable) depth 20

taking_send : IsSend (taking.the_field (port.the_row static_lft)).row
taking_send = search (crosses, sendable) depth 20

reading_send : IsSend (reading.the_field (port.the_row static_lft)).row
reading_send = search (crosses, sendable) depth 20

calls_send : IsSend (calls.the_field (port.the_row static_lft) ghosts).row
calls_send =
    enum_send (enum_shape (calls.the_type (port.the_row static_lft) ghosts)) (
      tt,
      ((claiming_send, tt), ((releasing_send, tt), ((taking_send, tt), ((reading_send, tt), tt)))),
    )

host_send : IsSend (host.the_field (port.the_row static_lft) ghosts).row
host_send =
    struct_send (shape (host.the_type (port.the_row static_lft) ghosts)) (
      driver_send,
      (
        search (crosses, sendable),
        (
          slots_send,
          (Vec-send hold.the_row hold_send, (calls_send, (search (crosses, sendable), tt))),
        ),
      ),
    )

pub slot_host_send : IsSend disk_host.the_row
slot_host_send =
    view_send disk_inside.the_row _ _ _ _ (recorded_send (disk_inside.the_field).row _ _ (disk_inside.the_type).to_one
    (struct_send (shape disk_inside.the_type) (host_send, tt)))

-- ---- of a controller that is somewhere else

remote_claiming_send : IsSend (claiming.the_field remote.the_row remote_ghosts).row
remote_claiming_send = search (crosses, sendable) depth 20

remote_releasing_send : IsSend (releasing.the_field remote.the_row).row
remote_releasing_send = search (crosses, sendable) depth 20

remote_taking_send : IsSend (taking.the_field remote.the_row).row
remote_taking_send = search (crosses, sendable) depth 20

remote_reading_send : IsSend (reading.the_field remote.the_row).row
remote_reading_send = search (crosses, sendable) depth 20

remote_calls_send : IsSend (calls.the_field remote.the_row remote_ghosts).row
remote_calls_send =
    enum_send (enum_shape (calls.the_type remote.the_row remote_ghosts)) (
      tt,
      (
        (remote_claiming_send, tt),
        ((remote_releasing_send, tt), ((remote_taking_send, tt), ((remote_reading_send, tt), tt))),
      ),
    )

remote_host_send : IsSend (host.the_field remote.the_row remote_ghosts).row
remote_host_send =
    struct_send (shape (host.the_type remote.the_row remote_ghosts)) (
      remote_driver_send,
      (
        search (crosses, sendable),
        (
          slots_send,
          (Vec-send hold.the_row hold_send, (remote_calls_send, (search (crosses, sendable), tt))),
        ),
      ),
    )

pub remote_slots_send : IsSend remote_host.the_row
remote_slots_send =
    view_send remote_inside.the_row _ _ _ _ (recorded_send (remote_inside.the_field).row _ _
    (remote_inside.the_type).to_one (struct_send (shape remote_inside.the_type) (remote_host_send, tt)))
