-- A remote host may go to another thread.
use denote.Param.Send.{IsSend, recorded_send, struct_send, sendable, view_send}
use denote.Struct.Declared.{shape}
use Rattle.std.proofs.Crossing.{crosses}
use Rattle.c_handles.proofs.Sent.{table_send}
use Rattle.driver_cas.specs.contracts.call.Call as call
use Rattle.driver_cas.specs.contracts.driver.Driver as driver
use Rattle.remote_host.specs.contracts.call_host.CallHost as calls
use Rattle.remote_host.specs.contracts.host.RemoteHost as host
use Rattle.remote_host.specs.contracts.host.RemoteHost.TheInside as host_inside
use Rattle.remote_host.specs.contracts.port.RemotePort as port
use Rattle.remote_host.specs.contracts.port.RemotePortPort.TheImpl.{ghosts}
use Rattle.vandrexu_c.specs.contracts.remote.DrivenRemote as remote
use Rattle.vandrexu_c.specs.contracts.remote.DrivenRemote.TheInside as inside

pub port_send : IsSend port.the_row
port_send = search (crosses, sendable) depth 30

pub remote_driver_send : IsSend (driver.the_field port.the_row ghosts).row
remote_driver_send = search (port_send, table_send, crosses, sendable) depth 20

call_send : IsSend (call.the_row port.the_row)
call_send = search (crosses, sendable) depth 20

calls_send : IsSend (calls.the_field port.the_row ghosts).row
calls_send =
    struct_send (shape (calls.the_type port.the_row ghosts)) (
      remote_driver_send,
      (search (call_send, crosses, sendable) depth 30, (search (call_send, crosses, sendable) depth 30, tt)),
    )

host_send : IsSend host.the_row
host_send =
    view_send host_inside.the_row _ _ _ _ (recorded_send (host_inside.the_field).row _ _ (host_inside.the_type).to_one
    (struct_send (shape host_inside.the_type) (calls_send, tt)))

pub remote_send : IsSend remote.the_row
remote_send =
    view_send inside.the_row _ _ _ _ (recorded_send (inside.the_field).row _ _ (inside.the_type).to_one
    (struct_send (shape inside.the_type) (host_send, (search (crosses, sendable), tt))))
