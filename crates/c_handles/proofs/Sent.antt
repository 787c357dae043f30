-- A driver over a port of its own, a call of it, a host with many, and a disk may go to another thread.
use denote.Param.Send.{IsSend, recorded_send, struct_send, sendable, view_send}
use denote.Signature.{static_lft}
use denote.Struct.Declared.{shape}
use Rattle.std.proofs.Crossing.{crosses}
use Rattle.driver_cas.specs.contracts.cid_table.CidTable as table
use Rattle.driver_cas.specs.contracts.shared_port.SharedPort as port
use Rattle.driver_cas.proofs.shared_port.SharedPort.TheSendSync as port_sent
use Rattle.driver_cas.specs.contracts.shared_port.SharedPortPort.TheImpl.{ghosts}
use Rattle.driver_cas.specs.contracts.call.Call as call
use Rattle.driver_cas.specs.contracts.driver.Driver as driver
use Rattle.remote_host.specs.contracts.call_host.CallHost as calls
use Rattle.step_core.proofs.controller.Core.TheSendSync as core_sent
use Rattle.meet_lock.proofs.pass.Pass.TheSendSync as pass_sent
use Rattle.work_queue.proofs.engine.Engine.TheSendSync as engine_sent
use Rattle.work_queue.proofs.work.Work.TheSendSync as work_sent
use Rattle.c_handles.specs.contracts.disk.Disk as disk
use Rattle.c_handles.specs.contracts.ended.EndedHost as ended
use Rattle.c_handles.specs.contracts.ended.EndedHost.TheInside as inside

pub table_send : IsSend table.the_row
table_send = search (crosses, sendable) depth 20

pub call_send : IsSend (call.the_row (port.the_row static_lft))
call_send = search (crosses, sendable) depth 20

pub driver_send : IsSend (driver.the_field (port.the_row static_lft) ghosts).row
driver_send = search (port_sent.the_send, table_send, crosses, sendable) depth 20

pub calls_send : IsSend (calls.the_field (port.the_row static_lft) ghosts).row
calls_send =
    struct_send (shape (calls.the_type (port.the_row static_lft) ghosts)) (
      driver_send,
      (search (call_send, crosses, sendable) depth 30, (search (call_send, crosses, sendable) depth 30, tt)),
    )

pub ended_send : IsSend ended.the_row
ended_send =
    view_send inside.the_row _ _ _ _ (recorded_send (inside.the_field).row _ _ (inside.the_type).to_one
    (struct_send (shape inside.the_type) (calls_send, tt)))

pub disk_send : IsSend disk.the_row
disk_send =
    recorded_send (disk.the_field).row _ _ (disk.the_type).to_one (struct_send (shape disk.the_type) (
      search (crosses, sendable) depth 20,
      (
        search (crosses, sendable) depth 20,
        (
          search (engine_sent.the_send, engine_sent.the_sync, crosses, sendable) depth 20,
          (
            pass_sent.the_field_send _ core_sent.the_send,
            (
              search (pass_sent.the_send, core_sent.the_send, crosses, sendable) depth 20,
              (
                search (crosses, sendable) depth 20,
                (
                  search (ended_send, crosses, sendable) depth 20,
                  (search (work_sent.the_send, crosses, sendable) depth 20, tt),
                ),
              ),
            ),
          ),
        ),
      ),
    ))
