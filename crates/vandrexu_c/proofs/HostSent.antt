-- A host may go to another thread.
use denote.Param.Send.{IsSend, recorded_send, struct_send, sendable, view_send}
use denote.Struct.Declared.{shape}
use Rattle.std.proofs.Crossing.{crosses}
use Rattle.c_handles.proofs.Sent.{calls_send}
use Rattle.vandrexu_c.specs.contracts.host.DrivenHost as host
use Rattle.vandrexu_c.specs.contracts.host.DrivenHost.TheInside as inside

pub host_send : IsSend host.the_row
host_send =
    view_send inside.the_row _ _ _ _ (recorded_send (inside.the_field).row _ _ (inside.the_type).to_one
    (struct_send (shape inside.the_type) (calls_send, (search (crosses, sendable), tt))))
