-- A handle's pointer may go to another thread, with what it owns.
use denote.Param.Send.{IsSend, owning_send, struct_send}
use denote.Struct.Owning.{fields, shape, to}
use denote.Struct.Struct.{exits_of}
use Rattle.c_handles.proofs.Owned.{owned_keyless, pointer, quiet}
use Rattle.vandrexu_c.proofs.RemoteSent.{remote_send}
use Rattle.vandrexu_c.specs.contracts.remote.DrivenRemote as value
use Rattle.vandrexu_c.specs.contracts.remote_handle.HeldRemote.{the_row, the_type}

pub send : IsSend the_row
send =
    owning_send the_type pointer (λ h. owned_keyless value.the_row remote_send h.at h.remote)
    (λ k. quiet (to the_type) (exits_of k (fields the_type)) ((struct_send (shape the_type) pointer).leaving k))
