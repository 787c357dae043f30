-- A handle's pointer may go to another thread, with what it owns.
use denote.Param.Send.{IsSend, owning_send, struct_send}
use denote.Struct.Owning.{fields, shape, to}
use denote.Struct.Struct.{exits_of}
use Rattle.c_handles.proofs.Owned.{owned_keyless, pointer, quiet}
use Rattle.c_handles.proofs.Sent.{disk_send}
use Rattle.c_handles.specs.contracts.disk.Disk as value
use Rattle.c_handles.specs.contracts.disk_handle.HeldDisk.{the_row, the_type}

pub send : IsSend the_row
send =
    owning_send the_type pointer (λ h. owned_keyless value.the_row disk_send h.at h.disk)
    (λ k. quiet (to the_type) (exits_of k (fields the_type)) ((struct_send (shape the_type) pointer).leaving k))
