-- A handle's pointer may go to another thread, with what it owns.
use denote.Param.Send.{IsSend, owning_send, struct_send}
use denote.Struct.Owning.{fields, shape, to}
use denote.Struct.Struct.{exits_of}
use Rattle.c_handles.proofs.Owned.{owned_keyless, pointer, quiet}
use Rattle.vandrexu_c.proofs.SlotSent.{slot_host_send}
use Rattle.vandrexu_c.specs.contracts.disk_slots.DiskSlotHost as value
use Rattle.vandrexu_c.specs.contracts.slot_handle.HeldSlotHost.{the_row, the_type}

pub send : IsSend the_row
send =
    owning_send the_type pointer (λ h. owned_keyless value.the_row slot_host_send h.at h.host)
    (λ k. quiet (to the_type) (exits_of k (fields the_type)) ((struct_send (shape the_type) pointer).leaving k))
