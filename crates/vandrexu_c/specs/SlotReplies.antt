-- What a slot host's call that is polled tells, as it lies in C.
use Rattle.std.specs.Prelude.{[], ℕ, ◌∷◌}
use Rattle.driver_cas.specs.declared.fault.Fault.{Fault}
use Rattle.slot_takeover.specs.declared.holder.Holder.{Holder}
use Rattle.vandrexu_c.specs.declared.slot_reply.SlotReply.{SlotReply}

-- a reply with nothing beside its kind
abbrev pub plain_reply : ℕ → SlotReply
plain_reply kind = record { kind = kind; slot = 0; serial = 0; host = 0; sct = 0; sc = 0; zeros = 0 ∷ 0 ∷ [] }

-- this slot is held
abbrev pub slot_reply : ℕ → SlotReply
slot_reply slot = record { kind = 2; slot = slot; serial = 0; host = 0; sct = 0; sc = 0; zeros = 0 ∷ 0 ∷ [] }

-- a call failed, with its status where it has one
abbrev pub failed_reply : Fault → SlotReply
failed_reply (Fault.Status s) =
    record { kind = 8; slot = 0; serial = 0; host = 0; sct = s.sct; sc = s.sc; zeros = 0 ∷ 0 ∷ [] }
failed_reply f = plain_reply 8

-- who holds a slot
abbrev pub holder_reply : Holder → SlotReply
holder_reply Holder.Free = plain_reply 5
holder_reply (Holder.Of n) =
    record { kind = 6; slot = 0; serial = n.serial; host = n.host; sct = 0; sc = 0; zeros = 0 ∷ 0 ∷ [] }
holder_reply Holder.Foreign = plain_reply 7
