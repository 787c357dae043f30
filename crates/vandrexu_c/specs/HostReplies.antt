-- What a call that is polled tells, as it lies in C.
use Rattle.std.specs.Prelude.{[], ℕ, ◌∷◌}
use Rattle.driver_calls.specs.declared.reply.Reply.{Reply}
use Rattle.driver_cas.specs.declared.fault.Fault.{Fault}
use Rattle.vandrexu_c.specs.declared.host_reply.HostReply.{HostReply}

-- a reply of this kind, without a status
abbrev pub plain_reply : ℕ → HostReply
plain_reply kind = record { kind = kind; sct = 0; sc = 0; zeros = 0 ∷ 0 ∷ [] }

-- what a call that is done was
abbrev pub done_kind : Reply → ℕ
done_kind (Reply.Read payload) = 2
done_kind Reply.Written = 3
done_kind Reply.Equal = 4
done_kind Reply.Differs = 5
done_kind Reply.Swapped = 6

-- a call failed, with its status where it has one
abbrev pub failed_reply : Fault → HostReply
failed_reply (Fault.Status s) = record { kind = 7; sct = s.sct; sc = s.sc; zeros = 0 ∷ 0 ∷ [] }
failed_reply f = plain_reply 7
