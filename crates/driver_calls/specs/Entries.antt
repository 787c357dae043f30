-- The submission queue entries of a driver's calls (Base 2.0, Submission Queue Entry and Fused Operations; NVM 1.0, I/O
-- Commands).
use Rattle.std.specs.Prelude.{List, [], ℕ, ◌-◌, ◌∷◌, ◌≡◌}
use Rattle.nvme_model.specs.EntryBytes.{IsSqe}
use Rattle.nvme_model.specs.declared.operation.Op.{Op}
use Rattle.nvme_model.specs.declared.submission.Submission.{Submission}
use Rattle.entry_codec.specs.Sqe.{command_fields}
use Rattle.driver_calls.specs.declared.request.CallData.{CallData}

-- The 64 bytes of a command on namespace 1, on so many blocks from slba on, zero elsewhere, with this data beside them.
-- NLB is 0's based.
pub record IsCommand (s : Submission) (opcode fuse cid slba blocks : ℕ) (payload : List ℕ) : Type 0 where
  pub entry : IsSqe s.entry (command_fields opcode fuse cid slba (blocks - 1))
  pub beside : s.payload ≡ payload

-- the opcode of an operation, of a pair that of its first command
abbrev pub first_opcode : Op → ℕ
first_opcode Op.Read = 2
first_opcode Op.Compare = 5
first_opcode Op.Write = 1
first_opcode Op.WriteZeroes = 8
first_opcode Op.Pair = 5

-- the data of each entry of a call, in order
abbrev pub payloads_of : CallData → List (List ℕ)
payloads_of (CallData.One payload) = payload ∷ []
payloads_of (CallData.Two expected desired) = expected ∷ desired ∷ []

-- The entries of a call, with the CIDs first and second: of a pair a Compare with FUSE 01b and a Write with FUSE 10b,
-- of any other operation its one command, with FUSE 00b and the CID first.
abbrev pub IsBatch : Op → (slba blocks first second : ℕ) → CallData → List Submission → Type 0
IsBatch Op.Pair slba blocks first second (CallData.Two expected desired) (s ∷ t ∷ []) =
    IsCommand s 5 1 first slba blocks expected × IsCommand t 1 2 second slba blocks desired
IsBatch Op.Pair slba blocks first second _ _ = ⊥
IsBatch o slba blocks first second (CallData.One payload) (s ∷ []) =
    IsCommand s (first_opcode o) 0 first slba blocks payload
IsBatch o slba blocks first second _ _ = ⊥
