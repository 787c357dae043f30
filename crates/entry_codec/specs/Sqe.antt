-- The 64 bytes of a submission queue entry, and the entries of commands.
use Rattle.std.specs.Prelude.{List, ℕ, ◌%◌, ◌*◌, ◌++◌, ◌+◌, ◌/◌, ◌<◌, ◌^◌}
use Rattle.byteorder.specs.Endian.{little_bytes}
use Rattle.nvme_model.specs.EntryBytes.{Sqe}

-- each field is as wide as its place among the 64 bytes (Base 2.0, Submission Queue Entry)
pub record FitsSqe (e : Sqe) : Type 0 where
  pub opcode : e.opcode < 2 ^ 8
  pub fuse : e.fuse < 2 ^ 2
  pub reserved : e.reserved < 2 ^ 4
  pub psdt : e.psdt < 2 ^ 2
  pub cid : e.cid < 2 ^ 16
  pub nsid : e.nsid < 2 ^ 32
  pub cdw2 : e.cdw2 < 2 ^ 32
  pub cdw3 : e.cdw3 < 2 ^ 32
  pub mptr : e.mptr < 2 ^ 64
  pub dptr : e.dptr < 2 ^ 128
  pub cdw10 : e.cdw10 < 2 ^ 32
  pub cdw11 : e.cdw11 < 2 ^ 32
  pub cdw12 : e.cdw12 < 2 ^ 32
  pub cdw13 : e.cdw13 < 2 ^ 32
  pub cdw14 : e.cdw14 < 2 ^ 32
  pub cdw15 : e.cdw15 < 2 ^ 32

-- bits 15:8 of CDW0 as a byte: FUSE, the reserved bits and PSDT
abbrev pub flags : Sqe → ℕ
flags e = e.fuse + 4 * e.reserved + 64 * e.psdt

-- the 64 bytes of an entry with these fields
unfoldable pub sqe_bytes : Sqe → List ℕ
sqe_bytes e =
    little_bytes 1 e.opcode
    ++ (little_bytes 1 (flags e)
    ++ (little_bytes 2 e.cid
    ++ (little_bytes 4 e.nsid
    ++ (little_bytes 4 e.cdw2
    ++ (little_bytes 4 e.cdw3
    ++ (little_bytes 8 e.mptr
    ++ (little_bytes 16 e.dptr
    ++ (little_bytes 4 e.cdw10
    ++ (little_bytes 4 e.cdw11
    ++ (little_bytes 4 e.cdw12
    ++ (little_bytes 4 e.cdw13
    ++ (little_bytes 4 e.cdw14
    ++ little_bytes 4 e.cdw15))))))))))))

-- the fields of a command with these numbers, in namespace 1 and zero elsewhere
abbrev pub command_fields : (opcode fuse cid slba nlb : ℕ) → Sqe
command_fields opcode fuse cid slba nlb =
    record {
      opcode = opcode;
      fuse = fuse;
      reserved = 0;
      psdt = 0;
      cid = cid;
      nsid = 1;
      cdw2 = 0;
      cdw3 = 0;
      mptr = 0;
      dptr = 0;
      cdw10 = slba % 2 ^ 32;
      cdw11 = slba / 2 ^ 32;
      cdw12 = nlb;
      cdw13 = 0;
      cdw14 = 0;
      cdw15 = 0;
    }

-- the sum of the fields that every command leaves zero
abbrev pub unused : Sqe → ℕ
unused e = e.reserved + e.psdt + e.cdw2 + e.cdw3 + e.mptr + e.dptr + e.cdw12 / 65536 + e.cdw13 + e.cdw14 + e.cdw15
