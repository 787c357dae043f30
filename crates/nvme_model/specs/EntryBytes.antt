-- Submission queue entries of 64 bytes and completion queue entries of 16 bytes, by the positions of their fields.
use Rattle.std.specs.Prelude.{List, [], length, replicate, slice_range, ℕ, ◌%◌, ◌*◌, ◌++◌, ◌+◌, ◌/◌, ◌^◌, ◌∷◌, ◌≡◌}
use Rattle.nvme_model.specs.declared.status.Status.{Status}

-- the number whose bytes are these, the least first (Base 2.0, Byte, Word, and Dword Relationships)
abbrev pub little_endian : List ℕ → ℕ
little_endian [] = 0
little_endian (b ∷ bs) = b + 256 * little_endian bs

-- the number as two bytes
abbrev pub two_bytes : ℕ → List ℕ
two_bytes n = n % 256 ∷ (n / 256) % 256 ∷ []

-- the number that `count` bytes from the byte `first` on spell
abbrev pub field : ℕ → ℕ → List ℕ → ℕ
field first count bytes = little_endian (slice_range bytes first (first + count))

-- A submission queue entry (Base 2.0, Submission Queue Entry).
pub record Sqe : Type 0 where
  pub opcode : ℕ
  pub fuse : ℕ
  pub reserved : ℕ  -- of CDW0, bits 13:10
  pub psdt : ℕ
  pub cid : ℕ
  pub nsid : ℕ
  pub cdw2 : ℕ
  pub cdw3 : ℕ
  pub mptr : ℕ
  pub dptr : ℕ
  pub cdw10 : ℕ
  pub cdw11 : ℕ
  pub cdw12 : ℕ
  pub cdw13 : ℕ
  pub cdw14 : ℕ
  pub cdw15 : ℕ

-- the fields of these 64 bytes, by their positions (Base 2.0, Submission Queue Entry)
abbrev pub sqe_fields : List ℕ → Sqe
sqe_fields bytes =
    record {
      opcode = field 0 1 bytes;
      fuse = field 1 1 bytes % 4;
      reserved = (field 1 1 bytes / 4) % 16;
      psdt = field 1 1 bytes / 64;
      cid = field 2 2 bytes;
      nsid = field 4 4 bytes;
      cdw2 = field 8 4 bytes;
      cdw3 = field 12 4 bytes;
      mptr = field 16 8 bytes;
      dptr = field 24 16 bytes;
      cdw10 = field 40 4 bytes;
      cdw11 = field 44 4 bytes;
      cdw12 = field 48 4 bytes;
      cdw13 = field 52 4 bytes;
      cdw14 = field 56 4 bytes;
      cdw15 = field 60 4 bytes;
    }

-- these are the bytes of an entry with these fields
abbrev pub IsSqe : List ℕ → Sqe → Type 0
IsSqe bytes fields = (length bytes ≡ 64) × (sqe_fields bytes ≡ fields)

-- SLBA of a Read, Write, Compare or Write Zeroes (NVM 1.0, Read command)
abbrev pub slba : Sqe → ℕ
slba e = e.cdw10 + 2 ^ 32 * e.cdw11

-- the number of blocks, from NLB, which is 0's based (NVM 1.0, Read command)
abbrev pub block_count : Sqe → ℕ
block_count e = e.cdw12 % 65536 + 1

-- A completion queue entry (Base 2.0, Completion Queue Entry).
pub record Cqe : Type 0 where
  pub dw0 : ℕ
  pub dw1 : ℕ
  pub sqhd : ℕ
  pub sqid : ℕ
  pub cid : ℕ
  pub phase : ℕ
  pub sc : ℕ
  pub sct : ℕ
  pub crd : ℕ
  pub more : ℕ
  pub dnr : ℕ

-- the fields of these 16 bytes, by their positions (Base 2.0, Completion Queue Entry)
abbrev pub cqe_fields : List ℕ → Cqe
cqe_fields bytes =
    let word = field 14 2 bytes in
    record {
      dw0 = field 0 4 bytes;
      dw1 = field 4 4 bytes;
      sqhd = field 8 2 bytes;
      sqid = field 10 2 bytes;
      cid = field 12 2 bytes;
      phase = word % 2;
      sc = (word / 2) % 256;
      sct = (word / 512) % 8;
      crd = (word / 4096) % 4;
      more = (word / 16384) % 2;
      dnr = word / 32768;
    }

-- these are the bytes of a completion with these fields
abbrev pub IsCqe : List ℕ → Cqe → Type 0
IsCqe bytes fields = (length bytes ≡ 16) × (cqe_fields bytes ≡ fields)

-- the bytes of a completion with these fields, where the others are zero
abbrev pub cqe_bytes : (sqhd sqid cid phase : ℕ) → Status → List ℕ
cqe_bytes sqhd sqid cid phase status =
    replicate 8 0 ++ (two_bytes sqhd
    ++ (two_bytes sqid ++ (two_bytes cid ++ two_bytes (phase + (2 * status.sc + 512 * status.sct)))))
