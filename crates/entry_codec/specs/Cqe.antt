-- The 16 bytes of a completion queue entry.
use Rattle.std.specs.Prelude.{List, ℕ, ◌+◌, ◌<◌, ◌^◌}
use Rattle.nvme_model.specs.Bits.{bit}
use Rattle.nvme_model.specs.EntryBytes.{Cqe as CqeFields, cqe_bytes}
use Rattle.entry_codec.specs.declared.cqe.Cqe.{Cqe}
use Rattle.entry_codec.specs.declared.cqe.CqeFault.{CqeFault}
use Rattle.entry_codec.specs.declared.cqe.CqeFault.TheVariants.{ReservedNotZero}

-- each field of a completion's bytes (Base 2.0, Completion Queue Entry): DW0, DW1, CRD, More and DNR are zero
abbrev pub completion_fields : Cqe → CqeFields
completion_fields c =
    record {
      dw0 = 0;
      dw1 = 0;
      sqhd = c.sqhd;
      sqid = c.sqid;
      cid = c.cid;
      phase = bit c.phase;
      sc = c.status.sc;
      sct = c.status.sct;
      crd = 0;
      more = 0;
      dnr = 0;
    }

-- the 16 bytes of a completion
abbrev pub completion_bytes : Cqe → List ℕ
completion_bytes c = cqe_bytes c.sqhd c.sqid c.cid (bit c.phase) c.status

-- a field that every completion leaves zero isn't
abbrev pub SetsReserved : CqeFields → Type 0
SetsReserved e = 0 < e.dw0 + e.dw1 + e.crd + e.more + e.dnr

-- each field is as wide as its place among the 16 bytes
pub record FitsCqe (c : Cqe) : Type 0 where
  pub sqhd : c.sqhd < 2 ^ 16
  pub sqid : c.sqid < 2 ^ 16
  pub cid : c.cid < 2 ^ 16
  pub sct : c.status.sct < 2 ^ 3
  pub sc : c.status.sc < 2 ^ 8

-- the number that texts give a fault
abbrev pub cqe_fault_number : CqeFault → ℕ
cqe_fault_number ReservedNotZero = 31
