use Rattle.std.proofs.Common.{List, ap₂, ◌∙◌, replicate, ℕ}
use borrow.Rule.Slice.PartMut.{put_mid}
use Rattle.nvme_model.proofs.Bytes.{host_bytes, serial_bytes}
use Rattle.nvme_model.proofs.block.slot_block.Goals as goal

pub returns : goal.returns
returns c = record {
  value = ap₂ (λ (host serial : List ℕ). put_mid 8 8 (put_mid 0 4 (replicate 512 0) host) serial)
      (c.copy_from_slice.ensures.after ∙ (c.to_le_bytes.ensures ∙ host_bytes c.args.host))
      (c.copy_from_slice-2.ensures.after ∙ (c.to_le_bytes-2.ensures ∙ serial_bytes c.args.serial));
}
