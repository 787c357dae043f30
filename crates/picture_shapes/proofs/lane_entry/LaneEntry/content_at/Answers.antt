use Rattle.std.proofs.Common.{Bool, ap, cond, false, sym, ◌∙◌, ◌≡◌}
use Rattle.nvme_model.specs.Array.{zeros}
use Rattle.nvme_model.specs.Commands.{is_write_zeroes}
use Rattle.nvme_model.specs.EntryBytes.{sqe_fields}
use Rattle.picture_shapes.specs.Contents.{content_of}
use Rattle.picture_shapes.specs.LaneEntries.{data_of_block}
use Rattle.picture_shapes.proofs.lane_entry.LaneEntry.content_at.Goals as goal

pub returns : goal.returns
returns c = record {
  value =
      let x = c.args.self.now in
      let other : is_write_zeroes (sqe_fields x.item.entry) ≡ false =
      ap is_write_zeroes (sym c.decode_sqe.ensures.value) ∙ sym c.is_write_zeroes.ensures.value
      ∙ c.if-is_write_zeroes.false in
      c.content_of-2.ensures.value
      ∙ ap (content_of c.args.ticket)
      (c.data_of_block.ensures.value ∙ ap (λ (b : Bool). cond b zeros (data_of_block x c.args.lba)) (sym other));
}
