use Rattle.std.proofs.Common.{ap, slice_set, sym, ◌∙◌}
use Rattle.std.proofs.lemmas.Option.{get_or_from_slice_get}
use Rattle.nvme_model.specs.Array.{zeros}
use Rattle.block_array.specs.Blocks.{contents_of}
use Rattle.block_array.proofs.Contents.{contents_set}
use Rattle.block_exec.proofs.blocks.hand_over.Goals as goal

pub returns-clause-boxes : goal.returns-clause-boxes
returns-clause-boxes c =
    contents_set c.args.boxes.now c.args.at c.swap_block.new.block
    ∙ ap (slice_set (contents_of c.args.boxes.now) c.args.at)
    (sym (get_or_from_slice_get c.args.volume.now c.args.lba c.swap_block.new.block.value zeros
    c.swap_block.ensures.back))
