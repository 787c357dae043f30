use Rattle.std.proofs.Common.{subst, sym}
use Rattle.std.specs.Io.KnownBytes.{Appends}
use Rattle.std.proofs.KnownBytes.{Appends-nil, Appends-trans}
use Rattle.line_text.proofs.Feeds.{feeds_none}
use Rattle.line_text.proofs.Known.{front_at, on_err}
use Rattle.refutation.specs.Texts.{block_line}
use Rattle.refutation.proofs.Feeds.{feeds_at, feeds_more}
use Rattle.refutation.proofs.writing.write_blocks.Goals as goal

pub loop-block-init : goal.loop-block-init
loop-block-init g c = subst (Appends _ _) (sym feeds_none) (Appends-nil _)

pub returns-in_err-write_block-clause-front : goal.returns-in_err-write_block-clause-front
returns-in_err-write_block-clause-front g c =
    on_err c.from_residual.result
    (front_at _ _ _ _ _ _ _ (feeds_at block_line c.args.blocks.now c.loop-block.block-index 0 c.loop-block-test.true)
    c.loop-block.invariant c.in_err-write_block.ensures.front)

pub loop-block-preserved : goal.loop-block-preserved
loop-block-preserved g c =
    subst (Appends _ _)
    (sym (feeds_more block_line c.args.blocks.now c.loop-block.block-index 0 c.loop-block-test.true))
    (Appends-trans _ _ _ _ _ c.loop-block.invariant c.in_ok-write_block.ensures.whole)
