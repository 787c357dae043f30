use Rattle.std.proofs.Common.{◌∙◌, get_or, sym}
use Rattle.std.specs.Prelude.{replicate}
use Rattle.line_text.proofs.DataReading.{block_from_one, block_nothing}
use Rattle.line_text.proofs.HexLaws.{fixed_is, nothing_by_two}
use Rattle.line_text.proofs.data.read_equal.Goals as goal

pub returns-in_default : goal.returns-in_default
returns-in_default c =
    block_nothing 512 _
    (nothing_by_two c.args.text.now c.requires (sym c.read_fixed.ensures.value ∙ c.in_default.is))

pub returns : goal.returns
returns c =
    let read = fixed_is 1 _ _ (sym c.read_fixed.ensures.value ∙ c.in-Some.is) in (
      replicate 512 (get_or c.in-Some.bytes 0 0),
      block_from_one 512 _ c.in-Some.bytes read.0 read.1,
      c.in_ok-add_equal.ensures,
    )
