use Rattle.std.proofs.KnownBytes.{Appends-trans}
use Rattle.line_text.proofs.Known.{front_first, front_second, on_err, on_err_then, on_ok_then}
use Rattle.refutation.proofs.writing.write_slice.Goals as goal

pub returns-in_err-write_blocks-clause-front : goal.returns-in_err-write_blocks-clause-front
returns-in_err-write_blocks-clause-front g c =
    on_err c.from_residual.result (front_first _ _ _ _ c.in_err-write_blocks.ensures.front)

pub returns-clause-whole : goal.returns-clause-whole
returns-clause-whole g c =
    on_ok_then c.write_commands.result (Appends-trans _ _ _ _ _ c.in_ok-write_blocks.ensures.whole)
    c.write_commands.ensures.whole

pub returns-clause-front : goal.returns-clause-front
returns-clause-front g c =
    on_err_then c.write_commands.result (front_second _ _ _ _ _ c.in_ok-write_blocks.ensures.whole)
    c.write_commands.ensures.front
