use Rattle.std.proofs.KnownBytes.{Appends-trans}
use Rattle.line_text.proofs.Known.{front_first, front_second, on_err, on_err_then, on_ok_then}
use Rattle.refutation.proofs.writing.write_front.Goals as goal

pub returns-in_err-write_line-clause-front : goal.returns-in_err-write_line-clause-front
returns-in_err-write_line-clause-front g c =
    on_err c.from_residual.result (front_first _ _ _ _ c.in_err-write_line.ensures.front)

pub returns-clause-whole : goal.returns-clause-whole
returns-clause-whole g c =
    on_ok_then c.write_count.result (Appends-trans _ _ _ _ _ c.in_ok-write_line.ensures.whole)
    c.write_count.ensures.whole

pub returns-clause-front : goal.returns-clause-front
returns-clause-front g c =
    on_err_then c.write_count.result (front_second _ _ _ _ _ c.in_ok-write_line.ensures.whole)
    c.write_count.ensures.front
