use Rattle.std.proofs.Common.{ap, sym, Some, ◌∙◌}
use Rattle.std.proofs.lemmas.Result.{err_from_is_err_and}
use Rattle.history.proofs.Joining.{fails_then}
use Rattle.script_lines.proofs.ItemLaws.{words_of, part_bad, part_good, parts_done}
use Rattle.script_lines.proofs.batch.items_of.Goals as goal

pub returns-in_err-item : goal.returns-in_err-item
returns-in_err-item c =
    let p = err_from_is_err_and c.from_residual.result c.from_residual.ensures.1 in
    let ends = λ (h : _). part_bad words_of c.args.parts.now c.loop-part.part-index _ c.loop-part.items.items _
    c.loop-part-test.true c.loop-part.invariant h in
    rw (p.1, p.2) (fails_then c.in_err-item.field-0.0 _ _ c.in_err-item.ensures ends)

pub loop-part-preserved : goal.loop-part-preserved
loop-part-preserved c =
    part_good words_of c.args.parts.now c.loop-part.part-index _ c.loop-part.items.items _ _ _
    c.loop-part-test.true c.loop-part.invariant c.in_ok-item.ensures c.in_ok-push.ensures.items

pub returns : goal.returns
returns c =
    parts_done words_of c.args.parts.now c.loop-part.part-index c.loop-part.items.items _
    c.loop-part-test.false c.loop-part.invariant
    ∙ ap Some (sym c.new.ensures)
