use Rattle.std.proofs.lemmas.Result.{err_from_is_err_and}
use Rattle.casdisk_texts.proofs.Answering.{answered, unsaid}
use Rattle.casdisk_texts.proofs.checking.check_text.Goals as goal

pub returns-in_err-bad : goal.returns-in_err-bad
returns-in_err-bad g c =
    let p = err_from_is_err_and c.from_residual.result c.from_residual.ensures.1 in
    rw (p.1, p.2) (record { checks = unsaid c.in_err-bad.field-0.0 _ _ _ c.in_err-bad.ensures.unread })

pub returns : goal.returns
returns g c = record {
  checks =
      let whole = c.in_ok-bad.ensures.whole in
      answered c.in_ok-bad.bad c.tell_answer.result _ _ _ _ whole.0 whole.1 c.tell_answer.ensures.told;
}
