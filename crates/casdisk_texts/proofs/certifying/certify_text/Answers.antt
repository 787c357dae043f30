use Rattle.std.proofs.lemmas.Result.{err_from_is_err_and}
use Rattle.casdisk_texts.proofs.Witnessed.{told, untold}
use Rattle.casdisk_texts.proofs.certifying.certify_text.Goals as goal

pub returns-in_err-verdict : goal.returns-in_err-verdict
returns-in_err-verdict g c =
    let p = err_from_is_err_and c.from_residual.result c.from_residual.ensures.1 in
    rw (p.1, p.2)
    (record { certifies = untold c.args.logged c.in_err-verdict.field-0.0 _ _ _ _ _ c.in_err-verdict.ensures.gives })

pub returns : goal.returns
returns g c = record {
  certifies =
      told c.args.logged c.in_ok-verdict.verdict c.tell_verdict.result _ _ _ _ _ _ c.in_ok-verdict.ensures.gives
      c.tell_verdict.ensures.told;
}
