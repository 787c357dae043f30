use Rattle.casdisk_texts.proofs.Witnessed.{given}
use Rattle.casdisk_texts.proofs.certifying.certify_verdict.Goals as goal

pub returns : goal.returns
returns g c =
    let seen = c.in-Ok.seen in
    let told = c.in-Ok-read_history.told in
    record {
      gives =
          given c.args.logged seen.options seen.config seen.history told.config seen.things.items told.entries.items
          c.compare.result _ _ _ _ c.in-Ok.ensures.whole c.in-Ok-read_history.ensures.whole c.compare.ensures.whole
          c.compare.ensures.failed;
    }
