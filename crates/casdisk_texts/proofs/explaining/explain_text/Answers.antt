use Rattle.casdisk_texts.proofs.Answering.{explained}
use Rattle.casdisk_texts.proofs.explaining.explain_text.Goals as goal

pub returns : goal.returns
returns g c =
    let whole = c.in_ok-bad.ensures.whole in
    rw c.explained_by.ensures.value (record { explains = (whole.0, explained c.in_ok-bad.bad _ whole.1) })
