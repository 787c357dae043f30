use Rattle.std.proofs.Common.{refl}
use Rattle.std.proofs.lemmas.Result.{err_from_is_err_and}
use Rattle.casdisk_texts.proofs.Followed.{explained_followed}
use Rattle.casdisk_texts.proofs.following.follow_explained.Goals as goal

pub returns-in_err-bad : goal.returns-in_err-bad
returns-in_err-bad g c =
    let p = err_from_is_err_and c.from_residual.result c.from_residual.ensures.1 in
    rw (p.1, p.2) (record { explains = c.in_err-bad.ensures.follows })

pub returns : goal.returns
returns g c =
    let bad = c.in_ok-bad.bad in
    rw c.explained_by.ensures.value (record {
      explains = explained_followed bad bad.place bad.broken refl refl _ _ c.in_ok-bad.ensures.follows;
    })
