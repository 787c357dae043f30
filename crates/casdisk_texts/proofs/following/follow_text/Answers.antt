use Rattle.std.proofs.Common.{refl}
use Rattle.std.proofs.lemmas.Result.{err_from_is_err_and}
use Rattle.casdisk_texts.proofs.Followed.{told_followed, unsaid_followed}
use Rattle.casdisk_texts.proofs.following.follow_text.Goals as goal

pub returns-in_err-bad : goal.returns-in_err-bad
returns-in_err-bad g c =
    let p = err_from_is_err_and c.from_residual.result c.from_residual.ensures.1 in
    rw (p.1, p.2) (record {
      follows =
          unsaid_followed c.in_err-bad.field-0.0 _ _ _ c.in_err-bad.ensures.follows;
    })

pub returns : goal.returns
returns g c = record {
  follows =
      let bad = c.in_ok-bad.bad in
      told_followed bad bad.place refl c.tell_answer.result _ _ _ _ c.in_ok-bad.ensures.follows
      c.tell_answer.ensures.told;
}
