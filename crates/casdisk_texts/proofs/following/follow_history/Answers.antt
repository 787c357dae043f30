use Rattle.std.proofs.lemmas.Result.{err_from_is_err_and}
use Rattle.casdisk_texts.proofs.Followed.{first_unfollowed}
use Rattle.casdisk_texts.proofs.following.follow_history.Goals as goal

pub returns-in_err-lines : goal.returns-in_err-lines
returns-in_err-lines g c =
    let p = err_from_is_err_and c.from_residual.result c.from_residual.ensures.1 in
    rw (p.1, p.2) (record {
      follows =
          first_unfollowed c.in_err-lines.field-0.0 _ _ c.in_err-lines.ensures.first c.in_err-lines.ensures.unread;
    })

pub returns : goal.returns
returns g c = record {
  follows =
      c.follow_lines.ensures.follows _ c.in_ok-lines.ensures.begun c.in-Ok.ensures.begun c.in-Ok.ensures.none;
}
