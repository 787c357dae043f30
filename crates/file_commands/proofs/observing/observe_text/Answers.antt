use Rattle.file_commands.proofs.Told.{told, unread}
use Rattle.std.proofs.lemmas.Result.{err_from_is_err_and}
use Rattle.file_commands.proofs.observing.observe_text.Goals as goal

pub returns-in_err-seen : goal.returns-in_err-seen
returns-in_err-seen g c =
    let p = err_from_is_err_and c.from_residual.result c.from_residual.ensures.1 in
    rw (p.1, p.2) (record { observes = unread c.in_err-seen.field-0.0 _ _ _ _ c.in_err-seen.ensures.unread })

pub returns : goal.returns
returns g c =
    let seen = c.in_ok-seen.seen in
    record {
      observes =
          told seen.options seen.config seen.history seen.things.items c.tell_trace.result _ _ _ _ _ _
          c.in_ok-seen.ensures.whole c.tell_trace.ensures.told;
    }
