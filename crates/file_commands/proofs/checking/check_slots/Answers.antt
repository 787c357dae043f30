use Rattle.std.proofs.lemmas.Result.{err_from_is_err_and}
use Rattle.file_commands.proofs.Found.{answered, unjudged, untold}
use Rattle.file_commands.proofs.checking.check_slots.Goals as goal

pub returns-in_err-found : goal.returns-in_err-found
returns-in_err-found g c =
    let p = err_from_is_err_and c.from_residual.result c.from_residual.ensures.1 in
    rw (p.1, p.2)
    (record { checks = unjudged c.args.slots c.in_err-found.field-0.0 _ _ _ c.in_err-found.ensures.unread })

pub returns-in-Ok : goal.returns-in-Ok
returns-in-Ok g c = record {
  checks =
      let whole = c.in_ok-found.ensures.whole in
      answered c.args.slots c.in_ok-found.found c.in-Ok.answer _ _ _ _ c.in_ok-found.ensures.slots whole.0 whole.1
      c.in-Ok.ensures.told;
}

pub returns-in-Err : goal.returns-in-Err
returns-in-Err g c = record {
  checks =
      let whole = c.in_ok-found.ensures.whole in
      untold c.args.slots c.in_ok-found.found c.in-Err.fault _ _ _ _ c.in_ok-found.ensures.slots whole.0 whole.1
      c.in-Err.ensures.told;
}
