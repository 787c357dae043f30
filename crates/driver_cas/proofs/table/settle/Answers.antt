use Rattle.driver_cas.proofs.Tables.{got_matches}
use Rattle.driver_cas.proofs.table.settle.Goals as goal

pub returns-clause-matches : goal.returns-clause-matches
returns-clause-matches c =
    got_matches c.args.cids.now c.answer.new.self c.args.reaped.cqe c.args.reaped.payload c.in-Ok.cqe
    c.in-Ok.ensures.fields c.answer.ensures.held
