use Rattle.std.proofs.Common.{arith}
use Rattle.broken_rules.proofs.Apart.{apart_short}
use Rattle.broken_rules.proofs.unlike.first_apart.Goals as goal

pub returns-else-count-due-clause-value : goal.returns-else-count-due-clause-value
returns-else-count-due-clause-value c =
    let i = c.loop-count.invariant in
    omega (arith, i.same, apart_short c.args.found.now c.args.due.now c.loop-count.count c.if-count-due.false)
