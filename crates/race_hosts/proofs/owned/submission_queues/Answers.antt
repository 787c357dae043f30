use Rattle.std.proofs.Common.{rules, ◌+◌}
use Rattle.race_hosts.proofs.Queues.{below_later, each_all, each_past}
use Rattle.race_hosts.proofs.owned.submission_queues.Goals as goal
use Rattle.race_hosts.proofs.owned.submission_queues.Goals.{then-k-numbers+in_ok-put_queue-2, else-k-numbers}

pub loop-k-preserved : goal.loop-k-preserved
loop-k-preserved c =
    elim c.if-k-numbers.branch [
      | then-k-numbers+in_ok-put_queue-2 w ↦
          let e = w.in_ok-put_queue-2.ensures in
          rw w.queues-is (e.rising, e.below, e.all, e.some, e.each)
      | else-k-numbers w ↦
          let i = c.loop-k.invariant in
          rw w.queues-is (
            i.0,
            below_later c.loop-k.queues.items (c.loop-k.k + 1) i.1,
            i.2,
            i.3,
            each_past c.args.config.now c.args.queue c.loop-k.queues.items c.loop-k.k (search rules) i.4,
          )
    ]

pub returns-clause-each : goal.returns-clause-each
returns-clause-each c =
    each_all c.args.config.now c.args.queue c.loop-k.queues.items (c.loop-k.k + 1) (search rules) c.loop-k.invariant.4
