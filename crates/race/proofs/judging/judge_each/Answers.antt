use Rattle.std.proofs.Common.{arith, length, reverse, take, ◌<◌}
use Rattle.race.proofs.Judged.{breaks_next, legal_next, watches_next}
use Rattle.race.proofs.judging.judge_each.Goals as goal

pub loop-k-preserved : goal.loop-k-preserved
loop-k-preserved c =
    let entries = c.args.entries.now in
    let i = c.loop-k.k in
    let e = c.index-entries-k.result in
    let l : i < length entries = omega (arith, c.loop-k-test.true) in
    let past = reverse (take i entries) in
    watches_next c.args.config.now c.args.slots entries i e _ l c.index-entries-k.is
    (c.in_ok-take.ensures.watches c.args.config.now c.args.slots past c.loop-k.invariant
    (legal_next c.args.config.now entries i e l c.index-entries-k.is c.requires.legal) c.in-None.is)

pub returns-in-Some-clause-unjudged : goal.returns-in-Some-clause-unjudged
returns-in-Some-clause-unjudged c =
    let entries = c.args.entries.now in
    let i = c.loop-k.k in
    let e = c.index-entries-k.result in
    let l : i < length entries = omega (arith, c.loop-k-test.true) in
    let past = reverse (take i entries) in
    breaks_next c.args.config.now c.args.slots entries i e _ _ _ l c.index-entries-k.is c.loop-k.invariant c.in-Some.is
    (c.in_ok-take.ensures.broken c.args.config.now c.args.slots past c.loop-k.invariant) _ (omega arith)
