use Rattle.std.proofs.Common.{sym, ◌∙◌}
use Rattle.history_check.proofs.FirstPlace.{first_bad, legal_more, taken}
use Rattle.history_check.proofs.checking.check.Goals as goal

pub returns-then-not-branch : goal.returns-then-not-branch
returns-then-not-branch c =
    let t = taken c.args.config.now c.args.entries.now c.loop-place.place c.index-entries-place.result
    c.loop-place.checker c.take.new.self c.in_ok-take.field-0 c.loop-place-test.true c.index-entries-place.is
    c.loop-place.invariant.stands (c.in_ok-take.ensures.ok _) in
    record {
      value = first_bad c.args.config.now c.args.entries.now c.loop-place.place c.index-entries-place.result
          c.loop-place-test.true c.index-entries-place.is c.loop-place.invariant.legal
          (sym t.0 ∙ c.if-not-branch.true);
    }

pub loop-place-preserved : goal.loop-place-preserved
loop-place-preserved c =
    let t = taken c.args.config.now c.args.entries.now c.loop-place.place c.index-entries-place.result
    c.loop-place.checker c.take.new.self c.in_ok-take.field-0 c.loop-place-test.true c.index-entries-place.is
    c.loop-place.invariant.stands (c.in_ok-take.ensures.ok _) in
    record {
      stands = t.1;
      legal = legal_more c.args.config.now c.args.entries.now c.loop-place.place c.index-entries-place.result
          c.loop-place-test.true c.index-entries-place.is (sym t.0 ∙ c.if-not-branch.false);
    }
