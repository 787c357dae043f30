use Rattle.std.proofs.Common.{sym, ◌∙◌}
use Rattle.queue_tests.proofs.ends.closed_by_all.Goals as goal

pub close_all-requires : goal.close_all-requires
close_all-requires c = record {
  all = λ k p at.
      let n = c.in_ok-engine.ensures.each k p at in
      (n.0, n.1.0, n.1.1 ∙ sym c.in_ok-engine.ensures.count);
}
