use Rattle.std.proofs.Common.{sym, ◌∙◌}
use Rattle.shared_system.proofs.opening.system_of.Goals as goal

pub callers_of-requires-clause-passes : goal.callers_of-requires-clause-passes
callers_of-requires-clause-passes g c = λ k p at.
    let x = c.in_ok-engine.ensures.each k p at in
    ((record { of = x.0; config = x.1.2; seen = x.1.3 }, x.1.1 ∙ sym c.in_ok-engine.ensures.count), x.1.0)
