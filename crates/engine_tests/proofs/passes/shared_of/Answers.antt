use Rattle.engine_tests.proofs.passes.shared_of.Goals as goal

pub returns-in-Ok-clause-each : goal.returns-in-Ok-clause-each
returns-in-Ok-clause-each c = λ k p at.
    let n = c.in-Ok.ensures.each k p at in
    (n.0, n.1.0, n.1.1)
