use Rattle.shared_system.proofs.plain.plain_system_of.Goals as goal

pub returns-clause-numbered : goal.returns-clause-numbered
returns-clause-numbered c = λ k p at. let n = c.in_ok-engine.ensures.each k p at in (n.1.0, n.1.1)
