use Rattle.slot_check.proofs.takeovers.Takeovers.reserve.Goals as goal

pub returns-clause-begun : goal.returns-clause-begun
returns-clause-begun c = λ q j. c.reserve.ensures.entries.2 (record { queue = q; number = j })
