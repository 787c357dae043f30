use Rattle.slot_check.proofs.names.Names.reserve.Goals as goal

pub returns-clause-won : goal.returns-clause-won
returns-clause-won c = λ q j. c.reserve-2.ensures.entries.2 (record { queue = q; number = j })

pub returns-clause-released : goal.returns-clause-released
returns-clause-released c = λ l n. c.reserve-3.ensures.keys.2 (record { lba = l; name = n })
