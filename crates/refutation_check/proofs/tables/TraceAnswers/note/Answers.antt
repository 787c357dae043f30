use Rattle.refutation_check.proofs.tables.TraceAnswers.note.Goals as goal

pub returns-clause-answers : goal.returns-clause-answers
returns-clause-answers c = λ r j. c.in_ok-insert.ensures.updates.0 (record { queue = r; number = j })
