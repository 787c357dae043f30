use Rattle.race.proofs.JudgingRaces.{kept_rounds}
use Rattle.race.proofs.run.finish.Goals as goal

pub returns-clause-rounds : goal.returns-clause-rounds
returns-clause-rounds g c = λ rounds has.
    kept_rounds c.args.config.now c.args._slots.now rounds c.args.entries.now _ _ c.requires.legal has
    c.in_ok-tell.ensures.tells
