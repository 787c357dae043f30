use Rattle.random_script.proofs.steps.drawn_line.Goals as goal

pub returns-in-1-to-3 : goal.returns-in-1-to-3
returns-in-1-to-3 c = record { kind = c.look.ensures.kind c.args.kind }

pub returns-in-7-to-12 : goal.returns-in-7-to-12
returns-in-7-to-12 c = record { kind = c.careless.ensures.kind c.args.kind }
