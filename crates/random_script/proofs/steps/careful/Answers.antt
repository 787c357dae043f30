use Rattle.random_script.proofs.steps.careful.Goals as goal

pub returns : goal.returns
returns c = record { kind = c.look.ensures.kind c.args.kind }
