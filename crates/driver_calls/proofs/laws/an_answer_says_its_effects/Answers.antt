use Rattle.driver_calls.proofs.Answering.{answer_says}
use Rattle.driver_calls.proofs.laws.an_answer_says_its_effects.Goals as goal

pub returns : goal.returns
returns c = answer_says
