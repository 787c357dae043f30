use Rattle.driver_calls.proofs.Telling.{log_tells}
use Rattle.driver_calls.proofs.laws.a_log_tells_the_history.Goals as goal

pub returns : goal.returns
returns c = log_tells
