use Rattle.witness_check.proofs.LateLines.{keeps_order, without_delays}
use Rattle.witness_check.proofs.delay_laws.delays_keep_a_publish_before_a_reap.Goals as goal

pub returns : goal.returns
returns c = record { without = without_delays; keeps = keeps_order }
