use Rattle.history_check.proofs.Within.{fits_same, flight_same, value_same}
use Rattle.history_check.proofs.table_laws.a_block_asks_for_its_unit.Goals as goal

pub returns-clause-fits : goal.returns-clause-fits
returns-clause-fits c = fits_same

pub returns-clause-flight : goal.returns-clause-flight
returns-clause-flight c = flight_same

pub returns-clause-value : goal.returns-clause-value
returns-clause-value c = value_same
