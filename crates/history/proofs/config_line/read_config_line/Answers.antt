use Rattle.history.proofs.ConfigLaws.{config_found, config_only}
use Rattle.history.proofs.config_line.read_config_line.Goals as goal

pub returns-clause-found : goal.returns-clause-found
returns-clause-found c = config_found c.args.line.now c.read_config.result c.read_config.ensures

pub returns-clause-only : goal.returns-clause-only
returns-clause-only c = λ e is same. config_only c.args.line.now c.read_config.result e c.read_config.ensures is same
