use Rattle.history.proofs.LinesRead.{entry_found}
use Rattle.history.proofs.LinesAgain.{entry_only}
use Rattle.history.proofs.reading.parse_line.Goals as goal

pub returns-clause-found : goal.returns-clause-found
returns-clause-found c = entry_found c.args.line.now c.read_line.result c.read_line.ensures

pub returns-clause-only : goal.returns-clause-only
returns-clause-only c = λ e is same. entry_only c.args.line.now c.read_line.result e c.read_line.ensures is same
