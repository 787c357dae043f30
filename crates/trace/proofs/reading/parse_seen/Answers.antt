use Rattle.trace.proofs.SeenAgain.{seen_only}
use Rattle.trace.proofs.SeenRead.{seen_found}
use Rattle.trace.proofs.reading.parse_seen.Goals as goal

pub returns-clause-found : goal.returns-clause-found
returns-clause-found c = seen_found c.args.line.now c.read_seen.result c.read_seen.ensures

pub returns-clause-only : goal.returns-clause-only
returns-clause-only c = λ s is same. seen_only c.args.line.now c.read_seen.result s c.read_seen.ensures is same
