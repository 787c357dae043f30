use Rattle.trace.proofs.Beginnings.{beginning_explained}
use Rattle.trace.proofs.seen_laws.beginnings_are_explained.Goals as goal

pub returns : goal.returns
returns c = beginning_explained
