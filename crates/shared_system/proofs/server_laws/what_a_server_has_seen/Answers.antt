use Rattle.shared_system.proofs.Servers.{has_seen}
use Rattle.shared_system.proofs.server_laws.what_a_server_has_seen.Goals as goal

pub returns : goal.returns
returns c = has_seen
