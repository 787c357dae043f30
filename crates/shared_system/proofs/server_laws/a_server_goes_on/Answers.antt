use Rattle.shared_system.proofs.Servers.{declined, fresh, noted, saw, stepped}
use Rattle.shared_system.proofs.server_laws.a_server_goes_on.Goals as goal

pub returns : goal.returns
returns c = record { fresh = fresh; stepped = stepped; declined = declined; noted = noted; saw = saw }
