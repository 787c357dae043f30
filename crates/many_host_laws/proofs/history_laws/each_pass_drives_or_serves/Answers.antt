use Rattle.many_host_laws.proofs.Hosts.{all_placed}
use Rattle.many_host_laws.proofs.history_laws.each_pass_drives_or_serves.Goals as goal

pub returns : goal.returns
returns c = all_placed
