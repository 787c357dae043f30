use Rattle.std.proofs.Common.{All}
use Rattle.thread_tests.specs.Listening.{IsListening}
use Rattle.thread_tests.proofs.played.reaped_by.Given as goal

abbrev pub invariant-loop : goal.invariant-loop
invariant-loop g l = All (IsListening l.system) l.hosts.items
