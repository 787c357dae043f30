use Rattle.thread_tests.specs.Listening.{IsListening}
use Rattle.thread_tests.proofs.calls.heard.Given as goal

abbrev pub invariant-loop : goal.invariant-loop
invariant-loop g l = IsListening l.system l.host
