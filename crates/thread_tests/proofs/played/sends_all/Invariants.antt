use Rattle.thread_tests.specs.Listening.{IsListening}
use Rattle.thread_tests.proofs.played.sends_all.Given as goal

abbrev pub invariant-loop-queue : goal.invariant-loop-queue
invariant-loop-queue g l = IsListening l.system l.host
