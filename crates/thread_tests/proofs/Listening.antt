-- Hosts that will have seen something.
use Rattle.std.proofs.Common.{All, List}
use Rattle.nvme_model.specs.declared.config.ConfigNumbers.{ConfigNumbers}
use Rattle.shared_system.specs.Callers.{IsHostOf}
use Rattle.thread_tests.specs.Listening.{IsListening}
use Rattle.shared_system.specs.declared.system.System.{System}
use Rattle.shared_system.specs.declared.system.HostPasses.{HostPasses}

module _ {G : Type 0} where
  pub hosts_listen : (system : System G) (c : ConfigNumbers) (hs : List HostPasses) → All (IsHostOf system c) hs
      → All (IsListening system) hs
  hosts_listen system c hs a = λ k x within. let h = a k x within in (h.pass.of, h.notices)
