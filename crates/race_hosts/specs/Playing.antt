-- What the threads of hosts give back.
use Rattle.std.specs.Prelude.{OnOk, Result, ◌-◌, ◌≡◌}
use Rattle.nvme_model.specs.Passes.{IsBeginning}
use Rattle.meet_lock.specs.Passes.{IsSame, number, seen}
use Rattle.work_queue.specs.Engines as engine
use Rattle.shared_system.specs.Callers.{IsPlaceAt}
use Rattle.shared_system.specs.declared.system.System.{System}
use Rattle.shared_system.specs.declared.system.HostPasses.{HostPasses}
use Rattle.driver_cas.specs.Drivers.{area_of, host_of, port_of}
use Rattle.driver_cas.specs.Ports.{pass_of}
use Rattle.many_host_laws.specs.Hosts.{IsHost}
use Rattle.many_host_laws.specs.Closing.{HasClaimed, HasDone}
use Rattle.race_hosts.specs.Hosts.{HostContinues}
use Rattle.race_hosts.specs.declared.host_threads.Play.{Play}
use Rattle.race_hosts.specs.declared.host_threads.Played.{Played}
use Rattle.race_hosts.specs.declared.owned.Host.{Host}

module _ {G : Type 0} where
  -- A host's passes later: of the same system and the same completion queue, with the same pass, which has seen no
  -- less.
  pub record HostPassesContinue (system : System G) (h k : HostPasses) : Type 0 where
    pub of : engine.IsPassOfEngine system.engine k.pass
    pub same : IsSame h.pass k.pass
    pub begins : IsBeginning (seen h.pass) (seen k.pass)
    pub queue : k.queue ≡ h.queue
    pub place : IsPlaceAt system (h.queue - 1) k.notices

  -- A host was made with these passes, with the number of its completion queue and these slots, and it went on by its
  -- calls. All that its pass made is in its driver's log, keeps the rules of slots, and claims the first slot once a
  -- round; and this pass came back.
  pub record HasPlayed (system : System G) (play : Play) (caller back : HostPasses) : Type 0 where
    pub first : Host
    pub last : Host
    pub queue : first.queue ≡ caller.queue
    pub host : host_of first.driver ≡ caller.queue
    pub slots : area_of first.driver ≡ play.slots
    pub goes : HostContinues system first last
    pub is : IsHost play.config play.slots (number caller.pass) caller.queue caller.queue last.driver
    pub gave : back.pass ≡ pass_of (port_of last.driver)
    pub done : HasDone play.config play.slots caller.queue caller.queue back.pass
    pub claimed : HasClaimed play.config play.slots caller.queue play.rounds back.pass

  -- what a thread gives back for these passes
  abbrev pub IsReturned : {E : Type 0} → System G → Play → HostPasses → HostPasses × Result (Unit {0}) E → Type 0
  IsReturned system play caller r = HostPassesContinue system caller r.0 × OnOk r.1 (HasPlayed system play caller r.0)

  -- a thread's promise of these passes
  pub record Promises (system : System G) (play : Play) (caller : HostPasses) (p : Played G) : Type 0 where
    pub of_system : p.system.value ≡ system
    pub of_play : p.play.value ≡ play
    pub of_caller : p.caller.value ≡ caller
