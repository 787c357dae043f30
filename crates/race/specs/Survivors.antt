-- What is left of a race's hosts behind their rounds.
use Rattle.std.specs.Prelude.{Bool, List, All, false, length, true, vec_len, ◌-◌, ◌≡◌, ◌≢◌, ◌≤◌}
use Rattle.work_queue.specs.Engines as engine
use Rattle.shared_system.specs.Callers.{IsPlaceAt}
use Rattle.shared_system.specs.declared.system.HostPasses.{HostPasses}
use Rattle.shared_system.specs.declared.system.System.{System}
use Rattle.nvme_model.specs.Slots.{Name}
use Rattle.driver_cas.specs.Drivers.{area_of, host_of, port_of}
use Rattle.driver_cas.specs.Ports.{pass_of}
use Rattle.race_hosts.specs.declared.host_threads.Play.{Play}
use Rattle.race_hosts.specs.declared.owned.Host.{Host}
use Rattle.race.specs.Racers.{AreServers}
use Rattle.slot_alloc.specs.Areas.{area}
use Rattle.slot_alloc.specs.Claims.{IsReleasingOf}
use Rattle.slot_takeover.specs.Holders.{IsReadingOf}
use Rattle.slot_takeover.specs.Takeovers.{HoldsTaken, IsTakingOverOf}
use Rattle.race.specs.Fates.{is_dead_host}
use Rattle.race.specs.declared.fate.Fate.{Fate}
use Rattle.race.specs.declared.scene.Scene.{Scene}
use Rattle.race.specs.declared.survivor.Called.{Called}
use Rattle.race.specs.declared.survivor.Party.{Party}
use Rattle.race.specs.declared.survivor.Survivor.{Survivor}
use Rattle.race.specs.declared.survivor.SweepCall.{SweepCall}
use Rattle.race.specs.declared.survivor.SweepStage.{SweepStage}
use Rattle.race.specs.declared.swept.Sweep.{Sweep}

-- it is the name of a claim or a takeover of a dead host
pub record IsDeadName (fates : List Fate) (n : Name) : Type 0 where
  pub host : 1 ≤ n.host
  pub serial : 1 ≤ n.serial
  pub dead : is_dead_host fates n.host ≡ true

-- a call that is begun is the host's driver's
abbrev pub IsSweepCall : Host → SweepCall → Type 0
IsSweepCall h (SweepCall.Reads k) = IsReadingOf h.driver k
IsSweepCall h (SweepCall.TakesOver k) = IsTakingOverOf h.driver k
IsSweepCall h (SweepCall.GivesBack k) = IsReleasingOf h.driver k

-- What is begun is the host's driver's, and what it has was taken over by it. A slot is taken over from a dead host
-- alone, which isn't this one.
abbrev pub IsSweepStage : List Fate → Host → SweepStage → Type 0
IsSweepStage fates h SweepStage.Asks = Unit {0}
IsSweepStage fates h (SweepStage.Finds n) = IsDeadName fates n × (n.host ≢ h.queue)
IsSweepStage fates h (SweepStage.Has k) = HoldsTaken h.driver k.held
IsSweepStage fates h (SweepStage.Waits k) = IsSweepCall h k
IsSweepStage fates h SweepStage.Done = Unit {0}

-- what it has in hand behind a call is such a stage
abbrev pub IsCalled : List Fate → Host → Called → Type 0
IsCalled fates h (Called.Done s) = IsSweepStage fates h s
IsCalled fates h (Called.Pending k) = IsSweepCall h k
IsCalled fates h (Called.Later fault s) = IsSweepStage fates h s

-- its driver is gone
abbrev pub is_fenced : Party → Bool
is_fenced (Party.Fenced h) = true
is_fenced (Party.Survives s) = false

module _ {G : Type 0} where
  -- Its driver is of the system's controller, has these slots and the number of its completion queue as its host's, and
  -- its place is one of the notices of that completion queue.
  pub record IsSweeping (system : System G) (play : Play) (h : Host) : Type 0 where
    pub of : engine.IsPassOfEngine system.engine (pass_of (port_of h.driver))
    pub area_is : area_of h.driver ≡ play.slots
    pub slots : area h.slots ≡ play.slots
    pub host : host_of h.driver ≡ h.queue
    pub queue : (1 ≤ h.queue) × (h.queue ≤ length system.notices.items)
    pub place : IsPlaceAt system (h.queue - 1) h.notices

  -- it goes over the slots
  abbrev pub IsSurvivor : System G → Play → List Fate → Survivor → Type 0
  IsSurvivor system play fates s = IsSweeping system play s.host × IsSweepStage fates s.host s.stage

  -- it has the passes of a host
  pub record IsFencedHost (system : System G) (h : HostPasses) : Type 0 where
    pub queue : (1 ≤ h.queue) × (h.queue ≤ length system.notices.items)
    pub place : IsPlaceAt system (h.queue - 1) h.notices

  -- a host that is fenced, or one that goes over the slots
  abbrev pub IsParty : System G → Play → List Fate → Party → Type 0
  IsParty system play fates (Party.Fenced h) = IsFencedHost system h
  IsParty system play fates (Party.Survives s) = IsSurvivor system play fates s

-- All callers of a race behind the rounds of its hosts, and what each has in hand.
pub record AreAllParties (scene : Scene) (fates : List Fate) (s : Sweep) : Type 0 where
  pub servers : AreServers scene s.servers
  pub parties : All (IsParty scene.system.now scene.play.now fates) s.parties.items
  pub hosts : vec_len s.parties ≡ scene.race.now.hosts
