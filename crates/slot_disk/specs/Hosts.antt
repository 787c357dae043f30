-- What always is so of the hosts of a disk, and of who serves it.
use Rattle.std.specs.Prelude.{Bool, List, Some, [], false, length, map, slice_get, true, ℕ, ◌+◌, ◌<◌, ◌≡◌, ◌≤◌}
use Rattle.nvme_model.specs.Passes.{IsBeginning}
use Rattle.nvme_model.specs.declared.array.Range.{Range}
use Rattle.nvme_model.specs.declared.config.ConfigNumbers.{ConfigNumbers}
use Rattle.meet_lock.specs.Passes.{config_of, mine, number, passes_of, seen}
use Rattle.work_queue.specs.Engines.{EnginePass, IsPassOfEngine}
use Rattle.work_queue.specs.declared.engine.Engine.{Engine}
use Rattle.driver_cas.specs.Drivers.{port_of}
use Rattle.driver_cas.specs.Ports.{pass_of}
use Rattle.driver_cas.specs.declared.port.Port.{Ghosts}
use Rattle.driver_cas.specs.declared.shared_port.SharedPort.{SharedPort}
use Rattle.shared_system.specs.Servers.{IsServing}
use Rattle.slot_host.specs.Begins.{is_hold, is_under_way}
use Rattle.driver_cas.specs.declared.driver.Driver.{Driver}
use Rattle.slot_host.specs.SlotHosts.{DidNothing, IsKept, slot_state}
use Rattle.slot_host.specs.SlotStates.{SlotState}
use Rattle.slot_host.specs.declared.slot_host.SlotHost.{SlotHost}
use Rattle.slot_host.specs.declared.under_way.UnderWay.{UnderWay}
use Rattle.many_host_laws.specs.Hosts.{IsHost}
use Rattle.slot_disk.specs.Views.{HostView}

-- what serves a disk: a pass of its engine, behind those of the hosts of all completion queues
pub record IsServer (eng : Engine) (c : ConfigNumbers) (p : EnginePass) : Type 0 where
  pub of : IsPassOfEngine eng p
  pub config : config_of p ≡ c
  pub number_is : number p ≡ c.cqs + 1
  pub passes : passes_of p ≡ c.cqs + 1
  pub serving : IsServing p

-- a pass for host h of a disk: it has the host's number, and has seen nothing
pub record IsPassFor (eng : Engine) (c : ConfigNumbers) (h : ℕ) (p : EnginePass) : Type 0 where
  pub of : IsPassOfEngine eng p
  pub config : config_of p ≡ c
  pub number_is : number p ≡ h
  pub passes : passes_of p ≡ c.cqs + 1
  pub fresh : seen p ≡ []

-- passes for hosts, host 1 first
abbrev pub ArePasses : Engine → ConfigNumbers → List EnginePass → Type 0
ArePasses eng c ps = (k : ℕ) (p : EnginePass) → slice_get ps k ≡ Some p → IsPassFor eng c (k + 1) p

module _ {g : Ghosts SharedPort} where
  -- A driver for host h of a disk, which did nothing.
  pub record IsNewDriver (eng : Engine) (c : ConfigNumbers) (slots : Range) (h : ℕ) (d : Driver SharedPort g)
      : Type 0 where
    pub of : IsPassOfEngine eng (pass_of (port_of d))
    pub passes : passes_of (pass_of (port_of d)) ≡ c.cqs + 1
    pub host : IsHost c slots h h h d
    pub idle : DidNothing d

  -- the call is no takeover, and no question
  abbrev pub is_plain : UnderWay SharedPort g → Bool
  is_plain (UnderWay.Takeover k) = false
  is_plain (UnderWay.Holder k) = false
  is_plain _ = true

  -- Host h of a disk: its pass and its completion queue have its number, and it took nothing over.
  pub record IsHostState (eng : Engine) (c : ConfigNumbers) (slots : Range) (h : ℕ) (s : SlotState SharedPort g)
      : Type 0 where
    pub of : IsPassOfEngine eng (pass_of (port_of s.driver))
    pub passes : passes_of (pass_of (port_of s.driver)) ≡ c.cqs + 1
    pub host : IsHost c slots h h h s.driver
    pub fresh : s.took_over ≡ false
    pub plain : is_plain s.under_way ≡ true

  -- And its driver's log says what it has.
  pub record IsDiskHost (eng : Engine) (c : ConfigNumbers) (slots : Range) (h : ℕ) (s : SlotHost SharedPort g)
      : Type 0 where
    pub kept : IsKept s
    pub state : IsHostState eng c slots h (slot_state s)

  -- hosts of the numbers above this one, in order
  abbrev pub AreHostsAbove : Engine → ConfigNumbers → Range → ℕ → List (SlotHost SharedPort g) → Type 0
  AreHostsAbove eng c slots n hs = (k : ℕ) (s : SlotHost SharedPort g) → slice_get hs k ≡ Some s
      → IsDiskHost eng c slots (n + (k + 1)) s

  -- host 1 first
  abbrev pub AreHosts : Engine → ConfigNumbers → Range → List (SlotHost SharedPort g) → Type 0
  AreHosts eng c slots hs = (k : ℕ) (s : SlotHost SharedPort g) → slice_get hs k ≡ Some s
      → IsDiskHost eng c slots (k + 1) s

  -- what contracts see of a host
  abbrev pub state_view : SlotState SharedPort g → HostView
  state_view h = record { calls = is_under_way h.under_way; has = map is_hold h.holds }

  abbrev pub host_view : SlotHost SharedPort g → HostView
  host_view s = state_view (slot_state s)

  -- and of each
  abbrev pub views : List (SlotHost SharedPort g) → List HostView
  views hs = map host_view hs

  -- the pass of its port
  abbrev pub host_pass : SlotHost SharedPort g → EnginePass
  host_pass s = pass_of (port_of (slot_state s).driver)

  -- One host, before and after it met a server that had seen the first and then saw the second: it has seen what the
  -- server had, and no more than the server sees now.
  pub record HasMet (s t : SlotHost SharedPort g) (p q : EnginePass) : Type 0 where
    pub since : IsBeginning (seen p) (seen (host_pass t))
    pub within : IsBeginning (seen (host_pass t)) (seen q)
    pub mine_stay : mine (host_pass t) ≡ mine (host_pass s)

  -- Each of the first hosts, so many, has met the server; the others are as they were.
  pub record HaveMet (n : ℕ) (hs js : List (SlotHost SharedPort g)) (p q : EnginePass) : Type 0 where
    pub count : length js ≡ length hs
    pub grows : IsBeginning (seen p) (seen q)
    pub met : (k : ℕ) (s t : SlotHost SharedPort g) → k < n → slice_get hs k ≡ Some s → slice_get js k ≡ Some t
        → HasMet s t p q
    pub rest : (k : ℕ) → n ≤ k → slice_get js k ≡ slice_get hs k
