-- The callers of a race from one turn to the next.
use Rattle.std.specs.Prelude.{All, List, Some, slice_get, vec_len, ℕ, ◌+◌, ◌≡◌}
use Rattle.meet_lock.specs.Passes.{config_of, number, passes_of}
use Rattle.work_queue.specs.Engines.{EnginePass}
use Rattle.shared_system.specs.Callers.{IsCallerOf, IsWorkerOf}
use Rattle.shared_system.specs.declared.system.CallerPasses.{CallerPasses}
use Rattle.shared_system.specs.declared.system.System.{System}
use Rattle.shared_system.specs.declared.system.WorkerPasses.{WorkerPasses}
use Rattle.driver_cas.specs.Drivers.{port_of}
use Rattle.driver_cas.specs.Ports.{pass_of}
use Rattle.many_host_laws.specs.Hosts.{IsHost}
use Rattle.hosts.specs.Stages.{IsFetchStage, IsWorkStage}
use Rattle.race_hosts.specs.Hosts.{IsHosting, rounds_begun}
use Rattle.race_hosts.specs.Stages.{IsStageOf}
use Rattle.race_hosts.specs.declared.host_threads.Play.{Play}
use Rattle.race.specs.Ended.{HasEnded}
use Rattle.race.specs.declared.racers.Racer.{Racer}
use Rattle.race.specs.declared.racers.Racers.{Racers}
use Rattle.race.specs.declared.scene.Scene.{Scene}
use Rattle.race.specs.declared.servers.Servers.{Servers}

-- the pass of a host's driver
abbrev pub racer_pass : Racer → EnginePass
racer_pass r = pass_of (port_of r.host.driver)

module _ {G : Type 0} where
  -- The host of a completion queue, whose pass stands behind those of so many servers. The rounds that it began and
  -- those that it is to begin are all rounds of the play.
  pub record IsRacer (system : System G) (play : Play) (servers : ℕ) (r : Racer) : Type 0 where
    pub hosting : IsHosting system r.host
    pub config : config_of (racer_pass r) ≡ play.config
    pub all : passes_of (racer_pass r) ≡ servers + play.config.cqs
    pub place : number (racer_pass r) ≡ servers + r.host.queue
    pub is : IsHost play.config play.slots (number (racer_pass r)) r.host.queue r.host.queue r.host.driver
    pub stage : IsStageOf r.host r.rounds.stage
    pub sum : rounds_begun r.host + r.rounds.left ≡ play.rounds

  -- hosts whose passes are numbered from behind those of the servers on, in order
  abbrev pub AreRacers : System G → Play → ℕ → List Racer → Type 0
  AreRacers system play servers rs = (k : ℕ) (r : Racer) → slice_get rs k ≡ Some r
      → (number (racer_pass r) ≡ servers + k + 1) × IsRacer system play servers r

  -- workers whose passes, numbered from `top` downwards, only serve
  abbrev pub AreRaceWorkers : System G → Play → ℕ → ℕ → List WorkerPasses → Type 0
  AreRaceWorkers system play servers top ws = (k : ℕ) (w : WorkerPasses) → slice_get ws k ≡ Some w
      → (number w.caller.pass + k ≡ top) × HasEnded system.engine play servers w.caller.pass × IsWorkerOf system w

  -- the fetcher, with the last pass of the servers, which only serves
  abbrev pub IsRaceFetcher : System G → Play → ℕ → CallerPasses → Type 0
  IsRaceFetcher system play servers h = IsCallerOf system h × (number h.pass ≡ servers)
      × HasEnded system.engine play servers h.pass

-- The fetcher of the scene's submission queues and the workers of its race, and what each has in hand.
pub record AreServers (scene : Scene) (s : Servers) : Type 0 where
  pub fetcher : IsRaceFetcher scene.system.now scene.play.now (scene.race.now.workers + 1) s.fetcher
  pub fetching : IsFetchStage scene.system.now scene.queues s.fetching
  pub workers_are : AreRaceWorkers scene.system.now scene.play.now (scene.race.now.workers + 1) scene.race.now.workers
      s.workers.items
  pub working : All (IsWorkStage scene.system.now) s.working.items
  pub count : (vec_len s.workers ≡ scene.race.now.workers) × (vec_len s.working ≡ scene.race.now.workers)

-- All callers of a race, and what each has in hand.
pub record AreAllRacers (scene : Scene) (r : Racers) : Type 0 where
  pub servers : AreServers scene r.servers
  pub hosts : AreRacers scene.system.now scene.play.now (scene.race.now.workers + 1) r.hosts.items
  pub count : vec_len r.hosts ≡ scene.race.now.hosts

-- the rounds of each are over
abbrev pub AreOver : List Racer → Type 0
AreOver rs = (k : ℕ) (r : Racer) → slice_get rs k ≡ Some r → r.rounds.left ≡ 0
