-- What comes back of the threads of a race.
use Rattle.std.specs.Prelude.{List, Some, slice_get, vec_len, ℕ, ◌+◌, ◌-◌, ◌<◌, ◌≡◌}
use Rattle.meet_lock.specs.Passes.{config_of, number}
use Rattle.many_host_laws.specs.Closing.{HasClaimed, IsClosing}
use Rattle.race_hosts.specs.declared.host_threads.Play.{Play}
use Rattle.shared_system.specs.declared.system.Callers.{Callers}
use Rattle.work_queue.specs.Engines as engine
use Rattle.work_queue.specs.Engines.{EnginePass}
use Rattle.work_queue.specs.declared.engine.Engine.{Engine}

-- A pass that came back. The first ones, so many, only serve; behind them is one for the host of each completion queue,
-- which began so many rounds.
pub record HasEnded (e : Engine) (play : Play) (servers : ℕ) (p : EnginePass) : Type 0 where
  pub of : engine.IsPassOfEngine e p
  pub config : config_of p ≡ play.config
  pub closing : IsClosing play.config play.slots servers p
  pub claimed : servers < number p → HasClaimed play.config play.slots (number p - servers) play.rounds p

-- passes that came back, numbered from 1 in order
abbrev pub HaveEnded : Engine → Play → ℕ → List EnginePass → Type 0
HaveEnded e play servers ps = (k : ℕ) (p : EnginePass) → slice_get ps k ≡ Some p
    → (number p ≡ k + 1) × HasEnded e play servers p

module _ {H : Type 0} where
  -- what has passes that came back, numbered from `top` downwards
  abbrev pub EndDown : (H → EnginePass) → Engine → Play → ℕ → ℕ → List H → Type 0
  EndDown f e play servers top hs = (k : ℕ) (h : H) → slice_get hs k ≡ Some h
      → (number (f h) + k ≡ top) × HasEnded e play servers (f h)

-- The passes of all callers of a race of so many workers came back.
pub record HaveCallersEnded (e : Engine) (play : Play) (workers : ℕ) (h : Callers) : Type 0 where
  pub workers_end : EndDown (λ w. w.caller.pass) e play (workers + 1) workers h.workers.items
  pub fetcher : (number h.fetcher.pass ≡ workers + 1) × HasEnded e play (workers + 1) h.fetcher.pass
  pub hosts : EndDown (λ g. g.pass) e play (workers + 1) (workers + 1 + play.config.cqs) h.hosts.items
  pub counts : (vec_len h.workers ≡ workers) × (vec_len h.hosts ≡ play.config.cqs)
