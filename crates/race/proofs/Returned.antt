-- The controller that is closed with all passes.
use Rattle.std.proofs.Common.{List, Some, arith, length, slice_get, subst, ℕ, ◌+◌, ◌<◌, ◌∙◌, ◌≡◌}
use Rattle.nvme_model.specs.Kept.{ControllerInvariant}
use Rattle.nvme_model.specs.Legal.{IsLegal}
use Rattle.nvme_model.specs.declared.config.ConfigNumbers.{ConfigNumbers}
use Rattle.controller_interface.specs.State.{ControllerState}
use Rattle.many_host_laws.specs.Closing.{HasRounds, KeepsSlots}
use Rattle.many_host_laws.proofs.Rostering.{race_keeps, race_rounds}
use Rattle.meet_lock.specs.Passes.{IsSeenWhole, config_of}
use Rattle.meet_lock.proofs.Wholes.{some_at}
use Rattle.work_queue.specs.Engines.{EnginePass}
use Rattle.work_queue.specs.declared.engine.Engine.{Engine}
use Rattle.race_hosts.specs.declared.host_threads.Play.{Play}
use Rattle.race.specs.Ended.{HaveEnded}

module _ (e : Engine) (play : Play) (servers : ℕ) (ps : List EnginePass)
    (ended : HaveEnded e play servers ps) (count : length ps ≡ servers + play.config.cqs) (some : 0 < servers) where
  same_config : (d : ConfigNumbers)
      → ((k : ℕ) (p : EnginePass) → slice_get ps k ≡ Some p → d ≡ config_of p) → d ≡ play.config
  same_config d f = let a = some_at ps 0 (omega (arith, count, some)) in f 0 a.0 a.1 ∙ (ended 0 a.0 a.1).1.config

  pub closed_config : (core : ControllerState)
      → ((k : ℕ) (p : EnginePass) → slice_get ps k ≡ Some p → core.config ≡ config_of p) → core.config ≡ play.config
  closed_config core f = same_config core.config f

  pub closed_slots : (core : ControllerState)
      → ((k : ℕ) (p : EnginePass) → slice_get ps k ≡ Some p → core.config ≡ config_of p)
      → ControllerInvariant core.config core.past → IsSeenWhole ps core.past
      → KeepsSlots play.config play.slots core.past
  closed_slots core f kept whole =
      race_keeps play.config play.slots servers ps core.past some count
      (λ k p at. ((ended k p at).0, (ended k p at).1.closing)) whole
      (subst (λ (d : ConfigNumbers). IsLegal d core.past) (same_config core.config f) kept.legal)

  pub closed_rounds : (core : ControllerState)
      → ((k : ℕ) (p : EnginePass) → slice_get ps k ≡ Some p → core.config ≡ config_of p)
      → ControllerInvariant core.config core.past → IsSeenWhole ps core.past
      → HasRounds play.config play.slots play.rounds core.past
  closed_rounds core f kept whole =
      race_rounds play.config play.slots servers ps core.past some count
      (λ k p at. ((ended k p at).0, (ended k p at).1.closing)) whole
      (subst (λ (d : ConfigNumbers). IsLegal d core.past) (same_config core.config f) kept.legal) play.rounds
      (λ k p at. (ended k p at).1.claimed)
