-- What the passes of a new controller know.
use Rattle.std.proofs.Common.{All, List, Some, [], get_or, slice_get, ℕ, ◌+◌, ◌≡◌}
use Rattle.std.proofs.lemmas.Option.{slice_get-get_or}
use Rattle.nvme_model.specs.declared.config.ConfigNumbers.{ConfigNumbers}
use Rattle.meet_lock.specs.Passes.{IsNew}
use Rattle.work_queue.specs.Engines.{EnginePass, IsFreshPass, IsPassOfEngine}
use Rattle.work_queue.specs.declared.engine.Engine.{Engine}

-- they have seen nothing
pub all_fresh : (e : Engine) (n : ℕ) (c : ConfigNumbers) (ps : List EnginePass)
    → ((k : ℕ) (p : EnginePass) → slice_get ps k ≡ Some p → IsPassOfEngine e p × IsNew n c [] (k + 1) p)
    → All (IsFreshPass e c) ps
all_fresh e n c ps each = λ k x within.
    let new = each k (get_or ps k x) (slice_get-get_or ps k x within) in
    record { of = new.0; config = new.1.2; seen = new.1.3 }
