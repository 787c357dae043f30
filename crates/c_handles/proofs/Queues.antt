-- Which queues a host's port has.
use Rattle.std.proofs.Common.{List, None, [], arith, eq-eqb, le-leb, sym, true, ℕ}
use Rattle.std.proofs.Common.{◌%◌, ◌-◌, ◌<◌, ◌≡◌, ◌≤◌, ◌∷◌}
use Rattle.std.proofs.lemmas.List.Elements.{All-cons, All-nil, All-same}
use Rattle.std.proofs.lemmas.Nat.{mod_below}
use Rattle.std.specs.Prelude.{All}
use Rattle.plain_lemmas.proofs.Bools.{three}
use Rattle.nvme_model.proofs.Accepted.{accepted}
use Rattle.nvme_model.specs.Config.{completion_queue, config_fault}
use Rattle.nvme_model.specs.declared.config.ConfigNumbers.{ConfigNumbers}
use Rattle.driver_calls.specs.Views.{PortView, owns}

-- the completion queue of a submission queue is there
pub queue_there : (c : ConfigNumbers) (q : ℕ) → config_fault c ≡ None
    → (1 ≤ completion_queue c q) × (completion_queue c q ≤ c.cqs)
queue_there c q e =
    let some : 1 ≤ c.cqs = (accepted c e).some_cqs in
    let below : (q - 1) % c.cqs < c.cqs = mod_below (q - 1) c.cqs some in
    (omega arith, omega (arith, below))

-- a port has a submission queue that uses its completion queue
pub owns_one : (v : PortView) (q : ℕ) (qs : List ℕ) → 1 ≤ q → q ≤ v.config.pairs
    → v.queue ≡ completion_queue v.config q → qs ≡ q ∷ [] → All (λ k. owns v k ≡ true) qs
owns_one v q qs l m e is =
    All-same (λ k. owns v k ≡ true) qs (q ∷ []) is
    (All-cons (λ k. owns v k ≡ true) q []
    (three _ _ _ (le-leb 1 q l) (le-leb q v.config.pairs m) (eq-eqb (completion_queue v.config q) v.queue (sym e)))
    (All-nil (λ k. owns v k ≡ true)))
