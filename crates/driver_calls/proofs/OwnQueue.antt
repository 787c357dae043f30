-- The submission queue of a port.
use Rattle.std.proofs.Common.{All, List, [], eq-eqb, le-leb, true, ℕ, ◌∷◌, ◌≡◌, ◌≤◌}
use Rattle.std.proofs.lemmas.List.Elements.{All-cons, All-nil, All-same}
use Rattle.driver_calls.specs.Views.{PortView, owns}
use Rattle.nvme_model.proofs.Numbers.{own_queue}
use Rattle.nvme_model.specs.Config.{completion_queue}
use Rattle.plain_lemmas.proofs.Bools.{three}

-- with as many completion queues as submission queues, a port owns the submission queue of its number
pub owns_own : (v : PortView) (qs : List ℕ) → 1 ≤ v.queue → v.queue ≤ v.config.pairs → v.config.cqs ≡ v.config.pairs
    → qs ≡ v.queue ∷ [] → All (λ q. owns v q ≡ true) qs
owns_own v qs l m e is =
    All-same (λ q. owns v q ≡ true) qs (v.queue ∷ []) is
    (All-cons (λ q. owns v q ≡ true) v.queue []
    (three _ _ _ (le-leb 1 v.queue l) (le-leb v.queue v.config.pairs m)
    (eq-eqb (completion_queue v.config v.queue) v.queue (own_queue v.config v.queue e l m)))
    (All-nil (λ q. owns v q ≡ true)))
