-- Which queue a host of a disk has.
use Rattle.std.proofs.Common.{All, List, None, [], arith, eq-eqb, le-leb, true, ℕ, ◌%◌, ◌-◌, ◌<◌, ◌∷◌, ◌≡◌, ◌≤◌}
use Rattle.std.proofs.Common.{mod-eq_of_lt}
use Rattle.std.proofs.lemmas.List.Elements.{All-cons, All-nil, All-same}
use Rattle.plain_lemmas.proofs.Bools.{three}
use Rattle.nvme_model.proofs.Accepted.{accepted}
use Rattle.nvme_model.specs.Config.{completion_queue, config_fault}
use Rattle.nvme_model.specs.declared.config.ConfigNumbers.{ConfigNumbers}
use Rattle.driver_calls.specs.Views.{PortView, owns}

-- a submission queue whose number is that of a completion queue uses it
low_queue : (c : ConfigNumbers) (q : ℕ) → 1 ≤ q → q ≤ c.cqs → completion_queue c q ≡ q
low_queue c q l m =
    let small : q - 1 < c.cqs = omega (arith, l, m) in
    let same : (q - 1) % c.cqs ≡ q - 1 = mod-eq_of_lt small in
    omega (arith, same, l)

-- a port owns the submission queue of its number
pub owns_low : (v : PortView) (qs : List ℕ) → 1 ≤ v.queue → v.queue ≤ v.config.cqs → config_fault v.config ≡ None
    → qs ≡ v.queue ∷ [] → All (λ q. owns v q ≡ true) qs
owns_low v qs l m e is =
    let most = (accepted v.config e).most_cqs in
    let within : v.queue ≤ v.config.pairs = omega (arith, m, most) in
    All-same (λ q. owns v q ≡ true) qs (v.queue ∷ []) is
    (All-cons (λ q. owns v q ≡ true) v.queue []
    (three _ _ _ (le-leb 1 v.queue l) (le-leb v.queue v.config.pairs within)
    (eq-eqb (completion_queue v.config v.queue) v.queue (low_queue v.config v.queue l m)))
    (All-nil (λ q. owns v q ≡ true)))
