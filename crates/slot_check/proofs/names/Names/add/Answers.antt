use Rattle.std.proofs.Common.{sym, ap₂, eqb, ◌&&◌, ℕ}
use Rattle.nvme_model.specs.Slots.{Name, same_name}
use Rattle.slot_check.proofs.Updated.{released_added, won_added}
use Rattle.slot_check.proofs.names.Names.add.Goals as goal

pub returns-then-claims-clause-won : goal.returns-then-claims-clause-won
returns-then-claims-clause-won c = λ q j. won_added _ _ _ _ _ 0 _ _ _ c.if-claims.ensures.value
    c.queue.ensures.value c.second.ensures.value q j
    ((rw c.unwrap-then-claims.ensures at c.insert-awaited.ensures.updates).0 (record { queue = q; number = j }))

pub returns-else-claims-clause-released : goal.returns-else-claims-clause-released
returns-else-claims-clause-released c = λ l n. released_added c.args.swap _ _ _ l n (sym c.if-claims.ensures.value)
    (ap₂ (λ (x : ℕ) (y : Name). eqb x l && same_name y n) c.lba.ensures.value c.name-else-claims.ensures.value)
    ((rw c.unwrap-else-claims.ensures at c.insert-put.ensures.updates).0 (record { lba = l; name = n }))
