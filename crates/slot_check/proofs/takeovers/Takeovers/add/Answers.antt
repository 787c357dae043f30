use Rattle.std.proofs.Common.{Some, cond, eqb, ◌&&◌, ◌∙◌}
use Rattle.slot_check.specs.Takeovers.{takeovers_kept}
use Rattle.slot_check.proofs.takeovers.Takeovers.add.Goals as goal

pub returns-in_default-clause-begun : goal.returns-in_default-clause-begun
returns-in_default-clause-begun c =
    λ q j. (rw c.unwrap.ensures at c.insert-begun.ensures.updates).0 (record { queue = q; number = j })
    ∙ (λ t. cond (eqb (c.queue.ensures.value t) q && eqb (c.number.ensures.value t) j) (Some c.args.takeover)
    ((takeovers_kept c.args.self.now).begun q j))

pub returns-then-lba-clause-begun : goal.returns-then-lba-clause-begun
returns-then-lba-clause-begun c =
    λ q j. (rw c.unwrap.ensures at c.insert-begun.ensures.updates).0 (record { queue = q; number = j })
    ∙ (λ t. cond (eqb (c.queue.ensures.value t) q && eqb (c.number.ensures.value t) j) (Some c.args.takeover)
    ((takeovers_kept c.args.self.now).begun q j))

pub returns-else-lba-clause-begun : goal.returns-else-lba-clause-begun
returns-else-lba-clause-begun c =
    λ q j. (rw c.unwrap.ensures at c.insert-begun.ensures.updates).0 (record { queue = q; number = j })
    ∙ (λ t. cond (eqb (c.queue.ensures.value t) q && eqb (c.number.ensures.value t) j) (Some c.args.takeover)
    ((takeovers_kept c.args.self.now).begun q j))
