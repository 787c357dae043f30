use Rattle.std.proofs.Common.{Some, cond, eqb, ℕ, ◌&&◌, ◌∙◌, ◌≡◌}
use Rattle.slot_check.specs.Progress.{progress_in}
use Rattle.slot_check.proofs.Refused.{on_err}
use Rattle.slot_check.proofs.progress.QueueProgress.complete.Goals as goal

pub returns-in_err-add_count-clause-none_waits : goal.returns-in_err-add_count-clause-none_waits
returns-in_err-add_count-clause-none_waits c =
    let same : (q i : ℕ)
    → (progress_in (record c.args.self.now { waiting = c.reserve.new.self })).waiting q i
    ≡ (progress_in c.args.self.now).waiting q i =
    λ q i. c.reserve.ensures.entries.2 (record { queue = q; index = i }) in
    on_err c.from_residual-in_err-add_count.result ((q i : ℕ)
    → (progress_in (record c.args.self.now { waiting = c.reserve.new.self })).waiting q i
    ≡ (progress_in c.args.self.now).waiting q i) same

pub returns-then-flying-le1-clause-waiting : goal.returns-then-flying-le1-clause-waiting
returns-then-flying-le1-clause-waiting c =
    λ q i. (rw c.unwrap.ensures at c.insert-added.ensures.updates).0 (record { queue = q; index = i })
    ∙ (λ t. cond (eqb c.args.queue q && eqb (c.count_of-index.ensures.value t) i)
    (Some (record { queue = c.args.flying.queue; number = c.args.flying.next; success = c.args.success }))
    (c.reserve.ensures.entries.2 (record { queue = q; index = i }) t))

pub returns-clause-waiting : goal.returns-clause-waiting
returns-clause-waiting c =
    λ q i. (rw c.unwrap.ensures at c.insert-added.ensures.updates).0 (record { queue = q; index = i })
    ∙ (λ t. cond (eqb c.args.queue q && eqb (c.count_of-index.ensures.value t) i)
    (Some (record { queue = c.args.flying.queue; number = c.args.flying.next; success = c.args.success }))
    (c.reserve.ensures.entries.2 (record { queue = q; index = i }) t))
