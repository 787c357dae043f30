use Rattle.std.proofs.Common.{List, Some, ap, arith, subst, sym, ℕ, ◌∙◌}
use Rattle.witness_check.proofs.Taking.{IsWaiting, reap_with, reaped_data, reaped_waits}
use Rattle.witness_check.proofs.observer.Observer.take_reap.Goals as goal

pub returns-clause-seen : goal.returns-clause-seen
returns-clause-seen c = λ n past l w.
    let waits = subst (λ (ws : List (List (List ℕ))). IsWaiting n past ws) (sym c.self.view_is) w in
    ap (λ (xs : List ℕ). Some (reap_with c.args.line.now xs))
    (c.payload_or_none.ensures.value
    ∙ reaped_data n past c.args.line.now c.from-place.result c.self.inside.waiting.items c.pop_at-payload.result l
    (omega (arith, c.from-place.ensures, c.saturating_sub.ensures)) c.pop_at-payload.ensures.first waits)

pub returns-clause-waits : goal.returns-clause-waits
returns-clause-waits c = λ n past l w.
    reaped_waits n past c.args.line.now c.from-place.result c.self.inside.waiting.items
    c.pop_at-payload.new.queues.items l (omega (arith, c.from-place.ensures, c.saturating_sub.ensures))
    c.pop_at-payload.ensures.rest
    (subst (λ (ws : List (List (List ℕ))). IsWaiting n past ws) (sym c.self.view_is) w)
