use Rattle.std.proofs.Common.{subst, sym, arith}
use Rattle.witness_check.specs.Followed.{Followed, FollowsHistory}
use Rattle.witness_check.proofs.Taking.{told_reaped}
use Rattle.witness_check.proofs.witness.Witness.take_reap.Goals as goal

pub returns-clause-ok : goal.returns-clause-ok
returns-clause-ok c = λ n past f.
    told_reaped c.args.options.now n past c.args.line.now c.args.entry.now
    (record { checker = c.self.inside.checker; waiting = c.self.inside.waiting.items }) c.take.new.self
    c.from-place.result c.pop_at-payload.new.queues.items c.pop_at-payload.result _ _ c.in_ok-take.field-0
    c.requires.same (subst (λ (x : Followed). FollowsHistory n past x) (sym c.self.view_is) f) c.if-not-branch.false
    c.in_ok-take.ensures.ok
    (omega (arith, c.from-place.ensures, c.saturating_sub.ensures))
    c.pop_at-payload.ensures.first
    c.pop_at-payload.ensures.rest
    (rw c.as_ref.ensures.value at c.told_reap.ensures.value)
