use Rattle.std.proofs.Common.{subst, ◌≡◌}
use Rattle.meet_lock.specs.Lock.{ExtendsByPasses}
use Rattle.meet_lock.proofs.Views.{Seated}
use Rattle.meet_lock.proofs.shared.Shared.learn.Goals as goal

pub returns-clause-knows : goal.returns-clause-knows
returns-clause-knows g c =
    let on = subst (λ (z : Seated g.row.M.Denot). ExtendsByPasses z.0.passes z.0.seen
    c.look.new.seat.me.0.seen)
    c.hear.ensures.1 c.look.ensures.told.0 in
    (c.look.ensures.told.2, on.0, on.1)

pub returns-clause-config : goal.returns-clause-config
returns-clause-config g c =
    let heard = subst (λ (z : Seated g.row.M.Denot). z.0.told_config ≡ z.0.config) c.hear.ensures.1
    c.look.ensures.config in
    subst (λ (z : Seated g.row.M.Denot). z.0.config ≡ c.args.pass.now.seat.me.0.config)
    c.tell-copy.ensures.message.1 heard
