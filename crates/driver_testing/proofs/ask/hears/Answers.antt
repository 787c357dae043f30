use Rattle.std.proofs.Common.{refl, subst, sym, ◌∙◌}
use Rattle.driver_cas.proofs.Listening.{follows_same}
use Rattle.driver_cas.specs.Starts.{IsUntouched}
use Rattle.driver_cas.specs.declared.driver.Driver.{Driver}
use Rattle.driver_cas.specs.declared.shared_port.SharedPort.{SharedPort}
use Rattle.driver_testing.proofs.ask.hears.Goals as goal

pub loop-init : goal.loop-init
loop-init g c = (
  c.requires,
  λ k of. of,
  record {
    same = record { began = refl; host = refl; acwu = refl; slots = refl; serial = refl; queues = refl };
    later = follows_same c.args.host.now.driver.port;
    as_before = (refl, refl);
  },
)

pub loop-preserved : goal.loop-preserved
loop-preserved g c =
    let x = c.listen-took in
    let before = c.of-before.ensures in
    let now = c.of-now.ensures in (
      (x.ensures.place, x.ensures.untouched.later.same_lock ∙ c.loop.invariant.0.1),
      λ k of. x.ensures.calls k (c.loop.invariant.1 k of),
      subst (λ (d : Driver SharedPort _). IsUntouched d x.new.self) before
          (c.an_untouched_driver_stays_so.ensures
          (subst (λ (d : Driver SharedPort _). IsUntouched d c.of-now.result.value) (sym before)
          (subst (λ (d : Driver SharedPort _). IsUntouched c.args.host.now.driver d) (sym now) c.loop.invariant.2))
          (subst (λ (d : Driver SharedPort _). IsUntouched d x.new.self) (sym now) x.ensures.untouched)),
    )
