use Rattle.std.proofs.Common.{◌∙◌, List, ℕ, length, refl, subst, sym}
use Rattle.std.specs.List.{Contains}
use Rattle.driver_cas.proofs.Dropping.{counts_keep}
use Rattle.driver_cas.proofs.Tables.{reaps_keep}
use Rattle.driver_cas.proofs.Drivers.{asked_once, one_more, reaped_calls}
use Rattle.driver_cas.proofs.Following.{sole_later}
use Rattle.driver_cas.proofs.driver.Driver.reap.Goals as goal

pub invariant_of-self : goal.invariant_of-self
invariant_of-self g c =
    let d = c.args.self.now in
    let r = reaps_keep (g.P.Port.log d.began.value) (g.P.Port.log d.port) (g.P.Port.log c.reap_one.new.port) d.cids
    c.reap_one.new.cids c.reap_one.ensures.reaped d.grows d.tidy d.matches in
    record {
      sole = sole_later (g.P.Port.steps d.began.value) (g.P.Port.steps d.port) (g.P.Port.steps c.reap_one.new.port)
          (length (g.P.Port.log d.began.value)) (length (g.P.Port.log d.port))
          (length (g.P.Port.log c.reap_one.new.port)) d.sole
          (g.met.P.Port.sole d.port c.reap_one.new.port c.reap_one.ensures.later);
      grows = r.0;
      tidy = r.1;
      own = λ q k. g.met.P.Port.keeps_own d.port c.reap_one.new.port q c.reap_one.ensures.later
          ∙ d.own q (subst (λ (qs : List ℕ). Contains qs q) c.reap_one.ensures.queues k);
      matches = r.2;
      drops = counts_keep (g.P.Port.log d.began.value) (g.P.Port.log d.port) (g.P.Port.log c.reap_one.new.port) d.cids
          d.dropped c.reap_one.new.dropped c.reap_one.ensures.dropped d.grows d.matches d.drops;
      named = d.named;
      within = d.within;
    }

pub returns-clause-calls : goal.returns-clause-calls
returns-clause-calls g c =
    λ k of. reaped_calls g.P.Port g.met.P.Port.goes_on c.args.self.now _ k
    (record { began = refl; host = refl; acwu = refl; slots = refl; serial = refl; queues = c.reap_one.ensures.queues })
    c.reap_one.ensures.later
    (one_more (g.P.Port.log c.args.self.now.began.value) _ _ c.args.self.now.cids c.reap_one.new.cids
    c.args.self.now.grows c.reap_one.ensures.reaped) c.reap_one.ensures.goes_on of

pub returns-clause-made : goal.returns-clause-made
returns-clause-made g c =
    one_more (g.P.Port.log c.args.self.now.began.value) (g.P.Port.log c.args.self.now.port)
    (g.P.Port.log c.reap_one.new.port) c.args.self.now.cids c.reap_one.new.cids c.args.self.now.grows
    c.reap_one.ensures.reaped

pub returns-clause-asks : goal.returns-clause-asks
returns-clause-asks g c =
    asked_once g.P.Port c.args.self.now _ c.args.call.now c.reap_one.result
    (sym c.is_answered.ensures.value ∙ c.if-is_answered.false) c.reap_one.ensures.got c.reap_one.ensures.declined
    c.reap_one.ensures.fault
