use Rattle.std.proofs.Common.{◌∙◌, List, ℕ, length, refl, subst, sym}
use Rattle.std.specs.List.{Contains}
use Rattle.driver_cas.proofs.Sending.{send_drops, send_keeps}
use Rattle.driver_cas.proofs.Following.{sole_later}
use Rattle.driver_cas.proofs.driver.Driver.publish_to.Goals as goal

pub invariant_of-self : goal.invariant_of-self
invariant_of-self g c =
    let d = c.args.self.now in
    let q = c.args.queue in
    let r = c.args.request in
    let k = send_keeps (g.P.Port.log d.began.value) (g.P.Port.log d.port) (g.P.Port.log c.send.new.port) d.cids
    c.send.new.cids q r.slba r.blocks c.args.two.first c.args.two.second r.op c.args.contents
    c.batch_of-batch.result
    c.ranges.queue.fits c.requires.free c.batch_of-batch.ensures.is d.grows d.tidy d.matches c.send.ensures.log in
    record {
      sole = sole_later (g.P.Port.steps d.began.value) (g.P.Port.steps d.port) (g.P.Port.steps c.send.new.port)
          (length (g.P.Port.log d.began.value)) (length (g.P.Port.log d.port)) (length (g.P.Port.log c.send.new.port))
          d.sole (g.met.P.Port.sole d.port c.send.new.port c.send.ensures.later);
      grows = k.0;
      tidy = k.1;
      own = λ n h. g.met.P.Port.keeps_own d.port c.send.new.port n c.send.ensures.later
          ∙ d.own n (subst (λ (qs : List ℕ). Contains qs n) c.send.ensures.queues h);
      matches = k.2;
      drops = d.drops
          ∙ sym (send_drops (g.P.Port.log d.began.value) (g.P.Port.log d.port) (g.P.Port.log c.send.new.port) d.cids
          c.send.new.cids q c.args.two.first c.args.two.second r.op c.batch_of-batch.result d.grows
          c.send.ensures.log);
      named = d.named;
      within = d.within;
    }

pub returns-in-Ok-clause-tried : goal.returns-in-Ok-clause-tried
returns-in-Ok-clause-tried g c = (
  refl,
  refl,
  (
    c.batch_of-batch.result,
    record {
      start = c.of-start.ensures;
      same = record {
        began = refl;
        host = refl;
        acwu = refl;
        slots = refl;
        serial = refl;
        queues = c.send.ensures.queues;
      };
      known = c.requires.known;
      later = c.send.ensures.later;
      accepted = c.in-Ok.ensures.sent.2;
      log = c.in-Ok.ensures.sent.0;
      is = c.batch_of-batch.ensures.is;
      free = c.requires.free;
      taken = c.in-Ok.ensures.sent.1;
    },
  ),
)
