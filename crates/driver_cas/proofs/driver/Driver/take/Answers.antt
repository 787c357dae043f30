use Rattle.std.proofs.Common.{◌∙◌, List, ℕ, refl, subst}
use Rattle.std.specs.List.{Contains}
use Rattle.driver_cas.specs.Drivers.{made}
use Rattle.driver_cas.proofs.Drivers.{kept_others, taken_others}
use Rattle.driver_cas.proofs.Tables.{take_matches, table_tells}
use Rattle.driver_cas.proofs.driver.Driver.take.Goals as goal

pub invariant_of-self : goal.invariant_of-self
invariant_of-self g c =
    let d = c.args.self.now in
    let k = c.args.call.now in
    record {
      sole = d.sole;
      grows = d.grows;
      tidy = d.tidy;
      own = λ q h. d.own q (subst (λ (qs : List ℕ). Contains qs q) c.take_answer.ensures.queues h);
      matches = take_matches d.cids c.take_answer.new.cids (made d) k.op k.queue k.first k.second c.take_answer.result
          d.matches c.take_answer.ensures.value c.take_answer.ensures.none c.take_answer.ensures.some;
      drops = d.drops;
      named = d.named;
      within = d.within;
    }

pub returns-clause-answer : goal.returns-clause-answer
returns-clause-answer g c =
    let d = c.args.self.now in
    let k = c.args.call.now in
    c.take_answer.ensures.value ∙ table_tells d.cids (made d) k.op k.queue k.first k.second d.matches c.requires.in_use

pub returns-clause-others : goal.returns-clause-others
returns-clause-others g c =
    λ other of apart. taken_others g.P.Port c.args.self.now _ c.args.call.now other
    (record {
      began = refl;
      host = refl;
      acwu = refl;
      slots = refl;
      serial = refl;
      queues = c.take_answer.ensures.queues;
    }) refl
    (kept_others c.args.self.now.cids c.take_answer.new.cids c.args.call.now c.take_answer.result other apart
    c.take_answer.ensures.none c.take_answer.ensures.some of.in_use) of
