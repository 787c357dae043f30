use Rattle.std.proofs.Common.{refl, subst, sym}
use Rattle.controller_interface.specs.declared.answer.Answer.{Answer}
use Rattle.work_queue.specs.Engines.{OpenedAs}
use Rattle.work_queue.specs.declared.engine.Open.{Open}
use Rattle.work_queue.specs.declared.engine.Opened.TheVariants as opened
use Rattle.work_queue.proofs.engine.Engine.attempt_open.Goals as goal

pub returns-in-Ok-fetch-clause-accepted : goal.returns-in-Ok-fetch-clause-accepted
returns-in-Ok-fetch-clause-accepted c =
    let f = c.in-Ok-fetch.ensures.accepted in
    subst (λ (o : Open). OpenedAs c.args.self.now c.args.pass.now c.fetch.new.pass o
    (opened.Fetched c.in-Ok-fetch.work))
    (sym c.in-Fetch.is)
    (record {
      answer = Answer.Fetched c.in-Ok-fetch.work.work;
      by = f.by;
      is = (refl, f.of, f.saw, f.one, f.fresh);
    })

pub returns-in-Ok-reap-clause-accepted : goal.returns-in-Ok-reap-clause-accepted
returns-in-Ok-reap-clause-accepted c =
    subst (λ (o : Open). OpenedAs c.args.self.now c.args.pass.now c.reap.new.pass o
    (opened.Reaped c.in-Ok-reap.completion.cqe c.in-Ok-reap.completion.payload))
    (sym c.in-Reap.is)
    (record {
      answer = Answer.Reaped c.in-Ok-reap.completion.cqe c.in-Ok-reap.completion.payload;
      by = c.in-Ok-reap.ensures.accepted;
      is = (refl, refl);
    })
