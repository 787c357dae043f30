use Rattle.std.proofs.Common.{ap, refl, subst, sym, ◌∙◌, ◌∷◌}
use Rattle.std.proofs.lemmas.Bool.{and_parts}
use Rattle.nvme_model.specs.Passes.{SharedPast, entries}
use Rattle.nvme_model.specs.Legal.{IsLegal}
use Rattle.nvme_model.specs.declared.config.ConfigNumbers.{ConfigNumbers}
use Rattle.controller_interface.specs.declared.answer.Answer.{Answer}
use Rattle.meet_lock.specs.Passes.{config_of}
use Rattle.ticket_laws.specs.Tasks.{own_stage}
use Rattle.work_queue.specs.Duties.{IsWorkAt, duty_of, is_only_fetch}
use Rattle.work_queue.proofs.Making.{fetched_work}
use Rattle.work_queue.proofs.engine.Engine.fetch.Goals as goal

pub invariant_of-result : goal.invariant_of-result
invariant_of-result c =
    let o = c.in-Ok.ensures.accepted in
    let k = c.in-Ok.ensures.knows.0 in
    let p = c.args.pass.now in
    let legal : IsLegal (config_of p) (o.by.entry ∷ entries o.by.before) =
    subst (λ (z : ConfigNumbers × SharedPast). IsLegal z.0 (entries z.1))
    (λ i. (c.in-Ok.ensures.same.3 i, o.by.ends i)) k.legal in
    let w = fetched_work (config_of p) (entries o.by.before) c.args.queue o.by.entry (Answer.Fetched c.in-Ok.work)
    c.in-Ok.work (and_parts _ _ legal).0 legal o.by.says refl in
    record {
      owned = o.owns ∙ w.0;
      staged = c.start_of-stage.ensures.value
          ∙ (w.2 ∙ ap (own_stage (duty_of c.in-Ok.work) c.in-Ok.work.ticket) (sym o.one));
      fetched = subst (λ (z : ConfigNumbers × SharedPast).
          IsWorkAt z.0 (entries z.1) c.in-Ok.work c.args.queue)
          (λ i. (sym o.config i, sym (o.saw ∙ o.by.ends) i)) w.1;
    }

pub returns-in-Ok-clause-accepted : goal.returns-in-Ok-clause-accepted
returns-in-Ok-clause-accepted c =
    let o = c.in-Ok.ensures.accepted in
    let k = c.in-Ok.ensures.knows.0 in
    let p = c.args.pass.now in
    let legal : IsLegal (config_of p) (o.by.entry ∷ entries o.by.before) =
    subst (λ (z : ConfigNumbers × SharedPast). IsLegal z.0 (entries z.1))
    (λ i. (c.in-Ok.ensures.same.3 i, o.by.ends i)) k.legal in
    let w = fetched_work (config_of p) (entries o.by.before) c.args.queue o.by.entry (Answer.Fetched c.in-Ok.work)
    c.in-Ok.work (and_parts _ _ legal).0 legal o.by.says refl in
    record {
      by = o.by;
      of = o.of;
      saw = o.saw;
      one = o.one;
      fresh = ap (is_only_fetch c.in-Ok.work.ticket) o.one ∙ w.3;
    }
