use Rattle.std.proofs.Common.{Some, ap, cond, eqb, ◌&&◌, ◌∙◌}
use Rattle.plain_lemmas.proofs.Numbers.{eqb_swapped}
use Rattle.host_laws.specs.Book.{cid_of}
use Rattle.refutation_check.specs.Answers.{answers_in}
use Rattle.refutation_check.proofs.Steps.{on_ok}
use Rattle.refutation_check.proofs.tables.TraceAnswers.publish_one.Goals as goal

pub returns-clause-waiting : goal.returns-clause-waiting
returns-clause-waiting c =
    on_ok _ c.add_one.result (λ q cid. c.in_ok-before.ensures.updates.0 (record { queue = q; cid = cid })
    ∙ (λ t. cond (eqb_swapped c.args.queue q t
    && (ap (λ k. eqb k cid) c.cid_of-cid.ensures.value ∙ eqb_swapped (cid_of c.args.entry.now) cid) t)
    (Some (c.count_of-number.ensures.value t)) ((answers_in c.args.self.now).waiting q cid)))

pub returns-clause-entries : goal.returns-clause-entries
returns-clause-entries c =
    on_ok _ c.add_one.result (λ q j. c.in_ok-insert.ensures.updates.0 (record { queue = q; number = j })
    ∙ (λ t. cond (eqb c.args.queue q && eqb (c.count_of-number.ensures.value t) j) (Some c.args.at)
    ((answers_in c.args.self.now).entries q j)))
