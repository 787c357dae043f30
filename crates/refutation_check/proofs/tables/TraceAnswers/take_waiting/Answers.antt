use Rattle.std.proofs.Common.{None, cond, ◌&&◌, ◌∙◌}
use Rattle.plain_lemmas.proofs.Numbers.{eqb_swapped}
use Rattle.refutation_check.specs.Answers.{answers_in}
use Rattle.refutation_check.proofs.tables.TraceAnswers.take_waiting.Goals as goal

pub returns-clause-waiting : goal.returns-clause-waiting
returns-clause-waiting c =
    λ r i. c.remove.ensures.updates.0 (record { queue = r; cid = i })
    ∙ (λ t. cond (eqb_swapped c.args.queue r t && eqb_swapped c.args.cid i t) None
    ((answers_in c.args.self.now).waiting r i))
