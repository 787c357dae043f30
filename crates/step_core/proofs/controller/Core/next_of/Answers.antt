use Rattle.std.proofs.Common.{ap, sym, Some, ◌∙◌}
use Rattle.nvme_model.specs.Refusals.{refusal}
use Rattle.nvme_model.specs.declared.step.Step.{Step}
use Rattle.step_core.proofs.Next.{next_by}
use Rattle.step_core.proofs.controller.Core.next_of.Goals as goal

pub returns-in-Ok-post_due-clause-step : goal.returns-in-Ok-post_due-clause-step
returns-in-Ok-post_due-clause-step c =
    let x = c.args.self.now in
    let due = c.in-Ok-post_due.ensures.value in
    let none = ap (λ t. refusal x.config x.past (Step.Post t)) (sym due.0) ∙ due.1.0 in
    ap (λ t. Some (Step.Post t)) due.0
    ∙ sym (next_by x.config x.past c.args.ticket _ _ _ c.in_default.ensures.value c.in_default-open_unit.ensures.value
    none)
