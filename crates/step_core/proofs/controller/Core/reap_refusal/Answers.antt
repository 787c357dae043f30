use Rattle.std.proofs.Common.{true, false, sym, ◌∙◌}
use Rattle.step_core.proofs.Reaping.{reap_refused}
use Rattle.step_core.proofs.controller.Core.reap_refusal.Goals as goal

pub returns-then-is_empty : goal.returns-then-is_empty
returns-then-is_empty c = record {
  value = reap_refused _ _ c.args.queue _ true c.in-Some.ensures.value
      (sym c.is_empty.ensures.value ∙ c.if-is_empty.true);
}

pub returns : goal.returns
returns c = record {
  value = reap_refused _ _ c.args.queue _ false c.in-Some.ensures.value
      (sym c.is_empty.ensures.value ∙ c.if-is_empty.false);
}
