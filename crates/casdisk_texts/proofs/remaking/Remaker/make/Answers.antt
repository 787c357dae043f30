use Rattle.std.proofs.Common.{ap, arith, is_none, length, subst, ◌≤◌, ◌∙◌}
use Rattle.nvme_model.specs.Steps.{next_entry}
use Rattle.controller_interface.specs.State.{ControllerState, Serves}
use Rattle.casdisk_texts.specs.Doing.{why_of}
use Rattle.casdisk_texts.proofs.Stepping.{refusal_is, why_refused}
use Rattle.casdisk_texts.proofs.remaking.Remaker.make.Goals as goal

pub returns-in-Err-clause-made : goal.returns-in-Err-clause-made
returns-in-Err-clause-made c =
    let before = c.args.self.now.core in
    let s = subst (λ r. Serves before c.args.step r c.step.new.self) c.in-Err.is c.step.ensures.serves in
    ap is_none (refusal_is _ _ (ap why_of s.0 ∙ why_refused c.args.step _) c.in_ok-is_for_cause-in-Err.ensures.cause)

pub returns-clause-made : goal.returns-clause-made
returns-clause-made c =
    let before = c.args.self.now.core in
    let s = subst (λ r. Serves before c.args.step r c.step.new.self) c.in-Ok.is c.step.ensures.serves in
    let is = ap (λ (x : ControllerState). x.past) s.1 in
    let kept : c.step.new.self.forgotten ≤ length before.past =
    omega (arith, c.history.ensures.few, ap (λ (x : ControllerState). x.forgotten) s.1) in
    let line = c.in_ok-write_last-in-Ok.ensures.line (next_entry before.config before.past c.args.step) before.past is
    kept in (
      s.0.0,
      ap (λ (x : ControllerState). x.past) c.forget.ensures.state
          ∙ ap (λ (x : ControllerState). x.past) c.write_last.ensures.same.0 ∙ is,
      line.0,
      line.1,
    )
