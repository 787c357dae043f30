use Rattle.std.proofs.Common.{◌≡◌, ap, ap₂, arith, refl, sym, ◌∙◌}
use Rattle.nvme_model.specs.declared.config.AtomicParameters.{AtomicParameters}
use Rattle.job_table.specs.Stages.{Ticking, stage_mode, next_in, unit_in}
use Rattle.controller_interface.specs.State.{ControllerState}
use Rattle.step_core.proofs.Granting.{in_conflict, line_is, next_short, nothing_next, seen}
use Rattle.step_core.proofs.controller.Core.grant_line.Goals as goal

pub returns-in_default : goal.returns-in_default
returns-in_default c =
    let same : c.units.result ≡ c.args.self.now.config.atomic = c.units.ensures
    ∙ ap (λ (x : ControllerState). x.config.atomic) c.self.view_is in
    record {
      value = nothing_next _ _ _ (seen _ _ _ _ _ c.self.view_is c.self.invariant.0) c.args.ticket c.args.job.now
          c.requires.job
          (ap₂ (λ (u : AtomicParameters) (x : Ticking). next_in u x.stage) (sym same)
          (sym c.progress-progress.ensures.value) ∙ sym c.in_default.ensures.value);
    }

pub returns-then-conflicts : goal.returns-then-conflicts
returns-then-conflicts c =
    let same : c.units.result ≡ c.args.self.now.config.atomic = c.units.ensures
    ∙ ap (λ (x : ControllerState). x.config.atomic) c.self.view_is in
    record {
      value = in_conflict _ _ _ (seen _ _ _ _ _ c.self.view_is c.self.invariant.0) c.args.ticket c.args.job.now
          c.requires.job
          c.in-Some.range
          (c.in-Some.ensures.value
          ∙ ap₂ (λ (u : AtomicParameters) (x : Ticking). next_in u x.stage) same c.progress-progress.ensures.value)
          c.mode-mode.result (c.mode-mode.ensures.value
          ∙ ap (λ (x : Ticking). stage_mode x.stage) c.progress-progress.ensures.value)
          (sym c.if-conflicts.ensures.conflicts);
    }

pub overflow_cast-range : goal.overflow_cast-range
overflow_cast-range c =
    let same : c.units.result ≡ c.args.self.now.config.atomic = c.units.ensures
    ∙ ap (λ (x : ControllerState). x.config.atomic) c.self.view_is in
    omega (
      arith,
      next_short _ _ _ (seen _ _ _ _ _ c.self.view_is c.self.invariant.0) c.args.ticket c.args.job.now c.requires.job
          c.in-Some.range
          (c.in-Some.ensures.value
          ∙ ap₂ (λ (u : AtomicParameters) (x : Ticking). next_in u x.stage) same c.progress-progress.ensures.value),
    )

pub returns : goal.returns
returns c =
    let same : c.units.result ≡ c.args.self.now.config.atomic = c.units.ensures
    ∙ ap (λ (x : ControllerState). x.config.atomic) c.self.view_is in
    rw c.new.ensures.value (record {
      value = (
        refl,
        line_is _ _ _ (seen _ _ _ _ _ c.self.view_is c.self.invariant.0) c.args.ticket c.args.job.now c.requires.job
            c.in-Some.range
            (c.in-Some.ensures.value
            ∙ ap₂ (λ (u : AtomicParameters) (x : Ticking). next_in u x.stage) same c.progress-progress.ensures.value)
            c.mode-mode.result (c.mode-mode.ensures.value
            ∙ ap (λ (x : Ticking). stage_mode x.stage) c.progress-progress.ensures.value)
            c.unit.result (c.unit.ensures.value
            ∙ ap (λ (x : Ticking). unit_in x.stage) c.progress-progress.ensures.value)
            (sym c.if-conflicts.ensures.conflicts),
      );
    })
