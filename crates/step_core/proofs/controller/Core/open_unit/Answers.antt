use Rattle.std.proofs.Common.{ap, is_some, sym, true, false, ◌∙◌}
use Rattle.job_table.specs.Keeping.{Keeping}
use Rattle.job_table.specs.Stages.{Ticking, is_open, unit_in}
use Rattle.step_core.proofs.Blocking.{block_tested, told}
use Rattle.step_core.proofs.controller.Core.open_unit.Goals as goal

pub returns-in-Some : goal.returns-in-Some
returns-in-Some c =
    let progress = c.progress-progress.ensures.value in
    let up =
    ap is_some (sym c.in-Some.is) ∙ told c.progress-progress.result.stage c.run.result c.run.ensures.open
    ∙ ap (λ (x : Ticking). is_open x.stage) progress in
    record {
      value = (
        block_tested _ _ c.args.ticket c.args.job.now c.requires.job true up,
        c.unit.ensures.value ∙ ap (λ (x : Ticking). unit_in x.stage) progress
            ∙ ap (λ (x : Keeping). unit_in x.progress.stage) c.requires.job.is,
      );
    }

pub returns-in-None : goal.returns-in-None
returns-in-None c =
    let up =
    ap is_some (sym c.in-None.is) ∙ told c.progress-progress.result.stage c.run.result c.run.ensures.open
    ∙ ap (λ (x : Ticking). is_open x.stage) c.progress-progress.ensures.value in
    record { value = block_tested _ _ c.args.ticket c.args.job.now c.requires.job false up }
