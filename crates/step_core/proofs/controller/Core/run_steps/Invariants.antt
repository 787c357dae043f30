use Rattle.std.proofs.Common.{◌≡◌, ◌+◌, ◌≤◌, List, ◌++◌, vec_len}
use mathlib.Core.List.{reverse}
use Rattle.std.specs.Vec.{vec_capacity}
use Rattle.nvme_model.specs.declared.step.Step.{Step}
use Rattle.controller_interface.specs.State.{RunsOnto}
use Rattle.step_core.proofs.controller.Core.run_steps.Given as goal

abbrev pub invariant-loop-step : goal.invariant-loop-step
invariant-loop-step l = record {
  room : vec_len l.out + vec_len l.rest ≤ vec_capacity l.out;
  tried : (front : List Step) × (front ++ reverse l.rest.items ≡ l.fn.steps.items)
      × RunsOnto l.fn.self front l.fn.out.items l.out.items l.self;
}

abbrev pub decreases-loop-step : goal.decreases-loop-step
decreases-loop-step l = vec_len l.rest
