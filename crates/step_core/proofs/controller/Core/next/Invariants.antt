use Rattle.std.proofs.Common.{◌≡◌, drop}
use Rattle.ticket_laws.specs.Standing.{flying}
use Rattle.nvme_model.specs.Steps.{ready}
use Rattle.step_core.proofs.Next.{ready_among}
use Rattle.step_core.proofs.controller.Core.next.Given as goal

abbrev pub invariant-loop-place : goal.invariant-loop-place
invariant-loop-place l =
    ready_among l.self.config l.self.past (drop l.place (flying l.self.past)) ≡ ready l.self.config l.self.past
