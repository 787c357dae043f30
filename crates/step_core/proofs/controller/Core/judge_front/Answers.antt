use Rattle.std.proofs.Common.{ap, arith, false, subst, sym, ◌*◌, ◌-◌, ◌≡◌}
use Rattle.std.specs.Option.{option_copied}
use Rattle.fused_match.specs.Judged.{verdict_by, waiting_items}
use Rattle.nvme_model.specs.Refusals.{no_queue}
use Rattle.nvme_model.specs.Tickets.{cids_in_use}
use Rattle.nvme_model.specs.Verdict.{verdict_of}
use Rattle.nvme_model.specs.declared.config.ConfigNumbers.{ConfigNumbers}
use Rattle.controller_interface.specs.State.{ControllerState}
use Rattle.step_core.proofs.Fetching.{judged_by}
use Rattle.rings.proofs.CidCounts.{used_at}
use Rattle.nvme_model.proofs.TicketQueues.{queue_there}
use Rattle.step_core.proofs.controller.Core.judge_front.Goals as goal

pub returns-clause-verdict : goal.returns-clause-verdict
returns-clause-verdict c =
    let there = subst (λ (x : ControllerState). no_queue x.config c.args.queue
    ≡ false) (sym c.self.view_is) c.requires.there in
    let queue = queue_there c.self.inside.config c.args.queue there in
    let used = used_at c.self.inside.config.pairs (2 * c.self.inside.config.jobs)
    (cids_in_use c.self.inside.history.past) _ (c.args.queue - 1) c.args.queue c.index.result.now
    c.self.invariant.0.in_use (omega (arith, queue.low)) (omega (arith, queue.low, queue.high)) c.index.ensures in
    subst (λ (x : ControllerState). verdict_by c.judge.result
    ≡ verdict_of x.config.atomic x.config.blocks (cids_in_use x.past c.args.queue)
    (waiting_items c.args.first.now (option_copied c.args.second))) c.self.view_is
    (judged_by c.self.inside.config c.self.inside.history.past c.args.queue c.index.result.now c.judge.result _ _ _
    (waiting_items c.args.first.now (option_copied c.args.second)) used c.as_slice-in_use.ensures.value
    c.units.ensures (ap (λ (n : ConfigNumbers). n.blocks) c.numbers-numbers.ensures.value) c.judge.ensures.verdict)
