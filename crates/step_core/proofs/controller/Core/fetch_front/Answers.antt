use Rattle.std.proofs.Common.{ap, subst, sym, true, false, ◌∙◌}
use Rattle.std.specs.Option.{option_copied}
use Rattle.fused_match.specs.Judged.{NamesBlocks, cids_taken, verdict_by, waiting_items}
use Rattle.nvme_model.specs.EntryBytes.{slba}
use Rattle.nvme_model.specs.Operations.{op_by}
use Rattle.nvme_model.specs.Tickets.{cids_in_use}
use Rattle.nvme_model.specs.Verdict.{Item, verdict_of}
use Rattle.step_core.proofs.Fetching.{fetch_by_jobs, fetch_no_entry, front_is}
use Rattle.step_core.proofs.controller.Core.fetch_front.Goals as goal

pub returns-in_default-peek : goal.returns-in_default-peek
returns-in_default-peek c = record {
  value = fetch_no_entry _ _ c.args.queue c.in-Some.ring.now c.in-Some.ensures.value
      (sym c.peek.ensures.value ∙ ap option_copied c.in_default-peek.is);
}

pub returns-then-jobs_full : goal.returns-then-jobs_full
returns-then-jobs_full c = record {
  value = fetch_by_jobs _ _ c.args.queue c.in-Some.ring.now c.in-Some-peek.first.now true c.in-Some.ensures.value
      (sym c.peek.ensures.value ∙ ap option_copied c.in-Some-peek.is)
      (sym c.jobs_full.ensures.value ∙ c.if-jobs_full.true);
}

pub returns : goal.returns
returns c =
    let there = sym c.peek.ensures.value ∙ ap option_copied c.in-Some-peek.is in
    let none = fetch_by_jobs _ _ c.args.queue c.in-Some.ring.now c.in-Some-peek.first.now false c.in-Some.ensures.value
    there (sym c.jobs_full.ensures.value ∙ c.if-jobs_full.false) in
    let item = c.of-first.ensures.value in
    let fields = ap (λ (i : Item). i.fields) item in
    let second = option_copied c.as_ref-second.result in
    let judged = c.judge_front-judged.result in
    record {
      value = (
        none,
        front_is c.args.self.now.config c.args.self.now.past c.args.queue c.in-Some.ring.now
            (record { judged = judged; cids = c.taken_cids.result; slba = c.slba.result }) c.in-Some-peek.first.now
            second c.in-Some.ensures.value there
            (c.as_ref-second.ensures.value ∙ c.next_item-second.ensures.value)
            (c.judge_front-judged.ensures.verdict
            ∙ ap (λ (i : Item). verdict_of c.args.self.now.config.atomic c.args.self.now.config.blocks
            (cids_in_use c.args.self.now.past c.args.queue) (waiting_items i second)) item)
            (c.judge_front-judged.ensures.operation ∙ ap (op_by (verdict_by judged)) fields)
            (subst (NamesBlocks judged) fields c.judge_front-judged.ensures.range)
            (c.taken_cids.ensures.value ∙ ap (λ (i : Item). cids_taken judged i second) item)
            (c.slba.ensures.value ∙ ap slba (c.sqe.ensures.value ∙ fields)),
      );
    }
