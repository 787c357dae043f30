use Rattle.std.proofs.Common.{◌-◌, ◌%◌, ◌+◌, arith, ap, refl, sym, ◌∙◌, ◌==◌, get_or, length, slice_get}
use Rattle.nvme_model.specs.declared.config.ConfigNumbers.{ConfigNumbers}
use Rattle.job_table.specs.Stages.{Ticking, owed_in}
use Rattle.step_core.proofs.Posting.{fields_by, post_nothing, post_queue, post_some, post_place, post_head, post_full}
use Rattle.step_core.proofs.Posting.{post_is}
use Rattle.step_core.proofs.controller.Core.post_due.Goals as goal

pub returns-in_default : goal.returns-in_default
returns-in_default c = record {
  value = post_nothing _ _ _ c.self.invariant.0 _ _ c.self.view_is c.args.ticket _ c.requires.job
      (sym (c.in_default.ensures.status
      ∙ ap (λ (x : Ticking). slice_get (owed_in x.stage) 0) c.progress-progress.ensures.value));
}

pub overflow_sub-place : goal.overflow_sub-place
overflow_sub-place c = (post_queue _ _ _ c.self.invariant.0 _ _ c.self.view_is c.args.ticket _ c.requires.job _
    c.queue-queue.ensures.value).low

pub nonzero_rem-place : goal.nonzero_rem-place
nonzero_rem-place c =
    omega (
      arith,
      post_some _ _ _ c.self.invariant.0 _ _ c.self.view_is c.args.ticket _ c.requires.job,
      ap (λ (n : ConfigNumbers). n.cqs) c.numbers-cqs.ensures.value,
    )

pub index-ring-requires : goal.index-ring-requires
index-ring-requires c =
    let n = ap (λ (n : ConfigNumbers). (c.queue-queue.result - 1) % n.cqs) c.numbers-cqs.ensures.value in
    omega (
      arith,
      post_place _ _ _ c.self.invariant.0 _ _ c.self.view_is c.args.ticket _ c.requires.job _
          c.queue-queue.ensures.value,
      n,
    )

pub returns-then-is_full : goal.returns-then-is_full
returns-then-is_full c =
    let ring = c.index-ring.ensures
    ∙ ap (λ (n : ConfigNumbers).
    get_or c.self.inside.completion.items ((c.queue-queue.result - 1) % n.cqs) c.index-ring.result.now)
    c.numbers-cqs.ensures.value in
    let owes = sym (c.in-Some.ensures'.status
    ∙ ap (λ (x : Ticking). slice_get (owed_in x.stage) 0) c.progress-progress.ensures.value) in
    record {
      value = post_full _ _ _ c.self.invariant.0 _ _ c.self.view_is c.args.ticket _ c.requires.job _
          c.queue-queue.ensures.value c.in-Some.status c.index-ring.result.now _
          owes ring (sym c.is_full.ensures.value ∙ c.if-is_full.true);
    }

pub overflow_sub-queue : goal.overflow_sub-queue
overflow_sub-queue c = (post_queue _ _ _ c.self.invariant.0 _ _ c.self.view_is c.args.ticket _ c.requires.job _
    c.queue-queue.ensures.value).low

pub index-requires : goal.index-requires
index-requires c = omega (
  arith,
  post_head _ _ _ c.self.invariant.0 _ _ c.self.view_is c.args.ticket _ c.requires.job _
      c.queue-queue.ensures.value,
)

pub returns : goal.returns
returns c =
    let ring = c.index-ring.ensures
    ∙ ap (λ (n : ConfigNumbers).
    get_or c.self.inside.completion.items ((c.queue-queue.result - 1) % n.cqs) c.index-ring.result.now)
    c.numbers-cqs.ensures.value in
    let owes = sym (c.in-Some.ensures.status
    ∙ ap (λ (x : Ticking). slice_get (owed_in x.stage) 0) c.progress-progress.ensures.value) in
    let has = ap (λ (x : Ticking). slice_get x.cids 0) (sym c.progress-progress.ensures.value)
    ∙ c.in-Some.ensures.cid in
    record {
      value = (
        refl,
        (
          post_full _ _ _ c.self.invariant.0 _ _ c.self.view_is c.args.ticket _ c.requires.job _
              c.queue-queue.ensures.value _ c.index-ring.result.now _ owes ring
              (sym c.is_full.ensures.value ∙ c.if-is_full.false),
          post_is _ _ _ c.self.invariant.0 _ _ c.self.view_is c.args.ticket _ c.requires.job _
              c.queue-queue.ensures.value _ _ c.index-ring.result.now c.index.result.now c.cqe_of.result _ owes has ring
              c.index.ensures
              (fields_by _ _ _ _ _ _ _ _ c.cqe_of.ensures.fields c.head-head.ensures.value c.phase.ensures.value)
              c.encode_cqe-cqe.ensures.value refl refl
              (ap (λ (n : ConfigNumbers). (c.queue-queue.result - 1) % n.cqs + 1) c.numbers-cqs.ensures.value)
              (ap length c.read.ensures.value)
              (ap (λ n. n == 1) (c.len.ensures.value
              ∙ ap length (c.cids.ensures.value ∙ ap (λ (x : Ticking). x.cids) c.progress-progress.ensures.value)))
              refl,
        ),
      );
    }
