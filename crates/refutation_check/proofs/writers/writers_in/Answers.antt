use Rattle.std.proofs.Common.{List, ap, arith, filter, length, map, reverse, ℕ, ◌+◌, ◌++◌, ◌-◌, ◌∙◌, ◌≡◌}
use Rattle.std.specs.List.{flat_map, range_with_len}
use Rattle.nvme_model.specs.declared.config.ConfigNumbers.{ConfigNumbers}
use Rattle.trace.specs.declared.seen.Seen.{Seen}
use Rattle.refutation.specs.EffectOrders.{EffectName}
use Rattle.refutation.specs.Lines.{published_in}
use Rattle.refutation.specs.Slices.{effects_of_command, may_write}
use Rattle.refutation_check.specs.Commands.{name_of}
use Rattle.refutation_check.specs.declared.order.Effect.{Effect}
use Rattle.refutation_check.proofs.Kept.{numbers_end, numbers_step}
use Rattle.refutation_check.proofs.writers.writers_in.Goals as goal

-- the effects of a submission queue
abbrev of_queue : ConfigNumbers → List Seen → ℕ → List EffectName
of_queue c trace q = flat_map (effects_of_command c trace q) (range_with_len 0 (length (published_in trace q)))

pub loop-queue-init : goal.loop-queue-init
loop-queue-init c =
    let config = c.args.known.now.config.now in
    let trace = reverse c.args.known.now.trace.now in
    let n = c.numbers-queue-end.result.pairs in
    let pairs = ap (λ (x : ConfigNumbers). x.pairs) c.numbers-queue-end.ensures.value in
    let all : n - 0 ≡ n = omega arith in (
      pairs,
      λ k. ap (λ (xs : List Effect). map name_of xs
          ++ filter (λ y. may_write config trace y c.args.block) (flat_map (of_queue config trace)
          (range_with_len 1 (n - 0))))
          c.new-found.ensures.items
          ∙ ap (λ (m : ℕ). filter (λ y. may_write config trace y c.args.block)
          (flat_map (of_queue config trace) (range_with_len 1 m))) (all ∙ pairs),
    )

pub loop-queue-preserved : goal.loop-queue-preserved
loop-queue-preserved c =
    let config = c.args.known.now.config.now in
    let trace = reverse c.args.known.now.trace.now in
    let i = c.loop-queue.queue in (
      c.loop-queue.invariant.0,
      λ k. numbers_step (λ y. may_write config trace y c.args.block) (of_queue config trace)
          (map name_of c.loop-queue.found.items) (map name_of c.push_queue.new.found.items) (i + 1) i
          c.numbers-queue-end.result.pairs c.loop-queue-test.true (c.in_ok-push_queue.ensures.value k)
          ∙ c.loop-queue.invariant.1 k,
    )

pub returns : goal.returns
returns c = record {
  value = λ k.
      let config = c.args.known.now.config.now in
      let trace = reverse c.args.known.now.trace.now in
      let i = c.loop-queue.queue in
      numbers_end (λ y. may_write config trace y c.args.block) (of_queue config trace)
      (map name_of c.loop-queue.found.items) (i + 1) i c.numbers-queue-end.result.pairs c.loop-queue-test.false
      ∙ c.loop-queue.invariant.1 k;
}
