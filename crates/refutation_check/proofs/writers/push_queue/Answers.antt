use Rattle.std.proofs.Common.{ap, filter, map, reverse, ℕ, ◌++◌, ◌∙◌}
use Rattle.std.specs.List.{flat_map, range_with_len}
use Rattle.refutation.specs.Slices.{effects_of_command, may_write}
use Rattle.refutation_check.specs.Commands.{name_of}
use Rattle.refutation_check.proofs.Kept.{numbers_end, numbers_step}
use Rattle.refutation_check.proofs.writers.push_queue.Goals as goal

pub loop-number-preserved : goal.loop-number-preserved
loop-number-preserved c =
    let config = c.args.known.now.config.now in
    let trace = reverse c.args.known.now.trace.now in
    let i = c.loop-number.number in (
      c.loop-number.invariant.0,
      λ k. numbers_step (λ y. may_write config trace y c.args.block) (effects_of_command config trace c.args.queue)
          (map name_of c.loop-number.found.items) (map name_of c.push_command.new.found.items) i i
          c.count-number-end.result c.loop-number-test.true (c.in_ok-push_command.ensures.value k)
          ∙ c.loop-number.invariant.1 k,
    )

pub returns : goal.returns
returns c = record {
  value = λ k.
      let config = c.args.known.now.config.now in
      let trace = reverse c.args.known.now.trace.now in
      let i = c.loop-number.number in
      numbers_end (λ y. may_write config trace y c.args.block) (effects_of_command config trace c.args.queue)
      (map name_of c.loop-number.found.items) i i c.count-number-end.result c.loop-number-test.false
      ∙ c.loop-number.invariant.1 k
      ∙ ap (λ (n : ℕ). map name_of c.args.found.now.items
      ++ filter (λ y. may_write config trace y c.args.block)
      (flat_map (effects_of_command config trace c.args.queue) (range_with_len 0 n)))
      (c.loop-number.invariant.0 ∙ k.answers.published c.args.queue);
}
