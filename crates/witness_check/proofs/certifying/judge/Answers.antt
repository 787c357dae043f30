use Rattle.std.proofs.Common.{ap, subst, sym}
use mathlib.Core.List.{reverse}
use Rattle.std.proofs.lemmas.List.{take_all}
use Rattle.nvme_model.specs.History.{Past}
use Rattle.witness_check.specs.Compared.{IsComparedTo, IsVerdict}
use Rattle.witness_check.proofs.Comparing.{more_of}
use Rattle.witness_check.proofs.certifying.judge.Goals as goal

pub loop-place-init : goal.loop-place-init
loop-place-init c = c.in_ok-comparison.ensures.begun c.args.trace.now

pub loop-place-preserved : goal.loop-place-preserved
loop-place-preserved c =
    subst (λ (p : Past). IsComparedTo c.args.options.now c.args.config.now c.args.trace.now p c.take.new.self)
    (sym (more_of c.args.entries.now c.loop-place.place c.index-entries-place.result c.loop-place-test.true
    c.index-entries-place.is))
    (c.in_ok-take.ensures.ok c.args.options.now c.args.config.now _ c.loop-place.invariant)

pub returns : goal.returns
returns c = record {
  value = subst (λ (p : Past). IsVerdict c.args.options.now c.args.config.now p c.args.trace.now c.verdict.result)
      (ap reverse (take_all c.loop-place.place c.args.entries.now c.loop-place-test.false))
      (c.verdict.ensures.value c.args.options.now c.args.config.now _ c.loop-place.invariant);
}
