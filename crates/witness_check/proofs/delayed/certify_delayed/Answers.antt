use Rattle.std.proofs.Common.{false, reverse, sym, true, ◌≡◌, ◌∙◌}
use Rattle.witness_check.specs.declared.comparison.TraceVerdict.TheVariants.{Bad, Explained, Unlike}
use Rattle.witness_check.proofs.Settling.{not_delayed}
use Rattle.witness_check.proofs.delayed.certify_delayed.Goals as goal

pub returns-in-Bad : goal.returns-in-Bad
returns-in-Bad c = record {
  value = (
    λ z. absurd (let w : false ≡ true = z in cc),
    λ h. absurd (not_delayed c.args.options.now c.args.config.now (reverse c.args.entries.now) c.args.trace.now
        c.in_ok-judge_delayed.field-0 c.in_ok-judge_delayed.ensures.value
        (λ e. let w : Explained ≡ Bad c.in-Bad.field-0 = sym e ∙ c.in-Bad.is in cc) h),
  );
}

pub returns-in-Unlike : goal.returns-in-Unlike
returns-in-Unlike c = record {
  value = (
    λ z. absurd (let w : false ≡ true = z in cc),
    λ h. absurd (not_delayed c.args.options.now c.args.config.now (reverse c.args.entries.now) c.args.trace.now
        c.in_ok-judge_delayed.field-0 c.in_ok-judge_delayed.ensures.value
        (λ e. let w : Explained ≡ Unlike c.in-Unlike.field-0 c.in-Unlike.field-1 = sym e ∙ c.in-Unlike.is in cc) h),
  );
}
