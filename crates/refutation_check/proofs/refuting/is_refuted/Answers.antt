use Rattle.std.proofs.Common.{subst, ◌≡◌}
use Rattle.std.specs.Prelude.{IfOk}
use Rattle.refutation_check.proofs.FirstLines.{refuted_by_first}
use Rattle.refutation_check.proofs.refuting.is_refuted.Goals as goal

pub returns-in-Some : goal.returns-in-Some
returns-in-Some c =
    record {
      value = subst (λ b. IfOk c.refutes_lines.result (λ refuted. refuted ≡ b))
          (refuted_by_first c.args.options.now c.args.config.now c.args.trace.now c.in-Some.first.now c.lines.result
          c.args.refutation.now c.in-Some.ensures.value c.lines.ensures)
          c.refutes_lines.ensures.value;
    }
