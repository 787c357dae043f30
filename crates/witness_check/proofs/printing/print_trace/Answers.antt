use Rattle.std.proofs.Common.{take}
use mathlib.Core.List.{reverse}
use Rattle.line_text.proofs.Known.{on_err}
use Rattle.witness_check.proofs.Growing.{begun, begun_alone, config_stopped, legal_next, printed_next, printed_stopped}
use Rattle.witness_check.proofs.Growing.{waits_next}
use Rattle.witness_check.proofs.printing.print_trace.Goals as goal

pub returns-in_err-print_config-clause-front : goal.returns-in_err-print_config-clause-front
returns-in_err-print_config-clause-front g c =
    on_err _ (config_stopped c.args.config.now c.args.entries.now _ _ c.in_err-print_config.ensures.front)

pub returns-in_default-clause-front : goal.returns-in_default-clause-front
returns-in_default-clause-front g c =
    begun_alone c.args.config.now c.args.entries.now _ _ c.in_ok-print_config.ensures.whole

pub loop-k-init : goal.loop-k-init
loop-k-init g c = (begun c.args.config.now _ _ c.in_ok-print_config.ensures.whole, c.in-Ok.ensures.ok)

pub returns-in_err-print_next-clause-front : goal.returns-in_err-print_next-clause-front
returns-in_err-print_next-clause-front g c =
    let n = c.args.config.now in let es = c.args.entries.now in let e = c.index-entries-k.result in
    let legal = legal_next n es c.loop-k.k e c.loop-k-test.true c.index-entries-k.is c.requires.legal in
    on_err _ (printed_stopped n es c.loop-k.k e c.loop-k-test.true c.index-entries-k.is _ _ _ c.loop-k.invariant.0
    (c.in_err-print_next.ensures.front (reverse (take c.loop-k.k es)) legal c.loop-k.invariant.1))

pub loop-k-preserved : goal.loop-k-preserved
loop-k-preserved g c =
    let n = c.args.config.now in let es = c.args.entries.now in let e = c.index-entries-k.result in
    let legal = legal_next n es c.loop-k.k e c.loop-k-test.true c.index-entries-k.is c.requires.legal in (
      printed_next n es c.loop-k.k e c.loop-k-test.true c.index-entries-k.is _ _ _ c.loop-k.invariant.0
          (c.in_ok-print_next.ensures.whole (reverse (take c.loop-k.k es)) legal c.loop-k.invariant.1),
      waits_next n es c.loop-k.k e c.loop-k-test.true c.index-entries-k.is _
          (c.in_ok-print_next.ensures.waits (reverse (take c.loop-k.k es)) legal c.loop-k.invariant.1),
    )
