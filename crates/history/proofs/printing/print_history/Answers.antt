use Rattle.std.proofs.Common.{arith}
use Rattle.line_text.proofs.Known.{on_err}
use Rattle.history.specs.Lines.{HasLine, entry_line}
use Rattle.history.proofs.LinesOut.{config_stopped, printed_all, printed_lines, printed_next, printed_none}
use Rattle.history.proofs.LinesOut.{printed_stopped}
use Rattle.history.proofs.printing.print_history.Goals as goal

pub returns-in_err-print_config-clause-front : goal.returns-in_err-print_config-clause-front
returns-in_err-print_config-clause-front g c =
    on_err _ (config_stopped entry_line HasLine c.args.config.now c.args.entries.now _ _
    c.in_err-print_config.ensures.front)

pub loop-k-init : goal.loop-k-init
loop-k-init g c = printed_none entry_line HasLine _ _ _ _ c.in_ok-print_config.ensures.whole

pub returns-in_err-print_entry-clause-front : goal.returns-in_err-print_entry-clause-front
returns-in_err-print_entry-clause-front g c =
    on_err _ (printed_stopped entry_line HasLine c.args.config.now c.args.entries.now c.loop-k.k _ _ _
    c.index-entries-k.result c.loop-k.invariant c.loop-k-test.true c.index-entries-k.is
    c.in_err-print_entry.ensures.front)

pub loop-k-preserved : goal.loop-k-preserved
loop-k-preserved g c =
    printed_next entry_line HasLine c.args.config.now c.args.entries.now c.loop-k.k _ _ _ c.index-entries-k.result
    c.loop-k.invariant c.loop-k-test.true c.index-entries-k.is c.in_ok-print_entry.ensures.line
    c.in_ok-print_entry.ensures.whole

pub returns-clause-whole : goal.returns-clause-whole
returns-clause-whole g c =
    printed_all entry_line HasLine c.args.config.now c.args.entries.now c.loop-k.k _ _
    (omega (arith, c.loop-k-test.false)) c.loop-k.invariant

pub returns-clause-lines : goal.returns-clause-lines
returns-clause-lines g c =
    printed_lines entry_line HasLine c.args.config.now c.args.entries.now c.loop-k.k _ _
    (omega (arith, c.loop-k-test.false)) c.loop-k.invariant
