use Rattle.std.proofs.Common.{arith}
use Rattle.line_text.proofs.Known.{on_err}
use Rattle.script_lines.specs.Texts.{IsScriptLine}
use Rattle.script_lines.specs.Written.{line_text}
use Rattle.history.proofs.LinesOut.{config_stopped, printed_all, printed_lines, printed_next, printed_none}
use Rattle.history.proofs.LinesOut.{printed_stopped}
use Rattle.script_lines.proofs.printing.print_script.Goals as goal

pub returns-in_err-print_config-clause-front : goal.returns-in_err-print_config-clause-front
returns-in_err-print_config-clause-front g c =
    on_err _ (config_stopped line_text IsScriptLine c.args.config.now c.args.lines.now _ _
    c.in_err-print_config.ensures.front)

pub loop-k-init : goal.loop-k-init
loop-k-init g c = printed_none line_text IsScriptLine _ _ _ _ c.in_ok-print_config.ensures.whole

pub returns-in_err-print_line-clause-front : goal.returns-in_err-print_line-clause-front
returns-in_err-print_line-clause-front g c =
    on_err _ (printed_stopped line_text IsScriptLine c.args.config.now c.args.lines.now c.loop-k.k _ _ _
    c.index-lines-k.result c.loop-k.invariant c.loop-k-test.true c.index-lines-k.is
    c.in_err-print_line.ensures.front)

pub loop-k-preserved : goal.loop-k-preserved
loop-k-preserved g c =
    printed_next line_text IsScriptLine c.args.config.now c.args.lines.now c.loop-k.k _ _ _ c.index-lines-k.result
    c.loop-k.invariant
    c.loop-k-test.true c.index-lines-k.is c.in_ok-print_line.ensures.read c.in_ok-print_line.ensures.whole

pub returns-clause-whole : goal.returns-clause-whole
returns-clause-whole g c =
    printed_all line_text IsScriptLine c.args.config.now c.args.lines.now c.loop-k.k _ _
    (omega (arith, c.loop-k-test.false)) c.loop-k.invariant

pub returns-clause-read : goal.returns-clause-read
returns-clause-read g c =
    printed_lines line_text IsScriptLine c.args.config.now c.args.lines.now c.loop-k.k _ _
    (omega (arith, c.loop-k-test.false)) c.loop-k.invariant
