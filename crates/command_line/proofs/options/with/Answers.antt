use Rattle.command_line.proofs.Apps.{adds_rule, is_argument_simple}
use Rattle.command_line.proofs.options.with.Goals as goal

pub returns : goal.returns
returns c =
    adds_rule c.arg.result c.args.command c.argument_of.result _ c.argument_of.ensures
    (is_argument_simple c.args.argument c.args.name.now) c.arg.ensures
