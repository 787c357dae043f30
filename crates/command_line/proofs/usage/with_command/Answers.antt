use Rattle.std.proofs.lemmas.Result.{IfOk-weaker}
use Rattle.command_line.proofs.Apps.{below_is}
use Rattle.command_line.proofs.usage.with_command.Goals as goal

pub returns : goal.returns
returns c =
    IfOk-weaker c.subcommand.result _ _
    (λ m h. below_is c.args.below c.args.command c.in_ok-below.field-0 m c.in_ok-below.was c.requires.plain h)
    c.subcommand.ensures
