use Rattle.std.proofs.lemmas.Result.{IfOk-weaker}
use Rattle.command_line.proofs.Apps.{below_adds}
use Rattle.command_line.proofs.usage.command.Goals as goal

pub returns : goal.returns
returns c =
    let one = below_adds c.run_command.result _ _ _ _ c.top_command.ensures c.run_command.ensures
    c.in_ok-command.ensures in
    let two = below_adds c.check_command.result _ _ _ _ one c.check_command.ensures c.in_ok-command-2.ensures in
    let three = below_adds c.explain_command.result _ _ _ _ two c.explain_command.ensures c.in_ok-command-3.ensures in
    let four = below_adds c.race_command.result _ _ _ _ three c.race_command.ensures c.in_ok-command-4.ensures in
    let five = below_adds c.certify_command.result _ _ _ _ four c.certify_command.ensures c.in_ok-command-5.ensures in
    let six = below_adds c.refute_command.result _ _ _ _ five c.refute_command.ensures c.in_ok-command-6.ensures in
    let seven = below_adds c.observe_command.result _ _ _ _ six c.observe_command.ensures c.in_ok-command-7.ensures in
    let eight = below_adds c.tell_command.result _ _ _ _ seven c.tell_command.ensures c.in_ok-command-8.ensures in
    let nine = below_adds c.draw_command.result _ _ _ _ eight c.draw_command.ensures c.in_ok-command-9.ensures in
    let ten = below_adds c.random_command.result _ _ _ _ nine c.random_command.ensures c.in_ok-command-10.ensures in
    IfOk-weaker c.with_command-11.result _ _
    (λ m h. below_adds c.shrink_command.result _ _ _ _ ten c.shrink_command.ensures h) c.with_command-11.ensures
