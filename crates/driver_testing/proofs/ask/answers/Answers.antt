use Rattle.driver_testing.proofs.Calls.{polls_on}
use Rattle.driver_testing.proofs.ask.answers.Goals as goal

pub returns-in_default : goal.returns-in_default
returns-in_default c =
    polls_on c.args.host.now c.loop.host c.polls-told.new.host c.args.call c.loop.next c.loop.invariant.1
    c.loop.invariant.0 c.polls-told.ensures.polls
