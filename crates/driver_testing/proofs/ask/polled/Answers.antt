use Rattle.driver_testing.proofs.Calls.{back_of}
use Rattle.driver_testing.proofs.ask.polled.Goals as goal

pub returns-clause-back : goal.returns-clause-back
returns-clause-back g c =
    back_of c.poll-poll.new.self c.args.call _ _ c.poll_in_words.ensures c.poll-poll.ensures.back
    c.poll-poll.ensures.stays
