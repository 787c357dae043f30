-- What was forgotten owns nothing, so it may go to any thread.
use denote.Param.Send.{IsSend, sendable}
use Rattle.history.specs.contracts.gone.Gone.{the_row}

pub send : IsSend the_row
send = record { owned = λ d vs. ((λ vss. (tt, tt)), tt); leaving = λ k f vs. tt }
