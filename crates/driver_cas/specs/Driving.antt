-- What contracts say of whoever has a driver beside calls of it.
use Rattle.std.specs.Prelude.{None, Option, Result, Some, ◌≡◌}
use Rattle.driver_calls.specs.declared.request.CallData.{CallData}
use Rattle.driver_calls.specs.declared.request.Request.{Request}
use Rattle.driver_cas.specs.Drivers.{AsksPort, IsBack, IsCallBack, IsCallOf, IsFreed, IsOneMore, IsSameDriver}
use Rattle.driver_cas.specs.Drivers.{SaysOfPort, SharesNoCid, answer_to, later_told, made, poll_answer}
use Rattle.driver_cas.specs.Requests.{IsStart}
use Rattle.driver_cas.specs.declared.call.Call.{Call}
use Rattle.driver_cas.specs.declared.call.Poll.{Poll}
use Rattle.driver_cas.specs.declared.driver.Driver.{Driver}
use Rattle.driver_cas.specs.declared.fault.Fault.{Fault}
use Rattle.driver_cas.specs.declared.port.Port.{Ghosts}

module _ {P : Type 0} where
  -- the call, where a poll gives it back
  abbrev pub call_given_back : Poll P → Option (Call P)
  call_given_back (Poll.Pending k) = Some k
  call_given_back (Poll.Later f k) = Some k
  call_given_back _ = None

module _ {P : Type 0} {g : Ghosts P} where
  -- a call was asked of the driver, and answered so
  pub record Starts (d e : Driver P g) (asked : Result Request Fault) (contents : CallData)
      (answer : Result (Call P) Fault) : Type 0 where
    pub same : IsSameDriver d e
    pub later : g.follows d.port e.port
    pub is : IsStart d e asked contents answer

  -- the call was polled, and this came of it
  pub record IsCallPolled (d e : Driver P g) (k : Call P) (polled : Poll P) : Type 0 where
    pub same : IsSameDriver d e
    pub later : g.follows d.port e.port
    pub one : IsOneMore (made d) (made e)
    pub answer : poll_answer polled ≡ answer_to e k
    pub back : IsBack k polled
    pub asks : AsksPort d e k (later_told polled)
    pub stays : IsCallBack e polled
    pub others : (other : Call P) → IsCallOf d other → SharesNoCid k other → IsCallOf e other
    pub freed : IsFreed d.cids e.cids k polled
    pub says : SaysOfPort e k (poll_answer polled)
