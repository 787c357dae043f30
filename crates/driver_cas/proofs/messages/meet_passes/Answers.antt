use Rattle.driver_cas.proofs.Listening.{saw_nothing}
use Rattle.driver_cas.proofs.messages.meet_passes.Goals as goal

pub returns-in_err-meet-clause-first : goal.returns-in_err-meet-clause-first
returns-in_err-meet-clause-first c =
    let x = c.in_err-meet.ensures in
    saw_nothing c.args.first.now c.meet.new.first x.first.0 x.first.1 x.busy.0

pub returns-in_err-meet-clause-second : goal.returns-in_err-meet-clause-second
returns-in_err-meet-clause-second c =
    let x = c.in_err-meet.ensures in
    saw_nothing c.args.second.now c.meet.new.second x.second.0 x.second.1 x.busy.1

pub returns-clause-first : goal.returns-clause-first
returns-clause-first c =
    let x = c.in_ok-meet.ensures in
    record { same = x.first.0; mine_stay = x.first.1; goes_on = x.met.first }

pub returns-clause-second : goal.returns-clause-second
returns-clause-second c =
    let x = c.in_ok-meet.ensures in
    record { same = x.second.0; mine_stay = x.second.1; goes_on = x.met.second }
