use Rattle.slot_disk.proofs.Rounds.{met_now}
use Rattle.slot_disk.proofs.meeting.meets.Goals as goal

pub returns-clause-met : goal.returns-clause-met
returns-clause-met c =
    let e = c.meet_pass-met.ensures in
    met_now c.meet_pass-met.result c.args.host.now c.meet_pass-met.new.self c.args.server.now
    c.meet_pass-met.new.pass e.met e.pass.goes_on.0 e.saw.mine_stay
