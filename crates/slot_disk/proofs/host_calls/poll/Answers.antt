use Rattle.std.specs.Arc.{arc_value}
use Rattle.std.proofs.Common.{◌∙◌}
use Rattle.slot_host.specs.SlotHosts.{slot_state}
use Rattle.slot_disk.proofs.Calls.{host_by}
use Rattle.slot_disk.proofs.Polls.{polled}
use Rattle.slot_disk.proofs.host_calls.poll.Goals as goal

pub returns-clause-host : goal.returns-clause-host
returns-clause-host c =
    let config = c.args._setting.now.config in
    let slots = c.args._setting.now.slots in
    let n = c.args._number in
    let s = slot_state c.args.host.now in
    let t = slot_state c.poll-told.new.self in
    let law = host_by config slots n s.driver t.driver c.of-old.result.value c.driver-2.result.now
    (c.of-old.ensures ∙ c.driver.ensures) c.driver-2.ensures
    (λ released goes rules host. c.a_host_goes_on.ensures.slot_rules config slots n n n released goes rules host) in
    let p = polled (arc_value c.args._setting.now.engine) config slots n s t c.requires.state law
    c.poll-told.ensures.kept.rules c.requires.kept.call c.poll-told.result c.poll-told.ensures.polls in
    record { kept = c.poll-told.ensures.kept; state = p.state }

pub returns-clause-polled : goal.returns-clause-polled
returns-clause-polled c =
    let config = c.args._setting.now.config in
    let slots = c.args._setting.now.slots in
    let n = c.args._number in
    let s = slot_state c.args.host.now in
    let t = slot_state c.poll-told.new.self in
    let law = host_by config slots n s.driver t.driver c.of-old.result.value c.driver-2.result.now
    (c.of-old.ensures ∙ c.driver.ensures) c.driver-2.ensures
    (λ released goes rules host. c.a_host_goes_on.ensures.slot_rules config slots n n n released goes rules host) in
    let p = polled (arc_value c.args._setting.now.engine) config slots n s t c.requires.state law
    c.poll-told.ensures.kept.rules c.requires.kept.call c.poll-told.result c.poll-told.ensures.polls in
    p.told_of
