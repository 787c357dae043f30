use Rattle.std.specs.Arc.{arc_value}
use Rattle.std.proofs.Common.{◌∙◌}
use Rattle.slot_host.specs.SlotHosts.{slot_state}
use Rattle.slot_disk.proofs.Calls.{host_by}
use Rattle.slot_disk.proofs.Polls.{release_asked, release_state}
use Rattle.slot_disk.proofs.host_calls.release.Goals as goal

pub returns-clause-host : goal.returns-clause-host
returns-clause-host c =
    let config = c.args._setting.now.config in
    let slots = c.args._setting.now.slots in
    let n = c.args._number in
    let s = slot_state c.args.host.now in
    let t = slot_state c.release-told.new.self in
    let law = host_by config slots n s.driver t.driver c.of-old.result.value c.driver-2.result.now
    (c.of-old.ensures ∙ c.driver.ensures) c.driver-2.ensures
    (λ released goes rules host. c.a_host_goes_on.ensures.slot_rules config slots n n n released goes rules host) in
    record {
      kept = c.release-told.ensures.kept;
      state = release_state (arc_value c.args._setting.now.engine) config slots n s t c.args.slot
          c.release-told.result c.requires.kept.holds_are c.requires.state law c.release-told.ensures.kept.rules
          c.release-told.ensures.tells;
    }

pub returns-clause-asked : goal.returns-clause-asked
returns-clause-asked c =
    release_asked (slot_state c.args.host.now) (slot_state c.release-told.new.self) c.args.slot
    c.release-told.result c.requires.kept.holds_are c.requires.state.fresh c.release-told.ensures.tells
