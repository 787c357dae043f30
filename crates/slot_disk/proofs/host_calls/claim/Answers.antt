use Rattle.std.specs.Arc.{arc_value}
use Rattle.std.proofs.Common.{◌∙◌}
use Rattle.slot_host.specs.SlotHosts.{slot_state}
use Rattle.slot_disk.proofs.Calls.{claim_asked, claim_state, host_by}
use Rattle.slot_disk.proofs.host_calls.claim.Goals as goal

pub returns-clause-host : goal.returns-clause-host
returns-clause-host c =
    let config = c.args._setting.now.config in
    let slots = c.args._setting.now.slots in
    let n = c.args._number in
    let s = slot_state c.args.host.now in
    let t = slot_state c.claim-told.new.self in
    let law = host_by config slots n s.driver t.driver c.of-old.result.value c.driver-2.result.now
    (c.of-old.ensures ∙ c.driver.ensures) c.driver-2.ensures
    (λ released goes rules host. c.a_host_goes_on.ensures.slot_rules config slots n n n released goes rules host) in
    record {
      kept = c.claim-told.ensures.kept;
      state = claim_state (arc_value c.args._setting.now.engine) config slots n s t c.args.slot c.claim-told.result
          c.requires.state law c.claim-told.ensures.kept.rules c.claim-told.ensures.tells;
    }

pub returns-clause-asked : goal.returns-clause-asked
returns-clause-asked c =
    claim_asked (slot_state c.args.host.now) (slot_state c.claim-told.new.self) c.args.slot c.claim-told.result
    c.claim-told.ensures.tells
