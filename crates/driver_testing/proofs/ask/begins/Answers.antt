use Rattle.driver_testing.proofs.Calls.{asked_slot_rules, asked_keeps, new_call}
use Rattle.driver_testing.proofs.ask.begins.Goals as goal

pub returns-clause-keeps : goal.returns-clause-keeps
returns-clause-keeps g c =
    let x = c.asked-begun.ensures in
    λ k of. ((asked_keeps c.of-before.result.value c.args.driver.now c.asked-begun.new.driver c.asked-begun.result
    c.of-before.ensures x.same x.later x.asked c.a_start_keeps_the_other_calls.ensures.call).1 k of).0

pub returns-clause-call : goal.returns-clause-call
returns-clause-call g c =
    let x = c.asked-begun.ensures in
    new_call c.args.driver.now c.asked-begun.new.driver c.asked-begun.result
    (asked_keeps c.of-before.result.value c.args.driver.now c.asked-begun.new.driver c.asked-begun.result
    c.of-before.ensures x.same x.later x.asked c.a_start_keeps_the_other_calls.ensures.call)

pub returns-clause-slot_rules : goal.returns-clause-slot_rules
returns-clause-slot_rules g c =
    let x = c.asked-begun.ensures in
    let law = c.other_calls_touch_no_slot.ensures in
    asked_slot_rules c.of-before.result.value c.args.driver.now c.asked-begun.new.driver c.asked-begun.result
    c.of-before.ensures x.same x.later x.asked law.start law.pair
