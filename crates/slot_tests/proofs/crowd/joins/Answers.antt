use Rattle.slot_tests.proofs.Lists.{all_more}
use Rattle.driver_testing.specs.Claimants.{IsClaimant}
use Rattle.slot_tests.proofs.crowd.joins.Goals as goal

pub returns-in_err-push : goal.returns-in_err-push
returns-in_err-push c = all_more (IsClaimant c.args._system.now c.args._slots.now) _ c.args.all.now.items
    c.push.new.self.items c.args.claimant c.push.ensures.items c.requires.all c.requires.claimant

pub returns : goal.returns
returns c = all_more (IsClaimant c.args._system.now c.args._slots.now) _ c.args.all.now.items c.push.new.self.items
    c.args.claimant c.push.ensures.items c.requires.all c.requires.claimant
