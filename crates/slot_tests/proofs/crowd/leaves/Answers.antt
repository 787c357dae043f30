use Rattle.std.proofs.Common.{length, rules, ◌<◌}
use Rattle.std.proofs.lemmas.List.Elements.{All-same}
use Rattle.slot_tests.proofs.Lists.{all_but}
use Rattle.driver_testing.specs.Claimants.{IsClaimant}
use Rattle.slot_tests.proofs.crowd.leaves.Goals as goal

pub returns-clause-rest : goal.returns-clause-rest
returns-clause-rest c =
    let less : c.args.place < length c.args.all.now.items = search rules in
    All-same (IsClaimant c.args._system.now c.args._slots.now) c.swap_remove.new.self.items _
    c.swap_remove.ensures.items
    (all_but (IsClaimant c.args._system.now c.args._slots.now) c.args.all.now.items c.args.place c.swap_remove.result
    less c.requires)
