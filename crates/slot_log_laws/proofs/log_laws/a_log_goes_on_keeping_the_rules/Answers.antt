use Rattle.std.proofs.Common.{refl}
use Rattle.slot_log_laws.proofs.SlotRules.{slot_rules_claim, slot_rules_drawn, slot_rules_outside, slot_rules_release}
use Rattle.slot_log_laws.proofs.log_laws.a_log_goes_on_keeping_the_rules.Goals as goal

pub returns : goal.returns
returns c =
    record {
      empty = λ slots host last. refl;
      drawn = slot_rules_drawn;
      got = λ slots host last log cqe payload h. h;
      outside = slot_rules_outside;
      claim = slot_rules_claim;
      release = slot_rules_release;
    }
