use Rattle.std.proofs.Common.{refl}
use Rattle.slot_log_laws.proofs.Claiming.{unreleased}
use Rattle.slot_log_laws.proofs.Staying.{released_claim, released_other, released_outside}
use Rattle.slot_log_laws.proofs.log_laws.a_log_releases_what_it_says.Goals as goal

pub returns : goal.returns
returns c =
    record {
      got = λ log cqe payload l n. refl;
      outside = released_outside;
      claim = released_claim;
      release = released_other;
      fresh = unreleased;
    }
