-- A legal history is that of an array that serves one operation at a time.
use Rattle.std.proofs.Common.{◌∷◌, subst}
use Rattle.nvme_model.specs.declared.config.ConfigNumbers.{ConfigNumbers}
use Rattle.nvme_model.specs.declared.entry.Entry.{Entry}
use Rattle.nvme_model.specs.History.{Past}
use Rattle.nvme_model.specs.Legal.{IsLegal}
use Rattle.nvme_model.proofs.Beginnings.{earlier}
use Rattle.nvme_model.proofs.Posted.{posted_by_machine, reaped_is_posted}
use Rattle.nvme_model.proofs.Sequential.{answers_are, contents_are}
use Rattle.nvme_model.specs.OneAtATime.{IsOneAtATime}

-- by the laws of the definitions
pub one_at_a_time : (c : ConfigNumbers) (past : Past) → IsLegal c past → IsOneAtATime c past
one_at_a_time c past h =
    record {
      contents = contents_are c past h;
      replies = answers_are c past h;
      posted = λ later before p e.
          posted_by_machine c before p
          (earlier c later (Entry.Post p ∷ before) (subst (λ (x : Past). IsLegal c x) e h));
      reaped = λ later before r e.
          reaped_is_posted c before r (earlier c later (Entry.Reap r ∷ before) (subst (λ (x : Past). IsLegal c x) e h));
    }
