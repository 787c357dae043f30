use Rattle.std.proofs.Common.{◌≡◌, ℕ, false, true}
use Rattle.nvme_model.specs.History.{Past}
use Rattle.nvme_model.specs.Legal.{IsLegal}
use Rattle.nvme_model.specs.Slots.{Swap, swaps}
use Rattle.nvme_model.specs.declared.array.Range.{Range}
use Rattle.nvme_model.specs.declared.config.ConfigNumbers.{ConfigNumbers}
use Rattle.host_laws.specs.Book.{IsAlwaysApart}
use Rattle.host_laws.specs.Calls.{IsProperPair}
use Rattle.host_laws.specs.Claims.{IsPublishedRelease}
use Rattle.host_laws.proofs.Discipline.{area_has}
use Rattle.host_laws.proofs.Elements.{contains_in}
use Rattle.host_laws.specs.Rules.{is_cut_off, takeover_disciplined}
use Rattle.host_laws.specs.Takeovers.{is_given_on}
use Rattle.host_laws.proofs.Fencing.{untaken}
use Rattle.host_laws.proofs.TakeoverSucceeding.{Released}
use Rattle.host_laws.proofs.effect_laws.a_release_that_is_not_fenced_succeeds.Goals as goal
use Rattle.host_laws.proofs.TakeoverSucceeding.{first_succeeds, second_succeeds}

all_of : (n : ConfigNumbers) (slots : Range) (past : Past) (q : ℕ) (r : Swap) → IsLegal n past
    → takeover_disciplined n slots past ≡ true → IsPublishedRelease slots past r
    → is_given_on n past q r.lba r.name ≡ true → is_cut_off n slots past q ≡ false → IsAlwaysApart n past r.queue
    → (x : IsProperPair past r.queue r.number) → Released n slots past r x.first x.second
all_of n slots past q r h d y g u apart x =
    record {
      legal = h;
      kept = d;
      there = contains_in (swaps past) r y.published;
      releases = y.releases;
      area = area_has slots r.lba y.inside;
      untaken = untaken n slots past q r.lba r.name y.inside g u;
      apart = apart;
      first = x.first_published;
      second = x.second_published;
      first_proper = x.first_proper;
      second_proper = x.second_proper;
    }

pub returns : goal.returns
returns c = record {
  first = λ n slots past q r p h d y g u apart x e.
      first_succeeds n slots past r x.first x.second p (all_of n slots past q r h d y g u apart x) e;
  second = λ n slots past q r p h d y g u apart x e.
      second_succeeds n slots past r x.first x.second p (all_of n slots past q r h d y g u apart x) e;
}
