use Rattle.nvme_model.specs.Slots.{swaps}
use Rattle.host_laws.proofs.Discipline.{area_has}
use Rattle.host_laws.proofs.Elements.{contains_in}
use Rattle.host_laws.proofs.Fencing.{untaken}
use Rattle.host_laws.proofs.TakeoverReleases.{untaken_never_differs}
use Rattle.host_laws.proofs.effect_laws.a_release_that_is_not_fenced_never_differs.Goals as goal

pub returns : goal.returns
returns c = λ n slots past q r h d x g u y.
    untaken_never_differs n slots past r h d (contains_in (swaps past) r x.published) x.releases
    (area_has slots r.lba x.inside) (untaken n slots past q r.lba r.name x.inside g u) y
