use Rattle.nvme_model.proofs.Beginnings.{earlier}
use Rattle.std.proofs.Common.{subst, ◌∷◌, ◌≡◌, true}
use Rattle.nvme_model.specs.History.{Past}
use Rattle.nvme_model.specs.Legal.{IsLegal}
use Rattle.nvme_model.specs.declared.entry.Entry.{Entry}
use Rattle.nvme_model.proofs.Rules.{follows}
use Rattle.host_laws.proofs.Discipline.{area_has}
use Rattle.host_laws.proofs.Elements.{contains_in}
use Rattle.host_laws.proofs.Later.{effect_at}
use Rattle.host_laws.specs.Rules.{takeover_disciplined}
use Rattle.host_laws.specs.Takeovers.{takeovers}
use Rattle.host_laws.proofs.TakeoverDiscipline.{kept_earlier}
use Rattle.host_laws.proofs.Losing.{not_held_differs, taken_gone}
use Rattle.host_laws.proofs.effect_laws.a_late_takeover_differs.Goals as goal

pub returns : goal.returns
returns c = record {
  differs = λ n past w e h i lost. not_held_differs n past w e h (contains_in (takeovers past) w i) lost;
  gone = λ n slots past l name h d a t. taken_gone n slots past l name h d (area_has slots l a) t;
  late = λ n slots past w e h d a i t.
      let at = effect_at past e.ticket 0 e.before e.effect in
      let all = subst (λ (x : Past). IsLegal n x) at.is h in
      let legal = earlier n at.later (Entry.Block at.block ∷ e.before) all in
      let kept = kept_earlier n slots at.later (Entry.Block at.block ∷ e.before)
      (subst (λ (x : Past). takeover_disciplined n slots x ≡ true) at.is d) in
      not_held_differs n past w e h (contains_in (takeovers past) w i)
      (taken_gone n slots e.before w.lba w.dead (follows n e.before (Entry.Block at.block) legal).before kept
      (area_has slots w.lba a) t);
}
