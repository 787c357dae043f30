use Rattle.std.proofs.Common.{IfOk, List, Some, [], ap, codes, subst, ℕ, ◌-◌, ◌≡◌, ◌∙◌, ◌∷◌}
use Rattle.casdisk_texts.specs.Objects.{AnswerFields, object_text, place_fields, with_rule}
use Rattle.file_commands.specs.SlotObjects.{discipline_name}
use Rattle.file_commands.proofs.slot_objects.wrong_step_object.Goals as goal

pub returns : goal.returns
returns c =
    let lba = c.lba-lba.result in
    let numbers = c.saturating_sub.result ∷ lba ∷ [] in
    let at = place_fields (codes "slots bad") c.args.step.place in
    let name = discipline_name c.args.step.broken in
    let said = c.with_rule-fields.ensures.value
    ∙ ap (λ (f : AnswerFields). with_rule f (Some c.discipline_name.result.now) numbers) c.at.ensures.value
    ∙ ap (λ (r : List ℕ). with_rule at (Some r) numbers) c.discipline_name.ensures.value
    ∙ ap (λ (n : ℕ). with_rule at (Some name) (n ∷ lba ∷ [])) c.saturating_sub.ensures
    ∙ ap (λ (l : ℕ). with_rule at (Some name) ((l - c.args.first) ∷ l ∷ [])) c.lba-lba.ensures.value in
    record {
      value = subst (λ (f : AnswerFields).
          IfOk c.object_line.result (λ object. object.items ≡ object_text f c.args.words.now)) said
          c.object_line.ensures.value;
    }
