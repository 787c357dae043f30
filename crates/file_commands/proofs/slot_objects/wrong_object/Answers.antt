use Rattle.std.proofs.Common.{IfOk, List, ap, subst, ℕ, ◌++◌, ◌≡◌, ◌∙◌}
use Rattle.casdisk_texts.specs.Objects.{AnswerFields, fields_of, object_text}
use Rattle.file_commands.specs.Texts.{wrong_text}
use Rattle.file_commands.proofs.slot_objects.wrong_object.Goals as goal

pub returns-in-Ok : goal.returns-in-Ok
returns-in-Ok c =
    let text = wrong_text c.args.place in
    let words = c.as_slice.ensures.value ∙ c.in-Ok.ensures.whole
    ∙ ap (λ (l : List ℕ). l ++ text) c.new-words.ensures.items in
    let said = subst (λ (w : List ℕ).
    IfOk c.object_line.result (λ object. object.items ≡ object_text (fields_of c.at-fields.result) w)) words
    c.object_line.ensures.value in
    record {
      value = subst (λ (f : AnswerFields). IfOk c.object_line.result (λ object. object.items ≡ object_text f text))
          c.at-fields.ensures.value said;
    }
