use Rattle.std.proofs.Common.{IfOk, List, Some, ap, codes, subst, ℕ, ◌≡◌, ◌∙◌}
use Rattle.casdisk_texts.specs.Objects.{AnswerFields, object_text, place_fields, with_rule}
use Rattle.casdisk_texts.specs.RuleNames.{rule_name}
use Rattle.casdisk_texts.proofs.answer_objects.step_object.Goals as goal

pub returns : goal.returns
returns c =
    let numbers = c.as_slice.result.now in
    let at = place_fields (codes "bad") c.args.step.place in
    let said = c.with_rule-fields.ensures.value
    ∙ ap (λ (f : AnswerFields). with_rule f (Some c.rule_name.result.now) numbers) c.at.ensures.value
    ∙ ap (λ (r : List ℕ). with_rule at (Some r) numbers) c.rule_name.ensures.value
    ∙ ap (λ (ns : List ℕ). with_rule at (Some (rule_name c.args.step.broken)) ns)
    (c.as_slice.ensures.value ∙ c.in_ok-numbers.ensures.value) in
    record {
      value = subst (λ (f : AnswerFields).
          IfOk c.object_line.result (λ object. object.items ≡ object_text f c.args.words.now)) said
          c.object_line.ensures.value;
    }
