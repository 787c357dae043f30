use Rattle.std.proofs.Common.{ap, ◌∙◌}
use Rattle.casdisk_texts.specs.Objects.{AnswerFields, object_text}
use Rattle.file_commands.proofs.telling.send_object.Goals as goal

pub returns-in-Ok-send-clause-whole : goal.returns-in-Ok-send-clause-whole
returns-in-Ok-send-clause-whole g c =
    let bytes = c.as_slice.ensures.value ∙ c.in-Ok.ensures.value
    ∙ ap (λ (f : AnswerFields). object_text f c.args.text.now) c.plain.ensures.value in
    rw bytes at c.in-Ok-send.ensures.whole

pub returns-clause-front : goal.returns-clause-front
returns-clause-front g c =
    let bytes = c.as_slice.ensures.value ∙ c.in-Ok.ensures.value
    ∙ ap (λ (f : AnswerFields). object_text f c.args.text.now) c.plain.ensures.value in
    rw bytes at c.in-Err.ensures.front
