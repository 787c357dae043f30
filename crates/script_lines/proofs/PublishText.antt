-- The text of a `publish` line, in three parts.
use Rattle.std.proofs.Common.{◌≡◌, [], ◌∷◌, ◌++◌, ap, ◌∙◌, append_assoc}
use Rattle.std.specs.Prelude.{codes, decimal}
use Rattle.std.specs.List.{join_with_byte}
use Rattle.line_text.specs.Words.{behind}
use Rattle.history.proofs.BatchSpelling.{line_more}
use Rattle.script_lines.specs.Written.{form_words, line_text, line_words, second_words}
use Rattle.script_lines.specs.declared.written.PublishWords.{PublishWords}
use Rattle.script_lines.specs.declared.written.WrittenLine.TheVariants.{Publish}

pub publish_text : (p : PublishWords) → line_text (Publish p)
    ≡ join_with_byte 32 (codes "publish" ∷ decimal p.queue ∷ [])
    ++ (behind 32 (form_words p.first.form p.first.payload) ++ behind 32 (second_words p.second))
unfolding line_text line_words
publish_text p =
    line_more (codes "publish") (decimal p.queue ∷ form_words p.first.form p.first.payload) (second_words p.second)
    ∙ ap (λ l. l ++ behind 32 (second_words p.second))
    (line_more (codes "publish") (decimal p.queue ∷ []) (form_words p.first.form p.first.payload))
    ∙ append_assoc (join_with_byte 32 (codes "publish" ∷ decimal p.queue ∷ []))
    (behind 32 (form_words p.first.form p.first.payload)) (behind 32 (second_words p.second))
