use Rattle.std.proofs.Common.{◌≡◌, ◌++◌, [], ap, sym, ◌∙◌}
use Rattle.std.proofs.lemmas.List.{nil_from_length}
use Rattle.std.proofs.lemmas.Bool.{eqb-true}
use Rattle.line_text.specs.Unsent.{unsent}
use Rattle.line_text.proofs.DataWriting.{text_empty, text_of_equal}
use Rattle.line_text.proofs.unsent.Unsent.add_data.Goals as goal

pub returns-then-is_empty : goal.returns-then-is_empty
returns-then-is_empty c = λ added.
    let none : c.args.bytes.now ≡ [] = nil_from_length _ (eqb-true _ _ (sym c.is_empty.ensures ∙ c.if-is_empty.true)) in
    c.add.ensures.added added ∙ ap (λ l. unsent c.args.self.now ++ l) (sym (text_empty 512 c.args.bytes.now none))

pub returns-then-all_same : goal.returns-then-all_same
returns-then-all_same c = λ added.
    let text = text_of_equal c.args.bytes.now c.if-bytes-eq-BLOCK.true (sym c.all_same.ensures ∙ c.if-all_same.true) in
    c.add_hex.ensures.added added ∙ ap (λ l. unsent c.args.self.now ++ l) (sym text)
