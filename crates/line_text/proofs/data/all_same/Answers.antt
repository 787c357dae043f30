use Rattle.std.proofs.Common.{ap, length, sym, take, ◌∙◌}
use Rattle.std.specs.Str.{bytes_eq}
use Rattle.line_text.specs.Data.{all_same}
use Rattle.line_text.proofs.BlockLaws.{as_before}
use Rattle.line_text.proofs.data.all_same.Goals as goal

pub returns-in-Some : goal.returns-in-Some
returns-in-Some c =
    let e = c.in-Some.ensures.cases.0 in
    c.eq.ensures ∙ ap (λ l. bytes_eq c.in-Some.others.now (take (length c.in-Some.others.now) l)) e
    ∙ as_before c.in-Some.field-0-0.now c.in-Some.others.now ∙ sym (ap all_same e)
