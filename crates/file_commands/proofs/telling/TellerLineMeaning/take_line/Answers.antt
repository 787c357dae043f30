use Rattle.std.proofs.Common.{List, ap, refl, sym, ℕ}
use Rattle.std.specs.Prelude.{option_map, string_bytes}
use Rattle.file_commands.specs.ToldText.{told_as}
use Rattle.file_commands.proofs.telling.TellerLineMeaning.take_line.Goals as goal

pub returns-in-Ok-send_told-clause-taken : goal.returns-in-Ok-send_told-clause-taken
returns-in-Ok-send_told-clause-taken g c k past h =
    let telling = c.args.self.now.telling in
    let text = string_bytes c.in-Some.text in
    let sent = rw c.as_bytes.ensures.value at c.in-Ok-send_told.ensures.whole in
    let said = rw (c.in-Some.is, c.paint_of.ensures.value) at c.in-Ok.ensures.value in (
      (past, told_as telling text),
      ap (option_map (λ (words : List ℕ). (past, told_as telling words))) (sym said),
      tt,
      refl,
      sent,
    )
