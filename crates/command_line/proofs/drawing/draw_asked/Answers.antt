use Rattle.std.proofs.Common.{ap, refl, sym, ◌∙◌}
use Rattle.std.specs.Prelude.{option_map}
use Rattle.std.specs.Borrow.{Bor}
use Rattle.clap.specs.Words.{Text}
use Rattle.command_line.proofs.drawing.draw_asked.Goals as goal

pub returns-clause-asks : goal.returns-clause-asks
returns-clause-asks c =
    let none = c.if-names_part.ensures.none refl in (
      refl,
      (
        c.if-not-flag_asked.ensures.says,
        record {
          range = rw (none.0, none.1) at c.in_ok-range.ensures.says;
          values = rw none.2 at c.flag_asked-blocks.ensures.says;
          slots = rw none.3 at c.in_ok-area.ensures.says;
          saw = sym c.text_asked-trace.ensures ∙ ap (option_map (λ (t : Bor Text). t.now)) none.4;
          two = rw c.text_asked-trace.ensures at (sym c.if-is_one_input.ensures.value);
          reason = c.flag_asked-why.ensures.says;
          reads = c.in_ok-file.ensures.says;
        },
      ),
    )
