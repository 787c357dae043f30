use Rattle.std.proofs.Common.{◌∙◌, None, ap, option_copied, reverse, sym}
use Rattle.refutation_check.proofs.Units.{told_by_entry}
use Rattle.refutation_check.proofs.told.told_units.Goals as goal

-- src/told.rt:63:1
pub returns-in-None : goal.returns-in-None
returns-in-None c =
    record {
      value = λ k. c.new.ensures.items
          ∙ sym (told_by_entry c.args.config.now (reverse c.args.trace.now) c.args.queue c.args.number None
          (ap option_copied (sym c.in-None.is) ∙ c.entry.ensures.value k));
    }
