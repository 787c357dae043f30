use Rattle.std.proofs.Common.{subst, sym, ◌∷◌}
use Rattle.nvme_model.specs.Legal.{IsLegal}
use Rattle.nvme_model.specs.declared.entry.Entry.{Entry}
use Rattle.slot_check.specs.Watched.{IsSlotCheckState, slot_check_state_in}
use Rattle.slot_check.proofs.Cutting.{grant_keeps}
use Rattle.slot_check.proofs.area.take_entry.Goals as goal

pub returns-in-Grant-clause-kept : goal.returns-in-Grant-clause-kept
returns-in-Grant-clause-kept c = λ past h legal e.
    subst (λ (x : Entry). IsLegal c.args.config.now (x ∷ past)
    → IsSlotCheckState c.args.config.now c.args.slots (x ∷ past) (slot_check_state_in c.args.tables.now))
    (sym c.in-Grant.is)
    (grant_keeps c.args.config.now c.args.slots past c.in-Grant.field-0 (slot_check_state_in c.args.tables.now) h)
    legal
